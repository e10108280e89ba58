use Rattle.std.proofs.Common.{◌∙◌, ◌++◌, ◌∷◌, [], take, inr, sym, ap}
use Rattle.std.proofs.lemmas.Result.{on_ok_weaker}
use Rattle.bg_turns.specs.MoverCounts.{behind}
use Rattle.bg_turns.proofs.Lists.OneDie.{tree-on, tree-end}
use Rattle.bg_turns.proofs.Lists.Growing.{behind-empty}
use Rattle.bg_turns.proofs.listing.leaves.add_last.Goals as goal

pub returns-then-is_off : goal.returns-then-is_off
returns-then-is_off c r is are =
    let off = sym (c.is_off.ensures r is are) ∙ c.if-is_off.true in
    c.in_ok-push.ensures.items
    ∙ ap (λ xs. c.args.turns.now.items ++ xs)
    (ap (λ x. x ∷ []) c.turn_of.ensures ∙ (sym (behind-empty (take c.args.played c.args.front))
    ∙ ap (λ xs. behind (take c.args.played c.args.front) xs) (sym (tree-end c.args.die 1 r (inr off)))))

pub returns : goal.returns
returns c r is are =
    let on = sym (c.is_off.ensures r is are) ∙ c.if-is_off.false in
    on_ok_weaker c.add_leaves.result (λ there. there
    ∙ ap (λ xs. c.args.turns.now.items ++ behind (take c.args.played c.args.front) xs) (sym (tree-on c.args.die 0 r on)))
    (c.add_leaves.ensures r (c.open.ensures r is are))

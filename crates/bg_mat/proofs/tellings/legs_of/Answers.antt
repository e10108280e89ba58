use Rattle.std.proofs.Common.{◌≡◌, ◌+◌, ◌++◌, length-append, [], ◌∷◌, take, sym, ap, ◌∙◌, arith}
use Rattle.std.proofs.lemmas.List.{take_more}
use Rattle.bg_board.specs.FromTo.{FromTo}
use Rattle.bg_mat.specs.declared.movements.legs.Leg.{Leg}
use Rattle.bg_mat.proofs.OfReading.Hits.{leg_more}
use Rattle.bg_mat.proofs.tellings.legs_of.Goals as goal

pub loop-index-preserved : goal.loop-index-preserved
loop-index-preserved c =
    let steps = c.args.steps.now in
    let i = c.loop-index.index in
    let step = c.index-steps-index.result in
    let more : take (i + 1) steps ≡ take i steps ++ step ∷ [] =
    take_more steps i step c.loop-index-test.true ∙ ap (λ (s : FromTo). take i steps ++ s ∷ []) (sym c.index-steps-index.is) in
    record {
      legs = rw (more, c.push.ensures.items)
          (leg_more c.args.board.now c.args.player (take i steps) c.loop-index.legs.items step c.last_hits-hits.result
          c.last_hits-hits.ensures c.loop-index.invariant.legs);
      many = rw c.push.ensures.items (omega (arith, length-append {A = Leg}, c.loop-index.invariant.many));
    }

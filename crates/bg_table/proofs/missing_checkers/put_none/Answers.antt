use Rattle.std.proofs.Common.{ap, ◌∙◌, ◌++◌}
use Rattle.std.specs.Prelude.{codes}
use Rattle.bg_board.specs.Position.{count}
use Rattle.bg_table.specs.MissingCheckers.{further_words, none_words, place_words}
use Rattle.bg_table.proofs.Grown.{four_parts}
use Rattle.bg_table.proofs.missing_checkers.put_none.Goals as goal

pub returns : goal.returns
unfolding none_words
returns c =
    let word = c.further.ensures ∙ ap further_words c.count.ensures.value in
    let put = c.in_ok-put_text-2.ensures ∙ ap (λ xs. c.put_text.new.out.items ++ xs) word in
    four_parts (codes "you have no ") (further_words (count c.args.board.now c.args.player c.args.point)) (codes "checker on ") (place_words c.args.point) _ _ _ _ _
    c.in_ok-put_text.ensures put c.in_ok-put_text-3.ensures c.in_ok-put_place.ensures

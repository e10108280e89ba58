use Rattle.std.proofs.Common.{ap, ◌∙◌, ◌++◌}
use Rattle.std.specs.Prelude.{codes}
use Rattle.bg_board.specs.Position.{opponent}
use Rattle.bg_text.specs.Entries.EntryText.{letter}
use Rattle.bg_table.specs.MissingCheckers.{others_words, place_words, stand_words}
use Rattle.bg_table.proofs.Grown.{four_parts}
use Rattle.bg_table.proofs.missing_checkers.put_others.Goals as goal

pub returns : goal.returns
unfolding others_words
returns c =
    let stand = c.in_ok-put_text.ensures ∙ ap (λ xs. c.put_place.new.out.items ++ xs) c.stand.ensures in
    let named = c.letter.ensures.word ∙ ap letter c.opponent.ensures in
    let name = c.in_ok-put_text-2.ensures ∙ ap (λ xs. c.put_text.new.out.items ++ xs) named in
    four_parts (place_words c.args.point) (stand_words c.args.others) (letter (opponent c.args.player)) (codes ", none of yours") _ _ _ _ _
    c.in_ok-put_place.ensures stand name c.in_ok-put_text-3.ensures

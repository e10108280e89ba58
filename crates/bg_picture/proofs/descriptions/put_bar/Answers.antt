use Rattle.std.proofs.Common.{◌≡◌, ◌++◌, rules}
use Rattle.std.specs.Prelude.{codes}
use Rattle.std.specs.Fmt.{decimal}
use Rattle.bg_board.specs.Position.{count}
use Rattle.bg_picture.specs.Descriptions.{bar_words}
use Rattle.bg_picture.proofs.Parts.{three_parts}
use Rattle.bg_picture.proofs.descriptions.put_bar.Goals as goal

pub returns : goal.returns
unfolding bar_words
returns c =
    let number : c.put_number.new.out.items ≡ c.put_text.new.out.items ++ decimal (count c.args.board.now c.args.player 25) = first_of (search rules, cc) in
    three_parts (codes ": ") (decimal (count c.args.board.now c.args.player 25)) (codes " on the bar, ") _ _ _ _
    c.in_ok-put_text.ensures number c.in_ok-put_text-2.ensures

use Rattle.std.proofs.Common.{◌≡◌, ◌++◌, rules}
use Rattle.std.specs.Prelude.{codes}
use Rattle.std.specs.Fmt.{decimal}
use Rattle.bg_picture.specs.Descriptions.{game_words}
use Rattle.bg_picture.specs.Items.{list_start}
use Rattle.bg_picture.proofs.Parts.{five_parts}
use Rattle.bg_picture.proofs.items.begin_list.Goals as goal

pub returns : goal.returns
unfolding list_start
returns c =
    let number : c.put_number.new.out.items ≡ c.put_text.new.out.items ++ decimal (c.args.number) = first_of (search rules, cc) in
    five_parts (codes "<ol start='") (decimal c.args.number) (codes "' data-game='") (game_words c.args.start.now) (codes "'>\n") _ _ _ _ _ _
    c.in_ok-put_text.ensures number c.in_ok-put_text-2.ensures c.in_ok-put_game.ensures c.in_ok-put_text-3.ensures

use Rattle.std.specs.Prelude.{codes}
use Rattle.bg_board.specs.declared.players.Player.TheVariants.{X, O}
use Rattle.bg_picture.specs.Pages.{shared_shapes}
use Rattle.bg_picture.specs.Shapes.{shapes}
use Rattle.bg_picture.specs.Stacks.{numbers_text}
use Rattle.bg_picture.proofs.Parts.{five_parts}
use Rattle.bg_picture.proofs.page_heads.put_shared_shapes.Goals as goal

pub returns : goal.returns
unfolding shared_shapes
returns c =
    five_parts (codes "<svg class='shapes' aria-hidden='true'><defs>\n") shapes (numbers_text X) (numbers_text O) (codes "</defs></svg>\n")
    _ _ _ _ _ _ c.in_ok-put_text.ensures c.in_ok-put_shapes.ensures c.in_ok-put_numbers.ensures c.in_ok-put_numbers-2.ensures
    c.in_ok-put_text-2.ensures

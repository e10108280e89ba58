use Rattle.std.specs.Prelude.{codes}
use Rattle.bg_picture.specs.Elements.{element_text, place_text}
use Rattle.bg_picture.proofs.Parts.{five_parts}
use Rattle.bg_picture.proofs.elements.put_shape.Goals as goal

pub returns : goal.returns
unfolding element_text
returns c =
    five_parts (codes "<use href='#") c.args.name.now (codes "'") (place_text c.args.x c.args.y) (codes "/>") _ _ _ _ _ _
    c.in_ok-put_text.ensures c.in_ok-put_text-2.ensures c.in_ok-put_text-3.ensures c.in_ok-put_place.ensures c.in_ok-put_text-4.ensures

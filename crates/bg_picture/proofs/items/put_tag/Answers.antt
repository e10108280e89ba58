use Rattle.std.specs.Prelude.{codes}
use Rattle.bg_picture.specs.ItemData.{item_data}
use Rattle.bg_picture.specs.Items.{anchor_text, item_tag}
use Rattle.bg_picture.proofs.Parts.{four_parts}
use Rattle.bg_picture.proofs.items.put_tag.Goals as goal

pub returns : goal.returns
unfolding item_tag
returns c =
    four_parts (codes "<li id='") (anchor_text c.args.anchor) (codes "'") (item_data c.args.shown.now c.args.caption) _ _ _ _ _
    c.in_ok-put_text.ensures c.in_ok-put_anchor.ensures c.in_ok-put_text-2.ensures c.in_ok-put_item_data.ensures

use Rattle.std.specs.Prelude.{codes}
use Rattle.bg_picture.specs.Items.{anchor_text, item_start, item_tag}
use Rattle.bg_picture.proofs.Parts.{four_parts}
use Rattle.bg_picture.proofs.items.begin_item.Goals as goal

pub returns : goal.returns
unfolding item_start
returns c =
    four_parts (item_tag c.args.anchor c.args.shown.now c.args.caption) (codes "><a href='#") (anchor_text c.args.anchor) (codes "'>") _ _ _ _ _
    c.in_ok-put_tag.ensures c.in_ok-put_text.ensures c.in_ok-put_anchor.ensures c.in_ok-put_text-2.ensures

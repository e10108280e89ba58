use Rattle.std.specs.Prelude.{codes}
use Rattle.bg_picture.specs.Indexes.{index_body, index_head, index_start}
use Rattle.bg_picture.specs.Pages.{heading_text}
use Rattle.bg_picture.proofs.Parts.{four_parts}
use Rattle.bg_picture.proofs.indexes.begin_index.Goals as goal

pub returns : goal.returns
unfolding index_start
returns c =
    four_parts (index_head c.args.title.now c.args.seconds) (index_body c.args.seconds) (heading_text c.args.title.now) (codes "<p id='age'></p>\n<div id='matches'>\n") _ _ _ _ _
    c.in_ok-put_head.ensures c.in_ok-put_body.ensures c.in_ok-put_heading.ensures c.in_ok-put_text.ensures

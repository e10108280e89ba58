use Rattle.bg_picture.specs.Indexes.{index_head, index_styles}
use Rattle.bg_picture.specs.PageParts.{head_start}
use Rattle.bg_picture.specs.Pages.{refresh_text, title_text}
use Rattle.bg_picture.proofs.Parts.{four_parts}
use Rattle.bg_picture.proofs.indexes.put_head.Goals as goal

pub returns : goal.returns
unfolding index_head
returns c =
    four_parts head_start (refresh_text c.args.seconds) (title_text c.args.title.now) index_styles _ _ _ _ _
    c.in_ok-put_head_start.ensures c.in_ok-put_refresh.ensures c.in_ok-put_title.ensures c.in_ok-put_styles.ensures

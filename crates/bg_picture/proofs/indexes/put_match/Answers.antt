use Rattle.std.specs.Prelude.{codes}
use Rattle.bg_picture.specs.Indexes.{image_text, link_text, match_item, match_words}
use Rattle.bg_picture.proofs.Parts.{four_parts}
use Rattle.bg_picture.proofs.indexes.put_match.Goals as goal

pub returns : goal.returns
unfolding match_item
returns c =
    four_parts (link_text c.args.shown.file.now) (image_text c.args.shown.file.now c.args.shown.entries) (match_words c.args.shown.title.now c.args.standing.now) (codes "</a></li>\n") _ _ _ _ _
    c.in_ok-put_link.ensures c.in_ok-put_image.ensures c.in_ok-put_match_words.ensures c.in_ok-put_text.ensures

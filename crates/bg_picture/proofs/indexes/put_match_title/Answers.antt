use Rattle.std.specs.Prelude.{codes}
use Rattle.bg_picture.specs.Escapes.{escaped}
use Rattle.bg_picture.specs.Indexes.{match_title}
use Rattle.bg_picture.proofs.Parts.{three_parts}
use Rattle.bg_picture.proofs.indexes.put_match_title.Goals as goal

pub returns : goal.returns
unfolding match_title
returns c =
    three_parts (codes "<b><bdi>") (escaped c.args.title.now) (codes "</bdi></b> ") _ _ _ _
    c.in_ok-put_text.ensures c.in_ok-put_escaped.ensures c.in_ok-put_text-2.ensures

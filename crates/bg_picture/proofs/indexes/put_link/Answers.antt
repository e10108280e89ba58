use Rattle.std.specs.Prelude.{codes}
use Rattle.bg_picture.specs.Escapes.{escaped}
use Rattle.bg_picture.specs.Indexes.{link_text}
use Rattle.bg_picture.proofs.Parts.{three_parts}
use Rattle.bg_picture.proofs.indexes.put_link.Goals as goal

pub returns : goal.returns
unfolding link_text
returns c =
    three_parts (codes "<li><a href='") (escaped c.args.file.now) (codes ".html'>") _ _ _ _
    c.in_ok-put_text.ensures c.in_ok-put_escaped.ensures c.in_ok-put_text-2.ensures

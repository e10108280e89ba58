use Rattle.std.specs.Prelude.{codes}
use Rattle.bg_picture.specs.Indexes.{index_styles}
use Rattle.bg_picture.specs.IndexParts.{index_style}
use Rattle.bg_picture.specs.Shapes.{style}
use Rattle.bg_picture.proofs.Parts.{four_parts}
use Rattle.bg_picture.proofs.indexes.put_styles.Goals as goal

pub returns : goal.returns
unfolding index_styles
returns c =
    four_parts (codes "<style>\n") style index_style (codes "</style>\n</head>\n") _ _ _ _ _
    c.in_ok-put_text.ensures c.in_ok-put_style.ensures c.in_ok-put_index_style.ensures c.in_ok-put_text-2.ensures

use Rattle.std.specs.Prelude.{codes}
use Rattle.bg_picture.specs.Indexes.{index_end}
use Rattle.bg_picture.specs.IndexParts.{index_script}
use Rattle.bg_picture.specs.PageParts.{live_script}
use Rattle.bg_picture.proofs.Parts.{four_parts}
use Rattle.bg_picture.proofs.indexes.end_index.Goals as goal

pub returns : goal.returns
unfolding index_end
returns c =
    four_parts (codes "</div>\n<script>\n") index_script live_script (codes "</script>\n</body>\n</html>\n") _ _ _ _ _
    c.in_ok-put_text.ensures c.in_ok-put_index_script.ensures c.in_ok-put_live_script.ensures c.in_ok-put_text-2.ensures

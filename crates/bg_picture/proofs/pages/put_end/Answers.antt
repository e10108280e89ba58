use Rattle.std.specs.Prelude.{codes}
use Rattle.bg_picture.specs.Pages.{end_text, page_end, scripts}
use Rattle.bg_picture.proofs.Parts.{four_parts}
use Rattle.bg_picture.proofs.pages.put_end.Goals as goal

pub returns : goal.returns
unfolding page_end
returns c =
    four_parts (end_text c.args.numbering c.args.standing.now) (codes "<script>\n") scripts (codes "</script>\n</body>\n</html>\n") _ _ _ _ _
    c.in_ok-put_last_standing.ensures c.in_ok-put_text.ensures c.in_ok-put_scripts.ensures c.in_ok-put_text-2.ensures

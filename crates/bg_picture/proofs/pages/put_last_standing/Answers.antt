use Rattle.std.proofs.Common.{◌≡◌, ◌++◌}
use Rattle.std.specs.Prelude.{codes}
use Rattle.bg_picture.specs.Numberings.{reader_of}
use Rattle.bg_picture.specs.Pages.{end_text, inner_picture, summary_text}
use Rattle.bg_picture.proofs.Parts.{four_parts}
use Rattle.bg_picture.proofs.pages.put_last_standing.Goals as goal

pub returns : goal.returns
unfolding end_text
returns c =
    let s = c.args.standing.now in
    let picture : c.put_picture.new.out.items ≡ c.put_text.new.out.items ++ inner_picture s (reader_of c.args.numbering s.phase) =
    rw (c.reader.ensures, c.phase.ensures) at c.in_ok-put_picture.ensures in
    four_parts (codes "</ol>\n</div>\n</main>\n<div id='end'>\n") (inner_picture s (reader_of c.args.numbering s.phase)) (summary_text s)
    (codes "</div>\n") _ _ _ _ _ c.in_ok-put_text.ensures picture c.in_ok-put_summary.ensures c.in_ok-put_text-2.ensures

use Rattle.std.proofs.Common.{◌≡◌, ◌++◌}
use Rattle.std.specs.Prelude.{codes}
use Rattle.bg_picture.specs.Pages.{body_text, live_part, numbering_word}
use Rattle.bg_picture.proofs.Parts.{five_parts}
use Rattle.bg_picture.proofs.page_heads.put_body.Goals as goal

pub returns : goal.returns
unfolding body_text
returns c =
    let word : c.put_text-2.new.out.items ≡ c.put_text.new.out.items ++ numbering_word c.args.numbering =
    rw c.word_of.ensures at c.in_ok-put_text-2.ensures in
    five_parts (codes "<body data-numbering='") (numbering_word c.args.numbering) (codes "'") (live_part c.args.seconds) (codes ">\n") _ _ _ _ _ _
    c.in_ok-put_text.ensures word c.in_ok-put_text-3.ensures c.in_ok-put_live_part.ensures c.in_ok-put_text-4.ensures

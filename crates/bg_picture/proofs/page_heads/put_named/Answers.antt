use Rattle.std.proofs.Common.{◌≡◌, ◌++◌}
use Rattle.std.specs.Prelude.{codes}
use Rattle.bg_text.specs.Entries.EntryText.{letter}
use Rattle.bg_picture.specs.Escapes.{escaped}
use Rattle.bg_picture.specs.Pages.{named_text}
use Rattle.bg_picture.proofs.Parts.{five_parts}
use Rattle.bg_picture.proofs.page_heads.put_named.Goals as goal

pub returns : goal.returns
unfolding named_text
returns c =
    let word : c.put_text-2.new.out.items ≡ c.put_text.new.out.items ++ letter c.args.player =
    rw c.letter.ensures.word at c.in_ok-put_text-2.ensures in
    five_parts (codes "<p class='name'>") (letter c.args.player) (codes ": <bdi>") (escaped c.args.name.now) (codes "</bdi></p>\n") _ _ _ _ _ _
    c.in_ok-put_text.ensures word c.in_ok-put_text-3.ensures c.in_ok-put_escaped.ensures c.in_ok-put_text-4.ensures

use Rattle.std.proofs.Common.{◌≡◌, ◌++◌, rules}
use Rattle.std.specs.Prelude.{codes}
use Rattle.std.specs.Fmt.{decimal}
use Rattle.bg_picture.specs.Escapes.{escaped}
use Rattle.bg_picture.specs.Indexes.{image_text}
use Rattle.bg_picture.proofs.Parts.{five_parts}
use Rattle.bg_picture.proofs.indexes.put_image.Goals as goal

pub returns : goal.returns
unfolding image_text
returns c =
    let number : c.put_number.new.out.items ≡ c.put_text-2.new.out.items ++ decimal (c.args.entries) = first_of (search rules, cc) in
    five_parts (codes "<img src='") (escaped c.args.file.now) (codes ".svg?") (decimal c.args.entries) (codes "' alt=''>\n") _ _ _ _ _ _
    c.in_ok-put_text.ensures c.in_ok-put_escaped.ensures c.in_ok-put_text-2.ensures number c.in_ok-put_text-3.ensures

use Rattle.std.proofs.Common.{◌≡◌, ◌++◌, rules}
use Rattle.std.specs.Prelude.{codes}
use Rattle.std.specs.Fmt.{decimal}
use Rattle.bg_picture.specs.Pages.{seconds_part}
use Rattle.bg_picture.proofs.Parts.{three_parts}
use Rattle.bg_picture.proofs.page_heads.put_seconds.Goals as goal

pub returns : goal.returns
unfolding seconds_part
returns c =
    let number : c.put_number.new.out.items ≡ c.put_text.new.out.items ++ decimal (c.args.seconds) = first_of (search rules, cc) in
    three_parts (codes " data-seconds='") (decimal c.args.seconds) (codes "'") _ _ _ _ c.in_ok-put_text.ensures number c.in_ok-put_text-2.ensures

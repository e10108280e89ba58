use Rattle.std.specs.Prelude.{codes}
use Rattle.std.specs.Fmt.{decimal}
use Rattle.bg_table.specs.Headings.{doubled_words}
use Rattle.bg_table.proofs.Grown.{two_parts}
use Rattle.bg_table.proofs.headings.put_doubled.Goals as goal

pub returns : goal.returns
unfolding doubled_words
returns c = two_parts (codes ", doubled to ") (decimal c.args.value) _ _ _ c.in_ok-put_text.ensures c.in_ok-put_number.ensures

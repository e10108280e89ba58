use Rattle.std.proofs.Common.{rules}
use Rattle.bg_c.proofs.checks.bg_check.Goals as goal

pub returns-clause-checked : goal.returns-clause-checked
returns-clause-checked c utf8 kept =
    (c.in-Ok-check_text.text.items, c.in-Ok-check_text.found, c.put.result, rw (c.in-Ok.ensures.cases.0, c.columns_numbered.ensures) at c.in-Ok-check_text.ensures, search rules, search rules, c.code-2.ensures)

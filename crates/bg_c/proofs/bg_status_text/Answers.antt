use Rattle.std.proofs.Common.{◌≡◌, sym, ◌∙◌}
use Rattle.bg_c.proofs.StatusCodes.{same_status}
use Rattle.bg_c.proofs.bg_status_text.Goals as goal

-- the number is that of one status alone
pub returns-clause-text : goal.returns-clause-text
returns-clause-text c = λ of is.
    let same : of ≡ c.in-Some.status = same_status of c.in-Some.status (sym is ∙ c.in-Some.ensures.some) in
    (c.put.result, c.code-2.ensures, rw (same, ← c.text.ensures, ← c.as_bytes.ensures.value) c.put.ensures)

use Rattle.std.proofs.Common.{◌≡◌, Err, codes, rules, refl, ◌∙◌}
use Rattle.bg_text.proofs.Spelling.EntryLines.{dice_line, open_fault, no_entry_shape}
use Rattle.bg_text.proofs.entries.lines.read_entry.Goals as goal

pub returns-in_err-x : goal.returns-in_err-x
returns-in_err-x c =
    let same : c.from_residual.result ≡ Err c.in_err-x.field-0.0 = search rules in
    rw same (rw c.in-Some.ensures (open_fault _ _ c.in_err-x.ensures))

pub returns-in-Some : goal.returns-in-Some
returns-in-Some c = ((λ none. tt, λ own. refl), tt, c.in-Some.ensures ∙ dice_line (codes "open ") c.in-Some.numbers.now c.in_ok-x.x c.in_ok-x.o c.in_ok-x.ensures)

pub returns-in-None : goal.returns-in-None
returns-in-None c = no_entry_shape _ c.in_default.ensures (λ pass. let wrong = c.is_pass.ensures.1 pass in let right = c.if-is_pass.false in cc) c.in-None.ensures

use Rattle.bg_mat.proofs.OfReading.HeadingLemmas.{crawford_off, no_crawford_name, no_crawford_off}
use Rattle.bg_mat.proofs.rows.crawford.says_no_crawford.Goals as goal

pub returns-in_default : goal.returns-in_default
returns-in_default c = (
  λ t. absurd (cc (t)),
  λ h. absurd (no_crawford_name c.args.line.now c.skip_semicolon.result.now c.skip_semicolon.ensures
      (rw c.in_default.is at c.skip_either.ensures) h),
)

pub returns-in-Some-skip_word : goal.returns-in-Some-skip_word
returns-in-Some-skip_word c =
    crawford_off c.args.line.now c.skip_semicolon.result.now c.in-Some.after.now c.in-Some-skip_word.rest.now c.is_blank_text.result
    c.skip_semicolon.ensures c.in-Some.ensures c.in-Some-skip_word.ensures c.is_blank_text.ensures

pub returns-in-None : goal.returns-in-None
returns-in-None c = (
  λ t. absurd (cc (t)),
  λ h. absurd (no_crawford_off c.args.line.now c.skip_semicolon.result.now c.in-Some.after.now c.skip_semicolon.ensures
      c.in-Some.ensures c.in-None.ensures h),
)

use Rattle.std.proofs.Common.{◌≡◌, ◌∙◌, ℕ, List, ◌++◌, Some, ap, arith, subst, sym}
use Rattle.std.proofs.lemmas.Str.Pattern.{split_parts}
use Rattle.bg_system.specs.Names.{IsName}
use Rattle.bg_system.specs.NameLines.{name_line}
use Rattle.bg_system.proofs.NameTexts.{line_joined, no_end, other_name, this_name}
use Rattle.bg_system.proofs.ReadNumbers.{taken_off}
use Rattle.bg_system.proofs.files.name_lines.split_name.Goals as goal

pub returns-in_err-said-clause-all : goal.returns-in_err-said-clause-all
returns-in_err-said-clause-all c = λ name rest fine lacks is.
    let off = taken_off c.args.word.now c.args.text.now c.in-Some.behind.now c.in-Some.ensures.cases in
    absurd (no_end c.args.word.now c.args.text.now c.in-Some.behind.now off c.in_err-said.ensures.cases name rest fine lacks is)

pub returns-in-Ok-clause-only : goal.returns-in-Ok-clause-only
returns-in-Ok-clause-only c =
    let off = taken_off c.args.word.now c.args.text.now c.in-Some.behind.now c.in-Some.ensures.cases in
    let split = split_parts 10 c.in-Some.behind.now (Some (c.in_ok-said.said, c.in_ok-said.rest)) c.in_ok-said.ensures.cases (omega arith) in
    let text = line_joined c.args.word.now c.args.text.now c.in-Some.behind.now (c.in_ok-said.said, c.in_ok-said.rest) off split.0 in (
      subst IsName (sym c.in-Ok.ensures.1) c.in-Ok.ensures.0,
      subst (λ (n : List ℕ). c.args.text.now ≡ name_line c.args.word.now (Some n) ++ c.in_ok-said.rest.now) (sym c.in-Ok.ensures.1) text,
    )

pub returns-in-Ok-clause-all : goal.returns-in-Ok-clause-all
returns-in-Ok-clause-all c = λ name rest fine lacks is.
    let off = taken_off c.args.word.now c.args.text.now c.in-Some.behind.now c.in-Some.ensures.cases in
    let this = this_name c.args.word.now c.args.text.now c.in-Some.behind.now (c.in_ok-said.said, c.in_ok-said.rest) off
    c.in_ok-said.ensures.cases name rest fine lacks is in
    (ap Some c.in-Ok.ensures.1 ∙ this.0, this.1)

pub returns-in-Err-clause-all : goal.returns-in-Err-clause-all
returns-in-Err-clause-all c = λ name rest fine lacks is.
    let off = taken_off c.args.word.now c.args.text.now c.in-Some.behind.now c.in-Some.ensures.cases in
    other_name c.args.word.now c.args.text.now c.in-Some.behind.now (c.in_ok-said.said, c.in_ok-said.rest) c.in-Err.field-0 off
    c.in_ok-said.ensures.cases c.in-Err.ensures name rest fine lacks is

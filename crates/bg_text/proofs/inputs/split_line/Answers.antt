use Rattle.std.proofs.Common.{◌≡◌, ◌≢◌, ℕ, ◌+◌, ◌-◌, ◌<◌, length, get_or, take, drop, refl, arith, length-drop, add-one}
use Rattle.std.proofs.lemmas.Bool.Decides.{nat_tests}
use Rattle.std.proofs.lemmas.List.{take_all}
use Rattle.bg_text.proofs.Judged.InputLines.{lines_of-first, lines_of-last}
use Rattle.bg_text.proofs.inputs.split_line.Goals as goal

pub returns-in-Some-clause-lines : goal.returns-in-Some-clause-lines
returns-in-Some-clause-lines c =
    let first = c.in-Some.ensures in
    let here : get_or c.args.input.now c.in-Some.end 0 ≡ 10 = grind (arith, nat_tests, first.1) in
    let before : (k : ℕ) → k < c.in-Some.end → get_or c.args.input.now k 0 ≢ 10 = λ k below same. first.0.before k (omega arith) below (rw same refl) in
    let rest : take (length c.args.input.now - (c.in-Some.end + 1)) (drop (c.in-Some.end + 1) c.args.input.now) ≡ drop (c.in-Some.end + 1) c.args.input.now =
    take_all _ _ (simp length-drop (omega arith)) in
    rw (rest, add-one) (lines_of-first c.args.input.now c.in-Some.end first.0.high before here)

pub returns-in-None-clause-lines : goal.returns-in-None-clause-lines
returns-in-None-clause-lines c =
    let none = c.in-None.ensures in
    let some : 0 < length c.args.input.now = grind (arith, nat_tests, c.if-is_empty.ensures) in
    lines_of-last c.args.input.now some (λ k below same. none k (omega arith) below (rw same refl))

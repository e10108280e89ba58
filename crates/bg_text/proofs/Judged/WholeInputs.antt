-- What is judged of known bytes.
use Rattle.std.proofs.Common.{◌≡◌, ℕ, ◌+◌, ◌≤◌, List, length, take, Option, Some, None, IfSome, ◌∙◌, ap, subst, arith, length-take, inl, inr}
use Rattle.std.proofs.lemmas.List.{take_all}
use Rattle.bg_streams.specs.Transfers.{IsReadOf}
use Rattle.bg_text.specs.Judge.Judging.{IsJudgement, IsAnswerTo, lines_of}
use Rattle.bg_text.specs.Limits.{most_bytes}
use Rattle.bg_text.specs.declared.judging.verdicts.Verdict.{Verdict}

-- the judgement of what is read is that of the bytes
pub judged_whole : (bytes input text : List ℕ) (verdict : Verdict) → IsReadOf most_bytes input bytes → IsJudgement input text verdict → IsJudgement bytes text verdict
judged_whole bytes input text verdict read judged =
    let long : length input ≡ length (take (most_bytes + 1) bytes) = ap length read in
    let front = length-take (most_bytes + 1) bytes in
    elim judged [
      | inl too_long ↦ inl (omega (arith, too_long.0, long, front), too_long.1)
      | inr answer ↦
          let few : length bytes ≤ most_bytes = omega (arith, answer.0, long, front) in
          let same : input ≡ bytes = read ∙ take_all (most_bytes + 1) bytes (omega (arith, few)) in
          inr (few, subst (λ (input : List ℕ). IsAnswerTo (lines_of input) text verdict) same answer.1)
    ]

pub judged_known : (u : Option (List ℕ)) (input text : List ℕ) (verdict : Verdict) → IfSome u (IsReadOf most_bytes input) → IsJudgement input text verdict → IfSome u (λ bytes. IsJudgement bytes text verdict)
judged_known None input text verdict read judged = tt
judged_known (Some bytes) input text verdict read judged = judged_whole bytes input text verdict read judged

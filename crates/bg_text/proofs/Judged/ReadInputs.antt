-- What is said of an input that gives no record.
use Rattle.std.proofs.Common.{◌≡◌, ℕ, List, [], ◌∷◌, ◌++◌, refl, sym, ap, subst, inl, inr}
use Rattle.bg_match.specs.Terms.{Terms}
use Rattle.bg_text.specs.Boards.BoardText.{board_text, line_text}
use Rattle.bg_text.specs.Boards.Transcript.{length_line}
use Rattle.bg_text.specs.Judge.Judging.{lines_of, refused_line, IsLengthFault, IsAnswerTo, IsJudged}
use Rattle.bg_text.specs.Judge.Transcripts.{IsRefusedBehind, TranscriptFaultsAreJudged}
use Rattle.bg_text.specs.declared.faults.LineFault.{LineFault}
use Rattle.bg_text.specs.declared.judging.verdicts.Verdict.{Verdict}
use Rattle.bg_text.specs.declared.judging.verdicts.Verdict.TheVariants.{Refused}

-- line 1 is refused
refused_at_once : (lines : List (List ℕ)) (why : LineFault) (text : List ℕ) (verdict : Verdict) → IsLengthFault why lines
    → text ≡ line_text (refused_line 1 why) → verdict ≡ Refused 1 → IsAnswerTo lines text verdict
refused_at_once [] why text verdict fault printed first = record { why = why; fault = fault; printed = printed; first = first }
refused_at_once (line ∷ lines) why text verdict fault printed first = inl (record { why = why; fault = fault; printed = printed; first = first })

-- what is wrong with a transcript is what the judge says of it
judged_behind : (terms : Terms) (lines : List (List ℕ)) (number : ℕ) (why : LineFault) (at : IsRefusedBehind terms lines number why)
    → IsJudged terms lines (board_text at.state ++ line_text (refused_line number why)) (Refused number)
judged_behind terms lines number why at = record {
  count = at.count;
  state = at.state;
  longest = at.longest;
  line = refused_line number why;
  named = (at.more, at.number_is, (why, at.fault, refl));
  printed = refl;
}

pub faults_are_judged : TranscriptFaultsAreJudged
faults_are_judged input number why (short, inl (fault, first)) =
    let text = line_text (refused_line number why) in
    let printed : text ≡ line_text (refused_line 1 why) = ap (λ (n : ℕ). line_text (refused_line n why)) first in
    ([], inl refl, inr (short, refused_at_once (lines_of input) why text (Refused number) fault printed (ap Refused first)))
faults_are_judged input number why (short, inr (terms, behind, points, split, at)) =
    let text = board_text at.state ++ line_text (refused_line number why) in
    let answer : IsAnswerTo (length_line terms ∷ behind) text (Refused number) = inr (terms, points, refl, judged_behind terms behind number why at) in
    (board_text at.state, inr (at.state, refl), inr (short, subst (λ (ls : List (List ℕ)). IsAnswerTo ls text (Refused number)) (sym split) answer))

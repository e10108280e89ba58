-- An input has one judgement.
use Rattle.std.proofs.Common.{◌≡◌, ◌⊎◌, ℕ, ◌<◌, ◌≤◌, List, [], ◌∷◌, ◌++◌, take, map, slice_index_or, Option, Some, refl, sym, ◌∙◌, ap, subst, arith, inl, inr}
use Rattle.std.specs.List.{AllByRecursion}
use Rattle.bg_match.specs.Terms.{Terms, match_length}
use Rattle.bg_board.specs.FromTo.{FromTo}
use Rattle.bg_board.specs.declared.players.Player.{Player}
use Rattle.bg_turns.specs.Turn.{IsDownward}
use Rattle.bg_match.specs.Follows.{IsEntryFault}
use Rattle.bg_match.specs.State.{State, start_of}
use Rattle.bg_match.specs.declared.entries.Entry.{Entry}
use Rattle.bg_match.specs.declared.entries.Entry.TheVariants as entry
use Rattle.bg_match.specs.declared.entries.EntryFault.{EntryFault}
use Rattle.bg_match.specs.declared.entries.EntryFault.TheVariants.{RecordFull, MatchOver, WrongPhase, EqualOpening, Turn, NoDouble, Memory}
use Rattle.bg_match.specs.Limits.{most_entries, IsMatchLength}
use Rattle.bg_text.specs.Boards.BoardText.{board_text, line_text}
use Rattle.bg_text.specs.Entries.EntryText.{letter, step_text, entry_words, IsSeatOf}
use Rattle.bg_text.specs.Entries.EntryShape.{IsPairShape, IsEntryShape, IsEntryTextFault}
use Rattle.bg_text.specs.Boards.Transcript.{length_line}
use Rattle.bg_text.specs.Judge.Judging.{lines_of, refused_line, IsWrongSeat, IsRefusal, IsLineFault, IsLengthFault, IsLongestPart, IsVerdict, IsJudged, IsRefusedAtOnce, IsAnswerTo, JudgementsAgree}
use Rattle.bg_text.specs.declared.faults.LineFault.{LineFault}
use Rattle.bg_text.specs.declared.faults.LineFault.TheVariants as fault
use Rattle.bg_text.specs.declared.faults.TextFault.{TextFault}
use Rattle.bg_text.specs.declared.faults.TextFault.TheVariants.{NotALine, BadNumber, TooManySteps}
use Rattle.bg_text.specs.declared.judging.verdicts.Verdict.{Verdict}
use Rattle.bg_text.specs.declared.judging.verdicts.Verdict.TheVariants.{Fine, Refused, TooLong}
use Rattle.bg_text.proofs.Spelling.EntryLines.{no_entry_fault}
use Rattle.bg_text.proofs.Spelling.EntryTexts.{same_line, downward_entry, words_of_line}
use Rattle.bg_text.proofs.Judged.LengthLines.{no_length_fault, one_length}
use Rattle.bg_text.proofs.Spelling.PairTexts.{step_shape}
use Rattle.bg_text.proofs.Judged.ReadLines.{AreLinesOf-same}
use Rattle.bg_match.proofs.OneFault.{one_entry_fault}

module _ (s : State) (e : Entry) where
  -- a refusal is that of a full record, or the entry's
  refusal_parts : (why : EntryFault) (n : ℕ) → IsRefusal why n s e → ((why ≡ RecordFull) × (most_entries ≤ n)) ⊎ ((n < most_entries) × IsEntryFault why s e)
  refusal_parts RecordFull n h = inl (refl, h)
  refusal_parts MatchOver n h = inr h
  refusal_parts WrongPhase n h = inr h
  refusal_parts EqualOpening n h = inr h
  refusal_parts (Turn why) n h = inr h
  refusal_parts (NoDouble why) n h = inr h
  refusal_parts Memory n h = inr h

  one_refusal : (why other : EntryFault) (n : ℕ) → IsRefusal why n s e → IsRefusal other n s e → why ≡ other
  one_refusal why other n h k = of (refusal_parts why n h) (refusal_parts other n k)
    where
      of : ((why ≡ RecordFull) × (most_entries ≤ n)) ⊎ ((n < most_entries) × IsEntryFault why s e) → ((other ≡ RecordFull) × (most_entries ≤ n)) ⊎ ((n < most_entries) × IsEntryFault other s e) → why ≡ other
      of (inl full) (inl also) = full.0 ∙ sym also.0
      of (inl full) (inr room) = absurd (omega (arith, full.1, room.0))
      of (inr room) (inl full) = absurd (omega (arith, full.1, room.0))
      of (inr one) (inr other') = one_entry_fault s e why other one.1 other'.1

-- a line has one fault of its text
pairs_shape : (steps : List FromTo) → AllByRecursion IsDownward steps → AllByRecursion IsPairShape (map step_text steps)
pairs_shape [] h = tt
pairs_shape (step ∷ steps) h = (step_shape step h.0, pairs_shape steps h.1)

moved_shape : (player : Player) (steps : List FromTo) → AllByRecursion IsDownward steps → IsEntryShape (letter player ∷ entry_words (entry.Moved steps))
moved_shape player steps h =
    inr (player, entry_words (entry.Moved steps), refl, inr (inl (record { pairs = map step_text steps; spelled = refl; each = pairs_shape steps h })))

long_move : (line : List ℕ) → IsEntryTextFault TooManySteps line → IsEntryTextFault NotALine line → ⊥
long_move line (player, steps, written, down, many) shapeless =
    shapeless (rw (written, words_of_line (Some player) (entry.Moved steps) down) (moved_shape player steps down))

seat_moves : (player : Player) (steps : List FromTo) → IsSeatOf (Some player) (entry.Moved steps)
seat_moves player steps = (λ none. absurd cc, λ own. absurd own)

one_text_fault : (line : List ℕ) (why other : TextFault) → IsEntryTextFault why line → IsEntryTextFault other line → why ≡ other
one_text_fault line NotALine NotALine h k = refl
one_text_fault line NotALine BadNumber h k = absurd (h k.0)
one_text_fault line NotALine TooManySteps h k = absurd (long_move line k h)
one_text_fault line BadNumber NotALine h k = absurd (k h.0)
one_text_fault line BadNumber BadNumber h k = refl
one_text_fault line BadNumber TooManySteps h k = absurd (h.1 (Some k.0) (entry.Moved k.1) (seat_moves k.0 k.1) k.3 k.2)
one_text_fault line TooManySteps NotALine h k = absurd (long_move line h k)
one_text_fault line TooManySteps BadNumber h k = absurd (k.1 (Some h.0) (entry.Moved h.1) (seat_moves h.0 h.1) h.3 h.2)
one_text_fault line TooManySteps TooManySteps h k = refl

-- a line has one fault
one_line_fault : (n : ℕ) (s : State) (line : List ℕ) (why other : LineFault) → IsLineFault why n s line → IsLineFault other n s line → why ≡ other
one_line_fault n s line fault.NotALengthLine other h k = absurd h
one_line_fault n s line fault.LengthOutOfRange other h k = absurd h
one_line_fault n s line (fault.Text why) fault.NotALengthLine h k = absurd k
one_line_fault n s line (fault.Text why) fault.LengthOutOfRange h k = absurd k
one_line_fault n s line (fault.Text why) (fault.Text other) h k = ap fault.Text (one_text_fault line why other h k)
one_line_fault n s line (fault.Text why) fault.WrongPlayer h k = absurd (no_entry_fault line why k.0 k.1 h k.2 k.3 k.4)
one_line_fault n s line (fault.Text why) (fault.Entry other) h k = absurd (no_entry_fault line why k.0 k.1 h k.2 k.3 k.4)
one_line_fault n s line fault.WrongPlayer fault.NotALengthLine h k = absurd k
one_line_fault n s line fault.WrongPlayer fault.LengthOutOfRange h k = absurd k
one_line_fault n s line fault.WrongPlayer (fault.Text other) h k = absurd (no_entry_fault line other h.0 h.1 k h.2 h.3 h.4)
one_line_fault n s line fault.WrongPlayer fault.WrongPlayer h k = refl
one_line_fault n s line fault.WrongPlayer (fault.Entry other) h k =
    let same = same_line h.0 k.0 h.1 k.1 (downward_entry h.1 h.3) (downward_entry k.1 k.3) (sym h.4 ∙ k.4) in
    absurd (k.5 (subst (λ (seat : Option Player). IsWrongSeat seat s) same.0 h.5))
one_line_fault n s line (fault.Entry why) fault.NotALengthLine h k = absurd k
one_line_fault n s line (fault.Entry why) fault.LengthOutOfRange h k = absurd k
one_line_fault n s line (fault.Entry why) (fault.Text other) h k = absurd (no_entry_fault line other h.0 h.1 k h.2 h.3 h.4)
one_line_fault n s line (fault.Entry why) fault.WrongPlayer h k =
    let same = same_line k.0 h.0 k.1 h.1 (downward_entry k.1 k.3) (downward_entry h.1 h.3) (sym k.4 ∙ h.4) in
    absurd (h.5 (subst (λ (seat : Option Player). IsWrongSeat seat s) same.0 k.5))
one_line_fault n s line (fault.Entry why) (fault.Entry other) h k =
    let same = same_line h.0 k.0 h.1 k.1 (downward_entry h.1 h.3) (downward_entry k.1 k.3) (sym h.4 ∙ k.4) in
    ap fault.Entry (one_refusal s k.1 why other n (subst (λ (e : Entry). IsRefusal why n s e) same.1 h.6) k.6)

-- line 1 has one fault
one_length_fault : (lines : List (List ℕ)) (why other : LineFault) → IsLengthFault why lines → IsLengthFault other lines → why ≡ other
one_length_fault lines fault.NotALengthLine fault.NotALengthLine h k = refl
one_length_fault [] fault.NotALengthLine fault.LengthOutOfRange h k = absurd k
one_length_fault (line ∷ lines) fault.NotALengthLine fault.LengthOutOfRange h k = absurd (h k.0 k.1 k.2 k.3.0)
one_length_fault lines fault.NotALengthLine (fault.Text other) h k = absurd k
one_length_fault lines fault.NotALengthLine fault.WrongPlayer h k = absurd k
one_length_fault lines fault.NotALengthLine (fault.Entry other) h k = absurd k
one_length_fault [] fault.LengthOutOfRange other h k = absurd h
one_length_fault (line ∷ lines) fault.LengthOutOfRange fault.NotALengthLine h k = absurd (k h.0 h.1 h.2 h.3.0)
one_length_fault (line ∷ lines) fault.LengthOutOfRange fault.LengthOutOfRange h k = refl
one_length_fault (line ∷ lines) fault.LengthOutOfRange (fault.Text other) h k = absurd k
one_length_fault (line ∷ lines) fault.LengthOutOfRange fault.WrongPlayer h k = absurd k
one_length_fault (line ∷ lines) fault.LengthOutOfRange (fault.Entry other) h k = absurd k
one_length_fault lines (fault.Text why) other h k = absurd h
one_length_fault lines fault.WrongPlayer other h k = absurd h
one_length_fault lines (fault.Entry why) other h k = absurd h

-- the longest part is one, and stands at one state
module _ (terms : Terms) (lines : List (List ℕ)) where
  one_count : (m n : ℕ) (s t : State) → IsLongestPart terms lines m s → IsLongestPart terms lines n t → m ≡ n
  one_count m n s t h k =
      let up = k.longest m s h.stands in
      let down = h.longest n t k.stands in
      omega (arith, up, down)

  one_state : (n : ℕ) (s t : State) → IsLongestPart terms lines n s → IsLongestPart terms lines n t → s ≡ t
  one_state n s t h k = AreLinesOf-same (start_of terms) h.stands.2.0 k.stands.2.0 (take n lines) s t h.stands.2.1 k.stands.2.1

  one_verdict : (n : ℕ) (s : State) (line other : List ℕ) (verdict another : Verdict) → IsVerdict verdict line lines n s → IsVerdict another other lines n s → (line ≡ other) × (verdict ≡ another)
  one_verdict n s line other (Fine a) (Fine b) h k = (h.2 ∙ sym k.2, ap Fine (h.1 ∙ sym k.1))
  one_verdict n s line other (Fine a) (Refused b) h k = absurd (omega (arith, h.0, k.0))
  one_verdict n s line other (Fine a) TooLong h k = absurd k
  one_verdict n s line other (Refused a) (Fine b) h k = absurd (omega (arith, h.0, k.0))
  one_verdict n s line other (Refused a) (Refused b) h k =
      let number : a ≡ b = h.1 ∙ sym k.1 in
      let why = one_line_fault n s (slice_index_or lines n []) h.2.0 k.2.0 h.2.1 k.2.1 in
      (h.2.2 ∙ (ap (refused_line a) why ∙ (ap (λ (m : ℕ). refused_line m k.2.0) number ∙ sym k.2.2)), ap Refused number)
  one_verdict n s line other (Refused a) TooLong h k = absurd k
  one_verdict n s line other TooLong another h k = absurd h

  one_judged : (text other : List ℕ) (verdict another : Verdict) → IsJudged terms lines text verdict → IsJudged terms lines other another → (text ≡ other) × (verdict ≡ another)
  one_judged text other verdict another h k =
      let count = one_count h.count k.count h.state k.state h.longest k.longest in
      let part : IsLongestPart terms lines k.count h.state = subst (λ (n : ℕ). IsLongestPart terms lines n h.state) count h.longest in
      let state = one_state k.count h.state k.state part k.longest in
      let named : IsVerdict verdict h.line lines k.count k.state = rw (count, state) at h.named in
      let same = one_verdict k.count k.state h.line k.line verdict another named k.named in
      (h.printed ∙ (ap (λ s. board_text s ++ line_text h.line) state ∙ (ap (λ line. board_text k.state ++ line_text line) same.0 ∙ sym k.printed)), same.1)

refused_once : (lines : List (List ℕ)) (text other : List ℕ) (verdict another : Verdict) → IsRefusedAtOnce lines text verdict → IsRefusedAtOnce lines other another → (text ≡ other) × (verdict ≡ another)
refused_once lines text other verdict another h k =
    let why = one_length_fault lines h.why k.why h.fault k.fault in
    (h.printed ∙ (ap (λ w. line_text (refused_line 1 w)) why ∙ sym k.printed), h.first ∙ sym k.first)

-- no input is refused at line 1 and judged as well
not_both : (line : List ℕ) (lines : List (List ℕ)) (terms : Terms) (why : LineFault) → IsMatchLength (match_length terms) → line ≡ length_line terms → IsLengthFault why (line ∷ lines) → ⊥
not_both line lines terms why range is h = no_length_fault terms lines why range (subst (λ (l : List ℕ). IsLengthFault why (l ∷ lines)) is h)

one_answer : (lines : List (List ℕ)) (text other : List ℕ) (verdict another : Verdict) → IsAnswerTo lines text verdict → IsAnswerTo lines other another → (text ≡ other) × (verdict ≡ another)
one_answer [] text other verdict another h k = refused_once [] text other verdict another h k
one_answer (line ∷ lines) text other verdict another (inl h) (inl k) = refused_once (line ∷ lines) text other verdict another h k
one_answer (line ∷ lines) text other verdict another (inl h) (inr k) = absurd (not_both line lines k.0 h.why k.1 k.2 h.fault)
one_answer (line ∷ lines) text other verdict another (inr h) (inl k) = absurd (not_both line lines h.0 k.why h.1 h.2 k.fault)
one_answer (line ∷ lines) text other verdict another (inr h) (inr k) =
    let same = one_length h.0 k.0 h.1 k.1 (sym h.2 ∙ k.2) in
    one_judged k.0 lines text other verdict another (subst (λ (terms : Terms). IsJudged terms lines text verdict) same h.3) k.3

pub one_judgement : JudgementsAgree
one_judgement input text other verdict another (inl h) (inl k) = (h.1.printed ∙ sym k.1.printed, h.1.too_long ∙ sym k.1.too_long)
one_judgement input text other verdict another (inl h) (inr k) = absurd (omega (arith, h.0, k.0))
one_judgement input text other verdict another (inr h) (inl k) = absurd (omega (arith, h.0, k.0))
one_judgement input text other verdict another (inr h) (inr k) = one_answer (lines_of input) text other verdict another h.1 k.1

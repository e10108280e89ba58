-- Outcomes read back from their lines: a line is told from the others by its words, as the
-- definition has them.
use Rattle.std.proofs.Common.{◌≡◌, ℕ, ◌+◌, ◌-◌, List, [], ◌∷◌, ◌++◌, Option, Some, None, Ok, Err, refl, ◌∙◌, ap, arith}
use Rattle.std.specs.Prelude.{if◌then◌else◌, IfSome, map}
use Rattle.std.specs.Fmt.{decimal}
use Rattle.std.specs.Str.Parse.{digits_value}
use Rattle.std.proofs.lemmas.List.{append-nil, append_assoc}
use Rattle.bg_match.specs.declared.limits.Rules.TheVariants as rules
use Rattle.bg_turns.specs.declared.faults.TurnFault.TheVariants as turn_fault
use Rattle.bg_match.specs.declared.entries.EntryFault.{EntryFault}
use Rattle.bg_match.specs.declared.entries.EntryFault.TheVariants as entry_fault
use Rattle.bg_match.specs.declared.entries.NoDouble.TheVariants as no_double
use Rattle.bg_wire.specs.declared.faults.WireFault.{WireFault}
use Rattle.bg_wire.specs.declared.faults.WireFault.TheVariants as wire_fault
use Rattle.bg_wire.specs.declared.packets.Packet.{Packet}
use Rattle.bg_wire.specs.declared.packets.Packet.TheVariants as packet
use Rattle.bg_referee.specs.declared.outcomes.DueFault.TheVariants as due_fault
use Rattle.bg_referee.specs.declared.outcomes.TakeOutcome.TheVariants as take
use Rattle.bg_party.specs.declared.outcomes.ChooseFault.TheVariants as choose_fault
use Rattle.bg_party.specs.declared.outcomes.Learned.TheVariants as learn
use Rattle.bg_world.specs.Texts.OutcomeText.{HasNumbers, HasReasonNumber, FitsIn64Bits, answer_text, entries_told, outcome_text, told_part}
use Rattle.bg_protocol.specs.declared.events.Outcome.{Outcome}
use Rattle.bg_protocol.specs.declared.events.Outcome.TheVariants as outcome
use Rattle.bg_protocol.specs.declared.events.RestoreCause.TheVariants as cause
use Rattle.bg_world.proofs.Lines.LineParts.{digits, digits_behind, digits_of_number, number, number_read, same, words, words_behind, words_of_number}

-- ---- a sample of each line, where numbers are 0

abbrev reasons : List EntryFault
reasons =
    entry_fault.RecordFull ∷ entry_fault.MatchOver ∷ entry_fault.WrongPhase ∷ entry_fault.EqualOpening
    ∷ entry_fault.Turn (turn_fault.StepIllegal 0) ∷ entry_fault.Turn turn_fault.MoreCanBePlayed
    ∷ entry_fault.Turn turn_fault.LargerMustBePlayed ∷ entry_fault.NoDouble no_double.Crawford
    ∷ entry_fault.NoDouble no_double.NotOwner ∷ entry_fault.NoDouble no_double.AtCap ∷ entry_fault.Memory ∷ []

abbrev packet_faults : List WireFault
packet_faults =
    wire_fault.Short ∷ wire_fault.Magic ∷ wire_fault.Version ∷ wire_fault.Kind ∷ wire_fault.Field 0
    ∷ wire_fault.Extra ∷ []

abbrev no_entries : Packet
no_entries = packet.Want 0 rules.One 0 0

abbrev some_entries : Packet
some_entries = packet.Entries 0 rules.One 0 []

abbrev samples : List Outcome
samples =
    outcome.Due (Ok 0) ∷ outcome.Due (Err due_fault.NothingDue) ∷ outcome.Due (Err due_fault.WordRefused)
    ∷ outcome.Due (Err due_fault.EqualOpening) ∷ outcome.Due (Err due_fault.RecordFull)
    ∷ outcome.Took (take.Answer 0 no_entries) ∷ outcome.Took (take.Answer 0 some_entries) ∷ outcome.Took take.Ahead
    ∷ outcome.Took take.NotYourTurn ∷ outcome.Took take.WordRefused ∷ outcome.Took (take.Accepted 0)
    ∷ outcome.Learned learn.OtherMatch ∷ outcome.Learned learn.Nothing ∷ outcome.Learned (learn.Conflict 0)
    ∷ outcome.Learned learn.Gap ∷ outcome.Learned (learn.Illegal 0) ∷ outcome.Learned (learn.Grew 0)
    ∷ outcome.Chose (Ok 0) ∷ outcome.Chose (Err choose_fault.NotYourTurn)
    ∷ outcome.Chose (Err choose_fault.AlreadyClaimed) ∷ outcome.Saved 0 ∷ outcome.SavesSpent ∷ outcome.Sent 0
    ∷ outcome.Restarted ∷ outcome.NoDatagram ∷ outcome.Down ∷ outcome.NoSuchParty ∷ outcome.LinkFault
    ∷ outcome.SaveFault ∷ outcome.RestoreFault cause.Device ∷ outcome.RestoreFault cause.Damaged
    ∷ outcome.RestoreFault cause.WrongMatch ∷ outcome.Memory
    ∷ (map outcome.NotAPacket packet_faults
    ++ (map (λ (why : EntryFault). outcome.Took (take.Illegal why)) reasons
    ++ map (λ (why : EntryFault). outcome.Chose (Err (choose_fault.Illegal why))) reasons))

-- the samples, where nothing is computed before `known_is` opens them
pub known : List Outcome
known = samples

known_is : known ≡ samples
unfolding known
known_is = refl

-- ---- the numbers of a sample leave no words

pub zero_words : words (decimal 0) ≡ []
zero_words = words_of_number 0 (omega arith)

pub one_words : words (decimal 1) ≡ []
one_words = words_of_number 1 (omega arith)

pub behind_zero : (rest : List ℕ) → words (decimal 0 ++ rest) ≡ words rest
behind_zero = words_behind 0 (omega arith)

pub behind_one : (rest : List ℕ) → words (decimal 1 ++ rest) ≡ words rest
behind_one = words_behind 1 (omega arith)

pub zero_first : (a b : List ℕ) → decimal 0 ++ a ++ b ≡ decimal 0 ++ (a ++ b)
zero_first = append_assoc (decimal 0)

pub ruleset no_words = (zero_first, behind_zero, behind_one, zero_words, one_words)

-- a line is looked up among the samples
ruleset looked_up = (known_is, no_words)

-- ---- the outcome of a line

-- the first of these outcomes whose line has such words
abbrev found : List ℕ → List Outcome → Outcome
found line [] = outcome.Memory
found line (o ∷ others) = if same line (words (outcome_text o)) then o else found line others

-- a reason with this number; a line counts steps from 1
abbrev reason_with : EntryFault → ℕ → EntryFault
reason_with (entry_fault.Turn (turn_fault.StepIllegal played)) n = entry_fault.Turn (turn_fault.StepIllegal (n - 1))
reason_with why n = why

-- an outcome with this number in place of its own, if it has one
abbrev with_number : Outcome → ℕ → Outcome
with_number (outcome.Due (Ok m)) n = outcome.Due (Ok n)
with_number (outcome.Took (take.Accepted m)) n = outcome.Took (take.Accepted n)
with_number (outcome.Took (take.Illegal why)) n = outcome.Took (take.Illegal (reason_with why n))
with_number (outcome.Learned (learn.Conflict m)) n = outcome.Learned (learn.Conflict n)
with_number (outcome.Learned (learn.Illegal m)) n = outcome.Learned (learn.Illegal n)
with_number (outcome.Learned (learn.Grew m)) n = outcome.Learned (learn.Grew n)
with_number (outcome.Chose (Ok m)) n = outcome.Chose (Ok n)
with_number (outcome.Chose (Err (choose_fault.Illegal why))) n =
    outcome.Chose (Err (choose_fault.Illegal (reason_with why n)))
with_number (outcome.Saved m) n = outcome.Saved n
with_number (outcome.Sent m) n = outcome.Sent n
with_number (outcome.NotAPacket (wire_fault.Field m)) n = outcome.NotAPacket (wire_fault.Field n)
with_number o n = o

-- the outcome that stands for all that have its line
abbrev pub plain : Outcome → Outcome
plain (outcome.Due (Err due_fault.Memory)) = outcome.Memory
plain (outcome.Took take.OtherMatch) = outcome.Learned learn.OtherMatch
plain (outcome.Took take.Nothing) = outcome.Learned learn.Nothing
plain (outcome.Took (take.Answer to p)) = outcome.Took (take.Answer 0 no_entries)
plain (outcome.Took take.Memory) = outcome.Memory
plain (outcome.Learned learn.Memory) = outcome.Memory
plain o = o

abbrev read_parts : List ℕ → ℕ → Outcome
read_parts line n = plain (with_number (found line known) n)

abbrev pub read : List ℕ → Outcome
read text = read_parts (words text) (number text)

-- a line is read by the words of its sample, and by the digits of its number
by_sample : (text : List ℕ) (o : Outcome) (n : ℕ) → FitsIn64Bits n → words text ≡ words (outcome_text o)
    → digits text ≡ decimal n → read text ≡ read_parts (words (outcome_text o)) n
by_sample text o n low e f =
    ap (λ (line : List ℕ). read_parts line (number text)) e
    ∙ ap (read_parts (words (outcome_text o))) (ap (digits_value 10) f ∙ number_read n low)

-- ---- answers

abbrev pub HasRange : Option (ℕ × ℕ) → Type 0
HasRange told = IfSome told (λ range. FitsIn64Bits range.0 × FitsIn64Bits range.1)

-- with 0 in place of the numbers
abbrev pub least : Option (ℕ × ℕ) → Option (ℕ × ℕ)
least None = None
least (Some range) = Some (0, 0)

pub told_words : (told : Option (ℕ × ℕ)) → HasRange told → words (told_part told) ≡ words (told_part (least told))
told_words None h = refl
told_words (Some range) h =
    simp (append_assoc (decimal range.0), words_behind range.0 h.0, words_of_number range.1 h.1, no_words)

answer_read : (to : ℕ) (told : Option (ℕ × ℕ)) → FitsIn64Bits to → HasRange told
    → read (answer_text to told) ≡ outcome.Took (take.Answer 0 no_entries)
answer_read to told low h =
    ap (λ (line : List ℕ). read_parts line (number (answer_text to told))) answer_words ∙ of_sample told
  where
    answer_words : words (answer_text to told) ≡ words (answer_text 0 (least told))
    answer_words = simp (words_behind to low, told_words told h, no_words)

    of_sample : (t : Option (ℕ × ℕ))
        → read_parts (words (answer_text 0 (least t))) (number (answer_text to told))
        ≡ outcome.Took (take.Answer 0 no_entries)
    of_sample None = simp looked_up
    of_sample (Some range) = simp looked_up

-- ---- outcomes

-- lines that name a step
abbrev took_step : ℕ → Outcome
took_step n = outcome.Took (take.Illegal (entry_fault.Turn (turn_fault.StepIllegal n)))

abbrev claim_step : ℕ → Outcome
claim_step n = outcome.Chose (Err (choose_fault.Illegal (entry_fault.Turn (turn_fault.StepIllegal n))))

took_step_read : (n : ℕ) → read_parts (words (outcome_text (took_step 0))) n ≡ took_step (n - 1)
took_step_read n = simp looked_up

claim_step_read : (n : ℕ) → read_parts (words (outcome_text (claim_step 0))) n ≡ claim_step (n - 1)
claim_step_read n = simp looked_up

took_illegal : (why : EntryFault) → HasReasonNumber why
    → read (outcome_text (outcome.Took (take.Illegal why))) ≡ outcome.Took (take.Illegal why)
took_illegal entry_fault.RecordFull h = simp looked_up
took_illegal entry_fault.MatchOver h = simp looked_up
took_illegal entry_fault.WrongPhase h = simp looked_up
took_illegal entry_fault.EqualOpening h = simp looked_up
took_illegal (entry_fault.Turn (turn_fault.StepIllegal played)) h =
    let back : played + 1 - 1 ≡ played = omega arith in
    by_sample (outcome_text (took_step played)) (took_step 0) (played + 1) h
    (simp (words_behind (played + 1) h, no_words))
    (rw (digits_behind (played + 1) h) (append-nil (decimal (played + 1))))
    ∙ (took_step_read (played + 1) ∙ ap took_step back)
took_illegal (entry_fault.Turn turn_fault.MoreCanBePlayed) h = simp looked_up
took_illegal (entry_fault.Turn turn_fault.LargerMustBePlayed) h = simp looked_up
took_illegal (entry_fault.NoDouble no_double.Crawford) h = simp looked_up
took_illegal (entry_fault.NoDouble no_double.NotOwner) h = simp looked_up
took_illegal (entry_fault.NoDouble no_double.AtCap) h = simp looked_up
took_illegal entry_fault.Memory h = simp looked_up

claim_illegal : (why : EntryFault) → HasReasonNumber why
    → read (outcome_text (outcome.Chose (Err (choose_fault.Illegal why))))
    ≡ outcome.Chose (Err (choose_fault.Illegal why))
claim_illegal entry_fault.RecordFull h = simp looked_up
claim_illegal entry_fault.MatchOver h = simp looked_up
claim_illegal entry_fault.WrongPhase h = simp looked_up
claim_illegal entry_fault.EqualOpening h = simp looked_up
claim_illegal (entry_fault.Turn (turn_fault.StepIllegal played)) h =
    let back : played + 1 - 1 ≡ played = omega arith in
    by_sample (outcome_text (claim_step played)) (claim_step 0) (played + 1) h
    (simp (words_behind (played + 1) h, no_words))
    (rw (digits_behind (played + 1) h) (append-nil (decimal (played + 1))))
    ∙ (claim_step_read (played + 1) ∙ ap claim_step back)
claim_illegal (entry_fault.Turn turn_fault.MoreCanBePlayed) h = simp looked_up
claim_illegal (entry_fault.Turn turn_fault.LargerMustBePlayed) h = simp looked_up
claim_illegal (entry_fault.NoDouble no_double.Crawford) h = simp looked_up
claim_illegal (entry_fault.NoDouble no_double.NotOwner) h = simp looked_up
claim_illegal (entry_fault.NoDouble no_double.AtCap) h = simp looked_up
claim_illegal entry_fault.Memory h = simp looked_up

-- the line of an outcome with a number at its end
numbered : (of : ℕ → Outcome) (n : ℕ) → FitsIn64Bits n → words (outcome_text (of n)) ≡ words (outcome_text (of 0))
    → digits (outcome_text (of n)) ≡ decimal n → read_parts (words (outcome_text (of 0))) n ≡ of n
    → read (outcome_text (of n)) ≡ of n
numbered of n low e f is = by_sample (outcome_text (of n)) (of 0) n low e f ∙ is

pub outcome_read : (o : Outcome) → HasNumbers o → read (outcome_text o) ≡ plain o
outcome_read (outcome.Due (Ok n)) h =
    numbered (λ (m : ℕ). outcome.Due (Ok m)) n h (simp (words_of_number n h, no_words))
    (digits_of_number n h) (simp looked_up)
outcome_read (outcome.Due (Err due_fault.NothingDue)) h = simp looked_up
outcome_read (outcome.Due (Err due_fault.WordRefused)) h = simp looked_up
outcome_read (outcome.Due (Err due_fault.EqualOpening)) h = simp looked_up
outcome_read (outcome.Due (Err due_fault.RecordFull)) h = simp looked_up
outcome_read (outcome.Due (Err due_fault.Memory)) h = simp looked_up
outcome_read (outcome.Took take.OtherMatch) h = simp looked_up
outcome_read (outcome.Took take.Nothing) h = simp looked_up
outcome_read (outcome.Took (take.Answer to p)) h = answer_read to (entries_told p) h.0 h.1
outcome_read (outcome.Took take.Ahead) h = simp looked_up
outcome_read (outcome.Took take.NotYourTurn) h = simp looked_up
outcome_read (outcome.Took take.WordRefused) h = simp looked_up
outcome_read (outcome.Took take.Memory) h = simp looked_up
outcome_read (outcome.Took (take.Illegal why)) h = took_illegal why h
outcome_read (outcome.Took (take.Accepted n)) h =
    numbered (λ (m : ℕ). outcome.Took (take.Accepted m)) n h (simp (words_of_number n h, no_words))
    (digits_of_number n h) (simp looked_up)
outcome_read (outcome.Learned learn.OtherMatch) h = simp looked_up
outcome_read (outcome.Learned learn.Nothing) h = simp looked_up
outcome_read (outcome.Learned learn.Gap) h = simp looked_up
outcome_read (outcome.Learned learn.Memory) h = simp looked_up
outcome_read (outcome.Learned (learn.Conflict n)) h =
    numbered (λ (m : ℕ). outcome.Learned (learn.Conflict m)) n h (simp (words_of_number n h, no_words))
    (digits_of_number n h) (simp looked_up)
outcome_read (outcome.Learned (learn.Illegal n)) h =
    numbered (λ (m : ℕ). outcome.Learned (learn.Illegal m)) n h (simp (words_of_number n h, no_words))
    (digits_of_number n h) (simp looked_up)
outcome_read (outcome.Learned (learn.Grew n)) h =
    numbered (λ (m : ℕ). outcome.Learned (learn.Grew m)) n h (simp (words_of_number n h, no_words))
    (digits_of_number n h) (simp looked_up)
outcome_read (outcome.Chose (Ok n)) h =
    numbered (λ (m : ℕ). outcome.Chose (Ok m)) n h (simp (words_of_number n h, no_words))
    (digits_of_number n h) (simp looked_up)
outcome_read (outcome.Chose (Err choose_fault.NotYourTurn)) h = simp looked_up
outcome_read (outcome.Chose (Err choose_fault.AlreadyClaimed)) h = simp looked_up
outcome_read (outcome.Chose (Err (choose_fault.Illegal why))) h = claim_illegal why h
outcome_read (outcome.Saved n) h =
    numbered outcome.Saved n h (simp (words_of_number n h, no_words))
    (digits_of_number n h) (simp looked_up)
outcome_read (outcome.Sent n) h =
    numbered outcome.Sent n h (simp (words_of_number n h, no_words))
    (digits_of_number n h) (simp looked_up)
outcome_read (outcome.NotAPacket wire_fault.Short) h = simp looked_up
outcome_read (outcome.NotAPacket wire_fault.Magic) h = simp looked_up
outcome_read (outcome.NotAPacket wire_fault.Version) h = simp looked_up
outcome_read (outcome.NotAPacket wire_fault.Kind) h = simp looked_up
outcome_read (outcome.NotAPacket (wire_fault.Field at)) h =
    numbered (λ (m : ℕ). outcome.NotAPacket (wire_fault.Field m)) at h (simp (words_of_number at h, no_words))
    (digits_of_number at h) (simp looked_up)
outcome_read (outcome.NotAPacket wire_fault.Extra) h = simp looked_up
outcome_read (outcome.RestoreFault cause.Device) h = simp looked_up
outcome_read (outcome.RestoreFault cause.Damaged) h = simp looked_up
outcome_read (outcome.RestoreFault cause.WrongMatch) h = simp looked_up
outcome_read outcome.SavesSpent h = simp looked_up
outcome_read outcome.Restarted h = simp looked_up
outcome_read outcome.NoDatagram h = simp looked_up
outcome_read outcome.Down h = simp looked_up
outcome_read outcome.NoSuchParty h = simp looked_up
outcome_read outcome.LinkFault h = simp looked_up
outcome_read outcome.SaveFault h = simp looked_up
outcome_read outcome.Memory h = simp looked_up

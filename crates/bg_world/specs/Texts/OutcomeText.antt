-- The line of an outcome, and which outcomes have one line.
use Rattle.std.specs.Prelude.{◌≡◌, ◌⊎◌, ◌↔◌, ℕ, ◌+◌, ◌-◌, ◌<◌, ◌^◌, List, ◌++◌, length, Option, Some, None, Result, Ok, Err, IfOk, IfSome, IsTrue, codes}
use Rattle.std.specs.Fmt.{decimal}
use Rattle.bg_turns.specs.declared.faults.TurnFault.TheVariants as turn_fault
use Rattle.bg_match.specs.declared.entries.EntryFault.{EntryFault}
use Rattle.bg_match.specs.declared.entries.EntryFault.TheVariants as entry_fault
use Rattle.bg_text.specs.Judge.Reason.{reason}
use Rattle.bg_wire.specs.FaultWords.{wire_fault_words}
use Rattle.bg_wire.specs.declared.faults.WireFault.{WireFault}
use Rattle.bg_wire.specs.declared.faults.WireFault.TheVariants as wire_fault
use Rattle.bg_wire.specs.declared.packets.Packet.{Packet}
use Rattle.bg_wire.specs.declared.packets.Packet.TheVariants as packet
use Rattle.bg_referee.specs.declared.outcomes.DueFault.{DueFault}
use Rattle.bg_referee.specs.declared.outcomes.DueFault.TheVariants as due_fault
use Rattle.bg_referee.specs.declared.outcomes.TakeOutcome.{TakeOutcome}
use Rattle.bg_referee.specs.declared.outcomes.TakeOutcome.TheVariants as take
use Rattle.bg_party.specs.declared.outcomes.ChooseFault.{ChooseFault}
use Rattle.bg_party.specs.declared.outcomes.ChooseFault.TheVariants as choose_fault
use Rattle.bg_party.specs.declared.outcomes.Learned.{Learned}
use Rattle.bg_party.specs.declared.outcomes.Learned.TheVariants as learn
use Rattle.bg_protocol.specs.Worlds.WorldRuns.{is_memory}
use Rattle.bg_protocol.specs.declared.events.Outcome.{Outcome}
use Rattle.bg_protocol.specs.declared.events.Outcome.TheVariants as outcome
use Rattle.bg_protocol.specs.declared.events.RestoreCause.{RestoreCause}
use Rattle.bg_protocol.specs.declared.events.RestoreCause.TheVariants as cause

-- ---- the line

abbrev pub due_text : Result ℕ DueFault → List ℕ
due_text (Ok n) = codes "entry " ++ decimal n
due_text (Err due_fault.NothingDue) = codes "due refused: nothing due"
due_text (Err due_fault.WordRefused) = codes "due refused: word refused"
due_text (Err due_fault.EqualOpening) = codes "due refused: equal opening"
due_text (Err due_fault.RecordFull) = codes "due refused: record full"
due_text (Err due_fault.Memory) = codes "out of memory"

-- the numbers of the first and of the last entry that a packet tells; the referee answers with such
-- packets alone
abbrev pub entries_told : Packet → Option (ℕ × ℕ)
entries_told (packet.Entries id rules start list) = Some (start, start + length list - 1)
entries_told _ = None

abbrev pub told_part : Option (ℕ × ℕ) → List ℕ
told_part (Some range) = codes ": entries " ++ decimal range.0 ++ codes " to " ++ decimal range.1
told_part None = codes ": no entries"

abbrev pub answer_text : ℕ → Option (ℕ × ℕ) → List ℕ
answer_text to told = codes "answer to " ++ decimal to ++ told_part told

abbrev pub took_text : TakeOutcome → List ℕ
took_text take.OtherMatch = codes "other match"
took_text take.Nothing = codes "nothing"
took_text (take.Answer to p) = answer_text to (entries_told p)
took_text take.Ahead = codes "ahead"
took_text take.NotYourTurn = codes "not your turn"
took_text take.WordRefused = codes "word refused"
took_text (take.Illegal why) = codes "illegal: " ++ reason why
took_text take.Memory = codes "out of memory"
took_text (take.Accepted n) = codes "accepted " ++ decimal n

abbrev pub learned_text : Learned → List ℕ
learned_text learn.OtherMatch = codes "other match"
learned_text learn.Nothing = codes "nothing"
learned_text (learn.Conflict n) = codes "conflict " ++ decimal n
learned_text learn.Gap = codes "gap"
learned_text (learn.Illegal n) = codes "illegal entry " ++ decimal n
learned_text learn.Memory = codes "out of memory"
learned_text (learn.Grew count) = codes "learned " ++ decimal count

abbrev pub choose_reason : ChooseFault → List ℕ
choose_reason choose_fault.NotYourTurn = codes "not your turn"
choose_reason choose_fault.AlreadyClaimed = codes "already claimed"
choose_reason (choose_fault.Illegal why) = reason why

abbrev pub chose_text : Result ℕ ChooseFault → List ℕ
chose_text (Ok n) = codes "claimed " ++ decimal n
chose_text (Err why) = codes "claim refused: " ++ choose_reason why

abbrev pub cause_words : RestoreCause → List ℕ
cause_words cause.Device = codes "device"
cause_words cause.Damaged = codes "damaged"
cause_words cause.WrongMatch = codes "wrong match"

abbrev pub outcome_text : Outcome → List ℕ
outcome_text (outcome.Due result) = due_text result
outcome_text (outcome.Took took) = took_text took
outcome_text (outcome.Learned learned) = learned_text learned
outcome_text (outcome.Chose result) = chose_text result
outcome_text (outcome.Saved number) = codes "saved " ++ decimal number
outcome_text outcome.SavesSpent = codes "saves spent"
outcome_text (outcome.Sent count) = codes "sent " ++ decimal count
outcome_text outcome.Restarted = codes "restarted"
outcome_text outcome.NoDatagram = codes "no datagram"
outcome_text (outcome.NotAPacket why) = codes "no packet: " ++ wire_fault_words why
outcome_text outcome.Down = codes "down"
outcome_text outcome.NoSuchParty = codes "no such party"
outcome_text outcome.LinkFault = codes "link fault"
outcome_text outcome.SaveFault = codes "save fault"
outcome_text (outcome.RestoreFault why) = codes "restore fault: " ++ cause_words why
outcome_text outcome.Memory = codes "out of memory"

-- ---- which outcomes have one line

-- as each number of the program is
abbrev pub FitsIn64Bits : ℕ → Type 0
FitsIn64Bits n = n < 2 ^ 64

abbrev pub HasReasonNumber : EntryFault → Type 0
HasReasonNumber (entry_fault.Turn (turn_fault.StepIllegal played)) = FitsIn64Bits (played + 1)
HasReasonNumber _ = Unit {0}

abbrev pub HasTakeNumbers : TakeOutcome → Type 0
HasTakeNumbers (take.Answer to p) =
    FitsIn64Bits to × IfSome (entries_told p) (λ range. FitsIn64Bits range.0 × FitsIn64Bits range.1)
HasTakeNumbers (take.Illegal why) = HasReasonNumber why
HasTakeNumbers (take.Accepted n) = FitsIn64Bits n
HasTakeNumbers _ = Unit {0}

abbrev pub HasLearnNumber : Learned → Type 0
HasLearnNumber (learn.Conflict n) = FitsIn64Bits n
HasLearnNumber (learn.Illegal n) = FitsIn64Bits n
HasLearnNumber (learn.Grew count) = FitsIn64Bits count
HasLearnNumber _ = Unit {0}

abbrev pub HasChooseNumber : Result ℕ ChooseFault → Type 0
HasChooseNumber (Ok n) = FitsIn64Bits n
HasChooseNumber (Err (choose_fault.Illegal why)) = HasReasonNumber why
HasChooseNumber _ = Unit {0}

abbrev pub HasFaultNumber : WireFault → Type 0
HasFaultNumber (wire_fault.Field at) = FitsIn64Bits at
HasFaultNumber _ = Unit {0}

-- the numbers that the line has
abbrev pub HasNumbers : Outcome → Type 0
HasNumbers (outcome.Due result) = IfOk result FitsIn64Bits
HasNumbers (outcome.Took took) = HasTakeNumbers took
HasNumbers (outcome.Learned learned) = HasLearnNumber learned
HasNumbers (outcome.Chose result) = HasChooseNumber result
HasNumbers (outcome.Saved number) = FitsIn64Bits number
HasNumbers (outcome.Sent count) = FitsIn64Bits count
HasNumbers (outcome.NotAPacket why) = HasFaultNumber why
HasNumbers _ = Unit {0}

-- the packet in hand is of another match, at the referee or at a follower
abbrev pub IsOtherMatch : Outcome → Type 0
IsOtherMatch o = (o ≡ outcome.Took take.OtherMatch) ⊎ (o ≡ outcome.Learned learn.OtherMatch)

-- the packet in hand says nothing new, at the referee or at a follower
abbrev pub IsNothing : Outcome → Type 0
IsNothing o = (o ≡ outcome.Took take.Nothing) ⊎ (o ≡ outcome.Learned learn.Nothing)

-- answers to one party, which tell the entries of the same numbers
pub record AreAnswersAlike (a b : Outcome) : Type 0 where
  pub party : ℕ
  pub one : Packet
  pub other : Packet
  pub first : a ≡ outcome.Took (take.Answer party one)
  pub second : b ≡ outcome.Took (take.Answer party other)
  pub same : entries_told one ≡ entries_told other

-- one line stands for both: it names neither the place where memory was wanted, nor whether the
-- referee or a follower had the packet in hand, nor what the entries of an answer are
abbrev pub ShareLine : Outcome → Outcome → Type 0
ShareLine a b =
    (IsTrue (is_memory a) × IsTrue (is_memory b))
    ⊎ ((IsOtherMatch a × IsOtherMatch b) ⊎ ((IsNothing a × IsNothing b) ⊎ AreAnswersAlike a b))

-- different outcomes have different lines, but for these
abbrev pub OutcomeTextsDiffer : Type 0
OutcomeTextsDiffer =
    (a b : Outcome) → HasNumbers a → HasNumbers b
    → (outcome_text a ≡ outcome_text b) ↔ ((a ≡ b) ⊎ ShareLine a b)

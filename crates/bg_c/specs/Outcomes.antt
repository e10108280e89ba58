-- What is told of a packet that a party took, of why an entry does not follow, and of who acts.
use Rattle.std.specs.Prelude.{ℕ, ◌+◌, Option, Some, None, replicate}
use Rattle.bg_board.specs.declared.players.Player.TheVariants.{X, O}
use Rattle.bg_turns.specs.declared.faults.TurnFault.{TurnFault}
use Rattle.bg_turns.specs.declared.faults.TurnFault.TheVariants as turn
use Rattle.bg_match.specs.declared.entries.EntryFault.{EntryFault}
use Rattle.bg_match.specs.declared.entries.EntryFault.TheVariants as fault
use Rattle.bg_match.specs.declared.entries.NoDouble.{NoDouble}
use Rattle.bg_match.specs.declared.entries.NoDouble.TheVariants as no_double
use Rattle.bg_match.specs.declared.phases.Actor.{Actor}
use Rattle.bg_match.specs.declared.phases.Actor.TheVariants as actor
use Rattle.bg_referee.specs.declared.outcomes.TakeOutcome.{TakeOutcome}
use Rattle.bg_referee.specs.declared.outcomes.TakeOutcome.TheVariants as take
use Rattle.bg_party.specs.declared.outcomes.Learned.{Learned}
use Rattle.bg_party.specs.declared.outcomes.Learned.TheVariants as learned
use Rattle.bg_parties.specs.declared.party.Taken.{Taken}
use Rattle.bg_parties.specs.declared.party.Taken.TheVariants as taken
use Rattle.bg_c.specs.declared.outcomes.Outcome.{Outcome}
use Rattle.bg_c.specs.declared.outcomes.Took.{Took}
use Rattle.bg_c.specs.declared.outcomes.Took.TheVariants as took

-- ---- why an entry does not follow

-- a step is named by its place in the turn
abbrev pub turn_why : TurnFault → ℕ
turn_why turn.MoreCanBePlayed = 5
turn_why turn.LargerMustBePlayed = 6
turn_why (turn.StepIllegal played) = 11 + played

abbrev pub no_double_why : NoDouble → ℕ
no_double_why no_double.Crawford = 7
no_double_why no_double.NotOwner = 8
no_double_why no_double.AtCap = 9

-- there is no reason
abbrev pub no_why : ℕ
no_why = 0

-- the number of a reason; want of memory has one too, which no call tells
abbrev pub why_code : EntryFault → ℕ
why_code fault.RecordFull = 1
why_code fault.MatchOver = 2
why_code fault.WrongPhase = 3
why_code fault.EqualOpening = 4
why_code (fault.Turn why) = turn_why why
why_code (fault.NoDouble why) = no_double_why why
why_code fault.Memory = 10

-- ---- who acts

abbrev pub actor_code : Actor → ℕ
actor_code actor.Referee = 0
actor_code (actor.Seat X) = 1
actor_code (actor.Seat O) = 2
actor_code actor.Nobody = 3

-- ---- what a party made of a packet

abbrev pub took_code : Took → ℕ
took_code took.Nothing = 0
took_code took.OtherMatch = 1
took_code took.Answered = 2
took_code took.Accepted = 3
took_code took.Ahead = 4
took_code took.NotYourTurn = 5
took_code took.Illegal = 6
took_code took.WordRefused = 7
took_code took.Grew = 8
took_code took.Gap = 9
took_code took.Conflict = 10
took_code took.Invalid = 11

abbrev pub told : Took → ℕ → ℕ → Outcome
told kind number why = record { kind = took_code kind; number = number; why = why; reserved = replicate 5 0 }

-- what is told of what the referee answers; nothing where there was no memory
abbrev pub referee_outcome : TakeOutcome → Option Outcome
referee_outcome take.OtherMatch = Some (told took.OtherMatch 0 no_why)
referee_outcome take.Nothing = Some (told took.Nothing 0 no_why)
referee_outcome (take.Answer party packet) = Some (told took.Answered 0 no_why)
referee_outcome take.Ahead = Some (told took.Ahead 0 no_why)
referee_outcome take.NotYourTurn = Some (told took.NotYourTurn 0 no_why)
referee_outcome take.WordRefused = Some (told took.WordRefused 0 no_why)
referee_outcome (take.Illegal why) = Some (told took.Illegal 0 (why_code why))
referee_outcome take.Memory = None
referee_outcome (take.Accepted number) = Some (told took.Accepted number no_why)

-- and of what a follower learns
abbrev pub follower_outcome : Learned → Option Outcome
follower_outcome learned.OtherMatch = Some (told took.OtherMatch 0 no_why)
follower_outcome learned.Nothing = Some (told took.Nothing 0 no_why)
follower_outcome (learned.Conflict number) = Some (told took.Conflict number no_why)
follower_outcome learned.Gap = Some (told took.Gap 0 no_why)
follower_outcome (learned.Illegal number) = Some (told took.Invalid number no_why)
follower_outcome learned.Memory = None
follower_outcome (learned.Grew count) = Some (told took.Grew count no_why)

abbrev pub outcome_of : Taken → Option Outcome
outcome_of (taken.Referee outcome) = referee_outcome outcome
outcome_of (taken.Follower learned) = follower_outcome learned

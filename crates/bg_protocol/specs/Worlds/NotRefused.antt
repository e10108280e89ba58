-- What no event of a reached world over honest devices comes to.
use Rattle.bg_referee.specs.declared.outcomes.TakeOutcome.{TakeOutcome}
use Rattle.bg_referee.specs.declared.outcomes.TakeOutcome.TheVariants as takes
use Rattle.bg_party.specs.declared.outcomes.Learned.{Learned}
use Rattle.bg_party.specs.declared.outcomes.Learned.TheVariants as learns
use Rattle.bg_protocol.specs.declared.events.Outcome.{Outcome}
use Rattle.bg_protocol.specs.declared.events.Outcome.TheVariants as outcomes
use Rattle.bg_protocol.specs.declared.events.RestoreCause.{RestoreCause}
use Rattle.bg_protocol.specs.declared.events.RestoreCause.TheVariants as causes

-- the referee refuses the packet neither for its match nor its number nor its sender's turn nor the
-- rules
abbrev pub IsNotRefusedByReferee : TakeOutcome → Type 0
IsNotRefusedByReferee takes.OtherMatch = ⊥
IsNotRefusedByReferee takes.Ahead = ⊥
IsNotRefusedByReferee takes.NotYourTurn = ⊥
IsNotRefusedByReferee (takes.Illegal why) = ⊥
IsNotRefusedByReferee _ = Unit {0}

-- a follower refuses the packet neither for its match nor for an entry that it holds otherwise nor
-- for the rules
abbrev pub IsNotRefusedByFollower : Learned → Type 0
IsNotRefusedByFollower learns.OtherMatch = ⊥
IsNotRefusedByFollower (learns.Conflict n) = ⊥
IsNotRefusedByFollower (learns.Illegal n) = ⊥
IsNotRefusedByFollower _ = Unit {0}

-- the slots are refused for no text in them: at most the keeper failed
abbrev pub IsFaultOfDevice : RestoreCause → Type 0
IsFaultOfDevice causes.Device = Unit {0}
IsFaultOfDevice causes.Damaged = ⊥
IsFaultOfDevice causes.WrongMatch = ⊥

-- no packet and no slot is refused
abbrev pub IsNotRefused : Outcome → Type 0
IsNotRefused (outcomes.Took took) = IsNotRefusedByReferee took
IsNotRefused (outcomes.Learned learned) = IsNotRefusedByFollower learned
IsNotRefused (outcomes.RestoreFault cause) = IsFaultOfDevice cause
IsNotRefused _ = Unit {0}

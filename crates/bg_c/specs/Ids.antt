-- The identifiers of the position after a transcript.
use Rattle.std.specs.Prelude.{◌≡◌, ◌⊎◌, ◌≢◌, ℕ, List, None, Result, Ok, Err}
use Rattle.std.specs.Global.{Vec}
use Rattle.bg_match.specs.Match.{Log, StandsAt}
use Rattle.bg_match.specs.State.{State}
use Rattle.bg_ids.specs.MatchIds.{match_text}
use Rattle.bg_ids.specs.PositionIds.{position_text}
use Rattle.bg_ids.specs.Turns.{on_roll}
use Rattle.bg_ids.specs.Xgids.{xgid_fault, xgid_text}
use Rattle.bg_c.specs.Transcripts.{IsNotFine, LeadsTo}
use Rattle.bg_c.specs.declared.statuses.Status.{Status}
use Rattle.bg_c.specs.declared.statuses.Status.TheVariants as status

-- the Position ID of where the record leads
abbrev pub IsPositionIdOf : Log → List ℕ → Type 0
IsPositionIdOf log text =
    (s : State) × StandsAt log.terms log.entries s × (text ≡ position_text s.board (on_roll s.phase))

-- its Match ID
abbrev pub IsMatchIdOf : Log → List ℕ → Type 0
IsMatchIdOf log text = (s : State) × StandsAt log.terms log.entries s × (text ≡ match_text s)

-- its XGID, if it has one
abbrev pub MakesXgid : List ℕ → Result (Vec ℕ) Status → Type 0
MakesXgid transcript (Ok text) =
    (s : State) × LeadsTo transcript s × (xgid_fault s.phase ≡ None) × (text.items ≡ xgid_text s)
MakesXgid transcript (Err why) =
    (why ≡ status.Memory) ⊎ IsNotFine transcript why
    ⊎ ((why ≡ status.NoXgid) × ((s : State) × LeadsTo transcript s × (xgid_fault s.phase ≢ None)))

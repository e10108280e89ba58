-- Whole runs of processes.
use Rattle.std.specs.Prelude.{◌≡◌, ℕ, None, List, [], ◌∷◌}
use Rattle.bg_match.specs.Terms.{Terms}
use Rattle.bg_protocol.specs.declared.events.Event.{Event}
use Rattle.bg_protocol.specs.declared.events.Outcome.{Outcome}
use Rattle.bg_protocol.specs.Protocol.Slots.{empty_slots}
use Rattle.bg_protocol.specs.Protocol.State.{IsSetup}
use Rattle.bg_fences.specs.SharedMatches.{Stored, SharedMatch}
use Rattle.bg_fences.specs.ProcessCalls.{ProcessCalls}

abbrev pub nothing_stored : Stored
nothing_stored = record { slots = empty_slots; restorable = None }

-- the start of a match: the store is empty, nothing was sent, and no process has begun
abbrev pub no_process : ℕ → Terms → ℕ → SharedMatch
no_process id terms watchers = record {
  id = id;
  terms = terms;
  watchers = watchers;
  referee = nothing_stored;
  x = nothing_stored;
  o = nothing_stored;
  sent = [];
  referees = [];
  xs = [];
  os = [];
  watching = [];
}

-- calls with what they came to, each from what the one before left; these moments were before them
abbrev pub ProcessesRun : List SharedMatch → SharedMatch → List (Event × Outcome) → SharedMatch →
    Type 0
ProcessesRun before m [] n = n ≡ m
ProcessesRun before m (h ∷ hs) n =
    (k : SharedMatch) × ProcessCalls (m ∷ before) m h.0 h.1 k × ProcessesRun (m ∷ before) k hs n

-- the events of such a run
abbrev pub events_of : List (Event × Outcome) → List Event
events_of [] = []
events_of (h ∷ hs) = h.0 ∷ events_of hs

-- some calls lead there from the start of some match
pub record IsReachedByProcesses (m : SharedMatch) : Type 0 where
  pub id : ℕ
  pub terms : Terms
  pub watchers : ℕ
  pub setup : IsSetup id terms watchers
  pub history : List (Event × Outcome)
  pub run : ProcessesRun [] (no_process id terms watchers) history m

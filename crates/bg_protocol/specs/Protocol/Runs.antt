-- Whole runs of the protocol.
use Rattle.std.specs.Prelude.{◌≡◌, ℕ, List, [], ◌∷◌}
use Rattle.bg_match.specs.Terms.{Terms}
use Rattle.bg_protocol.specs.declared.events.Event.{Event}
use Rattle.bg_protocol.specs.declared.events.Outcome.{Outcome}
use Rattle.bg_protocol.specs.Protocol.State.{ProtocolState, IsSetup, protocol_start}
use Rattle.bg_protocol.specs.Protocol.Step.{Step}

-- events with what they came to, each a step from the state that the one before left
abbrev pub Run : ProtocolState → List (Event × Outcome) → ProtocolState → Type 0
Run w [] v = v ≡ w
Run w (h ∷ hs) v = (u : ProtocolState) × Step w h.0 h.1 u × Run u hs v

-- a run leads to the state from the start of some match
pub record IsReached (w : ProtocolState) : Type 0 where
  pub id : ℕ
  pub terms : Terms
  pub watchers : ℕ
  pub setup : IsSetup id terms watchers
  pub history : List (Event × Outcome)
  pub run : Run (protocol_start id terms watchers) history w

-- The referee adds an entry of its own: it opens a game, or passes a turn.
use Rattle.std.specs.Prelude.{◌≡◌, ◌≢◌, ℕ, ◌+◌, [], ◌∷◌, ◌++◌, Ok, Err, length}
use Rattle.bg_match.specs.declared.entries.Entry.{Entry}
use Rattle.bg_referee.specs.Dues.{IsDue}
use Rattle.bg_referee.specs.declared.outcomes.DueFault.TheVariants as due_faults
use Rattle.bg_protocol.specs.declared.events.Outcome.{Outcome}
use Rattle.bg_protocol.specs.declared.events.Outcome.TheVariants as outcomes
use Rattle.bg_protocol.specs.Protocol.State.{ProtocolState}

abbrev pub with_entry : ProtocolState → Entry → ProtocolState
with_entry w e = record w { referee = record (w.referee) { log = w.referee.log ++ e ∷ [] } }

-- The referee's record grows by the entry that is due with the word, exactly where one is, want of
-- memory aside.
abbrev pub DueStep : ProtocolState → ℕ → Outcome → ProtocolState → Type 0
DueStep w word (outcomes.Due (Ok n)) v =
    (e : Entry) × IsDue w.terms w.referee.log word e × (v ≡ with_entry w e) × (n ≡ length w.referee.log + 1)
DueStep w word (outcomes.Due (Err why)) v =
    (why ≢ due_faults.Memory → (e : Entry) → IsDue w.terms w.referee.log word e → ⊥) × (v ≡ w)
DueStep w word _ v = ⊥

-- A referee whose record grows.
use Rattle.std.proofs.Common.{◌≡◌, ℕ, ◌+◌, ◌<◌, ◌++◌, ◌∷◌, [], Ok, length, ap, ◌∙◌}
use Rattle.std.proofs.lemmas.List.{length_push}
use Rattle.bg_match.specs.declared.entries.Entry.{Entry}
use Rattle.bg_match.specs.Match.{Log, IsLegalRecord}
use Rattle.bg_referee.specs.Dues.{Dues}
use Rattle.bg_referee.specs.Owning.{IsOwn}
use Rattle.bg_referee.proofs.Opening.{due_of}
use Rattle.bg_referee.specs.Referee.{Appends}
use Rattle.bg_referee.specs.Sessions.{SessionsView}

pub Appends-log : (log new : Log) (saved next_save : ℕ) (sessions : SessionsView) (e : Entry) → (0 < log.spare → new.spare + 1 ≡ log.spare)
    → new ≡ record log { entries = log.entries ++ e ∷ []; spare = new.spare }
    → Appends (record { log = log; saved = saved; next_save = next_save; sessions = sessions }) e (record { log = new; saved = saved; next_save = next_save; sessions = sessions })
Appends-log log new saved next_save sessions e room grown = record {
  spare = room;
  grown = ap (λ (l : Log). record { log = l; saved = saved; next_save = next_save; sessions = sessions }) grown;
}

-- an entry of the referee's own is appended
pub owned : (log new : Log) (saved next_save : ℕ) (sessions : SessionsView) (word n : ℕ) (e : Entry)
    → new ≡ record log { entries = log.entries ++ e ∷ []; spare = new.spare } → (0 < log.spare → new.spare + 1 ≡ log.spare)
    → IsLegalRecord new.terms new.entries → n ≡ length new.entries → IsOwn log word e
    → Dues (record { log = log; saved = saved; next_save = next_save; sessions = sessions }) word (Ok n) (record { log = new; saved = saved; next_save = next_save; sessions = sessions })
owned log new saved next_save sessions word n e grown room legal many own = (
  many ∙ ap (λ (l : Log). length l.entries) grown ∙ length_push log.entries e,
  (e, (due_of log word e own, rw grown at legal), Appends-log log new saved next_save sessions e room grown),
)

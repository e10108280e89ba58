-- What contracts see of a referee.
use Rattle.std.specs.Prelude.{◌≡◌, ℕ, ◌+◌, ◌-◌, ◌<◌, ◌≤◌, List, [], ◌∷◌, ◌++◌, length, take, min}
use Rattle.bg_match.specs.declared.entries.Entry.{Entry}
use Rattle.bg_match.specs.Terms.{Terms}
use Rattle.bg_match.specs.Match.{Log, IsLegalRecord, empty_log}
use Rattle.bg_wire.specs.Runs.{IsRun}
use Rattle.bg_wire.specs.declared.saves.Saved.{Saved}
use Rattle.bg_wire.specs.Entries.Codes.{least_save, greatest_save, most_in_packet}
use Rattle.bg_referee.specs.Sessions.{SessionsView, IsSessions, no_sessions}

-- the record, how many of its entries are saved, the number of the next save, and what the parties
-- are known to have
pub record RefereeView : Type 0 where
  pub log : Log
  pub saved : ℕ
  pub next_save : ℕ
  pub sessions : SessionsView

-- what every referee keeps; after the last save there is no number for a next one
pub record IsReferee (r : RefereeView) : Type 0 where
  pub legal : IsLegalRecord r.log.terms r.log.entries
  pub saved : r.saved ≤ length r.log.entries
  pub first_save : least_save ≤ r.next_save
  pub last_save : r.next_save ≤ greatest_save + 1
  pub sessions : IsSessions r.sessions

-- of a match with no entry, and no save
abbrev pub fresh_referee : ℕ → Terms → RefereeView
fresh_referee id terms =
    record { log = empty_log id terms; saved = 0; next_save = least_save; sessions = no_sessions }

-- the referee that goes on from what was saved: all of its entries are saved, and nothing is known
-- of any party
abbrev pub resumed_referee : Saved → RefereeView
resumed_referee s =
    record { log = s.log; saved = length (s.log).entries; next_save = s.save + 1; sessions = no_sessions }

-- the same but for the sessions, which are those of another
abbrev pub with_sessions_of : RefereeView → RefereeView → RefereeView
with_sessions_of old new = record new { sessions = old.sessions }

-- the referee after its save of this number was written
abbrev pub referee_after_save : RefereeView → ℕ → RefereeView
referee_after_save r save = record r { saved = length r.log.entries; next_save = save + 1 }

-- the entries that are saved: the first ones, so many
abbrev pub saved_entries : RefereeView → List Entry
saved_entries r = take r.saved r.log.entries

-- saved entries under their own numbers, from `start` on: all there are, but eight at most
pub record IsShown (r : RefereeView) (start : ℕ) (list : List Entry) : Type 0 where
  pub run : IsRun (saved_entries r) start list
  pub many : length list ≡ min most_in_packet (r.saved + 1 - start)

-- the record has grown by the entry, which took one of its spare room where there was any; all else
-- is as before
pub record Appends (old : RefereeView) (e : Entry) (new : RefereeView) : Type 0 where
  pub spare : 0 < old.log.spare → new.log.spare + 1 ≡ old.log.spare
  pub grown : new ≡ record old { log = record (old.log) { entries = old.log.entries ++ e ∷ []; spare = new.log.spare } }

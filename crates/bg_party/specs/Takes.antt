-- What a follower makes of a packet: what it learns, and what it has afterwards.
use Rattle.std.specs.Prelude.{◌≡◌, ◌⊎◌, ℕ, ◌+◌, ◌-◌, ◌<◌, ◌≤◌, nat_lt, Some, List, [], ◌++◌, length, take, drop}
use Rattle.std.specs.Prelude.{slice_get}
use Rattle.std.specs.Prelude.{if◌then◌else◌}
use Rattle.bg_match.specs.Terms.{Terms, rules_of}
use Rattle.bg_match.specs.declared.entries.Entry.{Entry}
use Rattle.bg_match.specs.Match.{Log, IsLegalRecord, IsFirstIllegal, at_number}
use Rattle.bg_wire.specs.Runs.{IsRun}
use Rattle.bg_wire.specs.declared.packets.Packet.{Packet}
use Rattle.bg_wire.specs.declared.packets.Packet.TheVariants as packet
use Rattle.bg_party.specs.declared.outcomes.Learned.{Learned}
use Rattle.bg_party.specs.declared.outcomes.Learned.TheVariants as learned
use Rattle.bg_party.specs.Learns.{Joins, Learns, FollowsFor, coming, new_entries}
use Rattle.bg_party.specs.Retry.{at_once}
use Rattle.bg_party.specs.Views.{FollowerView, IsEarly}
use Rattle.bg_party.specs.Window.{KeepsFrom, early_behind}

-- after a gap the list is kept, as far as there are places for it
abbrev pub Stores : FollowerView → ℕ → List Entry → FollowerView → Type 0
Stores old start list new =
    KeepsFrom old.early (start - (length old.log.entries + 1)) list new.early
    × (new ≡ record old { early = new.early })

-- the first entries of the list are appended, so many, with this spare room left. Where the next
-- one does not follow, it is dropped with all that are kept; else those behind it stay. The
-- follower sends on the next tick
abbrev pub grown_with : FollowerView → List Entry → ℕ → ℕ → FollowerView
grown_with f list k spare = record {
  log = record (f.log) { entries = f.log.entries ++ take k list; spare = spare };
  early = if nat_lt k (length list) then [] else drop k f.early;
  retry = at_once;
}

-- the follower whose record has so many of the entries that come with the packet
abbrev pub grown : FollowerView → Packet → ℕ → ℕ → FollowerView
grown f (packet.Entries id rules start list) k spare = grown_with f (coming f start list) k spare
grown f _ k spare = f

-- what is kept of a packet after a gap
abbrev pub Kept : FollowerView → Packet → FollowerView → Type 0
Kept old (packet.Entries id rules start list) new = Stores old start list new
Kept old _ new = ⊥

-- of the spare room no more is taken than so many entries need, where it is enough
abbrev pub TakesRoom : ℕ → ℕ → ℕ → Type 0
TakesRoom old k new = k ≤ old → new + k ≡ old

-- the follower afterwards: `Grew` changes its record, `Gap` the early entries that it keeps, and
-- nothing else changes it
abbrev pub IsAfter : FollowerView → Packet → Learned → FollowerView → Type 0
IsAfter old p learned.Gap new = Kept old p new
IsAfter old p (learned.Grew k) new = (new ≡ grown old p k new.log.spare) × TakesRoom old.log.spare k new.log.spare
IsAfter old p _ new = new ≡ old

-- the new entries and so many of the early ones behind them are appended; or there is no room for
-- them, and nothing changes
abbrev pub Appends : FollowerView → List Entry → List Entry → ℕ → Learned → FollowerView → Type 0
Appends old new early count learned.Memory after = (old.log.spare < length new + count) × (after ≡ old)
Appends old new early count (learned.Grew k) after =
    (k ≡ length new + count) × (after ≡ grown_with old (new ++ early) k after.log.spare)
    × TakesRoom old.log.spare k after.log.spare
Appends old new early count _ after = ⊥

-- what is learned from new entries that join what is held, and what the follower has then: the
-- first that does not follow is named, and where they follow they are appended with the early ones
-- behind them, so many as follow
abbrev pub LearnsNew : FollowerView → List Entry → Learned → FollowerView → Type 0
LearnsNew old new (learned.Illegal n) after =
    IsFirstIllegal old.log.terms (old.log.entries ++ new) n × (after ≡ old)
LearnsNew old new l after =
    (count : ℕ) × IsLegalRecord old.log.terms (old.log.entries ++ new)
    × FollowsFor old.log.terms (old.log.entries ++ new) (early_behind old.early (length new)) count
    × Appends old new (early_behind old.early (length new)) count l after

-- entries of this match that join what is held, and follow where they are new
abbrev pub Continues : ℕ → Terms → List Entry → Packet → Type 0
Continues match_id terms entries (packet.Entries id rules start list) =
    ((id ≡ match_id) × (rules ≡ rules_of terms)) × Joins entries start list
    × IsLegalRecord terms (entries ++ new_entries entries start list)
Continues match_id terms entries _ = ⊥

-- all entries of the packet are held under their own numbers
abbrev pub Holds : List Entry → Packet → Type 0
Holds entries (packet.Entries id rules start list) = IsRun entries start list
Holds entries _ = ⊥

-- entries that continue the record are held afterwards, want of memory aside
abbrev pub Keeps : Log → Packet → Learned → Log → Type 0
Keeps old p learned.Memory new = Unit {0}
Keeps old p l new = Continues old.id old.terms old.entries p → Holds new.entries p

-- the packet tells this entry under this number, in this match
abbrev pub Tells : ℕ → Terms → Packet → ℕ → Entry → Type 0
Tells match_id terms (packet.Entries id rules start list) n e =
    ((id ≡ match_id) × (rules ≡ rules_of terms)) × ((i : ℕ) × (n ≡ start + i) × (slice_get list i ≡ Some e))
Tells match_id terms _ n e = ⊥

-- the entry was told under this number: by the packet, or before, so that it was kept
abbrev pub IsTold : FollowerView → Packet → ℕ → Entry → Type 0
IsTold f p n e = Tells f.log.id f.log.terms p n e ⊎ IsEarly f n e

-- what is held or kept afterwards under a number was held under it before, or was told under it
pub record IsAllTold (old : FollowerView) (p : Packet) (new : FollowerView) : Type 0 where
  pub held : (n : ℕ) (e : Entry) → at_number new.log.entries n ≡ Some e
      → (at_number old.log.entries n ≡ Some e) ⊎ IsTold old p n e
  pub early : (n : ℕ) (e : Entry) → IsEarly new n e → IsTold old p n e

-- what a follower makes of a packet: what it learns, and what it has afterwards
pub record FollowerTakes (old : FollowerView) (p : Packet) (l : Learned) (new : FollowerView) : Type 0 where
  pub learns : Learns old p l
  pub after : IsAfter old p l new
  pub keeps : Keeps old.log p l new.log
  pub told : IsAllTold old p new

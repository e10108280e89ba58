-- What a packet teaches a follower.
use Rattle.std.specs.Prelude.{◌≡◌, ◌≢◌, ℕ, ◌+◌, ◌-◌, ◌<◌, ◌≤◌, Some, List, [], ◌++◌, length, take, drop, slice_get}
use Rattle.bg_match.specs.Terms.{Terms, rules_of}
use Rattle.bg_match.specs.declared.entries.Entry.{Entry}
use Rattle.bg_match.specs.Match.{IsLegalRecord, IsFirstIllegal, at_number}
use Rattle.bg_wire.specs.Packets.PacketText.{IsOfMatch}
use Rattle.bg_wire.specs.declared.packets.Packet.{Packet}
use Rattle.bg_wire.specs.declared.packets.Packet.TheVariants as packet
use Rattle.bg_party.specs.Views.{FollowerView}
use Rattle.bg_party.specs.Window.{early_behind}
use Rattle.bg_party.specs.declared.outcomes.Learned.{Learned}
use Rattle.bg_party.specs.declared.outcomes.Learned.TheVariants as learned

-- what the list tells under numbers that are held is what is held; its first entry has the number
-- `start`
abbrev pub Agrees : List Entry → ℕ → List Entry → Type 0
Agrees entries start list =
    (i : ℕ) (e : Entry) → slice_get list i ≡ Some e → start + i ≤ length entries
    → at_number entries (start + i) ≡ Some e

-- under this number the list tells another entry than the one that is held, and under no smaller
-- one
abbrev pub IsConflict : List Entry → ℕ → List Entry → ℕ → Type 0
IsConflict entries start list n =
    (i : ℕ) × (told : Entry) × (n ≡ start + i) × (n ≤ length entries) × (slice_get list i ≡ Some told)
    × (at_number entries n ≢ Some told) × Agrees entries start (take i list)

-- the entries of the list that are not held yet
abbrev pub new_entries : List Entry → ℕ → List Entry → List Entry
new_entries entries start list = drop (length entries + 1 - start) list

-- the list agrees with what is held, and begins within it or right behind it
abbrev pub Joins : List Entry → ℕ → List Entry → Type 0
Joins entries start list = Agrees entries start list × (start ≤ length entries + 1)

-- the list joins what is held, and its new entries, of which there are some, follow
abbrev pub Extends : Terms → List Entry → ℕ → List Entry → Type 0
Extends terms entries start list =
    Joins entries start list × (new_entries entries start list ≢ [])
    × IsLegalRecord terms (entries ++ new_entries entries start list)

-- the new entries of the list, and the early ones that are kept right behind them, up to the first
-- that is missing
abbrev pub coming : FollowerView → ℕ → List Entry → List Entry
coming f start list =
    new_entries f.log.entries start list
    ++ early_behind f.early (length (new_entries f.log.entries start list))

-- so many of the entries of the list follow, one after the other, and no more
pub record FollowsFor (terms : Terms) (entries list : List Entry) (count : ℕ) : Type 0 where
  pub within : count ≤ length list
  pub legal : IsLegalRecord terms (entries ++ take count list)
  pub no_more : count < length list → IsLegalRecord terms (entries ++ take (count + 1) list) → ⊥

-- the new entries of the list follow; with the early ones that come behind them so many do
abbrev pub GrowsBy : FollowerView → ℕ → List Entry → ℕ → Type 0
GrowsBy f start list k =
    Extends f.log.terms f.log.entries start list × FollowsFor f.log.terms f.log.entries (coming f start list) k

-- what a list of entries teaches: a case for each answer. Want of memory comes only where the room
-- is too small
abbrev pub Teaches : FollowerView → ℕ → List Entry → Learned → Type 0
Teaches f start list learned.OtherMatch = ⊥
Teaches f start list (learned.Conflict n) = IsConflict f.log.entries start list n
Teaches f start list learned.Gap = Agrees f.log.entries start list × (length f.log.entries + 1 < start)
Teaches f start list learned.Nothing = Joins f.log.entries start list × (new_entries f.log.entries start list ≡ [])
Teaches f start list (learned.Illegal n) =
    Joins f.log.entries start list
    × IsFirstIllegal f.log.terms (f.log.entries ++ new_entries f.log.entries start list) n
Teaches f start list learned.Memory = (k : ℕ) × GrowsBy f start list k × (f.log.spare < k)
Teaches f start list (learned.Grew k) = GrowsBy f start list k

-- what a packet of this match teaches; only entries do
abbrev pub TeachesWithin : FollowerView → Packet → Learned → Type 0
TeachesWithin f (packet.Want id rules sender held) l = l ≡ learned.Nothing
TeachesWithin f (packet.Claim id rules sender number action) l = l ≡ learned.Nothing
TeachesWithin f (packet.Entries id rules start list) l = Teaches f start list l

-- what a packet teaches
abbrev pub Learns : FollowerView → Packet → Learned → Type 0
Learns f p learned.OtherMatch = IsOfMatch f.log.id (rules_of f.log.terms) p → ⊥
Learns f p l = IsOfMatch f.log.id (rules_of f.log.terms) p × TeachesWithin f p l

-- a packet teaches a follower whose record is legal one thing, want of memory aside
abbrev pub TeachesOneThing : Type 0
TeachesOneThing = (f : FollowerView) (p : Packet) (a b : Learned) → IsLegalRecord f.log.terms f.log.entries
    → Learns f p a → Learns f p b → a ≢ learned.Memory → b ≢ learned.Memory → a ≡ b

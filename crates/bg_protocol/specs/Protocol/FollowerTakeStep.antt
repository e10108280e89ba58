-- A seat or a watcher takes a packet.
use Rattle.std.specs.Prelude.{◌≡◌, ℕ, suc, ◌<◌, ◌+◌, Some, List, ◌++◌, length, slice_get}
use Rattle.bg_match.specs.Match.{IsLegalRecord}
use Rattle.bg_match.specs.Terms.{Terms}
use Rattle.bg_match.specs.declared.entries.Entry.{Entry}
use Rattle.bg_wire.specs.declared.packets.Datagram.{Datagram}
use Rattle.bg_wire.specs.declared.packets.Packet.{Packet}
use Rattle.bg_party.specs.Takes.{Continues, Holds}
use Rattle.bg_party.specs.declared.outcomes.Learned.{Learned}
use Rattle.bg_party.specs.declared.outcomes.Learned.TheVariants as learns
use Rattle.bg_protocol.specs.declared.events.Outcome.{Outcome}
use Rattle.bg_protocol.specs.declared.events.Outcome.TheVariants as outcomes
use Rattle.bg_protocol.specs.Protocol.Datagrams.{WasSent, WasShown}

-- the record grows to a legal one, by entries each of which was shown to the party under its number
pub record GrowsAsShown
    (id : ℕ) (terms : Terms) (sent : List Datagram) (party : ℕ) (old new : List Entry) : Type 0 where
  pub more : List Entry
  pub is : new ≡ old ++ more
  pub legal : IsLegalRecord terms new
  pub shown : (i : ℕ) (e : Entry) → slice_get more i ≡ Some e → WasShown id terms sent party (suc (length old + i)) e

abbrev pub HoldsWhatContinues : ℕ → Terms → List Entry → Packet → List Entry → Type 0
HoldsWhatContinues id terms old p new = Continues id terms old p → Holds new p

-- The record grows by k entries exactly where k were learned. What continues it is held, want of
-- memory aside.
abbrev pub LearnStep : ℕ → Terms → List Datagram → ℕ → Packet → Learned → List Entry → List Entry → Type 0
LearnStep id terms sent party p (learns.Grew k) old new =
    (0 < k) × (length new ≡ length old + k) × GrowsAsShown id terms sent party old new
    × HoldsWhatContinues id terms old p new
LearnStep id terms sent party p learns.Memory old new = new ≡ old
LearnStep id terms sent party p _ old new = HoldsWhatContinues id terms old p new × (new ≡ old)

-- What becomes of a follower's record. The packet in hand is one that was sent to the party.
abbrev pub FollowerTakeStep : ℕ → Terms → List Datagram → ℕ → Outcome → List Entry → List Entry → Type 0
FollowerTakeStep id terms sent party (outcomes.Learned learned) old new =
    (p : Packet) × WasSent sent party p × LearnStep id terms sent party p learned old new
FollowerTakeStep id terms sent party outcomes.NoDatagram old new = new ≡ old
FollowerTakeStep id terms sent party (outcomes.NotAPacket why) old new = new ≡ old
FollowerTakeStep id terms sent party outcomes.LinkFault old new = new ≡ old
FollowerTakeStep id terms sent party outcomes.Memory old new = new ≡ old
FollowerTakeStep id terms sent party _ old new = ⊥

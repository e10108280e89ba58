-- What a party makes of a packet whose sender the host knows, and a referee of a peer that the host
-- knows.
use Rattle.std.specs.Prelude.{◌≡◌, ℕ, ◌≤◌, List, is_some, IsTrue, Result, Err}
use Rattle.bg_match.specs.Limits.{most_entries}
use Rattle.bg_match.specs.Match.{Log}
use Rattle.bg_match.specs.Terms.{rules_of}
use Rattle.bg_wire.specs.Entries.Codes.{last_watcher, seat_of_x}
use Rattle.bg_wire.specs.Packets.PacketText.{IsText}
use Rattle.bg_wire.specs.declared.packets.Packet.{Packet}
use Rattle.bg_wire.specs.declared.packets.Packet.TheVariants as packet
use Rattle.bg_parties.specs.Calls.{log_of, saved_of}
use Rattle.bg_c.specs.Handle.{Held}
use Rattle.bg_c.specs.Packets.{sender_of}
use Rattle.bg_c.specs.PartyCalls.{TakesPacket}
use Rattle.bg_c.specs.declared.datagrams.Datagram.{Datagram}
use Rattle.bg_c.specs.declared.outcomes.Outcome.{Outcome}
use Rattle.bg_c.specs.declared.statuses.Status.{Status}
use Rattle.bg_c.specs.declared.statuses.Status.TheVariants.{BadArgument, NotAPacket, OtherSender, WrongParty}

-- what is told of a packet, and what is to be sent back; or why it is refused
abbrev pub Told : Type 0
Told = Result (Outcome × Datagram) Status

-- the call is refused, and the party stays as it is
abbrev pub RefusesFor : Status → Held → Told → Held → Type 0
RefusesFor why old made new = (made ≡ Err why) × (new ≡ old)

-- ---- a packet of a sender that the host knows

-- it is taken where it says this sender
pub record TakesSaid (old : Held) (sender : ℕ) (p : Packet) (word : ℕ) (made : Told) (new : Held) : Type 0 where
  pub same : sender_of p ≡ sender → TakesPacket old p word made new
  pub other : (sender_of p ≡ sender → ⊥) → RefusesFor OtherSender old made new

-- bytes: the packet whose text they are
pub record TakesBytesFrom
    (old : Held) (sender : ℕ) (bytes : List ℕ) (word : ℕ) (made : Told) (new : Held) : Type 0 where
  pub packet : (p : Packet) → IsText p bytes → TakesSaid old sender p word made new
  pub none : ((p : Packet) → IsText p bytes → ⊥) → RefusesFor NotAPacket old made new

-- the sender is looked at first: parties are numbered to 255
pub record TakesFrom (old : Held) (sender : ℕ) (bytes : List ℕ) (word : ℕ) (made : Told) (new : Held) : Type 0 where
  pub party : sender ≤ last_watcher → TakesBytesFrom old sender bytes word made new
  pub none : (sender ≤ last_watcher → ⊥) → RefusesFor BadArgument old made new

-- ---- a peer that the host knows

-- what a party that holds so many entries of this match asks for
abbrev pub want_holding : Log → ℕ → ℕ → Packet
want_holding log peer held = packet.Want log.id (rules_of log.terms) peer held

-- there is such a peer of a referee, and there may be so many entries
pub record IsPeer (peer held : ℕ) : Type 0 where
  pub first : seat_of_x ≤ peer
  pub last : peer ≤ last_watcher
  pub few : held ≤ most_entries

-- the referee takes the want that the peer would send; it reads no word for that
pub record HearsPeer (old : Held) (peer held : ℕ) (made : Told) (new : Held) : Type 0 where
  pub referee : IsTrue (is_some (saved_of old.core)) → TakesPacket old (want_holding (log_of old.core) peer held) 0 made new
  pub other : (IsTrue (is_some (saved_of old.core)) → ⊥) → RefusesFor WrongParty old made new

-- the numbers are looked at first
pub record Hears (old : Held) (peer held : ℕ) (made : Told) (new : Held) : Type 0 where
  pub known : IsPeer peer held → HearsPeer old peer held made new
  pub none : (IsPeer peer held → ⊥) → RefusesFor BadArgument old made new

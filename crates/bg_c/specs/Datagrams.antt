-- Packets on their way, as C sees them.
use Rattle.std.specs.Prelude.{ℕ, ◌-◌, List, ◌++◌, length, replicate, Option, Some, None}
use Rattle.bg_wire.specs.Entries.Codes.{longest_datagram}
use Rattle.bg_wire.specs.Packets.PacketText.{packet_text}
use Rattle.bg_wire.specs.declared.packets.Packet.{Packet}
use Rattle.bg_referee.specs.Takes.{AnswerFits}
use Rattle.bg_referee.specs.declared.outcomes.TakeOutcome.TheVariants as take
use Rattle.bg_parties.specs.declared.party.Taken.{Taken}
use Rattle.bg_parties.specs.declared.party.Taken.TheVariants as taken
use Rattle.bg_c.specs.declared.datagrams.Datagram.{Datagram}

-- a text at the front of so many bytes, and zeros behind it
abbrev pub padded : ℕ → List ℕ → List ℕ
padded size text = text ++ replicate (size - length text) 0

-- the packet that goes to a party, or nothing, which goes to none
abbrev pub datagram_of : Option (ℕ × Packet) → Datagram
datagram_of None = record {
  to = 0;
  length = 0;
  reserved = replicate 2 0;
  bytes = replicate longest_datagram 0;
}
datagram_of (Some sent) = record {
  to = sent.0;
  length = length (packet_text sent.1);
  reserved = replicate 2 0;
  bytes = padded longest_datagram (packet_text sent.1);
}

-- what a party answers to a packet: the referee alone does
abbrev pub reply_of : Taken → Option (ℕ × Packet)
reply_of (taken.Referee (take.Answer party packet)) = Some (party, packet)
reply_of _ = None

-- it has a text
abbrev pub ReplyFits : Taken → Type 0
ReplyFits (taken.Referee outcome) = AnswerFits outcome
ReplyFits (taken.Follower learned) = Unit {0}

-- A party sends what it sends without having been handed anything.
use Rattle.std.specs.Prelude.{◌≡◌, ℕ, ◌+◌, Bool, true, Option, Some, List, length, nat_lt, if◌then◌else◌}
use Rattle.bg_match.specs.Terms.{Terms, rules_of}
use Rattle.bg_match.specs.declared.actions.Action.{Action}
use Rattle.bg_match.specs.declared.entries.Entry.{Entry}
use Rattle.bg_wire.specs.Entries.Codes.{referee, first_watcher}
use Rattle.bg_wire.specs.Parties.{party_of}
use Rattle.bg_wire.specs.declared.packets.Datagram.{Datagram}
use Rattle.bg_wire.specs.declared.packets.Packet.{Packet}
use Rattle.bg_wire.specs.declared.packets.Packet.TheVariants as packet
use Rattle.bg_protocol.specs.declared.events.Outcome.{Outcome}
use Rattle.bg_protocol.specs.declared.events.Outcome.TheVariants as outcomes
use Rattle.bg_protocol.specs.declared.roles.Role.{Role}
use Rattle.bg_protocol.specs.declared.roles.Role.TheVariants.{Referee as AsReferee, Seat as AsSeat, Watcher as AsWatcher}
use Rattle.bg_protocol.specs.Protocol.Datagrams.{Carries}
use Rattle.bg_protocol.specs.Protocol.Frames.{IfUp, AtWatcher, SendsAtMost}
use Rattle.bg_protocol.specs.Protocol.RefereeTakeStep.{ShowsSaved}
use Rattle.bg_protocol.specs.Protocol.State.{ProtocolState, Exists, seat_in}

-- so many datagrams are sent as the outcome says, at most `most`; where the link or memory fails,
-- at most `most` too
abbrev pub SendsOnTick : (Datagram → Type 0) → ℕ → ProtocolState → Outcome → ProtocolState → Type 0
SendsOnTick may most w (outcomes.Sent n) v = (sends : SendsAtMost may most w v) × (length sends.out ≡ n)
SendsOnTick may most w outcomes.LinkFault v = SendsAtMost may most w v
SendsOnTick may most w outcomes.Memory v = SendsAtMost may most w v
SendsOnTick may most w _ v = ⊥

-- what a party that holds these entries asks the referee for: those after them
abbrev pub want_packet : ℕ → Terms → ℕ → List Entry → Packet
want_packet id terms party log = packet.Want id (rules_of terms) party (length log)

-- a seat's claim, where it is saved and its number is above the length of the record; else what the
-- seat asks for
abbrev pub seat_packet : ℕ → Terms → ℕ → List Entry → Option (ℕ × Action) → Bool → Packet
seat_packet id terms party log (Some claim) true =
    if nat_lt (length log) claim.0 then packet.Claim id (rules_of terms) party claim.0 claim.1
    else want_packet id terms party log
seat_packet id terms party log _ _ = want_packet id terms party log

-- The referee sends two datagrams at most, of saved entries, under their own numbers, to parties
-- that exist. A follower sends one at most, to the referee: what it asks for, or a seat its saved
-- claim.
abbrev pub TickStep : ProtocolState → Role → Outcome → ProtocolState → Type 0
TickStep w AsReferee o v = IfUp w.referee.up w o v (SendsOnTick (λ d. Exists w d.to × ShowsSaved w d) 2 w o v)
TickStep w (AsSeat player) o v =
    let f = seat_in w player in
    IfUp f.up w o v
    (SendsOnTick
    (λ d. Carries d referee (seat_packet w.id w.terms (party_of player) f.log f.claim f.claim_saved)) 1 w o v)
TickStep w (AsWatcher index) o v =
    AtWatcher w index o v
    (λ log. SendsOnTick (λ d. Carries d referee (want_packet w.id w.terms (first_watcher + index) log)) 1 w o v)

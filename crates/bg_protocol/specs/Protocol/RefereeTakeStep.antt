-- The referee takes a packet.
use Rattle.std.specs.Prelude.{◌≡◌, ℕ, ◌+◌, [], ◌∷◌, ◌++◌, length}
use Rattle.bg_match.specs.Terms.{rules_of}
use Rattle.bg_match.specs.declared.entries.Entry.{Entry}
use Rattle.bg_wire.specs.Entries.Codes.{referee}
use Rattle.bg_wire.specs.Runs.{IsRun}
use Rattle.bg_wire.specs.declared.packets.Datagram.{Datagram}
use Rattle.bg_wire.specs.declared.packets.Packet.{Packet}
use Rattle.bg_wire.specs.declared.packets.Packet.TheVariants as packet
use Rattle.bg_referee.specs.Claims.{IsAccepted}
use Rattle.bg_referee.specs.declared.outcomes.TakeOutcome.{TakeOutcome}
use Rattle.bg_referee.specs.declared.outcomes.TakeOutcome.TheVariants as takes
use Rattle.bg_protocol.specs.declared.events.Outcome.{Outcome}
use Rattle.bg_protocol.specs.declared.events.Outcome.TheVariants as outcomes
use Rattle.bg_protocol.specs.Protocol.Datagrams.{Carries, WasSent}
use Rattle.bg_protocol.specs.Protocol.DueStep.{with_entry}
use Rattle.bg_protocol.specs.Protocol.Frames.{SendsAtMost}
use Rattle.bg_protocol.specs.Protocol.State.{ProtocolState, saved_log}

-- the packet tells entries of this match that the referee has saved, under their own numbers
abbrev pub IsOfSaved : ProtocolState → Packet → Type 0
IsOfSaved w (packet.Entries id rules start list) =
    ((id ≡ w.id) × (rules ≡ rules_of w.terms)) × IsRun (saved_log w) start list
IsOfSaved w _ = ⊥

-- a datagram of such a packet
abbrev pub ShowsSaved : ProtocolState → Datagram → Type 0
ShowsSaved w d = (p : Packet) × Carries d d.to p × IsOfSaved w p

abbrev pub AcceptsNone : ProtocolState → ℕ → Packet → Type 0
AcceptsNone w word p = (e : Entry) → IsAccepted w.id w.terms w.referee.log word p e → ⊥

-- The referee's record grows by the entry that the packet in hand claims, exactly where it is
-- accepted, want of memory aside. At an answer the list of datagrams grows by just that answer.
abbrev pub ReplyStep : ProtocolState → ℕ → Packet → TakeOutcome → ProtocolState → Type 0
ReplyStep w word p (takes.Accepted n) v =
    (e : Entry) × IsAccepted w.id w.terms w.referee.log word p e × (v ≡ with_entry w e) × (n ≡ length w.referee.log + 1)
ReplyStep w word p (takes.Answer party answer) v =
    AcceptsNone w word p × IsOfSaved w answer
    × ((d : Datagram) × Carries d party answer × (v ≡ record w { sent = w.sent ++ d ∷ [] }))
ReplyStep w word p takes.Memory v = v ≡ w
ReplyStep w word p _ v = AcceptsNone w word p × (v ≡ w)

-- The packet in hand was sent to the referee. Where the link or memory fails, an answer may have
-- gone out.
abbrev pub RefereeTakeStep : ProtocolState → ℕ → Outcome → ProtocolState → Type 0
RefereeTakeStep w word (outcomes.Took took) v = (p : Packet) × WasSent w.sent referee p × ReplyStep w word p took v
RefereeTakeStep w word outcomes.NoDatagram v = v ≡ w
RefereeTakeStep w word (outcomes.NotAPacket why) v = v ≡ w
RefereeTakeStep w word outcomes.LinkFault v = SendsAtMost (ShowsSaved w) 1 w v
RefereeTakeStep w word outcomes.Memory v = SendsAtMost (ShowsSaved w) 1 w v
RefereeTakeStep w word _ v = ⊥

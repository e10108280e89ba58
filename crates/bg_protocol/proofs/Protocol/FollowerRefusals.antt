-- The seats and the watchers of a reached state refuse no packet that was sent to them.
use Rattle.std.specs.Prelude.{◌≡◌, ℕ, ◌+◌, ◌<◌, ◌≤◌, List, ◌++◌, Some, length, take, drop}
use Rattle.std.proofs.Common.{sym, ◌∙◌, ap, subst, arith}
use Rattle.std.proofs.lemmas.List.{take-append-drop}
use Rattle.bg_match.specs.Match.{IsLegalRecord, at_number}
use Rattle.bg_match.specs.Terms.{Terms, rules_of}
use Rattle.bg_match.specs.declared.entries.Entry.{Entry}
use Rattle.bg_match.proofs.Legal.{legal_fronts}
use Rattle.bg_wire.specs.Packets.PacketText.{IsOfMatch}
use Rattle.bg_wire.specs.declared.packets.Packet.{Packet}
use Rattle.bg_wire.specs.declared.packets.Packet.TheVariants as packet
use Rattle.bg_party.specs.Learns.{Learns, new_entries}
use Rattle.bg_party.specs.Views.{FollowerView}
use Rattle.bg_party.specs.declared.outcomes.Learned.{Learned}
use Rattle.bg_party.specs.declared.outcomes.Learned.TheVariants as learned
use Rattle.bg_protocol.specs.Protocol.Datagrams.{WasSent}
use Rattle.bg_protocol.specs.Worlds.NotRefused.{IsNotRefusedByFollower}
use Rattle.bg_protocol.specs.Promises.Refusals.{IsNoPacketRefused, IsSound}
use Rattle.bg_protocol.specs.Protocol.State.{ProtocolState, log_of}
use Rattle.bg_protocol.specs.Worlds.WorldState.{IsLogOf}

legal_take : (m : Terms) (n : ℕ) (entries : List Entry) → IsLegalRecord m entries → IsLegalRecord m (take n entries)
legal_take m n entries h =
    legal_fronts m (take n entries) (drop n entries) (subst (IsLegalRecord m) (sym (take-append-drop n entries)) h)

of_match : (v : ProtocolState) (p : Packet) → IsSound v p → IsOfMatch v.id (rules_of v.terms) p
of_match v (packet.Want id rules sender held) h = h.0
of_match v (packet.Claim id rules sender n a) h = h.0
of_match v (packet.Entries id rules start list) h = h.0

module _ (v : ProtocolState) (refused : IsNoPacketRefused v) (party : ℕ) (f : FollowerView) (above : 0 < party)
    (some : log_of v party ≡ Some f.log.entries)
    (of : IsLogOf v.id v.terms f.log) where
  pub not_refused : (p : Packet) (l : Learned) → WasSent v.sent party p → Learns f p l → IsNotRefusedByFollower l
  not_refused p learned.OtherMatch came h =
      let same = of_match v p (refused.sound party p came) in
      absurd (h (same.0 ∙ sym of.0, same.1 ∙ ap rules_of (sym of.1)))
  not_refused (packet.Want id rules sender held) (learned.Conflict n) came h = let no = h.1 in absurd cc
  not_refused (packet.Claim id rules sender m a) (learned.Conflict n) came h = let no = h.1 in absurd cc
  not_refused (packet.Entries id rules start list) (learned.Conflict n) came h =
      let c = h.1 in
      let number = c.2 in
      let low : start + c.0 ≤ length f.log.entries = let k = c.3 in omega (k, number, arith) in
      let agrees = refused.entries.agree party f.log.entries party id rules start list above some came c.0 c.1 c.4 low in
      absurd (c.5 (ap (λ (m : ℕ). at_number f.log.entries m) number ∙ agrees))
  not_refused (packet.Want id rules sender held) (learned.Illegal n) came h = let no = h.1 in absurd cc
  not_refused (packet.Claim id rules sender m a) (learned.Illegal n) came h = let no = h.1 in absurd cc
  not_refused (packet.Entries id rules start list) (learned.Illegal n) came h =
      let legal = refused.entries.follow party f.log.entries party id rules start list above some came h.1.0.1 in
      let there = subst (λ (m : Terms). IsLegalRecord m (f.log.entries ++ new_entries f.log.entries start list))
      (sym of.1) legal in
      absurd (h.1.1.illegal (legal_take f.log.terms n
      (f.log.entries ++ new_entries f.log.entries start list) there))
  not_refused p learned.Nothing came h = tt
  not_refused p learned.Gap came h = tt
  not_refused p learned.Memory came h = tt
  not_refused p (learned.Grew k) came h = tt

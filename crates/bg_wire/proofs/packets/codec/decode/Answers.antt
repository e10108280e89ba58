use Rattle.std.proofs.Common.{◌≡◌, ◌≢◌, ◌∙◌, ◌++◌, [], sym, Result, Ok, Err, arith}
use Rattle.std.specs.Prelude.{ℕ, List, IfOk, IfErr, ◌↔◌}
use Rattle.bg_wire.specs.declared.faults.WireFault.{WireFault}
use Rattle.bg_wire.specs.declared.faults.WireFault.TheVariants.{Short, Extra}
use Rattle.bg_wire.specs.declared.packets.Packet.{Packet}
use Rattle.bg_wire.specs.Packets.PacketText.{IsText}
use Rattle.bg_wire.specs.Packets.PacketReading.{wire_fault, packet_at, packet_of}
use Rattle.bg_wire.specs.Texts.{HasMore}
use Rattle.bg_wire.specs.Faults.{IsWireFault}
use Rattle.bg_wire.proofs.Laws.{IsBytes, is_found, is_read, is_short, has_more, is_extra, says_why}
use Rattle.bg_wire.proofs.OfPackets.PacketLaws.{packet_law, says_field, not_extra}
use Rattle.bg_wire.proofs.packets.codec.decode.Goals as goal

module _ (bytes : List ℕ) (r : Result Packet WireFault) (was : r ≡ packet_of bytes) where
  found : IsBytes bytes → IfOk r (λ packet. IsText packet bytes)
  unfolding packet_of
  found fits = go r was
    where
      go : (r : Result Packet WireFault) → r ≡ packet_of bytes → IfOk r (λ packet. IsText packet bytes)
      go (Ok p) e = is_found packet_at packet_law wire_fault Extra bytes p fits (sym e)
      go (Err f) e = tt

  only : (p : Packet) → IsText p bytes → r ≡ Ok p
  unfolding packet_of
  only p h = was ∙ is_read packet_at packet_law wire_fault Extra bytes p h

  short : (p : Packet) (rest : List ℕ) → IsText p (bytes ++ rest) → rest ≢ [] → r ≡ Err Short
  unfolding packet_of
  short p rest h some = was ∙ is_short packet_at packet_law wire_fault Extra bytes rest p h some

  extra : IsBytes bytes → (r ≡ Err Extra) ↔ HasMore IsText bytes
  unfolding packet_of
  extra fits = (λ e. has_more packet_at packet_law wire_fault Extra bytes not_extra fits (sym was ∙ e), λ h. was ∙ is_extra packet_at packet_law wire_fault Extra bytes h)

  why : IsBytes bytes → IfErr r (λ fault. IsWireFault fault bytes)
  unfolding packet_of
  why fits = rw was (says_why packet_at packet_law wire_fault Extra bytes (λ fault. IsWireFault fault bytes) (says_field bytes fits) (λ fits more. more) fits)

pub returns-clause-found : goal.returns-clause-found
returns-clause-found c = found c.args.bytes.now c.all.result c.all.ensures (λ i. omega (arith, c.type_inv.bytes i))

pub returns-clause-only : goal.returns-clause-only
returns-clause-only c = only c.args.bytes.now c.all.result c.all.ensures

pub returns-clause-short : goal.returns-clause-short
returns-clause-short c = short c.args.bytes.now c.all.result c.all.ensures

pub returns-clause-extra : goal.returns-clause-extra
returns-clause-extra c = extra c.args.bytes.now c.all.result c.all.ensures (λ i. omega (arith, c.type_inv.bytes i))

pub returns-clause-why : goal.returns-clause-why
returns-clause-why c = why c.args.bytes.now c.all.result c.all.ensures (λ i. omega (arith, c.type_inv.bytes i))

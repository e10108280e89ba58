-- What becomes of packets that are sent in order, up to the first send that fails.
use Rattle.std.specs.Prelude.{◌≡◌, ◌⊎◌, ℕ, suc, ◌+◌, ◌<◌, ◌≤◌, Bool, true, false, List, [], ◌∷◌, ◌++◌, Result, Ok, Err, MatchResult, All, length, nat_lt}
use Rattle.std.specs.Bool.{MatchBool}
use Rattle.std.specs.List.{AllByRecursion}
use Rattle.std.proofs.Common.{refl, sym, ◌∙◌, ap, subst, inl, inr, arith, append_assoc}
use Rattle.std.proofs.lemmas.Bool.Decides.{nat_tests}
use Rattle.std.proofs.lemmas.List.{append-nil}
use Rattle.std.proofs.lemmas.List.Elements.{All-cons, All-nil}
use Rattle.bg_wire.specs.declared.packets.Datagram.{Datagram}
use Rattle.bg_wire.specs.declared.packets.Packet.{Packet}
use Rattle.bg_wire.specs.Packets.PacketText.{IsPacket}
use Rattle.bg_protocol.specs.declared.events.Outcome.{Outcome}
use Rattle.bg_protocol.specs.declared.events.Outcome.TheVariants as outcomes
use Rattle.bg_protocol.specs.Protocol.State.{ProtocolState}
use Rattle.bg_protocol.specs.Devices.LinkCalls.{SendCalls}
use Rattle.bg_protocol.specs.Protocol.TickStep.{SendsOnTick}
use Rattle.bg_protocol.specs.Worlds.Views.{LinkView}
use Rattle.bg_protocol.specs.Protocol.Frames.{SendsAtMost}
use Rattle.bg_protocol.specs.Devices.DeviceCalls.{Posts, datagram_of, link_outcome}
use Rattle.bg_protocol.specs.Devices.Honesty.{Sends as LinkSends}
use Rattle.bg_protocol.specs.declared.devices.DeviceFault.{DeviceFault}
use Rattle.bg_protocol.specs.declared.devices.DeviceFault.TheVariants as faults

-- the list grew by so many at most, and the outcome says by how many, or that a send failed
pub record Went (may : Datagram → Type 0) (before most : ℕ) (old new : List Datagram)
    (result : Outcome) : Type 0 where
  pub out : List Datagram
  pub sent : new ≡ old ++ out
  pub few : length out ≤ most
  pub each : All may out
  pub told : (result ≡ outcomes.Sent (before + length out)) ⊎
      ((fault : DeviceFault) × (result ≡ link_outcome fault))

module _ (honest : Type 0) (is_honest : honest) (many : ℕ) (may : Datagram → Type 0) where
  failed : (before most : ℕ) (old mid : LinkView) (p : ℕ × Packet) (fault : DeviceFault) (result : Outcome)
      (new : LinkView)
      → may (datagram_of p.0 p.1)
      → LinkSends old.sent (datagram_of p.0 p.1) mid.sent (Err fault) → result ≡ link_outcome fault → new ≡ mid
      → Went may before (suc most) old.sent new.sent result
  failed before most old mid p fault result new m list e f = at list
    where
      at : (mid.sent ≡ old.sent) ⊎ (mid.sent ≡ old.sent ++ datagram_of p.0 p.1 ∷ [])
          → Went may before (suc most) old.sent new.sent result
      at (inl g) = record {
        out = [];
        sent = ap (λ (x : LinkView). x.sent) f ∙ g ∙ sym (append-nil old.sent);
        few = omega arith;
        each = All-nil may;
        told = inr (fault, e);
      }
      at (inr g) = record {
        out = datagram_of p.0 p.1 ∷ [];
        sent = ap (λ (x : LinkView). x.sent) f ∙ g;
        few = omega arith;
        each = All-cons may (datagram_of p.0 p.1) [] m (All-nil may);
        told = inr (fault, e);
      }

  -- what is sent of these packets, each of which may be sent where its party exists and it has a
  -- text
  pub sends_all : (before : ℕ) (old : LinkView) (packets : List (ℕ × Packet)) (result : Outcome) (new : LinkView)
      → AllByRecursion (λ p. p.0 < many → IsPacket p.1 → may (datagram_of p.0 p.1)) packets
      → SendCalls honest many before old packets result new
      → Went may before (length packets) old.sent new.sent result
  sends_all before old [] result new all h = record {
    out = [];
    sent = ap (λ (x : LinkView). x.sent) h.1 ∙ sym (append-nil old.sent);
    few = omega arith;
    each = All-nil may;
    told = inl (h.0 ∙ ap (λ (n : ℕ). outcomes.Sent n) (same before));
  }
    where
      same : (n : ℕ) → n ≡ n + 0
      same n = omega arith
  sends_all before old (p ∷ packets) result new all h =
      at (λ n mid k. sends_all n mid packets result new all.1 k) (nat_lt p.0 many) refl h
    where
      d : Datagram
      d = datagram_of p.0 p.1

      more : (mid : LinkView) → may d → mid.sent ≡ old.sent ++ d ∷ []
          → Went may (before + 1) (length packets) mid.sent new.sent result
          → Went may before (suc (length packets)) old.sent new.sent result
      more mid m list rest = record {
        out = d ∷ rest.out;
        sent = rest.sent ∙ ap (λ (l : List Datagram). l ++ rest.out) list ∙ append_assoc old.sent (d ∷ []) rest.out;
        few = (let few = rest.few in omega (few, arith));
        each = All-cons may d rest.out m rest.each;
        told = told rest.told;
      }
        where
          counted : (a b : ℕ) → a + 1 + b ≡ a + suc b
          counted a b = omega arith

          told : (result ≡ outcomes.Sent (before + 1 + length rest.out)) ⊎
              ((fault : DeviceFault) × (result ≡ link_outcome fault))
              → (result ≡ outcomes.Sent (before + suc (length rest.out))) ⊎
              ((fault : DeviceFault) × (result ≡ link_outcome fault))
          told (inl e) = inl (e ∙ ap (λ (n : ℕ). outcomes.Sent n) (counted before (length rest.out)))
          told (inr e) = inr e

      sent_one : ((n : ℕ) (mid : LinkView) → SendCalls honest many n mid packets result new → Went may n
          (length packets) mid.sent new.sent result)
          → (answer : Result (Unit {0}) DeviceFault) (mid : LinkView) → p.0 < many
          → Posts honest old p.0 p.1 answer mid
          → MatchResult answer (λ _. SendCalls honest many (before + 1) mid packets result new)
          (λ fault. (result ≡ link_outcome fault) × (new ≡ mid))
          → Went may before (suc (length packets)) old.sent new.sent result
      sent_one again (Ok u) mid low posts k =
          more mid (all.0 low posts.fits) (posts.sent is_honest) (again (before + 1) mid k)
      sent_one again (Err fault) mid low posts k =
          failed before (length packets) old mid p fault result new (all.0 low posts.fits)
          (posts.sent is_honest) k.0 k.1

      fewer : Went may before (length packets) old.sent new.sent result
          → Went may before (suc (length packets)) old.sent new.sent result
      fewer rest = record {
        out = rest.out;
        sent = rest.sent;
        few = (let few = rest.few in omega (few, arith));
        each = rest.each;
        told = rest.told;
      }

      at : ((n : ℕ) (mid : LinkView) → SendCalls honest many n mid packets result new → Went may n
          (length packets) mid.sent new.sent result)
          → (b : Bool) → nat_lt p.0 many ≡ b
          → MatchBool b
          ((answer : Result (Unit {0}) DeviceFault) × (mid : LinkView) × Posts honest old p.0 p.1 answer mid
          × MatchResult answer (λ _. SendCalls honest many (before + 1) mid packets result new)
          (λ fault. (result ≡ link_outcome fault) × (new ≡ mid)))
          (SendCalls honest many before old packets result new)
          → Went may before (suc (length packets)) old.sent new.sent result
      at again true e k = sent_one again k.0 k.1 (grind (arith, nat_tests)) k.2 k.3
      at again false e k = fewer (again before old k)

-- so it is a tick of the protocol
pub ticks_row : (may : Datagram → Type 0) (most : ℕ) (w v : ProtocolState) (sent : List Datagram) (result : Outcome)
    → (bound : ℕ) → most ≤ bound
    → Went may 0 most w.sent sent result → v ≡ record w { sent = sent } → SendsOnTick may bound w result v
ticks_row may most w v sent result bound few_enough h e = at h.told
  where
    grows : SendsAtMost may bound w v
    grows = record {
      out = h.out;
      few = (let few = h.few in omega (few, few_enough, arith));
      each = h.each;
      after = e ∙ ap (λ (l : List Datagram). record w { sent = l }) h.sent;
    }

    faulty : (fault : DeviceFault) → SendsOnTick may bound w (link_outcome fault) v
    faulty faults.Failed = grows
    faulty faults.Memory = grows

    at : (result ≡ outcomes.Sent (0 + length h.out)) ⊎ ((fault : DeviceFault) × (result ≡ link_outcome fault))
        → SendsOnTick may bound w result v
    at (inl f) = subst (λ (x : Outcome). SendsOnTick may bound w x v) (sym f) (
      record {
        out = h.out;
        few = (let few = h.few in omega (few, few_enough, arith));
        each = h.each;
        after = e ∙ ap (λ (l : List Datagram). record w { sent = l }) h.sent;
      },
      zero_more (length h.out),
    )
      where
        zero_more : (n : ℕ) → n ≡ 0 + n
        zero_more n = omega arith
    at (inr f) = subst (λ (x : Outcome). SendsOnTick may bound w x v) (sym f.1) (faulty f.0)

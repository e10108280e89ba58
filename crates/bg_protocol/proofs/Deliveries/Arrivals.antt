-- What a link in memory hands over was sent to that party, or is no packet's text.
use Rattle.std.proofs.Common.{◌≡◌, ℕ, zero, suc, Bool, true, false, cond, List, [], ◌∷◌, Option, Some, None, refl, sym, ap, subst, ◌∙◌, arith, inl, inr}
use Rattle.std.specs.Prelude.{IfSome, Contains, slice_get, ◌==◌}
use Rattle.std.proofs.lemmas.Bool.{eqb-true}
use Rattle.bg_wire.specs.declared.packets.Packet.TheVariants as packets
use Rattle.bg_wire.specs.declared.packets.Datagram.{Datagram}
use Rattle.bg_protocol.specs.Devices.Honesty.{IsNoText, MayArrive}
use Rattle.bg_protocol.specs.Devices.Handed.{sent_to, bytes_handed, handed}

pub zero_is_no_text : IsNoText (0 ∷ [])
zero_is_no_text (packets.Want id rules sender held) h = absurd (cc (h.spelled))
zero_is_no_text (packets.Claim id rules sender number action) h = absurd (cc (h.spelled))
zero_is_no_text (packets.Entries id rules start list) h = absurd (cc (h.spelled))

some_is : {A : Type 0} (x y : A) → (let o : Option A = Some x in o) ≡ Some y → x ≡ y
some_is x y e = cc

here : (d s : Datagram) (sent : List Datagram) → s ≡ d → Contains (s ∷ sent) d
here d s sent e = (0, omega arith, e)

there : (d s : Datagram) (sent : List Datagram) → Contains sent d → Contains (s ∷ sent) d
there d s sent h = (suc h.0, omega (arith, h.1), h.2)

-- what is found among those to the party stands in the list, and is to the party
found : (sent : List Datagram) (party i : ℕ) (d : Datagram) → slice_get (sent_to party sent) i ≡ Some d → Contains sent d × (d.to ≡ party)
found [] party i d e = absurd cc
found (s ∷ sent) party i d e = go (λ j. found sent party j d) (s.to == party) refl i e
  where
    go : ((j : ℕ) → slice_get (sent_to party sent) j ≡ Some d → Contains sent d × (d.to ≡ party))
        → (b : Bool) → (s.to == party) ≡ b → (i : ℕ) → slice_get (cond b (s ∷ sent_to party sent) (sent_to party sent)) i ≡ Some d → Contains (s ∷ sent) d × (d.to ≡ party)
    go others true is zero e = let same = some_is s d e in (here d s sent same, ap (λ (x : Datagram). x.to) (sym same) ∙ eqb-true s.to party is)
    go others true is (suc i) e = let r = others i e in (there d s sent r.0, r.1)
    go others false is i e = let r = others i e in (there d s sent r.0, r.1)

pub arrives : (sent : List Datagram) (party pick : ℕ) → IfSome (handed sent party pick) (λ bytes. MayArrive sent party bytes.items)
arrives sent party pick = go (pick == 4294967295) (slice_get (sent_to party sent) pick) refl
  where
    go : (b : Bool) (o : Option Datagram) → slice_get (sent_to party sent) pick ≡ o → IfSome (cond b (Some (record { items = 0 ∷ [] })) (bytes_handed o)) (λ bytes. MayArrive sent party bytes.items)
    go true o e = inr zero_is_no_text
    go false None e = tt
    go false (Some d) e =
        let r = found sent party pick d e in
        let same : d ≡ record { to = party; bytes = d.bytes } = ap (λ (n : ℕ). record d { to = n }) r.1 in
        inl (subst (Contains sent) same r.0)

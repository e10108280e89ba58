-- One text is the text of one value, and two slots restore one thing.
use Rattle.std.proofs.Common.{◌≡◌, ℕ, List, [], Some, None, refl, sym, ◌∙◌, ap, ap₂, subst, inl, inr, Option}
use Rattle.std.specs.Prelude.{◌⊎◌, Bool, true, false, cond, nat_lt}
use Rattle.std.proofs.lemmas.List.{append-nil}
use Rattle.bg_wire.specs.Packets.PacketText.{IsText}
use Rattle.bg_wire.specs.Saved.SavedText.{SavedParts, IsSavedText, saved_text}
use Rattle.bg_wire.specs.declared.saves.layouts.Layout.{Layout}
use Rattle.bg_wire.specs.declared.saves.layouts.Layout.TheVariants.{One, Two}
use Rattle.bg_wire.specs.Texts.{ArePrefixFree, IsOneText}
use Rattle.bg_wire.specs.Saved.Restoring.{LoadsAs, newer}
use Rattle.bg_wire.specs.Saved.SlotLaws.{FrontsLoadAsNothing, EmptyLoadsAsNothing, LoadAsOneThing, RestoreOneThing, RestoreOneOfBoth}
use Rattle.bg_wire.specs.Packets.PacketReading.{packet_at}
use Rattle.bg_wire.proofs.Laws.{prefix_free}
use Rattle.bg_wire.proofs.OfPackets.PacketLaws.{packet_law}
use Rattle.bg_wire.proofs.OfSaves.SavedLaws.{saved_prefix_free}

one_text : {A : Type 0} (IsTextOf : A → List ℕ → Type 0) → ArePrefixFree IsTextOf → IsOneText IsTextOf
one_text IsTextOf free x y bytes h k = (free x y bytes [] h (subst (IsTextOf y) (sym (append-nil bytes)) k)).1

pub one_packet : IsOneText IsText
one_packet = one_text IsText (prefix_free packet_at packet_law)

pub one_saved : IsOneText IsSavedText
one_saved = one_text IsSavedText saved_prefix_free

pub front_loads : FrontsLoadAsNothing
front_loads p front rest h more q k = more (saved_prefix_free q p front rest k h).0

pub empty_loads : EmptyLoadsAsNothing
empty_loads p h = by_layout h.layout.0 h.layout.1.spelled
  where
    by_layout : (layout : Layout) → [] ≡ saved_text layout p → ⊥
    by_layout One e = cc
    by_layout Two e = cc

pub loads_once : LoadAsOneThing
loads_once bytes None None h k = refl
loads_once bytes None (Some q) h k = absurd (h q k)
loads_once bytes (Some p) None h k = absurd (k p h)
loads_once bytes (Some p) (Some q) h k = ap (λ (x : SavedParts). Some x) (one_saved p q bytes h k)

pub restores_once : RestoreOneThing
restores_once slot0 slot1 a b h k =
    h.is_newer ∙ ap₂ newer (loads_once slot0 h.first k.first h.first_loads k.first_loads) (loads_once slot1 h.second k.second h.second_loads k.second_loads) ∙ sym k.is_newer

pub one_of_both : RestoreOneOfBoth
one_of_both slot0 slot1 p h = by_both h.first h.second h.first_loads h.second_loads h.is_newer
  where
    by_both : (a b : Option SavedParts) → LoadsAs slot0 a → LoadsAs slot1 b → Some p ≡ newer a b → IsSavedText p slot0 ⊎ IsSavedText p slot1
    by_both None b k l e = inr (subst (LoadsAs slot1) (sym e) l)
    by_both (Some q) None k l e = inl (subst (LoadsAs slot0) (sym e) k)
    by_both (Some q) (Some r) k l e = by_test (nat_lt q.save r.save) e
      where
        by_test : (less : Bool) → Some p ≡ cond less (Some r) (Some q) → IsSavedText p slot0 ⊎ IsSavedText p slot1
        by_test true e = inr (subst (LoadsAs slot1) (sym e) l)
        by_test false e = inl (subst (LoadsAs slot0) (sym e) k)

-- Entries that are kept from a place on.
use Rattle.std.proofs.Common.{◌≡◌, inl, inr, ℕ, zero, suc, ◌+◌, ◌<◌, ◌≤◌, Option, Some, None, List, [], ◌∷◌, ◌++◌}
use Rattle.std.proofs.Common.{length, take, slice_get, refl, sym, ◌∙◌, subst, arith}
use Rattle.std.proofs.lemmas.List.{length-take-le}
use Rattle.std.proofs.lemmas.Option.{slice_get_within}
use Rattle.bg_match.specs.declared.entries.Entry.{Entry}
use Rattle.bg_wire.proofs.Numbers.{get_take}
use Rattle.bg_party.specs.Window.{at_place, window_size, KeepsFrom}
use Rattle.bg_party.proofs.Conflicts.{get_more}

-- another place that has none changes nothing
pub place_push : (early : List (Option Entry)) (i : ℕ) → at_place (early ++ None ∷ []) i ≡ at_place early i
place_push [] zero = refl
place_push [] (suc i) = refl
place_push (x ∷ early) zero = refl
place_push (x ∷ early) (suc i) = place_push early i

-- one more of the list is kept
pub keeps_more : (old mid new : List (Option Entry)) (place i : ℕ) (list : List Entry) (x : Entry) → i < length list
    → slice_get list i ≡ Some x → KeepsFrom old place (take i list) mid → at_place new (place + i) ≡ Some x
    → ((j : ℕ) → (j ≡ place + i → ⊥) → at_place new j ≡ at_place mid j) → KeepsFrom old place (take (i + 1) list) new
keeps_more old mid new place i list x within is kept put others =
    let next : i + 1 ≡ suc i = omega arith in
    let size : length (take i list) ≡ i = length-take-le i list (omega arith) in
    let size_more : length (take (i + 1) list) ≡ i + 1 = length-take-le (i + 1) list (omega arith) in
    record {
      told = λ j e at there. elim (get_more i list j e (rw next at at)) [
        | inl p ↦
            let less = slice_get_within (take i list) j e p in
            others (place + j) (λ same. absurd (omega arith)) ∙ kept.told j e p there
        | inr p ↦ subst (λ (m : ℕ). at_place new (place + m) ≡ Some e) (sym p.0) (put ∙ sym is ∙ p.1)
      ];
      before = λ j less. others j (λ same. absurd (omega arith)) ∙ kept.before j less;
      behind = λ j more. others j (λ same. absurd (omega arith)) ∙ kept.behind j (omega arith);
    }

-- behind the last place nothing is kept
pub keeps_all : (old new : List (Option Entry)) (place i : ℕ) (list : List Entry) → i < length list
    → window_size ≤ place + i
    → KeepsFrom old place (take i list) new → KeepsFrom old place list new
keeps_all old new place i list within full kept =
    let size : length (take i list) ≡ i = length-take-le i list (omega arith) in
    record {
      told = λ j e at there. kept.told j e (get_take i list j (omega arith) ∙ at) there;
      before = kept.before;
      behind = λ j more. kept.behind j (omega arith);
    }

-- The claims that a seat ever saved, and one more.
use Rattle.std.specs.Prelude.{◌≡◌, ◌⊎◌, ℕ, ◌<◌, ◌≤◌, Option, Some, None, List, [], ◌∷◌, ◌++◌, Contains}
use Rattle.std.proofs.Common.{sym, ◌∙◌, ap, subst, inl, inr, arith}
use Rattle.std.proofs.lemmas.List.Elements.{Contains-append_left, Contains-append_cases, Contains-push}
use Rattle.std.proofs.lemmas.Option.{same_Some, some_pair_parts}
use Rattle.bg_match.specs.declared.actions.Action.{Action}
use Rattle.bg_party.specs.Claims.{claim_number}
use Rattle.bg_fences.proofs.Invariant.{EverKept}
use Rattle.bg_fences.proofs.Lists.{cases_in, none_in}

abbrev pub ever_with : List (ℕ × Action) → Option (ℕ × Action) → List (ℕ × Action)
ever_with ever None = ever
ever_with ever (Some c) = ever ++ c ∷ []

pub with_old : (ever : List (ℕ × Action)) (c : Option (ℕ × Action)) (x : ℕ × Action) → Contains ever x → Contains (ever_with ever c) x
with_old ever None x h = h
with_old ever (Some c) x h = Contains-append_left ever (c ∷ []) x h

none_some : (n : ℕ) (a : Action) → ◌≡◌ {A = Option (ℕ × Action)} None (Some (n, a)) → ⊥
none_some n a e = cc

pub with_new : (ever : List (ℕ × Action)) (c : Option (ℕ × Action)) (n : ℕ) (a : Action) → c ≡ Some (n, a) → Contains (ever_with ever c) (n, a)
with_new ever None n a e = absurd (none_some n a e)
with_new ever (Some c) n a e = subst (λ (x : ℕ × Action). Contains (ever ++ c ∷ []) x) (same_Some c (n, a) e) (Contains-push ever c)

with_cases : (ever : List (ℕ × Action)) (c : Option (ℕ × Action)) (n : ℕ) (a : Action) → Contains (ever_with ever c) (n, a) → Contains ever (n, a) ⊎ (c ≡ Some (n, a))
with_cases ever None n a h = inl h
with_cases ever (Some c) n a h = at_place (Contains-append_cases ever (c ∷ []) (n, a) h)
  where
    at_one : (c ≡ (n, a)) ⊎ Contains {X = ℕ × Action} [] (n, a) → Contains ever (n, a) ⊎ (Some c ≡ Some (n, a))
    at_one (inl e) = inr (ap (λ (x : ℕ × Action). Some x) e)
    at_one (inr k) = absurd (none_in (n, a) k)

    at_place : Contains ever (n, a) ⊎ Contains {X = ℕ × Action} (c ∷ []) (n, a) → Contains ever (n, a) ⊎ (Some c ≡ Some (n, a))
    at_place (inl k) = inl k
    at_place (inr k) = at_one (cases_in c (n, a) [] k)

same_action : (n : ℕ) (a b : Action) → ◌≡◌ {A = Option (ℕ × Action)} (Some (n, a)) (Some (n, b)) → a ≡ b
same_action n a b h = (some_pair_parts n n a b h).1

-- the claim that was kept, or one with a greater number
pub ever_next : (ever : List (ℕ × Action)) (c0 c : Option (ℕ × Action)) → EverKept ever c0 → (c ≡ c0) ⊎ (claim_number c0 < claim_number c) → EverKept (ever_with ever c) c
ever_next ever c0 c kept order = record {
  up_to = λ n a h. up_to n a (with_cases ever c n a h);
  same = λ n a h e. same n a (with_cases ever c n a h) e;
  one = λ n a b h g. one n a b (with_cases ever c n a h) (with_cases ever c n b g);
}
  where
    low : (n : ℕ) (a : Action) → Contains ever (n, a) → (c ≡ c0) ⊎ (claim_number c0 < claim_number c) → n ≤ claim_number c
    low n a h (inl e) = let l : claim_number c ≡ claim_number c0 = ap claim_number e in let k = kept.up_to n a h in omega (l, k, arith)
    low n a h (inr l) = let k = kept.up_to n a h in omega (l, k, arith)

    held : (n : ℕ) (a : Action) → Contains ever (n, a) → n ≡ claim_number c → (c ≡ c0) ⊎ (claim_number c0 < claim_number c) → c ≡ Some (n, a)
    held n a h e (inl s) = s ∙ kept.same n a h (e ∙ ap claim_number s)
    held n a h e (inr l) = let k = kept.up_to n a h in absurd (omega (l, k, e, arith))

    up_to : (n : ℕ) (a : Action) → Contains ever (n, a) ⊎ (c ≡ Some (n, a)) → n ≤ claim_number c
    up_to n a (inl h) = low n a h order
    up_to n a (inr e) = let k : claim_number c ≡ n = ap claim_number e in omega (k, arith)

    same : (n : ℕ) (a : Action) → Contains ever (n, a) ⊎ (c ≡ Some (n, a)) → n ≡ claim_number c → c ≡ Some (n, a)
    same n a (inl h) e = held n a h e order
    same n a (inr e) f = e

    one : (n : ℕ) (a b : Action) → Contains ever (n, a) ⊎ (c ≡ Some (n, a)) → Contains ever (n, b) ⊎ (c ≡ Some (n, b)) → a ≡ b
    one n a b (inl h) (inl g) = kept.one n a b h g
    one n a b (inl h) (inr e) = same_action n a b (sym (held n a h (sym (ap claim_number e)) order) ∙ e)
    one n a b (inr e) (inl g) = same_action n a b (sym e ∙ held n b g (sym (ap claim_number e)) order)
    one n a b (inr e) (inr f) = same_action n a b (sym e ∙ f)

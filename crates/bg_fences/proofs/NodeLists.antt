-- The processes of the nodes that are up.
use Rattle.std.specs.Prelude.{◌≡◌, ◌⊎◌, Option, Some, None, List, [], ◌∷◌, ◌++◌, Contains}
use Rattle.std.proofs.Common.{refl, sym, ◌∙◌, ap, subst, inl, inr}
use Rattle.std.proofs.lemmas.Option.{same_Some}
use Rattle.bg_fences.specs.SharedMatches.{Becomes}
use Rattle.bg_fences.specs.SharedNodes.{held_by}
use Rattle.bg_fences.proofs.Lists.{head_in, tail_in, none_in, cases_in, each_becomes, of_one}

held_append : {C P : Type 0} (f : C → P) (a b : List (Option C)) → held_by f (a ++ b) ≡ held_by f a ++ held_by f b
held_append f [] b = refl
held_append f (None ∷ a) b = held_append f a b
held_append {C} {P} f (Some c ∷ a) b = ap (λ (l : List P). f c ∷ l) (held_append f a b)

pub held_becomes : {C P : Type 0} (f : C → P) (olds : List (Option C)) (c : C) (d : Option C) (news : List (Option C)) → Becomes olds (Some c) (d ∷ []) news
    → Becomes (held_by f olds) (f c) (held_by f (d ∷ [])) (held_by f news)
held_becomes {C} {P} f olds c d news h = (
  held_by f h.0,
  held_by f h.1,
  ap (held_by f) h.2 ∙ held_append f h.0 (Some c ∷ h.1),
  ap (held_by f) h.3 ∙ held_append f (h.0 ++ d ∷ []) h.1 ∙ ap (λ (l : List P). l ++ held_by f h.1) (held_append f h.0 (d ∷ [])),
)

none_some : {C : Type 0} (c : C) → ◌≡◌ {A = Option C} None (Some c) → ⊥
none_some c e = cc

held_in : {C P : Type 0} (f : C → P) (cs : List (Option C)) (x : P) → Contains (held_by f cs) x → (c : C) × Contains cs (Some c) × (f c ≡ x)
held_in f [] x k = absurd (none_in x k)
held_in f (None ∷ cs) x k = let w = held_in f cs x k in (w.0, tail_in None (Some w.0) cs w.1, w.2)
held_in {C} {P} f (Some d ∷ cs) x k = at_place (λ g. held_in f cs x g) (cases_in (f d) x (held_by f cs) k)
  where
    at_place : (Contains (held_by f cs) x → (c : C) × Contains cs (Some c) × (f c ≡ x)) → (f d ≡ x) ⊎ Contains (held_by f cs) x → (c : C) × Contains (Some d ∷ cs) (Some c) × (f c ≡ x)
    at_place again (inl e) = (d, head_in (Some d) cs, e)
    at_place again (inr g) = let w = again g in (w.0, tail_in (Some d) (Some w.0) cs w.1, w.2)

pub in_held : {C P : Type 0} (f : C → P) (cs : List (Option C)) (c : C) → Contains cs (Some c) → Contains (held_by f cs) (f c)
in_held f [] c k = absurd (none_in (Some c) k)
in_held {C} {P} f (None ∷ cs) c k = at_place (λ g. in_held f cs c g) (cases_in None (Some c) cs k)
  where
    at_place : (Contains cs (Some c) → Contains (held_by f cs) (f c)) → ◌≡◌ {A = Option C} None (Some c) ⊎ Contains cs (Some c) → Contains (held_by f cs) (f c)
    at_place again (inl e) = absurd (none_some c e)
    at_place again (inr g) = again g
in_held {C} {P} f (Some d ∷ cs) c k = at_place (λ g. in_held f cs c g) (cases_in (Some d) (Some c) cs k)
  where
    at_place : (Contains cs (Some c) → Contains (held_by f cs) (f c)) → ◌≡◌ {A = Option C} (Some d) (Some c) ⊎ Contains cs (Some c) → Contains (f d ∷ held_by f cs) (f c)
    at_place again (inl e) = subst (λ (x : C). Contains (f x ∷ held_by f cs) (f c)) (sym (same_Some d c e)) (head_in (f c) (held_by f cs))
    at_place again (inr g) = tail_in (f d) (f c) (held_by f cs) (again g)

-- what holds of the cores before, and of the one that came, holds of all
pub each_core : {C : Type 0} (Q : C → Type 0) (olds : List (Option C)) (c d : Option C) (news : List (Option C)) → Becomes olds c (d ∷ []) news
    → ((e : C) → Contains olds (Some e) → Q e) → ((e : C) → d ≡ Some e → Q e) → (e : C) → Contains news (Some e) → Q e
each_core {C} Q olds c d news h all new e k =
    each_becomes (λ (o : Option C). (x : C) → o ≡ Some x → Q x) olds c (d ∷ []) news h
    (λ o g x is. all x (subst (λ (y : Option C). Contains olds y) is g))
    (of_one (λ (o : Option C). (x : C) → o ≡ Some x → Q x) d new) (Some e) k e refl

pub each_held : {C P : Type 0} (f : C → P) (Q : P → Type 0) (olds : List (Option C)) (c d : Option C) (news : List (Option C)) → Becomes olds c (d ∷ []) news
    → ((x : P) → Contains (held_by f olds) x → Q x) → ((e : C) → d ≡ Some e → Q (f e)) → (x : P) → Contains (held_by f news) x → Q x
each_held {C} {P} f Q olds c d news h all new x k =
    let w = held_in f news x k in
    subst Q w.2 (each_core (λ (e : C). Q (f e)) olds c d news h (λ e g. all (f e) (in_held f olds e g)) new w.0 w.1)

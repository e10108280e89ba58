-- What the name of a match, and what stands behind it, name.
use Rattle.std.proofs.Common.{◌≡◌, ℕ, List, ◌∷◌, ◌++◌, Option, Some, None, refl, sym, ap, subst, ◌∙◌}
use Rattle.std.specs.Prelude.{IfSome, IsTrue, codes}
use denote.Bor.{Bor}
use Rattle.bg_requests.specs.Targets.{IsBehind, IsNamedBehind, IsOfMatch, IsWordOf, may_name}
use Rattle.bg_requests.specs.declared.targets.Part.{Part}
use Rattle.bg_requests.specs.declared.targets.Part.TheVariants as parts
use Rattle.bg_requests.specs.declared.targets.Target.{Target}
use Rattle.bg_requests.specs.declared.targets.Target.TheVariants as targets

behind_slash : (word : List ℕ) (part : Part) → IsWordOf word part → IsBehind (codes "/" ++ word) part
behind_slash word parts.Page none = absurd none
behind_slash word parts.Embed is = (word, is, refl)
behind_slash word parts.State is = (word, is, refl)
behind_slash word (parts.StateAfter count) is = (word, is, refl)
behind_slash word parts.Transcript is = (word, is, refl)
behind_slash word parts.Mat is = (word, is, refl)
behind_slash word parts.Picture is = (word, is, refl)
behind_slash word parts.Dice is = (word, is, refl)
behind_slash word parts.Actions is = (word, is, refl)
behind_slash word parts.Live is = (word, is, refl)

-- a name, and behind a slash the word of a part
pub named_behind : (rest : List ℕ) (name : Bor (List ℕ)) (word : List ℕ) (part : Option Part) (t : Target)
    → rest ≡ name.now ++ 47 ∷ word → IfSome part (IsWordOf word) → IsOfMatch name part t → IsNamedBehind rest t
named_behind rest name word (Some part) (targets.Of found given) is word_is of =
    let behind : IsBehind (codes "/" ++ word) given =
    subst (IsBehind (codes "/" ++ word)) (sym of.1) (behind_slash word part word_is) in
    let named : found.now ≡ name.now = ap (λ (b : Bor (List ℕ)). b.now) of.0 in (
      subst (λ (n : List ℕ). IsTrue (may_name n)) (sym named) of.2,
      (codes "/" ++ word, behind, is ∙ ap (λ (n : List ℕ). n ++ 47 ∷ word) (sym named)),
    )
named_behind rest name word None (targets.Of found given) is word_is of = absurd of
named_behind rest name word part targets.Nothing is word_is of = tt
named_behind rest name word part targets.Home is word_is of = elim part as (λ (p : Option Part). IsOfMatch name p targets.Home → ⊥) [ None ↦ λ h. h | Some p ↦ λ h. h ] of
named_behind rest name word part targets.Script is word_is of = elim part as (λ (p : Option Part). IsOfMatch name p targets.Script → ⊥) [ None ↦ λ h. h | Some p ↦ λ h. h ] of
named_behind rest name word part targets.Style is word_is of = elim part as (λ (p : Option Part). IsOfMatch name p targets.Style → ⊥) [ None ↦ λ h. h | Some p ↦ λ h. h ] of
named_behind rest name word part targets.Matches is word_is of = elim part as (λ (p : Option Part). IsOfMatch name p targets.Matches → ⊥) [ None ↦ λ h. h | Some p ↦ λ h. h ] of
named_behind rest name word part targets.Play is word_is of = elim part as (λ (p : Option Part). IsOfMatch name p targets.Play → ⊥) [ None ↦ λ h. h | Some p ↦ λ h. h ] of
named_behind rest name word part targets.PlayLive is word_is of = elim part as (λ (p : Option Part). IsOfMatch name p targets.PlayLive → ⊥) [ None ↦ λ h. h | Some p ↦ λ h. h ] of
named_behind rest name word part targets.Health is word_is of = elim part as (λ (p : Option Part). IsOfMatch name p targets.Health → ⊥) [ None ↦ λ h. h | Some p ↦ λ h. h ] of
named_behind rest name word part targets.Metrics is word_is of = elim part as (λ (p : Option Part). IsOfMatch name p targets.Metrics → ⊥) [ None ↦ λ h. h | Some p ↦ λ h. h ] of

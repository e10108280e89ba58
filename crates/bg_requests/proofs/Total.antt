-- What is named is not passed over.
use Rattle.std.proofs.Common.{◌≡◌, ◌≢◌, ◌⊎◌, inl, inr, ℕ, suc, ◌<◌, ◌&&◌, List, [], ◌∷◌, ◌++◌, length, get_or, Bool, true, false, Some, refl, sym, ap, subst, ◌∙◌, arith, append-nil}
use Rattle.std.specs.Prelude.{IsTrue, codes}
use Rattle.std.specs.List.{list_all}
use Rattle.std.proofs.lemmas.List.Folds.{list_all_at}
use Rattle.std.proofs.lemmas.Str.Pattern.{IsSplitOnceResult, split_after}
use denote.Bor.{Bor}
use Rattle.bg_requests.specs.Targets.{IsBehind, IsWord, IsWordOf, NamesSome, NamesSomeBehind, may_be_in_name, may_name}
use Rattle.bg_requests.specs.declared.targets.Part.{Part}
use Rattle.bg_requests.specs.declared.targets.Part.TheVariants as parts
use Rattle.bg_requests.specs.declared.targets.Target.TheVariants as targets

-- no byte of the list is a slash
abbrev pub HasNoSlash : List ℕ → Type 0
HasNoSlash xs = (i : ℕ) → i < length xs → get_or xs i 0 ≢ 47

and_left : (a b : Bool) → (a && b) ≡ true → a ≡ true
and_left true b h = refl
and_left false b h = cc

no_slash : (name : List ℕ) → IsTrue (may_name name) → HasNoSlash name
no_slash name ok i within is =
    let other : list_all may_be_in_name name ≡ false = list_all_at may_be_in_name name i 0 within (ap may_be_in_name is) in
    let all : list_all may_be_in_name name ≡ true = and_left (list_all may_be_in_name name) _ (and_left _ _ ok) in
    absurd (cc)

-- what stands behind a name is nothing, or a slash and a word
split_behind : (behind : List ℕ) (part : Part) → IsBehind behind part
    → (behind ≡ []) ⊎ ((word : List ℕ) × IsWordOf word part × (behind ≡ 47 ∷ word))
split_behind behind parts.Page is = inl is
split_behind behind parts.Embed is = inr is
split_behind behind parts.State is = inr is
split_behind behind (parts.StateAfter count) is = inr is
split_behind behind parts.Transcript is = inr is
split_behind behind parts.Mat is = inr is
split_behind behind parts.Picture is = inr is
split_behind behind parts.Dice is = inr is
split_behind behind parts.Actions is = inr is
split_behind behind parts.Live is = inr is

slash_within : (name word : List ℕ) → HasNoSlash (name ++ 47 ∷ word) → ⊥
slash_within [] word none = none 0 (omega arith) refl
slash_within (x ∷ name) word none = slash_within name word (λ i within. none (suc i) (omega (arith, within)))

-- what names something and has no slash is a name
pub whole_name : (rest : List ℕ) → HasNoSlash rest → NamesSomeBehind rest → IsTrue (may_name rest)
whole_name rest none (targets.Of name part, found, (ok, (behind, is_behind, is))) =
    elim (split_behind behind part is_behind) [
      | inl empty ↦ subst (λ (n : List ℕ). IsTrue (may_name n)) (sym (is ∙ ap (λ (b : List ℕ). name.now ++ b) empty ∙ append-nil name.now)) ok
      | inr w ↦ absurd (slash_within name.now w.0 (subst HasNoSlash (is ∙ ap (λ (b : List ℕ). name.now ++ b) w.2) none))
    ]
whole_name rest none (targets.Nothing, found, named) = absurd found
whole_name rest none (targets.Home, found, named) = absurd named
whole_name rest none (targets.Script, found, named) = absurd named
whole_name rest none (targets.Style, found, named) = absurd named
whole_name rest none (targets.Matches, found, named) = absurd named
whole_name rest none (targets.Play, found, named) = absurd named
whole_name rest none (targets.PlayLive, found, named) = absurd named
whole_name rest none (targets.Health, found, named) = absurd named
whole_name rest none (targets.Metrics, found, named) = absurd named

-- what names something, and is split at its first slash, is a name and a word
pub name_and_word : (rest : List ℕ) (split : Bor (List ℕ) × Bor (List ℕ)) → IsSplitOnceResult 47 rest (Some split)
    → rest ≡ split.0.now ++ 47 ∷ split.1.now → NamesSomeBehind rest
    → IsTrue (may_name split.0.now) × IsWord split.1.now
name_and_word rest split at joined (targets.Of name part, found, (ok, (behind, is_behind, is))) =
    elim (split_behind behind part is_behind) [
      | inl empty ↦ absurd (slash_within split.0.now split.1.now (subst HasNoSlash (sym (is ∙ ap (λ (b : List ℕ). name.now ++ b) empty ∙ append-nil name.now) ∙ joined) (no_slash name.now ok)))
      | inr w ↦
          let parted = split_after 47 rest name.now w.0 (Some split) at (omega arith) (is ∙ ap (λ (b : List ℕ). name.now ++ b) w.2) (no_slash name.now ok) in
          (subst (λ (n : List ℕ). IsTrue (may_name n)) (sym parted.0) ok, (part, subst (λ (word : List ℕ). IsWordOf word part) (sym parted.1) w.1))
    ]
name_and_word rest split at joined (targets.Nothing, found, named) = absurd found
name_and_word rest split at joined (targets.Home, found, named) = absurd named
name_and_word rest split at joined (targets.Script, found, named) = absurd named
name_and_word rest split at joined (targets.Style, found, named) = absurd named
name_and_word rest split at joined (targets.Matches, found, named) = absurd named
name_and_word rest split at joined (targets.Play, found, named) = absurd named
name_and_word rest split at joined (targets.PlayLive, found, named) = absurd named
name_and_word rest split at joined (targets.Health, found, named) = absurd named
name_and_word rest split at joined (targets.Metrics, found, named) = absurd named

-- the path is none of those without the name of a match
pub record IsOther (path : List ℕ) : Type 0 where
  pub home : path ≢ codes "/"
  pub script : path ≢ codes "/script.js"
  pub style : path ≢ codes "/style.css"
  pub matches : path ≢ codes "/matches"
  pub play : path ≢ codes "/play"
  pub live : path ≢ codes "/play/live"
  pub health : path ≢ codes "/health"
  pub metrics : path ≢ codes "/metrics"

-- such a path that names something has it behind the list's
pub named_behind_matches : (path : List ℕ) → IsOther path → NamesSome path
    → (rest : List ℕ) × (path ≡ codes "/matches/" ++ rest) × NamesSomeBehind rest
named_behind_matches path other (targets.Of name part, found, (rest, named, is)) = (rest, is, (targets.Of name part, found, named))
named_behind_matches path other (targets.Nothing, found, named) = absurd found
named_behind_matches path other (targets.Home, found, named) = absurd (other.home named)
named_behind_matches path other (targets.Script, found, named) = absurd (other.script named)
named_behind_matches path other (targets.Style, found, named) = absurd (other.style named)
named_behind_matches path other (targets.Matches, found, named) = absurd (other.matches named)
named_behind_matches path other (targets.Play, found, named) = absurd (other.play named)
named_behind_matches path other (targets.PlayLive, found, named) = absurd (other.live named)
named_behind_matches path other (targets.Health, found, named) = absurd (other.health named)
named_behind_matches path other (targets.Metrics, found, named) = absurd (other.metrics named)

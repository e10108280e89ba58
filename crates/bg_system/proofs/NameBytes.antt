-- The bytes of a name, of those that it is kept in.
use Rattle.std.proofs.Common.{◌≡◌, ◌∙◌, ℕ, ◌-◌, ◌≤◌, Bool, true, false, not, List, ◌++◌, length, take, drop, replicate, Option, Some, None, Result, Ok, Err, IsOk, MatchResult, IsUtf8, if◌then◌else◌, ap, arith, refl, rules, tests, sym, subst}
use Rattle.std.specs.Int.{is_in_range}
use Rattle.std.proofs.lemmas.List.{drop-replicate, length-append, length-drop, length-replicate, take_at}
use Rattle.std.specs.List.{list_any}
use Rattle.std.specs.Str.{chars}
use Rattle.bg_system.specs.Names.{IsName, has_outer_blank, is_unseen, name_fault}
use Rattle.bg_system.specs.declared.files.names.NameFault.TheVariants.{Length, Character, Blank}

-- what holds of the bytes that a name is kept in, of which so many are its own
abbrev pub IsKept : ℕ → List ℕ → Type 0
IsKept n bytes = (n ≤ 64) × (length bytes ≡ 64) × (bytes ≡ take n bytes ++ replicate (64 - n) 0) × IsName (take n bytes)

-- it holds of the bytes of a name that are written over zeros
pub written_over : (text new : List ℕ) → new ≡ text → length text ≤ 64 → IsName text
    → IsKept (length text) (new ++ drop (length text) (replicate 64 0))
written_over text new same few named =
    let left : drop (length text) (replicate 64 0) ≡ replicate (64 - length text) 0 = drop-replicate (length text) 64 0 in
    let own : take (length text) (text ++ drop (length text) (replicate 64 0)) ≡ text =
    take_at text (drop (length text) (replicate 64 0)) (length text) refl in
    let whole : length (text ++ drop (length text) (replicate 64 0)) ≡ 64 =
    omega (arith, few, length-append text (drop (length text) (replicate 64 0)), length-drop (length text) (replicate {A = ℕ} 64 0), length-replicate {A = ℕ} 64 0) in
    let padded : text ++ drop (length text) (replicate 64 0)
    ≡ take (length text) (text ++ drop (length text) (replicate 64 0)) ++ replicate (64 - length text) 0 =
    ap (λ (z : List ℕ). text ++ z) left ∙ ap (λ (t : List ℕ). t ++ replicate (64 - length text) 0) (sym own) in
    subst (λ (t : List ℕ). IsKept (length text) (t ++ drop (length text) (replicate 64 0))) (sym same)
    (few, whole, padded, subst IsName (sym own) named)

-- where the first fault of some is none, it is not there, and the others are none
pub no_first : {A : Type 0} (b : Bool) (fault : A) (others : Option A) → (if b then Some fault else others) ≡ None
    → (b ≡ false) × (others ≡ None)
no_first true fault others none = absurd (cc none)
no_first false fault others none = (refl, none)

-- a name has so many bytes at most
pub few_bytes : (text : List ℕ) → name_fault text ≡ None → length text ≤ 64
few_bytes text fine =
    let sized = no_first (not (is_in_range 1 64 (length text))) Length
    (if list_any is_unseen (chars text) then Some Character else if has_outer_blank text then Some Blank else None) fine in
    grind (arith, tests, sized.0)

-- bytes of a text are read as one
pub is_read : {T E : Type 0} (P : T → Type 0) (Q : E → Type 0) (bytes : List ℕ) (r : Result T E) → IsUtf8 bytes
    → MatchResult r P (λ e. (IsUtf8 bytes → ⊥) × Q e) → IsOk r
is_read P Q bytes (Ok text) fine read = search rules
is_read P Q bytes (Err error) fine read = absurd (read.0 fine)

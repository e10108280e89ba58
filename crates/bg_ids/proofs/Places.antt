-- The places of an XGID.
use Rattle.std.proofs.Common.{◌≡◌, ◌≤◌, ◌+◌, ℕ, List, [], ◌∷◌, ◌++◌, length, map, refl, ap, sym, ◌∙◌, arith, append_assoc}
use mir.Val.{bool_byte}
use Rattle.std.specs.Prelude.{Bool, true, false}
use Rattle.std.specs.List.{range_with_len}
use Rattle.std.proofs.lemmas.List.{length-append}
use Rattle.std.proofs.lemmas.List.FromFn.{map-range_with_len_more}
use Rattle.bg_board.specs.Position.{Position}
use Rattle.bg_ids.specs.MatchIds.{yes_number}
use Rattle.bg_ids.specs.Xgids.{place_mark, places_text}

-- one place more
pub places_more : (b : Position) (old text new : List ℕ) (n mark : ℕ)
    → text ≡ old ++ map (place_mark b) (range_with_len 0 n) → mark ≡ place_mark b n → new ≡ text ++ mark ∷ []
    → new ≡ old ++ map (place_mark b) (range_with_len 0 (n + 1))
places_more b old text new n mark e is added =
    added ∙ rw (e, is) (append_assoc old (map (place_mark b) (range_with_len 0 n)) (place_mark b n ∷ []))
    ∙ ap (λ t. old ++ t) (sym (map-range_with_len_more (place_mark b) 0 n n (omega arith)))

-- all places
pub places_end : (b : Position) (old text : List ℕ) (n : ℕ) → n ≤ 26 → 26 ≤ n
    → text ≡ old ++ map (place_mark b) (range_with_len 0 n) → text ≡ old ++ places_text b
unfolding places_text
places_end b old text n most least e =
    let all : n ≡ 26 = omega arith in
    e ∙ ap (λ k. old ++ map (place_mark b) (range_with_len 0 k)) all

pub pushed_length : (text new : List ℕ) (before n mark : ℕ) → length text ≡ before + n → new ≡ text ++ mark ∷ []
    → length new ≡ before + (n + 1)
pushed_length text new before n mark e added = ap length added ∙ length-append text (mark ∷ []) ∙ omega (arith, e)

-- a test as a number
pub yes_byte : (b : Bool) → bool_byte b ≡ yes_number b
yes_byte true = refl
yes_byte false = refl

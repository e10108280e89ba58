-- Typed texts, spelled and read: computed.
use Rattle.std.specs.Prelude.{◌≡◌, ◌≤◌, ◌<◌, ℕ, Bool, true, false, List, [], ◌∷◌, ◌++◌, codes}
use Rattle.std.proofs.Common.{refl, inl, inr, arith}
use Rattle.bg_mat.specs.Legs.{IsPointText, TellsWord, mark}
use Rattle.bg_mat.specs.Rows.Numbers.{IsNumber}
use Rattle.bg_mat.specs.declared.movements.legs.Leg.{Leg}
use Rattle.bg_mat.proofs.OfWriting.PlainTexts.{no_blanks, one_blank, plain_by, word_first}
use Rattle.bg_typed.specs.Spelling.{spelled}
use Rattle.bg_typed.specs.TypedWords.{TellsTyped}
use Rattle.bg_typed.proofs.ReadWords.{no_words, word_before}

-- capital letters, hyphens and commas
made_point : spelled (codes "M 8-5,6-5") ≡ codes "m 8/5 6/5"
made_point = refl

-- lone letters, behind a blank or a slash
entered : spelled (codes "b-20 b/24*") ≡ codes "bar/20 bar/24*"
entered = refl

left : spelled (codes "6/O(2) 5/o* 4-o") ≡ codes "6/off(2) 5/off* 4/off"
left = refl

-- letters of words stay
kept : spelled (codes "Bar/20 6/Off bob b20 4/ob") ≡ codes "bar/20 6/off bob b20 4/ob"
kept = refl

-- as does a letter that a mark or a bracket stands before
behind_marks : spelled (codes "*b (o") ≡ codes "*b (o"
behind_marks = refl

-- a leg from a point to another one, where it hits or not
abbrev leg : ℕ → ℕ → Bool → Leg
leg from to hits = record { step = record { from = from; to = to }; hits = hits }

one_leg : (word start rest point : List ℕ) (from to : ℕ) (hits : Bool) → word ≡ start ++ rest → IsPointText start from
    → rest ≡ 47 ∷ ((point ++ mark hits) ++ []) → IsPointText point to → from ≤ 25 → to < from
    → TellsWord word (leg from to hits ∷ [])
one_leg word start rest point from to hits e starts d ends low lower = (
  word,
  1,
  leg from to hits ∷ [],
  inl (refl, refl),
  (
    from,
    start,
    rest,
    e,
    starts,
    (
      point ++ mark hits,
      [],
      d,
      record { point = point; starts = refl; on_board = low; lower = lower; ends = ends; marked = refl },
      refl,
    ),
    λ none. absurd (cc (none)),
  ),
  refl,
)

twenty : IsNumber (codes "20") 20
twenty = record { digits = refl; some = omega arith; few = omega arith; value = refl }

six : IsNumber (codes "6") 6
six = record { digits = refl; some = omega arith; few = omega arith; value = refl }

-- from the bar with a hit, and off
bar_and_off : TellsTyped (codes "M B/20*,6-O") (leg 25 20 true ∷ leg 6 0 false ∷ [])
bar_and_off = (
  codes " bar/20* 6/off",
  inr (codes "m", word_first [] (codes "m") (codes " bar/20* 6/off") no_blanks (plain_by (codes "m") refl) (omega arith) refl, inl refl),
  word_before (codes " bar/20* 6/off") (codes "bar/20*") (codes " 6/off") (leg 25 20 true ∷ []) (leg 6 0 false ∷ [])
      (word_first (codes " ") (codes "bar/20*") (codes " 6/off") one_blank (plain_by (codes "bar/20*") refl) (omega arith) refl)
      (one_leg (codes "bar/20*") (codes "bar") (codes "/20*") (codes "20") 25 20 true refl (inl (refl, refl)) refl (inr (inr twenty)) (omega arith) (omega arith))
      (word_before (codes " 6/off") (codes "6/off") [] (leg 6 0 false ∷ []) []
      (word_first (codes " ") (codes "6/off") [] one_blank (plain_by (codes "6/off") refl) (omega arith) tt)
      (one_leg (codes "6/off") (codes "6") (codes "/off") (codes "off") 6 0 false refl (inr (inr six)) refl (inr (inl (refl, refl))) (omega arith) (omega arith))
      (no_words [] no_blanks)),
)

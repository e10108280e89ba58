-- What stands behind the blanks of a text, and what does not.
use Rattle.std.specs.Prelude.{◌≡◌, ◌==◌, ℕ, suc, ◌+◌, ◌<◌, ◌≤◌, true, false, List, [], ◌∷◌, ◌++◌, codes, length, take, drop}
use Rattle.std.specs.Char.{is_ascii_digit}
use Rattle.std.specs.List.{All}
use Rattle.std.proofs.Common.{refl, sym, ◌∙◌, ap, subst, arith}
use Rattle.std.proofs.lemmas.Bool.{ne_eqb}
use Rattle.bg_turns.specs.Dice.{first_pips, second_pips}
use Rattle.bg_turns.specs.declared.throws.Dice.{Dice}
use Rattle.bg_mat.specs.Rows.Cells.{AreDice, BeginsArrow, BeginsDice, EndsName, HasRowNumber, IsNameText, SaysDouble, ends_name}
use Rattle.bg_mat.specs.Rows.Numbers.{BeginsNoDigit, IsDigits}
use Rattle.bg_mat.specs.Rows.Words.{BeginsSolid, IsBlankText, IsEither}
use Rattle.bg_mat.proofs.OfReading.CellLemmas.{name_first, name_high}
use Rattle.bg_mat.proofs.OfReading.MovementLemmas.{AllOf, StopsAt, all_weaker, cut_same}
use Rattle.bg_mat.proofs.OfReading.Openings.{blanks_same, dice_solid, digits_all, digits_solid}

all_of : (P : ℕ → Type 0) (text : List ℕ) → All P text → AllOf P text
all_of P [] h = tt
all_of P (x ∷ text) h = (h 0 0 (omega arith), all_of P text (λ k d l. h (suc k) d (omega arith)))

-- an arrow
pub no_arrow : (text gap rest : List ℕ) → IsBlankText gap → text ≡ gap ++ rest → BeginsSolid rest
    → ((r : List ℕ) → rest ≡ 61 ∷ 62 ∷ r → ⊥) → (r : List ℕ) → BeginsArrow text r → ⊥
no_arrow text gap rest blank e solid none r (b, other, d) =
    none r (blanks_same gap rest b (61 ∷ 62 ∷ r) (sym e ∙ d) blank other solid refl).1

pub an_arrow : (text gap rest r : List ℕ) → IsBlankText gap → text ≡ gap ++ rest → rest ≡ 61 ∷ 62 ∷ r → BeginsArrow text r
an_arrow text gap rest r blank e h = (gap, blank, e ∙ ap (λ (t : List ℕ). gap ++ t) h)

-- the name of a double
high_name : (b : ℕ) → 65 ≤ b → ends_name b ≡ false
high_name b high =
    let space : (b == 32) ≡ false = ne_eqb b 32 (λ e. omega (arith, e, high)) in
    let tab : (b == 9) ≡ false = ne_eqb b 9 (λ e. omega (arith, e, high)) in
    let end : (b == 13) ≡ false = ne_eqb b 13 (λ e. omega (arith, e, high)) in
    let sign : (b == 61) ≡ false = ne_eqb b 61 (λ e. omega (arith, e, high)) in
    rw (space, tab, end, sign) refl

name_ends : (rest : List ℕ) → EndsName rest → StopsAt (λ b. ends_name b ≡ false) rest
name_ends [] h = tt
name_ends (x ∷ rest) h = λ k. absurd (cc (h, k))

pub no_double_name : (text gap rest word after : List ℕ) → IsBlankText gap → text ≡ gap ++ rest → BeginsSolid rest
    → rest ≡ word ++ after → IsNameText word → EndsName after → (IsEither word (codes "Double") (codes "Doubles") → ⊥)
    → (r : List ℕ) → SaysDouble text r → ⊥
no_double_name text gap rest word after blank e solid cut name ends none r f =
    let same = (blanks_same gap rest f.blanks (f.word ++ r) (sym e ∙ f.spelled) blank f.blank solid (name_first f.word r f.is)).1 in
    let words = (cut_same (λ b. ends_name b ≡ false) word after f.word r (sym cut ∙ same) (all_of (λ b. ends_name b ≡ false) word name)
    (all_weaker (λ b. 65 ≤ b) (λ b. ends_name b ≡ false) high_name f.word (name_high f.word f.is)) (name_ends after ends) (name_ends r f.ends)).0 in
    none (subst (λ (w : List ℕ). IsEither w (codes "Double") (codes "Doubles")) (sym words) f.is)

-- the number of a row
digit_ends : (rest : List ℕ) → BeginsNoDigit rest → StopsAt (λ b. is_ascii_digit b ≡ true) rest
digit_ends [] h = tt
digit_ends (x ∷ rest) h = λ k. absurd (cc (h, k))

pub number_cut : (line gap text digits rest r : List ℕ) → IsBlankText gap → line ≡ gap ++ text → BeginsSolid text
    → text ≡ digits ++ rest → IsDigits digits → BeginsNoDigit rest → (f : HasRowNumber line r)
    → (digits ≡ f.digits) × (rest ≡ codes ")" ++ r)
number_cut line gap text digits rest r blank e solid cut all ends f =
    let same = (blanks_same gap text f.blanks (f.digits ++ (codes ")" ++ r)) (sym e ∙ f.spelled) blank f.blank solid
    (digits_solid f.digits (codes ")" ++ r) f.n f.number)).1 in
    cut_same (λ b. is_ascii_digit b ≡ true) digits rest f.digits (codes ")" ++ r) (sym cut ∙ same)
    (all_of (λ b. is_ascii_digit b ≡ true) digits all) (digits_all f.digits f.number.digits) (digit_ends rest ends)
    (λ h. absurd (cc (h)))

-- dice
pub short_dice : (text gap rest : List ℕ) → IsBlankText gap → text ≡ gap ++ rest → BeginsSolid rest → length rest < 3
    → (dice : Dice) (r : List ℕ) → BeginsDice text dice r → ⊥
short_dice text gap rest blank e solid few dice r f =
    let same = (blanks_same gap rest f.blanks ((48 + first_pips dice) ∷ (48 + second_pips dice) ∷ 58 ∷ r) (sym e ∙ f.spelled)
    blank f.blank solid (dice_solid dice)).1 in
    let size : length rest ≡ suc (suc (suc (length r))) = ap (λ (t : List ℕ). length t) same in
    omega (arith, size, few)

pub other_dice : (text gap rest : List ℕ) → IsBlankText gap → text ≡ gap ++ rest → BeginsSolid rest
    → ((dice : Dice) → AreDice (take 3 rest) dice → ⊥) → (dice : Dice) (r : List ℕ) → BeginsDice text dice r → ⊥
other_dice text gap rest blank e solid none dice r f =
    let same = (blanks_same gap rest f.blanks ((48 + first_pips dice) ∷ (48 + second_pips dice) ∷ 58 ∷ r) (sym e ∙ f.spelled)
    blank f.blank solid (dice_solid dice)).1 in
    none dice (ap (λ (t : List ℕ). take 3 t) same)

three_front : (rest : List ℕ) → 3 ≤ length rest → rest ≡ take 3 rest ++ drop 3 rest
three_front [] few = absurd (omega arith)
three_front (a ∷ []) few = absurd (omega arith)
three_front (a ∷ b ∷ []) few = absurd (omega arith)
three_front (a ∷ b ∷ c ∷ rest) few = refl

pub the_dice : (text gap rest word after : List ℕ) (dice : Dice) → IsBlankText gap → text ≡ gap ++ rest → word ≡ take 3 rest
    → after ≡ drop 3 rest → 3 ≤ length rest → AreDice word dice → BeginsDice text dice after
the_dice text gap rest word after dice blank e w a few is = record {
  blanks = gap;
  blank = blank;
  spelled = e ∙ ap (λ (t : List ℕ). gap ++ t)
      (three_front rest few ∙ (ap (λ (t : List ℕ). t ++ drop 3 rest) (sym w ∙ is) ∙ ap (λ (t : List ℕ). (48 + first_pips dice) ∷ (48 + second_pips dice) ∷ 58 ∷ t) (sym a)));
}

-- Which words begin no double, no points, no win, and nothing in place of a movement.
use Rattle.std.specs.Prelude.{◌≡◌, ◌==◌, ℕ, Bool, true, false, Option, Some, None, List, [], ◌∷◌, codes}
use Rattle.std.proofs.Common.{refl, subst}
use Rattle.std.specs.List.{All}
use Rattle.bg_mat.specs.Rows.Cells.{BeginsArrow, EndsWin, SaysCannotMove, SaysDouble, SaysUnknown, TellsDouble, TellsPoints, TellsWin, ending}
use Rattle.bg_mat.specs.Rows.Headings.{IsPoints}
use Rattle.bg_mat.specs.Rows.Numbers.{IsNumber}
use Rattle.bg_mat.specs.Rows.Words.{IsBlankText, IsFirstWord, Says, SaysAll, SaysEither}
use Rattle.bg_mat.specs.declared.rows.cells.Win.{Win}
use Rattle.bg_mat.proofs.OfReading.CellLemmas.{arrow_same, doubles_same, points_same}
use Rattle.bg_mat.proofs.OfReading.HeadingLemmas.{either_rest, says_rest}
use Rattle.bg_mat.proofs.OfReading.WordLemmas.{first_word_same, no_first_word}

pub no_points_word : (text : List ℕ) → IsBlankText text → (n : ℕ) (r : List ℕ) → TellsPoints text n r → ⊥
no_points_word text blank n r (number, word, (after, first, (behind, second, is)), digits, points) =
    no_first_word text number after blank first

-- the words of points
points_words : (text number rest : List ℕ) (n : ℕ) (r : List ℕ) → IsFirstWord text number rest → TellsPoints text n r
    → IsNumber number n × ((word behind : List ℕ) × IsFirstWord rest word behind × IsPoints word)
points_words text number rest n r first (other, word, (after, one, (behind, second, is)), digits, points) =
    let both = first_word_same text other after number rest one first in (
      subst (λ (w : List ℕ). IsNumber w n) both.0 digits,
      (word, behind, subst (λ (t : List ℕ). IsFirstWord t word behind) both.1 second, points),
    )

pub no_points_number : (text number rest : List ℕ) → IsFirstWord text number rest → ((n : ℕ) → IsNumber number n → ⊥)
    → (n : ℕ) (r : List ℕ) → TellsPoints text n r → ⊥
no_points_number text number rest first none n r h = none n (points_words text number rest n r first h).0

pub no_points_end : (text number rest : List ℕ) → IsFirstWord text number rest → IsBlankText rest
    → (n : ℕ) (r : List ℕ) → TellsPoints text n r → ⊥
no_points_end text number rest first blank n r h =
    let (word, behind, second, points) = (points_words text number rest n r first h).1 in
    no_first_word rest word behind blank second

pub no_points_name : (text number rest word behind : List ℕ) → IsFirstWord text number rest → IsFirstWord rest word behind
    → (IsPoints word → ⊥) → (n : ℕ) (r : List ℕ) → TellsPoints text n r → ⊥
no_points_name text number rest word behind first second none n r h =
    let (other, end, two, points) = (points_words text number rest n r first h).1 in
    none (subst IsPoints (first_word_same rest other end word behind two second).0 points)

-- what follows the name of a double
pub no_double_word : (text : List ℕ) → ((r : List ℕ) → SaysDouble text r → ⊥) → (n : Option ℕ) (r : List ℕ) → TellsDouble text n r → ⊥
no_double_word text none None r (is, never) = none r is
no_double_word text none (Some n) r (after, behind, number, is, arrow, first, digits) = none after is

-- the number of a double
double_number : (text after behind : List ℕ) (n : Option ℕ) (r : List ℕ) → SaysDouble text after → BeginsArrow after behind
    → TellsDouble text n r → (m : ℕ) × (number : List ℕ) × IsFirstWord behind number r × IsNumber number m
double_number text after behind None r first second (is, never) =
    absurd (never behind (subst (λ (t : List ℕ). BeginsArrow t behind) (doubles_same text after r first is) second))
double_number text after behind (Some n) r first second (then, beyond, number, is, arrow, one, digits) =
    let a = doubles_same text then after is first in
    let b = arrow_same after beyond behind (subst (λ (t : List ℕ). BeginsArrow t beyond) a arrow) second in
    (n, number, subst (λ (t : List ℕ). IsFirstWord t number r) b one, digits)

pub no_double_end : (text after behind : List ℕ) → SaysDouble text after → BeginsArrow after behind → IsBlankText behind
    → (n : Option ℕ) (r : List ℕ) → TellsDouble text n r → ⊥
no_double_end text after behind first second blank n r h =
    let (m, number, third, digits) = double_number text after behind n r first second h in
    no_first_word behind number r blank third

pub no_double_number : (text after behind word rest : List ℕ) → SaysDouble text after → BeginsArrow after behind
    → IsFirstWord behind word rest → ((n : ℕ) → IsNumber word n → ⊥) → (n : Option ℕ) (r : List ℕ) → TellsDouble text n r → ⊥
no_double_number text after behind word rest first second third none n r h =
    let (m, number, three, digits) = double_number text after behind n r first second h in
    none m (subst (λ (w : List ℕ). IsNumber w m) (first_word_same behind number r word rest three third).0 digits)

pub no_win_word : (text : List ℕ) → ((r : List ℕ) → SaysEither text (codes "Win") (codes "Wins") r → ⊥)
    → (w : Win) (r : List ℕ) → TellsWin text w r → ⊥
no_win_word text none w r (after, behind, first, points, begins, ends) = none after first

pub no_win_points : (text after : List ℕ) → SaysEither text (codes "Win") (codes "Wins") after
    → ((n : ℕ) (r : List ℕ) → TellsPoints after n r → ⊥) → (w : Win) (r : List ℕ) → TellsWin text w r → ⊥
no_win_points text after first none w r (then, behind, one, points, begins, ends) =
    let same = either_rest text (codes "Win") (codes "Wins") (codes "Win") (codes "Wins") then after one first in
    none w.points behind (subst (λ (t : List ℕ). TellsPoints t w.points behind) same points)

-- a win that goes on with `and` ends the match
no_ending : (b : Bool) (text end r : List ℕ) → Says text (codes "and") end
    → ((s : List ℕ) → SaysAll end (codes "the" ∷ codes "match" ∷ []) s → ⊥) → SaysAll text (ending b) r
    → (b ≡ false → EndsWin r) → ⊥
no_ending true text end r first none (after, one, more) ends =
    let same = says_rest text (codes "and") (codes "and") after end one first in
    none r (subst (λ (t : List ℕ). SaysAll t (codes "the" ∷ codes "match" ∷ []) r) same more)
no_ending false text end r first none is ends =
    ends refl end (subst (λ (t : List ℕ). Says t (codes "and") end) is first)

pub no_win_end : (text after behind end : List ℕ) (points : ℕ) → SaysEither text (codes "Win") (codes "Wins") after
    → TellsPoints after points behind → Says behind (codes "and") end
    → ((s : List ℕ) → SaysAll end (codes "the" ∷ codes "match" ∷ []) s → ⊥) → (w : Win) (r : List ℕ) → TellsWin text w r → ⊥
no_win_end text after behind end points first told second none w r (then, beyond, one, more, begins, ends) =
    let a = either_rest text (codes "Win") (codes "Wins") (codes "Win") (codes "Wins") then after one first in
    let b = (points_same after w.points points beyond behind
    (subst (λ (t : List ℕ). TellsPoints t w.points beyond) a more) told).1 in
    no_ending w.ends_match behind end r second none
    (subst (λ (t : List ℕ). SaysAll t (ending w.ends_match) r) b begins) ends

pub no_the : (end : List ℕ) → ((r : List ℕ) → Says end (codes "the") r → ⊥)
    → (s : List ℕ) → SaysAll end (codes "the" ∷ codes "match" ∷ []) s → ⊥
no_the end none s (after, first, more) = none after first

pub no_match : (end behind : List ℕ) → Says end (codes "the") behind
    → ((r : List ℕ) → Says behind (codes "match") r → ⊥)
    → (s : List ℕ) → SaysAll end (codes "the" ∷ codes "match" ∷ []) s → ⊥
no_match end behind first none s (after, one, (last, second, is)) =
    let same = says_rest end (codes "the") (codes "the") after behind one first in
    none last (subst (λ (t : List ℕ). Says t (codes "match") last) same second)

-- a player who can't move
pub no_cannot : (text : List ℕ) → ((r : List ℕ) → Says text (codes "Cannot") r → ⊥) → (s : List ℕ) → SaysCannotMove text s → ⊥
no_cannot text none s (after, first, more) = none after first

pub no_move : (text behind : List ℕ) → Says text (codes "Cannot") behind → ((r : List ℕ) → Says behind (codes "Move") r → ⊥)
    → (s : List ℕ) → SaysCannotMove text s → ⊥
no_move text behind first none s (after, one, (last, second, is)) =
    let same = says_rest text (codes "Cannot") (codes "Cannot") after behind one first in
    none last (subst (λ (t : List ℕ). Says t (codes "Move") last) same second)

pub cannot_move : (text behind : List ℕ) → Says text (codes "Cannot") behind → (r : List ℕ) → Says behind (codes "Move") r
    → SaysCannotMove text r
cannot_move text behind first r second = (behind, first, (r, second, refl))

-- a turn that is not known
pub no_unknown_word : (text : List ℕ) → IsBlankText text → (r : List ℕ) → SaysUnknown text r → ⊥
no_unknown_word text blank r (word, first, marks) = no_first_word text word r blank first

pub no_unknown : (text word rest : List ℕ) → IsFirstWord text word rest → (All (λ byte. (byte == 63) ≡ true) word → ⊥)
    → (r : List ℕ) → SaysUnknown text r → ⊥
no_unknown text word rest first none r (other, one, marks) =
    none (subst (λ (w : List ℕ). All (λ byte. (byte == 63) ≡ true) w) (first_word_same text other r word rest one first).0 marks)

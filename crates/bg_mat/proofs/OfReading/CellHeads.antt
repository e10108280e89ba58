-- What a cell begins with, and what it is not.
use Rattle.std.specs.Prelude.{◌≡◌, ◌==◌, ℕ, ◌+◌, ◌<◌, ◌≤◌, nat_lt, Some, None, List, codes, if◌then◌else◌}
use Rattle.std.proofs.Common.{refl, sym, ◌∙◌, ap, inl, inr, arith}
use Rattle.bg_board.specs.Die.{pips}
use Rattle.bg_board.specs.declared.dice.Die.{Die}
use Rattle.bg_board.specs.declared.dice.Die.TheVariants.{One, Two, Three, Four, Five, Six}
use Rattle.bg_turns.specs.Dice.{first_pips, second_pips}
use Rattle.bg_mat.specs.Rows.Cells.{EndsMovement, EndsWin, HasRowNumber, MayMove, SaysDouble, TellsCell}
use Rattle.bg_mat.specs.Rows.Words.{IsBlankText, IsEither, Says}
use Rattle.bg_mat.specs.declared.rows.cells.Cell.{Cell}
use Rattle.bg_mat.specs.declared.rows.cells.Cell.TheVariants.{Turn, CannotMove, Unknown, Doubles, Takes, Drops, Wins}
use Rattle.bg_mat.proofs.OfReading.HeadingLemmas.{no_says}
use Rattle.bg_mat.proofs.OfReading.Openings.{Opens, blank_may, dice_no_movement, dice_no_number, dice_open, either_open, first_few, letters_no_movement, letters_open, number_opens, opens_may, opens_same, says_open}
use Rattle.bg_mat.proofs.OfReading.WordLemmas.{no_first_word}

-- the first two letters or digits of a cell
abbrev pub first_of : Cell → ℕ
first_of (Turn dice legs) = 48 + first_pips dice
first_of (CannotMove dice) = 48 + first_pips dice
first_of (Unknown dice) = 48 + first_pips dice
first_of (Doubles shows) = 100
first_of Takes = 116
first_of Drops = 100
first_of (Wins win) = 119

abbrev pub second_of : Cell → ℕ
second_of (Turn dice legs) = 48 + second_pips dice
second_of (CannotMove dice) = 48 + second_pips dice
second_of (Unknown dice) = 48 + second_pips dice
second_of (Doubles shows) = 111
second_of Takes = 97
second_of Drops = 114
second_of (Wins win) = 105

double_open : (text rest : List ℕ) → SaysDouble text rest → Opens text 100 111
double_open text rest f = at f.is where
  at : IsEither f.word (codes "Double") (codes "Doubles") → Opens text 100 111
  at (inl is) = letters_open text f.blanks f.word rest 100 111 (codes "uble") f.blank f.spelled is (omega arith)
  at (inr is) = letters_open text f.blanks f.word rest 100 111 (codes "ubles") f.blank f.spelled is (omega arith)

pub cell_opens : (text : List ℕ) (c : Cell) (rest : List ℕ) → TellsCell text c rest → Opens text (first_of c) (second_of c)
cell_opens text (Turn dice legs) rest (after, is, may, more, few, ends) = dice_open text dice after is
cell_opens text (CannotMove dice) rest (after, is, more) = dice_open text dice after is
cell_opens text (Unknown dice) rest (after, is, more) = dice_open text dice after is
cell_opens text (Doubles None) rest (is, none) = double_open text rest is
cell_opens text (Doubles (Some n)) rest (after, behind, number, is, arrow, first, digits) = double_open text after is
cell_opens text Takes rest is =
    either_open text (codes "Take") (codes "Takes") rest 116 97 (codes "ke") (codes "kes") is refl refl (omega arith)
cell_opens text Drops rest is =
    either_open text (codes "Drop") (codes "Drops") rest 100 114 (codes "op") (codes "ops") is refl refl (omega arith)
cell_opens text (Wins win) rest (after, behind, is, points, begins, ends) =
    either_open text (codes "Win") (codes "Wins") after 119 105 (codes "n") (codes "ns") is refl refl (omega arith)

-- the first one is a digit, or one of three letters
first_is : (c : Cell) (n : ℕ) → first_of c ≡ n → (n < 49 → ⊥) × ((55 ≤ n) × (n < 100) → ⊥) × ((101 ≤ n) × (n < 116) → ⊥)
first_is (Turn dice legs) n e = let few = first_few dice in (λ h. omega (arith, e, h, few.0), λ h. omega (arith, e, h.0, few.1), λ h. omega (arith, e, h.0, few.1))
first_is (CannotMove dice) n e = let few = first_few dice in (λ h. omega (arith, e, h, few.0), λ h. omega (arith, e, h.0, few.1), λ h. omega (arith, e, h.0, few.1))
first_is (Unknown dice) n e = let few = first_few dice in (λ h. omega (arith, e, h, few.0), λ h. omega (arith, e, h.0, few.1), λ h. omega (arith, e, h.0, few.1))
first_is (Doubles shows) n e = (λ h. omega (arith, e, h), λ h. omega (arith, e, h.1), λ h. omega (arith, e, h.0))
first_is Takes n e = (λ h. omega (arith, e, h), λ h. omega (arith, e, h.1), λ h. omega (arith, e, h.1))
first_is Drops n e = (λ h. omega (arith, e, h), λ h. omega (arith, e, h.1), λ h. omega (arith, e, h.0))
first_is (Wins win) n e = (λ h. omega (arith, e, h), λ h. omega (arith, e, h.1), λ h. omega (arith, e, h.1))

-- a text that opens otherwise is no cell
pub opens_no_cell : (text : List ℕ) (c : Cell) (rest : List ℕ) (first second : ℕ) → TellsCell text c rest → Opens text first second
    → (first < 49 → ⊥) × ((55 ≤ first) × (first < 100) → ⊥) × ((101 ≤ first) × (first < 116) → ⊥)
opens_no_cell text c rest first second tells o =
    first_is c first (opens_same text (first_of c) (second_of c) first second (cell_opens text c rest tells) o).0

-- a cell begins no comment
pub cell_semicolon : (c : Cell) → first_of c ≡ 59 → ⊥
cell_semicolon c e = (first_is c 59 e).1 (omega arith, omega arith)

-- it says neither of these words
pub cell_and : (text : List ℕ) (c : Cell) (rest behind : List ℕ) → TellsCell text c rest → Says text (codes "and") behind → ⊥
cell_and text c rest behind tells f =
    (opens_no_cell text c rest 97 110 tells (says_open text (codes "and") behind 97 110 (codes "d") f refl (omega arith))).1
    (omega arith, omega arith)

pub cell_game : (text : List ℕ) (c : Cell) (rest behind : List ℕ) → TellsCell text c rest → Says text (codes "Game") behind → ⊥
cell_game text c rest behind tells f =
    (opens_no_cell text c rest 103 97 tells (says_open text (codes "Game") behind 103 97 (codes "me") f refl (omega arith))).2
    (omega arith, omega arith)

-- no word of a movement begins it
pub cell_no_movement : (text : List ℕ) (c : Cell) (rest : List ℕ) → TellsCell text c rest → EndsMovement text
cell_no_movement text (Turn dice legs) rest (after, is, may, more, few, ends) = dice_no_movement text dice after is
cell_no_movement text (CannotMove dice) rest (after, is, more) = dice_no_movement text dice after is
cell_no_movement text (Unknown dice) rest (after, is, more) = dice_no_movement text dice after is
cell_no_movement text (Doubles shows) rest tells =
    letters_no_movement text 100 111 (cell_opens text (Doubles shows) rest tells) (omega arith) (λ e. omega (arith, e)) (λ e. omega (arith, e))
cell_no_movement text Takes rest tells =
    letters_no_movement text 116 97 (cell_opens text Takes rest tells) (omega arith) (λ e. omega (arith, e)) (λ e. omega (arith, e))
cell_no_movement text Drops rest tells =
    letters_no_movement text 100 114 (cell_opens text Drops rest tells) (omega arith) (λ e. omega (arith, e)) (λ e. omega (arith, e))
cell_no_movement text (Wins win) rest tells =
    letters_no_movement text 119 105 (cell_opens text (Wins win) rest tells) (omega arith) (λ e. omega (arith, e)) (λ e. omega (arith, e))

-- the number of a row is no cell
pub cell_no_number : (text : List ℕ) (c : Cell) (rest behind : List ℕ) → TellsCell text c rest → HasRowNumber text behind → ⊥
cell_no_number text (Turn dice legs) rest behind (after, is, may, more, few, ends) number = dice_no_number text after behind dice is number
cell_no_number text (CannotMove dice) rest behind (after, is, more) number = dice_no_number text after behind dice is number
cell_no_number text (Unknown dice) rest behind (after, is, more) number = dice_no_number text after behind dice is number
cell_no_number text (Doubles shows) rest behind tells number =
    let low = number_opens text behind 100 111 number (cell_opens text (Doubles shows) rest tells) in omega (arith, low)
cell_no_number text Takes rest behind tells number =
    let low = number_opens text behind 116 97 number (cell_opens text Takes rest tells) in omega (arith, low)
cell_no_number text Drops rest behind tells number =
    let low = number_opens text behind 100 114 number (cell_opens text Drops rest tells) in omega (arith, low)
cell_no_number text (Wins win) rest behind tells number =
    let low = number_opens text behind 119 105 number (cell_opens text (Wins win) rest tells) in omega (arith, low)

-- which kind of cell it is: dice, a double, an answer or a win
abbrev pub kind_of : Cell → ℕ
kind_of (Turn dice legs) = 0
kind_of (CannotMove dice) = 0
kind_of (Unknown dice) = 0
kind_of (Doubles shows) = 1
kind_of Takes = 2
kind_of Drops = 3
kind_of (Wins win) = 4

-- the same by its first two letters
abbrev kind_by : ℕ → ℕ → ℕ
kind_by first second =
    if nat_lt first 99 then 0
    else (if first == 116 then 2 else (if first == 119 then 4 else (if second == 111 then 1 else 3)))

die_kind : (d : Die) (second : ℕ) → kind_by (48 + pips d) second ≡ 0
die_kind One second = refl
die_kind Two second = refl
die_kind Three second = refl
die_kind Four second = refl
die_kind Five second = refl
die_kind Six second = refl

kind_is : (c : Cell) → kind_by (first_of c) (second_of c) ≡ kind_of c
kind_is (Turn dice legs) = die_kind dice.first (48 + second_pips dice)
kind_is (CannotMove dice) = die_kind dice.first (48 + second_pips dice)
kind_is (Unknown dice) = die_kind dice.first (48 + second_pips dice)
kind_is (Doubles shows) = refl
kind_is Takes = refl
kind_is Drops = refl
kind_is (Wins win) = refl

pub kinds_same : (text : List ℕ) (a b : Cell) (r s : List ℕ) → TellsCell text a r → TellsCell text b s → kind_of a ≡ kind_of b
kinds_same text a b r s f g =
    let same = opens_same text (first_of a) (second_of a) (first_of b) (second_of b) (cell_opens text a r f) (cell_opens text b s g) in
    sym (kind_is a) ∙ (ap (λ (n : ℕ). kind_by n (second_of a)) same.0 ∙ (ap (λ (n : ℕ). kind_by (first_of b) n) same.1 ∙ kind_is b))

-- behind a cell nothing of it stands: the text is blank, or another cell begins it
pub record IsBehindCell (text : List ℕ) : Type 0 where
  pub movement : EndsMovement text
  pub may : MayMove text
  pub win : EndsWin text

pub blank_behind : (text : List ℕ) → IsBlankText text → IsBehindCell text
blank_behind text blank = record {
  movement = λ word rest legs first tells. no_first_word text word rest blank first;
  may = blank_may text blank;
  win = λ rest first. no_says text (codes "and") rest blank first;
}

pub cell_behind_cell : (text : List ℕ) (c : Cell) (rest : List ℕ) → TellsCell text c rest → IsBehindCell text
cell_behind_cell text c rest tells =
    let o = cell_opens text c rest tells in record {
      movement = cell_no_movement text c rest tells;
      may = opens_may text (first_of c) (second_of c) o (λ e. (first_is c 99 e).1 (omega arith, omega arith))
          (λ e. (first_is c 63 e).1 (omega arith, omega arith));
      win = λ behind first. cell_and text c rest behind tells first;
    }

-- Lines that tell something are neither blank nor comments, and of one kind.
use Rattle.std.specs.Prelude.{◌≡◌, ◌⊎◌, ℕ, ◌≤◌, Option, Some, None, List, [], ◌∷◌, ◌++◌, codes}
use Rattle.std.proofs.Common.{refl, sym, ◌∙◌, ap, subst, inl, inr, arith}
use Rattle.bg_mat.specs.Rows.Cells.{HasRowNumber, TellsCell, TellsCells, TellsRow}
use Rattle.bg_mat.specs.Rows.Headings.{IsComment, IsFiller, IsGameLine, IsHeader, IsHeaderWord, IsLengthLine}
use Rattle.bg_mat.specs.Rows.Numbers.{IsNumber}
use Rattle.bg_mat.specs.Rows.Words.{IsBlankText, IsFirstWord}
use Rattle.bg_mat.specs.declared.rows.Row.{Row}
use Rattle.bg_mat.specs.declared.rows.cells.Cell.{Cell}
use Rattle.bg_mat.proofs.OfReading.CellHeads.{cell_game, cell_opens, cell_semicolon, first_of, second_of}
use Rattle.bg_mat.proofs.OfReading.HeadingLemmas.{no_says}
use Rattle.bg_mat.proofs.OfReading.MovementLemmas.{apart}
use Rattle.bg_mat.proofs.OfReading.Openings.{Opens, byte_same, byte_some, digit_byte, number_first, number_opens, opens_some, says_open, word_opens}
use Rattle.bg_mat.proofs.OfReading.WordLemmas.{first_word_same, no_first_word}

-- a line whose first word begins no comment tells something
pub told_word : (line word rest : List ℕ) → IsFirstWord line word rest → (IsComment word → ⊥) → IsFiller line → ⊥
told_word line word rest first none (inl blank) = no_first_word line word rest blank first
told_word line word rest first none (inr (other, behind, f, comment)) =
    none (subst IsComment (first_word_same line other behind word rest f first).0 comment)

no_semicolon : (byte : ℕ) (word : List ℕ) → (byte ≡ 59 → ⊥) → IsComment (byte ∷ word) → ⊥
no_semicolon byte word other (more, e) = apart byte 59 word more other e

-- a text that opens with anything but a semicolon tells something
opens_told : (text : List ℕ) (first second : ℕ) → Opens text first second → (first ≡ 59 → ⊥) → IsFiller text → ⊥
opens_told text first second o other (inl blank) = opens_some text first second o blank
opens_told text first second o other (inr (word, rest, f, (more, e))) = other (sym (word_opens text word rest 59 first second more f e o))

-- the first cell of a row
first_cell : (text : List ℕ) (l r : Option Cell) → TellsCells text l r
    → IsBlankText text ⊎ ((c : Cell) × (rest : List ℕ) × TellsCell text c rest)
first_cell text None None h = inl h
first_cell text (Some x) None (few, rest, tells, blank) = inr (x, rest, tells)
first_cell text None (Some o) (many, rest, tells, blank) = inr (o, rest, tells)
first_cell text (Some x) (Some o) (few, middle, rest, tells, last, blank) = inr (x, middle, tells)

pub cell_told : (text : List ℕ) (c : Cell) (rest : List ℕ) → TellsCell text c rest → IsFiller text → ⊥
cell_told text c rest tells = opens_told text (first_of c) (second_of c) (cell_opens text c rest tells) (cell_semicolon c)

-- the number of a row, too
pub number_told : (line rest : List ℕ) → HasRowNumber line rest → IsFiller line → ⊥
number_told line rest f =
    let (x, more, e, (low, high)) = number_first f.digits f.n f.number in
    at x (more ++ (codes ")" ++ rest)) (f.spelled ∙ ap (λ (t : List ℕ). f.blanks ++ (t ++ (codes ")" ++ rest))) e) low high
  where
    at : (x : ℕ) (more : List ℕ) → line ≡ f.blanks ++ (x ∷ more) → 48 ≤ x → x ≤ 57 → IsFiller line → ⊥
    at x more e low high (inl blank) = byte_some line f.blanks x more e (digit_byte x low high) blank
    at x more e low high (inr (word, behind, first, (last, d))) =
        let same = byte_same line f.blanks x more word behind 59 last f.blank e (digit_byte x low high) first d in
        omega (arith, same, high)

some_cell : (text : List ℕ) (l r : Option Cell) → TellsCells text l r → (l ≡ None → r ≡ None → ⊥)
    → (c : Cell) × (rest : List ℕ) × TellsCell text c rest
some_cell text None None h some = absurd (some refl refl)
some_cell text (Some x) None (few, rest, tells, blank) some = (x, rest, tells)
some_cell text None (Some o) (many, rest, tells, blank) some = (o, rest, tells)
some_cell text (Some x) (Some o) (few, middle, rest, tells, last, blank) some = (x, middle, tells)

-- a row with a cell tells something
pub row_told : (line : List ℕ) (row : Row) → TellsRow line row → (row.left ≡ None → row.right ≡ None → ⊥) → IsFiller line → ⊥
row_told line row (cells, inr number, tells) some = number_told line cells number
row_told line row (cells, inl (e, none), tells) some =
    let (c, rest, told) = some_cell line row.left row.right
    (subst (λ (t : List ℕ). TellsCells t row.left row.right) (sym e) tells) some in
    cell_told line c rest told

pub game_told : (line : List ℕ) (n : ℕ) → IsGameLine line n → IsFiller line → ⊥
game_told line n (after, number, rest, first, second, is, blank) =
    opens_told line 103 97 (says_open line (codes "Game") after 103 97 (codes "me") first refl (omega arith)) (λ e. omega (arith, e))

-- a line that begins with a name of one letter
pub name_told : (line rest : List ℕ) → IsFirstWord line (codes "X") rest → IsFiller line → ⊥
name_told line rest first = told_word line (codes "X") rest first (no_semicolon 88 [] (λ e. omega (arith, e)))

-- the length of a match is no line of a header
number_no_header : (digits : List ℕ) (n : ℕ) → IsNumber digits n → IsHeaderWord digits → ⊥
number_no_header digits n is h =
    let (x, more, e, (low, high)) = number_first digits n is in at x more e low high h where
      at : (x : ℕ) (more : List ℕ) → digits ≡ x ∷ more → 48 ≤ x → x ≤ 57 → IsHeaderWord digits → ⊥
      at x more e low high (inl (last, d)) = apart x 59 more last (λ f. omega (arith, f, high)) (sym e ∙ d)
      at x more e low high (inr (last, inl d)) = apart x 35 more last (λ f. omega (arith, f, low)) (sym e ∙ d)
      at x more e low high (inr (last, inr d)) = apart x 91 more last (λ f. omega (arith, f, high)) (sym e ∙ d)

pub length_told : (line : List ℕ) (n : ℕ) → IsLengthLine line n → IsHeader line → ⊥
length_told line n (number, rest, first, is, ends) (inl blank) = no_first_word line number rest blank first
length_told line n (number, rest, first, is, ends) (inr (other, behind, f, header)) =
    number_no_header number n is (subst IsHeaderWord (first_word_same line other behind number rest f first).0 header)

-- no row begins a game
pub row_no_game : (line : List ℕ) (row : Row) (n : ℕ) → TellsRow line row → IsGameLine line n → ⊥
row_no_game line row n (cells, inl (e, none), tells) (after, digits, rest, first, second, is, blank) =
    at (first_cell line row.left row.right (subst (λ (t : List ℕ). TellsCells t row.left row.right) (sym e) tells)) where
      at : IsBlankText line ⊎ ((c : Cell) × (rest : List ℕ) × TellsCell line c rest) → ⊥
      at (inl none) = no_says line (codes "Game") after none first
      at (inr (c, end, told)) = cell_game line c end after told first
row_no_game line row n (cells, inr number, tells) (after, digits, rest, first, second, is, blank) =
    let low = number_opens line cells 103 97 number (says_open line (codes "Game") after 103 97 (codes "me") first refl (omega arith)) in
    omega (arith, low)

-- What the texts of rows, and of the lines that head a game, tell.
use Rattle.std.specs.Prelude.{◌≡◌, ℕ, zero, suc, ◌+◌, ◌-◌, ◌<◌, ◌≤◌, max, nat_lt, Bool, true, false, Some, None, List, [], ◌∷◌, ◌++◌, length, replicate, codes, if◌then◌else◌}
use Rattle.std.proofs.Common.{append_assoc, append-nil, refl, sym, ◌∙◌, ap, subst, inl, inr, arith}
use Rattle.std.specs.Fmt.{decimal}
use Rattle.std.proofs.lemmas.Bool.Decides.{nat_tests}
use Rattle.std.proofs.lemmas.Fmt.{decimal_nonempty}
use Rattle.std.proofs.lemmas.List.{length-replicate}
use Rattle.bg_board.specs.declared.players.Player.{Player}
use Rattle.bg_board.specs.declared.players.Player.TheVariants.{X, O}
use Rattle.bg_mat.specs.Rows.Cells.{SkipsNumber, TellsCell, TellsRow}
use Rattle.bg_mat.specs.Rows.CellTexts.{cell_text}
use Rattle.bg_mat.specs.Rows.Headings.{IsFiller, IsGameLine, IsLengthLine, IsScoresLine}
use Rattle.bg_mat.specs.Rows.RowTexts.{alone_text, blanks_before, both_text, in_column, padded, row_number, row_start, score_text}
use Rattle.bg_mat.specs.Tellings.{HasNumbers}
use Rattle.bg_mat.specs.Rows.Words.{leading_blanks, EndsWord, IsBlankText, IsFirstWord}
use Rattle.bg_mat.specs.declared.rows.cells.Cell.{Cell}
use Rattle.bg_mat.specs.declared.rows.cells.Cell.TheVariants as cell
use Rattle.bg_mat.specs.declared.rows.Row.{Row}
use Rattle.bg_mat.proofs.OfReading.CellHeads.{blank_behind, cell_behind_cell, cell_no_number}
use Rattle.bg_mat.proofs.OfReading.ToldLines.{name_told}
use Rattle.bg_mat.proofs.OfWriting.PlainTexts.{IsOfLine, blanks, blanks_of_line, decimal_plain, leading_both, no_blanks, number_is, of_line_both, of_line_by, one_blank, plain_by, plain_of_line, word_first}
use Rattle.bg_mat.proofs.OfWriting.WrittenCells.{cell_behind, cell_is}

-- what a row begins with
pub record IsRowStart (text : List ℕ) : Type 0 where
  pub gap : List ℕ
  pub blank : IsBlankText gap
  pub few : length gap ≤ 6
  pub skips : (cells : List ℕ) (c : Cell) (rest : List ℕ) → TellsCell (gap ++ cells) c rest
      → SkipsNumber (text ++ cells) (gap ++ cells)
  pub of_line : IsOfLine text

blanks_start : (n : ℕ) → n ≤ 6 → IsRowStart (replicate n 32)
blanks_start n few = record {
  gap = replicate n 32;
  blank = blanks n;
  few = rw length-replicate few;
  skips = λ cells c rest tells. inl (refl, λ behind number. cell_no_number (replicate n 32 ++ cells) c rest behind tells number);
  of_line = blanks_of_line n;
}

number_start : (row : ℕ) → row ≤ 9999 → IsRowStart (replicate (blanks_before row) 32 ++ decimal row ++ codes ") ")
number_start row few =
    let k = blanks_before row in
    record {
      gap = codes " ";
      blank = one_blank;
      few = omega arith;
      skips = λ cells c rest tells.
          let text : (replicate k 32 ++ decimal row ++ codes ") ") ++ cells
          ≡ replicate k 32 ++ (decimal row ++ (codes ")" ++ (codes " " ++ cells))) = simp append_assoc in
          inr (record {
            blanks = replicate k 32;
            digits = decimal row;
            n = row;
            blank = blanks k;
            number = number_is row few;
            spelled = text;
          });
      of_line = of_line_both (replicate k 32 ++ decimal row) (codes ") ")
          (of_line_both (replicate k 32) (decimal row) (blanks_of_line k) (plain_of_line (decimal row) (decimal_plain row (omega arith))))
          (of_line_by (codes ") ") refl);
    }

row_start_by : (row : ℕ) (b : Bool) → nat_lt 9999 row ≡ b
    → IsRowStart (if b then replicate 5 32 else replicate (blanks_before row) 32 ++ decimal row ++ codes ") ")
row_start_by row true h = blanks_start 5 (omega arith)
row_start_by row false h = number_start row (grind (arith, nat_tests, h))

row_number_is : (row : ℕ) → IsRowStart (row_number row)
row_number_is row = row_start_by row (nat_lt 9999 row) refl

row_start_is : (row : ℕ) (c : Cell) → IsRowStart (row_start row c)
row_start_is row (cell.Wins win) = blanks_start 5 (omega arith)
row_start_is row (cell.Turn dice legs) = row_number_is row
row_start_is row (cell.CannotMove dice) = row_number_is row
row_start_is row (cell.Unknown dice) = row_number_is row
row_start_is row (cell.Doubles n) = row_number_is row
row_start_is row cell.Takes = row_number_is row
row_start_is row cell.Drops = row_number_is row

-- a line that is written
pub record WritesLine (text : List ℕ) (Tells : List ℕ → Type 0) : Type 0 where
  pub line : List ℕ
  pub spelled : text ≡ line ++ codes "\n"
  pub of_line : IsOfLine line
  pub tells : Tells line

some_blanks : (n : ℕ) (rest : List ℕ) → 1 ≤ n → EndsWord (replicate n 32 ++ rest)
some_blanks zero rest h = absurd (omega arith)
some_blanks (suc n) rest h = refl

-- a cell that nothing follows
last_cell : (c : Cell) → HasNumbers c → TellsCell (cell_text c) c []
last_cell c low =
    subst (λ (t : List ℕ). TellsCell t c []) (append-nil (cell_text c)) ((cell_is c low).tells [] tt (blank_behind [] no_blanks))

pub both_written : (row : ℕ) (l r : Cell) → HasNumbers l → HasNumbers r
    → WritesLine (both_text row l r) (λ line. TellsRow line (record { left = Some l; right = Some r }))
both_written row l r low high =
    let start = row_number_is row in
    let left = cell_is l low in
    let right = cell_is r high in
    let m = max 1 (28 - length (cell_text l)) in
    let middle = replicate m 32 ++ cell_text r in
    let cells = cell_text l ++ middle in
    let line = row_number row ++ padded 28 (cell_text l) ++ cell_text r in
    let is : line ≡ row_number row ++ cells = simp append_assoc in
    let last : TellsCell middle r [] = cell_behind (replicate m 32) (cell_text r) [] r (blanks m) (last_cell r high) in
    let first : TellsCell (start.gap ++ cells) l middle =
    cell_behind start.gap cells middle l start.blank
    (left.tells middle (some_blanks m (cell_text r) (omega arith)) (cell_behind_cell middle r [] last)) in
    let few : leading_blanks (start.gap ++ cells) < 16 =
    (let lead = leading_both start.gap cells start.blank in let one = left.few middle in let gap = start.few in omega arith) in
    record {
      line = line;
      spelled = refl;
      of_line = of_line_both (row_number row ++ padded 28 (cell_text l)) (cell_text r)
          (of_line_both (row_number row) (padded 28 (cell_text l)) start.of_line
          (of_line_both (cell_text l) (replicate m 32) left.of_line (blanks_of_line m))) right.of_line;
      tells = (
        start.gap ++ cells,
        subst (λ (t : List ℕ). SkipsNumber t (start.gap ++ cells)) (sym is) (start.skips cells l middle first),
        (few, middle, [], first, last, no_blanks),
      );
    }

-- a cell that blanks may follow
record IsLastCell (text : List ℕ) (c : Cell) : Type 0 where
  rest : List ℕ
  tells : TellsCell text c rest
  blank : IsBlankText rest
  few : leading_blanks text ≤ 1
  of_line : IsOfLine text

blanks_end : (n : ℕ) → EndsWord (replicate n 32)
blanks_end zero = tt
blanks_end (suc n) = refl

bare_cell : (c : Cell) → HasNumbers c → IsLastCell (cell_text c) c
bare_cell c low = record {
  rest = [];
  tells = last_cell c low;
  blank = no_blanks;
  few = subst (λ (t : List ℕ). leading_blanks t ≤ 1) (append-nil (cell_text c)) ((cell_is c low).few []);
  of_line = (cell_is c low).of_line;
}

filled_cell : (c : Cell) → HasNumbers c → IsLastCell (padded 28 (cell_text c)) c
filled_cell c low =
    let m = max 1 (28 - length (cell_text c)) in
    let own = cell_is c low in
    record {
      rest = replicate m 32;
      tells = own.tells (replicate m 32) (blanks_end m) (blank_behind (replicate m 32) (blanks m));
      blank = blanks m;
      few = own.few (replicate m 32);
      of_line = of_line_both (cell_text c) (replicate m 32) own.of_line (blanks_of_line m);
    }

left_cell : (c : Cell) → HasNumbers c → IsLastCell (in_column X c) c
left_cell (cell.Wins win) low = bare_cell (cell.Wins win) low
left_cell (cell.Turn dice legs) low = filled_cell (cell.Turn dice legs) low
left_cell (cell.CannotMove dice) low = absurd low
left_cell (cell.Unknown dice) low = absurd low
left_cell (cell.Doubles n) low = filled_cell (cell.Doubles n) low
left_cell cell.Takes low = filled_cell cell.Takes low
left_cell cell.Drops low = filled_cell cell.Drops low

left_written : (row : ℕ) (c : Cell) → HasNumbers c
    → WritesLine (alone_text row X c) (λ line. TellsRow line (record { left = Some c; right = None }))
left_written row c low =
    let start = row_start_is row c in
    let own = left_cell c low in
    let told : TellsCell (start.gap ++ in_column X c) c own.rest =
    cell_behind start.gap (in_column X c) own.rest c start.blank own.tells in
    let few : leading_blanks (start.gap ++ in_column X c) < 16 =
    (let lead = leading_both start.gap (in_column X c) start.blank in let one = own.few in let gap = start.few in omega arith) in
    record {
      line = row_start row c ++ in_column X c;
      spelled = refl;
      of_line = of_line_both (row_start row c) (in_column X c) start.of_line own.of_line;
      tells = (
        start.gap ++ in_column X c,
        start.skips (in_column X c) c own.rest told,
        (few, own.rest, told, own.blank),
      );
    }

right_written : (row : ℕ) (c : Cell) → HasNumbers c
    → WritesLine (alone_text row O c) (λ line. TellsRow line (record { left = None; right = Some c }))
right_written row c low =
    let start = row_start_is row c in
    let own = cell_is c low in
    let cells = in_column O c in
    let told : TellsCell (start.gap ++ cells) c [] =
    cell_behind start.gap cells [] c start.blank
    (cell_behind (replicate 28 32) (cell_text c) [] c (blanks 28) (last_cell c low)) in
    let many : 16 ≤ leading_blanks (start.gap ++ cells) =
    (let lead = leading_both start.gap cells start.blank in
    let more : leading_blanks cells ≡ 28 + leading_blanks (cell_text c) = leading_both (replicate 28 32) (cell_text c) (blanks 28) in
    omega arith) in
    record {
      line = row_start row c ++ cells;
      spelled = refl;
      of_line = of_line_both (row_start row c) cells start.of_line
          (of_line_both (replicate 28 32) (cell_text c) (blanks_of_line 28) own.of_line);
      tells = (
        start.gap ++ cells,
        start.skips cells c [] told,
        (many, [], told, no_blanks),
      );
    }

-- the cell of one player
abbrev pub row_of : Player → Cell → Row
row_of X c = record { left = Some c; right = None }
row_of O c = record { left = None; right = Some c }

pub alone_written : (row : ℕ) (player : Player) (c : Cell) → HasNumbers c
    → WritesLine (alone_text row player c) (λ line. TellsRow line (row_of player c))
alone_written row X c low = left_written row c low
alone_written row O c low = right_written row c low

-- the line of the length of a match
pub length_line : (n : ℕ) → n ≤ 9999 → IsLengthLine (codes " " ++ decimal n ++ codes " point match") n
length_line n few =
    let third : IsFirstWord (codes " match") (codes "match") [] =
    word_first (codes " ") (codes "match") [] one_blank (plain_by (codes "match") refl) (omega arith) tt in
    let second : IsFirstWord (codes " point match") (codes "point") (codes " match") =
    word_first (codes " ") (codes "point") (codes " match") one_blank (plain_by (codes "point") refl) (omega arith) refl in
    let first : IsFirstWord (codes " " ++ (decimal n ++ codes " point match")) (decimal n) (codes " point match") =
    word_first (codes " ") (decimal n) (codes " point match") one_blank (decimal_plain n (omega arith)) (decimal_nonempty n (omega arith)) refl in (
      decimal n,
      codes " point match",
      first,
      number_is n few,
      (codes "point", codes " match", [], second, inl refl, record { word = codes "match"; first = third; same = refl }, no_blanks),
    )

-- the line of the number of a game
pub game_line : (n : ℕ) → n ≤ 9999 → IsGameLine (codes " Game " ++ decimal n) n
game_line n few =
    let second : IsFirstWord (codes " " ++ (decimal n ++ [])) (decimal n) [] =
    word_first (codes " ") (decimal n) [] one_blank (decimal_plain n (omega arith)) (decimal_nonempty n (omega arith)) tt in
    let second_is : IsFirstWord (codes " " ++ decimal n) (decimal n) [] =
    subst (λ (t : List ℕ). IsFirstWord (codes " " ++ t) (decimal n) []) (append-nil (decimal n)) second in
    let first : IsFirstWord (codes " Game " ++ decimal n) (codes "Game") (codes " " ++ decimal n) =
    word_first (codes " ") (codes "Game") (codes " " ++ decimal n) one_blank (plain_by (codes "Game") refl) (omega arith) refl in
    (codes " " ++ decimal n, decimal n, [], record { word = codes "Game"; first = first; same = refl }, second_is, inl (number_is n few), no_blanks)

scored_end : (front score : List ℕ) → front ++ (codes ": " ++ score) ≡ front ++ codes ":" ++ codes " " ++ score ++ []
scored_end [] score = sym (append-nil (codes ": " ++ score))
scored_end (x ∷ front) score = ap (λ (t : List ℕ). x ∷ t) (scored_end front score)

scores_spelled : (x o m : ℕ)
    → codes " " ++ (score_text (codes "X") x ++ replicate m 32) ++ score_text (codes "O") o
    ≡ (codes " X : " ++ (decimal x ++ (replicate m 32 ++ codes "O "))) ++ codes ":" ++ codes " " ++ decimal o ++ []
scores_spelled x o m =
    let whole : codes " X : " ++ (decimal x ++ replicate m 32 ++ (codes "O : " ++ decimal o))
    ≡ codes " X : " ++ (decimal x ++ (replicate m 32 ++ (codes "O : " ++ decimal o))) =
    ap (λ (t : List ℕ). codes " X : " ++ t) (append_assoc (decimal x) (replicate m 32) (codes "O : " ++ decimal o)) in
    let front : (decimal x ++ (replicate m 32 ++ codes "O ")) ++ (codes ": " ++ decimal o)
    ≡ decimal x ++ (replicate m 32 ++ (codes "O : " ++ decimal o)) =
    append_assoc (decimal x) (replicate m 32 ++ codes "O ") (codes ": " ++ decimal o)
    ∙ ap (λ (t : List ℕ). decimal x ++ t) (append_assoc (replicate m 32) (codes "O ") (codes ": " ++ decimal o)) in
    let end = ap (λ (t : List ℕ). codes " X : " ++ t) (scored_end (decimal x ++ (replicate m 32 ++ codes "O ")) (decimal o)) in
    whole ∙ (ap (λ (t : List ℕ). codes " X : " ++ t) (sym front) ∙ end)

-- the line of the scores begins with a name
pub scores_told : (x o : ℕ) → IsFiller (codes " " ++ padded 31 (score_text (codes "X") x) ++ score_text (codes "O") o) → ⊥
scores_told x o =
    let m = max 1 (31 - length (score_text (codes "X") x)) in
    let rest = codes " : " ++ ((decimal x ++ replicate m 32) ++ score_text (codes "O") o) in
    name_told (codes " " ++ padded 31 (score_text (codes "X") x) ++ score_text (codes "O") o) rest
    (word_first (codes " ") (codes "X") rest one_blank (plain_by (codes "X") refl) (omega arith) refl)

-- the line of the scores
pub scores_line : (x o : ℕ) → IsScoresLine (codes " " ++ padded 31 (score_text (codes "X") x) ++ score_text (codes "O") o) x o
scores_line x o =
    let m = max 1 (31 - length (score_text (codes "X") x)) in
    record {
      front = codes " X : " ++ (decimal x ++ (replicate m 32 ++ codes "O "));
      ends = record {
        gap = codes " ";
        end = [];
        spelled = scores_spelled x o m;
        gap_blank = one_blank;
        end_blank = no_blanks;
      };
      begins = record {
        before = codes " X ";
        after = codes " " ++ (decimal x ++ (replicate m 32 ++ codes "O "));
        spelled = refl;
        scored = record {
          gap = codes " ";
          rest = replicate m 32 ++ codes "O ";
          spelled = refl;
          blank = one_blank;
          apart = some_blanks m (codes "O ") (omega arith);
        };
      };
    }

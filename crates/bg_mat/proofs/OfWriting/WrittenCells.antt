-- What the texts of cells tell.
use Rattle.std.specs.Prelude.{◌≡◌, ◌==◌, ℕ, ◌+◌, ◌<◌, ◌≤◌, Bool, true, false, Some, None, List, [], ◌∷◌, ◌++◌, length, codes, if◌then◌else◌}
use Rattle.std.proofs.Common.{append_assoc, append-nil, refl, sym, ◌∙◌, ap, subst, inl, inr, arith, length-append}
use Rattle.std.specs.Fmt.{decimal}
use Rattle.std.specs.List.{AllByRecursion}
use Rattle.std.proofs.lemmas.Fmt.{decimal_digit, decimal_nonempty}
use Rattle.bg_board.specs.Die.{pips}
use Rattle.bg_board.specs.declared.dice.Die.{Die}
use Rattle.bg_board.specs.declared.dice.Die.TheVariants as die
use Rattle.bg_turns.specs.Dice.{first_pips, second_pips}
use Rattle.bg_turns.specs.declared.throws.Dice.{Dice}
use Rattle.bg_mat.specs.Rows.Cells.{BeginsDice, EndsMovement, EndsWin, MayMove, SaysDouble, TellsCell, TellsDouble, TellsLegsAt, TellsWin, ending}
use Rattle.bg_mat.specs.Rows.CellTexts.{cell_text, dice_text, ending_text, leg_text, legs_text, points_text, win_text}
use Rattle.bg_mat.specs.Rows.Headings.{IsPoints}
use Rattle.bg_mat.specs.Legs.{TellsWord, mark}
use Rattle.bg_mat.specs.Tellings.{HasNumbers, IsOnBoard}
use Rattle.bg_mat.specs.Rows.Words.{leading_blanks, EndsWord, IsBlankText, IsFirstWord, Says, SaysAll, SaysEither}
use Rattle.bg_mat.specs.declared.rows.cells.Cell.{Cell}
use Rattle.bg_mat.specs.declared.rows.cells.Cell.TheVariants as cell
use Rattle.bg_mat.specs.declared.rows.cells.Win.{Win}
use Rattle.bg_mat.specs.declared.movements.legs.Leg.{Leg}
use Rattle.bg_mat.proofs.OfReading.CellHeads.{IsBehindCell}
use Rattle.bg_mat.proofs.OfReading.Openings.{movement_may}
use Rattle.bg_mat.proofs.OfWriting.PlainTexts.{IsOfLine, IsPlain, blank_both, decimal_plain, no_blanks, number_is, of_line_both, of_line_by, one_blank, plain_both, plain_by, plain_leading, plain_of_line, word_behind, word_first}

-- the word of a leg
abbrev pub leg_word : Leg → List ℕ
leg_word leg = decimal leg.step.from ++ codes "/" ++ decimal leg.step.to ++ mark leg.hits

leg_text_is : (leg : Leg) → leg_text leg ≡ codes " " ++ leg_word leg
leg_text_is leg = simp append_assoc

mark_plain : (hits : Bool) → IsPlain (mark hits)
mark_plain true = ((refl, refl), tt)
mark_plain false = tt

leg_plain : (leg : Leg) → IsOnBoard leg → IsPlain (leg_word leg)
leg_plain leg (from, to) =
    plain_both (decimal leg.step.from ++ codes "/" ++ decimal leg.step.to) (mark leg.hits)
    (plain_both (decimal leg.step.from ++ codes "/") (decimal leg.step.to)
    (plain_both (decimal leg.step.from) (codes "/") (decimal_plain leg.step.from (omega arith)) ((refl, refl), tt))
    (decimal_plain leg.step.to (omega arith)))
    (mark_plain leg.hits)

leg_some : (leg : Leg) → IsOnBoard leg → 0 < length (leg_word leg)
leg_some leg (from, to) =
    let some : 0 < length (decimal leg.step.from) = decimal_nonempty leg.step.from (omega arith) in
    simp length-append (omega arith)

leg_tells : (leg : Leg) → IsOnBoard leg → TellsWord (leg_word leg) (leg ∷ [])
leg_tells leg (from, to) = (
  leg_word leg,
  1,
  leg ∷ [],
  inl (refl, refl),
  (
    leg.step.from,
    decimal leg.step.from,
    codes "/" ++ (decimal leg.step.to ++ mark leg.hits),
    simp append_assoc,
    inr (inr (number_is leg.step.from (omega arith))),
    (
      decimal leg.step.to ++ mark leg.hits,
      [],
      ap (λ (t : List ℕ). codes "/" ++ t) (sym (append-nil (decimal leg.step.to ++ mark leg.hits))),
      record {
        point = decimal leg.step.to;
        starts = refl;
        on_board = from;
        lower = to;
        ends = inr (inr (number_is leg.step.to (omega arith)));
        marked = refl;
      },
      refl,
    ),
    λ e. absurd (cc (e)),
  ),
  refl,
)

-- behind a word comes a blank, or what follows the movement
legs_end : (legs : List Leg) (rest : List ℕ) → EndsWord rest → EndsWord (legs_text legs ++ rest)
legs_end [] rest h = h
legs_end (leg ∷ legs) rest h = refl

pub legs_tell : (legs : List Leg) (rest : List ℕ) → AllByRecursion IsOnBoard legs → EndsWord rest
    → TellsLegsAt (legs_text legs ++ rest) rest legs
legs_tell [] rest low ends = ([], refl, refl)
legs_tell (leg ∷ legs) rest low ends =
    let (words, begins, tells) = legs_tell legs rest low.1 ends in
    let text : legs_text (leg ∷ legs) ++ rest ≡ codes " " ++ (leg_word leg ++ (legs_text legs ++ rest)) = simp append_assoc in
    let first : IsFirstWord (legs_text (leg ∷ legs) ++ rest) (leg_word leg) (legs_text legs ++ rest) =
    rw text (word_first (codes " ") (leg_word leg) (legs_text legs ++ rest) one_blank (leg_plain leg low.0) (leg_some leg low.0)
    (legs_end legs rest ends)) in
    (leg_word leg ∷ words, (legs_text legs ++ rest, first, begins), (leg ∷ [], legs, leg_tells leg low.0, tells, refl))

legs_of_line : (legs : List Leg) → AllByRecursion IsOnBoard legs → IsOfLine (legs_text legs)
legs_of_line [] h = tt
legs_of_line (leg ∷ legs) h =
    let word : IsOfLine (codes " " ++ leg_word leg) = (refl, plain_of_line (leg_word leg) (leg_plain leg h.0)) in
    of_line_both (leg_text leg) (legs_text legs) (subst (λ (t : List ℕ). IsOfLine t) (sym (leg_text_is leg)) word)
    (legs_of_line legs h.1)

-- a die is one digit
die_text : (d : Die) → decimal (pips d) ≡ (48 + pips d) ∷ []
die_text die.One = decimal_digit 1 (omega arith)
die_text die.Two = decimal_digit 2 (omega arith)
die_text die.Three = decimal_digit 3 (omega arith)
die_text die.Four = decimal_digit 4 (omega arith)
die_text die.Five = decimal_digit 5 (omega arith)
die_text die.Six = decimal_digit 6 (omega arith)

die_few : (d : Die) → pips d ≤ 6
die_few die.One = omega arith
die_few die.Two = omega arith
die_few die.Three = omega arith
die_few die.Four = omega arith
die_few die.Five = omega arith
die_few die.Six = omega arith

dice_is : (dice : Dice) → dice_text dice ≡ (48 + first_pips dice) ∷ (48 + second_pips dice) ∷ codes ":"
dice_is dice = rw (die_text dice.first, die_text dice.second) refl

dice_plain : (dice : Dice) → IsPlain (dice_text dice)
dice_plain dice =
    plain_both (decimal (first_pips dice) ++ decimal (second_pips dice)) (codes ":")
    (plain_both (decimal (first_pips dice)) (decimal (second_pips dice))
    (decimal_plain (first_pips dice) (omega (arith, die_few dice.first)))
    (decimal_plain (second_pips dice) (omega (arith, die_few dice.second))))
    ((refl, refl), tt)

dice_some : (dice : Dice) → 0 < length (dice_text dice)
dice_some dice = rw (dice_is dice) (omega arith)

-- what the text of a cell is
pub record IsCellText (text : List ℕ) (c : Cell) : Type 0 where
  pub tells : (rest : List ℕ) → EndsWord rest → IsBehindCell rest → TellsCell (text ++ rest) c rest
  pub few : (rest : List ℕ) → leading_blanks (text ++ rest) ≤ 1
  pub of_line : IsOfLine text

-- behind dice stands a movement, or what follows the cell
legs_may : (legs : List Leg) (rest : List ℕ) → AllByRecursion IsOnBoard legs → EndsWord rest → MayMove rest
    → MayMove (legs_text legs ++ rest)
legs_may [] rest low ends may = may
legs_may (leg ∷ legs) rest low ends may =
    let text : legs_text (leg ∷ legs) ++ rest ≡ codes " " ++ (leg_word leg ++ (legs_text legs ++ rest)) = simp append_assoc in
    let first : IsFirstWord (legs_text (leg ∷ legs) ++ rest) (leg_word leg) (legs_text legs ++ rest) =
    rw text (word_first (codes " ") (leg_word leg) (legs_text legs ++ rest) one_blank (leg_plain leg low.0) (leg_some leg low.0)
    (legs_end legs rest ends)) in
    movement_may (legs_text (leg ∷ legs) ++ rest) (leg_word leg) (legs_text legs ++ rest) (leg ∷ []) first (leg_tells leg low.0)

turn_is : (dice : Dice) (legs : List Leg) (rest : List ℕ) → AllByRecursion IsOnBoard legs → length legs ≤ 4 → EndsWord rest
    → IsBehindCell rest → (after : List ℕ) × BeginsDice ((dice_text dice ++ legs_text legs) ++ rest) dice after
    × MayMove after × TellsLegsAt after rest legs × (length legs ≤ 4) × EndsMovement rest
turn_is dice legs rest low few ends behind =
    let spelled : (dice_text dice ++ legs_text legs) ++ rest
    ≡ (48 + first_pips dice) ∷ (48 + second_pips dice) ∷ 58 ∷ (legs_text legs ++ rest) =
    append_assoc (dice_text dice) (legs_text legs) rest ∙ ap (λ (t : List ℕ). t ++ (legs_text legs ++ rest)) (dice_is dice) in (
      legs_text legs ++ rest,
      record { blanks = []; blank = no_blanks; spelled = spelled },
      legs_may legs rest low ends behind.may,
      legs_tell legs rest low ends,
      few,
      behind.movement,
    )

double_is : (n : ℕ) (rest : List ℕ) → n ≤ 9999 → EndsWord rest
    → TellsDouble ((codes " Doubles => " ++ decimal n) ++ rest) (Some n) rest
double_is n rest few ends =
    let third : IsFirstWord (codes " " ++ (decimal n ++ rest)) (decimal n) rest =
    word_first (codes " ") (decimal n) rest one_blank (decimal_plain n (omega arith)) (decimal_nonempty n (omega arith)) ends in
    let first : SaysDouble (codes " Doubles => " ++ (decimal n ++ rest)) (codes " => " ++ (decimal n ++ rest)) =
    record { blanks = codes " "; word = codes "Doubles"; blank = one_blank; is = inr refl; ends = refl; spelled = refl } in (
      codes " => " ++ (decimal n ++ rest),
      codes " " ++ (decimal n ++ rest),
      decimal n,
      first,
      (codes " ", one_blank, refl),
      third,
      number_is n few,
    )

-- a word behind a blank
said : (word rest : List ℕ) → IsPlain word → 0 < length word → EndsWord rest → Says (codes " " ++ (word ++ rest)) word rest
said word rest plain some ends =
    record { word = word; first = word_first (codes " ") word rest one_blank plain some ends; same = refl }

points_tell : (b : Bool) (rest : List ℕ) → EndsWord rest
    → (word : List ℕ) × IsFirstWord ((if b then codes " point" else codes " points") ++ rest) word rest × IsPoints word
points_tell true rest ends =
    (codes "point", word_first (codes " ") (codes "point") rest one_blank (plain_by (codes "point") refl) (omega arith) ends, inl refl)
points_tell false rest ends =
    (codes "points", word_first (codes " ") (codes "points") rest one_blank (plain_by (codes "points") refl) (omega arith) ends, inr refl)

points_end : (b : Bool) (rest : List ℕ) → EndsWord ((if b then codes " point" else codes " points") ++ rest)
points_end true rest = refl
points_end false rest = refl

ending_end : (b : Bool) (rest : List ℕ) → EndsWord rest → EndsWord (ending_text b ++ rest)
ending_end true rest ends = refl
ending_end false rest ends = ends

ending_tells : (b : Bool) (rest : List ℕ) → EndsWord rest → SaysAll (ending_text b ++ rest) (ending b) rest
ending_tells false rest ends = refl
ending_tells true rest ends = (
  codes " the match" ++ rest,
  said (codes "and") (codes " the match" ++ rest) (plain_by (codes "and") refl) (omega arith) refl,
  (
    codes " match" ++ rest,
    said (codes "the") (codes " match" ++ rest) (plain_by (codes "the") refl) (omega arith) refl,
    (rest, said (codes "match") rest (plain_by (codes "match") refl) (omega arith) ends, refl),
  ),
)

win_parts : (win : Win) (rest : List ℕ)
    → win_text win ++ rest ≡ codes " Wins " ++ (decimal win.points ++ (points_text win.points ++ (ending_text win.ends_match ++ rest)))
win_parts win rest = simp append_assoc

win_is : (win : Win) (rest : List ℕ) → win.points ≤ 9999 → EndsWord rest → EndsWin rest → TellsWin (win_text win ++ rest) win rest
win_is win rest few ends last =
    let behind = ending_text win.ends_match ++ rest in
    let ended = ending_end win.ends_match rest ends in
    let points = points_text win.points ++ behind in
    let (word, third, is_points) = points_tell (win.points == 1) behind ended in
    let second : IsFirstWord (codes " " ++ (decimal win.points ++ points)) (decimal win.points) points =
    word_first (codes " ") (decimal win.points) points one_blank (decimal_plain win.points (omega arith))
    (decimal_nonempty win.points (omega arith)) (points_end (win.points == 1) behind) in
    let first : Says (codes " Wins " ++ (decimal win.points ++ points)) (codes "Wins") (codes " " ++ (decimal win.points ++ points)) =
    said (codes "Wins") (codes " " ++ (decimal win.points ++ points)) (plain_by (codes "Wins") refl) (omega arith) refl in (
      codes " " ++ (decimal win.points ++ points),
      behind,
      inr (subst (λ (t : List ℕ). Says t (codes "Wins") (codes " " ++ (decimal win.points ++ points))) (sym (win_parts win rest)) first),
      (decimal win.points, word, (points, second, (behind, third, refl)), number_is win.points few, is_points),
      ending_tells win.ends_match rest ends,
      λ goes_on. last,
    )

points_of_line : (b : Bool) → IsOfLine (if b then codes " point" else codes " points")
points_of_line true = of_line_by (codes " point") refl
points_of_line false = of_line_by (codes " points") refl

ending_of_line : (b : Bool) → IsOfLine (ending_text b)
ending_of_line true = of_line_by (codes " and the match") refl
ending_of_line false = tt

-- the text of each cell
pub cell_is : (c : Cell) → HasNumbers c → IsCellText (cell_text c) c
cell_is (cell.Turn dice legs) low = record {
  tells = λ rest ends behind. turn_is dice legs.items rest low.0 low.1 ends behind;
  few = λ rest.
      let none : leading_blanks (dice_text dice ++ (legs_text legs.items ++ rest)) ≡ 0 =
      plain_leading (dice_text dice) (legs_text legs.items ++ rest) (dice_plain dice) (dice_some dice) in
      rw (append_assoc (dice_text dice) (legs_text legs.items) rest, none) (omega arith);
  of_line = of_line_both (dice_text dice) (legs_text legs.items) (plain_of_line (dice_text dice) (dice_plain dice))
      (legs_of_line legs.items low.0);
}
cell_is (cell.CannotMove dice) low = absurd low
cell_is (cell.Unknown dice) low = absurd low
cell_is (cell.Doubles None) low = absurd low
cell_is (cell.Doubles (Some n)) low = record {
  tells = λ rest ends behind. double_is n rest low ends;
  few = λ rest. omega arith;
  of_line = of_line_both (codes " Doubles => ") (decimal n) (of_line_by (codes " Doubles => ") refl)
      (plain_of_line (decimal n) (decimal_plain n (omega arith)));
}
cell_is cell.Takes low = record {
  tells = λ rest ends behind. inr (said (codes "Takes") rest (plain_by (codes "Takes") refl) (omega arith) ends);
  few = λ rest. omega arith;
  of_line = of_line_by (codes " Takes") refl;
}
cell_is cell.Drops low = record {
  tells = λ rest ends behind. inr (said (codes "Drops") rest (plain_by (codes "Drops") refl) (omega arith) ends);
  few = λ rest. omega arith;
  of_line = of_line_by (codes " Drops") refl;
}
cell_is (cell.Wins win) low = record {
  tells = λ rest ends behind. win_is win rest low ends behind.win;
  few = λ rest. subst (λ (t : List ℕ). leading_blanks t ≤ 1) (sym (win_parts win rest)) (omega arith);
  of_line = of_line_both (codes " Wins " ++ decimal win.points ++ points_text win.points) (ending_text win.ends_match)
      (of_line_both (codes " Wins " ++ decimal win.points) (points_text win.points)
      (of_line_both (codes " Wins ") (decimal win.points) (of_line_by (codes " Wins ") refl)
      (plain_of_line (decimal win.points) (decimal_plain win.points (omega arith))))
      (points_of_line (win.points == 1)))
      (ending_of_line win.ends_match);
}

-- the same cell behind blanks
dice_behind : (gap text after : List ℕ) (dice : Dice) → IsBlankText gap → BeginsDice text dice after → BeginsDice (gap ++ text) dice after
dice_behind gap text after dice blank f = record {
  blanks = gap ++ f.blanks;
  blank = blank_both gap f.blanks blank f.blank;
  spelled = rw f.spelled (simp append_assoc);
}

says_behind : (gap text word rest : List ℕ) → IsBlankText gap → Says text word rest → Says (gap ++ text) word rest
says_behind gap text word rest blank f =
    record { word = f.word; first = word_behind gap text f.word rest blank f.first; same = f.same }

either_behind : (gap text one other rest : List ℕ) → IsBlankText gap → SaysEither text one other rest
    → SaysEither (gap ++ text) one other rest
either_behind gap text one other rest blank (inl f) = inl (says_behind gap text one rest blank f)
either_behind gap text one other rest blank (inr f) = inr (says_behind gap text other rest blank f)

double_behind : (gap text rest : List ℕ) → IsBlankText gap → SaysDouble text rest → SaysDouble (gap ++ text) rest
double_behind gap text rest blank f = record {
  blanks = gap ++ f.blanks;
  word = f.word;
  blank = blank_both gap f.blanks blank f.blank;
  is = f.is;
  ends = f.ends;
  spelled = rw f.spelled (simp append_assoc);
}

pub cell_behind : (gap text rest : List ℕ) (c : Cell) → IsBlankText gap → TellsCell text c rest → TellsCell (gap ++ text) c rest
cell_behind gap text rest (cell.Turn dice legs) blank (after, is, may, more, few, ends) =
    (after, dice_behind gap text after dice blank is, may, more, few, ends)
cell_behind gap text rest (cell.CannotMove dice) blank (after, is, more) = (after, dice_behind gap text after dice blank is, more)
cell_behind gap text rest (cell.Unknown dice) blank (after, is, more) = (after, dice_behind gap text after dice blank is, more)
cell_behind gap text rest (cell.Doubles None) blank (is, none) = (double_behind gap text rest blank is, none)
cell_behind gap text rest (cell.Doubles (Some n)) blank (after, behind, number, is, arrow, first, digits) =
    (after, behind, number, double_behind gap text after blank is, arrow, first, digits)
cell_behind gap text rest cell.Takes blank is = either_behind gap text (codes "Take") (codes "Takes") rest blank is
cell_behind gap text rest cell.Drops blank is = either_behind gap text (codes "Drop") (codes "Drops") rest blank is
cell_behind gap text rest (cell.Wins win) blank (after, behind, is, points, begins, ends) =
    (after, behind, either_behind gap text (codes "Win") (codes "Wins") after blank is, points, begins, ends)

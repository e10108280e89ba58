-- What is no cell, and no row.
use Rattle.std.specs.Prelude.{◌≡◌, ◌⊎◌, ◌↔◌, ℕ, ◌+◌, ◌<◌, ◌≤◌, Bool, Option, Some, None, List, [], ◌∷◌, ◌++◌, length, codes, IsTrue}
use Rattle.std.proofs.Common.{append_assoc, length-append, refl, sym, ◌∙◌, ap, subst, inl, inr, arith}
use Rattle.bg_turns.specs.Dice.{first_pips, second_pips}
use Rattle.bg_turns.specs.declared.throws.Dice.{Dice}
use Rattle.bg_mat.specs.Legs.{AddsLegs, TellsWord}
use Rattle.bg_mat.specs.declared.movements.legs.Leg.{Leg}
use Rattle.bg_mat.specs.Rows.Cells.{BeginsDice, EndsMovement, HasDice, SaysCannotMove, SaysUnknown, SkipsNumber, TellsCell, TellsCells, TellsDouble, TellsLegsAt, TellsWin, left_column}
use Rattle.bg_mat.specs.Files.{TellsAwaited}
use Rattle.bg_mat.specs.Refusals.{IsShapeFault}
use Rattle.bg_mat.specs.Telling.{Item}
use Rattle.bg_mat.specs.Rows.Headings.{IsGameLine}
use Rattle.bg_mat.specs.declared.awaiting.Awaited.{Awaited}
use Rattle.bg_mat.specs.declared.awaiting.Awaited.TheVariants as awaited
use Rattle.bg_mat.specs.Rows.RowFaults.{AreCellsFault, HasTooMany, IsBeaver, IsBeaverWord, IsCellFault, IsCellPlace, IsLastFault, IsPlaceFault, IsRowFault, IsRowPlace, IsTooLong}
use Rattle.bg_mat.specs.Rows.Words.{BeginsWith, IsBlankText, IsFirstWord, SaysEither, leading_blanks}
use Rattle.bg_mat.specs.declared.faults.MatFault.{MatFault}
use Rattle.bg_mat.specs.declared.faults.MatFault.TheVariants as why
use Rattle.bg_mat.specs.declared.rows.cells.Win.{Win}
use Rattle.bg_mat.specs.declared.rows.cells.Cell.{Cell}
use Rattle.bg_mat.specs.declared.rows.cells.Cell.TheVariants.{Turn, CannotMove, Unknown, Doubles, Takes, Drops, Wins}
use Rattle.bg_mat.proofs.OfReading.CellHeads.{cell_opens, first_of, opens_no_cell, second_of}
use Rattle.bg_mat.proofs.OfReading.CellLemmas.{cell_same, movement_most}
use Rattle.bg_mat.proofs.OfReading.Openings.{Opens, cannot_ends, dice_open, dice_same, first_few, letters_open, number_same, opens_same, unknown_ends}
use Rattle.bg_mat.proofs.OfReading.WordLemmas.{first_word_same, no_first_word}
use Rattle.bg_mat.proofs.OfReading.Replays.{nothing_more}

-- a double of a double is no cell
beaver_word : (text word rest : List ℕ) → IsFirstWord text word rest → IsBeaverWord word → Opens text 98 101 ⊎ Opens text 114 97
beaver_word text word rest f is = at is where
  spelled : text ≡ f.blanks ++ (word ++ rest)
  spelled = f.spelled ∙ append_assoc f.blanks word rest

  at : IsBeaverWord word → Opens text 98 101 ⊎ Opens text 114 97
  at (inl (inl e)) = inl (letters_open text f.blanks word rest 98 101 (codes "aver") f.blank spelled e (omega arith))
  at (inl (inr e)) = inl (letters_open text f.blanks word rest 98 101 (codes "avers") f.blank spelled e (omega arith))
  at (inr (inl e)) = inr (letters_open text f.blanks word rest 114 97 (codes "ccoon") f.blank spelled e (omega arith))
  at (inr (inr e)) = inr (letters_open text f.blanks word rest 114 97 (codes "ccoons") f.blank spelled e (omega arith))

beaver_opens : (text : List ℕ) → IsBeaver text → Opens text 98 101 ⊎ Opens text 114 97
beaver_opens text (word, rest, f, is) = beaver_word text word rest f is

pub beaver_none : (text : List ℕ) (c : Cell) (rest : List ℕ) → IsBeaver text → TellsCell text c rest → ⊥
beaver_none text c rest beaver tells = at (beaver_opens text beaver) where
  at : Opens text 98 101 ⊎ Opens text 114 97 → ⊥
  at (inl o) = (opens_no_cell text c rest 98 101 tells o).1 (omega arith, omega arith)
  at (inr o) = (opens_no_cell text c rest 114 97 tells o).2 (omega arith, omega arith)

pub beaver_no_dice : (text : List ℕ) (dice : Dice) (rest : List ℕ) → IsBeaver text → BeginsDice text dice rest → ⊥
beaver_no_dice text dice rest beaver is = at (beaver_opens text beaver) where
  at : Opens text 98 101 ⊎ Opens text 114 97 → ⊥
  at (inl o) =
      let few = first_few dice in
      let same = (opens_same text 98 101 (48 + first_pips dice) (48 + second_pips dice) o (dice_open text dice rest is)).0 in
      omega (arith, same, few.1)
  at (inr o) =
      let few = first_few dice in
      let same = (opens_same text 114 97 (48 + first_pips dice) (48 + second_pips dice) o (dice_open text dice rest is)).0 in
      omega (arith, same, few.1)

-- a text with too many legs begins with a movement
many_some : (text rest : List ℕ) (legs : List Leg) → TellsLegsAt text rest legs → 4 < length legs → EndsMovement text → ⊥
many_some text rest legs ([], e, is) many ends =
    let size : length legs ≡ 0 = ap (λ (t : List Leg). length t) is in omega (arith, size, many)
many_some text rest legs (word ∷ words, (after, first, begins), (own, others, tells, all, is)) many ends =
    ends word after own first tells

-- dice begin no cell of letters
dice_none : (text : List ℕ) (dice : Dice) (after : List ℕ) (c : Cell) (rest : List ℕ) → BeginsDice text dice after
    → TellsCell text c rest → 100 ≤ first_of c → ⊥
dice_none text dice after c rest is tells high =
    let few = first_few dice in
    let same = (opens_same text (first_of c) (second_of c) (48 + first_pips dice) (48 + second_pips dice)
    (cell_opens text c rest tells) (dice_open text dice after is)).0 in
    omega (arith, same, few.1, high)

pub long_none : (text : List ℕ) (c : Cell) (rest : List ℕ) → IsTooLong text → TellsCell text c rest → ⊥
long_none text (Turn d l) rest (after, dice, first, (behind, legs, (words, begins, tells), many))
    (then, one, may, (more, begun, told), few, ends) =
    let both = dice_same text dice d after then first one in
    let most = movement_most after more words rest behind l.items legs
    (subst (λ (t : List ℕ). BeginsWith t more rest) (sym both.1) begun) told ends begins tells in
    omega (arith, most, many, few)
long_none text (CannotMove d) rest (after, dice, first, (behind, legs, told, many)) (then, one, cannot) =
    let both = dice_same text dice d after then first one in
    many_some after behind legs told (omega (arith, many))
    (cannot_ends after rest (subst (λ (t : List ℕ). SaysCannotMove t rest) (sym both.1) cannot))
long_none text (Unknown d) rest (after, dice, first, (behind, legs, told, many)) (then, one, unknown) =
    let both = dice_same text dice d after then first one in
    many_some after behind legs told (omega (arith, many))
    (unknown_ends after rest (subst (λ (t : List ℕ). SaysUnknown t rest) (sym both.1) unknown))
long_none text (Doubles n) rest (after, dice, first, many) tells = dice_none text dice after (Doubles n) rest first tells (omega arith)
long_none text Takes rest (after, dice, first, many) tells = dice_none text dice after Takes rest first tells (omega arith)
long_none text Drops rest (after, dice, first, many) tells = dice_none text dice after Drops rest first tells (omega arith)
long_none text (Wins w) rest (after, dice, first, many) tells = dice_none text dice after (Wins w) rest first tells (omega arith)

pub no_dice : (text : List ℕ) → ((dice : Dice) (rest : List ℕ) → BeginsDice text dice rest → ⊥) → HasDice text → ⊥
no_dice text none (dice, rest, is) = none dice rest is

pub beaver_by : (text word rest : List ℕ) (b : Bool) → IsFirstWord text word rest → IsTrue b ↔ IsBeaverWord word
    → IsTrue b ↔ IsBeaver text
beaver_by text word rest b first h = (
  λ t. (word, rest, first, h.0 t),
  λ beaver.
      let (other, behind, one, is) = beaver in
      h.1 (subst IsBeaverWord (first_word_same text other behind word rest one first).0 is),
)

pub no_beaver_word : (text : List ℕ) → IsBlankText text → IsBeaver text → ⊥
no_beaver_word text blank (word, rest, first, is) = no_first_word text word rest blank first

-- where a movement ends
pub no_word_ends : (text : List ℕ) → IsBlankText text → EndsMovement text
no_word_ends text blank word rest legs first tells = no_first_word text word rest blank first

pub movement_ends : (text word rest : List ℕ) → IsFirstWord text word rest → ((more : List Leg) → TellsWord word more → ⊥)
    → EndsMovement text
movement_ends text word rest first none other behind legs one tells =
    none legs (subst (λ (w : List ℕ). TellsWord w legs) (first_word_same text other behind word rest one first).0 tells)

-- the legs of a first word are too many, or with those behind it
pub too_many_here : (text word rest : List ℕ) (old : List Leg) → IsFirstWord text word rest
    → ((more : List Leg) × TellsWord word more × (4 < length old + length more)) → HasTooMany text old
too_many_here text word rest old first (more, tells, many) = (
  rest,
  more,
  (word ∷ [], (rest, first, refl), (more, [], tells, refl, sym (nothing_more more))),
  many,
)

pub many_behind : (text word middle : List ℕ) (old now : List Leg) → IsFirstWord text word middle
    → AddsLegs (TellsWord word) old now → HasTooMany middle now → HasTooMany text old
many_behind text word middle old now first (own, tells, is) (rest, legs, (words, begins, all), many) =
    let size : length now ≡ length old + length own = ap (λ (t : List Leg). length t) is ∙ length-append old own in
    let sum : length (own ++ legs) ≡ length own + length legs = length-append own legs in (
      rest,
      own ++ legs,
      (word ∷ words, (middle, first, begins), (own, legs, tells, all, refl)),
      omega (arith, size, sum, many),
    )

-- no cell of any kind begins the text
pub no_cell : (text : List ℕ) → (HasDice text → ⊥) → ((n : Option ℕ) (rest : List ℕ) → TellsDouble text n rest → ⊥)
    → ((w : Win) (rest : List ℕ) → TellsWin text w rest → ⊥)
    → ((rest : List ℕ) → SaysEither text (codes "Take") (codes "Takes") rest → ⊥)
    → ((rest : List ℕ) → SaysEither text (codes "Drop") (codes "Drops") rest → ⊥)
    → (c : Cell) (rest : List ℕ) → TellsCell text c rest → ⊥
no_cell text dice double win takes drops (Turn d l) rest (after, is, may, told, few, ends) = dice (d, after, is)
no_cell text dice double win takes drops (CannotMove d) rest (after, is, more) = dice (d, after, is)
no_cell text dice double win takes drops (Unknown d) rest (after, is, more) = dice (d, after, is)
no_cell text dice double win takes drops (Doubles n) rest h = double n rest h
no_cell text dice double win takes drops Takes rest h = takes rest h
no_cell text dice double win takes drops Drops rest h = drops rest h
no_cell text dice double win takes drops (Wins w) rest h = win w rest h

long_dice : (text : List ℕ) → IsTooLong text → HasDice text
long_dice text (after, dice, is, many) = (dice, after, is)

-- why no cell begins the text
pub cell_not_one : (text : List ℕ) → (HasDice text → ⊥) → ((c : Cell) (rest : List ℕ) → TellsCell text c rest → ⊥)
    → (IsBeaver text → ⊥) → IsCellFault text why.NotALine
cell_not_one text dice none beaver =
    (none, λ t e. (λ b. beaver (subst IsBeaver e b), λ l. dice (long_dice text (subst IsTooLong e l))))

pub cell_beaver : (text : List ℕ) → IsBeaver text → IsCellFault text why.Beaver
cell_beaver text beaver = (λ c rest tells. beaver_none text c rest beaver tells, (text, refl, beaver))

pub cell_long : (text : List ℕ) → IsTooLong text → IsCellFault text why.TooManySteps
cell_long text long = (λ c rest tells. long_none text c rest long tells, (text, refl, long))

pub cell_long_as : (text : List ℕ) (fault : MatFault) → fault ≡ why.TooManySteps → IsTooLong text → IsCellFault text fault
cell_long_as text fault is long = subst (IsCellFault text) (sym is) (cell_long text long)

-- a cell, and more behind it
pub more_behind : (text rest : List ℕ) (c : Cell) → TellsCell text c rest → (IsBlankText rest → ⊥) → IsLastFault text why.NotALine
more_behind text rest c tells more = (
  λ d end told blank. more (subst IsBlankText (cell_same text d c end rest told tells).1 blank),
  λ t e. (λ b. beaver_none text c rest (subst IsBeaver e b) tells, λ l. long_none text c rest (subst IsTooLong e l) tells),
)

pub last_of_cell : (text : List ℕ) (fault : MatFault) → IsCellFault text fault → IsLastFault text fault
last_of_cell text fault h = (λ c rest tells blank. h.0 c rest tells, h.1)

-- the same places
place_same : (P Q : List ℕ → Type 0) (fault : MatFault) → ((t : List ℕ) → P t → Q t) → ((t : List ℕ) → Q t → P t)
    → IsPlaceFault P fault → IsPlaceFault Q fault
place_same P Q why.NotALine f g h = λ t q. h t (g t q)
place_same P Q why.Beaver f g (t, p, b) = (t, f t p, b)
place_same P Q why.TooManySteps f g (t, p, l) = (t, f t p, l)
place_same P Q why.NoLength f g h = absurd h
place_same P Q why.NoCrawford f g h = absurd h
place_same P Q why.Money f g h = absurd h
place_same P Q why.LengthOutOfRange f g h = absurd h
place_same P Q why.WrongGame f g h = absurd h
place_same P Q why.WrongScores f g h = absurd h
place_same P Q why.GameGoesOn f g h = absurd h
place_same P Q why.GameOver f g h = absurd h
place_same P Q why.OutOfTurn f g h = absurd h
place_same P Q why.ResignsOutOfTurn f g h = absurd h
place_same P Q why.UnknownTurn f g h = absurd h
place_same P Q why.NoSuchTurn f g h = absurd h
place_same P Q why.WrongHits f g h = absurd h
place_same P Q why.WrongCube f g h = absurd h
place_same P Q why.WrongPoints f g h = absurd h
place_same P Q why.MatchGoesOn f g h = absurd h
place_same P Q (why.Entry e) f g h = absurd h

-- a cell in the right column alone
pub right_refused : (text : List ℕ) (fault : MatFault) → (IsBlankText text → ⊥) → left_column ≤ leading_blanks text
    → IsLastFault text fault → AreCellsFault text fault
right_refused text fault solid many h = (
  λ l r. none l r,
  place_same (λ t. t ≡ text) (IsCellPlace text) fault (λ t e. inl e) (λ t p. only t p) h.1,
) where
  none : (l r : Option Cell) → TellsCells text l r → ⊥
  none None None k = solid k
  none (Some x) None (few, rest, tells, blank) = omega (arith, many, few)
  none None (Some o) (wide, rest, tells, blank) = h.0 o rest tells blank
  none (Some x) (Some o) (few, middle, rest, tells, last, blank) = omega (arith, many, few)

  only : (t : List ℕ) → IsCellPlace text t → t ≡ text
  only t (inl e) = e
  only t (inr (few, (c, tells))) = absurd (omega (arith, many, few))

-- no cell in the left column
pub left_refused : (text : List ℕ) (fault : MatFault) → (IsBlankText text → ⊥) → leading_blanks text < left_column
    → IsCellFault text fault → AreCellsFault text fault
left_refused text fault solid few h = (
  λ l r. none l r,
  place_same (λ t. t ≡ text) (IsCellPlace text) fault (λ t e. inl e) (λ t p. only t p) h.1,
) where
  none : (l r : Option Cell) → TellsCells text l r → ⊥
  none None None k = solid k
  none (Some x) None (low, rest, tells, blank) = h.0 x rest tells
  none None (Some o) (wide, rest, tells, blank) = omega (arith, wide, few)
  none (Some x) (Some o) (low, middle, rest, tells, last, blank) = h.0 x middle tells

  only : (t : List ℕ) → IsCellPlace text t → t ≡ text
  only t (inl e) = e
  only t (inr (low, (c, tells))) = absurd (h.0 c t tells)

-- behind the cell in the left column no other is
pub behind_refused : (text rest : List ℕ) (x : Cell) (fault : MatFault) → (IsBlankText text → ⊥)
    → leading_blanks text < left_column → TellsCell text x rest → (IsBlankText rest → ⊥) → IsLastFault rest fault → AreCellsFault text fault
behind_refused text rest x fault solid few first more h = (λ l r. none l r, place fault h.1) where
  none : (l r : Option Cell) → TellsCells text l r → ⊥
  none None None k = solid k
  none (Some y) None (low, end, tells, blank) = more (subst IsBlankText (cell_same text y x end rest tells first).1 blank)
  none None (Some o) (wide, end, tells, blank) = omega (arith, wide, few)
  none (Some y) (Some o) (low, middle, end, tells, last, blank) =
      h.0 o end (subst (λ (t : List ℕ). TellsCell t o end) (cell_same text y x middle rest tells first).1 last) blank

  behind : (t : List ℕ) → t ≡ rest → IsCellPlace text t
  behind t e = inr (few, (x, subst (λ (u : List ℕ). TellsCell text x u) (sym e) first))

  other : ((t : List ℕ) → t ≡ rest → (IsBeaver t → ⊥) × (IsTooLong t → ⊥)) → (t : List ℕ) → IsCellPlace text t
      → (IsBeaver t → ⊥) × (IsTooLong t → ⊥)
  other k t (inl e) =
      (λ b. beaver_none text x rest (subst IsBeaver e b) first, λ l. long_none text x rest (subst IsTooLong e l) first)
  other k t (inr (low, (c, tells))) = k t (cell_same text c x t rest tells first).1

  place : (fault : MatFault) → IsPlaceFault (λ t. t ≡ rest) fault → IsPlaceFault (IsCellPlace text) fault
  place why.NotALine k = other k
  place why.Beaver (t, e, b) = (t, behind t e, b)
  place why.TooManySteps (t, e, l) = (t, behind t e, l)
  place why.NoLength k = absurd k
  place why.NoCrawford k = absurd k
  place why.Money k = absurd k
  place why.LengthOutOfRange k = absurd k
  place why.WrongGame k = absurd k
  place why.WrongScores k = absurd k
  place why.GameGoesOn k = absurd k
  place why.GameOver k = absurd k
  place why.OutOfTurn k = absurd k
  place why.ResignsOutOfTurn k = absurd k
  place why.UnknownTurn k = absurd k
  place why.NoSuchTurn k = absurd k
  place why.WrongHits k = absurd k
  place why.WrongCube k = absurd k
  place why.WrongPoints k = absurd k
  place why.MatchGoesOn k = absurd k
  place (why.Entry e) k = absurd k

-- what follows the number of a row
pub skip_same : (line a b : List ℕ) → SkipsNumber line a → SkipsNumber line b → a ≡ b
skip_same line a b (inl (e, none)) (inl (f, never)) = sym e ∙ f
skip_same line a b (inl (e, none)) (inr number) = absurd (none b number)
skip_same line a b (inr number) (inl (f, never)) = absurd (never a number)
skip_same line a b (inr f) (inr g) = number_same line a b f g

pub row_refused : (line cells : List ℕ) (fault : MatFault) → SkipsNumber line cells → AreCellsFault cells fault → IsRowFault line fault
row_refused line cells fault skips h = (
  λ row tells.
      let (begin, skip, told) = tells in
      h.0 row.left row.right (subst (λ (t : List ℕ). TellsCells t row.left row.right) (skip_same line begin cells skip skips) told),
  place_same (IsCellPlace cells) (IsRowPlace line) fault (λ t p. (cells, skips, p))
      (λ t q.
      let (begin, skip, p) = q in
      subst (λ (u : List ℕ). IsCellPlace u t) (skip_same line begin cells skip skips) p) h.1,
)

-- why a line tells nothing of what is awaited
pub game_shape : (line : List ℕ) → ((n : ℕ) → IsGameLine line n → ⊥) → IsShapeFault awaited.Game line why.NotALine
game_shape line none = (λ items next tells. let (n, is, more, last) = tells in none n is, refl)

pub row_shape : (line : List ℕ) (fault : MatFault) → ((n : ℕ) → IsGameLine line n → ⊥) → IsRowFault line fault
    → IsShapeFault awaited.Row line fault
row_shape line fault none h = (λ items next tells. never items next tells, h.1) where
  never : (items : List Item) (next : Awaited) → TellsAwaited awaited.Row line items next → ⊥
  never items next (inl (n, is, more, last)) = none n is
  never items next (inr (row, tells, is, last)) = h.0 row tells

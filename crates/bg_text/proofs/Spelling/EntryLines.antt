-- What a line says, or has wrong, as the line of an entry.
use Rattle.std.specs.Prelude.{◌≡◌, ℕ, List, [], ◌∷◌, ◌++◌, map, Option, Some, None, Result, Ok, Err, codes}
use Rattle.std.proofs.Common.{refl, sym, ◌∙◌, ap, arith, inl, inr}
use Rattle.std.proofs.lemmas.List.Elements.{All-from_recursion, All-contains}
use Rattle.std.specs.Fmt.{decimal}
use Rattle.bg_board.specs.Die.{pips}
use Rattle.bg_board.specs.declared.dice.Die.{Die}
use Rattle.bg_board.specs.declared.players.Player.{Player}
use Rattle.bg_board.specs.declared.players.Player.TheVariants.{X, O}
use Rattle.bg_turns.specs.Turn.{IsTurn}
use Rattle.bg_match.specs.Entry.{IsEntry, IsByReferee}
use Rattle.bg_match.specs.declared.actions.Action.{Action}
use Rattle.bg_match.specs.declared.actions.Action.TheVariants as action
use Rattle.bg_match.specs.declared.entries.Entry.{Entry}
use Rattle.bg_match.specs.declared.entries.Entry.TheVariants as entry
use Rattle.bg_match.specs.declared.levels.Level.TheVariants.{Normal, Gammon, Backgammon}
use Rattle.bg_text.specs.Entries.Words.{words_of, spaced}
use Rattle.bg_text.specs.Entries.EntryText.{letter, step_text, dice_words, seat_words, entry_words, entry_text, action_words, IsSeatOf}
use Rattle.bg_text.specs.Entries.EntryShape.{plain_words, IsDiceShape, IsSeatShape, IsOwnShape, IsEntryShape, IsActionShape, HasDownwardSteps, IsEntryTextFault, IsActionTextFault}
use Rattle.bg_text.specs.Entries.Pairs.{IsDiceFault, AreNumerals}
use Rattle.bg_text.specs.Entries.Lines.{IsFixed, IsSeatEntry, IsSeatFault, IsEntryOf}
use Rattle.bg_text.specs.declared.faults.TextFault.{TextFault}
use Rattle.bg_text.specs.declared.faults.TextFault.TheVariants.{NotALine, BadNumber, TooManySteps}
use Rattle.bg_text.proofs.Spelling.Splits.{words_not_nil, line_spaced, same_rest}
use Rattle.bg_text.proofs.Spelling.ActionTexts.{first_sum}
use Rattle.bg_text.proofs.Spelling.PairTexts.{numeral_decimal}
use Rattle.bg_text.proofs.Spelling.ActionLines.{plain_fixed, each_shape}
use Rattle.bg_text.proofs.Spelling.EntryTexts.{pips_small, words_of_entry, words_of_line, downward_entry, no_letter, same_line}

-- two dice behind the start of a line
pub dice_line : (start numbers : List ℕ) (x o : Die) → words_of numbers ≡ dice_words x o → start ++ numbers ≡ start ++ spaced (dice_words x o)
dice_line start numbers x o e = ap (λ rest. start ++ rest) (line_spaced numbers (dice_words x o) e)

numerals_of_shape : (word : List ℕ) (words : List (List ℕ)) → IsDiceShape word (word ∷ words) → AreNumerals words
numerals_of_shape word words h = (h.first, h.second, cc h.spelled, h.first_numeral, h.second_numeral)

shape_of_numerals : (word : List ℕ) (words : List (List ℕ)) → AreNumerals words → IsDiceShape word (word ∷ words)
shape_of_numerals word words (first, second, e, h, k) = record {
  first = first;
  second = second;
  spelled = ap (λ rest. word ∷ rest) e;
  first_numeral = h;
  second_numeral = k;
}

-- no line without numbers is a roll of dice
no_fixed_roll : (words : List (List ℕ)) (a : Action) → (words ≡ [] → ⊥) → IsFixed a → codes "roll" ∷ words ≡ action_words a → ⊥
no_fixed_roll words action.Roll h fixed e = h (cc e)
no_fixed_roll words _ h fixed e = omega (arith, ap first_sum e)

dice_of_roll : (words : List (List ℕ)) (e : Entry) → IsSeatEntry e → codes "roll" ∷ words ≡ entry_words e → (x o : Die) × (words ≡ dice_words x o)
dice_of_roll words (entry.Rolled dice) h e = (dice.first, dice.second, cc e)
dice_of_roll words (entry.Opening x o) h e = absurd (h tt)
dice_of_roll words entry.Doubled h e = absurd (omega (arith, ap first_sum e))
dice_of_roll words entry.Taken h e = absurd (omega (arith, ap first_sum e))
dice_of_roll words entry.Dropped h e = absurd (omega (arith, ap first_sum e))
dice_of_roll words (entry.Moved steps) h e = absurd (omega (arith, ap first_sum e))
dice_of_roll words (entry.Resigned level) h e = absurd (omega (arith, ap first_sum e))
dice_of_roll words entry.Accepted h e = absurd (omega (arith, ap first_sum e))
dice_of_roll words entry.Rejected h e = absurd (omega (arith, ap first_sum e))
dice_of_roll words entry.Passed h e = absurd (h tt)

pub roll_fault : (numbers : List ℕ) (fault : TextFault) → IsDiceFault fault (words_of numbers) → IsSeatFault fault (codes "roll " ++ numbers)
roll_fault numbers NotALine h = no_shape
  where
    no_shape : IsSeatShape (codes "roll" ∷ words_of numbers) → ⊥
    no_shape (inl dice) = h (numerals_of_shape (codes "roll") (words_of numbers) dice)
    no_shape (inr (inl move)) = omega (arith, ap first_sum move.spelled)
    no_shape (inr (inr plain)) =
        let fixed = plain_fixed (codes "roll" ∷ words_of numbers) plain in
        no_fixed_roll (words_of numbers) fixed.0 (words_not_nil numbers) fixed.1 fixed.2
roll_fault numbers BadNumber h = (
  inl (shape_of_numerals (codes "roll") (words_of numbers) h.0),
  λ e seat down text.
      let words : codes "roll" ∷ words_of numbers ≡ entry_words e = ap words_of text ∙ words_of_entry e down in
      let dice = dice_of_roll (words_of numbers) e seat words in
      h.1 dice.0 dice.1 dice.2,
)
roll_fault numbers TooManySteps h = absurd h

-- a line behind a letter that is no roll of dice is wrong as an action is
pub seat_fault : (line : List ℕ) (fault : TextFault) → ((rest : List ℕ) → line ≡ codes "roll " ++ rest → ⊥) → IsActionTextFault fault line → IsSeatFault fault line
seat_fault line NotALine no_roll h = no_shape
  where
    no_shape : IsSeatShape (words_of line) → ⊥
    no_shape (inl dice) = no_roll (spaced (dice.first ∷ dice.second ∷ [])) (line_spaced line (codes "roll" ∷ dice.first ∷ dice.second ∷ []) dice.spelled)
    no_shape (inr other) = h (inr other)
seat_fault line BadNumber no_roll h = (shape h.0, text)
  where
    shape : IsActionShape (words_of line) → IsSeatShape (words_of line)
    shape (inl roll) = absurd (h.1 action.Roll tt (line_spaced line (codes "roll" ∷ []) roll))
    shape (inr other) = inr other

    text : (e : Entry) → IsSeatEntry e → HasDownwardSteps e → line ≡ spaced (entry_words e) → ⊥
    text (entry.Opening x o) seat down e = seat tt
    text entry.Passed seat down e = seat tt
    text (entry.Rolled dice) seat down e = no_roll (spaced (dice_words dice.first dice.second)) e
    text entry.Doubled seat down e = h.1 action.Double tt e
    text entry.Taken seat down e = h.1 action.Take tt e
    text entry.Dropped seat down e = h.1 action.Drop tt e
    text (entry.Moved steps) seat down e = h.1 (action.Move steps) down e
    text (entry.Resigned level) seat down e = h.1 (action.Resign level) tt e
    text entry.Accepted seat down e = h.1 action.Accept tt e
    text entry.Rejected seat down e = h.1 action.Reject tt e
seat_fault line TooManySteps no_roll h = h

-- a roll without dice is no entry
pub roll_alone : (line : List ℕ) → line ≡ codes "roll" → IsSeatShape (words_of line) → ⊥
roll_alone line e shape = none (rw e at shape)
  where
    none : IsSeatShape (codes "roll" ∷ []) → ⊥
    none (inl dice) = absurd (cc dice.spelled)
    none (inr (inl move)) = omega (arith, ap first_sum move.spelled)
    none (inr (inr plain)) =
        All-contains (λ words. words ≡ codes "roll" ∷ [] → ⊥) plain_words (codes "roll" ∷ [])
        (All-from_recursion (λ words. words ≡ codes "roll" ∷ [] → ⊥) plain_words (
          λ e. omega (arith, ap first_sum e),
          (
            λ e. omega (arith, ap first_sum e),
            (
              λ e. omega (arith, ap first_sum e),
              (
                λ e. omega (arith, ap first_sum e),
                (
                  λ e. omega (arith, ap first_sum e),
                  (λ e. omega (arith, ap first_sum e), (λ e. omega (arith, ap first_sum e), (λ e. omega (arith, ap first_sum e), tt))),
                ),
              ),
            ),
          ),
        ))
        plain refl

letter_not_open : (player : Player) (words rest : List (List ℕ)) → codes "open" ∷ words ≡ letter player ∷ rest → ⊥
letter_not_open X words rest e = omega (arith, ap first_sum e)
letter_not_open O words rest e = omega (arith, ap first_sum e)

letter_not_pass : (player : Player) (words : List (List ℕ)) → letter player ∷ words ≡ codes "pass" ∷ [] → ⊥
letter_not_pass X words e = omega (arith, ap first_sum e)
letter_not_pass O words e = omega (arith, ap first_sum e)

dice_of_opening : (words : List (List ℕ)) (seat : Option Player) (e : Entry) → IsSeatOf seat e → codes "open" ∷ words ≡ seat_words seat ++ entry_words e → (x o : Die) × (words ≡ dice_words x o)
dice_of_opening words (Some player) e h same = absurd (letter_not_open player words (entry_words e) same)
dice_of_opening words None (entry.Opening x o) h same = (x, o, cc same)
dice_of_opening words None (entry.Rolled dice) h same = absurd (omega (arith, ap first_sum same))
dice_of_opening words None entry.Doubled h same = absurd (omega (arith, ap first_sum same))
dice_of_opening words None entry.Taken h same = absurd (omega (arith, ap first_sum same))
dice_of_opening words None entry.Dropped h same = absurd (omega (arith, ap first_sum same))
dice_of_opening words None (entry.Moved steps) h same = absurd (omega (arith, ap first_sum same))
dice_of_opening words None (entry.Resigned level) h same = absurd (omega (arith, ap first_sum same))
dice_of_opening words None entry.Accepted h same = absurd (omega (arith, ap first_sum same))
dice_of_opening words None entry.Rejected h same = absurd (omega (arith, ap first_sum same))
dice_of_opening words None entry.Passed h same = absurd (omega (arith, ap first_sum same))

pub open_fault : (numbers : List ℕ) (fault : TextFault) → IsDiceFault fault (words_of numbers) → IsEntryTextFault fault (codes "open " ++ numbers)
open_fault numbers NotALine h = no_shape
  where
    no_shape : IsEntryShape (codes "open" ∷ words_of numbers) → ⊥
    no_shape (inl (inl dice)) = h (numerals_of_shape (codes "open") (words_of numbers) dice)
    no_shape (inl (inr pass)) = omega (arith, ap first_sum pass)
    no_shape (inr (player, rest, e, shape)) = letter_not_open player (words_of numbers) rest e
open_fault numbers BadNumber h = (
  inl (inl (shape_of_numerals (codes "open") (words_of numbers) h.0)),
  λ seat e of down text.
      let words : codes "open" ∷ words_of numbers ≡ seat_words seat ++ entry_words e = ap words_of text ∙ words_of_line seat e down in
      let dice = dice_of_opening (words_of numbers) seat e of words in
      h.1 dice.0 dice.1 dice.2,
)
open_fault numbers TooManySteps h = absurd h

-- the words of a line with a letter
pub words_behind : (player : Player) (rest : List ℕ) → words_of (letter player ++ 32 ∷ rest) ≡ letter player ∷ words_of rest
words_behind X rest = refl
words_behind O rest = refl

-- a line of entry words behind a letter
pub line_behind : (player : Player) (e : Entry) → letter player ++ 32 ∷ spaced (entry_words e) ≡ entry_text (Some player) e
line_behind player (entry.Opening x o) = refl
line_behind player (entry.Rolled dice) = refl
line_behind player entry.Doubled = refl
line_behind player entry.Taken = refl
line_behind player entry.Dropped = refl
line_behind player (entry.Moved steps) = refl
line_behind player (entry.Resigned level) = refl
line_behind player entry.Accepted = refl
line_behind player entry.Rejected = refl
line_behind player entry.Passed = refl

seat_entry : (player : Player) (e : Entry) → IsSeatOf (Some player) e → IsSeatEntry e
seat_entry player e h = λ own. let none = h.1 own in absurd cc

pub entry_fault : (player : Player) (rest : List ℕ) (fault : TextFault) → IsSeatFault fault rest → IsEntryTextFault fault (letter player ++ 32 ∷ rest)
entry_fault player rest NotALine h = λ shape. no_shape (rw (words_behind player rest) at shape)
  where
    no_shape : IsEntryShape (letter player ∷ words_of rest) → ⊥
    no_shape (inl (inl dice)) = letter_not_open player (dice.first ∷ dice.second ∷ []) (words_of rest) (sym dice.spelled)
    no_shape (inl (inr pass)) = letter_not_pass player (words_of rest) pass
    no_shape (inr (other, more, e, shape)) =
        let same : more ≡ words_of rest = sym (same_rest _ _ _ _ e) in
        h (rw same at shape)
entry_fault player rest BadNumber h = (
  rw (words_behind player rest) (inr (player, words_of rest, refl, h.0)),
  λ seat e of down text. no_text seat e of down (sym (words_behind player rest) ∙ (ap words_of text ∙ words_of_line seat e down)),
)
  where
    no_text : (seat : Option Player) (e : Entry) → IsSeatOf seat e → HasDownwardSteps e → letter player ∷ words_of rest ≡ seat_words seat ++ entry_words e → ⊥
    no_text None e of down words = no_letter player (words_of rest) e words
    no_text (Some other) e of down words =
        h.1 e (seat_entry other e of) down (line_spaced rest (entry_words e) (same_rest _ _ _ _ words))
entry_fault player rest TooManySteps (steps, text, down, many) =
    (player, steps, ap (λ more. letter player ++ 32 ∷ more) text ∙ line_behind player (entry.Moved steps), down, many)

pub no_entry_shape : (line : List ℕ) → ((rest : List ℕ) → line ≡ codes "open " ++ rest → ⊥) → (line ≡ codes "pass" → ⊥)
    → ((player : Player) (rest : List ℕ) → line ≡ letter player ++ 32 ∷ rest → ⊥) → IsEntryShape (words_of line) → ⊥
no_entry_shape line no_open no_pass no_player (inl (inl dice)) = no_open (spaced (dice.first ∷ dice.second ∷ [])) (line_spaced line (codes "open" ∷ dice.first ∷ dice.second ∷ []) dice.spelled)
no_entry_shape line no_open no_pass no_player (inl (inr pass)) = no_pass (line_spaced line (codes "pass" ∷ []) pass)
no_entry_shape line no_open no_pass no_player (inr (player, rest, e, shape)) = of rest e shape
  where
    no_words : IsSeatShape [] → ⊥
    no_words (inl dice) = absurd cc
    no_words (inr (inl move)) = absurd cc
    no_words (inr (inr plain)) = let fixed = plain_fixed [] plain in none fixed.0 fixed.2
      where
        none : (a : Action) → [] ≡ action_words a → ⊥
        none action.Roll e = absurd cc
        none _ e = absurd cc

    of : (rest : List (List ℕ)) → words_of line ≡ letter player ∷ rest → IsSeatShape rest → ⊥
    of [] e shape = no_words shape
    of (word ∷ words) e shape = no_player player (spaced (word ∷ words)) (line_spaced line (letter player ∷ word ∷ words) e)

die_shape : (word : List ℕ) (x o : Die) → IsDiceShape word (word ∷ dice_words x o)
die_shape word x o = record {
  first = decimal (pips x);
  second = decimal (pips o);
  spelled = refl;
  first_numeral = numeral_decimal (pips x) (pips_small x);
  second_numeral = numeral_decimal (pips o) (pips_small o);
}

seat_shape : (e : Entry) → IsSeatEntry e → HasDownwardSteps e → IsSeatShape (entry_words e)
seat_shape (entry.Opening x o) h down = absurd (h tt)
seat_shape entry.Passed h down = absurd (h tt)
seat_shape (entry.Rolled dice) h down = inl (die_shape (codes "roll") dice.first dice.second)
seat_shape entry.Doubled h down = inr (inr (0, omega arith, refl))
seat_shape entry.Taken h down = inr (inr (1, omega arith, refl))
seat_shape entry.Dropped h down = inr (inr (2, omega arith, refl))
seat_shape (entry.Moved steps) h down = inr (inl (record { pairs = map step_text steps; spelled = refl; each = each_shape steps down }))
seat_shape (entry.Resigned Normal) h down = inr (inr (3, omega arith, refl))
seat_shape (entry.Resigned Gammon) h down = inr (inr (4, omega arith, refl))
seat_shape (entry.Resigned Backgammon) h down = inr (inr (5, omega arith, refl))
seat_shape entry.Accepted h down = inr (inr (6, omega arith, refl))
seat_shape entry.Rejected h down = inr (inr (7, omega arith, refl))

own_shape : (e : Entry) → IsByReferee e → IsOwnShape (entry_words e)
own_shape (entry.Opening x o) own = inl (die_shape (codes "open") x o)
own_shape entry.Passed own = inr refl
own_shape (entry.Rolled dice) own = absurd own
own_shape entry.Doubled own = absurd own
own_shape entry.Taken own = absurd own
own_shape entry.Dropped own = absurd own
own_shape (entry.Moved steps) own = absurd own
own_shape (entry.Resigned level) own = absurd own
own_shape entry.Accepted own = absurd own
own_shape entry.Rejected own = absurd own

line_shape : (seat : Option Player) (e : Entry) → IsSeatOf seat e → HasDownwardSteps e → IsEntryShape (seat_words seat ++ entry_words e)
line_shape (Some player) e of down = inr (player, entry_words e, refl, seat_shape e (seat_entry player e of) down)
line_shape None e of down = inl (own_shape e (of.0 refl))

-- what is wrong with a line is nothing that an entry's line has
pub no_entry_fault : (line : List ℕ) (fault : TextFault) (seat : Option Player) (e : Entry) → IsEntryTextFault fault line → IsSeatOf seat e → IsEntry e → line ≡ entry_text seat e → ⊥
no_entry_fault line NotALine seat e h of range text =
    let down = downward_entry e range in
    h (rw (text, words_of_line seat e down) (line_shape seat e of down))
no_entry_fault line BadNumber seat e h of range text = h.1 seat e of (downward_entry e range) text
no_entry_fault line TooManySteps seat e (player, steps, written, down, many) of range text =
    let same = same_line seat (Some player) e (entry.Moved steps) (downward_entry e range) down (sym text ∙ written) in
    let few : IsTurn steps = rw same.1 at range in
    omega (arith, few.few)

pub only_entry : (line : List ℕ) (result : Result (Option Player × Entry) TextFault) → IsEntryOf line result → (seat : Option Player) (e : Entry) → IsSeatOf seat e → IsEntry e → line ≡ entry_text seat e → result ≡ Ok (seat, e)
only_entry line (Ok (other, found)) h seat e of range text =
    let same = same_line other seat found e (downward_entry found h.1) (downward_entry e range) (sym h.2 ∙ text) in
    let answer : Option Player → Entry → Result (Option Player × Entry) TextFault = λ by entry. Ok (by, entry) in
    ap (λ by. answer by found) same.0 ∙ ap (answer seat) same.1
only_entry line (Err fault) h seat e of range text = absurd (no_entry_fault line fault seat e h of range text)

-- A legal turn as it is printed means itself.
use Rattle.std.specs.Prelude.{◌≡◌, ◌⊎◌, ◌==◌, ℕ, zero, suc, ◌+◌, ◌<◌, ◌≤◌, Bool, true, false, List, [], ◌∷◌, ◌++◌, length, map, Some, sum, codes, slice_index, if◌then◌else◌}
use Rattle.std.proofs.Common.{append_assoc, append-nil, length-append, refl, sym, ◌∙◌, ap, subst, inl, inr, arith}
use Rattle.std.specs.Fmt.{decimal}
use Rattle.std.specs.List.{AllByRecursion}
use Rattle.std.proofs.lemmas.Bool.{cases_lt, ne_eqb}
use Rattle.std.proofs.lemmas.Fmt.{decimal_nonempty}
use Rattle.std.proofs.lemmas.List.{append_cancel_left, map-append}
use Rattle.std.proofs.lemmas.List.Sums.{get_or-le-sum_by, sum_by-cons}
use Rattle.bg_board.specs.FromTo.{FromTo}
use Rattle.bg_board.specs.Position.{HasAllOff, IsPosition, Position, checkers}
use Rattle.bg_board.specs.declared.players.Player.{Player}
use Rattle.bg_board.specs.declared.players.Player.TheVariants.{X, O}
use Rattle.bg_turns.specs.Dice.{dice_list}
use Rattle.bg_turns.specs.Turn.{IsDownward, IsLegalTurn, IsLongest, IsPlayable, UsesLarger}
use Rattle.bg_turns.specs.declared.throws.Dice.{Dice}
use Rattle.bg_match.specs.declared.actions.Action.TheVariants as action
use Rattle.bg_match.specs.declared.entries.Entry.TheVariants as entry
use Rattle.bg_match.proofs.PlayableTurns.{legal_in_range}
use Rattle.bg_text.specs.Entries.EntryText.{action_text, entry_text, letter, source_text, step_text, target_text}
use Rattle.bg_text.specs.Entries.Words.{spaced}
use Rattle.bg_text.proofs.Spelling.EntryLines.{line_behind}
use Rattle.bg_mat.specs.Legs.{IsPointText, TellsWord}
use Rattle.bg_mat.specs.Rows.Words.{EndsWord, IsFirstWord}
use Rattle.bg_mat.specs.Turns.{steps_of}
use Rattle.bg_mat.specs.declared.movements.legs.Leg.{Leg}
use Rattle.bg_mat.proofs.OfWriting.PlainTexts.{IsPlain, decimal_plain, no_blanks, number_is, one_blank, plain_both, plain_by, word_first}
use Rattle.bg_typed.specs.Laws.{PrintedTurnsMeanThemselves}
use Rattle.bg_typed.specs.Meanings.{IsOnly, MeansLegs, MeansTurn, has_marks}
use Rattle.bg_typed.specs.Spelling.{spelled_byte, spelled, written_out}
use Rattle.bg_typed.specs.TypedWords.{SkipsMove, TellsTyped, TellsWords}
use Rattle.bg_typed.proofs.Spellings.{blank_written, decimal_digits, digits_plain, digits_written, slash_written}
use Rattle.bg_typed.proofs.ReadWords.{no_words, word_before}

-- steps as they are typed, each behind a blank
abbrev pub typed_steps : List FromTo → List ℕ
typed_steps [] = []
typed_steps (step ∷ steps) = 32 ∷ (step_text step ++ typed_steps steps)

spaced_steps : (word : List ℕ) (steps : List FromTo) → spaced (word ∷ map step_text steps) ≡ word ++ typed_steps steps
spaced_steps word [] = sym (append-nil word)
spaced_steps word (step ∷ steps) = ap (λ (t : List ℕ). word ++ 32 ∷ t) (spaced_steps (step_text step) steps)

-- the same, spelled
abbrev pub step_word : FromTo → List ℕ
step_word step = source_text step.from ++ 47 ∷ target_text step.to

abbrev pub step_words : List FromTo → List ℕ
step_words [] = []
step_words (step ∷ steps) = 32 ∷ (step_word step ++ step_words steps)

-- a point is written plainly, and stays
record IsSettled (word : List ℕ) : Type 0 where
  same : map spelled_byte word ≡ word
  stays : written_out true word ≡ word
  solid : IsPlain word
  some : 0 < length word

number_settled : (n : ℕ) → n ≤ 25 → IsSettled (decimal n)
number_settled n low = record {
  same = digits_plain (decimal n) (decimal_digits n (omega arith));
  stays = digits_written true (decimal n) (decimal_digits n (omega arith));
  solid = decimal_plain n (omega arith);
  some = decimal_nonempty n (omega arith);
}

bar_settled : IsSettled (codes "bar")
bar_settled = record { same = refl; stays = refl; solid = plain_by (codes "bar") refl; some = omega arith }

off_settled : IsSettled (codes "off")
off_settled = record { same = refl; stays = refl; solid = plain_by (codes "off") refl; some = omega arith }

by_test : (b : Bool) (word other : List ℕ) → IsSettled word → IsSettled other → IsSettled (if b then word else other)
by_test true word other h k = h
by_test false word other h k = k

source_settled : (n : ℕ) → n ≤ 25 → IsSettled (source_text n)
source_settled n low = by_test (n == 25) (codes "bar") (decimal n) bar_settled (number_settled n low)

target_settled : (n : ℕ) → n ≤ 25 → IsSettled (target_text n)
target_settled n low = by_test (n == 0) (codes "off") (decimal n) off_settled (number_settled n low)

source_point : (n : ℕ) → n ≤ 25 → IsPointText (source_text n) n
source_point n low = elim (cases_lt n 25) [
  | inl below ↦ let other : (n == 25) ≡ false = ne_eqb n 25 (λ e. omega (arith, e)) in
      rw other (inr (inr (number_is n (omega arith))))
  | inr above ↦ let e : 25 ≡ n = omega arith in
      subst (λ (m : ℕ). IsPointText (source_text m) m) e (inl (refl, refl))
]

target_point : (n : ℕ) → n ≤ 25 → IsPointText (target_text n) n
target_point zero low = inr (inl (refl, refl))
target_point (suc n) low =
    let other : (suc n == 0) ≡ false = ne_eqb (suc n) 0 (λ e. omega (arith, e)) in
    rw other (inr (inr (number_is (suc n) (omega arith))))

step_plain : (step : FromTo) → IsDownward step → map spelled_byte (step_text step) ≡ step_word step
step_plain step h =
    let starts = h.starts in
    let lower = h.lower in
    let from = source_settled step.from starts in
    let to = target_settled step.to (omega (arith, starts, lower)) in
    simp append_assoc (map-append spelled_byte (source_text step.from) (45 ∷ target_text step.to)
    ∙ (ap (λ (t : List ℕ). t ++ 47 ∷ map spelled_byte (target_text step.to)) from.same
    ∙ ap (λ (t : List ℕ). source_text step.from ++ 47 ∷ t) to.same))

steps_plain : (steps : List FromTo) → AllByRecursion IsDownward steps → map spelled_byte (typed_steps steps) ≡ step_words steps
steps_plain [] h = refl
steps_plain (step ∷ steps) h =
    ap (λ (t : List ℕ). 32 ∷ t) (map-append spelled_byte (step_text step) (typed_steps steps)
    ∙ (ap (λ (t : List ℕ). t ++ map spelled_byte (typed_steps steps)) (step_plain step h.0)
    ∙ ap (λ (t : List ℕ). step_word step ++ t) (steps_plain steps h.1)))

-- steps stay as they are spelled, behind another part
steps_stay : (front : List ℕ) (steps : List FromTo) → written_out true front ≡ front → AllByRecursion IsDownward steps
    → written_out true (front ++ step_words steps) ≡ front ++ step_words steps
steps_stay front [] same h = ap (λ (t : List ℕ). written_out true t) (append-nil front) ∙ (same ∙ sym (append-nil front))
steps_stay front (step ∷ steps) same h =
    let starts = h.0.starts in
    let lower = h.0.lower in
    let from = source_settled step.from starts in
    let to = target_settled step.to (omega (arith, starts, lower)) in
    let text : step_word step ++ step_words steps ≡ source_text step.from ++ 47 ∷ (target_text step.to ++ step_words steps) =
    append_assoc (source_text step.from) (47 ∷ target_text step.to) (step_words steps) in
    let rest : written_out true (target_text step.to ++ step_words steps) ≡ target_text step.to ++ step_words steps =
    steps_stay (target_text step.to) steps to.stays h.1 in
    let behind : written_out true (step_word step ++ step_words steps) ≡ step_word step ++ step_words steps =
    ap (λ (t : List ℕ). written_out true t) text
    ∙ (slash_written (source_text step.from) (target_text step.to ++ step_words steps)
    ∙ (ap (λ (t : List ℕ). t ++ 47 ∷ written_out true (target_text step.to ++ step_words steps)) from.stays
    ∙ (ap (λ (t : List ℕ). source_text step.from ++ 47 ∷ t) rest ∙ sym text))) in
    blank_written front (step_word step ++ step_words steps)
    ∙ (ap (λ (t : List ℕ). t ++ 32 ∷ written_out true (step_word step ++ step_words steps)) same
    ∙ ap (λ (t : List ℕ). front ++ 32 ∷ t) behind)

-- a turn as it is printed, spelled
pub printed_spelled : (steps : List FromTo) → AllByRecursion IsDownward steps
    → spelled (action_text (action.Move steps)) ≡ codes "move" ++ step_words steps
printed_spelled steps h =
    let text : action_text (action.Move steps) ≡ codes "move" ++ typed_steps steps = spaced_steps (codes "move") steps in
    let small : map spelled_byte (action_text (action.Move steps)) ≡ codes "move" ++ step_words steps =
    ap (λ (t : List ℕ). map spelled_byte t) text
    ∙ ap (λ (t : List ℕ). codes "move" ++ t) (steps_plain steps h) in
    ap (λ (t : List ℕ). written_out true t) small ∙ steps_stay (codes "move") steps refl h

-- a step as a leg
abbrev pub leg_of : FromTo → Leg
leg_of step = record { step = step; hits = false }

step_tells : (step : FromTo) → IsDownward step → TellsWord (step_word step) (leg_of step ∷ [])
step_tells step h =
    let starts = h.starts in
    let lower = h.lower in (
      step_word step,
      1,
      leg_of step ∷ [],
      inl (refl, refl),
      (
        step.from,
        source_text step.from,
        47 ∷ target_text step.to,
        refl,
        source_point step.from starts,
        (
          target_text step.to,
          [],
          ap (λ (t : List ℕ). 47 ∷ t) (sym (append-nil (target_text step.to))),
          record {
            point = target_text step.to;
            starts = refl;
            on_board = starts;
            lower = lower;
            ends = target_point step.to (omega (arith, starts, lower));
            marked = sym (append-nil (target_text step.to));
          },
          refl,
        ),
        λ e. absurd (cc (e)),
      ),
      refl,
    )

word_plain : (step : FromTo) → IsDownward step → IsPlain (step_word step)
word_plain step h =
    let starts = h.starts in
    let lower = h.lower in
    plain_both (source_text step.from) (47 ∷ target_text step.to) (source_settled step.from starts).solid
    ((refl, refl), (target_settled step.to (omega (arith, starts, lower))).solid)

word_some : (step : FromTo) → 0 < length (step_word step)
word_some step =
    let both = length-append (source_text step.from) (47 ∷ target_text step.to) in omega (arith, both)

words_end : (steps : List FromTo) → EndsWord (step_words steps)
words_end [] = tt
words_end (step ∷ steps) = refl

steps_tell : (steps : List FromTo) → AllByRecursion IsDownward steps → TellsWords (step_words steps) (map leg_of steps)
steps_tell [] h = no_words [] no_blanks
steps_tell (step ∷ steps) h =
    let first : IsFirstWord (step_words (step ∷ steps)) (step_word step) (step_words steps) =
    word_first (codes " ") (step_word step) (step_words steps) one_blank (word_plain step h.0) (word_some step) (words_end steps) in
    word_before (step_words (step ∷ steps)) (step_word step) (step_words steps) (leg_of step ∷ []) (map leg_of steps) first
    (step_tells step h.0) (steps_tell steps h.1)

-- what is printed tells the steps
pub printed_tells : (steps : List FromTo) → AllByRecursion IsDownward steps
    → TellsTyped (action_text (action.Move steps)) (map leg_of steps)
printed_tells steps h =
    let first : IsFirstWord (codes "move" ++ step_words steps) (codes "move") (step_words steps) =
    word_first [] (codes "move") (step_words steps) no_blanks (plain_by (codes "move") refl) (omega arith) (words_end steps) in (
      step_words steps,
      subst (λ (t : List ℕ). SkipsMove t (step_words steps)) (sym (printed_spelled steps h)) (inr (codes "move", first, inr refl)),
      steps_tell steps h,
    )

legs_steps : (steps : List FromTo) → steps_of (map leg_of steps) ≡ steps
legs_steps [] = refl
legs_steps (step ∷ steps) = ap (λ (ss : List FromTo). step ∷ ss) (legs_steps steps)

legs_many : (steps : List FromTo) → length (map leg_of steps) ≡ length steps
legs_many [] = refl
legs_many (step ∷ steps) = ap suc (legs_many steps)

legs_unmarked : (steps : List FromTo) → has_marks (map leg_of steps) ≡ false
legs_unmarked [] = refl
legs_unmarked (step ∷ steps) = legs_unmarked steps

-- a checker that is not off
off_and_more : (counts : List ℕ) (point : ℕ) → slice_index counts 0 ≡ 15 → sum counts ≡ 15 → 0 < slice_index counts (suc point) → ⊥
off_and_more [] point off all some = omega (arith, off)
off_and_more (x ∷ counts) point off all some =
    let whole : sum (x ∷ counts) ≡ x + sum counts = sum_by-cons (λ (n : ℕ). n) x counts in
    elim (cases_lt point (length counts)) [
      | inl within ↦ let part = get_or-le-sum_by (λ (n : ℕ). n) counts point 0 within in
          omega (arith, off, all, some, whole, part)
      | inr past ↦ absurd (none_past counts point past some)
    ] where
      none_past : (xs : List ℕ) (i : ℕ) → length xs ≤ i → 0 < slice_index xs i → ⊥
      none_past [] i h k = omega (arith, k)
      none_past (x ∷ xs) zero h k = omega (arith, h)
      none_past (x ∷ xs) (suc i) h k = none_past xs i (omega (arith, h)) k

all_fifteen : (b : Position) (p : Player) → IsPosition b → sum (checkers b p) ≡ 15
all_fifteen b X h = h.x_fifteen
all_fifteen b O h = h.o_fifteen

from_point : (counts : List ℕ) (from : ℕ) → 0 < from → slice_index counts 0 ≡ 15 → sum counts ≡ 15 → 0 < slice_index counts from → ⊥
from_point counts zero low off all some = omega (arith, low)
from_point counts (suc from) low off all some = off_and_more counts from off all some

-- with all checkers off nothing can be played
off_none : (b : Position) (p : Player) (dice : List ℕ) (other : List FromTo) → IsPosition b → HasAllOff b p → IsPlayable b p dice other
    → other ≡ []
off_none b p dice [] is off h = refl
off_none b p dice (step ∷ rest) is off (i, below, h, more) =
    let down = h.downward in
    absurd (from_point (checkers b p) step.from (omega (arith, down)) off (all_fifteen b p is) h.may_start.0)

longest_none : (b : Position) (p : Player) (dice : List ℕ) (other : List FromTo) → IsLongest b p dice 0 → IsPlayable b p dice other
    → other ≡ []
longest_none b p dice [] longest h = refl
longest_none b p dice (step ∷ rest) longest h = absurd (let few = longest (step ∷ rest) h in omega (arith, few))

-- where no step is a legal turn it is the only one
pub empty_only : (b : Position) (p : Player) (dice : Dice) → IsPosition b → IsLegalTurn b p dice [] → IsOnly b p dice []
empty_only b p dice is legal = record { legal = legal; only = λ other h. only_one legal.complete other h.playable } where
  only_one : HasAllOff b p ⊎ (IsLongest b p (dice_list dice) 0 × UsesLarger b p dice []) → (other : List FromTo)
      → IsPlayable b p (dice_list dice) other → other ≡ []
  only_one (inl off) other h = off_none b p (dice_list dice) other is off h
  only_one (inr longest) other h = longest_none b p (dice_list dice) other longest.0 h

-- a legal turn is meant by its text as an action
text_means : (b : Position) (p : Player) (dice : Dice) (turn : List FromTo) → IsPosition b → IsLegalTurn b p dice turn
    → MeansTurn b p dice (action_text (action.Move turn)) turn
text_means b p dice turn is legal =
    let range = legal_in_range b p dice turn legal in
    let few = range.few in
    let many = legs_many turn in
    (map leg_of turn, printed_tells turn range.each, omega (arith, few, many), meant turn legal) where
      meant : (turn : List FromTo) → IsLegalTurn b p dice turn → MeansLegs b p dice (map leg_of turn) turn
      meant [] legal = inl (refl, empty_only b p dice is legal)
      meant (step ∷ steps) legal =
          inr (inr (
            λ e. absurd (cc (e)),
            legs_unmarked (step ∷ steps),
            inl (sym (legs_steps (step ∷ steps)), legal),
          ))

-- what stands behind the letter in the line of a turn
behind_letter : (p : Player) (turn : List FromTo) (typed : List ℕ)
    → entry_text (Some p) (entry.Moved turn) ≡ letter p ++ 32 ∷ typed → action_text (action.Move turn) ≡ typed
behind_letter p turn typed e =
    let rest : 32 ∷ action_text (action.Move turn) ≡ 32 ∷ typed =
    append_cancel_left (letter p) (32 ∷ action_text (action.Move turn)) (32 ∷ typed) (line_behind p (entry.Moved turn) ∙ e) in
    cc

-- a legal turn is meant as it is printed
pub printed_means : PrintedTurnsMeanThemselves
printed_means b p dice turn typed is legal e =
    subst (λ (t : List ℕ). MeansTurn b p dice t turn) (behind_letter p turn typed e) (text_means b p dice turn is legal)

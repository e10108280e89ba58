-- The numbers of two dice.
use Rattle.std.specs.Prelude.{◌≡◌, ◌≢◌, ℕ, ◌+◌, ◌<◌, ◌≤◌, List, [], ◌∷◌, Result, Ok, Err}
use Rattle.std.specs.List.{All}
use Rattle.std.specs.Fmt.{decimal}
use Rattle.std.proofs.Common.{refl, sym, subst, ◌∙◌, arith, true, false}
use Rattle.std.proofs.lemmas.Fmt.{decimal_digit, decimal_injective}
use Rattle.bg_board.specs.Die.{pips}
use Rattle.bg_board.specs.declared.dice.Die.{Die}
use Rattle.bg_board.specs.declared.dice.Die.TheVariants.{One, Two, Three, Four, Five, Six}
use Rattle.bg_text.specs.Entries.Words.{words_of}
use Rattle.bg_text.specs.Entries.EntryText.{dice_words}
use Rattle.bg_text.specs.Entries.EntryShape.{IsNumeral}
use Rattle.bg_text.specs.Entries.Pairs.{both_of, IsNumber, IsNumberOf, IsDiceFault}
use Rattle.bg_text.specs.declared.faults.TextFault.{TextFault}
use Rattle.bg_text.specs.declared.faults.TextFault.TheVariants.{NotALine, BadNumber, TooManySteps}
use Rattle.bg_text.proofs.Spelling.PairTexts.{numeral_decimal, numeral_lacks}
use Rattle.bg_text.proofs.Spelling.Splits.{same_first, same_second, two_pieces}
use Rattle.bg_text.proofs.Spelling.TwoWords.{BothSay, both_say}

abbrev NumbersSay : List ℕ → List ℕ → Result (ℕ × ℕ) TextFault → Type 0
NumbersSay first second result = BothSay IsNumeral IsNumeral IsNumber IsNumber decimal decimal first second result

numbers_say : (first second : List ℕ) (a b : Result ℕ TextFault) → IsNumberOf first a → IsNumberOf second b → NumbersSay first second (both_of a b)
numbers_say first second a b h k =
    both_say IsNumeral IsNumeral IsNumber IsNumber decimal decimal
    (λ n range. numeral_decimal n range.1) (λ n range. numeral_decimal n range.1) first second a b h k

least : (die : Die) → 1 ≤ pips die
least One = omega arith
least Two = omega arith
least Three = omega arith
least Four = omega arith
least Five = omega arith
least Six = omega arith

most : (die : Die) → pips die ≤ 6
most One = omega arith
most Two = omega arith
most Three = omega arith
most Four = omega arith
most Five = omega arith
most Six = omega arith

number_of_die : (die : Die) → IsNumber (pips die)
number_of_die die = let low = least die in let high = most die in (omega arith, omega arith)

of_die : (n : ℕ) (die : Die) → n < 100 → decimal n ≡ decimal (pips die) → n ≡ pips die
of_die n die below e =
    let high = most die in
    decimal_injective n (pips die) (omega arith) (omega arith) e

-- a die is written by one digit
one_digit : (die : Die) → decimal (pips die) ≡ (48 + pips die) ∷ []
one_digit die = let high = most die in decimal_digit (pips die) (omega arith)

-- two digits name dice
pub digits_of_dice : (x o : Die) → words_of ((48 + pips x) ∷ 32 ∷ (48 + pips o) ∷ []) ≡ dice_words x o
digits_of_dice x o =
    let lacks : (die : Die) → All (λ byte. byte ≢ 32) (decimal (pips die)) =
    λ die. numeral_lacks 32 (decimal (pips die)) (omega arith) (numeral_decimal (pips die) (number_of_die die).1) in
    two_pieces 32 ((48 + pips x) ∷ 32 ∷ (48 + pips o) ∷ []) (decimal (pips x)) (decimal (pips o)) (lacks x) (lacks o) (rw (one_digit x, one_digit o) refl)

pub no_dice : false ≡ true → ⊥
no_dice e = absurd cc

-- two words are dice where they say the numbers of dice
numbers_of_dice : (words : List (List ℕ)) (first second : List ℕ) (x o : Die) → words ≡ first ∷ second ∷ [] → words ≡ dice_words x o → (first ≡ decimal (pips x)) × (second ≡ decimal (pips o))
numbers_of_dice words first second x o e same =
    (same_first _ _ _ _ (sym e ∙ same), same_second _ _ _ _ (sym e ∙ same))

-- two words that say no two numbers are no dice
pub dice_fault : (words : List (List ℕ)) (first second : List ℕ) (a b : Result ℕ TextFault) (fault : TextFault) → words ≡ first ∷ second ∷ [] → IsNumberOf first a → IsNumberOf second b → Err fault ≡ both_of a b → IsDiceFault fault words
dice_fault words first second a b fault e h k is = of fault (subst (λ r. NumbersSay first second r) (sym is) (numbers_say first second a b h k))
  where
    of : (fault : TextFault) → NumbersSay first second (Err fault) → IsDiceFault fault words
    of NotALine both = λ p.
        let same : p.0 ∷ p.1 ∷ [] ≡ first ∷ second ∷ [] = sym p.2 ∙ e in
        let left : p.0 ≡ first = same_first _ _ _ _ same in
        let right : p.1 ≡ second = same_second _ _ _ _ same in
        both (rw left at p.3) (rw right at p.4)
    of BadNumber both = (
      (first, second, e, both.0, both.1),
      λ x o same.
          let said = numbers_of_dice words first second x o e same in
          both.2 (pips x) (pips o) (number_of_die x) (number_of_die o) said.0 said.1,
    )
    of TooManySteps both = absurd both

-- nor are two numbers of which one is on no die
pub wrong_dice : (words : List (List ℕ)) (first second : List ℕ) (a b : Result ℕ TextFault) (x y : ℕ) → words ≡ first ∷ second ∷ [] → IsNumberOf first a → IsNumberOf second b → Ok (x, y) ≡ both_of a b → ((1 ≤ x) × (x ≤ 6) → (1 ≤ y) × (y ≤ 6) → ⊥) → IsDiceFault BadNumber words
wrong_dice words first second a b x y e h k is none =
    let both : NumbersSay first second (Ok (x, y)) = subst (λ r. NumbersSay first second r) (sym is) (numbers_say first second a b h k) in (
      (first, second, e, rw both.2 (numeral_decimal x both.0.1), rw both.3 (numeral_decimal y both.1.1)),
      λ p q same.
          let said = numbers_of_dice words first second p q e same in
          let f : x ≡ pips p = of_die x p both.0.1 (sym both.2 ∙ said.0) in
          let s : y ≡ pips q = of_die y q both.1.1 (sym both.3 ∙ said.1) in
          none (rw f (least p, most p)) (rw s (least q, most q)),
    )

-- The words of an event's line, and that one line is the line of one event.
use Rattle.std.proofs.Common.{◌≡◌, ◌≢◌, ℕ, ◌≤◌, true, List, [], ◌∷◌, ◌++◌, refl, sym, ◌∙◌, ap, subst, arith, false}
use Rattle.std.specs.Char.{is_ascii_digit}
use Rattle.std.specs.List.{All}
use Rattle.std.specs.Fmt.{decimal}
use Rattle.std.specs.Str.{all_ascii_digits}
use Rattle.std.specs.Str.Parse.{digits_value}
use Rattle.std.proofs.lemmas.Bool.{and_parts}
use Rattle.std.proofs.lemmas.List.Elements.{All-cons, All-nil}
use Rattle.std.proofs.lemmas.Fmt.{digits_decimal, digits_value-decimal, decimal_nonempty, length-decimal-le}
use Rattle.bg_board.specs.declared.players.Player.{Player}
use Rattle.bg_match.specs.declared.actions.Action.{Action}
use Rattle.bg_match.specs.declared.actions.Action.TheVariants as action
use Rattle.bg_text.specs.Entries.EntryText.{letter, action_text, action_words}
use Rattle.bg_text.specs.Entries.EntryShape.{MovesDownward}
use Rattle.bg_text.specs.Entries.Words.{words_of, spaced}
use Rattle.bg_text.proofs.Spelling.ActionTexts.{downward_action, same_words, words_of_action}
use Rattle.bg_text.proofs.Spelling.EntryLines.{words_behind}
use Rattle.bg_text.proofs.Spelling.EntryTexts.{same_player}
use Rattle.bg_text.proofs.Spelling.Splits.{IsWord, first_piece, words_spaced}
use Rattle.bg_world.specs.Texts.EventText.{EventTextsDiffer, HasRightNumbers, IsEvent, IsLongNumeral, event_text, event_words, greatest_word}
use Rattle.bg_protocol.specs.declared.events.Event.{Event}
use Rattle.bg_protocol.specs.declared.events.Event.TheVariants as event
use Rattle.bg_world.specs.declared.texts.event_lines.EventKind.TheVariants as kind
use Rattle.bg_world.proofs.Lines.Digits.{own}
use Rattle.bg_world.proofs.Lines.EventKinds.{kind_first, kind_is_word, kind_of, kind_word, rest_words, same_kind}

-- ---- numbers

pub number_text : (n : ℕ) → n ≤ greatest_word → IsLongNumeral (decimal n)
number_text n low = record {
  digits = digits_decimal own n (omega (arith, low));
  some = omega (arith, decimal_nonempty n (omega (arith, low)));
  ten = length-decimal-le 10 n (omega arith) (omega (arith, low)) (omega (arith, low));
}

pub same_number : (n m : ℕ) → n ≤ greatest_word → m ≤ greatest_word → decimal n ≡ decimal m → n ≡ m
same_number n m low low' e =
    sym (digits_value-decimal own n (omega (arith, low))) ∙ ap (digits_value 10) e
    ∙ digits_value-decimal own m (omega (arith, low'))

digit_is_not : (c d : ℕ) → is_ascii_digit c ≡ false → is_ascii_digit d ≡ true → d ≢ c
digit_is_not c d f t e =
    let g : is_ascii_digit d ≡ false = subst (λ (x : ℕ). is_ascii_digit x ≡ false) (sym e) f in absurd (cc (t, g))

digits_lack : (c : ℕ) (ds : List ℕ) → is_ascii_digit c ≡ false → all_ascii_digits ds ≡ true → All (λ b. b ≢ c) ds
digits_lack c [] f h = All-nil (λ b. b ≢ c)
digits_lack c (d ∷ ds) f h =
    let k = and_parts (is_ascii_digit d) (all_ascii_digits ds) h in
    All-cons (λ b. b ≢ c) d ds (digit_is_not c d f k.0) (digits_lack c ds f k.1)

pub numeral_word : (word : List ℕ) → IsLongNumeral word → IsWord word
numeral_word word h = digits_lack 32 word refl h.digits

number_word : (n : ℕ) → n ≤ greatest_word → IsWord (decimal n)
number_word n low = numeral_word (decimal n) (number_text n low)

-- ---- words

-- a choice is its player's letter, a space and its action's text
pub choice_text : (player : Player) (a : Action)
    → spaced (letter player ∷ action_words a) ≡ letter player ++ 32 ∷ action_text a
choice_text player action.Roll = refl
choice_text player action.Double = refl
choice_text player action.Take = refl
choice_text player action.Drop = refl
choice_text player (action.Move steps) = refl
choice_text player (action.Resign level) = refl
choice_text player action.Accept = refl
choice_text player action.Reject = refl

words_of_choice : (player : Player) (a : Action) → MovesDownward a
    → words_of (spaced (letter player ∷ action_words a)) ≡ letter player ∷ action_words a
words_of_choice player a h =
    ap words_of (choice_text player a) ∙ words_behind player (action_text a)
    ∙ ap (λ (words : List (List ℕ)). letter player ∷ words) (words_of_action a h)

-- the words of an event's text are its words
pub words_of_event : (e : Event) → HasRightNumbers e → words_of (event_text e) ≡ event_words e
words_of_event (event.Due word) h =
    words_spaced (kind_word kind.Due) (decimal word ∷ []) (kind_is_word kind.Due) (number_word word h, tt)
words_of_event (event.Take party pick word) h =
    words_spaced (kind_word kind.Take) (decimal party ∷ decimal pick ∷ decimal word ∷ []) (kind_is_word kind.Take)
    (number_word party (omega (arith, h.0)), (number_word pick h.1, (number_word word h.2, tt)))
words_of_event (event.Choose player a) h =
    first_piece 32 (event_text (event.Choose player a)) (kind_word kind.Choose)
    (spaced (letter player ∷ action_words a)) (kind_is_word kind.Choose) refl
    ∙ ap (λ (words : List (List ℕ)). kind_word kind.Choose ∷ words) (words_of_choice player a h)
words_of_event (event.Save party) h =
    words_spaced (kind_word kind.Save) (decimal party ∷ []) (kind_is_word kind.Save)
    (number_word party (omega (arith, h)), tt)
words_of_event (event.Tick party) h =
    words_spaced (kind_word kind.Tick) (decimal party ∷ []) (kind_is_word kind.Tick)
    (number_word party (omega (arith, h)), tt)
words_of_event (event.Restart party) h =
    words_spaced (kind_word kind.Restart) (decimal party ∷ []) (kind_is_word kind.Restart)
    (number_word party (omega (arith, h)), tt)

-- ---- one line is the line of one event

three_same : (p k w q l v : ℕ) → p ≡ q → k ≡ l → w ≡ v → event.Take p k w ≡ event.Take q l v
three_same p k w q l v a b c = cc

same_rest : (a b : Event) → HasRightNumbers a → HasRightNumbers b → kind_of a ≡ kind_of b → rest_words a ≡ rest_words b
    → a ≡ b
same_rest (event.Due w) (event.Due v) h k is e =
    let text : decimal w ≡ decimal v = cc in ap event.Due (same_number w v h k text)
same_rest (event.Due w) _ h k is e = absurd cc
same_rest (event.Take p i w) (event.Take q j v) h k is e =
    let party : decimal p ≡ decimal q = cc in
    let pick : decimal i ≡ decimal j = cc in
    let word : decimal w ≡ decimal v = cc in
    three_same p i w q j v (same_number p q (omega (arith, h.0)) (omega (arith, k.0)) party)
    (same_number i j h.1 k.1 pick) (same_number w v h.2 k.2 word)
same_rest (event.Take p i w) _ h k is e = absurd cc
same_rest (event.Choose p a) (event.Choose q b) h k is e =
    let player : letter p ≡ letter q = cc in
    let words : action_words a ≡ action_words b = cc in
    let one : p ≡ q = same_player p q player in
    let other : a ≡ b = same_words a b h k words in cc
same_rest (event.Choose p a) _ h k is e = absurd cc
same_rest (event.Save p) (event.Save q) h k is e =
    let text : decimal p ≡ decimal q = cc in
    ap event.Save (same_number p q (omega (arith, h)) (omega (arith, k)) text)
same_rest (event.Save p) _ h k is e = absurd cc
same_rest (event.Tick p) (event.Tick q) h k is e =
    let text : decimal p ≡ decimal q = cc in
    ap event.Tick (same_number p q (omega (arith, h)) (omega (arith, k)) text)
same_rest (event.Tick p) _ h k is e = absurd cc
same_rest (event.Restart p) (event.Restart q) h k is e =
    let text : decimal p ≡ decimal q = cc in
    ap event.Restart (same_number p q (omega (arith, h)) (omega (arith, k)) text)
same_rest (event.Restart p) _ h k is e = absurd cc

pub tails : (a b : List ℕ) (u v : List (List ℕ)) → a ∷ u ≡ b ∷ v → u ≡ v
tails a b u v e = cc

same_event_words : (a b : Event) → HasRightNumbers a → HasRightNumbers b → event_words a ≡ event_words b → a ≡ b
same_event_words a b h k e =
    let words : kind_word (kind_of a) ∷ rest_words a ≡ kind_word (kind_of b) ∷ rest_words b =
    sym (kind_first a) ∙ (e ∙ kind_first b) in
    same_rest a b h k (same_kind (kind_of a) (kind_of b) (rest_words a) (rest_words b) words)
    (tails (kind_word (kind_of a)) (kind_word (kind_of b)) (rest_words a) (rest_words b) words)

pub same_event : (a b : Event) → HasRightNumbers a → HasRightNumbers b → event_text a ≡ event_text b → a ≡ b
same_event a b h k e =
    same_event_words a b h k (sym (words_of_event a h) ∙ (ap words_of e ∙ words_of_event b k))

pub right_numbers : (e : Event) → IsEvent e → HasRightNumbers e
right_numbers (event.Due word) h = h
right_numbers (event.Take party pick word) h = h
right_numbers (event.Choose player a) h = downward_action a h
right_numbers (event.Save party) h = h
right_numbers (event.Tick party) h = h
right_numbers (event.Restart party) h = h

pub one_event : EventTextsDiffer
one_event a b h k e = same_event a b (right_numbers a h) (right_numbers b k) e

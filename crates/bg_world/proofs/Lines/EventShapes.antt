-- The shapes of event lines.
use Rattle.std.proofs.Common.{◌≡◌, ℕ, inl, inr, List, [], ◌∷◌, ◌++◌, length, refl, sym, ◌∙◌, ap, subst, arith}
use Rattle.std.specs.List.{AllByRecursion}
use Rattle.bg_board.specs.declared.players.Player.{Player}
use Rattle.bg_text.specs.Entries.EntryText.{letter}
use Rattle.bg_text.specs.Entries.EntryShape.{IsActionShape}
use Rattle.bg_text.specs.Entries.Words.{words_of, spaced}
use Rattle.bg_text.proofs.Spelling.Splits.{line_spaced, one_piece}
use Rattle.bg_world.specs.Texts.EventText.{HasRightNumbers, IsEventShape, IsLongNumeral, IsNumbersShape, event_text}
use Rattle.bg_world.specs.Texts.EventLines.{kind_start}
use Rattle.bg_world.specs.declared.texts.event_lines.EventKind.{EventKind}
use Rattle.bg_world.specs.declared.texts.event_lines.EventKind.TheVariants as kind
use Rattle.bg_protocol.specs.declared.events.Event.{Event}
use Rattle.bg_world.proofs.Lines.EventKinds.{kind_first, kind_of, kind_word, rest_words, same_kind, start_of_spaced, words_of_start}
use Rattle.bg_world.proofs.Lines.EventTexts.{numeral_word, tails, words_of_event}

-- ---- what stands behind the first word

abbrev pub AreNumerals : ℕ → List (List ℕ) → Type 0
AreNumerals count words = (length words ≡ count) × AllByRecursion IsLongNumeral words

abbrev pub IsRestShape : EventKind → List (List ℕ) → Type 0
IsRestShape kind.Due words = AreNumerals 1 words
IsRestShape kind.Take words = AreNumerals 3 words
IsRestShape kind.Choose words =
    (player : Player) × (rest : List (List ℕ)) × (words ≡ letter player ∷ rest) × IsActionShape rest
IsRestShape kind.Save words = AreNumerals 1 words
IsRestShape kind.Tick words = AreNumerals 1 words
IsRestShape kind.Restart words = AreNumerals 1 words

abbrev IsOfKind : EventKind → List (List ℕ) → Type 0
IsOfKind k words = (rest : List (List ℕ)) × (words ≡ kind_word k ∷ rest) × IsRestShape k rest

kind_of_shape : (words : List (List ℕ)) → IsEventShape words → (k : EventKind) × IsOfKind k words
kind_of_shape words (inl h) = (kind.Due, (h.numerals, h.spelled, (h.many, h.each)))
kind_of_shape words (inr (inl h)) = (kind.Take, (h.numerals, h.spelled, (h.many, h.each)))
kind_of_shape words (inr (inr (inl h))) =
    (kind.Choose, (letter h.player ∷ h.rest, h.spelled, (h.player, h.rest, refl, h.choice)))
kind_of_shape words (inr (inr (inr (inl h)))) = (kind.Save, (h.numerals, h.spelled, (h.many, h.each)))
kind_of_shape words (inr (inr (inr (inr (inl h))))) = (kind.Tick, (h.numerals, h.spelled, (h.many, h.each)))
kind_of_shape words (inr (inr (inr (inr (inr h))))) = (kind.Restart, (h.numerals, h.spelled, (h.many, h.each)))

numbers_shape : (word : List ℕ) (count : ℕ) (words : List (List ℕ)) → AreNumerals count words
    → IsNumbersShape word count (word ∷ words)
numbers_shape word count words h = record { numerals = words; spelled = refl; many = h.0; each = h.1 }

pub shape_of_rest : (k : EventKind) (words : List (List ℕ)) → IsRestShape k words → IsEventShape (kind_word k ∷ words)
shape_of_rest kind.Due words h = inl (numbers_shape (kind_word kind.Due) 1 words h)
shape_of_rest kind.Take words h = inr (inl (numbers_shape (kind_word kind.Take) 3 words h))
shape_of_rest kind.Choose words h =
    inr (inr (inl (record {
      player = h.0;
      rest = h.1;
      spelled = ap (λ (rest : List (List ℕ)). kind_word kind.Choose ∷ rest) h.2;
      choice = h.3;
    })))
shape_of_rest kind.Save words h = inr (inr (inr (inl (numbers_shape (kind_word kind.Save) 1 words h))))
shape_of_rest kind.Tick words h = inr (inr (inr (inr (inl (numbers_shape (kind_word kind.Tick) 1 words h)))))
shape_of_rest kind.Restart words h = inr (inr (inr (inr (inr (numbers_shape (kind_word kind.Restart) 1 words h)))))

rest_of_shape : (k : EventKind) (words : List (List ℕ)) → IsEventShape (kind_word k ∷ words) → IsRestShape k words
rest_of_shape k words shape =
    let found = kind_of_shape (kind_word k ∷ words) shape in
    let tail : words ≡ found.1.0 = tails (kind_word k) (kind_word found.0) words found.1.0 found.1.1 in
    let one : k ≡ found.0 = same_kind k found.0 words found.1.0 found.1.1 in
    subst (λ (l : EventKind). IsRestShape l words) (sym one)
    (subst (λ (u : List (List ℕ)). IsRestShape found.0 u) (sym tail) found.1.2)

-- a line of a kind has an event's shape where its rest has the kind's
pub line_shape : (k : EventKind) (rest : List ℕ) → IsRestShape k (words_of rest)
    → IsEventShape (words_of (kind_start k ++ rest))
line_shape k rest h = subst IsEventShape (sym (words_of_start k rest)) (shape_of_rest k (words_of rest) h)

pub shape_of_line : (k : EventKind) (rest : List ℕ) → IsEventShape (words_of (kind_start k ++ rest))
    → IsRestShape k (words_of rest)
shape_of_line k rest h = rest_of_shape k (words_of rest) (subst IsEventShape (words_of_start k rest) h)

-- a line of no kind has no event's shape
some_rest : (k : EventKind) (words : List (List ℕ)) → IsRestShape k words → words ≡ [] → ⊥
some_rest kind.Due words h e = omega (arith, h.0, ap length e)
some_rest kind.Take words h e = omega (arith, h.0, ap length e)
some_rest kind.Choose words h e =
    let nil : letter h.0 ∷ h.1 ≡ [] = sym h.2 ∙ e in absurd cc
some_rest kind.Save words h e = omega (arith, h.0, ap length e)
some_rest kind.Tick words h e = omega (arith, h.0, ap length e)
some_rest kind.Restart words h e = omega (arith, h.0, ap length e)

pub no_kind : (line : List ℕ) → ((k : EventKind) (rest : List ℕ) → line ≡ kind_start k ++ rest → ⊥)
    → IsEventShape (words_of line) → ⊥
no_kind line none shape =
    let found = kind_of_shape (words_of line) shape in
    of_kind found.0 found.1.0 found.1.1 found.1.2
  where
    of_kind : (k : EventKind) (words : List (List ℕ)) → words_of line ≡ kind_word k ∷ words → IsRestShape k words → ⊥
    of_kind k [] e h = some_rest k [] h refl
    of_kind k (word ∷ words) e h =
        none k (spaced (word ∷ words)) (line_spaced line (kind_word k ∷ word ∷ words) e ∙ start_of_spaced k word words)

-- ---- one numeral is one word

pub one_numeral : (word : List ℕ) → IsLongNumeral word → AreNumerals 1 (words_of word)
one_numeral word h =
    subst (AreNumerals 1) (sym (one_piece 32 word (numeral_word word h))) (refl, (h, tt))

pub numeral_of_one : (word : List ℕ) → AreNumerals 1 (words_of word) → IsLongNumeral word
numeral_of_one word h = of_words (words_of word) refl h
  where
    of_words : (words : List (List ℕ)) → words_of word ≡ words → AreNumerals 1 words → IsLongNumeral word
    of_words [] e k = absurd (omega (arith, k.0))
    of_words (a ∷ []) e k = subst IsLongNumeral (sym (line_spaced word (a ∷ []) e)) k.1.0
    of_words (a ∷ b ∷ more) e k = absurd (omega (arith, k.0))

-- ---- the event of a line

-- an event whose line is of a kind is of that kind, and the rest of the line has its words
pub of_line : (k : EventKind) (rest : List ℕ) (e : Event) → HasRightNumbers e → kind_start k ++ rest ≡ event_text e
    → (kind_of e ≡ k) × (words_of rest ≡ rest_words e)
of_line k rest e h is =
    let words : kind_word k ∷ words_of rest ≡ kind_word (kind_of e) ∷ rest_words e =
    sym (words_of_start k rest) ∙ (ap words_of is ∙ (words_of_event e h ∙ kind_first e)) in (
      sym (same_kind k (kind_of e) (words_of rest) (rest_words e) words),
      tails (kind_word k) (kind_word (kind_of e)) (words_of rest) (rest_words e) words,
    )

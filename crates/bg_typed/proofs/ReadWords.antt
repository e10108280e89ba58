-- The words of a text, one after the other.
use Rattle.std.specs.Prelude.{◌≡◌, ℕ, ◌<◌, Bool, true, false, List, [], ◌∷◌, ◌++◌, length}
use Rattle.std.proofs.Common.{append_assoc, append-nil, length-append, refl, sym, ◌∙◌, ap, subst, inl, inr, arith}
use Rattle.bg_mat.specs.Legs.{AddsLegs, RefusesLegs, TellsWord}
use Rattle.bg_mat.specs.Rows.Words.{BeginsWith, IsBlankText, IsFirstWord}
use Rattle.bg_mat.specs.declared.movements.legs.Leg.{Leg}
use Rattle.bg_mat.specs.declared.movements.legs.LegFault.TheVariants as leg_fault
use Rattle.bg_mat.proofs.OfReading.WordLemmas.{first_word_same, no_first_word}
use Rattle.bg_typed.specs.Spelling.{spelled}
use Rattle.bg_typed.specs.TypedWords.{IsMoveWord, SkipsMove, TellsTyped, TellsWords}

-- one word before others
pub word_before : (text word behind : List ℕ) (first more : List Leg) → IsFirstWord text word behind
    → TellsWord word first → TellsWords behind more → TellsWords text (first ++ more)
word_before text word behind first more is tells (words, rest, begins, blank, all) =
    (word ∷ words, rest, (behind, is, begins), blank, (first, more, tells, all, refl))

-- what the first word tells, and the others
pub word_after : (text word behind : List ℕ) (legs : List Leg) → IsFirstWord text word behind → TellsWords text legs
    → (first more : List Leg) × TellsWord word first × TellsWords behind more
word_after text word behind legs is ([], rest, begins, blank, all) =
    absurd (no_first_word text word behind (subst (λ (t : List ℕ). IsBlankText t) (sym begins) blank) is)
word_after text word behind legs is (w ∷ words, rest, (after, first, begins), blank, (own, others, tells, all, e)) =
    let same = first_word_same text w after word behind first is in (
      own,
      others,
      subst (λ (v : List ℕ). TellsWord v own) same.0 tells,
      (words, rest, subst (λ (t : List ℕ). BeginsWith t words rest) same.1 begins, blank, all),
    )

-- a blank text tells no legs
pub no_words : (text : List ℕ) → IsBlankText text → TellsWords text []
no_words text blank = ([], text, refl, blank, refl)

-- the words up to the rest tell legs, with which those of the rest go on, and the rest tells some
-- where the text does
pub record IsReadUpTo (text rest : List ℕ) (legs : List Leg) (too_many : Bool) : Type 0 where
  pub told : List Leg
  pub goes_on : (more : List Leg) → TellsWords rest more → TellsWords text (told ++ more)
  pub back : (whole : List Leg) → TellsWords text whole → (more : List Leg) × TellsWords rest more
  pub kept : too_many ≡ false → told ≡ legs
  pub many : too_many ≡ true → 4 < length told

pub nothing_read : (text : List ℕ) → IsReadUpTo text text [] false
nothing_read text = record {
  told = [];
  goes_on = λ more h. h;
  back = λ whole h. (whole, h);
  kept = λ e. refl;
  many = λ e. absurd (cc (e));
}

-- where one more word tells legs
goes_further : (text rest word behind : List ℕ) (legs own : List Leg) (too_many : Bool) (read : IsReadUpTo text rest legs too_many)
    → IsFirstWord rest word behind → TellsWord word own → (more : List Leg) → TellsWords behind more
    → TellsWords text ((read.told ++ own) ++ more)
goes_further text rest word behind legs own too_many read is tells more all =
    subst (λ (xs : List Leg). TellsWords text xs) (sym (append_assoc read.told own more))
    (read.goes_on (own ++ more) (word_before rest word behind own more is tells all))

goes_back : (text rest word behind : List ℕ) (legs : List Leg) (too_many : Bool) → IsReadUpTo text rest legs too_many
    → IsFirstWord rest word behind → (whole : List Leg) → TellsWords text whole → (more : List Leg) × TellsWords behind more
goes_back text rest word behind legs too_many read is whole h =
    let r = read.back whole h in
    let w = word_after rest word behind r.0 is r.1 in
    (w.1, w.3)

-- one more word
pub word_read : (text rest word behind : List ℕ) (legs new : List Leg) (too_many : Bool) → IsReadUpTo text rest legs too_many
    → IsFirstWord rest word behind → AddsLegs (TellsWord word) legs new → IsReadUpTo text behind new too_many
word_read text rest word behind legs new too_many read is (own, tells, e) = record {
  told = read.told ++ own;
  goes_on = goes_further text rest word behind legs own too_many read is tells;
  back = goes_back text rest word behind legs too_many read is;
  kept = λ f. ap (λ (xs : List Leg). xs ++ own) (read.kept f) ∙ sym e;
  many = λ f. let size = read.many f in let both = length-append read.told own in omega (arith, size, both);
}

-- one more word, with which there are too many legs
pub word_too_many : (text rest word behind : List ℕ) (legs new : List Leg) (too_many : Bool) → IsReadUpTo text rest legs too_many
    → IsFirstWord rest word behind → RefusesLegs (TellsWord word) legs leg_fault.TooMany → IsReadUpTo text behind new true
word_too_many text rest word behind legs new too_many read is (own, tells, many) = record {
  told = read.told ++ own;
  goes_on = goes_further text rest word behind legs own too_many read is tells;
  back = goes_back text rest word behind legs too_many read is;
  kept = λ f. absurd (cc (f));
  many = λ f. many_in too_many read;
} where
  many_in : (b : Bool) (r : IsReadUpTo text rest legs b) → 4 < length (r.told ++ own)
  many_in true r = let size = r.many refl in let both = length-append r.told own in omega (arith, size, both)
  many_in false r =
      let both = length-append r.told own in
      let same : length r.told ≡ length legs = ap (λ (xs : List Leg). length xs) (r.kept refl) in
      omega (arith, many, both, same)

-- a word that tells nothing
pub word_refused : (text rest word behind : List ℕ) (legs : List Leg) (too_many : Bool) → IsReadUpTo text rest legs too_many
    → IsFirstWord rest word behind → ((more : List Leg) → TellsWord word more → ⊥)
    → (whole : List Leg) → TellsWords text whole → ⊥
word_refused text rest word behind legs too_many read is none whole h =
    let r = read.back whole h in
    let w = word_after rest word behind r.0 is r.1 in
    none w.0 w.2

-- all words are read
all_told : (text rest : List ℕ) (legs : List Leg) (too_many : Bool) (read : IsReadUpTo text rest legs too_many) → IsBlankText rest
    → TellsWords text read.told
all_told text rest legs too_many read blank =
    subst (λ (xs : List Leg). TellsWords text xs) (append-nil read.told) (read.goes_on [] (no_words rest blank))

pub all_read : (text rest : List ℕ) (legs : List Leg) → IsReadUpTo text rest legs false → IsBlankText rest
    → TellsWords text legs
all_read text rest legs read blank =
    subst (λ (xs : List Leg). TellsWords text xs) (read.kept refl) (all_told text rest legs false read blank)

pub all_too_many : (text rest : List ℕ) (legs : List Leg) → IsReadUpTo text rest legs true → IsBlankText rest
    → RefusesLegs (TellsWords text) [] leg_fault.TooMany
all_too_many text rest legs read blank =
    let size = read.many refl in
    (read.told, all_told text rest legs true read blank, omega (arith, size))

-- the text begins with another word
pub other_first : (text word rest : List ℕ) → IsFirstWord text word rest → (IsMoveWord word → ⊥) → SkipsMove text text
other_first text word rest is other =
    inl (refl, λ behind h. other (subst (λ (w : List ℕ). IsMoveWord w) (first_word_same text h.0 behind word rest h.1 is).0 h.2))

pub no_first : (text : List ℕ) → IsBlankText text → SkipsMove text text
no_first text blank = inl (refl, λ behind h. no_first_word text h.0 behind blank h.1)

-- the movement that is typed stands in one place
pub move_same : (text a b : List ℕ) → SkipsMove text a → SkipsMove text b → a ≡ b
move_same text a b (inl (e, none)) (inl (f, other)) = sym e ∙ f
move_same text a b (inl (e, none)) (inr has) = absurd (none b has)
move_same text a b (inr has) (inl (f, none)) = absurd (none a has)
move_same text a b (inr (w, is, move)) (inr (v, first, other)) = (first_word_same text w a v b is first).1

-- no legs are told where the movement tells none
pub not_told : (typed movement : List ℕ) → SkipsMove (spelled typed) movement → ((legs : List Leg) → TellsWords movement legs → ⊥)
    → (legs : List Leg) → TellsTyped typed legs → ⊥
not_told typed movement skips none legs (other, passes, tells) =
    none legs (subst (λ (t : List ℕ). TellsWords t legs) (move_same (spelled typed) other movement passes skips) tells)

-- too many are told
pub too_many_told : (typed movement : List ℕ) → SkipsMove (spelled typed) movement
    → RefusesLegs (TellsWords movement) [] leg_fault.TooMany → (legs : List Leg) × TellsTyped typed legs × (4 < length legs)
too_many_told typed movement skips (legs, tells, many) = (legs, (movement, skips, tells), omega (arith, many))

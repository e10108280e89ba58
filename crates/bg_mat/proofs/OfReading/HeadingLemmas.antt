-- The first words of headings.
use Rattle.std.specs.Prelude.{◌≡◌, ◌⊎◌, ◌↔◌, ℕ, ◌<◌, Bool, true, false, List, [], ◌∷◌, ◌++◌, codes, map, IsTrue, Option, None, Some, MatchOption}
use Rattle.std.specs.Char.{to_ascii_lowercase}
use Rattle.std.specs.Str.{all_ascii_digits}
use Rattle.std.proofs.Common.{sym, ◌∙◌, ap, subst, inl, inr}
use Rattle.std.proofs.lemmas.Bool.{and_parts}
use Rattle.std.proofs.lemmas.List.{append_cancel_right}
use Rattle.bg_mat.specs.Rows.Headings.{EndsLength, IsBlankOr, IsGameLine, IsGameNumber, IsHeaderWord, IsLengthLine, IsPoints, SaysNoCrawford, SkipsSemicolon}
use Rattle.bg_mat.specs.Rows.Numbers.{IsNumber}
use Rattle.bg_mat.specs.Rows.Words.{IsBlankText, IsFirstWord, SameLetters, Says, SaysEither}
use Rattle.bg_mat.proofs.OfReading.WordLemmas.{first_word_same, no_first_word}

-- a text that says a word goes on in one way
pub says_rest : (text a b r s : List ℕ) → Says text a r → Says text b s → r ≡ s
says_rest text a b r s f g = (first_word_same text f.word r g.word s f.first g.first).1

pub either_rest : (text a b c d r s : List ℕ) → SaysEither text a b r → SaysEither text c d s → r ≡ s
either_rest text a b c d r s (inl f) (inl g) = says_rest text a c r s f g
either_rest text a b c d r s (inl f) (inr g) = says_rest text a d r s f g
either_rest text a b c d r s (inr f) (inl g) = says_rest text b c r s f g
either_rest text a b c d r s (inr f) (inr g) = says_rest text b d r s f g

-- the words that a text says have the same letters
pub says_letters : (text a b r s : List ℕ) → Says text a r → Says text b s → SameLetters a b
says_letters text a b r s f g =
    sym f.same
    ∙ (ap (λ (w : List ℕ). map to_ascii_lowercase w) (first_word_same text f.word r g.word s f.first g.first).0 ∙ g.same)

-- a blank text says nothing
pub no_says : (text a r : List ℕ) → IsBlankText text → Says text a r → ⊥
no_says text a r blank f = no_first_word text f.word r blank f.first

pub no_either : (text a b r : List ℕ) → IsBlankText text → SaysEither text a b r → ⊥
no_either text a b r blank (inl f) = no_says text a r blank f
no_either text a b r blank (inr f) = no_says text b r blank f

pub neither : (text a b : List ℕ) → ((r : List ℕ) → Says text a r → ⊥) → ((r : List ℕ) → Says text b r → ⊥) → (r : List ℕ)
    → SaysEither text a b r → ⊥
neither text a b none never r (inl f) = none r f
neither text a b none never r (inr f) = never r f

-- the first word is another one
pub other_said : (text word rest expected after : List ℕ) (b : Bool) → IsFirstWord text word rest
    → IsTrue b ↔ SameLetters word expected → b ≡ false → Says text expected after → ⊥
other_said text word rest expected after b first h is f =
    let same : word ≡ f.word = (first_word_same text word rest f.word after first f.first).0 in
    let letters : SameLetters word expected = ap (λ (w : List ℕ). map to_ascii_lowercase w) same ∙ f.same in
    let t : b ≡ true = h.1 letters in
    absurd (cc (t, is))

-- a line with a first word tells nothing where that begins so
pub blank_by : (Begins : List ℕ → Type 0) (line word rest : List ℕ) (b : Bool) → IsFirstWord line word rest
    → IsTrue b ↔ Begins word → IsTrue b ↔ IsBlankOr Begins line
blank_by Begins line word rest b first h = (
  λ t. inr (word, rest, first, h.0 t),
  λ f. elim f [
    | inl blank ↦ absurd (no_first_word line word rest blank first)
    | inr (other, after, g, begins) ↦
        h.1 (subst Begins (first_word_same line other after word rest g first).0 begins)
  ],
)

-- the first byte of a header's line
pub header_by : (word rest : List ℕ) (first : ℕ) → word ≡ first ∷ rest → (first ≡ 35) ⊎ ((first ≡ 59) ⊎ (first ≡ 91)) → IsHeaderWord word
header_by word rest first e (inl is) = inr (rest, inl (e ∙ ap (λ (b : ℕ). b ∷ rest) is))
header_by word rest first e (inr (inl is)) = inl (rest, e ∙ ap (λ (b : ℕ). b ∷ rest) is)
header_by word rest first e (inr (inr is)) = inr (rest, inr (e ∙ ap (λ (b : ℕ). b ∷ rest) is))

-- what the first word and the rest of a line say of a length
pub no_number : (line word rest : List ℕ) → IsFirstWord line word rest → ((n : ℕ) → IsNumber word n → ⊥)
    → (n : ℕ) → IsLengthLine line n → ⊥
no_number line word rest first none n (number, after, f, is, ends) =
    none n (subst (λ (w : List ℕ). IsNumber w n) (first_word_same line number after word rest f first).0 is)

pub no_length_end : (line word rest : List ℕ) → IsFirstWord line word rest → (EndsLength rest → ⊥)
    → (n : ℕ) → IsLengthLine line n → ⊥
no_length_end line word rest first none n (number, after, f, is, ends) =
    none (subst (λ (t : List ℕ). EndsLength t) (first_word_same line number after word rest f first).1 ends)

pub no_length_word : (line : List ℕ) → IsBlankText line → (n : ℕ) → IsLengthLine line n → ⊥
no_length_word line blank n (number, after, f, is, ends) = no_first_word line number after blank f

pub no_end_word : (text : List ℕ) → IsBlankText text → EndsLength text → ⊥
no_end_word text blank (points, after, rest, f, is, g, none) = no_first_word text points after blank f

pub no_match_word : (text word rest : List ℕ) → IsFirstWord text word rest
    → ((end : List ℕ) → Says rest (codes "match") end → ⊥) → EndsLength text → ⊥
no_match_word text word rest first none (points, after, end, f, is, g, blank) =
    none end (subst (λ (t : List ℕ). Says t (codes "match") end) (first_word_same text points after word rest f first).1 g)

-- the words of the end of a length
pub length_ends : (text word rest end : List ℕ) → IsFirstWord text word rest
    → Says rest (codes "match") end → (EndsLength text → IsPoints word × IsBlankText end) × (IsPoints word → IsBlankText end → EndsLength text)
length_ends text word rest end first second = (
  λ h.
      let (w, after, last, f, is, g, none) = h in
      let same = first_word_same text w after word rest f first in
      let here : Says rest (codes "match") last = subst (λ (t : List ℕ). Says t (codes "match") last) same.1 g in (
        subst (λ (t : List ℕ). IsPoints t) same.0 is,
        subst (λ (t : List ℕ). IsBlankText t) (says_rest rest (codes "match") (codes "match") last end here second) none,
      ),
  λ is none. (word, rest, end, first, is, second, none),
)

-- what the words of a line say of the number of a game
pub no_game_word : (line : List ℕ) → ((rest : List ℕ) → Says line (codes "Game") rest → ⊥) → (n : ℕ) → IsGameLine line n → ⊥
no_game_word line none n (after, number, rest, f, first, is, blank) = none after f

pub game_words : (line after number rest : List ℕ) (n : ℕ) → Says line (codes "Game") after → IsFirstWord after number rest
    → IsGameLine line n → IsGameNumber number n × IsBlankText rest
game_words line after number rest n f g (middle, other, end, first, second, is, blank) =
    let same : middle ≡ after = says_rest line (codes "Game") (codes "Game") middle after first f in
    let here : IsFirstWord after other end = subst (λ (t : List ℕ). IsFirstWord t other end) same second in
    let both = first_word_same after other end number rest here g in (
      subst (λ (w : List ℕ). IsGameNumber w n) both.0 is,
      subst (λ (t : List ℕ). IsBlankText t) both.1 blank,
    )

pub no_game_number : (line after : List ℕ) → Says line (codes "Game") after → IsBlankText after → (n : ℕ) → IsGameLine line n → ⊥
no_game_number line after f empty n (middle, other, end, first, second, is, blank) =
    let same : middle ≡ after = says_rest line (codes "Game") (codes "Game") middle after first f in
    no_first_word after other end empty (subst (λ (t : List ℕ). IsFirstWord t other end) same second)

-- no number ends with a colon
colon_behind : (digits : List ℕ) → all_ascii_digits (digits ++ codes ":") ≡ true → ⊥
colon_behind [] h = absurd (cc (h))
colon_behind (x ∷ digits) h = colon_behind digits (and_parts _ (all_ascii_digits (digits ++ codes ":")) h).1

pub number_no_colon : (word digits : List ℕ) (n : ℕ) → word ≡ digits ++ codes ":" → IsNumber word n → ⊥
number_no_colon word digits n e is =
    colon_behind digits (subst (λ (w : List ℕ). all_ascii_digits w ≡ true) e is.digits)

-- the number of a game behind which a colon stands, or none
pub colon_number : (word digits : List ℕ) (found : Option ℕ) → word ≡ digits ++ codes ":"
    → MatchOption found ((n : ℕ) → IsNumber digits n → ⊥) (λ n. IsNumber digits n)
    → MatchOption found ((n : ℕ) → IsGameNumber word n → ⊥) (λ n. IsGameNumber word n)
colon_number word digits (Some n) e is = inr (digits, e, is)
colon_number word digits None e none = λ n h. at n h where
  at : (n : ℕ) → IsGameNumber word n → ⊥
  at n (inl is) = number_no_colon word digits n e is
  at n (inr (other, d, is)) =
      none n (subst (λ (w : List ℕ). IsNumber w n) (append_cancel_right other digits (codes ":") (sym d ∙ e)) is)

pub plain_game_number : (word : List ℕ) (found : Option ℕ) → ((digits : List ℕ) → word ≡ digits ++ codes ":" → ⊥)
    → MatchOption found ((n : ℕ) → IsNumber word n → ⊥) (λ n. IsNumber word n)
    → MatchOption found ((n : ℕ) → IsGameNumber word n → ⊥) (λ n. IsGameNumber word n)
plain_game_number word (Some n) none is = inl is
plain_game_number word None none never = λ n h. at n h where
  at : (n : ℕ) → IsGameNumber word n → ⊥
  at n (inl is) = never n is
  at n (inr (digits, d, is)) = none digits d

-- a game has one number
pub game_number_same : (word : List ℕ) (n m : ℕ) → IsGameNumber word n → IsGameNumber word m → n ≡ m
game_number_same word n m (inl is) (inl at) = is.value ∙ sym at.value
game_number_same word n m (inl is) (inr (digits, d, at)) = absurd (number_no_colon word digits n d is)
game_number_same word n m (inr (digits, d, is)) (inl at) = absurd (number_no_colon word digits m d at)
game_number_same word n m (inr (digits, d, is)) (inr (other, e, at)) =
    let here : IsNumber digits m =
    subst (λ (w : List ℕ). IsNumber w m) (append_cancel_right other digits (codes ":") (sym e ∙ d)) at in
    is.value ∙ sym here.value

-- a line tells one length
pub length_same : (line : List ℕ) (n m : ℕ) → IsLengthLine line n → IsLengthLine line m → n ≡ m
length_same line n m (number, rest, first, digits, ends) (other, behind, one, figures, stops) =
    let here : IsNumber number m =
    subst (λ (w : List ℕ). IsNumber w m) (first_word_same line other behind number rest one first).0 figures in
    digits.value ∙ sym here.value

pub long_or_not : (line : List ℕ) (points : ℕ) (b : Bool) → IsLengthLine line points → (b ≡ true → 1 < points) → (1 < points → b ≡ true)
    → IsTrue b ↔ ((n : ℕ) × IsLengthLine line n × (1 < n))
long_or_not line points b is long more = (
  λ t. (points, is, long t),
  λ h.
      let (n, at, above) = h in
      more (subst (λ (k : ℕ). 1 < k) (length_same line n points at is) above),
)

-- a semicolon that stands alone
semicolon_same : (line a b : List ℕ) → SkipsSemicolon line a → SkipsSemicolon line b → a ≡ b
semicolon_same line a b (inl f) (inl g) = says_rest line (codes ";") (codes ";") a b f g
semicolon_same line a b (inl f) (inr (e, none)) = absurd (none a f)
semicolon_same line a b (inr (e, none)) (inl g) = absurd (none b g)
semicolon_same line a b (inr (e, none)) (inr (d, never)) = e ∙ sym d

-- the line that takes the Crawford game away
pub no_crawford_name : (line text : List ℕ) → SkipsSemicolon line text
    → ((r : List ℕ) → SaysEither text (codes "[Crawford") (codes ";[Crawford") r → ⊥) → SaysNoCrawford line → ⊥
no_crawford_name line text skips none (other, after, rest, skip, name, off, blank) =
    none after (subst (λ (t : List ℕ). SaysEither t (codes "[Crawford") (codes ";[Crawford") after)
    (semicolon_same line other text skip skips) name)

crawford_after : (line text after : List ℕ) → SkipsSemicolon line text
    → SaysEither text (codes "[Crawford") (codes ";[Crawford") after → SaysNoCrawford line
    → (rest : List ℕ) × Says after (codes "\"Off\"]") rest × IsBlankText rest
crawford_after line text after skips named (other, then, rest, skip, name, off, blank) =
    let here : SaysEither text (codes "[Crawford") (codes ";[Crawford") then =
    subst (λ (t : List ℕ). SaysEither t (codes "[Crawford") (codes ";[Crawford") then) (semicolon_same line other text skip skips) name in
    let same = either_rest text (codes "[Crawford") (codes ";[Crawford") (codes "[Crawford") (codes ";[Crawford") then after here named in
    (rest, subst (λ (t : List ℕ). Says t (codes "\"Off\"]") rest) same off, blank)

pub no_crawford_off : (line text after : List ℕ) → SkipsSemicolon line text
    → SaysEither text (codes "[Crawford") (codes ";[Crawford") after
    → ((r : List ℕ) → Says after (codes "\"Off\"]") r → ⊥) → SaysNoCrawford line → ⊥
no_crawford_off line text after skips named none h =
    let (rest, off, blank) = crawford_after line text after skips named h in none rest off

pub crawford_off : (line text after rest : List ℕ) (b : Bool) → SkipsSemicolon line text
    → SaysEither text (codes "[Crawford") (codes ";[Crawford") after → Says after (codes "\"Off\"]") rest
    → IsTrue b ↔ IsBlankText rest → IsTrue b ↔ SaysNoCrawford line
crawford_off line text after rest b skips named off is = (
  λ t. (text, after, rest, skips, named, off, is.0 t),
  λ h.
      let (other, then, blank) = crawford_after line text after skips named h in
      is.1 (subst (λ (t : List ℕ). IsBlankText t) (says_rest after (codes "\"Off\"]") (codes "\"Off\"]") other rest then off) blank),
)

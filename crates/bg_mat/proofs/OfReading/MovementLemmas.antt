-- A movement is read in one way.
use Rattle.std.specs.Prelude.{◌≡◌, ◌≢◌, ◌⊎◌, ℕ, ◌+◌, ◌<◌, ◌≤◌, Bool, true, false, List, [], ◌∷◌, ◌++◌, codes, length, map}
use Rattle.std.proofs.Common.{append_assoc, refl, sym, ◌∙◌, ap, subst, inl, inr, arith}
use Rattle.std.specs.Char.{is_ascii_digit, to_ascii_lowercase}
use Rattle.std.specs.List.{AllByRecursion}
use Rattle.std.specs.Str.{all_ascii_digits}
use Rattle.std.proofs.lemmas.Bool.{and_parts, cases_lt}
use Rattle.std.proofs.lemmas.Str.Ascii.{lowercase_is}
use Rattle.bg_mat.specs.Legs.{IsPointText, TellsLeg, TellsLegs, TellsPath, TellsWord, mark}
use Rattle.bg_mat.specs.Rows.Numbers.{IsNumber}
use Rattle.bg_mat.specs.Rows.Words.{SameLetters}
use Rattle.bg_mat.specs.declared.movements.legs.Leg.{Leg}

abbrev pub AllOf : (ℕ → Type 0) → List ℕ → Type 0
AllOf P text = AllByRecursion P text

-- no such byte begins the text
abbrev pub StopsAt : (ℕ → Type 0) → List ℕ → Type 0
StopsAt P [] = Unit {0}
StopsAt P (byte ∷ rest) = P byte → ⊥

-- a text is cut in one way behind its first such bytes
pub cut_same : (P : ℕ → Type 0) (a x b y : List ℕ) → a ++ x ≡ b ++ y → AllOf P a → AllOf P b → StopsAt P x → StopsAt P y
    → (a ≡ b) × (x ≡ y)
cut_same P [] x [] y e all every stops ends = (refl, e)
cut_same P [] [] (z ∷ b) y e all every stops ends = absurd (cc (e))
cut_same P [] (w ∷ x) (z ∷ b) y e all every stops ends =
    let same : z ≡ w = cc in absurd (stops (subst P same every.0))
cut_same P (w ∷ a) x [] [] e all every stops ends = absurd (cc (e))
cut_same P (w ∷ a) x [] (z ∷ y) e all every stops ends =
    let same : w ≡ z = cc in absurd (ends (subst P same all.0))
cut_same P (w ∷ a) x (z ∷ b) y e all every stops ends =
    let first : w ≡ z = cc in
    let more : a ++ x ≡ b ++ y = cc in
    let rest = cut_same P a x b y more all.1 every.1 stops ends in
    (cc (first, rest.0), rest.1)

pub all_both : (P : ℕ → Type 0) (a b : List ℕ) → AllOf P a → AllOf P b → AllOf P (a ++ b)
all_both P [] b h k = k
all_both P (x ∷ a) b h k = (h.0, all_both P a b h.1 k)

pub all_left : (P : ℕ → Type 0) (a b : List ℕ) → AllOf P (a ++ b) → AllOf P a
all_left P [] b h = tt
all_left P (x ∷ a) b h = (h.0, all_left P a b h.1)

pub all_right : (P : ℕ → Type 0) (a b : List ℕ) → AllOf P (a ++ b) → AllOf P b
all_right P [] b h = h
all_right P (x ∷ a) b h = all_right P a b h.1

pub all_weaker : (P Q : ℕ → Type 0) → ((b : ℕ) → P b → Q b) → (a : List ℕ) → AllOf P a → AllOf Q a
all_weaker P Q f [] h = tt
all_weaker P Q f (x ∷ a) h = (f x h.0, all_weaker P Q f a h.1)

-- digits and letters
abbrev pub IsHigh : ℕ → Type 0
IsHigh byte = 48 ≤ byte

digit_all : (P : ℕ → Type 0) → ((b : ℕ) → 48 ≤ b → b ≤ 57 → P b) → (x : ℕ) → is_ascii_digit x ≡ true → P x
digit_all P digit x h = digit x (grind (arith, h)) (grind (arith, h))

digits_all : (P : ℕ → Type 0) → ((b : ℕ) → 48 ≤ b → b ≤ 57 → P b) → (word : List ℕ) → all_ascii_digits word ≡ true → AllOf P word
digits_all P digit [] h = tt
digits_all P digit (x ∷ word) h =
    let k = and_parts (is_ascii_digit x) (all_ascii_digits word) h in (digit_all P digit x k.0, digits_all P digit word k.1)

pub lower_low : (c : ℕ) → c < 65 → to_ascii_lowercase c ≡ c
lower_low c low = (lowercase_is c).1 low

-- a letter in lower case stands for a letter
letter_high : (x y : ℕ) → to_ascii_lowercase x ≡ y → 65 ≤ y → 65 ≤ x
letter_high x y is high = elim (cases_lt x 65) [
  | inl below ↦ let same : to_ascii_lowercase x ≡ x = lower_low x below in omega (arith, is, same, high)
  | inr above ↦ omega (arith, above)
]

pub letters_all : (P : ℕ → Type 0) → ((b : ℕ) → 65 ≤ b → P b) → (word low : List ℕ) → map to_ascii_lowercase word ≡ low
    → AllOf (λ b. 65 ≤ b) low → AllOf P word
letters_all P letter [] low e high = tt
letters_all P letter (x ∷ word) [] e high = absurd (cc (e))
letters_all P letter (x ∷ word) (y ∷ low) e high =
    let one : to_ascii_lowercase x ≡ y = cc in
    let more : map to_ascii_lowercase word ≡ low = cc in
    (letter x (letter_high x y one high.0), letters_all P letter word low more high.1)

three_letters : (a b c : ℕ) → 65 ≤ a → 65 ≤ b → 65 ≤ c → AllOf (λ x. 65 ≤ x) (a ∷ b ∷ c ∷ [])
three_letters a b c h k l = (h, (k, (l, tt)))

pub point_all : (P : ℕ → Type 0) → ((b : ℕ) → 48 ≤ b → b ≤ 57 → P b) → ((b : ℕ) → 65 ≤ b → P b)
    → (word : List ℕ) (point : ℕ) → IsPointText word point → AllOf P word
point_all P digit letter word point (inl (at, is)) =
    letters_all P letter word (codes "bar") is (three_letters 98 97 114 (omega arith) (omega arith) (omega arith))
point_all P digit letter word point (inr (inl (at, is))) =
    letters_all P letter word (codes "off") is (three_letters 111 102 102 (omega arith) (omega arith) (omega arith))
point_all P digit letter word point (inr (inr is)) = digits_all P digit word is.digits

pub point_high : (word : List ℕ) (point : ℕ) → IsPointText word point → AllOf IsHigh word
point_high word point is = point_all IsHigh (λ b low few. low) (λ b high. omega (arith, high)) word point is

-- all bytes of a movement
mark_all : (P : ℕ → Type 0) → P 42 → (hits : Bool) → AllOf P (mark hits)
mark_all P is true = (is, tt)
mark_all P is false = tt

pub legs_all : (P : ℕ → Type 0) → ((b : ℕ) → 48 ≤ b → b ≤ 57 → P b) → ((b : ℕ) → 65 ≤ b → P b) → P 47 → P 42
    → (from : ℕ) (text : List ℕ) (legs : List Leg) → TellsLegs from text legs → AllOf P text
legs_all P digit letter slash star from text [] e = rw e tt
legs_all P digit letter slash star from text (leg ∷ legs) (word, rest, e, first, more) =
    let own : AllOf P (first.point ++ mark leg.hits) =
    all_both P first.point (mark leg.hits) (point_all P digit letter first.point leg.step.to first.ends) (mark_all P star leg.hits) in
    let here : AllOf P word = subst (AllOf P) (sym first.marked) own in
    rw e (slash, all_both P word rest here (legs_all P digit letter slash star leg.step.to rest legs more))

pub path_all : (P : ℕ → Type 0) → ((b : ℕ) → 48 ≤ b → b ≤ 57 → P b) → ((b : ℕ) → 65 ≤ b → P b) → P 47 → P 42
    → (text : List ℕ) (legs : List Leg) → TellsPath text legs → AllOf P text
path_all P digit letter slash star text legs (from, start, rest, e, is, all, some) =
    rw e (all_both P start rest (point_all P digit letter start from is) (legs_all P digit letter slash star from rest legs all))

-- a bracket, a digit and a bracket
pub bracketed : (word path : List ℕ) (count : ℕ) → word ≡ path ++ codes "(" ++ (48 + count) ∷ codes ")"
    → word ≡ path ++ (40 ∷ (48 + count) ∷ codes ")")
bracketed word path count e = e ∙ append_assoc path (codes "(") ((48 + count) ∷ codes ")")

pub word_all : (P : ℕ → Type 0) → ((b : ℕ) → 48 ≤ b → b ≤ 57 → P b) → ((b : ℕ) → 65 ≤ b → P b) → P 47 → P 42 → P 40 → P 41
    → (word : List ℕ) (legs : List Leg) → TellsWord word legs → AllOf P word
word_all P digit letter slash star begin shut word legs (path, count, once, inl (e, one), tells, all) =
    rw e (path_all P digit letter slash star path once tells)
word_all P digit letter slash star begin shut word legs (path, count, once, inr (low, few, e), tells, all) =
    rw (bracketed word path count e) (all_both P path (40 ∷ (48 + count) ∷ codes ")")
    (path_all P digit letter slash star path once tells)
    (begin, (digit (48 + count) (omega arith) (omega (arith, few)), (shut, tt))))

-- lists that begin otherwise
pub apart : (a b : ℕ) (x y : List ℕ) → (a ≡ b → ⊥) → a ∷ x ≡ b ∷ y → ⊥
apart a b x y other e = let same : a ≡ b = cc in other same

no_bytes : (a : ℕ) (x : List ℕ) → a ∷ x ≡ [] → ⊥
no_bytes a x e = absurd (cc (e))

pub head_same : (a b : ℕ) (x y : List ℕ) → a ∷ x ≡ b ∷ y → a ≡ b
head_same a b x y e = cc

pub tail_same : (a b : ℕ) (x y : List ℕ) → a ∷ x ≡ b ∷ y → x ≡ y
tail_same a b x y e = cc

-- a word of letters
letters_number : (word low : List ℕ) (n : ℕ) → map to_ascii_lowercase word ≡ low → AllOf (λ b. 65 ≤ b) low → 0 < length low
    → IsNumber word n → ⊥
letters_number [] [] n e high some is = absurd (omega (arith, some))
letters_number [] (y ∷ low) n e high some is = absurd (cc (e))
letters_number (x ∷ word) [] n e high some is = absurd (omega (arith, some))
letters_number (x ∷ word) (y ∷ low) n e high some is =
    let one : to_ascii_lowercase x ≡ y = cc in
    let letter = letter_high x y one high.0 in
    let digit = (and_parts (is_ascii_digit x) (all_ascii_digits word) is.digits).0 in
    digit_all (λ b. 65 ≤ b → ⊥) (λ b low few h. omega (arith, few, h)) x digit letter

bar_number : (word : List ℕ) (n : ℕ) → SameLetters word (codes "bar") → IsNumber word n → ⊥
bar_number word n e is =
    letters_number word (codes "bar") n e (three_letters 98 97 114 (omega arith) (omega arith) (omega arith)) (omega arith) is

off_number : (word : List ℕ) (n : ℕ) → SameLetters word (codes "off") → IsNumber word n → ⊥
off_number word n e is =
    letters_number word (codes "off") n e (three_letters 111 102 102 (omega arith) (omega arith) (omega arith)) (omega arith) is

bar_no_off : (word : List ℕ) → SameLetters word (codes "bar") → SameLetters word (codes "off") → ⊥
bar_no_off word e d = apart 98 111 (codes "ar") (codes "ff") (λ f. omega (arith, f)) (sym e ∙ d)

pub point_same : (word : List ℕ) (p q : ℕ) → IsPointText word p → IsPointText word q → p ≡ q
point_same word p q (inl (at, is)) (inl (there, other)) = at ∙ sym there
point_same word p q (inl (at, is)) (inr (inl (there, other))) = absurd (bar_no_off word is other)
point_same word p q (inl (at, is)) (inr (inr number)) = absurd (bar_number word q is number)
point_same word p q (inr (inl (at, is))) (inl (there, other)) = absurd (bar_no_off word other is)
point_same word p q (inr (inl (at, is))) (inr (inl (there, other))) = at ∙ sym there
point_same word p q (inr (inl (at, is))) (inr (inr number)) = absurd (off_number word q is number)
point_same word p q (inr (inr number)) (inl (there, other)) = absurd (bar_number word p other number)
point_same word p q (inr (inr number)) (inr (inl (there, other))) = absurd (off_number word p other number)
point_same word p q (inr (inr number)) (inr (inr other)) = number.value ∙ sym other.value

-- legs begin with a slash, or there are none
pub legs_begin : (from : ℕ) (text : List ℕ) (legs : List Leg) → TellsLegs from text legs
    → (text ≡ []) ⊎ ((rest : List ℕ) × (text ≡ 47 ∷ rest))
legs_begin from text [] e = inl e
legs_begin from text (leg ∷ legs) (word, rest, e, first, more) = inr (word ++ rest, e)

low_stops : (byte : ℕ) → byte < 48 → IsHigh byte → ⊥
low_stops byte low high = omega arith

slash_stops : (rest : List ℕ) → (rest ≡ []) ⊎ ((more : List ℕ) × (rest ≡ 47 ∷ more)) → StopsAt IsHigh rest
slash_stops rest (inl e) = rw e tt
slash_stops rest (inr (more, e)) = rw e (low_stops 47 (omega arith))

marked_stops : (hits : Bool) (rest : List ℕ) → (rest ≡ []) ⊎ ((more : List ℕ) × (rest ≡ 47 ∷ more)) → StopsAt IsHigh (mark hits ++ rest)
marked_stops true rest h = low_stops 42 (omega arith)
marked_stops false rest h = slash_stops rest h

-- the mark behind a point
marks_same : (g h : Bool) (x y : List ℕ) → mark g ++ x ≡ mark h ++ y → (x ≡ []) ⊎ ((more : List ℕ) × (x ≡ 47 ∷ more))
    → (y ≡ []) ⊎ ((more : List ℕ) × (y ≡ 47 ∷ more)) → (g ≡ h) × (x ≡ y)
marks_same true true x y e s t = (refl, tail_same 42 42 x y e)
marks_same false false x y e s t = (refl, e)
marks_same true false x y e s (inl is) = absurd (no_bytes 42 x (e ∙ is))
marks_same true false x y e s (inr (more, is)) = absurd (apart 42 47 x more (λ f. omega (arith, f)) (e ∙ is))
marks_same false true x y e (inl is) t = absurd (no_bytes 42 y (sym e ∙ is))
marks_same false true x y e (inr (more, is)) t = absurd (apart 42 47 y more (λ f. omega (arith, f)) (sym e ∙ is))

leg_of : ℕ → ℕ → Bool → Leg
leg_of from to hits = record { step = record { from = from; to = to }; hits = hits }

leg_same : (l k : Leg) → l.step.from ≡ k.step.from → l.step.to ≡ k.step.to → l.hits ≡ k.hits → l ≡ k
unfolding leg_of
leg_same l k f t h =
    ap (λ (n : ℕ). leg_of n l.step.to l.hits) f
    ∙ (ap (λ (n : ℕ). leg_of k.step.from n l.hits) t ∙ ap (λ (b : Bool). leg_of k.step.from k.step.to b) h)

-- a leg and what is behind it
pub legs_cut : (word rest other more : List ℕ) (from : ℕ) (l k : Leg) → word ++ rest ≡ other ++ more → TellsLeg from word l
    → TellsLeg from other k → (rest ≡ []) ⊎ ((behind : List ℕ) × (rest ≡ 47 ∷ behind))
    → (more ≡ []) ⊎ ((behind : List ℕ) × (more ≡ 47 ∷ behind)) → (l ≡ k) × (rest ≡ more)
legs_cut word rest other more from l k e first second s t =
    let parts : first.point ++ (mark l.hits ++ rest) ≡ second.point ++ (mark k.hits ++ more) =
    sym (append_assoc first.point (mark l.hits) rest)
    ∙ (ap (λ (w : List ℕ). w ++ rest) (sym first.marked)
    ∙ (e ∙ (ap (λ (w : List ℕ). w ++ more) second.marked ∙ append_assoc second.point (mark k.hits) more))) in
    let cut = cut_same IsHigh first.point (mark l.hits ++ rest) second.point (mark k.hits ++ more) parts
    (point_high first.point l.step.to first.ends) (point_high second.point k.step.to second.ends)
    (marked_stops l.hits rest s) (marked_stops k.hits more t) in
    let marks = marks_same l.hits k.hits rest more cut.1 s t in
    let to : l.step.to ≡ k.step.to =
    point_same second.point l.step.to k.step.to
    (subst (λ (w : List ℕ). IsPointText w l.step.to) cut.0 first.ends) second.ends in
    (leg_same l k (first.starts ∙ sym second.starts) to marks.0, marks.1)

pub legs_same : (from : ℕ) (text : List ℕ) (a b : List Leg) → TellsLegs from text a → TellsLegs from text b → a ≡ b
legs_same from text [] [] e d = refl
legs_same from text [] (k ∷ b) e (word, rest, d, first, more) = absurd (cc (e, d))
legs_same from text (l ∷ a) [] (word, rest, e, first, more) d = absurd (cc (e, d))
legs_same from text (l ∷ a) (k ∷ b) (word, rest, e, first, more) (other, behind, d, second, last) =
    let both : 47 ∷ (word ++ rest) ≡ 47 ∷ (other ++ behind) = sym e ∙ d in
    let same : word ++ rest ≡ other ++ behind = cc in
    let cut = legs_cut word rest other behind from l k same first second (legs_begin l.step.to rest a more)
    (legs_begin k.step.to behind b last) in
    let here : TellsLegs k.step.to behind a =
    subst (λ (t : List ℕ). TellsLegs k.step.to t a) cut.1
    (subst (λ (leg : Leg). TellsLegs leg.step.to rest a) cut.0 more) in
    let others : a ≡ b = legs_same k.step.to behind a b here last in
    cc (cut.0, others)

some_begin : (from : ℕ) (rest : List ℕ) (legs : List Leg) → TellsLegs from rest legs → StopsAt IsHigh rest
some_begin from rest legs h = slash_stops rest (legs_begin from rest legs h)

pub path_same : (text : List ℕ) (a b : List Leg) → TellsPath text a → TellsPath text b → a ≡ b
path_same text a b (from, start, rest, e, is, legs, some) (other, begin, more, d, at, last, any) =
    let cut = cut_same IsHigh start rest begin more (sym e ∙ d) (point_high start from is) (point_high begin other at)
    (some_begin from rest a legs) (some_begin other more b last) in
    let same : from ≡ other = point_same begin from other (subst (λ (w : List ℕ). IsPointText w from) cut.0 is) at in
    let here : TellsLegs other more a =
    subst (λ (t : List ℕ). TellsLegs other t a) cut.1 (subst (λ (p : ℕ). TellsLegs p rest a) same legs) in
    legs_same other more a b here last

-- no bracket
abbrev pub IsPathByte : ℕ → Type 0
IsPathByte byte = byte ≢ 40

pub path_path : (text : List ℕ) (legs : List Leg) → TellsPath text legs → AllOf IsPathByte text
path_path text legs tells =
    path_all IsPathByte (λ b low few e. omega (arith, low, e)) (λ b high e. omega (arith, high, e)) (λ e. omega (arith, e)) (λ e. omega (arith, e))
    text legs tells

pub bracket_none : (path behind : List ℕ) → AllOf IsPathByte (path ++ 40 ∷ behind) → ⊥
bracket_none path behind h = (all_right IsPathByte path (40 ∷ behind) h).0 refl

-- a word of a movement tells its legs in one way
pub word_same : (word : List ℕ) (a b : List Leg) → TellsWord word a → TellsWord word b → a ≡ b
word_same word a b (path, count, once, inl (e, one), is, all) (other, many, each, inl (d, two), at, every) =
    let same : path ≡ other = sym e ∙ d in
    let legs : once ≡ each = path_same other once each (subst (λ (t : List ℕ). TellsPath t once) same is) at in
    all ∙ (cc (one, two, legs) ∙ sym every)
word_same word a b (path, count, once, inl (e, one), is, all) (other, many, each, inr (low, high, d), at, every) =
    absurd (bracket_none other ((48 + many) ∷ codes ")")
    (subst (AllOf IsPathByte) (sym e ∙ bracketed word other many d) (path_path path once is)))
word_same word a b (path, count, once, inr (low, high, e), is, all) (other, many, each, inl (d, two), at, every) =
    absurd (bracket_none path ((48 + count) ∷ codes ")")
    (subst (AllOf IsPathByte) (sym d ∙ bracketed word path count e) (path_path other each at)))
word_same word a b (path, count, once, inr (low, high, e), is, all) (other, many, each, inr (small, great, d), at, every) =
    let cut = cut_same IsPathByte path (40 ∷ (48 + count) ∷ codes ")") other (40 ∷ (48 + many) ∷ codes ")")
    (sym (bracketed word path count e) ∙ bracketed word other many d)
    (path_path path once is) (path_path other each at) (λ f. f refl) (λ f. f refl) in
    let tail = tail_same 40 40 ((48 + count) ∷ codes ")") ((48 + many) ∷ codes ")") cut.1 in
    let more : 48 + count ≡ 48 + many = head_same (48 + count) (48 + many) (codes ")") (codes ")") tail in
    let counts : count ≡ many = omega (arith, more) in
    let legs : once ≡ each = path_same other once each (subst (λ (t : List ℕ). TellsPath t once) cut.0 is) at in
    all ∙ (cc (counts, legs) ∙ sym every)

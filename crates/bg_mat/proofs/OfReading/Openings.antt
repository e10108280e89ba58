-- What a text begins with behind its blanks.
use Rattle.std.specs.Prelude.{◌≡◌, ◌⊎◌, ◌==◌, ℕ, ◌+◌, ◌<◌, ◌≤◌, true, false, List, [], ◌∷◌, ◌++◌, codes, length, map}
use Rattle.std.specs.Char.{is_ascii_digit, to_ascii_lowercase}
use Rattle.std.specs.Str.{all_ascii_digits}
use Rattle.std.proofs.Common.{append_assoc, refl, sym, ◌∙◌, ap, subst, inl, inr, arith}
use Rattle.std.proofs.lemmas.Bool.{and_parts, eqb-true, ne_eqb}
use Rattle.std.proofs.lemmas.Bool.Decides.{nat_tests}
use Rattle.std.specs.List.{All}
use Rattle.bg_board.specs.Die.{pips}
use Rattle.bg_board.specs.declared.dice.Die.{Die}
use Rattle.bg_board.specs.declared.dice.Die.TheVariants.{One, Two, Three, Four, Five, Six}
use Rattle.bg_turns.specs.Dice.{first_pips, second_pips}
use Rattle.bg_turns.specs.declared.throws.Dice.{Dice}
use Rattle.bg_mat.specs.Legs.{IsPointText, TellsPath, TellsWord}
use Rattle.bg_mat.specs.Rows.Cells.{BeginsDice, EndsMovement, HasRowNumber, MayMove, SaysCannotMove, SaysUnknown}
use Rattle.bg_mat.specs.Rows.Numbers.{IsNumber}
use Rattle.bg_mat.specs.Rows.Words.{is_blank, BeginsSolid, EndsWord, IsBlankText, IsFirstWord, IsSolid, Says, SaysEither}
use Rattle.bg_mat.specs.declared.movements.legs.Leg.{Leg}
use Rattle.bg_mat.proofs.OfReading.MovementLemmas.{AllOf, apart, bracketed, cut_same, head_same, lower_low, tail_same, word_all}
use Rattle.bg_mat.proofs.OfReading.WordLemmas.{first_word_same, no_first_word, tail_of}

-- a text is cut in one way behind its blanks
pub blanks_same : (a x b y : List ℕ) → a ++ x ≡ b ++ y → IsBlankText a → IsBlankText b → BeginsSolid x → BeginsSolid y
    → (a ≡ b) × (x ≡ y)
blanks_same [] x [] y e blank other s t = (refl, e)
blanks_same [] x (z ∷ b) y e blank other s t =
    let first : is_blank z ≡ true = other 0 0 (omega arith) in
    let solid : is_blank z ≡ false = subst (λ (u : List ℕ). BeginsSolid u) e s in
    absurd (cc (first, solid))
blanks_same (w ∷ a) x [] y e blank other s t =
    let first : is_blank w ≡ true = blank 0 0 (omega arith) in
    let solid : is_blank w ≡ false = subst (λ (u : List ℕ). BeginsSolid u) (sym e) t in
    absurd (cc (first, solid))
blanks_same (w ∷ a) x (z ∷ b) y e blank other s t =
    let same : w ≡ z = head_same w z (a ++ x) (b ++ y) e in
    let more = blanks_same a x b y (tail_same w z (a ++ x) (b ++ y) e) (tail_of (λ byte. is_blank byte ≡ true) w a blank)
    (tail_of (λ byte. is_blank byte ≡ true) z b other) s t in
    (cc (same, more.0), more.1)

-- behind its blanks a text begins with these two letters or digits, capitals or not
pub record Opens (text : List ℕ) (first second : ℕ) : Type 0 where
  pub blanks : List ℕ
  pub x : ℕ
  pub y : ℕ
  pub more : List ℕ
  pub blank : IsBlankText blanks
  pub solid : is_blank x ≡ false
  pub one : to_ascii_lowercase x ≡ first
  pub two : to_ascii_lowercase y ≡ second
  pub spelled : text ≡ blanks ++ (x ∷ y ∷ more)

pub opens_same : (text : List ℕ) (a b c d : ℕ) → Opens text a b → Opens text c d → (a ≡ c) × (b ≡ d)
opens_same text a b c d f g =
    let cut = (blanks_same f.blanks (f.x ∷ f.y ∷ f.more) g.blanks (g.x ∷ g.y ∷ g.more) (sym f.spelled ∙ g.spelled)
    f.blank g.blank f.solid g.solid).1 in
    let one : f.x ≡ g.x = head_same f.x g.x (f.y ∷ f.more) (g.y ∷ g.more) cut in
    let rest = tail_same f.x g.x (f.y ∷ f.more) (g.y ∷ g.more) cut in
    let two : f.y ≡ g.y = head_same f.y g.y f.more g.more rest in (
      sym f.one ∙ (ap to_ascii_lowercase one ∙ g.one),
      sym f.two ∙ (ap to_ascii_lowercase two ∙ g.two),
    )

-- a byte that is no blank
pub solid_letter : (x n : ℕ) → to_ascii_lowercase x ≡ n → 33 ≤ n → is_blank x ≡ false
solid_letter x n is high =
    let space : (x == 32) ≡ false = ne_eqb x 32 (λ e.
    let h : to_ascii_lowercase 32 ≡ n = subst (λ (b : ℕ). to_ascii_lowercase b ≡ n) e is in omega (arith, h)) in
    let tab : (x == 9) ≡ false = ne_eqb x 9 (λ e.
    let h : to_ascii_lowercase 9 ≡ n = subst (λ (b : ℕ). to_ascii_lowercase b ≡ n) e is in omega (arith, h)) in
    let end : (x == 13) ≡ false = ne_eqb x 13 (λ e.
    let h : to_ascii_lowercase 13 ≡ n = subst (λ (b : ℕ). to_ascii_lowercase b ≡ n) e is in omega (arith, h)) in
    rw (space, tab, end) refl

-- a word with these letters opens a text
pub letters_open : (text blanks word rest : List ℕ) (first second : ℕ) (more : List ℕ) → IsBlankText blanks
    → text ≡ blanks ++ (word ++ rest) → map to_ascii_lowercase word ≡ first ∷ second ∷ more → 33 ≤ first
    → Opens text first second
letters_open text blanks [] rest first second more blank e letters high = absurd (cc (letters))
letters_open text blanks (x ∷ []) rest first second more blank e letters high = absurd (cc (letters))
letters_open text blanks (x ∷ y ∷ word) rest first second more blank e letters high =
    let one : to_ascii_lowercase x ≡ first = cc in
    let two : to_ascii_lowercase y ≡ second = cc in
    record {
      blanks = blanks;
      x = x;
      y = y;
      more = word ++ rest;
      blank = blank;
      solid = solid_letter x first one high;
      one = one;
      two = two;
      spelled = e;
    }

pub says_open : (text said rest : List ℕ) (first second : ℕ) (more : List ℕ) → Says text said rest
    → map to_ascii_lowercase said ≡ first ∷ second ∷ more → 33 ≤ first → Opens text first second
says_open text said rest first second more f e high =
    letters_open text f.first.blanks f.word rest first second more f.first.blank
    (f.first.spelled ∙ append_assoc f.first.blanks f.word rest) (f.same ∙ e) high

pub either_open : (text one other rest : List ℕ) (first second : ℕ) (more most : List ℕ) → SaysEither text one other rest
    → map to_ascii_lowercase one ≡ first ∷ second ∷ more → map to_ascii_lowercase other ≡ first ∷ second ∷ most
    → 33 ≤ first → Opens text first second
either_open text one other rest first second more most (inl f) e d high = says_open text one rest first second more f e high
either_open text one other rest first second more most (inr f) e d high = says_open text other rest first second most f d high

-- what the first word of a text begins with
pub word_opens : (text word rest : List ℕ) (x first second : ℕ) (more : List ℕ) → IsFirstWord text word rest
    → word ≡ x ∷ more → Opens text first second → to_ascii_lowercase x ≡ first
word_opens text word rest x first second more f is o =
    let spelled : text ≡ f.blanks ++ (x ∷ (more ++ rest)) =
    f.spelled ∙ (append_assoc f.blanks word rest ∙ ap (λ (w : List ℕ). f.blanks ++ (w ++ rest)) is) in
    let all : IsSolid (x ∷ more) = subst (λ (w : List ℕ). IsSolid w) is f.solid in
    let solid : is_blank x ≡ false = all 0 0 (omega arith) in
    let cut = (blanks_same f.blanks (x ∷ (more ++ rest)) o.blanks (o.x ∷ o.y ∷ o.more) (sym spelled ∙ o.spelled)
    f.blank o.blank solid o.solid).1 in
    ap to_ascii_lowercase (head_same x o.x (more ++ rest) (o.y ∷ o.more) cut) ∙ o.one

-- a die is a digit
pips_few : (d : Die) → (1 ≤ pips d) × (pips d ≤ 6)
pips_few One = (omega arith, omega arith)
pips_few Two = (omega arith, omega arith)
pips_few Three = (omega arith, omega arith)
pips_few Four = (omega arith, omega arith)
pips_few Five = (omega arith, omega arith)
pips_few Six = (omega arith, omega arith)

pub first_few : (dice : Dice) → (1 ≤ first_pips dice) × (first_pips dice ≤ 6)
first_few dice = pips_few dice.first

pub second_few : (dice : Dice) → (1 ≤ second_pips dice) × (second_pips dice ≤ 6)
second_few dice = pips_few dice.second

pub dice_solid : (dice : Dice) → is_blank (48 + first_pips dice) ≡ false
dice_solid dice =
    let few = first_few dice in
    solid_letter (48 + first_pips dice) (48 + first_pips dice) (lower_low (48 + first_pips dice) (omega (arith, few.1))) (omega arith)

pub dice_open : (text : List ℕ) (dice : Dice) (rest : List ℕ) → BeginsDice text dice rest
    → Opens text (48 + first_pips dice) (48 + second_pips dice)
dice_open text dice rest f =
    let few = first_few dice in
    let some = second_few dice in
    let one : to_ascii_lowercase (48 + first_pips dice) ≡ 48 + first_pips dice = lower_low (48 + first_pips dice) (omega (arith, few.1)) in
    record {
      blanks = f.blanks;
      x = 48 + first_pips dice;
      y = 48 + second_pips dice;
      more = 58 ∷ rest;
      blank = f.blank;
      solid = dice_solid dice;
      one = one;
      two = lower_low (48 + second_pips dice) (omega (arith, some.1));
      spelled = f.spelled;
    }

-- a movement begins with a digit, or with the first letter of the bar or of off
abbrev pub IsMoveByte : ℕ → Type 0
IsMoveByte x = ((48 ≤ x) × (x ≤ 57)) ⊎ ((to_ascii_lowercase x ≡ 98) ⊎ (to_ascii_lowercase x ≡ 111))

digit_range : (x : ℕ) → is_ascii_digit x ≡ true → (48 ≤ x) × (x ≤ 57)
digit_range x h = (grind (arith, h), grind (arith, h))

letter_first : (word : List ℕ) (first : ℕ) (rest : List ℕ) → map to_ascii_lowercase word ≡ first ∷ rest
    → (x : ℕ) × (more : List ℕ) × (word ≡ x ∷ more) × (to_ascii_lowercase x ≡ first)
letter_first [] first rest e = absurd (cc (e))
letter_first (x ∷ word) first rest e =
    (x, word, refl, head_same (to_ascii_lowercase x) first (map to_ascii_lowercase word) rest e)

pub number_first : (digits : List ℕ) (n : ℕ) → IsNumber digits n
    → (x : ℕ) × (more : List ℕ) × (digits ≡ x ∷ more) × ((48 ≤ x) × (x ≤ 57))
number_first [] n is = let some = is.some in absurd (omega (arith, some))
number_first (x ∷ digits) n is =
    (x, digits, refl, digit_range x (and_parts (is_ascii_digit x) (all_ascii_digits digits) is.digits).0)

point_first : (word : List ℕ) (p : ℕ) → IsPointText word p → (x : ℕ) × (more : List ℕ) × (word ≡ x ∷ more) × IsMoveByte x
point_first word p (inl (at, letters)) =
    let (x, more, e, is) = letter_first word 98 (97 ∷ 114 ∷ []) letters in (x, more, e, inr (inl is))
point_first word p (inr (inl (at, letters))) =
    let (x, more, e, is) = letter_first word 111 (102 ∷ 102 ∷ []) letters in (x, more, e, inr (inr is))
point_first word p (inr (inr number)) = let (x, more, e, is) = number_first word p number in (x, more, e, inl is)

path_first : (text : List ℕ) (legs : List Leg) → TellsPath text legs → (x : ℕ) × (more : List ℕ) × (text ≡ x ∷ more) × IsMoveByte x
path_first text legs (from, start, rest, e, is, tells, some) =
    let (x, more, d, byte) = point_first start from is in
    (x, more ++ rest, e ∙ ap (λ (t : List ℕ). t ++ rest) d, byte)

pub movement_first : (word : List ℕ) (legs : List Leg) → TellsWord word legs
    → (x : ℕ) × (more : List ℕ) × (word ≡ x ∷ more) × IsMoveByte x
movement_first word legs (path, count, once, inl (e, one), tells, all) =
    let (x, more, d, byte) = path_first path once tells in (x, more, e ∙ d, byte)
movement_first word legs (path, count, once, inr (low, few, e), tells, all) =
    let (x, more, d, byte) = path_first path once tells in
    (x, more ++ (40 ∷ (48 + count) ∷ codes ")"), bracketed word path count e ∙ ap (λ (t : List ℕ). t ++ (40 ∷ (48 + count) ∷ codes ")")) d, byte)

-- a text that opens with another letter has no movement
letter_no_move : (x first : ℕ) → to_ascii_lowercase x ≡ first → 57 < first → (first ≡ 98 → ⊥) → (first ≡ 111 → ⊥) → IsMoveByte x → ⊥
letter_no_move x first is high b o (inl (low, few)) =
    let same : to_ascii_lowercase x ≡ x = lower_low x (omega (arith, few)) in omega (arith, is, same, high, few)
letter_no_move x first is high b o (inr (inl e)) = b (sym is ∙ e)
letter_no_move x first is high b o (inr (inr e)) = o (sym is ∙ e)

pub letters_no_movement : (text : List ℕ) (first second : ℕ) → Opens text first second → 57 < first → (first ≡ 98 → ⊥)
    → (first ≡ 111 → ⊥) → EndsMovement text
letters_no_movement text first second o high b f word rest legs one tells =
    let (x, more, e, byte) = movement_first word legs tells in
    letter_no_move x first (word_opens text word rest x first second more one e o) high b f byte

-- no colon is in a movement
no_colon : (word : List ℕ) (legs : List Leg) → TellsWord word legs → AllOf (λ b. b ≡ 58 → ⊥) word
no_colon word legs tells =
    word_all (λ b. b ≡ 58 → ⊥) (λ b low few e. omega (arith, few, e)) (λ b high e. omega (arith, high, e)) (λ e. omega (arith, e))
    (λ e. omega (arith, e)) (λ e. omega (arith, e)) (λ e. omega (arith, e)) word legs tells

digit_solid : (n : ℕ) → n ≤ 9 → is_blank (48 + n) ≡ false
digit_solid n few = solid_letter (48 + n) (48 + n) (lower_low (48 + n) (omega (arith, few))) (omega arith)

dice_colon : (word behind : List ℕ) (a b : ℕ) (rest : List ℕ) → word ++ behind ≡ a ∷ b ∷ 58 ∷ rest → 0 < length word
    → is_blank b ≡ false → EndsWord behind → AllOf (λ c. c ≡ 58 → ⊥) word → ⊥
dice_colon [] behind a b rest e some solid ends none = omega (arith, some)
dice_colon (x ∷ []) behind a b rest e some solid ends none =
    let next : is_blank b ≡ true = subst (λ (t : List ℕ). EndsWord t) (tail_same x a behind (b ∷ 58 ∷ rest) e) ends in
    cc (next, solid)
dice_colon (x ∷ y ∷ []) behind a b rest e some solid ends none =
    let more = tail_same y b behind (58 ∷ rest) (tail_same x a (y ∷ behind) (b ∷ 58 ∷ rest) e) in
    let next : is_blank 58 ≡ true = subst (λ (t : List ℕ). EndsWord t) more ends in
    absurd (cc (next))
dice_colon (x ∷ y ∷ z ∷ word) behind a b rest e some solid ends none =
    let more = tail_same y b (z ∷ (word ++ behind)) (58 ∷ rest) (tail_same x a (y ∷ z ∷ (word ++ behind)) (b ∷ 58 ∷ rest) e) in
    none.1.1.0 (head_same z 58 (word ++ behind) rest more)

solid_first : (word behind : List ℕ) → 0 < length word → IsSolid word → BeginsSolid (word ++ behind)
solid_first [] behind some h = absurd (omega (arith, some))
solid_first (x ∷ word) behind some h = h 0 0 (omega arith)

-- dice are no movement
pub dice_no_movement : (text : List ℕ) (dice : Dice) (rest : List ℕ) → BeginsDice text dice rest → EndsMovement text
dice_no_movement text dice rest f word behind legs one tells =
    let spelled : text ≡ one.blanks ++ (word ++ behind) = one.spelled ∙ append_assoc one.blanks word behind in
    let first : BeginsSolid (word ++ behind) = solid_first word behind one.some one.solid in
    let cut = (blanks_same one.blanks (word ++ behind) f.blanks ((48 + first_pips dice) ∷ (48 + second_pips dice) ∷ 58 ∷ rest)
    (sym spelled ∙ f.spelled) one.blank f.blank first (dice_solid dice)).1 in
    let few = second_few dice in
    dice_colon word behind (48 + first_pips dice) (48 + second_pips dice) rest cut one.some
    (digit_solid (second_pips dice) (omega (arith, few.1))) one.ends (no_colon word legs tells)

-- what a text opens with that says that a turn is not known
marks_first : (word : List ℕ) → 0 < length word → All (λ byte. (byte == 63) ≡ true) word
    → (x : ℕ) × (more : List ℕ) × (word ≡ x ∷ more) × (x ≡ 63)
marks_first [] some h = absurd (omega (arith, some))
marks_first (x ∷ word) some h = (x, word, refl, eqb-true x 63 (h 0 0 (omega arith)))

pub unknown_opens : (text rest : List ℕ) (first second : ℕ) → SaysUnknown text rest → Opens text first second → first ≡ 63
unknown_opens text rest first second (word, f, marks) o =
    let (x, more, e, is) = marks_first word f.some marks in
    let low : to_ascii_lowercase x ≡ first = word_opens text word rest x first second more f e o in
    sym low ∙ ap to_ascii_lowercase is

-- a text that opens with another letter may have a movement
pub opens_may : (text : List ℕ) (first second : ℕ) → Opens text first second → (first ≡ 99 → ⊥) → (first ≡ 63 → ⊥) → MayMove text
opens_may text first second o letter mark rest = (
  λ h.
      let (after, f, more) = h in
      letter (opens_same text first second 99 97 o (says_open text (codes "Cannot") after 99 97 (codes "nnot") f refl (omega arith))).0,
  λ h. mark (unknown_opens text rest first second h o),
)

-- nor may a blank one be without
pub blank_may : (text : List ℕ) → IsBlankText text → MayMove text
blank_may text blank rest = (
  λ h. let (after, f, more) = h in no_first_word text f.word after blank f.first,
  λ h. let (word, f, marks) = h in no_first_word text word rest blank f,
)

-- a text that opens so begins no comment, nor is it blank
pub opens_some : (text : List ℕ) (first second : ℕ) → Opens text first second → IsBlankText text → ⊥
opens_some text first second o blank =
    let behind : (x : List ℕ) → text ≡ x → IsBlankText x = λ x e. subst (λ (t : List ℕ). IsBlankText t) e blank in
    at o.blanks (behind (o.blanks ++ (o.x ∷ o.y ∷ o.more)) o.spelled) where
      at : (gap : List ℕ) → IsBlankText (gap ++ (o.x ∷ o.y ∷ o.more)) → ⊥
      at [] h = let first : is_blank o.x ≡ true = h 0 0 (omega arith) in let solid = o.solid in cc
      at (b ∷ gap) h = at gap (tail_of (λ byte. is_blank byte ≡ true) b (gap ++ (o.x ∷ o.y ∷ o.more)) h)

-- dice of a text, and what follows
pips_same : (a b : Die) → pips a ≡ pips b → a ≡ b
pips_same One One e = refl
pips_same One _ e = absurd (omega arith)
pips_same Two Two e = refl
pips_same Two _ e = absurd (omega arith)
pips_same Three Three e = refl
pips_same Three _ e = absurd (omega arith)
pips_same Four Four e = refl
pips_same Four _ e = absurd (omega arith)
pips_same Five Five e = refl
pips_same Five _ e = absurd (omega arith)
pips_same Six Six e = refl
pips_same Six _ e = absurd (omega arith)

dice_by : (d e : Dice) → d.first ≡ e.first → d.second ≡ e.second → d ≡ e
dice_by d e h k =
    let one : d ≡ record { first = e.first; second = d.second } =
    ap (λ (x : Die). record { first = x; second = d.second }) h in
    one ∙ ap (λ (x : Die). record { first = e.first; second = x }) k

pub dice_same : (text : List ℕ) (d e : Dice) (r s : List ℕ) → BeginsDice text d r → BeginsDice text e s → (d ≡ e) × (r ≡ s)
dice_same text d e r s f g =
    let cut = (blanks_same f.blanks ((48 + first_pips d) ∷ (48 + second_pips d) ∷ 58 ∷ r)
    g.blanks ((48 + first_pips e) ∷ (48 + second_pips e) ∷ 58 ∷ s) (sym f.spelled ∙ g.spelled) f.blank g.blank (dice_solid d) (dice_solid e)).1 in
    let one = head_same (48 + first_pips d) (48 + first_pips e) ((48 + second_pips d) ∷ 58 ∷ r) ((48 + second_pips e) ∷ 58 ∷ s) cut in
    let more = tail_same (48 + first_pips d) (48 + first_pips e) ((48 + second_pips d) ∷ 58 ∷ r) ((48 + second_pips e) ∷ 58 ∷ s) cut in
    let two = head_same (48 + second_pips d) (48 + second_pips e) (58 ∷ r) (58 ∷ s) more in
    let rest = tail_same (48 + second_pips d) (48 + second_pips e) (58 ∷ r) (58 ∷ s) more in
    (dice_by d e (pips_same d.first e.first (omega (arith, one))) (pips_same d.second e.second (omega (arith, two))), tail_same 58 58 r s rest)

-- the first byte of a text
pub digit_byte : (x : ℕ) → 48 ≤ x → x ≤ 57 → is_blank x ≡ false
digit_byte x low high = solid_letter x x (lower_low x (omega (arith, high))) (omega (arith, low))

pub byte_some : (text blanks : List ℕ) (x : ℕ) (more : List ℕ) → text ≡ blanks ++ (x ∷ more) → is_blank x ≡ false
    → IsBlankText text → ⊥
byte_some text blanks x more e solid blank = at blanks (subst (λ (t : List ℕ). IsBlankText t) e blank) where
  at : (gap : List ℕ) → IsBlankText (gap ++ (x ∷ more)) → ⊥
  at [] h = let first : is_blank x ≡ true = h 0 0 (omega arith) in absurd (cc (first, solid))
  at (b ∷ gap) h = at gap (tail_of (λ byte. is_blank byte ≡ true) b (gap ++ (x ∷ more)) h)

pub byte_same : (text blanks : List ℕ) (x : ℕ) (more word rest : List ℕ) (y : ℕ) (most : List ℕ) → IsBlankText blanks
    → text ≡ blanks ++ (x ∷ more) → is_blank x ≡ false → IsFirstWord text word rest → word ≡ y ∷ most → x ≡ y
byte_same text blanks x more word rest y most blank e solid f is =
    let spelled : text ≡ f.blanks ++ (y ∷ (most ++ rest)) =
    f.spelled ∙ (append_assoc f.blanks word rest ∙ ap (λ (w : List ℕ). f.blanks ++ (w ++ rest)) is) in
    let all : IsSolid (y ∷ most) = subst (λ (w : List ℕ). IsSolid w) is f.solid in
    let first : is_blank y ≡ false = all 0 0 (omega arith) in
    let cut = (blanks_same blanks (x ∷ more) f.blanks (y ∷ (most ++ rest)) (sym e ∙ spelled) blank f.blank solid first).1 in
    head_same x y more (most ++ rest) cut

-- the number of a row, and what follows
pub digits_all : (word : List ℕ) → all_ascii_digits word ≡ true → AllOf (λ b. is_ascii_digit b ≡ true) word
digits_all [] h = tt
digits_all (x ∷ word) h = let k = and_parts (is_ascii_digit x) (all_ascii_digits word) h in (k.0, digits_all word k.1)

pub digits_solid : (word behind : List ℕ) (n : ℕ) → IsNumber word n → BeginsSolid (word ++ behind)
digits_solid word behind n is =
    let (x, more, e, (low, high)) = number_first word n is in
    let solid : is_blank x ≡ false = solid_letter x x (lower_low x (omega (arith, high))) (omega (arith, low)) in
    rw e solid

pub number_same : (line a b : List ℕ) → HasRowNumber line a → HasRowNumber line b → a ≡ b
number_same line a b f g =
    let cut = (blanks_same f.blanks (f.digits ++ (codes ")" ++ a)) g.blanks (g.digits ++ (codes ")" ++ b)) (sym f.spelled ∙ g.spelled)
    f.blank g.blank (digits_solid f.digits (codes ")" ++ a) f.n f.number) (digits_solid g.digits (codes ")" ++ b) g.n g.number)).1 in
    let ends = (cut_same (λ b. is_ascii_digit b ≡ true) f.digits (codes ")" ++ a) g.digits (codes ")" ++ b) cut
    (digits_all f.digits f.number.digits) (digits_all g.digits g.number.digits)
    (λ h. absurd (cc (h))) (λ h. absurd (cc (h)))).1 in
    tail_same 41 41 a b ends

-- the number of a row opens with a digit
pub number_opens : (line rest : List ℕ) (first second : ℕ) → HasRowNumber line rest → Opens line first second → first ≤ 57
number_opens line rest first second f o =
    let (x, more, e, (low, high)) = number_first f.digits f.n f.number in
    let spelled : line ≡ f.blanks ++ (x ∷ (more ++ (codes ")" ++ rest))) =
    f.spelled ∙ ap (λ (t : List ℕ). f.blanks ++ (t ++ (codes ")" ++ rest))) e in
    let solid : is_blank x ≡ false = solid_letter x x (lower_low x (omega (arith, high))) (omega (arith, low)) in
    let cut = (blanks_same f.blanks (x ∷ (more ++ (codes ")" ++ rest))) o.blanks (o.x ∷ o.y ∷ o.more) (sym spelled ∙ o.spelled)
    f.blank o.blank solid o.solid).1 in
    let same : x ≡ o.x = head_same x o.x (more ++ (codes ")" ++ rest)) (o.y ∷ o.more) cut in
    let one = o.one in
    let lower : to_ascii_lowercase o.x ≡ o.x = lower_low o.x (omega (arith, same, high)) in
    omega (arith, one, lower, same, high)

-- dice are no number of a row
pub dice_no_number : (line rest behind : List ℕ) (dice : Dice) → BeginsDice line dice rest → HasRowNumber line behind → ⊥
dice_no_number line rest behind dice f g =
    let one = first_few dice in
    let two = second_few dice in
    let cut = (blanks_same f.blanks ((48 + first_pips dice) ∷ (48 + second_pips dice) ∷ 58 ∷ rest) g.blanks (g.digits ++ (codes ")" ++ behind))
    (sym f.spelled ∙ g.spelled) f.blank g.blank (dice_solid dice) (digits_solid g.digits (codes ")" ++ behind) g.n g.number)).1 in
    let ends = (cut_same (λ b. is_ascii_digit b ≡ true) ((48 + first_pips dice) ∷ (48 + second_pips dice) ∷ []) (58 ∷ rest) g.digits
    (codes ")" ++ behind) cut (pip_digit (first_pips dice) one.1, (pip_digit (second_pips dice) two.1, tt))
    (digits_all g.digits g.number.digits) (λ h. absurd (cc (h))) (λ h. absurd (cc (h)))).1 in
    apart 58 41 rest behind (λ e. omega (arith, e)) ends
  where
    pip_digit : (n : ℕ) → n ≤ 6 → is_ascii_digit (48 + n) ≡ true
    pip_digit n few = grind (arith, nat_tests, few)

-- nor is a turn that is not known
pub unknown_ends : (text rest : List ℕ) → SaysUnknown text rest → EndsMovement text
unknown_ends text rest (other, f, marks) word behind legs one tells =
    let (x, more, e, byte) = movement_first word legs tells in
    let (y, most, d, is) = marks_first other f.some marks in
    let same : y ∷ most ≡ x ∷ more = sym d ∙ ((first_word_same text other rest word behind f one).0 ∙ e) in
    letter_no_move x 63 (ap to_ascii_lowercase (sym (head_same y x most more same) ∙ is)) (omega arith) (λ n. omega (arith, n)) (λ n. omega (arith, n)) byte

-- nor is one that says that there is none
pub cannot_ends : (text rest : List ℕ) → SaysCannotMove text rest → EndsMovement text
cannot_ends text rest (after, first, more) =
    letters_no_movement text 99 97 (says_open text (codes "Cannot") after 99 97 (codes "nnot") first refl (omega arith))
    (omega arith) (λ e. omega (arith, e)) (λ e. omega (arith, e))

-- a movement stands in its own place
pub movement_may : (text word rest : List ℕ) (legs : List Leg) → IsFirstWord text word rest → TellsWord word legs → MayMove text
movement_may text word rest legs f tells other =
    (λ h. cannot_ends text other h word rest legs f tells, λ h. unknown_ends text other h word rest legs f tells)

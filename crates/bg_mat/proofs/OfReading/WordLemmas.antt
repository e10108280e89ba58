-- Blanks and words at the beginning of a text.
use Rattle.std.specs.Prelude.{◌≡◌, ◌==◌, ◌↔◌, ℕ, suc, ◌<◌, Bool, true, false, List, [], ◌∷◌, ◌++◌, length, IsTrue}
use Rattle.std.proofs.Common.{append_assoc, refl, sym, ◌∙◌, ap, subst, arith, rules}
use Rattle.std.specs.List.{All}
use Rattle.std.proofs.lemmas.Bool.{ne_eqb}
use Rattle.bg_mat.specs.Rows.Words.{is_blank, leading_blanks, BeginsSolid, EndsWord, IsBlankText, IsFirstWord, IsSolid}

nothing_more : (xs : List ℕ) → xs ++ [] ≡ xs
nothing_more [] = refl
nothing_more (x ∷ xs) = ap (λ (ys : List ℕ). x ∷ ys) (nothing_more xs)

-- the blanks of a text are counted up to its first other byte
pub count_leading : (blanks rest : List ℕ) → IsBlankText blanks → BeginsSolid rest
    → leading_blanks (blanks ++ rest) ≡ length blanks
count_leading [] [] b s = refl
count_leading [] (x ∷ rest) b s = rw s refl
count_leading (x ∷ blanks) rest b s =
    let first : is_blank x ≡ true = b 0 0 (omega arith) in
    let more = count_leading blanks rest (λ k d l. b (suc k) d (omega arith)) s in
    rw (first, more) refl

-- a text of blanks has no other byte behind them
ends_blank : (blanks rest : List ℕ) → IsBlankText blanks → BeginsSolid rest → IsBlankText (blanks ++ rest)
    → rest ≡ []
ends_blank [] [] b s h = refl
ends_blank [] (x ∷ rest) b s h = let first : is_blank x ≡ true = h 0 0 (omega arith) in absurd (cc (first, s))
ends_blank (x ∷ blanks) rest b s h =
    ends_blank blanks rest (λ k d l. b (suc k) d (omega arith)) s (λ k d l. h (suc k) d (omega arith))

pub blank_where_empty : (text blanks rest : List ℕ) (r : Bool) → IsBlankText blanks → text ≡ blanks ++ rest
    → BeginsSolid rest → r ≡ (length rest == 0) → IsTrue r ↔ IsBlankText text
blank_where_empty text blanks [] r b e s h =
    (λ is. subst (λ (t : List ℕ). IsBlankText t) (sym (e ∙ nothing_more blanks)) b, λ is. search (rules, h))
blank_where_empty text blanks (x ∷ rest) r b e s h = (
  λ is. let t : r ≡ false = h ∙ ne_eqb (length (x ∷ rest)) 0 (λ e. omega arith) in absurd (cc (t, is)),
  λ is. let none = ends_blank blanks (x ∷ rest) b s (subst (λ (t : List ℕ). IsBlankText t) e is) in absurd (cc (none)),
)

-- a text that begins with no blank begins with a word
pub begins_word : (text word rest : List ℕ) → text ≡ word ++ rest → 0 < length text → BeginsSolid text
    → EndsWord rest → 0 < length word
begins_word [] word rest e some solid ends = absurd (omega arith)
begins_word (x ∷ text) [] [] e some solid ends = absurd (cc (e))
begins_word (x ∷ text) [] (y ∷ rest) e some solid ends =
    let same : x ≡ y = cc in
    let other : is_blank x ≡ true = rw same ends in
    absurd (cc (other, solid))
begins_word (x ∷ text) (y ∷ word) rest e some solid ends = omega arith

pub tail_of : (P : ℕ → Type 0) (x : ℕ) (xs : List ℕ) → All P (x ∷ xs) → All P xs
tail_of P x xs h k d l = h (suc k) d (omega arith)

solids_same : (w r v s : List ℕ) → w ++ r ≡ v ++ s → IsSolid w → IsSolid v → EndsWord r → EndsWord s
    → (w ≡ v) × (r ≡ s)
solids_same [] r [] s e solid other ends end = (refl, e)
solids_same [] [] (y ∷ v) s e solid other ends end = absurd (cc (e))
solids_same [] (x ∷ r) (y ∷ v) s e solid other ends end =
    let same : x ≡ y = cc in
    let first : is_blank y ≡ false = other 0 0 (omega arith) in
    absurd (cc (first, ends, same))
solids_same (x ∷ w) r [] [] e solid other ends end = absurd (cc (e))
solids_same (x ∷ w) r [] (y ∷ s) e solid other ends end =
    let same : x ≡ y = cc in
    let first : is_blank x ≡ false = solid 0 0 (omega arith) in
    absurd (cc (first, end, same))
solids_same (x ∷ w) r (y ∷ v) s e solid other ends end =
    let same : x ≡ y = cc in
    let more : w ++ r ≡ v ++ s = cc in
    let rest = solids_same w r v s more (tail_of (λ byte. is_blank byte ≡ false) x w solid)
    (tail_of (λ byte. is_blank byte ≡ false) y v other) ends end in
    (cc (same, rest.0), rest.1)

words_same : (a w r b v s : List ℕ) → a ++ (w ++ r) ≡ b ++ (v ++ s) → IsBlankText a → IsBlankText b
    → 0 < length w → 0 < length v → IsSolid w → IsSolid v → EndsWord r → EndsWord s → (w ≡ v) × (r ≡ s)
words_same [] w r [] v s e blank other some any solid firm ends end = solids_same w r v s e solid firm ends end
words_same [] [] r (y ∷ b) v s e blank other some any solid firm ends end = absurd (omega arith)
words_same [] (x ∷ w) r (y ∷ b) v s e blank other some any solid firm ends end =
    let same : x ≡ y = cc in
    let first : is_blank x ≡ false = solid 0 0 (omega arith) in
    let second : is_blank y ≡ true = other 0 0 (omega arith) in
    absurd (cc (first, second, same))
words_same (x ∷ a) w r [] [] s e blank other some any solid firm ends end = absurd (omega arith)
words_same (x ∷ a) w r [] (y ∷ v) s e blank other some any solid firm ends end =
    let same : x ≡ y = cc in
    let first : is_blank x ≡ true = blank 0 0 (omega arith) in
    let second : is_blank y ≡ false = firm 0 0 (omega arith) in
    absurd (cc (first, second, same))
words_same (x ∷ a) w r (y ∷ b) v s e blank other some any solid firm ends end =
    let more : a ++ (w ++ r) ≡ b ++ (v ++ s) = cc in
    words_same a w r b v s more (tail_of (λ byte. is_blank byte ≡ true) x a blank)
    (tail_of (λ byte. is_blank byte ≡ true) y b other) some any solid firm ends end

-- a text has one first word
pub first_word_same : (text w r v s : List ℕ) → IsFirstWord text w r → IsFirstWord text v s → (w ≡ v) × (r ≡ s)
first_word_same text w r v s f g =
    let e : f.blanks ++ (w ++ r) ≡ g.blanks ++ (v ++ s) =
    sym (append_assoc f.blanks w r) ∙ (sym f.spelled ∙ (g.spelled ∙ append_assoc g.blanks v s)) in
    words_same f.blanks w r g.blanks v s e f.blank g.blank f.some g.some f.solid g.solid f.ends g.ends

blank_word : (b w r : List ℕ) → IsBlankText (b ++ (w ++ r)) → 0 < length w → IsSolid w → ⊥
blank_word [] [] r h some solid = absurd (omega arith)
blank_word [] (x ∷ w) r h some solid =
    let first : is_blank x ≡ true = h 0 0 (omega arith) in
    let second : is_blank x ≡ false = solid 0 0 (omega arith) in
    absurd (cc (first, second))
blank_word (x ∷ b) w r h some solid =
    blank_word b w r (tail_of (λ byte. is_blank byte ≡ true) x (b ++ (w ++ r)) h) some solid

-- a blank text has no word
pub no_first_word : (text w r : List ℕ) → IsBlankText text → IsFirstWord text w r → ⊥
no_first_word text w r h f =
    blank_word f.blanks w r (subst (λ (t : List ℕ). IsBlankText t) (f.spelled ∙ append_assoc f.blanks w r) h) f.some f.solid

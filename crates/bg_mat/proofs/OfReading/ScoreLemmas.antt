-- What a text ends with, and begins with.
use Rattle.std.specs.Prelude.{◌≡◌, ◌↔◌, ℕ, zero, suc, ◌+◌, ◌-◌, ◌<◌, ◌≤◌, Bool, true, false, List, [], ◌∷◌, ◌++◌, length, IsTrue, take, drop, get_or, Option, Some, None, MatchOption, codes}
use Rattle.std.specs.Borrow.{Bor}
use Rattle.std.specs.Fmt.{decimal}
use Rattle.std.proofs.Common.{add-one, append_assoc, refl, sym, ◌∙◌, ap, subst, arith}
use Rattle.std.proofs.lemmas.Fmt.{decimal_nonempty}
use Rattle.std.proofs.lemmas.List.{append_cancel_left, append_cancel_right}
use Rattle.bg_mat.specs.Rows.Words.{is_blank, BeginsSolid, EndsSolid, EndsWord, IsBlankText}
use Rattle.bg_mat.specs.Rows.Headings.{BeginsWithScore, EndsWithScore, HasScore}
use Rattle.bg_mat.proofs.OfReading.WordLemmas.{tail_of}
use Rattle.bg_mat.proofs.OfWriting.PlainTexts.{IsPlain, blank_at, decimal_plain, no_blanks}

-- a text up to a byte that is no blank
pub take_solid : (text : List ℕ) (i : ℕ) → i < length text → is_blank (get_or text i 0) ≡ false → EndsSolid (take (i + 1) text)
take_solid text i l h = rw (add-one i) (up_to text i l h) where
  up_to : (text : List ℕ) (i : ℕ) → i < length text → is_blank (get_or text i 0) ≡ false → EndsSolid (take (suc i) text)
  up_to [] i l h = absurd (omega arith)
  up_to (x ∷ text) zero l h = h
  up_to (x ∷ []) (suc i) l h = absurd (omega arith)
  up_to (x ∷ y ∷ text) (suc i) l h = up_to (y ∷ text) i (omega arith) h

pub ends_at : (text : List ℕ) (e : ℕ) (r : Bool) → 0 < e → e ≤ length text → r ≡ is_blank (get_or text (e - 1) 0) → r ≡ false
    → EndsSolid (take e text)
ends_at text e r some within is none =
    let same : (e - 1) + 1 ≡ e = omega arith in
    subst (λ (n : ℕ). EndsSolid (take n text)) same (take_solid text (e - 1) (omega arith) (sym is ∙ none))

-- one byte more at the front of blanks
pub blank_more : (text : List ℕ) (i : ℕ) → i < length text → is_blank (get_or text i 0) ≡ true → IsBlankText (drop (i + 1) text)
    → IsBlankText (drop i text)
blank_more text i l h more = at text i l h (subst (λ (k : ℕ). IsBlankText (drop k text)) (add-one i) more) where
  at : (text : List ℕ) (i : ℕ) → i < length text → is_blank (get_or text i 0) ≡ true → IsBlankText (drop (suc i) text) → IsBlankText (drop i text)
  at [] i l h more = absurd (omega arith)
  at (x ∷ text) zero l h more = blank_at x text h more
  at (x ∷ text) (suc i) l h more = at text i (omega arith) h more

pub none_blank : (text : List ℕ) → IsBlankText (drop (length text) text)
none_blank [] = no_blanks
none_blank (x ∷ text) = none_blank text

solid_both : (a b : List ℕ) → 0 < length b → EndsSolid b → EndsSolid (a ++ b)
solid_both [] b some h = h
solid_both (x ∷ []) [] some h = absurd (omega arith)
solid_both (x ∷ []) (y ∷ b) some h = h
solid_both (x ∷ z ∷ a) b some h = solid_both (z ∷ a) b some h

solid_more : (x : ℕ) (a : List ℕ) → EndsSolid (x ∷ a) → EndsSolid a
solid_more x [] h = tt
solid_more x (y ∷ a) h = h

never_blank : (x : ℕ) (a : List ℕ) → EndsSolid (x ∷ a) → IsBlankText (x ∷ a) → ⊥
never_blank x [] h blank = let first : is_blank x ≡ true = blank 0 0 (omega arith) in absurd (cc (first, h))
never_blank x (y ∷ a) h blank = never_blank y a h (tail_of (λ byte. is_blank byte ≡ true) x (y ∷ a) blank)

blank_left : (a b : List ℕ) → IsBlankText (a ++ b) → IsBlankText a
blank_left [] b h = λ k d l. absurd (omega arith)
blank_left (x ∷ a) b h = at_first x a (h 0 0 (omega arith)) (blank_left a b (tail_of (λ byte. is_blank byte ≡ true) x (a ++ b) h)) where
  at_first : (x : ℕ) (a : List ℕ) → is_blank x ≡ true → IsBlankText a → IsBlankText (x ∷ a)
  at_first x a h more zero d l = h
  at_first x a h more (suc k) d l = more k d (omega arith)

-- a text is cut in one way into what ends with no blank and blanks
pub ends_same : (x a y b : List ℕ) → x ++ a ≡ y ++ b → IsBlankText a → IsBlankText b → EndsSolid x → EndsSolid y → x ≡ y
ends_same [] a [] b e blank other h k = refl
ends_same [] a (y ∷ ys) b e blank other h k =
    absurd (never_blank y ys k (blank_left (y ∷ ys) b (subst (λ (t : List ℕ). IsBlankText t) e blank)))
ends_same (x ∷ xs) a [] b e blank other h k =
    absurd (never_blank x xs h (blank_left (x ∷ xs) a (subst (λ (t : List ℕ). IsBlankText t) (sym e) other)))
ends_same (x ∷ xs) a (y ∷ ys) b e blank other h k =
    let first : x ≡ y = cc in
    let more : xs ++ a ≡ ys ++ b = cc in
    let rest = ends_same xs a ys b more blank other (solid_more x xs h) (solid_more y ys k) in
    cc (first, rest)

-- and into blanks and what begins with none
begins_same : (a x b y : List ℕ) → a ++ x ≡ b ++ y → IsBlankText a → IsBlankText b → BeginsSolid x → BeginsSolid y → x ≡ y
begins_same [] x [] y e blank other h k = e
begins_same [] [] (z ∷ b) y e blank other h k = absurd (cc (e))
begins_same [] (w ∷ x) (z ∷ b) y e blank other h k =
    let same : w ≡ z = cc in
    let first : is_blank z ≡ true = other 0 0 (omega arith) in
    absurd (cc (same, first, h))
begins_same (w ∷ a) x [] [] e blank other h k = absurd (cc (e))
begins_same (w ∷ a) x [] (z ∷ y) e blank other h k =
    let same : w ≡ z = cc in
    let first : is_blank w ≡ true = blank 0 0 (omega arith) in
    absurd (cc (same, first, k))
begins_same (w ∷ a) x (z ∷ b) y e blank other h k =
    let more : a ++ x ≡ b ++ y = cc in
    begins_same a x b y more (tail_of (λ byte. is_blank byte ≡ true) w a blank)
    (tail_of (λ byte. is_blank byte ≡ true) z b other) h k

plain_ends : (a : List ℕ) → IsPlain a → EndsSolid a
plain_ends [] h = tt
plain_ends (x ∷ []) h = h.0.0
plain_ends (x ∷ y ∷ a) h = plain_ends (y ∷ a) h.1

plain_begins : (a b : List ℕ) → 0 < length a → IsPlain a → BeginsSolid (a ++ b)
plain_begins [] b some h = absurd (omega arith)
plain_begins (x ∷ a) b some h = h.0.0

score_some : (score : ℕ) → score < 65536 → 0 < length (decimal score)
score_some score small = decimal_nonempty score (omega arith)

score_plain : (score : ℕ) → score < 65536 → IsPlain (decimal score)
score_plain score small = decimal_plain score (omega arith)

-- a score behind blanks
pub begins_score : (r : Bool) (text gap behind rest digits : List ℕ) (score : ℕ) → score < 65536 → IsBlankText gap
    → text ≡ gap ++ behind → BeginsSolid behind → behind ≡ digits ++ rest → digits ≡ decimal score → IsTrue r ↔ EndsWord rest
    → IsTrue r ↔ BeginsWithScore text score
begins_score r text gap behind rest digits score small b e solid f g h = (
  λ is. record {
    gap = gap;
    rest = rest;
    spelled = rw append_assoc
        (e ∙ ap (λ (t : List ℕ). gap ++ t) (f ∙ ap (λ (d : List ℕ). d ++ rest) g));
    blank = b;
    apart = h.0 is;
  },
  λ begins. h.1 (subst (λ (t : List ℕ). EndsWord t)
      (sym (append_cancel_left digits rest begins.rest
      (sym f ∙ (behind_same text gap behind score small b e solid begins
      ∙ ap (λ (d : List ℕ). d ++ begins.rest) (sym g))))) begins.apart),
) where
  behind_same : (text gap behind : List ℕ) (score : ℕ) → score < 65536 → IsBlankText gap → text ≡ gap ++ behind → BeginsSolid behind
      → (begins : BeginsWithScore text score) → behind ≡ decimal score ++ begins.rest
  behind_same text gap behind score small b e solid begins =
      begins_same gap behind begins.gap (decimal score ++ begins.rest)
      (sym e ∙ (begins.spelled ∙ append_assoc begins.gap (decimal score) begins.rest)) b begins.blank solid
      (plain_begins (decimal score) begins.rest (score_some score small) (score_plain score small))

-- no score behind blanks
pub no_score : (text gap behind digits : List ℕ) (score : ℕ) → score < 65536 → IsBlankText gap → text ≡ gap ++ behind
    → BeginsSolid behind → digits ≡ decimal score → ((rest : List ℕ) → behind ≡ digits ++ rest → ⊥)
    → BeginsWithScore text score → ⊥
no_score text gap behind digits score small b e solid g none begins =
    none begins.rest
    (begins_same gap behind begins.gap (decimal score ++ begins.rest)
    (sym e ∙ (begins.spelled ∙ append_assoc begins.gap (decimal score) begins.rest)) b begins.blank solid
    (plain_begins (decimal score) begins.rest (score_some score small) (score_plain score small))
    ∙ ap (λ (d : List ℕ). d ++ begins.rest) (sym g))

-- a score further behind
pub has_more : (rest after : List ℕ) (first score : ℕ) → rest ≡ first ∷ after → HasScore after score → HasScore rest score
has_more rest after first score e h = record {
  before = first ∷ h.before;
  after = h.after;
  spelled = e ∙ ap (λ (t : List ℕ). first ∷ t) h.spelled;
  scored = h.scored;
}

-- a score behind a colon
pub has_first : (rest after : List ℕ) (first score : ℕ) → rest ≡ first ∷ after → first ≡ 58
    → BeginsWithScore after score → HasScore rest score
has_first rest after first score e colon h = record {
  before = [];
  after = after;
  spelled = e ∙ ap (λ (x : ℕ). x ∷ after) colon;
  scored = h;
}

-- no score here, but further behind
pub has_less : (rest after : List ℕ) (first score : ℕ) → rest ≡ first ∷ after
    → (first ≡ 58 → BeginsWithScore after score → ⊥) → HasScore rest score → HasScore after score
has_less rest after first score e none h = at rest after first score e none h.before h.after h.spelled h.scored where
  at : (rest after : List ℕ) (first score : ℕ) → rest ≡ first ∷ after → (first ≡ 58 → BeginsWithScore after score → ⊥)
      → (before behind : List ℕ) → rest ≡ before ++ codes ":" ++ behind → BeginsWithScore behind score → HasScore after score
  at rest after first score e none [] behind spelled scored =
      let both : first ∷ after ≡ 58 ∷ behind = sym e ∙ spelled in
      let colon : first ≡ 58 = cc in
      let same : behind ≡ after = cc in
      absurd (none colon (subst (λ (t : List ℕ). BeginsWithScore t score) same scored))
  at rest after first score e none (b ∷ before) behind spelled scored =
      let both : first ∷ after ≡ b ∷ (before ++ codes ":" ++ behind) = sym e ∙ spelled in
      let same : after ≡ before ++ codes ":" ++ behind = cc in
      record { before = before; after = behind; spelled = same; scored = scored }

pub has_none : (rest : List ℕ) (score : ℕ) → rest ≡ [] → HasScore rest score → ⊥
has_none rest score e h = at h.before h.after (sym e ∙ h.spelled) where
  at : (before behind : List ℕ) → [] ≡ before ++ codes ":" ++ behind → ⊥
  at [] behind e = absurd (cc (e))
  at (b ∷ before) behind e = absurd (cc (e))

-- what stands before a score and its colon at the end of a text, blanks left out
pub front_of_score : (text scored scored_end front named named_end f : List ℕ) (score : ℕ) → score < 65536
    → text ≡ scored ++ scored_end → IsBlankText scored_end → EndsSolid scored
    → EndsWithScore text score f → (scored ≡ front ++ decimal score → front ≡ named ++ named_end → IsBlankText named_end → EndsSolid named
    → named ≡ f ++ codes ":") × ((g : List ℕ) × (scored ≡ g ++ decimal score))
front_of_score text scored scored_end front named named_end f score small e blank solid h =
    let all : scored ≡ (f ++ codes ":" ++ h.gap) ++ decimal score =
    ends_same scored scored_end ((f ++ codes ":" ++ h.gap) ++ decimal score) h.end
    (sym e ∙ (h.spelled ∙ simp append_assoc)) blank h.end_blank solid
    (solid_both (f ++ codes ":" ++ h.gap) (decimal score) (score_some score small) (plain_ends (decimal score) (score_plain score small))) in (
      λ is cut end_blank ends.
          let fronts : front ≡ f ++ codes ":" ++ h.gap =
          append_cancel_right front (f ++ codes ":" ++ h.gap) (decimal score) (sym is ∙ all) in
          ends_same named named_end (f ++ codes ":") h.gap (sym cut ∙ (fronts ∙ simp append_assoc)) end_blank h.gap_blank ends
          (solid_both f (codes ":") (omega arith) refl),
      (f ++ codes ":" ++ h.gap, all),
    )

-- the front before the colon of a score
pub before_colon : (r : Option (Bor (List ℕ))) (text scored scored_end front named named_end : List ℕ) (score : ℕ) → score < 65536
    → text ≡ scored ++ scored_end → IsBlankText scored_end → EndsSolid scored → scored ≡ front ++ decimal score
    → front ≡ named ++ named_end → IsBlankText named_end → EndsSolid named
    → MatchOption r ((f : List ℕ) → named ≡ f ++ codes ":" → ⊥) (λ f. named ≡ f.now ++ codes ":")
    → MatchOption r ((f : List ℕ) → EndsWithScore text score f → ⊥)
    (λ f. EndsWithScore text score f.now × ((other : List ℕ) → EndsWithScore text score other → other ≡ f.now))
before_colon None text scored scored_end front named named_end score small e blank solid is cut end_blank ends none =
    λ f h. none f ((front_of_score text scored scored_end front named named_end f score small e blank solid h).0 is cut end_blank ends)
before_colon (Some f) text scored scored_end front named named_end score small e blank solid is cut end_blank ends found = (
  record {
    gap = named_end;
    end = scored_end;
    spelled = e ∙ (ap (λ (t : List ℕ). t ++ scored_end) (is ∙ ap (λ (t : List ℕ). t ++ decimal score)
        (cut ∙ ap (λ (t : List ℕ). t ++ named_end) found)) ∙ simp append_assoc);
    gap_blank = end_blank;
    end_blank = blank;
  },
  λ other h.
      let same = (front_of_score text scored scored_end front named named_end other score small e blank solid h).0 is cut end_blank ends in
      append_cancel_right other f.now (codes ":") (sym same ∙ found),
)

-- Pairs, and the steps that they write.
use Rattle.std.specs.Prelude.{◌≡◌, ◌≢◌, ◌==◌, ◌⊎◌, ℕ, ◌+◌, ◌/◌, ◌%◌, ◌<◌, ◌≤◌, List, [], ◌∷◌, ◌++◌, length, slice_index, Result, Ok, Err, IsTrue, codes}
use Rattle.std.specs.Fmt.{decimal}
use Rattle.std.specs.List.{slice_split, All}
use Rattle.std.specs.Str.{all_ascii_digits}
use Rattle.std.proofs.Common.{refl, sym, subst, ◌∙◌, ap, append_assoc, arith, inl, inr, rules, tests, true, false}
use Rattle.std.proofs.lemmas.Bool.{cases_lt, cases_eq, ne_eqb}
use Rattle.std.proofs.lemmas.Fmt.{decimal_digit, decimal_injective}
use Rattle.std.proofs.lemmas.List.Elements.{All-cons, All-nil}
use Rattle.bg_board.specs.FromTo.{FromTo}
use Rattle.bg_turns.specs.Turn.{IsDownward}
use Rattle.bg_text.specs.Entries.EntryText.{source_text, target_text, step_text}
use Rattle.bg_text.specs.Entries.EntryShape.{IsNumeral, IsPairShape}
use Rattle.bg_text.specs.Entries.Pairs.{both_of, IsNumberOf, IsPointOf, IsSourceShape, IsSource, IsSourceOf, IsTargetShape, IsTarget, IsTargetOf, IsPairOf}
use Rattle.bg_text.specs.declared.faults.TextFault.{TextFault}
use Rattle.bg_text.specs.declared.faults.TextFault.TheVariants.{NotALine, BadNumber, TooManySteps}
use Rattle.bg_text.proofs.Spelling.Splits.{two_pieces, pieces_joined, same_first, same_second}
use Rattle.bg_text.proofs.Spelling.Numbers.{two_digits, numeral_one, numeral_two}
use Rattle.bg_text.proofs.Spelling.TwoWords.{BothSay, both_say}

-- a number below 100 is written as a numeral
pub numeral_decimal : (n : ℕ) → n < 100 → IsNumeral (decimal n)
numeral_decimal n below = elim (cases_lt n 10) [
  | inl few ↦ rw decimal_digit (numeral_one (48 + n) (omega arith) (omega arith))
  | inr many ↦ rw two_digits (numeral_two (48 + n / 10) (48 + n % 10) (omega arith) (omega arith) (omega arith) (omega arith))
]

digits_from : (a : ℕ) (more : List ℕ) → IsTrue (all_ascii_digits (a ∷ more)) → 48 ≤ a
digits_from a more h = search (rules, tests)

digits_rest : (a : ℕ) (more : List ℕ) → IsTrue (all_ascii_digits (a ∷ more)) → IsTrue (all_ascii_digits more)
digits_rest a more h = search (rules, tests)

digits_lack : (c : ℕ) (word : List ℕ) → c < 48 → IsTrue (all_ascii_digits word) → All (λ b. b ≢ c) word
digits_lack c [] low h = All-nil (λ b. b ≢ c)
digits_lack c (a ∷ more) low h =
    let from : 48 ≤ a = digits_from a more h in
    All-cons (λ b. b ≢ c) a more (omega arith) (digits_lack c more low (digits_rest a more h))

-- a numeral has no byte below the digits, such as a space or a hyphen
pub numeral_lacks : (c : ℕ) (word : List ℕ) → c < 48 → IsNumeral word → All (λ b. b ≢ c) word
numeral_lacks c word low h = digits_lack c word low h.digits

three_lack : (c a b d : ℕ) → a ≢ c → b ≢ c → d ≢ c → All (λ x. x ≢ c) (a ∷ b ∷ d ∷ [])
three_lack c a b d h i j =
    let P : ℕ → Type 0 = λ x. x ≢ c in
    All-cons P a (b ∷ d ∷ []) h (All-cons P b (d ∷ []) i (All-cons P d [] j (All-nil P)))

pub source_lacks : (c : ℕ) (word : List ℕ) → c < 48 → (word ≡ codes "bar") ⊎ IsNumeral word → All (λ b. b ≢ c) word
source_lacks c word low (inl e) = rw e (three_lack c 98 97 114 (omega arith) (omega arith) (omega arith))
source_lacks c word low (inr h) = numeral_lacks c word low h

pub target_lacks : (c : ℕ) (word : List ℕ) → c < 48 → (word ≡ codes "off") ⊎ IsNumeral word → All (λ b. b ≢ c) word
target_lacks c word low (inl e) = rw e (three_lack c 111 102 102 (omega arith) (omega arith) (omega arith))
target_lacks c word low (inr h) = numeral_lacks c word low h

pub source_shape : (n : ℕ) → n ≤ 25 → (source_text n ≡ codes "bar") ⊎ IsNumeral (source_text n)
source_shape n few = elim (cases_eq n 25) [
  | inl e ↦ rw e (inl refl)
  | inr other ↦ rw (ne_eqb n 25 other) (inr (numeral_decimal n (omega arith)))
]

pub target_shape : (n : ℕ) → n ≤ 24 → (target_text n ≡ codes "off") ⊎ IsNumeral (target_text n)
target_shape n few = elim (cases_eq n 0) [
  | inl e ↦ rw e (inl refl)
  | inr other ↦ rw (ne_eqb n 0 other) (inr (numeral_decimal n (omega arith)))
]

-- no number is written with three letters
numeral_short : (a b d : ℕ) (n : ℕ) → n < 100 → a ∷ b ∷ d ∷ [] ≡ decimal n → ⊥
numeral_short a b d n below e = omega (arith, (numeral_decimal n below).two, ap length e)

-- a word of three letters, known by its bytes
pub three_bytes : (word : List ℕ) (a b d : ℕ) → length word ≡ 3 → slice_index word 0 ≡ a → slice_index word 1 ≡ b → slice_index word 2 ≡ d → word ≡ a ∷ b ∷ d ∷ []
three_bytes [] a b d n h i j = absurd (omega arith)
three_bytes (x ∷ []) a b d n h i j = absurd (omega arith)
three_bytes (x ∷ y ∷ []) a b d n h i j = absurd (omega arith)
three_bytes (x ∷ y ∷ z ∷ []) a b d n h i j = cc
three_bytes (x ∷ y ∷ z ∷ u ∷ more) a b d n h i j = absurd (omega arith)

-- a number above 24 is no point
pub no_such_point : (word : List ℕ) (number : ℕ) → 25 ≤ number → IsNumberOf word (Ok number) → IsPointOf word (Err BadNumber)
no_such_point word number high h = (
  rw h.1 (numeral_decimal number h.0.1),
  λ n range e.
      let same : number ≡ n = decimal_injective number n (omega (arith, h.0.1)) (omega (arith, range.1)) (sym h.1 ∙ e) in
      absurd (omega (arith, same, high, range.1)),
)

-- a pair is cut at its hyphen
pub cut_pair : (word : List ℕ) (p : IsPairShape word) → slice_split (λ byte. byte == 45) word ≡ p.source ∷ p.target ∷ []
cut_pair word p = two_pieces 45 word p.source p.target (source_lacks 45 p.source (omega arith) p.starts) (target_lacks 45 p.target (omega arith) p.ends) (p.hyphened ∙ append_assoc p.source (codes "-") p.target)

pub no_halves : (word : List ℕ) → ((first second : List ℕ) → slice_split (λ byte. byte == 45) word ≡ first ∷ second ∷ [] → ⊥) → IsPairShape word → ⊥
no_halves word h p = h p.source p.target (cut_pair word p)

-- the text of a step has a pair's shape
abbrev pub step_shape : (step : FromTo) → IsDownward step → IsPairShape (step_text step)
step_shape step h = record {
  source = source_text step.from;
  target = target_text step.to;
  hyphened = refl;
  starts = source_shape step.from h.starts;
  ends = target_shape step.to (omega (arith, h.starts, h.lower));
}

pub same_source : (m n : ℕ) → m ≤ 25 → n ≤ 25 → source_text m ≡ source_text n → m ≡ n
same_source m n a b e = elim (cases_eq m 25) [
  | inl is ↦ elim (cases_eq n 25) [
    | inl too ↦ omega arith
    | inr other ↦
        let f : source_text n ≡ decimal n = rw (ne_eqb n 25 other) refl in
        let g : codes "bar" ≡ source_text m = rw is refl in
        absurd (numeral_short 98 97 114 n (omega arith) (g ∙ (e ∙ f)))
  ]
  | inr other ↦
      let f : source_text m ≡ decimal m = rw (ne_eqb m 25 other) refl in
      elim (cases_eq n 25) [
        | inl is ↦
            let g : source_text n ≡ codes "bar" = rw is refl in
            absurd (numeral_short 98 97 114 m (omega arith) (sym g ∙ (sym e ∙ f)))
        | inr else' ↦
            let g : source_text n ≡ decimal n = rw (ne_eqb n 25 else') refl in
            decimal_injective m n (omega arith) (omega arith) (sym f ∙ (e ∙ g))
      ]
]

pub same_target : (m n : ℕ) → m ≤ 24 → n ≤ 24 → target_text m ≡ target_text n → m ≡ n
same_target m n a b e = elim (cases_eq m 0) [
  | inl is ↦ elim (cases_eq n 0) [
    | inl too ↦ omega arith
    | inr other ↦
        let f : target_text n ≡ decimal n = rw (ne_eqb n 0 other) refl in
        let g : codes "off" ≡ target_text m = rw is refl in
        absurd (numeral_short 111 102 102 n (omega arith) (g ∙ (e ∙ f)))
  ]
  | inr other ↦
      let f : target_text m ≡ decimal m = rw (ne_eqb m 0 other) refl in
      elim (cases_eq n 0) [
        | inl is ↦
            let g : target_text n ≡ codes "off" = rw is refl in
            absurd (numeral_short 111 102 102 m (omega arith) (sym g ∙ (sym e ∙ f)))
        | inr else' ↦
            let g : target_text n ≡ decimal n = rw (ne_eqb n 0 else') refl in
            decimal_injective m n (omega arith) (omega arith) (sym f ∙ (e ∙ g))
      ]
]

step_by_ends : (s t : FromTo) → s.from ≡ t.from → s.to ≡ t.to → s ≡ t
step_by_ends s t e f =
    let step : ℕ → ℕ → FromTo = λ from to. record { from = from; to = to } in
    ap (λ from. step from s.to) e ∙ ap (step t.from) f

-- one pair is the text of one step
pub same_step : (s t : FromTo) → IsDownward s → IsDownward t → step_text s ≡ step_text t → s ≡ t
same_step s t h k e =
    let cut : source_text s.from ∷ target_text s.to ∷ [] ≡ source_text t.from ∷ target_text t.to ∷ [] =
    sym (cut_pair (step_text s) (step_shape s h)) ∙ (ap (slice_split (λ byte. byte == 45)) e ∙ cut_pair (step_text t) (step_shape t k)) in
    let a : s.to < s.from = h.lower in
    let b : t.to < t.from = k.lower in
    let c : s.from ≤ 25 = h.starts in
    let d : t.from ≤ 25 = k.starts in
    step_by_ends s t
    (same_source s.from t.from c d (same_first _ _ _ _ cut))
    (same_target s.to t.to (omega arith) (omega arith) (same_second _ _ _ _ cut))

-- what the two ends of a pair say
abbrev pub EndsSay : List ℕ → List ℕ → Result (ℕ × ℕ) TextFault → Type 0
EndsSay first second result =
    BothSay IsSourceShape IsTargetShape IsSource IsTarget source_text target_text first second result

pub ends_say : (first second : List ℕ) (a b : Result ℕ TextFault) → IsSourceOf first a → IsTargetOf second b → EndsSay first second (both_of a b)
ends_say first second a b h k = both_say IsSourceShape IsTargetShape IsSource IsTarget source_text target_text
    (λ n range. source_shape n range.1) target_shape first second a b h k

joined : (word first second : List ℕ) → slice_split (λ byte. byte == 45) word ≡ first ∷ second ∷ [] → word ≡ first ++ codes "-" ++ second
joined word first second e =
    pieces_joined 45 word (first ∷ second ∷ []) e ∙ sym (append_assoc first (codes "-") second)

shape_of_cut : (word first second : List ℕ) → slice_split (λ byte. byte == 45) word ≡ first ∷ second ∷ [] → IsSourceShape first → IsTargetShape second → IsPairShape word
shape_of_cut word first second e starts ends =
    record { source = first; target = second; hyphened = joined word first second e; starts = starts; ends = ends }

-- a word cut at its hyphen has the ends of the step whose text it is
ends_of_text : (word first second : List ℕ) (step : FromTo) → slice_split (λ byte. byte == 45) word ≡ first ∷ second ∷ [] → IsDownward step → word ≡ step_text step → (first ≡ source_text step.from) × (second ≡ target_text step.to)
ends_of_text word first second step e down text =
    let cut : slice_split (λ byte. byte == 45) word ≡ source_text step.from ∷ target_text step.to ∷ [] = rw text (cut_pair (step_text step) (step_shape step down)) in
    (same_first _ _ _ _ (sym e ∙ cut), same_second _ _ _ _ (sym e ∙ cut))

-- a pair whose ends say no step is none
pub pair_fault : (word first second : List ℕ) (a b : Result ℕ TextFault) (fault : TextFault) → slice_split (λ byte. byte == 45) word ≡ first ∷ second ∷ [] → IsSourceOf first a → IsTargetOf second b → Err fault ≡ both_of a b → IsPairOf word (Err fault)
pair_fault word first second a b fault e from to is = of fault (subst (λ r. EndsSay first second r) (sym is) (ends_say first second a b from to))
  where
    of : (fault : TextFault) → EndsSay first second (Err fault) → IsPairOf word (Err fault)
    of NotALine h = λ p.
        let cut : p.source ∷ p.target ∷ [] ≡ first ∷ second ∷ [] = sym (cut_pair word p) ∙ e in
        let start : p.source ≡ first = same_first _ _ _ _ cut in
        let end : p.target ≡ second = same_second _ _ _ _ cut in
        h (rw start at p.starts) (rw end at p.ends)
    of BadNumber h = (
      shape_of_cut word first second e h.0 h.1,
      λ step down text.
          let ends = ends_of_text word first second step e down text in
          let low : step.to < step.from = down.lower in
          let high : step.from ≤ 25 = down.starts in
          h.2 step.from step.to (omega arith, high) (omega arith) ends.0 ends.1,
    )
    of TooManySteps h = absurd h

pub step_of_ends : (word first second : List ℕ) (a b : Result ℕ TextFault) (from to : ℕ) (step : FromTo) → slice_split (λ byte. byte == 45) word ≡ first ∷ second ∷ [] → IsSourceOf first a → IsTargetOf second b → Ok (from, to) ≡ both_of a b → (from ≤ 25) × (to < from) → step ≡ record { from = from; to = to } → IsPairOf word (Ok step)
step_of_ends word first second a b from to step e source target is range value =
    let h : EndsSay first second (Ok (from, to)) = subst (λ r. EndsSay first second r) (sym is) (ends_say first second a b source target) in
    rw value (record { starts = range.0; lower = range.1 }, rw (joined word first second e, h.2, h.3) refl)

pub no_step : (word first second : List ℕ) (a b : Result ℕ TextFault) (from to : ℕ) → slice_split (λ byte. byte == 45) word ≡ first ∷ second ∷ [] → IsSourceOf first a → IsTargetOf second b → Ok (from, to) ≡ both_of a b → ((from ≤ 25) × (to < from) → false ≡ true) → IsPairOf word (Err BadNumber)
no_step word first second a b from to e source target is none =
    let h : EndsSay first second (Ok (from, to)) = subst (λ r. EndsSay first second r) (sym is) (ends_say first second a b source target) in (
      shape_of_cut word first second e (rw h.2 (source_shape from h.0.1)) (rw h.3 (target_shape to h.1)),
      λ step down text.
          let ends = ends_of_text word first second step e down text in
          let low : step.to < step.from = down.lower in
          let high : step.from ≤ 25 = down.starts in
          let f : from ≡ step.from = same_source from step.from h.0.1 high (sym h.2 ∙ ends.0) in
          let t : to ≡ step.to = same_target to step.to h.1 (omega arith) (sym h.3 ∙ ends.1) in
          let no : false ≡ true = none (omega arith, omega arith) in
          absurd cc,
    )

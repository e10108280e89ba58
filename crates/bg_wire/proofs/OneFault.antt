-- Bytes that are no text have one fault, by the layout alone.
use Rattle.std.proofs.Common.{◌≡◌, ◌≢◌, ℕ, ◌<◌, ◌≤◌, ◌⊎◌, List, [], ◌∷◌, ◌++◌, length, refl, sym, ap, subst, ◌∙◌, append_assoc, arith, inl, inr}
use Rattle.std.proofs.lemmas.Bool.{cases_lt}
use Rattle.std.proofs.lemmas.List.{append-nil, length-append, nil_from_length}
use Rattle.bg_wire.specs.Texts.{HasMore, ArePrefixFree, GoesOn, IsCut, IsWrongAt}

-- of one list in two parts, what the longer front has more
cut_at : (a b c d : List ℕ) → a ++ b ≡ c ++ d → length a ≤ length c → (mid : List ℕ) × (c ≡ a ++ mid) × (b ≡ mid ++ d)
cut_at [] b c d e le = (c, refl, e)
cut_at (x ∷ a) b [] d e le = absurd (omega (arith, le))
cut_at (x ∷ a) b (y ∷ c) d e le =
    let head : x ≡ y = cc in
    let tail : a ++ b ≡ c ++ d = cc in
    let r = cut_at a b c d tail (omega (arith, le)) in
    (r.0, ap (λ (l : List ℕ). y ∷ l) r.1 ∙ ap (λ (z : ℕ). z ∷ (a ++ r.0)) (sym head), r.2)

some_of : (bytes : List ℕ) → 0 < length bytes → bytes ≢ []
some_of bytes lt e = let n = ap length e in omega (arith, n, lt)

none_of : (a b : List ℕ) → a ++ b ≡ [] → b ≡ []
none_of a b e = nil_from_length b (let n = ap length e in let l = length-append a b in omega (arith, n, l))

module _ {A : Type 0} (IsTextOf : A → List ℕ → Type 0) (width : List ℕ → ℕ) (free : ArePrefixFree IsTextOf)
    (inside : (before mid : List ℕ) → 0 < length mid → length mid < width before → width (before ++ mid) ≡ 0)
    (whole : (x : A) (before rest : List ℕ) → IsTextOf x (before ++ rest) → 0 < length rest → width before ≤ length rest) where
  -- a wrong field has a byte
  wrong_some : (bytes : List ℕ) (at : ℕ) (h : IsWrongAt IsTextOf width bytes at) → length h.wrong ≡ 0 → ⊥
  wrong_some bytes at h none =
      let g = h.goes_on in
      let same : h.before ++ h.wrong ≡ h.before = ap (λ (w : List ℕ). h.before ++ w) (nil_from_length h.wrong none) ∙ append-nil h.before in
      h.breaks (g.0, g.1, subst (λ (b : List ℕ). IsTextOf g.0 (b ++ g.1)) (sym same) g.2)

  -- bytes that hold the wrong field go on to no text
  overlap : (bytes : List ℕ) (at : ℕ) (h : IsWrongAt IsTextOf width bytes at) (x : A) (mid behind rest : List ℕ) → h.wrong ++ h.behind ≡ mid ++ behind
      → length h.wrong ≤ length mid → IsTextOf x ((h.before ++ mid) ++ rest) → ⊥
  overlap bytes at h x mid behind rest e le text =
      let c = cut_at h.wrong h.behind mid behind e le in
      let all : (h.before ++ mid) ++ rest ≡ (h.before ++ h.wrong) ++ (c.0 ++ rest) =
      ap (λ (m : List ℕ). (h.before ++ m) ++ rest) c.1 ∙ ap (λ (l : List ℕ). l ++ rest) (sym (append_assoc h.before h.wrong c.0)) ∙ append_assoc (h.before ++ h.wrong) c.0 rest in
      h.breaks (x, c.0 ++ rest, subst (IsTextOf x) all text)

  -- a text does not go on
  no_more : (x : A) (text before mid : List ℕ) → IsTextOf x text → before ≡ text ++ mid → GoesOn IsTextOf before → ⊥
  no_more x text before mid h e g =
      let longer : IsTextOf g.0 (text ++ (mid ++ g.1)) = subst (IsTextOf g.0) (ap (λ (b : List ℕ). b ++ g.1) e ∙ append_assoc text mid g.1) g.2 in
      g.3 (none_of mid g.1 (free x g.0 text (mid ++ g.1) h longer).0)

  not_before : (bytes : List ℕ) (a b : ℕ) → IsWrongAt IsTextOf width bytes a → IsWrongAt IsTextOf width bytes b → a < b → ⊥
  not_before bytes a b p q lt =
      let at_p = p.offset in let at_q = q.offset in
      let c = cut_at p.before (p.wrong ++ p.behind) q.before (q.wrong ++ q.behind) (sym p.split ∙ q.split) (omega (arith, at_p, at_q, lt)) in
      let len = ap length c.1 in let sum = length-append p.before c.0 in
      elim (cases_lt (length c.0) (length p.wrong)) [
        | inl few ↦
            let is = p.whole in
            let none = inside p.before c.0 (omega (arith, at_p, at_q, lt, len, sum)) (omega (arith, is, few)) in
            wrong_some bytes b q (q.whole ∙ ap width c.1 ∙ none)
        | inr many ↦ let g = q.goes_on in overlap bytes a p g.0 c.0 (q.wrong ++ q.behind) g.1 c.2 many (subst (λ (l : List ℕ). IsTextOf g.0 (l ++ g.1)) c.1 g.2)
      ]

  pub one_offset : (bytes : List ℕ) (a b : ℕ) → IsWrongAt IsTextOf width bytes a → IsWrongAt IsTextOf width bytes b → a ≡ b
  one_offset bytes a b p q = elim (cases_lt a b) [
    | inl lt ↦ absurd (not_before bytes a b p q lt)
    | inr le ↦ elim (cases_lt b a) [ inl lt ↦ absurd (not_before bytes b a q p lt) | inr ge ↦ omega (arith, le, ge) ]
  ]

  pub wrong_or_cut : (bytes : List ℕ) (at : ℕ) → IsWrongAt IsTextOf width bytes at → IsCut IsTextOf width bytes → ⊥
  wrong_or_cut bytes at p q = elim (cases_lt (length q.before) (length p.before)) [
    | inl lt ↦
        let c = cut_at q.before q.part p.before (p.wrong ++ p.behind) (sym q.split ∙ p.split) (omega (arith, lt)) in
        let len = ap length c.1 in let sum = length-append q.before c.0 in
        let part = ap length c.2 in let parts = length-append c.0 (p.wrong ++ p.behind) in let few = q.missing in
        let none = inside q.before c.0 (omega (arith, lt, len, sum)) (omega (arith, part, parts, few)) in
        wrong_some bytes at p (p.whole ∙ ap width c.1 ∙ none)
    | inr le ↦
        let c = cut_at p.before (p.wrong ++ p.behind) q.before q.part (sym p.split ∙ q.split) le in
        let len = ap length c.2 in let sum = length-append c.0 q.part in let both = length-append p.wrong p.behind in
        let few = q.missing in let is = p.whole in
        elim (cases_lt (length c.0) (length p.wrong)) [
          | inl lt ↦ elim (cases_lt 0 (length c.0)) [
            | inl some ↦ let none = ap width c.1 ∙ inside p.before c.0 some (omega (arith, lt, is)) in omega (arith, none, few)
            | inr nothing ↦
                let same : q.before ≡ p.before = c.1 ∙ ap (λ (m : List ℕ). p.before ++ m) (nil_from_length c.0 (omega (arith, nothing))) ∙ append-nil p.before in
                let wide = ap width same in
                omega (arith, wide, few, is, len, sum, both, nothing)
          ]
          | inr many ↦ let g = q.goes_on in overlap bytes at p g.0 c.0 q.part g.1 c.2 many (subst (λ (l : List ℕ). IsTextOf g.0 (l ++ g.1)) c.1 g.2)
        ]
  ]

  pub wrong_or_more : (bytes : List ℕ) (at : ℕ) → IsWrongAt IsTextOf width bytes at → HasMore IsTextOf bytes → ⊥
  wrong_or_more bytes at p m = elim (cases_lt (length p.before) (length m.1)) [
    | inl lt ↦
        let c = cut_at p.before (p.wrong ++ p.behind) m.1 m.2 (sym p.split ∙ m.5) (omega (arith, lt)) in
        let len = ap length c.1 in let sum = length-append p.before c.0 in
        let text = subst (IsTextOf m.0) c.1 m.3 in
        let wide = whole m.0 p.before c.0 text (omega (arith, lt, len, sum)) in let is = p.whole in
        overlap bytes at p m.0 c.0 m.2 [] c.2 (omega (arith, wide, is)) (subst (IsTextOf m.0) (sym (append-nil (p.before ++ c.0))) text)
    | inr le ↦
        let c = cut_at m.1 m.2 p.before (p.wrong ++ p.behind) (sym m.5 ∙ p.split) le in
        no_more m.0 m.1 p.before c.0 m.3 c.1 p.goes_on
  ]

  pub cut_or_more : (bytes : List ℕ) → IsCut IsTextOf width bytes → HasMore IsTextOf bytes → ⊥
  cut_or_more bytes p m = elim (cases_lt (length p.before) (length m.1)) [
    | inl lt ↦
        let c = cut_at p.before p.part m.1 m.2 (sym p.split ∙ m.5) (omega (arith, lt)) in
        let len = ap length c.1 in let sum = length-append p.before c.0 in
        let text = subst (IsTextOf m.0) c.1 m.3 in
        let wide = whole m.0 p.before c.0 text (omega (arith, lt, len, sum)) in
        let part = ap length c.2 in let parts = length-append c.0 m.2 in let few = p.missing in
        omega (arith, wide, part, parts, few)
    | inr le ↦
        let c = cut_at m.1 m.2 p.before p.part (sym m.5 ∙ p.split) le in
        no_more m.0 m.1 p.before c.0 m.3 c.1 p.goes_on
  ]

  -- ---- and a text has none

  pub text_or_wrong : (x : A) (bytes : List ℕ) (at : ℕ) → IsTextOf x bytes → IsWrongAt IsTextOf width bytes at → ⊥
  text_or_wrong x bytes at h p = p.breaks (x, p.behind, subst (IsTextOf x) (p.split ∙ sym (append_assoc p.before p.wrong p.behind)) h)

  pub text_or_cut : (x : A) (bytes : List ℕ) → IsTextOf x bytes → IsCut IsTextOf width bytes → ⊥
  text_or_cut x bytes h p = elim (cases_lt 0 (length p.part)) [
    | inl some ↦ let wide = whole x p.before p.part (subst (IsTextOf x) p.split h) some in let few = p.missing in omega (arith, wide, few)
    | inr none ↦
        let all : bytes ≡ p.before = p.split ∙ ap (λ (r : List ℕ). p.before ++ r) (nil_from_length p.part (omega (arith, none))) ∙ append-nil p.before in
        no_more x bytes p.before [] h (sym all ∙ sym (append-nil bytes)) p.goes_on
  ]

  pub text_or_more : (x : A) (bytes : List ℕ) → IsTextOf x bytes → HasMore IsTextOf bytes → ⊥
  text_or_more x bytes h m = m.4 (free m.0 x m.1 m.2 m.3 (subst (IsTextOf x) m.5 h)).0

  -- ---- so bytes have one fault, and a text has none

  module _ {E : Type 0} (short extra : E) (field : ℕ → E) where
    -- which of the three it is, and the fault's name
    abbrev pub Sorted : E → List ℕ → Type 0
    Sorted f bytes = (IsCut IsTextOf width bytes × (f ≡ short)) ⊎ (((n : ℕ) × IsWrongAt IsTextOf width bytes n × (f ≡ field n)) ⊎ (HasMore IsTextOf bytes × (f ≡ extra)))

    pub same_fault : (bytes : List ℕ) (f g : E) → Sorted f bytes → Sorted g bytes → f ≡ g
    same_fault bytes f g (inl h) (inl k) = h.1 ∙ sym k.1
    same_fault bytes f g (inl h) (inr (inl k)) = absurd (wrong_or_cut bytes k.0 k.1 h.0)
    same_fault bytes f g (inl h) (inr (inr k)) = absurd (cut_or_more bytes h.0 k.0)
    same_fault bytes f g (inr (inl h)) (inl k) = absurd (wrong_or_cut bytes h.0 h.1 k.0)
    same_fault bytes f g (inr (inl h)) (inr (inl k)) = h.2 ∙ ap field (one_offset bytes h.0 k.0 h.1 k.1) ∙ sym k.2
    same_fault bytes f g (inr (inl h)) (inr (inr k)) = absurd (wrong_or_more bytes h.0 h.1 k.0)
    same_fault bytes f g (inr (inr h)) (inl k) = absurd (cut_or_more bytes k.0 h.0)
    same_fault bytes f g (inr (inr h)) (inr (inl k)) = absurd (wrong_or_more bytes k.0 k.1 h.0)
    same_fault bytes f g (inr (inr h)) (inr (inr k)) = h.1 ∙ sym k.1

    pub no_fault : (x : A) (bytes : List ℕ) (f : E) → IsTextOf x bytes → Sorted f bytes → ⊥
    no_fault x bytes f text (inl h) = text_or_cut x bytes text h.0
    no_fault x bytes f text (inr (inl h)) = text_or_wrong x bytes h.0 text h.1
    no_fault x bytes f text (inr (inr h)) = text_or_more x bytes text h.0

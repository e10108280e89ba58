-- A reader reads just its texts, more bytes change nothing but a fault Short, a fault Short comes
-- after the front of a text, and a fault Field names where bytes stop being one. Readers in a row
-- do so too.
use Rattle.std.proofs.Common.{◌≡◌, ◌≢◌, ℕ, zero, suc, ◌+◌, ◌<◌, ◌⊎◌, inl, inr, Bool, true, false, cond, List, [], ◌∷◌, ◌++◌, length, get_or, Result, Ok, Err, refl, sym, ap, subst, ◌∙◌, append_assoc, arith}
use Rattle.std.specs.Prelude.{◌==◌, IfErr}
use Rattle.std.proofs.lemmas.Bool.{eqb-true}
use Rattle.std.proofs.lemmas.Bool.Decides.{nat_tests}
use Rattle.std.proofs.lemmas.List.{append-nil, length-append, nil_from_length}
use Rattle.bg_wire.specs.declared.entries.reader.ReadFault.{ReadFault}
use Rattle.bg_wire.specs.declared.entries.reader.ReadFault.TheVariants.{Short, Field}
use Rattle.bg_wire.specs.Entries.Reading.{◌>>=◌, Cursor, Read, many_at, whole_of, with}
use Rattle.bg_wire.specs.Texts.{HasMore, ArePrefixFree, IsCut, IsWrongAt, GoesOn}

-- two texts in a row, each said in another way
pub join : {front first second a b : List ℕ} → front ≡ first ++ second → first ≡ a → second ≡ b → front ≡ a ++ b
join {front} {first} {second} {a} {b} e p q = e ∙ ap (λ (r : List ℕ). r ++ second) p ∙ ap (λ (r : List ℕ). a ++ r) q

abbrev pub IsBytes : List ℕ → Type 0
IsBytes bytes = (i : ℕ) → get_or bytes i 0 < 256

pub IsBytes-rest : (front rest : List ℕ) → IsBytes (front ++ rest) → IsBytes rest
IsBytes-rest [] rest h = h
IsBytes-rest (b ∷ front) rest h = IsBytes-rest front rest (λ i. h (suc i))

abbrev pub longer : List ℕ → Cursor → Cursor
longer more c = record { at = c.at; rest = c.rest ++ more }

-- what reading with more bytes behind gives
abbrev pub Grows : {A : Type 0} → List ℕ → Read A → Read A → Type 0
Grows more (Ok x) wide = wide ≡ Ok (x.0, longer more x.1)
Grows more (Err Short) wide = Unit {0}
Grows more (Err (Field n)) wide = wide ≡ Err (Field n)

-- there is a text
abbrev pub HasText : {A : Type 0} → (A → List ℕ → Type 0) → Type 0
HasText {A} Text = (x : A) × (front : List ℕ) × Text x front

abbrev pub cursor : ℕ → List ℕ → Cursor
cursor at rest = record { at = at; rest = rest }

-- which field begins behind some bytes of a text, by its width: each is a byte
abbrev pub OneByte : List ℕ → ℕ → Type 0
OneByte before w = w ≡ 1

-- the only field
abbrev pub Single : ℕ → List ℕ → ℕ → Type 0
Single size before w = (before ≡ []) × (w ≡ size)

-- the field of this offset is wrong: what stands before it begins a text, and what stands behind it
-- does not matter
pub record FailsAt {A : Type 0} (F : List ℕ → ℕ → Type 0) (read : Cursor → Read A) (Text : A → List ℕ → Type 0) (c : Cursor) (n : ℕ) : Type 0 where
  pub before : List ℕ
  pub wrong : List ℕ
  pub behind : List ℕ
  pub split : c.rest ≡ before ++ (wrong ++ behind)
  pub offset : n ≡ c.at + length before
  pub whole : F before (length wrong)
  pub begins : GoesOn Text before
  pub already : read (cursor c.at (before ++ wrong)) ≡ Err (Field n)

-- the bytes end within a field, or before one
pub record CutAt {A : Type 0} (F : List ℕ → ℕ → Type 0) (Text : A → List ℕ → Type 0) (bytes : List ℕ) : Type 0 where
  pub before : List ℕ
  pub part : List ℕ
  pub width : ℕ
  pub split : bytes ≡ before ++ part
  pub small : length part < width
  pub whole : F before width
  pub begins : GoesOn Text before

pub record Law {A : Type 0} (F : List ℕ → ℕ → Type 0) (read : Cursor → Read A) (Text : A → List ℕ → Type 0) : Type 0 where
  pub takes : (c : Cursor) (x : A) (d : Cursor) → IsBytes c.rest → read c ≡ Ok (x, d) → (front : List ℕ) × Text x front × (c.rest ≡ front ++ d.rest) × (d.at ≡ c.at + length front)
  pub again : (c : Cursor) (x : A) (front rest : List ℕ) → Text x front → c.rest ≡ front ++ rest → (d : Cursor) × (d.rest ≡ rest) × (read c ≡ Ok (x, d)) × (d.at ≡ c.at + length front)
  pub grows : (c : Cursor) (more : List ℕ) → Grows more (read c) (read (longer more c))
  pub fails : (c : Cursor) (n : ℕ) → HasText Text → IsBytes c.rest → read c ≡ Err (Field n) → FailsAt F read Text c n
  pub cuts : (c : Cursor) → HasText Text → IsBytes c.rest → read c ≡ Err Short → CutAt F Text c.rest

-- bytes with some in front are some
pub some_first : (a b : List ℕ) → a ≢ [] → (a ++ b) ≢ []
some_first [] b h e = h refl
some_first (x ∷ a) b h e = absurd (cc e)

-- the value of a step that did not fail
pub bind_ok : {A B : Type 0} (r : Result A ReadFault) (f : A → Result B ReadFault) (y : B) → (r >>= f) ≡ Ok y → (x : A) × (r ≡ Ok x) × (f x ≡ Ok y)
bind_ok (Ok x) f y e = (x, refl, e)
bind_ok (Err d) f y e = absurd cc

-- the fault of one of two steps
pub bind_err : {A B : Type 0} (r : Result A ReadFault) (f : A → Result B ReadFault) (g : ReadFault) → (r >>= f) ≡ Err g → (r ≡ Err g) ⊎ ((x : A) × (r ≡ Ok x) × (f x ≡ Err g))
bind_err (Ok x) f g e = inr (x, refl, e)
bind_err {A} (Err d) f g e = let same : d ≡ g = cc in inl (ap (λ (h : ReadFault). let r : Result A ReadFault = Err h in r) same)

pub cursor_is : (c : Cursor) (at : ℕ) (rest : List ℕ) → c.at ≡ at → c.rest ≡ rest → c ≡ cursor at rest
cursor_is c at rest p q = ap (λ (i : ℕ). cursor i c.rest) p ∙ ap (λ (r : List ℕ). cursor at r) q

pub ok_is : {A E : Type 0} (x y : A) → (let r : Result A E = Ok x in r) ≡ Ok y → x ≡ y
ok_is x y e = cc

Grows-bind : {A B : Type 0} (more : List ℕ) (r wide : Read A) (f : A × Cursor → Read B) → Grows more r wide → ((x : A) (d : Cursor) → Grows more (f (x, d)) (f (x, longer more d))) → Grows more (r >>= f) (wide >>= f)
Grows-bind more (Ok p) wide f h k = rw h (k p.0 p.1)
Grows-bind more (Err Short) wide f h k = tt
Grows-bind more (Err (Field n)) wide f h k = rw h refl

-- one text, and then another
abbrev pub Then : {A B : Type 0} → (A → List ℕ → Type 0) → (A → B → List ℕ → Type 0) → B → List ℕ → Type 0
Then {A} T U y front = (x : A) × (first : List ℕ) × (second : List ℕ) × T x first × U x y second × (front ≡ first ++ second)

pub has_then : {A B : Type 0} {T : A → List ℕ → Type 0} {U : A → B → List ℕ → Type 0} → HasText T → ((x : A) (first : List ℕ) → T x first → HasText (U x)) → HasText (Then T U)
has_then first second =
    let u = second first.0 first.1 first.2 in
    (u.0, first.1 ++ u.1, (first.0, first.1, u.1, first.2, u.2, refl))

module _ {A B : Type 0} {T : A → List ℕ → Type 0} {U : A → B → List ℕ → Type 0} {F1 : List ℕ → ℕ → Type 0} {F2 : A → List ℕ → ℕ → Type 0} (F : List ℕ → ℕ → Type 0) (one : Cursor → Read A) (two : A → Cursor → Read B)
    (p : Law F1 one T) (q : (x : A) → Law (F2 x) (two x) (U x)) (more : (x : A) (first : List ℕ) → T x first → HasText (U x))
    (in_first : (before : List ℕ) (w : ℕ) → F1 before w → F before w) (in_second : (x : A) (first : List ℕ) → T x first → (before : List ℕ) (w : ℕ) → F2 x before w → F (first ++ before) w) where
  abbrev both : Cursor → Read B
  both c = one c >>= λ x. two x.0 x.1

  first_fails : (c : Cursor) (n : ℕ) → HasText (Then T U) → IsBytes c.rest → one c ≡ Err (Field n) → FailsAt F both (Then T U) c n
  first_fails c n some fits e =
      let t = some.2 in
      let h = p.fails c n (t.0, t.1, t.3) fits e in
      let b = h.begins in
      let u = more b.0 (h.before ++ b.1) b.2 in
      record {
        before = h.before;
        wrong = h.wrong;
        behind = h.behind;
        split = h.split;
        offset = h.offset;
        whole = in_first h.before (length h.wrong) h.whole;
        begins = (u.0, b.1 ++ u.1, (b.0, h.before ++ b.1, u.1, b.2, u.2, sym (append_assoc h.before b.1 u.1)), some_first b.1 u.1 b.3);
        already = rw h.already refl;
      }

  second_fails : (c : Cursor) (n : ℕ) (x : A) (d : Cursor) → IsBytes c.rest → one c ≡ Ok (x, d) → two x d ≡ Err (Field n) → FailsAt F both (Then T U) c n
  second_fails c n x d fits was e =
      let s = p.takes c x d fits was in
      let h = (q x).fails d n (more x s.0 s.1) (IsBytes-rest s.0 d.rest (subst IsBytes s.2 fits)) e in
      let a = p.again (cursor c.at ((s.0 ++ h.before) ++ h.wrong)) x s.0 (h.before ++ h.wrong) s.1 (append_assoc s.0 h.before h.wrong) in
      let same : a.0 ≡ cursor d.at (h.before ++ h.wrong) = cursor_is a.0 d.at (h.before ++ h.wrong) (a.3 ∙ sym s.3) a.1 in
      record {
        before = s.0 ++ h.before;
        wrong = h.wrong;
        behind = h.behind;
        split = s.2 ∙ ap (λ (r : List ℕ). s.0 ++ r) h.split ∙ sym (append_assoc s.0 h.before (h.wrong ++ h.behind));
        offset = omega (arith, h.offset, s.3, length-append s.0 h.before);
        whole = in_second x s.0 s.1 h.before (length h.wrong) h.whole;
        begins = (h.begins.0, h.begins.1, (x, s.0, h.before ++ h.begins.1, s.1, h.begins.2, append_assoc s.0 h.before h.begins.1), h.begins.3);
        already = rw (a.2, same) h.already;
      }

  first_cuts : (c : Cursor) → HasText (Then T U) → IsBytes c.rest → one c ≡ Err Short → CutAt F (Then T U) c.rest
  first_cuts c some fits e =
      let t = some.2 in
      let h = p.cuts c (t.0, t.1, t.3) fits e in
      let b = h.begins in
      let u = more b.0 (h.before ++ b.1) b.2 in
      record {
        before = h.before;
        part = h.part;
        split = h.split;
        width = h.width;
        small = h.small;
        whole = in_first h.before h.width h.whole;
        begins = (u.0, b.1 ++ u.1, (b.0, h.before ++ b.1, u.1, b.2, u.2, sym (append_assoc h.before b.1 u.1)), some_first b.1 u.1 b.3);
      }

  second_cuts : (c : Cursor) (x : A) (d : Cursor) → IsBytes c.rest → one c ≡ Ok (x, d) → two x d ≡ Err Short → CutAt F (Then T U) c.rest
  second_cuts c x d fits was e =
      let s = p.takes c x d fits was in
      let h = (q x).cuts d (more x s.0 s.1) (IsBytes-rest s.0 d.rest (subst IsBytes s.2 fits)) e in
      record {
        before = s.0 ++ h.before;
        part = h.part;
        split = s.2 ∙ ap (λ (r : List ℕ). s.0 ++ r) h.split ∙ sym (append_assoc s.0 h.before h.part);
        width = h.width;
        small = h.small;
        whole = in_second x s.0 s.1 h.before h.width h.whole;
        begins = (h.begins.0, h.begins.1, (x, s.0, h.before ++ h.begins.1, s.1, h.begins.2, append_assoc s.0 h.before h.begins.1), h.begins.3);
      }

pub then_of : {A B : Type 0} {T : A → List ℕ → Type 0} {U : A → B → List ℕ → Type 0} {F1 : List ℕ → ℕ → Type 0} {F2 : A → List ℕ → ℕ → Type 0} (F : List ℕ → ℕ → Type 0) (one : Cursor → Read A) (two : A → Cursor → Read B)
    → Law F1 one T → ((x : A) → Law (F2 x) (two x) (U x)) → ((x : A) (first : List ℕ) → T x first → HasText (U x))
    → ((before : List ℕ) (w : ℕ) → F1 before w → F before w) → ((x : A) (first : List ℕ) → T x first → (before : List ℕ) (w : ℕ) → F2 x before w → F (first ++ before) w)
    → Law F (λ c. one c >>= λ x. two x.0 x.1) (Then T U)
then_of {A} {B} {T} {U} F one two p q more in_first in_second = record {
  takes = λ c y d fits e.
      let a = bind_ok (one c) (λ x. two x.0 x.1) (y, d) e in
      let s = p.takes c a.0.0 a.0.1 fits a.1 in
      let t = (q a.0.0).takes a.0.1 y d (IsBytes-rest s.0 (a.0.1).rest (subst IsBytes s.2 fits)) a.2 in
      (s.0 ++ t.0, (a.0.0, s.0, t.0, s.1, t.1, refl), s.2 ∙ ap (λ (r : List ℕ). s.0 ++ r) t.2 ∙ sym (append_assoc s.0 t.0 d.rest), omega (arith, s.3, t.3, length-append s.0 t.0));
  again = λ c y front rest text e.
      let s = p.again c text.0 text.1 (text.2 ++ rest) text.3 (e ∙ ap (λ (r : List ℕ). r ++ rest) text.5 ∙ append_assoc text.1 text.2 rest) in
      let t = (q text.0).again s.0 y text.2 rest text.4 s.1 in
      (t.0, t.1, rw s.2 t.2, omega (arith, s.3, t.3, ap length text.5, length-append text.1 text.2));
  grows = λ c more. Grows-bind more (one c) (one (longer more c)) (λ x. two x.0 x.1) (p.grows c more) (λ x d. (q x).grows d more);
  fails = λ c n some fits e. elim (bind_err (one c) (λ x. two x.0 x.1) (Field n) e) [
    | inl h ↦ first_fails F one two p q more in_first in_second c n some fits h
    | inr h ↦ second_fails F one two p q more in_first in_second c n h.0.0 h.0.1 fits h.1 h.2
  ];
  cuts = λ c some fits e. elim (bind_err (one c) (λ x. two x.0 x.1) Short e) [
    | inl h ↦ first_cuts F one two p q more in_first in_second c some fits h
    | inr h ↦ second_cuts F one two p q more in_first in_second c h.0.0 h.0.1 fits h.1 h.2
  ];
}

-- where each field is a byte
pub then_law : {A B : Type 0} {T : A → List ℕ → Type 0} {U : A → B → List ℕ → Type 0} (one : Cursor → Read A) (two : A → Cursor → Read B)
    → Law OneByte one T → ((x : A) → Law OneByte (two x) (U x)) → ((x : A) (first : List ℕ) → T x first → HasText (U x)) → Law OneByte (λ c. one c >>= λ x. two x.0 x.1) (Then T U)
then_law one two p q more = then_of OneByte one two p q more (λ before w h. h) (λ x first t before w h. h)

-- the fields said in another way
pub other_fields : {A : Type 0} {T : A → List ℕ → Type 0} {F G : List ℕ → ℕ → Type 0} (read : Cursor → Read A) → ((before : List ℕ) (w : ℕ) → F before w → G before w) → Law F read T → Law G read T
other_fields read to law = record {
  takes = law.takes;
  again = law.again;
  grows = law.grows;
  fails = λ c n some fits e.
      let h = law.fails c n some fits e in
      record {
        before = h.before;
        wrong = h.wrong;
        behind = h.behind;
        split = h.split;
        offset = h.offset;
        whole = to h.before (length h.wrong) h.whole;
        begins = h.begins;
        already = h.already;
      };
  cuts = λ c some fits e.
      let h = law.cuts c some fits e in
      record { before = h.before; part = h.part; width = h.width; split = h.split; small = h.small; whole = to h.before h.width h.whole; begins = h.begins };
}

-- and with what stands before the field a text begins, and is not at its end
abbrev pub Begun : {A : Type 0} → (List ℕ → ℕ → Type 0) → (A → List ℕ → Type 0) → List ℕ → ℕ → Type 0
Begun F T before w = F before w × GoesOn T before

pub begun_fields : {A : Type 0} {T : A → List ℕ → Type 0} {F : List ℕ → ℕ → Type 0} (read : Cursor → Read A) → Law F read T → Law (Begun F T) read T
begun_fields read law = record {
  takes = law.takes;
  again = law.again;
  grows = law.grows;
  fails = λ c n some fits e.
      let h = law.fails c n some fits e in
      record {
        before = h.before;
        wrong = h.wrong;
        behind = h.behind;
        split = h.split;
        offset = h.offset;
        whole = (h.whole, h.begins);
        begins = h.begins;
        already = h.already;
      };
  cuts = λ c some fits e.
      let h = law.cuts c some fits e in
      record { before = h.before; part = h.part; width = h.width; split = h.split; small = h.small; whole = (h.whole, h.begins); begins = h.begins };
}

-- nothing is read, and the value is this
abbrev pub Nothing : {A : Type 0} → A → A → List ℕ → Type 0
Nothing x y front = (x ≡ y) × (front ≡ [])

pub done_of : {A : Type 0} (F : List ℕ → ℕ → Type 0) (x : A) → Law F (λ c. Ok (x, c)) (Nothing x)
done_of {A} F x = record {
  takes = λ c y d fits e. let same = ok_is (x, c) (y, d) e in ([], (ap (λ (p : A × Cursor). p.0) same, refl), ap (λ (p : A × Cursor). (p.1).rest) same, omega (arith, ap (λ (p : A × Cursor). (p.1).at) same));
  again = λ c y front rest text e. (c, e ∙ ap (λ (r : List ℕ). r ++ rest) text.1, ap (λ (z : A). Ok (z, c)) text.0, omega (arith, ap length text.1));
  grows = λ c more. refl;
  fails = λ c n some fits e. absurd (cc e);
  cuts = λ c some fits e. absurd (cc e);
}

pub done_law : {A : Type 0} (x : A) → Law OneByte (λ c. Ok (x, c)) (Nothing x)
done_law x = done_of OneByte x

-- the value is read as another
abbrev pub Mapped : {A B : Type 0} → (A → B) → (A → List ℕ → Type 0) → B → List ℕ → Type 0
Mapped {A} f T y front = (x : A) × T x front × (f x ≡ y)

pub has_mapped : {A B : Type 0} {T : A → List ℕ → Type 0} (f : A → B) → HasText T → HasText (Mapped f T)
has_mapped f some = (f some.0, some.1, (some.0, some.2, refl))

with_fails : {A B : Type 0} {T : A → List ℕ → Type 0} {F : List ℕ → ℕ → Type 0} (f : A → B) (read : Cursor → Read A) → Law F read T → (c : Cursor) (n : ℕ) → HasText (Mapped f T) → IsBytes c.rest → read c ≡ Err (Field n) → FailsAt F (λ c. with f (read c)) (Mapped f T) c n
with_fails f read law c n some fits e =
    let t = some.2 in
    let h = law.fails c n (t.0, some.1, t.1) fits e in
    record {
      before = h.before;
      wrong = h.wrong;
      behind = h.behind;
      split = h.split;
      offset = h.offset;
      whole = h.whole;
      begins = (f h.begins.0, h.begins.1, (h.begins.0, h.begins.2, refl), h.begins.3);
      already = rw h.already refl;
    }

with_cuts : {A B : Type 0} {T : A → List ℕ → Type 0} {F : List ℕ → ℕ → Type 0} (f : A → B) (read : Cursor → Read A) → Law F read T → (c : Cursor) → HasText (Mapped f T) → IsBytes c.rest → read c ≡ Err Short → CutAt F (Mapped f T) c.rest
with_cuts f read law c some fits e =
    let t = some.2 in
    let h = law.cuts c (t.0, some.1, t.1) fits e in
    record {
      before = h.before;
      part = h.part;
      split = h.split;
      width = h.width;
      small = h.small;
      whole = h.whole;
      begins = (f h.begins.0, h.begins.1, (h.begins.0, h.begins.2, refl), h.begins.3);
    }

pub with_law : {A B : Type 0} {T : A → List ℕ → Type 0} {F : List ℕ → ℕ → Type 0} (f : A → B) (read : Cursor → Read A) → Law F read T → Law F (λ c. with f (read c)) (Mapped f T)
with_law {A} {B} {T} f read law = record {
  takes = λ c y d fits e.
      let a = bind_ok (read c) (λ x. Ok (f x.0, x.1)) (y, d) e in
      let same = ok_is (f a.0.0, a.0.1) (y, d) a.2 in
      let s = law.takes c a.0.0 a.0.1 fits a.1 in
      (s.0, (a.0.0, s.1, ap (λ (p : B × Cursor). p.0) same), s.2 ∙ ap (λ (p : B × Cursor). s.0 ++ (p.1).rest) same, sym (ap (λ (p : B × Cursor). (p.1).at) same) ∙ s.3);
  again = λ c y front rest text e.
      let s = law.again c text.0 front rest text.1 e in
      (s.0, s.1, rw s.2 (ap (λ (z : B). Ok (z, s.0)) text.2), s.3);
  grows = λ c more. Grows-bind more (read c) (read (longer more c)) (λ x. Ok (f x.0, x.1)) (law.grows c more) (λ x d. refl);
  fails = λ c n some fits e. elim (bind_err (read c) (λ x. Ok (f x.0, x.1)) (Field n) e) [
    | inl h ↦ with_fails f read law c n some fits h
    | inr h ↦ absurd (cc (h.2))
  ];
  cuts = λ c some fits e. elim (bind_err (read c) (λ x. Ok (f x.0, x.1)) Short e) [
    | inl h ↦ with_cuts f read law c some fits h
    | inr h ↦ absurd (cc (h.2))
  ];
}

-- the same reader, with its texts said in another way
pub other_text : {A : Type 0} {T U : A → List ℕ → Type 0} {F : List ℕ → ℕ → Type 0} (read : Cursor → Read A) → ((x : A) (front : List ℕ) → T x front → U x front) → ((x : A) (front : List ℕ) → U x front → T x front) → Law F read T → Law F read U
other_text read to from law = record {
  takes = λ c x d fits e. let s = law.takes c x d fits e in (s.0, to x s.0 s.1, s.2, s.3);
  again = λ c x front rest text e. law.again c x front rest (from x front text) e;
  grows = law.grows;
  fails = λ c n some fits e.
      let h = law.fails c n (some.0, some.1, from some.0 some.1 some.2) fits e in
      record {
        before = h.before;
        wrong = h.wrong;
        behind = h.behind;
        split = h.split;
        offset = h.offset;
        whole = h.whole;
        begins = (h.begins.0, h.begins.1, to h.begins.0 (h.before ++ h.begins.1) h.begins.2, h.begins.3);
        already = h.already;
      };
  cuts = λ c some fits e.
      let h = law.cuts c (some.0, some.1, from some.0 some.1 some.2) fits e in
      record {
        before = h.before;
        part = h.part;
        split = h.split;
        width = h.width;
        small = h.small;
        whole = h.whole;
        begins = (h.begins.0, h.begins.1, to h.begins.0 (h.before ++ h.begins.1) h.begins.2, h.begins.3);
      };
}

-- what comes after a choice
abbrev pub Choice : {A : Type 0} → Bool → (A → List ℕ → Type 0) → (A → List ℕ → Type 0) → A → List ℕ → Type 0
Choice true T U x front = T x front
Choice false T U x front = U x front

pub has_choice : {A : Type 0} {T U : A → List ℕ → Type 0} (b : Bool) → HasText T → HasText U → HasText (Choice b T U)
has_choice true some other = some
has_choice false some other = other

pub choice_law : {A : Type 0} {T U : A → List ℕ → Type 0} {F : List ℕ → ℕ → Type 0} (b : Bool) (one two : Cursor → Read A) → Law F one T → Law F two U → Law F (λ c. cond b (one c) (two c)) (Choice b T U)
choice_law true one two p q = record { takes = p.takes; again = p.again; grows = p.grows; fails = p.fails; cuts = p.cuts }
choice_law false one two p q = record { takes = q.takes; again = q.again; grows = q.grows; fails = q.fails; cuts = q.cuts }

-- ---- many in a row

abbrev pub Each : {A : Type 0} → (A → List ℕ → Type 0) → ℕ → List A → List ℕ → Type 0
Each T zero [] front = front ≡ []
Each T zero (x ∷ xs) front = ⊥
Each T (suc n) [] front = ⊥
Each T (suc n) (x ∷ xs) front = (first : List ℕ) × (others : List ℕ) × T x first × Each T n xs others × (front ≡ first ++ others)

-- the same one so many times
pub has_each : {A : Type 0} {T : A → List ℕ → Type 0} → HasText T → (n : ℕ) → HasText (Each T n)
has_each some zero = ([], [], refl)
has_each some (suc n) =
    let others = has_each some n in
    (some.0 ∷ others.0, some.1 ++ others.1, (some.1, others.1, some.2, others.2, refl))

abbrev ManyText : {A : Type 0} → (A → List ℕ → Type 0) → ℕ → List A → List ℕ → Type 0
ManyText T n = Then T (λ x. Mapped (λ xs. x ∷ xs) (Each T n))

each_from : {A : Type 0} (T : A → List ℕ → Type 0) (n : ℕ) (ys : List A) (front : List ℕ) → ManyText T n ys front → Each T (suc n) ys front
each_from T n ys front h = subst (λ (zs : List _). Each T (suc n) zs front) h.4.2 (h.1, h.2, h.3, h.4.1, h.5)

each_to : {A : Type 0} (T : A → List ℕ → Type 0) (n : ℕ) (ys : List A) (front : List ℕ) → Each T (suc n) ys front → ManyText T n ys front
each_to T n [] front h = absurd h
each_to T n (y ∷ ys) front h = (y, h.0, h.1, h.2, (ys, h.3, refl), h.4)

pub many_law : {A : Type 0} {T : A → List ℕ → Type 0} (one : Cursor → Read A) → Law OneByte one T → (n : ℕ) → Law OneByte (many_at one n) (Each T n)
unfolding many_at
many_law {A} {T} one law zero = other_text (λ c. Ok ([], c)) none_to none_from (done_law [])
  where
    none_to : (xs : List A) (front : List ℕ) → Nothing [] xs front → Each T 0 xs front
    none_to [] front h = h.1
    none_to (x ∷ xs) front h = absurd (cc (h.0))

    none_from : (xs : List A) (front : List ℕ) → Each T 0 xs front → Nothing [] xs front
    none_from [] front h = (refl, h)
    none_from (x ∷ xs) front h = absurd h
many_law {A} {T} one law (suc n) =
    other_text _ (each_from T n) (each_to T n) (then_law one (λ x c. with (λ xs. x ∷ xs) (many_at one n c)) law (λ x. with_law (λ xs. x ∷ xs) (many_at one n) (many_law one law n))
    (λ x first t. has_mapped (λ xs. x ∷ xs) (has_each (x, first, t) n)))

-- ---- all of the bytes

abbrev pub from_front : List ℕ → Cursor
from_front bytes = record { at = 0; rest = bytes }

module _ {A : Type 0} {Text : A → List ℕ → Type 0} {F : List ℕ → ℕ → Type 0} (read : Cursor → Read A) (law : Law F read Text) where
  pub reads_text : (bytes : List ℕ) (x : A) → Text x bytes → (d : Cursor) × (d.rest ≡ []) × (read (from_front bytes) ≡ Ok (x, d))
  reads_text bytes x h = let a = law.again (from_front bytes) x bytes [] h (sym (append-nil bytes)) in (a.0, a.1, a.2)

  -- what a shorter reading gave, where a longer one came to the end
  cut_short : (more : List ℕ) (r wide : Read A) (x : A) (d : Cursor) → Grows more r wide → wide ≡ Ok (x, d) → d.rest ≡ [] → more ≢ [] → r ≡ Err Short
  cut_short [] r wide x d grows e ends some = absurd (some refl)
  cut_short (b ∷ more) (Ok y) wide x d grows e ends some =
      let same : (y.0, longer (b ∷ more) y.1) ≡ (x, d) = ok_is _ _ (sym grows ∙ e) in
      let rest : (y.1).rest ++ b ∷ more ≡ [] = ap (λ (z : A × Cursor). (z.1).rest) same ∙ ends in
      absurd (omega (arith, ap length rest, length-append (y.1).rest (b ∷ more)))
  cut_short (b ∷ more) (Err Short) wide x d grows e ends some = refl
  cut_short (b ∷ more) (Err (Field n)) wide x d grows e ends some = absurd (cc (grows, e))

  pub front_is_short : (bytes rest : List ℕ) (x : A) → Text x (bytes ++ rest) → rest ≢ [] → read (from_front bytes) ≡ Err Short
  front_is_short bytes rest x h some =
      let a = reads_text (bytes ++ rest) x h in
      cut_short rest (read (from_front bytes)) (read (from_front (bytes ++ rest))) x a.0 (law.grows (from_front bytes) rest) a.2 a.1 some

  -- where a field is wrong, no text goes on
  pub is_wrong_at : (width : List ℕ → ℕ) → ((before : List ℕ) (w : ℕ) → F before w → w ≡ width before) → (bytes : List ℕ) (n : ℕ) → HasText Text → IsBytes bytes → read (from_front bytes) ≡ Err (Field n) → IsWrongAt Text width bytes n
  is_wrong_at width by bytes n some fits e =
      let h = law.fails (from_front bytes) n some fits e in
      record {
        before = h.before;
        wrong = h.wrong;
        behind = h.behind;
        split = h.split;
        offset = omega (arith, h.offset);
        whole = by h.before (length h.wrong) h.whole;
        goes_on = h.begins;
        breaks = λ t. no_text (h.before ++ h.wrong) t.1 t.0 n h.already t.2;
      }
    where
      no_text : (front rest : List ℕ) (x : A) (n : ℕ) → read (from_front front) ≡ Err (Field n) → Text x (front ++ rest) → ⊥
      no_text front rest x n e text =
          let a = reads_text (front ++ rest) x text in
          let wide : read (from_front (front ++ rest)) ≡ Err (Field n) = subst (λ (r : Read A). Grows rest r (read (from_front (front ++ rest)))) e (law.grows (from_front front) rest) in
          absurd (cc (wide, a.2))

  -- where bytes are missing, the text goes on
  pub is_cut : (width : List ℕ → ℕ) → ((before : List ℕ) (w : ℕ) → F before w → w ≡ width before) → (bytes : List ℕ) → HasText Text → IsBytes bytes → read (from_front bytes) ≡ Err Short → IsCut Text width bytes
  is_cut width by bytes some fits e =
      let h = law.cuts (from_front bytes) some fits e in
      record { before = h.before; part = h.part; split = h.split; missing = omega (arith, h.small, by h.before h.width h.whole); goes_on = h.begins }

  pub nothing_behind : (x y : A) (text rest : List ℕ) → Text x text → Text y (text ++ rest) → rest ≡ []
  nothing_behind x y text [] h k = refl
  nothing_behind x y text (b ∷ rest) h k =
      let some : b ∷ rest ≢ [] = λ e. absurd (cc e) in
      let a = reads_text text x h in
      absurd (cc (a.2, front_is_short text (b ∷ rest) y k some))

  pub one_value : (x y : A) (text : List ℕ) → Text x text → Text y text → x ≡ y
  one_value x y text h k =
      let a = reads_text text x h in
      let b = reads_text text y k in
      let same : (x, a.0) ≡ (y, b.0) = ok_is _ _ (sym a.2 ∙ b.2) in
      ap (λ (z : A × Cursor). z.0) same

  -- a text that begins with a text is that text, of the same value
  pub prefix_free : ArePrefixFree Text
  prefix_free x y text rest h k =
      let none = nothing_behind x y text rest h k in
      (none, one_value x y text h (subst (Text y) (ap (λ (r : List ℕ). text ++ r) none ∙ append-nil text) k))

-- a value that was read whole, and one with more bytes behind
ended_ok : {A E : Type 0} (b : Bool) (x y : A) (extra : E) → cond b (Ok x) (Err extra) ≡ Ok y → (b ≡ true) × (x ≡ y)
ended_ok true x y extra e = (refl, cc)
ended_ok false x y extra e = absurd cc

ended_more : {A E : Type 0} (b : Bool) (x : A) (extra : E) → cond b (Ok x) (Err extra) ≡ Err extra → b ≡ false
ended_more true x extra e = absurd cc
ended_more false x extra e = refl

module _ {A E : Type 0} {Text : A → List ℕ → Type 0} {F : List ℕ → ℕ → Type 0} (read : Cursor → Read A) (law : Law F read Text) (fault_of : ReadFault → E) (extra : E) where
  abbrev whole : List ℕ → Result A E
  whole bytes = whole_of fault_of extra (read (from_front bytes))

  pub is_found : (bytes : List ℕ) (x : A) → IsBytes bytes → whole bytes ≡ Ok x → Text x bytes
  is_found bytes x fits e = go (read (from_front bytes)) refl e
    where
      go : (r : Read A) → read (from_front bytes) ≡ r → whole_of fault_of extra r ≡ Ok x → Text x bytes
      go (Err f) was e = absurd cc
      go (Ok y) was e =
          let g = ended_ok (length (y.1).rest == 0) y.0 x extra e in
          let t = law.takes (from_front bytes) y.0 y.1 fits was in
          let nothing : (y.1).rest ≡ [] = nil_from_length (y.1).rest (eqb-true _ _ g.0) in
          let all : bytes ≡ t.0 = t.2 ∙ ap (λ (r : List ℕ). t.0 ++ r) nothing ∙ append-nil t.0 in
          subst (λ (z : A). Text z bytes) g.1 (subst (Text y.0) (sym all) t.1)

  pub is_read : (bytes : List ℕ) (x : A) → Text x bytes → whole bytes ≡ Ok x
  is_read bytes x h =
      let a = reads_text read law bytes x h in
      rw (a.2, a.1) refl

  pub is_short : (bytes rest : List ℕ) (x : A) → Text x (bytes ++ rest) → rest ≢ [] → whole bytes ≡ Err (fault_of Short)
  is_short bytes rest x h some = rw (front_is_short read law bytes rest x h some) refl

  pub has_more : (bytes : List ℕ) → ((f : ReadFault) → fault_of f ≢ extra) → IsBytes bytes → whole bytes ≡ Err extra → HasMore Text bytes
  has_more bytes other fits e = go (read (from_front bytes)) refl e
    where
      go : (r : Read A) → read (from_front bytes) ≡ r → whole_of fault_of extra r ≡ Err extra → HasMore Text bytes
      go (Err f) was e = let same : fault_of f ≡ extra = cc in absurd (other f same)
      go (Ok y) was e =
          let t = law.takes (from_front bytes) y.0 y.1 fits was in
          let some : (length (y.1).rest == 0) ≡ false = ended_more (length (y.1).rest == 0) y.0 extra e in
          (y.0, t.0, (y.1).rest, t.1, λ none. absurd (cc (some, ap (λ (r : List ℕ). length r == 0) none)), t.2)

  pub is_extra : (bytes : List ℕ) → HasMore Text bytes → whole bytes ≡ Err extra
  is_extra bytes h =
      let a = law.again (from_front bytes) h.0 h.1 h.2 h.3 h.5 in
      rw (a.2, a.1) (not_empty h.2 h.4)
    where
      not_empty : (rest : List ℕ) → rest ≢ [] → cond (length rest == 0) (Ok h.0) (Err extra) ≡ Err extra
      not_empty [] some = absurd (some refl)
      not_empty (b ∷ rest) some = let t : (length (b ∷ rest) == 0) ≡ false = grind (arith, nat_tests) in rw t refl

  -- what the fault of a reading says of the bytes, and that bytes are left
  pub says_why : (bytes : List ℕ) (Why : E → Type 0) → ((f : ReadFault) → read (from_front bytes) ≡ Err f → Why (fault_of f)) → (IsBytes bytes → HasMore Text bytes → Why extra) → IsBytes bytes → IfErr (whole bytes) Why
  says_why bytes Why of_field left fits = go (read (from_front bytes)) refl
    where
      go : (r : Read A) → read (from_front bytes) ≡ r → IfErr (whole_of fault_of extra r) Why
      go (Err f) was = of_field f was
      go (Ok y) was = ended (length (y.1).rest == 0) refl
        where
          ended : (b : Bool) → (length (y.1).rest == 0) ≡ b → IfErr (let w : Result A E = cond b (Ok y.0) (Err extra) in w) Why
          ended true is = tt
          ended false is =
              let t = law.takes (from_front bytes) y.0 y.1 fits was in
              left fits (y.0, t.0, (y.1).rest, t.1, λ none. absurd (cc (is, ap (λ (r : List ℕ). length r == 0) none)), t.2)

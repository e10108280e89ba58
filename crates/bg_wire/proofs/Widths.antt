-- Fields in a row, by their widths.
use Rattle.std.proofs.Common.{◌≡◌, ◌≢◌, ℕ, zero, suc, ◌<◌, ◌≤◌, Bool, true, false, cond, List, [], ◌∷◌, ◌++◌, length, take, drop, refl, sym, ap, subst, ◌∙◌, arith, inl, inr}
use Rattle.std.specs.Prelude.{◌==◌, nat_lt}
use Rattle.std.proofs.lemmas.Bool.{cases_lt}
use Rattle.std.proofs.lemmas.Bool.Decides.{nat_tests}
use Rattle.std.proofs.lemmas.List.{length-append, nil_from_length, take_at, drop_at, take-append-le, drop-append-le}
use Rattle.bg_wire.specs.Entries.Fields.{Fields, Done, Field, followed_by, bytes_each, width_of}
use Rattle.bg_wire.specs.Entries.Reading.{◌>>=◌, Cursor, Read}
use Rattle.bg_wire.proofs.Laws.{Law, Then, Choice, HasText, Single, OneByte, then_of, other_fields, begun_fields}

-- the layout's fields are these
abbrev pub Of : Fields → List ℕ → ℕ → Type 0
Of fields before w = w ≡ width_of fields before

-- the text has just these fields
abbrev pub IsAll : Fields → List ℕ → Type 0
IsAll Done text = text ≡ []
IsAll (Field width next) text = (0 < width) × (width ≤ length text) × IsAll (next (take width text)) (drop width text)

-- ---- where the next field begins

some_at : (at : ℕ) → 0 < at → (at == 0) ≡ false
some_at at some = grind (arith, nat_tests)

is_less : (m n : ℕ) → m < n → nat_lt m n ≡ true
is_less m n lt = grind (arith, nat_tests)

no_less : (m n : ℕ) → n ≤ m → nat_lt m n ≡ false
no_less m n le = grind (arith, nat_tests)

module _ (width : ℕ) (next : List ℕ → Fields) (before : List ℕ) where
  pub at_start : length before ≡ 0 → width_of (Field width next) before ≡ width
  unfolding width_of
  at_start none = rw none refl

  pub at_within : 0 < length before → length before < width → width_of (Field width next) before ≡ 0
  unfolding width_of
  at_within some lt = rw (some_at (length before) some, is_less (length before) width lt) refl

  pub at_behind : 0 < length before → width ≤ length before
      → width_of (Field width next) before ≡ width_of (next (take width before)) (drop width before)
  unfolding width_of
  at_behind some le = rw (some_at (length before) some, no_less (length before) width le) refl

pub at_done : (before : List ℕ) → width_of Done before ≡ 1
unfolding width_of
at_done before = refl

-- behind the first field
pub behind_first : (width : ℕ) (next : List ℕ → Fields) (first before : List ℕ) → 0 < width → length first ≡ width
    → width_of (Field width next) (first ++ before) ≡ width_of (next first) before
behind_first width next first before some len =
    let all = length-append first before in
    at_behind width next (first ++ before) (omega (arith, all, len, some)) (omega (arith, all, len))
    ∙ ap (λ (f : List ℕ). width_of (next f) (drop width (first ++ before))) (take_at first before width len)
    ∙ ap (width_of (next first)) (drop_at first before width len)

-- ---- laws

first_field : (width : ℕ) (next : List ℕ → Fields) (before : List ℕ) (w : ℕ) → Single width before w
    → Of (Field width next) before w
first_field width next before w h = h.1 ∙ sym (at_start width next before (ap length h.0))

pub then_field : {A B : Type 0} {T : A → List ℕ → Type 0} {U : A → B → List ℕ → Type 0} (width : ℕ)
    (next : List ℕ → Fields) (of : A → Fields)
    (one : Cursor → Read A) (two : A → Cursor → Read B) → 0 < width
    → Law (Single width) one T → ((x : A) (first : List ℕ) → T x first → length first ≡ width)
    → ((x : A) (first : List ℕ) → T x first → next first ≡ of x)
    → ((x : A) → Law (Of (of x)) (two x) (U x)) → ((x : A) (first : List ℕ) → T x first → HasText (U x))
    → Law (Of (Field width next)) (λ c. one c >>= λ x. two x.0 x.1) (Then T U)
then_field width next of one two some p len is q more =
    then_of (Of (Field width next)) one two p q more (first_field width next)
    (λ x first t before w h. h ∙ ap (λ (f : Fields). width_of f before) (sym (is x first t))
    ∙ sym (behind_first width next first before some (len x first t)))

pub last_field : {A : Type 0} {T : A → List ℕ → Type 0} (width : ℕ) (next : List ℕ → Fields) (read : Cursor → Read A)
    → Law (Single width) read T → Law (Of (Field width next)) read T
last_field width next read law = other_fields read (first_field width next) law

pub byte_fields : {A : Type 0} {T : A → List ℕ → Type 0} (read : Cursor → Read A) → Law OneByte read T
    → Law (Of Done) read T
byte_fields read law = other_fields read (λ before w h. h ∙ sym (at_done before)) law

-- where each field is a byte
abbrev pub AreBytes : Fields → Type 0
AreBytes Done = Unit {0}
AreBytes (Field width next) = (width ≡ 1) × ((bytes : List ℕ) → AreBytes (next bytes))

pub bytes_one : (f : Fields) (before : List ℕ) → AreBytes f → width_of f before ≡ 1
bytes_one Done before h = at_done before
bytes_one (Field width next) before h = elim (cases_lt 0 (length before)) [
  | inl some ↦
      let le : width ≤ length before = omega (arith, some, h.0) in
      at_behind width next before some le
      ∙ bytes_one (next (take width before)) (drop width before) (h.1 (take width before))
  | inr none ↦ at_start width next before (omega (arith, none)) ∙ h.0
]

pub bytes_each_one : (n : ℕ) → AreBytes (bytes_each n)
bytes_each_one zero = tt
bytes_each_one (suc n) = (refl, λ bytes. bytes_each_one n)

pub each_field : {A : Type 0} {T : A → List ℕ → Type 0} (f : Fields) (read : Cursor → Read A) → AreBytes f
    → Law OneByte read T → Law (Of f) read T
each_field f read bytes law = other_fields read (λ before w h. h ∙ sym (bytes_one f before bytes)) law

pub choice_of : {A : Type 0} {T U : A → List ℕ → Type 0} (b : Bool) (f g : Fields) (one two : Cursor → Read A)
    → Law (Of f) one T → Law (Of g) two U
    → Law (Of (cond b f g)) (λ c. cond b (one c) (two c)) (Choice b T U)
choice_of true f g one two p q =
    record { takes = p.takes; again = p.again; grows = p.grows; fails = p.fails; cuts = p.cuts }
choice_of false f g one two p q =
    record { takes = q.takes; again = q.again; grows = q.grows; fails = q.fails; cuts = q.cuts }

-- ---- fields behind others

-- behind the last one each byte is a field
pub done_behind : (f : Fields) (first before : List ℕ) → IsAll f first → width_of f (first ++ before) ≡ 1
done_behind Done first before h = at_done (first ++ before)
done_behind (Field width next) first before h =
    let all = length-append first before in
    at_behind width next (first ++ before) (omega (arith, all, h.0, h.1)) (omega (arith, all, h.1))
    ∙ ap (λ (t : List ℕ). width_of (next t) (drop width (first ++ before))) (take-append-le width first before h.1)
    ∙ ap (width_of (next (take width first))) (drop-append-le width first before h.1)
    ∙ done_behind (next (take width first)) (drop width first) before h.2

pub behind_all : (f g : Fields) (first before : List ℕ) → IsAll f first
    → width_of (followed_by f g) (first ++ before) ≡ width_of g before
behind_all Done g first before h = ap (λ (t : List ℕ). width_of g (t ++ before)) h
behind_all (Field width next) g first before h =
    let all = length-append first before in
    at_behind width (λ bytes. followed_by (next bytes) g) (first ++ before) (omega (arith, all, h.0, h.1))
    (omega (arith, all, h.1))
    ∙ ap (λ (t : List ℕ). width_of (followed_by (next t) g) (drop width (first ++ before)))
    (take-append-le width first before h.1)
    ∙ ap (width_of (followed_by (next (take width first)) g)) (drop-append-le width first before h.1)
    ∙ behind_all (next (take width first)) g (drop width first) before h.2

pub before_all : (f g : Fields) (before rest : List ℕ) → IsAll f (before ++ rest) → rest ≢ []
    → width_of f before ≡ width_of (followed_by f g) before
before_all Done g before rest h some =
    absurd (some (nil_from_length rest (let n = ap length h in let l = length-append before rest in
    omega (arith, n, l))))
before_all (Field width next) g before rest h some = elim (cases_lt 0 (length before)) [
  | inl begun ↦ elim (cases_lt (length before) width) [
    | inl within ↦ at_within width next before begun within
        ∙ sym (at_within width (λ bytes. followed_by (next bytes) g) before begun within)
    | inr behind ↦
        let front : take width (before ++ rest) ≡ take width before = take-append-le width before rest behind in
        let others : drop width (before ++ rest) ≡ drop width before ++ rest =
        drop-append-le width before rest behind in
        let all : IsAll (next (take width before)) (drop width before ++ rest) =
        subst (λ (t : List ℕ). IsAll (next (take width before)) t) others
        (subst (λ (t : List ℕ). IsAll (next t) (drop width (before ++ rest))) front h.2) in
        at_behind width next before begun behind
        ∙ before_all (next (take width before)) g (drop width before) rest all some
        ∙ sym (at_behind width (λ bytes. followed_by (next bytes) g) before begun behind)
  ]
  | inr none ↦
      let empty : length before ≡ 0 = omega (arith, none) in
      at_start width next before empty ∙ sym (at_start width (λ bytes. followed_by (next bytes) g) before empty)
]

pub then_fields : {A B : Type 0} {T : A → List ℕ → Type 0} {U : A → B → List ℕ → Type 0} (f g : Fields)
    (one : Cursor → Read A) (two : A → Cursor → Read B)
    → Law (Of f) one T → ((x : A) (first : List ℕ) → T x first → IsAll f first) → ((x : A) → Law (Of g) (two x) (U x))
    → ((x : A) (first : List ℕ) → T x first → HasText (U x))
    → Law (Of (followed_by f g)) (λ c. one c >>= λ x. two x.0 x.1) (Then T U)
then_fields {A} {B} {T} {U} f g one two p all q more =
    then_of (Of (followed_by f g)) one two (begun_fields one p) q more
    (λ before w h. h.0 ∙ (let b = h.1 in before_all f g before b.1 (all b.0 (before ++ b.1) b.2) b.3))
    (λ x first t before w h. h ∙ sym (behind_all f g first before (all x first t)))

-- ---- where fields begin and end

-- within a field no field begins
pub inside_of : (f : Fields) (before mid : List ℕ) → 0 < length mid → length mid < width_of f before
    → width_of f (before ++ mid) ≡ 0
inside_of Done before mid some lt = absurd (let one = at_done before in omega (arith, some, lt, one))
inside_of (Field width next) before mid some lt = elim (cases_lt 0 (length before)) [
  | inl begun ↦ elim (cases_lt (length before) width) [
    | inl within ↦ absurd (let none = at_within width next before begun within in omega (arith, none, lt))
    | inr behind ↦
        let here = at_behind width next before begun behind in
        let len = length-append before mid in
        at_behind width next (before ++ mid) (omega (arith, len, begun)) (omega (arith, len, behind))
        ∙ ap (λ (t : List ℕ). width_of (next t) (drop width (before ++ mid))) (take-append-le width before mid behind)
        ∙ ap (width_of (next (take width before))) (drop-append-le width before mid behind)
        ∙ inside_of (next (take width before)) (drop width before) mid some (omega (arith, here, lt))
  ]
  | inr none ↦
      let empty : length before ≡ 0 = omega (arith, none) in
      let len = length-append before mid in
      let wide = at_start width next before empty in
      at_within width next (before ++ mid) (omega (arith, len, some)) (omega (arith, len, empty, lt, wide))
]

-- the bytes begin with all of the fields
abbrev pub HasAll : Fields → List ℕ → Type 0
HasAll Done text = Unit {0}
HasAll (Field width next) text = (0 < width) × (width ≤ length text) × HasAll (next (take width text)) (drop width text)

pub has_all : (f : Fields) (text more : List ℕ) → IsAll f text → HasAll f (text ++ more)
has_all Done text more h = tt
has_all (Field width next) text more h =
    let len = length-append text more in
    let front : take width text ≡ take width (text ++ more) = sym (take-append-le width text more h.1) in
    let others : drop width text ++ more ≡ drop width (text ++ more) = sym (drop-append-le width text more h.1) in
    let rest = has_all (next (take width text)) (drop width text) more h.2 in (
      h.0,
      omega (arith, len, h.1),
      subst (λ (t : List ℕ). HasAll (next (take width (text ++ more))) t) others
          (subst (λ (t : List ℕ). HasAll (next t) (drop width text ++ more)) front rest),
    )

-- where bytes have all of the fields, each field of them ends in them
pub fits_of : (f : Fields) (before rest : List ℕ) → HasAll f (before ++ rest) → 0 < length rest
    → width_of f before ≤ length rest
fits_of Done before rest h some = let one = at_done before in omega (arith, one, some)
fits_of (Field width next) before rest h some = elim (cases_lt 0 (length before)) [
  | inl begun ↦ elim (cases_lt (length before) width) [
    | inl within ↦ (let none = at_within width next before begun within in omega (arith, none))
    | inr behind ↦
        let here = at_behind width next before begun behind in
        let front : take width (before ++ rest) ≡ take width before = take-append-le width before rest behind in
        let others : drop width (before ++ rest) ≡ drop width before ++ rest =
        drop-append-le width before rest behind in
        let all : HasAll (next (take width before)) (drop width before ++ rest) =
        subst (λ (t : List ℕ). HasAll (next (take width before)) t) others
        (subst (λ (t : List ℕ). HasAll (next t) (drop width (before ++ rest))) front h.2) in
        let fits = fits_of (next (take width before)) (drop width before) rest all some in
        omega (arith, here, fits)
  ]
  | inr none ↦
      let wide = at_start width next before (omega (arith, none)) in
      let len = length-append before rest in
      omega (arith, wide, len, h.1, none)
]

-- some fields, and all of others behind them
pub all_of_both : (f g : Fields) (first second : List ℕ) → IsAll f first → IsAll g second
    → IsAll (followed_by f g) (first ++ second)
all_of_both Done g first second h k = subst (λ (t : List ℕ). IsAll g (t ++ second)) (sym h) k
all_of_both (Field width next) g first second h k =
    let len = length-append first second in
    let front : take width first ≡ take width (first ++ second) = sym (take-append-le width first second h.1) in
    let others : drop width first ++ second ≡ drop width (first ++ second) =
    sym (drop-append-le width first second h.1) in
    let rest = all_of_both (next (take width first)) g (drop width first) second h.2 k in (
      h.0,
      omega (arith, len, h.1),
      subst
          (λ (t : List ℕ). IsAll (followed_by (next (take width (first ++ second))) g) t) others
          (subst (λ (t : List ℕ). IsAll (followed_by (next t) g) (drop width first ++ second)) front rest),
    )

pub all_of_field : (width : ℕ) (next : List ℕ → Fields) (first second : List ℕ) → 0 < width → length first ≡ width
    → IsAll (next first) second → IsAll (Field width next) (first ++ second)
all_of_field width next first second some len h =
    let all = length-append first second in (
      some,
      omega (arith, all, len),
      subst (λ (t : List ℕ). IsAll (next (take width (first ++ second))) t)
          (sym (drop_at first second width len))
          (subst (λ (t : List ℕ). IsAll (next t) second) (sym (take_at first second width len)) h),
    )

pub all_each : (n : ℕ) (text : List ℕ) → length text ≡ n → IsAll (bytes_each n) text
all_each zero text len = nil_from_length text len
all_each (suc n) [] len = absurd (omega (arith, len))
all_each (suc n) (b ∷ text) len = (omega arith, omega arith, all_each n text (omega (arith, len)))

-- The law of each field.
use Rattle.std.proofs.Common.{◌≡◌, ◌≢◌, ℕ, ◌+◌, ◌^◌, ◌<◌, ◌≤◌, Bool, true, false, cond, List, [], ◌∷◌, ◌++◌, length, take, drop, Result, Ok, Err, refl, sym, ap, subst, ◌∙◌, arith, inl, inr}
use Rattle.std.specs.Prelude.{nat_lt, ◌||◌}
use Rattle.std.specs.Int.{w16, w32, w64, from_be_bytes, to_be_bytes}
use Rattle.std.proofs.lemmas.Bool.{cases_lt, ltb-false, ltb-true, lt-ltb, le-ltb}
use Rattle.std.proofs.lemmas.List.{take_at, take-take, drop_at, take-append-drop, length-append, length-take, get_or-take, get_or_past, take-append-le, drop-append-le}
use Rattle.std.proofs.lemmas.Nat.{be_bytes_2, be_bytes_4, be_bytes_8, from_be_bytes-to_be_bytes_2, from_be_bytes-to_be_bytes_4, from_be_bytes-to_be_bytes_8}
use Rattle.bg_wire.specs.declared.entries.reader.ReadFault.{ReadFault}
use Rattle.bg_wire.specs.declared.entries.reader.ReadFault.TheVariants.{Short, Field}
use Rattle.bg_wire.specs.Entries.Reading.{Cursor, is_outside, byte_of, u8_at, number_at, u16_at, u32_at, u64_at}
use Rattle.bg_wire.specs.Texts.{GoesOn}
use Rattle.bg_wire.specs.Saved.SavedLayouts.{last_number, number_width, number_text}
use Rattle.bg_wire.specs.Saved.SavedReading.{number_in}
use Rattle.bg_wire.specs.declared.saves.layouts.Layout.{Layout}
use Rattle.bg_wire.specs.declared.saves.layouts.Layout.TheVariants.{One, Two}
use Rattle.bg_wire.proofs.Laws.{IsBytes, longer, Grows, HasText, cursor, Single, OneByte, FailsAt, CutAt, Law, other_text, other_fields, ok_is}

IsBytes-take : (n : ℕ) (bytes : List ℕ) → IsBytes bytes → IsBytes (take n bytes)
IsBytes-take n bytes h i =
    elim (cases_lt i n) [
      | inl lt ↦ rw (get_or-take n bytes i 0 lt) (h i)
      | inr le ↦ rw (get_or_past (take n bytes) i 0 (omega (arith, length-take n bytes))) (omega arith)
    ]

-- a test that did not fail
guard_ok : {A : Type 0} (b : Bool) (f : ReadFault) (r : Result A ReadFault) (y : A) → cond b (Err f) r ≡ Ok y → (b ≡ false) × (r ≡ Ok y)
guard_ok true f r y e = absurd cc
guard_ok false f r y e = (refl, e)

-- a test that failed
guard_err : {A : Type 0} (b : Bool) (f g : ReadFault) (x : A) → cond b (Err f) (Ok x) ≡ Err g → (b ≡ true) × (f ≡ g)
guard_err true f g x e = (refl, cc)
guard_err false f g x e = absurd cc

-- a fault Field is not that bytes are missing
guard_long : {A : Type 0} (b : Bool) (n : ℕ) (r : Result A ReadFault) → cond b (Err Short) r ≡ Err (Field n) → (b ≡ false) × (r ≡ Err (Field n))
guard_long true n r e = absurd cc
guard_long false n r e = (refl, e)

-- a field that is all there is not short
not_short : {A : Type 0} (b : Bool) (n : ℕ) (x : A) → cond b (Err (Field n)) (Ok x) ≢ Err Short
not_short true n x e = absurd cc
not_short false n x e = absurd cc

guard_short : {A : Type 0} (b : Bool) (r : Result A ReadFault) → r ≢ Err Short → cond b (Err Short) r ≡ Err Short → b ≡ true
guard_short true r not e = refl
guard_short false r not e = absurd (not e)

or_false : (a b : Bool) → (a || b) ≡ false → (a ≡ false) × (b ≡ false)
or_false true b e = absurd cc
or_false false b e = (refl, e)

inside : (low high n : ℕ) → is_outside low high n ≡ false → (low ≤ n) × (n ≤ high)
inside low high n e = let h = or_false (nat_lt n low) (nat_lt high n) e in (ltb-false _ _ h.0, ltb-false _ _ h.1)

is_inside : (low high n : ℕ) → low ≤ n → n ≤ high → is_outside low high n ≡ false
is_inside low high n p q = rw (le-ltb n low p, le-ltb high n q) refl

Grows-guard : {A : Type 0} (more : List ℕ) (b : Bool) (n : ℕ) (x : A) (d : Cursor) → Grows more (cond b (Err (Field n)) (Ok (x, d))) (cond b (Err (Field n)) (Ok (x, longer more d)))
Grows-guard more true n x d = refl
Grows-guard more false n x d = refl

-- ---- a byte

abbrev pub Byte : ℕ → ℕ → ℕ → List ℕ → Type 0
Byte low high x front = (low ≤ x) × (x ≤ high) × (front ≡ x ∷ [])

pub one_byte : (low high : ℕ) → Law (Single 1) (u8_at low high) (Byte low high)
unfolding u8_at
one_byte low high = record {
  takes = λ c. takes c.at c.rest;
  again = λ c x front rest text e. (
    record { at = c.at + 1; rest = rest },
    refl,
    ap (byte_of low high c.at) (e ∙ ap (λ (f : List ℕ). f ++ rest) text.2) ∙ rw (is_inside low high x text.0 text.1) refl,
    ap (λ (f : List ℕ). c.at + length f) (sym text.2),
  );
  grows = λ c more. grows c.at c.rest more;
  fails = λ c n some fits. fails c.at c.rest n some;
  cuts = λ c some fits. cuts c.at c.rest some;
}
  where
    takes : (at : ℕ) (bytes : List ℕ) (x : ℕ) (d : Cursor) → IsBytes bytes → byte_of low high at bytes ≡ Ok (x, d) → (front : List ℕ) × Byte low high x front × (bytes ≡ front ++ d.rest) × (d.at ≡ at + length front)
    takes at [] x d fits e = absurd cc
    takes at (b ∷ bytes) x d fits e =
        let g = guard_ok (is_outside low high b) (Field at) (Ok (b, record { at = at + 1; rest = bytes })) (x, d) e in
        let in_range = inside low high b g.0 in
        let here : (front : List ℕ) × Byte low high b front × (b ∷ bytes ≡ front ++ bytes) × (at + 1 ≡ at + length front) = (b ∷ [], (in_range.0, in_range.1, refl), refl, refl) in
        subst (λ (p : ℕ × Cursor). (front : List ℕ) × Byte low high p.0 front × (b ∷ bytes ≡ front ++ (p.1).rest) × ((p.1).at ≡ at + length front)) (ok_is _ _ g.1) here

    begins : HasText (Byte low high) → GoesOn (Byte low high) []
    begins some = (some.0, some.1, some.2, λ none. let e = some.2.2 in absurd (cc (e, none)))

    fails : (at : ℕ) (bytes : List ℕ) (n : ℕ) → HasText (Byte low high) → byte_of low high at bytes ≡ Err (Field n) → FailsAt (Single 1) (λ c. byte_of low high c.at c.rest) (Byte low high) (cursor at bytes) n
    fails at [] n some e = absurd cc
    fails at (b ∷ bytes) n some e =
        let g = guard_err (is_outside low high b) (Field at) (Field n) (b, record { at = at + 1; rest = bytes }) e in
        let same : at ≡ n = cc (g.1) in
        record {
          before = [];
          wrong = b ∷ [];
          behind = bytes;
          split = refl;
          offset = omega (arith, same);
          whole = (refl, refl);
          begins = begins some;
          already = rw g.0 (ap (λ (i : ℕ). Err (Field i)) same);
        }

    cuts : (at : ℕ) (bytes : List ℕ) → HasText (Byte low high) → byte_of low high at bytes ≡ Err Short → CutAt (Single 1) (Byte low high) bytes
    cuts at [] some e = record { before = []; part = []; width = 1; split = refl; small = omega arith; whole = (refl, refl); begins = begins some }
    cuts at (b ∷ bytes) some e = absurd (not_short (is_outside low high b) at (b, record { at = at + 1; rest = bytes }) e)

    grows : (at : ℕ) (bytes : List ℕ) (more : List ℕ) → Grows more (byte_of low high at bytes) (byte_of low high at (bytes ++ more))
    grows at [] more = tt
    grows at (b ∷ bytes) more = Grows-guard more (is_outside low high b) at b (record { at = at + 1; rest = bytes })

pub byte_law : (low high : ℕ) → Law OneByte (u8_at low high) (Byte low high)
byte_law low high = other_fields (u8_at low high) (λ before w h. h.1) (one_byte low high)

pub has_byte : (low high : ℕ) → low ≤ high → HasText (Byte low high)
has_byte low high le = (low, low ∷ [], (omega arith, le, refl))

-- ---- a number of some bytes

abbrev Spelled : ℕ → (ℕ → List ℕ) → (ℕ → Bool) → ℕ → List ℕ → Type 0
Spelled limit bytes_of is_wrong n front = (is_wrong n ≡ false) × (n < limit) × (front ≡ bytes_of n)

module _ (size limit : ℕ) (value_of : List ℕ → ℕ) (bytes_of : ℕ → List ℕ) (is_wrong : ℕ → Bool) (len : (n : ℕ) → length (bytes_of n) ≡ size)
    (spelled : (bytes : List ℕ) → length bytes ≡ size → IsBytes bytes → (value_of bytes < limit) × (bytes_of (value_of bytes) ≡ bytes)) (valued : (n : ℕ) → n < limit → value_of (bytes_of n) ≡ n) (wide : 1 ≤ size) where
  spelled_begins : HasText (Spelled limit bytes_of is_wrong) → GoesOn (Spelled limit bytes_of is_wrong) []
  spelled_begins some = (some.0, some.1, some.2, λ none. let e = ap length some.2.2 in let l = len some.0 in absurd (omega (arith, e, l, wide, ap length none)))

  number_law : Law (Single size) (number_at size value_of is_wrong) (Spelled limit bytes_of is_wrong)
  number_law = record {
    takes = λ c n d fits e.
        let front = take size c.rest in
        let rest = drop size c.rest in
        let long = guard_ok (nat_lt (length c.rest) size) Short _ (n, d) e in
        let g = guard_ok (is_wrong (value_of front)) (Field c.at) (Ok (value_of front, record { at = c.at + size; rest = rest })) (n, d) long.1 in
        let enough : size ≤ length c.rest = ltb-false _ _ long.0 in
        let s = spelled front (omega (arith, length-take size c.rest)) (IsBytes-take size c.rest fits) in
        let here : (f : List ℕ) × Spelled limit bytes_of is_wrong (value_of front) f × (c.rest ≡ f ++ rest) × (c.at + size ≡ c.at + length f) =
        (front, (g.0, s.0, sym s.1), sym (take-append-drop size c.rest), omega (arith, length-take size c.rest)) in
        subst (λ (p : ℕ × Cursor). (f : List ℕ) × Spelled limit bytes_of is_wrong p.0 f × (c.rest ≡ f ++ (p.1).rest) × ((p.1).at ≡ c.at + length f)) (ok_is _ _ g.1) here;
    again = λ c n front rest text e.
        let whole : c.rest ≡ bytes_of n ++ rest = e ∙ ap (λ (f : List ℕ). f ++ rest) text.2 in
        let long : nat_lt (length c.rest) size ≡ false = le-ltb _ _ (omega (arith, ap length whole, length-append (bytes_of n) rest, len n)) in
        let front_is : take size c.rest ≡ bytes_of n = ap (take size) whole ∙ take_at (bytes_of n) rest size (len n) in
        let rest_is : drop size c.rest ≡ rest = ap (drop size) whole ∙ drop_at (bytes_of n) rest size (len n) in
        let value : value_of (take size c.rest) ≡ n = ap value_of front_is ∙ valued n text.1 in
        (record { at = c.at + size; rest = drop size c.rest }, rest_is, rw (long, value, text.0) refl, omega (arith, ap length text.2, len n));
    grows = λ c more. elim (cases_lt (length c.rest) size) [
      | inl short ↦ rw (lt-ltb _ _ short) tt
      | inr long ↦
          rw (le-ltb _ _ long, le-ltb (length (c.rest ++ more)) size (omega (arith, length-append c.rest more)), take-append-le size c.rest more long, drop-append-le size c.rest more long)
          (Grows-guard more (is_wrong (value_of (take size c.rest))) c.at (value_of (take size c.rest)) (record { at = c.at + size; rest = drop size c.rest }))
    ];
    fails = λ c n some fits e.
        let front = take size c.rest in
        let long = guard_long (nat_lt (length c.rest) size) n _ e in
        let g = guard_err (is_wrong (value_of front)) (Field c.at) (Field n) (value_of front, record { at = c.at + size; rest = drop size c.rest }) long.1 in
        let same : c.at ≡ n = cc (g.1) in
        let enough : size ≤ length c.rest = ltb-false _ _ long.0 in
        let len_is : length front ≡ size = omega (arith, length-take size c.rest) in
        let whole : nat_lt (length front) size ≡ false = le-ltb _ _ (omega arith) in
        let again : take size front ≡ front = take-take size size c.rest (omega arith) in
        record {
          before = [];
          wrong = front;
          behind = drop size c.rest;
          split = sym (take-append-drop size c.rest);
          offset = omega (arith, same);
          whole = (refl, len_is);
          begins = spelled_begins some;
          already = rw (whole, again, g.0) (ap (λ (i : ℕ). Err (Field i)) same);
        };
    cuts = λ c some fits e.
        let front = take size c.rest in
        let is : nat_lt (length c.rest) size ≡ true =
        guard_short (nat_lt (length c.rest) size) _ (not_short (is_wrong (value_of front)) c.at (value_of front, record { at = c.at + size; rest = drop size c.rest })) e in
        let few : length c.rest < size = ltb-true _ _ is in
        record { before = []; part = c.rest; width = size; split = refl; small = few; whole = (refl, refl); begins = spelled_begins some };
  }

abbrev pub Number : ℕ → ℕ → ℕ → List ℕ → Type 0
Number low high n front = (low ≤ n) × (n ≤ high) × (n < 2 ^ 16) × (front ≡ to_be_bytes w16 n)

pub has_number : (low high : ℕ) → low ≤ high → high < 2 ^ 16 → HasText (Number low high)
has_number low high le fits = (low, to_be_bytes w16 low, (omega arith, le, omega arith, refl))

two_bytes : (bytes : List ℕ) → length bytes ≡ 2 → IsBytes bytes → (from_be_bytes w16 bytes < 2 ^ 16) × (to_be_bytes w16 (from_be_bytes w16 bytes) ≡ bytes)
two_bytes bytes len fits = (omega (arith, fits 0, fits 1), be_bytes_2 bytes (from_be_bytes w16 bytes) len fits refl)

pub u16_law : (low high : ℕ) → Law (Single 2) (u16_at low high) (Number low high)
unfolding u16_at
u16_law low high =
    other_text _ (λ n front h. let r = inside low high n h.0 in (r.0, r.1, h.1, h.2)) (λ n front h. (is_inside low high n h.0 h.1, h.2, h.3))
    (number_law 2 (2 ^ 16) (from_be_bytes w16) (to_be_bytes w16) (is_outside low high) (λ n. refl) two_bytes from_be_bytes-to_be_bytes_2 (omega arith))

abbrev pub Long : ℕ → ℕ → ℕ → List ℕ → Type 0
Long low high n front = (low ≤ n) × (n ≤ high) × (n < 2 ^ 32) × (front ≡ to_be_bytes w32 n)

pub has_long : (low high : ℕ) → low ≤ high → high < 2 ^ 32 → HasText (Long low high)
has_long low high le fits = (low, to_be_bytes w32 low, (omega arith, le, omega arith, refl))

four_bytes : (bytes : List ℕ) → length bytes ≡ 4 → IsBytes bytes → (from_be_bytes w32 bytes < 2 ^ 32) × (to_be_bytes w32 (from_be_bytes w32 bytes) ≡ bytes)
four_bytes bytes len fits = (omega (arith, fits 0, fits 1, fits 2, fits 3), be_bytes_4 bytes (from_be_bytes w32 bytes) len fits refl)

pub u32_law : (low high : ℕ) → Law (Single 4) (u32_at low high) (Long low high)
unfolding u32_at
u32_law low high =
    other_text _ (λ n front h. let r = inside low high n h.0 in (r.0, r.1, h.1, h.2)) (λ n front h. (is_inside low high n h.0 h.1, h.2, h.3))
    (number_law 4 (2 ^ 32) (from_be_bytes w32) (to_be_bytes w32) (is_outside low high) (λ n. refl) four_bytes from_be_bytes-to_be_bytes_4 (omega arith))

abbrev pub Word : ℕ → List ℕ → Type 0
Word n front = (n < 2 ^ 64) × (front ≡ to_be_bytes w64 n)

pub has_word : HasText Word
has_word = (0, to_be_bytes w64 0, (omega arith, refl))

eight_bytes : (bytes : List ℕ) → length bytes ≡ 8 → IsBytes bytes → (from_be_bytes w64 bytes < 2 ^ 64) × (to_be_bytes w64 (from_be_bytes w64 bytes) ≡ bytes)
eight_bytes bytes len fits = (omega (arith, fits 0, fits 1, fits 2, fits 3, fits 4, fits 5, fits 6, fits 7), be_bytes_8 bytes (from_be_bytes w64 bytes) len fits refl)

pub u64_law : Law (Single 8) u64_at Word
unfolding u64_at
u64_law =
    other_text _ (λ n front h. (h.1, h.2)) (λ n front h. (refl, h.0, h.1))
    (number_law 8 (2 ^ 64) (from_be_bytes w64) (to_be_bytes w64) (λ n. false) (λ n. refl) eight_bytes from_be_bytes-to_be_bytes_8 (omega arith))

-- ---- a number of an entry, as a layout of saved texts has it

abbrev pub number_limit : Layout → ℕ
number_limit One = 2 ^ 16
number_limit Two = 2 ^ 32

abbrev pub NumberIn : Layout → ℕ → ℕ → List ℕ → Type 0
NumberIn layout low n front =
    (low ≤ n) × (n ≤ last_number layout) × (n < number_limit layout) × (front ≡ number_text layout n)

pub last_fits : (layout : Layout) → last_number layout < number_limit layout
last_fits One = omega arith
last_fits Two = omega arith

pub number_some : (layout : Layout) → 0 < number_width layout
number_some One = omega arith
number_some Two = omega arith

pub number_len : (layout : Layout) (n : ℕ) → length (number_text layout n) ≡ number_width layout
number_len One n = refl
number_len Two n = refl

pub has_number_in : (layout : Layout) (low : ℕ) → low ≤ last_number layout → HasText (NumberIn layout low)
has_number_in layout low le =
    let fits = last_fits layout in
    (low, number_text layout low, (omega arith, le, omega (arith, le, fits), refl))

pub number_in_law : (layout : Layout) (low : ℕ)
    → Law (Single (number_width layout)) (number_in layout low) (NumberIn layout low)
unfolding number_in
number_in_law One low = u16_law low (last_number One)
number_in_law Two low = u32_law low (last_number Two)

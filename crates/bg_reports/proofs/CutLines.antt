-- Lines that are shown, and cut.
use Rattle.std.proofs.Common.{◌≡◌, ◌∙◌, ◌⊎◌, inl, inr, ℕ, zero, suc, ◌-◌, ◌<◌, ◌≤◌, List, [], ◌∷◌, ◌++◌, length, take, drop}
use Rattle.std.proofs.Common.{Bool, true, false, ◌==◌, ◌&&◌, nat_le, if◌then◌else◌, refl, sym, ap, arith, length-append}
use Rattle.std.proofs.lemmas.Bool.Decides.{nat_tests}
use Rattle.std.proofs.lemmas.List.{take_all, take-append-drop, take-append-le, length-take-le}
use Rattle.std.proofs.lemmas.List.Concat.{flat_map-append}
use Rattle.bg_reports.specs.Harmless.{shown_byte, shown, cut, dots_in}

some_if : (test : Bool) (xs ys : List ℕ) → 1 ≤ length xs → 1 ≤ length ys → 1 ≤ length (if test then xs else ys)
some_if true xs ys first second = first
some_if false xs ys first second = second

byte_some : (byte : ℕ) → 1 ≤ length (shown_byte byte)
byte_some byte =
    some_if (byte == 9) _ _ (omega arith)
    (some_if (byte == 13) _ _ (omega arith)
    (some_if (byte == 92) _ _ (omega arith)
    (some_if (nat_le 32 byte && nat_le byte 126) (byte ∷ []) _ (omega arith) (omega arith))))

length_shown : (bytes : List ℕ) → length bytes ≤ length (shown bytes)
length_shown [] = omega arith
length_shown (byte ∷ bytes) =
    let some = byte_some byte in
    let rest = length_shown bytes in simp length-append (omega (arith, some, rest))

pub nat_order : (a b : ℕ) → (a ≤ b) ⊎ (b < a)
nat_order zero b = inl (omega arith)
nat_order (suc a) zero = inr (omega arith)
nat_order (suc a) (suc b) = elim (nat_order a b) [ inl low ↦ inl (omega arith) | inr high ↦ inr (omega arith) ]

cut_long : (room : ℕ) (text : List ℕ) → room < length text → cut room text ≡ take (room - 3) text ++ dots_in room
cut_long room text more =
    let other : nat_le (length text) room ≡ false = grind (arith, nat_tests, more) in rw other refl

-- as each byte takes a column at least, no more of them can be seen than there are columns
pub cut_front : (room n : ℕ) (bytes : List ℕ) → n ≤ length bytes → (length bytes ≤ n) ⊎ (room < n)
    → cut room (shown (take n bytes)) ≡ cut room (shown bytes)
cut_front room n bytes within (inl all) = rw (take_all n bytes all) refl
cut_front room n bytes within (inr more) =
    let front = shown (take n bytes) in
    let back = shown (drop n bytes) in
    let seen : room < length front = omega (arith, more, length_shown (take n bytes), length-take-le n bytes within) in
    let split : shown bytes ≡ front ++ back =
    ap shown (sym (take-append-drop n bytes)) ∙ flat_map-append shown_byte (take n bytes) (drop n bytes) in
    let all : room < length (shown bytes) = rw split (simp length-append (omega (arith, seen))) in
    let same : take (room - 3) (shown bytes) ≡ take (room - 3) front =
    ap (take (room - 3)) split ∙ take-append-le (room - 3) front back (omega (arith, seen)) in
    cut_long room front seen ∙ ap (λ (xs : List ℕ). xs ++ dots_in room) (sym same) ∙ sym (cut_long room (shown bytes) all)

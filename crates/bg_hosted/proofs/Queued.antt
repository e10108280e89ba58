-- The datagrams that wait were sent.
use Rattle.std.proofs.Common.{◌≡◌, ℕ, zero, suc, ◌<◌, Bool, true, false, ◌&&◌, ◌||◌, eqb, List, [], ◌∷◌, ◌++◌, length, get_or, refl, ◌∙◌, ap, arith}
use Rattle.std.specs.Prelude.{Contains, remove}
use Rattle.std.proofs.lemmas.Bool.Decides.{Decides-eqb}
use Rattle.std.proofs.lemmas.List.Recursion.{and_at, and_push}
use Rattle.bg_wire.specs.declared.packets.Datagram.{Datagram}
use Rattle.bg_hosted.specs.Queues.{are_same, is_same, was_sent, were_sent}

both : (a b : Bool) → (a && b) ≡ true → (a ≡ true) × (b ≡ true)
both true b h = (refl, h)
both false b h = cc

and_of : (a b : Bool) → a ≡ true → b ≡ true → (a && b) ≡ true
and_of true b h k = k
and_of false b h k = cc

or_left : (a b : Bool) → a ≡ true → (a || b) ≡ true
or_left true b h = refl
or_left false b h = cc

-- ---- the test finds what is there

are_same-refl : (xs : List ℕ) → are_same xs xs ≡ true
are_same-refl [] = refl
are_same-refl (x ∷ xs) = and_of (eqb x x) (are_same xs xs) ((Decides-eqb x x).1 refl) (are_same-refl xs)

same_bytes : (xs ys : List ℕ) → are_same xs ys ≡ true → xs ≡ ys
same_bytes [] [] h = refl
same_bytes [] (y ∷ ys) h = cc
same_bytes (x ∷ xs) [] h = cc
same_bytes (x ∷ xs) (y ∷ ys) h =
    let parts = both (eqb x y) (are_same xs ys) h in
    let first : x ≡ y = (Decides-eqb x y).0 parts.0 in
    let rest : xs ≡ ys = same_bytes xs ys parts.1 in
    cc

same_datagram : (a b : Datagram) → is_same a b ≡ true → a ≡ b
same_datagram a b h =
    let parts = both (eqb a.to b.to) (are_same a.bytes b.bytes) h in
    let to : a.to ≡ b.to = (Decides-eqb a.to b.to).0 parts.0 in
    let bytes : a.bytes ≡ b.bytes = same_bytes a.bytes b.bytes parts.1 in
    let middle : Datagram = record { to = b.to; bytes = a.bytes } in
    let left : a ≡ middle = ap (λ (n : ℕ). record a { to = n }) to in
    let right : middle ≡ b = ap (λ (xs : List ℕ). record b { bytes = xs }) bytes in
    left ∙ right

is_same-refl : (d : Datagram) → is_same d d ≡ true
is_same-refl d = and_of (eqb d.to d.to) (are_same d.bytes d.bytes) ((Decides-eqb d.to d.to).1 refl) (are_same-refl d.bytes)

-- ---- what was sent stays so

or_true : (a : Bool) → (a || true) ≡ true
or_true true = refl
or_true false = refl

pub sent_last : (sent : List Datagram) (d : Datagram) → was_sent (sent ++ d ∷ []) d ≡ true
sent_last [] d = or_left (is_same d d) false (is_same-refl d)
sent_last (first ∷ sent) d =
    ap (λ (b : Bool). is_same first d || b) (sent_last sent d) ∙ or_true (is_same first d)

was_sent_more : (sent : List Datagram) (d e : Datagram) → was_sent sent e ≡ true → was_sent (sent ++ d ∷ []) e ≡ true
was_sent_more [] d e h = cc
was_sent_more (first ∷ sent) d e h =
    elim (is_same first e) as (λ (b : Bool). (b || was_sent sent e) ≡ true → (b || was_sent (sent ++ d ∷ []) e) ≡ true)
    [ true ↦ λ _. refl | false ↦ was_sent_more sent d e ] h

were_sent_more : (sent waiting : List Datagram) (d : Datagram) → were_sent sent waiting ≡ true
    → were_sent (sent ++ d ∷ []) waiting ≡ true
were_sent_more sent [] d h = refl
were_sent_more sent (first ∷ waiting) d h =
    let parts = both (was_sent sent first) (were_sent sent waiting) h in
    and_of (was_sent (sent ++ d ∷ []) first) (were_sent (sent ++ d ∷ []) waiting)
    (was_sent_more sent d first parts.0) (were_sent_more sent waiting d parts.1)

-- one more is sent, and waits
pub were_sent_push : (sent waiting : List Datagram) (d : Datagram) → were_sent sent waiting ≡ true
    → were_sent (sent ++ d ∷ []) (waiting ++ d ∷ []) ≡ true
were_sent_push sent waiting d h =
    let all = sent ++ d ∷ [] in
    and_push (were_sent all) (was_sent all) refl (λ _ _. refl) waiting d
    ∙ and_of (were_sent all waiting) (was_sent all d) (were_sent_more sent waiting d h) (sent_last sent d)

-- ---- what is taken out was sent, and so were the others

pub were_sent_remove : (sent waiting : List Datagram) (i : ℕ) → were_sent sent waiting ≡ true
    → were_sent sent (remove waiting i) ≡ true
were_sent_remove sent [] zero h = refl
were_sent_remove sent [] (suc i) h = refl
were_sent_remove sent (first ∷ waiting) zero h = (both (was_sent sent first) (were_sent sent waiting) h).1
were_sent_remove sent (first ∷ waiting) (suc i) h =
    let parts = both (was_sent sent first) (were_sent sent waiting) h in
    and_of (was_sent sent first) (were_sent sent (remove waiting i)) parts.0 (were_sent_remove sent waiting i parts.1)

contains_sent : (sent : List Datagram) (d : Datagram) → was_sent sent d ≡ true → Contains sent d
contains_sent [] d h = absurd (cc)
contains_sent (first ∷ sent) d h =
    elim (is_same first d) as (λ (b : Bool). is_same first d ≡ b → (b || was_sent sent d) ≡ true → Contains (first ∷ sent) d) [
      | true ↦ λ is _. (zero, omega arith, same_datagram first d is)
      | false ↦ λ _ rest. let found = contains_sent sent d rest in (suc found.0, omega (arith, found.1), found.2)
    ] refl h

-- what stands at an index was sent
pub sent_at : (sent waiting : List Datagram) (i : ℕ) (d : Datagram) → were_sent sent waiting ≡ true → i < length waiting
    → d ≡ get_or waiting i d → Contains sent d
sent_at sent waiting i d h within is =
    contains_sent sent d (ap (was_sent sent) is
    ∙ and_at (were_sent sent) (was_sent sent) refl (λ _ _. refl) waiting i d within h)

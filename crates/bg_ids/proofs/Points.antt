-- How the points of a side are read from its bits.
use Rattle.std.proofs.Common.{◌≡◌, ◌<◌, ◌≤◌, ◌+◌, ◌-◌, ℕ, zero, suc, Bool, true, false, List, [], ◌∷◌, ◌++◌, length, take, drop, get_or, sum, refl, ap, sym, ◌∙◌, arith, append_assoc, add-one, drop-cons}
use Rattle.std.specs.Prelude.{Some}
use Rattle.std.specs.List.{flat_map}
use Rattle.std.proofs.lemmas.List.{drop-drop, length-append, length-drop, take_all, take_more}
use Rattle.std.proofs.lemmas.Grind.{flat_map-append}
use Rattle.std.proofs.lemmas.List.Sums.{sum_by-cons, sum_by_more, sum_by-take-le}
use Rattle.bg_ids.specs.PositionIds.{point_bits, side_bits}

zero_behind : (n : ℕ) (rest : List Bool) (d : Bool) → get_or (point_bits n ++ rest) n d ≡ false
zero_behind zero rest d = refl
zero_behind (suc n) rest d = zero_behind n rest d

one_before : (n k : ℕ) (rest : List Bool) (d : Bool) → k < n → get_or (point_bits n ++ rest) k d ≡ true
one_before zero k rest d h = absurd (omega (arith, h))
one_before (suc n) zero rest d h = refl
one_before (suc n) (suc k) rest d h = one_before n k rest d (omega (arith, h))

pub length-point : (n : ℕ) (rest : List Bool) → length (point_bits n ++ rest) ≡ n + 1 + length rest
length-point zero rest = omega arith
length-point (suc n) rest = omega (arith, length-point n rest)

-- there are only ones below a place
abbrev pub AreOnes : List Bool → ℕ → Type 0
AreOnes bits n = (k : ℕ) → k < n → get_or bits k false ≡ true

-- the first zero is behind the point's ones
pub first_zero : (bits rest : List Bool) (n place : ℕ) → AreOnes bits place → get_or bits place false ≡ false → bits ≡ point_bits n ++ rest
    → place ≡ n
first_zero bits rest n place ones none e =
    let not_more : place < n → ⊥ = λ more. absurd (cc (sym none ∙ ap (λ t. get_or t place false) e ∙ one_before n place rest false more)) in
    let not_less : n < place → ⊥ = λ less. absurd (cc (sym (ones n less) ∙ ap (λ t. get_or t n false) e ∙ zero_behind n rest false)) in
    omega (arith, not_more, not_less)

-- and they are not all of the bits
pub zero_comes : (bits rest : List Bool) (n place : ℕ) → AreOnes bits place → bits ≡ point_bits n ++ rest → n < place → ⊥
zero_comes bits rest n place ones e less = absurd (cc (sym (ones n less) ∙ ap (λ t. get_or t n false) e ∙ zero_behind n rest false))

-- of a side that has these points, and bits behind them, so many points were read: what is left of
-- the bits, the checkers that were read, how many of fifteen are left, and how many bits were read
pub record IsRead (bits : List Bool) (xs : List ℕ) (tail : List Bool) (n used : ℕ) (counts : List ℕ) (off : ℕ) : Type 0 where
  pub rest : drop used bits ≡ flat_map point_bits (drop n xs) ++ tail
  pub checkers : counts ≡ take n xs
  pub left : off + sum (take n xs) ≡ 15
  pub bits_read : used ≡ length (flat_map point_bits (take n xs))

-- that is so of each side that the bits may be of
abbrev pub IsReadSoFar : List Bool → ℕ → ℕ → List ℕ → ℕ → Type 0
IsReadSoFar bits n used counts off = (xs : List ℕ) (tail : List Bool) → length xs ≡ 25 → sum xs ≤ 15 → bits ≡ flat_map point_bits xs ++ tail
    → IsRead bits xs tail n used counts off

pub nothing_read : (bits : List Bool) → IsReadSoFar bits 0 0 [] 15
nothing_read bits xs tail l s e = record { rest = e; checkers = refl; left = refl; bits_read = refl }

-- the next point, where there is one
pub next_point : (bits tail : List Bool) (xs counts : List ℕ) (n used off : ℕ) → n < length xs → IsRead bits xs tail n used counts off
    → drop used bits ≡ point_bits (get_or xs n 0) ++ (flat_map point_bits (drop (suc n) xs) ++ tail)
next_point bits tail xs counts n used off h is =
    is.rest ∙ ap (λ t. flat_map point_bits t ++ tail) (drop-cons xs n 0 h)
    ∙ append_assoc (point_bits (get_or xs n 0)) (flat_map point_bits (drop (suc n) xs)) tail

sum_first : (x : ℕ) (xs : List ℕ) → sum (x ∷ xs) ≡ x + sum xs
sum_first x xs = sum_by-cons (λ k. k) x xs

pub next_sum : (xs : List ℕ) (n : ℕ) → n < length xs → sum (take (n + 1) xs) ≡ sum (take n xs) + get_or xs n 0
next_sum xs n h = sum_by_more (λ k. k) xs n 0 h

pub sum_within : (xs : List ℕ) (n : ℕ) → sum (take n xs) ≤ sum xs
sum_within xs n = sum_by-take-le (λ k. k) xs n

-- the next point has at most as many checkers as are left
pub next_left : (bits tail : List Bool) (xs counts : List ℕ) (n used off : ℕ) → n < length xs → sum xs ≤ 15
    → IsRead bits xs tail n used counts off → get_or xs n 0 ≤ off
next_left bits tail xs counts n used off h s is = omega (arith, is.left, next_sum xs n h, sum_within xs (n + 1), s)

drop_point : (n : ℕ) (rest : List Bool) → drop (suc n) (point_bits n ++ rest) ≡ rest
drop_point zero rest = refl
drop_point (suc n) rest = drop_point n rest

next : (n : ℕ) → n + 1 ≡ suc n
next n = add-one n

-- a point more was read
pub read_more : (bits tail : List Bool) (xs counts more : List ℕ) (n used off left count : ℕ) → n < length xs
    → IsRead bits xs tail n used counts off → count ≡ get_or xs n 0 → left + count ≡ off → more ≡ counts ++ count ∷ []
    → IsRead bits xs tail (n + 1) (used + (count + 1)) more left
read_more bits tail xs counts more n used off left count h is e taken added =
    let taken_more : take (n + 1) xs ≡ take n xs ++ count ∷ [] = take_more xs n 0 h ∙ ap (λ x. take n xs ++ x ∷ []) (sym e) in
    let behind : drop (count + 1) (drop used bits) ≡ flat_map point_bits (drop (suc n) xs) ++ tail =
    ap (drop (count + 1)) (next_point bits tail xs counts n used off h is ∙ ap (λ x. point_bits x ++ (flat_map point_bits (drop (suc n) xs) ++ tail)) (sym e))
    ∙ ap (λ k. drop k (point_bits count ++ (flat_map point_bits (drop (suc n) xs) ++ tail))) (next count) ∙ drop_point count (flat_map point_bits (drop (suc n) xs) ++ tail) in
    record {
      rest = sym (drop-drop (count + 1) used bits) ∙ behind ∙ ap (λ k. flat_map point_bits (drop k xs) ++ tail) (sym (next n));
      checkers = added ∙ ap (λ t. t ++ count ∷ []) is.checkers ∙ sym taken_more;
      left = omega (arith, is.left, taken, e, next_sum xs n h);
      bits_read = omega (
        arith,
        is.bits_read,
        ap (λ t. length (flat_map point_bits t)) taken_more,
        ap length (flat_map-append point_bits (take n xs) (count ∷ [])),
        length-append (flat_map point_bits (take n xs)) (point_bits count ++ []),
        length-point count [],
      );
    }

pub points_of_side : (counts : List ℕ) → length counts ≡ 26 → length (drop 1 counts) ≡ 25
points_of_side [] l = absurd (omega (arith, l))
points_of_side (x ∷ xs) l = omega (arith, l)

pub sum_of_side : (counts : List ℕ) → sum counts ≡ 15 → sum (drop 1 counts) ≤ 15
sum_of_side [] s = omega (arith, s)
sum_of_side (x ∷ xs) s = omega (arith, s, sum_first x xs)

-- what is read next of a side: its point, which has at most what is left of fifteen
pub record IsNext (bits : List Bool) (point used off : ℕ) (rest : List Bool) : Type 0 where
  pub behind : take (length bits - used) (drop used bits) ≡ point_bits point ++ rest
  pub left : point ≤ off
  pub few : point ≤ 15

pub slice_behind : (bits : List Bool) (used : ℕ) → take (length bits - used) (drop used bits) ≡ drop used bits
slice_behind bits used = take_all (length bits - used) (drop used bits) (omega (arith, length-drop used bits))

pub next_of_side : (bits rest : List Bool) (counts read : List ℕ) (n used off : ℕ) → n < 25 → IsReadSoFar bits n used read off
    → length counts ≡ 26 → sum counts ≡ 15 → bits ≡ side_bits counts ++ rest
    → IsNext bits (get_or (drop 1 counts) n 0) used off (flat_map point_bits (drop (suc n) (drop 1 counts)) ++ rest)
next_of_side bits rest counts read n used off h so_far l s e =
    let points = points_of_side counts l in
    let sum = sum_of_side counts s in
    let is = so_far (drop 1 counts) rest points sum e in
    let within : n < length (drop 1 counts) = omega (arith, h, points) in
    let left = next_left bits rest (drop 1 counts) read n used off within sum is in
    record { behind = slice_behind bits used ∙ next_point bits rest (drop 1 counts) read n used off within is; left = left; few = omega (arith, left, is.left) }

-- a point more of each side that the bits may be of
pub read_next : (bits : List Bool) (read more : List ℕ) (n used off left count step : ℕ) → n < 25 → IsReadSoFar bits n used read off
    → ((point : ℕ) (rest : List Bool) → point ≤ 15 → take (length bits - used) (drop used bits) ≡ point_bits point ++ rest → Some count ≡ Some point)
    → (count ≤ off) × (left ≡ off - count) → step ≡ count → more ≡ read ++ count ∷ []
    → IsReadSoFar bits (n + 1) (used + (step + 1)) more left
read_next bits read more n used off left count step h so_far tells taken is_step added xs tail points total e =
    let is = so_far xs tail points total e in
    let within : n < length xs = omega (arith, h, points) in
    let few = next_left bits tail xs read n used off within total is in
    let same : count ≡ get_or xs n 0 = cc (tells _ _ (omega (arith, few, is.left)) (slice_behind bits used ∙ next_point bits tail xs read n used off within is)) in
    let rest : left + count ≡ off = omega (arith, taken.0, taken.1) in
    rw is_step (read_more bits tail xs read more n used off left count within is same rest added)

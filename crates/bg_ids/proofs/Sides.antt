-- What the bits of a position tell of the board.
use Rattle.std.proofs.Common.{◌≡◌, ◌≤◌, ◌+◌, ◌-◌, ℕ, zero, suc, Bool, true, false, List, [], ◌∷◌, ◌++◌, length, drop, replicate, sum, refl, ap, sym, ◌∙◌, arith, append_assoc}
use Rattle.std.specs.List.{flat_map}
use Rattle.std.proofs.lemmas.List.{length-append, length-drop, length-replicate}
use Rattle.std.proofs.lemmas.List.Sums.{sum_by-cons}
use Rattle.bg_board.specs.Position.{Position, IsPosition, opponent, checkers}
use Rattle.bg_board.specs.declared.players.Player.{Player}
use Rattle.bg_board.specs.declared.players.Player.TheVariants.{X, O}
use Rattle.bg_ids.specs.PositionIds.{point_bits, side_bits, position_bits, position_text}
use Rattle.bg_ids.proofs.Inverses.{zeros, same_bits}

sum_first : (x : ℕ) (xs : List ℕ) → sum (x ∷ xs) ≡ x + sum xs
sum_first x xs = sum_by-cons (λ n. n) x xs

pub length-points : (xs : List ℕ) → length (flat_map point_bits xs) ≡ length xs + sum xs
length-points [] = refl
length-points (x ∷ xs) =
    length-append (point_bits x) (flat_map point_bits xs)
    ∙ omega (arith, length-points xs, length-append (replicate x true) (false ∷ []), length-replicate x true, sum_first x xs)

-- one point is told by its bits, whatever follows
pub same_point : (m n : ℕ) (s t : List Bool) → point_bits m ++ s ≡ point_bits n ++ t → (m ≡ n) × (s ≡ t)
same_point zero zero s t e = (refl, cc e)
same_point zero (suc n) s t e = absurd (cc e)
same_point (suc m) zero s t e = absurd (cc e)
same_point (suc m) (suc n) s t e =
    let rest : point_bits m ++ s ≡ point_bits n ++ t = cc e in
    let both = same_point m n s t rest in
    (ap suc both.0, both.1)

-- and so are as many points as there are
pub same_points : (xs ys : List ℕ) (s t : List Bool) → length xs ≡ length ys
    → flat_map point_bits xs ++ s ≡ flat_map point_bits ys ++ t → (xs ≡ ys) × (s ≡ t)
same_points [] [] s t l e = (refl, e)
same_points [] (y ∷ ys) s t l e = absurd (omega (arith, l))
same_points (x ∷ xs) [] s t l e = absurd (omega (arith, l))
same_points (x ∷ xs) (y ∷ ys) s t l e =
    let first = same_point x y (flat_map point_bits xs ++ s) (flat_map point_bits ys ++ t)
    (sym (append_assoc (point_bits x) (flat_map point_bits xs) s) ∙ e ∙ append_assoc (point_bits y) (flat_map point_bits ys) t) in
    let rest = same_points xs ys s t (omega (arith, l)) first.1 in
    (cc (first.0, rest.0), rest.1)

-- checkers that are off are the others of fifteen
pub same_counts : (a b : List ℕ) → length a ≡ 26 → length b ≡ 26 → sum a ≡ 15 → sum b ≡ 15 → drop 1 a ≡ drop 1 b → a ≡ b
same_counts [] b la lb sa sb e = absurd (omega (arith, la))
same_counts (m ∷ xs) [] la lb sa sb e = absurd (omega (arith, lb))
same_counts (m ∷ xs) (n ∷ ys) la lb sa sb e =
    let off : m ≡ n = omega (arith, sa, sb, ap sum e, sum_first m xs, sum_first n ys) in
    cc (off, e)

-- the checkers of a player of a position
pub side_points : (b : Position) (p : Player) → IsPosition b → length (checkers b p) ≡ 26
side_points b X is = is.x_points
side_points b O is = is.o_points

pub side_fifteen : (b : Position) (p : Player) → IsPosition b → sum (checkers b p) ≡ 15
side_fifteen b X is = is.x_fifteen
side_fifteen b O is = is.o_fifteen

boards_of : (b c : Position) → b.x ≡ c.x → b.o ≡ c.o → b ≡ c
boards_of b c x o =
    let both : ◌≡◌ {A = List ℕ × List ℕ} (b.x, b.o) (c.x, c.o) = cc (x, o) in
    ap (λ (q : List ℕ × List ℕ). record { x = q.0; o = q.1 }) both

pub same_board : (b c : Position) (p : Player) → checkers b (opponent p) ≡ checkers c (opponent p) → checkers b p ≡ checkers c p → b ≡ c
same_board b c X o x = boards_of b c x o
same_board b c O x o = boards_of b c x o

side_room : (counts : List ℕ) → length counts ≡ 26 → sum counts ≡ 15 → length (side_bits counts) ≤ 40
side_room [] l s = absurd (omega (arith, l))
side_room (m ∷ xs) l s = omega (arith, length-points xs, l, s, sum_first m xs)

-- a position has at most eighty bits
pub position_room : (b : Position) (p : Player) → IsPosition b → length (position_bits b p) ≤ 80
position_room b p is =
    omega (
      arith,
      length-append (side_bits (checkers b (opponent p))) (side_bits (checkers b p)),
      side_room (checkers b (opponent p)) (side_points b (opponent p) is) (side_fifteen b (opponent p) is),
      side_room (checkers b p) (side_points b p is) (side_fifteen b p is),
    )

points_alike : (b c : Position) (p : Player) → IsPosition b → IsPosition c
    → length (drop 1 (checkers b p)) ≡ length (drop 1 (checkers c p))
points_alike b c p ib ic =
    omega (arith, length-drop 1 (checkers b p), length-drop 1 (checkers c p), side_points b p ib, side_points c p ic)

counts_alike : (b c : Position) (p : Player) → IsPosition b → IsPosition c → drop 1 (checkers b p) ≡ drop 1 (checkers c p)
    → checkers b p ≡ checkers c p
counts_alike b c p ib ic e =
    same_counts _ _ (side_points b p ib) (side_points c p ic) (side_fifteen b p ib) (side_fifteen c p ic) e

-- a Position ID is that of one board
pub differ : (b c : Position) (p : Player) → IsPosition b → IsPosition c → position_text b p ≡ position_text c p → b ≡ c
differ b c p ib ic e =
    let x : ℕ = 80 - length (position_bits b p) in
    let y : ℕ = 80 - length (position_bits c p) in
    let bits = same_bits 10 (position_bits b p) (position_bits c p) x y (omega (arith, position_room b p ib)) (omega (arith, position_room c p ic)) e in
    let apart = sym (append_assoc (side_bits (checkers b (opponent p))) (side_bits (checkers b p)) (zeros x)) ∙ bits
    ∙ append_assoc (side_bits (checkers c (opponent p))) (side_bits (checkers c p)) (zeros y) in
    let other = same_points (drop 1 (checkers b (opponent p))) (drop 1 (checkers c (opponent p))) _ _
    (points_alike b c (opponent p) ib ic) apart in
    let own = same_points (drop 1 (checkers b p)) (drop 1 (checkers c p)) _ _ (points_alike b c p ib ic) other.1 in
    same_board b c p (counts_alike b c (opponent p) ib ic other.0) (counts_alike b c p ib ic own.0)

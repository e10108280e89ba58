-- Pip counts, point by point.
use Rattle.std.proofs.Common.{◌≡◌, ℕ, ◌+◌, ◌*◌, ◌<◌, ◌≤◌, List, [], ◌∷◌, length, sum, drop, get_or, ◌∙◌, ap, subst, sym, arith}
use Rattle.std.proofs.lemmas.List.{at_drop_more}
use Rattle.std.proofs.lemmas.List.Sums.{sum_by-cons}
use Rattle.std.proofs.Math.Nat.{mul-le-mul_right}
use Rattle.bg_board.specs.Position.{Position, IsPosition, checkers}
use Rattle.bg_board.specs.declared.players.Player.{Player}
use Rattle.bg_board.specs.declared.players.Player.TheVariants.{X, O}
use Rattle.bg_table.specs.Pips.{pips_from}

-- the checkers of one more point
pub pips_more : (counts : List ℕ) (point : ℕ) → point < length counts
    → pips_from point (drop point counts) ≡ point * get_or counts point 0 + pips_from (point + 1) (drop (point + 1) counts)
pips_more counts point within = at_drop_more (pips_from point) counts point 0 within

-- no checker counts more than the last point
pub pips_few : (last point : ℕ) (counts : List ℕ) → point + length counts ≤ last + 1 → pips_from point counts ≤ last * sum counts
pips_few last point [] few = omega arith
pips_few last point (count ∷ counts) few =
    let here : point * count ≤ last * count = mul-le-mul_right count (omega arith) in
    let rest = pips_few last (point + 1) counts (omega arith) in
    let both : last * (count + sum counts) ≡ last * count + last * sum counts = grind arith in
    let all : point * count + pips_from (point + 1) counts ≤ last * (count + sum counts) = omega arith in
    let one_more : sum (count ∷ counts) ≡ count + sum counts = sum_by-cons (λ x. x) count counts in
    subst (λ (n : ℕ). pips_from point (count ∷ counts) ≤ last * n) (sym one_more) all

pub checkers_of : (b : Position) (player : Player) → IsPosition b
    → (length (checkers b player) ≡ 26) × (sum (checkers b player) ≡ 15)
checkers_of b X h = (h.x_points, h.x_fifteen)
checkers_of b O h = (h.o_points, h.o_fifteen)

-- all checkers count at most 375, and there are 26 points
pub few_pips : (b : Position) (player : Player) (counts : List ℕ) → counts ≡ checkers b player → IsPosition b
    → (length counts ≡ 26) × (pips_from 0 counts ≤ 375)
few_pips b player counts is h =
    let of = checkers_of b player h in
    let long : length counts ≡ 26 = ap length is ∙ of.0 in
    let fifteen : sum counts ≡ 15 = ap sum is ∙ of.1 in
    let few = pips_few 25 0 counts (omega arith) in
    (long, subst (λ (n : ℕ). pips_from 0 counts ≤ 25 * n) fifteen few)

-- those counted so far, with one point more
pub pips_so_far : (b : Position) (player : Player) (counts : List ℕ) (point pips : ℕ) → counts ≡ checkers b player → IsPosition b
    → point < 26 → pips + pips_from point (drop point counts) ≡ pips_from 0 counts → pips + point * get_or counts point 0 ≤ 375
pips_so_far b player counts point pips is h within kept =
    let few = few_pips b player counts is h in
    let more = pips_more counts point (omega arith) in
    let low = few.1 in
    omega arith

-- What drawings tell of the cube.
use Rattle.std.proofs.Common.{◌≡◌, ℕ, ◌+◌, ◌≤◌, ◌<◌, ◌^◌, List, ◌++◌, drop, Option, Some, None, refl, sym, ◌∙◌, ap, arith}
use Rattle.std.specs.Prelude.{codes}
use Rattle.std.specs.Fmt.{decimal}
use Rattle.std.proofs.lemmas.List.{append_cancel_left}
use Rattle.bg_board.specs.declared.players.Player.{Player}
use Rattle.bg_board.specs.declared.players.Player.TheVariants.{X, O}
use Rattle.bg_match.specs.declared.phases.Cube.{Cube}
use Rattle.bg_match.specs.declared.phases.Phase.{Phase}
use Rattle.bg_match.specs.declared.phases.Phase.TheVariants as phase
use Rattle.bg_picture.specs.Elements.{element_text, group_end, group_start}
use Rattle.bg_picture.specs.Elements.Element.{Shape, Words}
use Rattle.bg_picture.specs.Laws.{SeenCube, seen_cube}
use Rattle.bg_picture.specs.Laws.SeenCube.{Offered, Beside}
use Rattle.bg_picture.specs.Places.{cube_height, half}
use Rattle.bg_picture.specs.Tables.{cube_at, cube_text}
use Rattle.bg_picture.proofs.DrawnParts.{four, shape_alike, words_alike}

-- the text of a cube, by where it lies
abbrev pub text_of : SeenCube → List ℕ
text_of (Offered p value) = cube_at (half p) 280 value
text_of (Beside owner value) = cube_at 20 (cube_height owner) value

pub cube_of : (p : Phase) (cube : Cube) → cube_text p cube ≡ text_of (seen_cube p cube)
unfolding cube_text
cube_of phase.Opening cube = refl
cube_of (phase.ToAct p) cube = refl
cube_of (phase.Doubled p) cube = refl
cube_of (phase.ToMove p dice) cube = refl
cube_of (phase.Resigned p level back) cube = refl
cube_of (phase.Over p) cube = refl

cube_before : (x y value : ℕ) (u : List ℕ) → cube_at x y value ++ u ≡ group_start (codes "cube")
    ++ (element_text (Shape (codes "cube") x y) ++ (element_text (Words x (y + 6) (decimal value)) ++ (codes "</g>" ++ u)))
unfolding cube_at group_end
cube_before x y value u =
    four (group_start (codes "cube")) (element_text (Shape (codes "cube") x y)) (element_text (Words x (y + 6) (decimal value))) (codes "</g>") u

record SameCube (x y m a b n : ℕ) (u v : List ℕ) : Type 0 where
  across : x ≡ a
  down : y ≡ b
  value : m ≡ n
  rest : u ≡ v

cube_alike : (x y m a b n : ℕ) (u v : List ℕ) → x < 2 ^ 64 → y < 2 ^ 64 → m < 2 ^ 64 → a < 2 ^ 64 → b < 2 ^ 64 → n < 2 ^ 64
    → cube_at x y m ++ u ≡ cube_at a b n ++ v → SameCube x y m a b n u v
cube_alike x y m a b n u v fx fy fm fa fb fn e =
    let ends : (x y m : ℕ) (u : List ℕ) → List ℕ = λ x y m u. element_text (Words x (y + 6) (decimal m)) ++ (codes "</g>" ++ u) in
    let all = append_cancel_left (group_start (codes "cube")) (element_text (Shape (codes "cube") x y) ++ ends x y m u)
    (element_text (Shape (codes "cube") a b) ++ ends a b n v) (sym (cube_before x y m u) ∙ (e ∙ cube_before a b n v)) in
    let same = shape_alike (codes "cube") (codes "cube") x y a b (ends x y m u) (ends a b n v) refl fx fy fa fb all in
    let here : ends x y m u ≡ ends x y n v =
    same.rest ∙ (ap (λ (q : ℕ). ends q b n v) (sym same.across) ∙ ap (λ (q : ℕ). ends x q n v) (sym same.down)) in
    let words = words_alike x (y + 6) m n (codes "</g>" ++ u) (codes "</g>" ++ v) fm fn here in
    record {
      across = same.across;
      down = same.down;
      value = words.0;
      rest = ap (drop 4) words.1;
    }

half_small : (p : Player) → half p < 2 ^ 64
half_small X = omega arith
half_small O = omega arith

height_small : (owner : Option Player) → cube_height owner < 2 ^ 64
height_small None = omega arith
height_small (Some X) = omega arith
height_small (Some O) = omega arith

same_side : (p q : Player) → half p ≡ half q → p ≡ q
same_side X X e = refl
same_side X O e = absurd (omega (arith, e))
same_side O X e = absurd (omega (arith, e))
same_side O O e = refl

on_board : (p : Player) → half p ≡ 20 → ⊥
on_board X e = omega (arith, e)
on_board O e = omega (arith, e)

same_height : (a b : Option Player) → cube_height a ≡ cube_height b → a ≡ b
same_height None None e = refl
same_height None (Some X) e = absurd (omega (arith, e))
same_height None (Some O) e = absurd (omega (arith, e))
same_height (Some X) None e = absurd (omega (arith, e))
same_height (Some O) None e = absurd (omega (arith, e))
same_height (Some X) (Some X) e = refl
same_height (Some X) (Some O) e = absurd (omega (arith, e))
same_height (Some O) (Some X) e = absurd (omega (arith, e))
same_height (Some O) (Some O) e = refl

abbrev pub shown : SeenCube → ℕ
shown (Offered p value) = value
shown (Beside owner value) = value

pub seen_alike : (a b : SeenCube) (u v : List ℕ) → shown a < 2 ^ 64 → shown b < 2 ^ 64 → text_of a ++ u ≡ text_of b ++ v → (a ≡ b) × (u ≡ v)
seen_alike (Offered p m) (Offered q n) u v fm fn e =
    let same = cube_alike (half p) 280 m (half q) 280 n u v (half_small p) (omega arith) fm (half_small q) (omega arith) fn e in
    (ap (λ (z : Player). Offered z m) (same_side p q same.across) ∙ ap (Offered q) same.value, same.rest)
seen_alike (Offered p m) (Beside owner n) u v fm fn e =
    let same = cube_alike (half p) 280 m 20 (cube_height owner) n u v (half_small p) (omega arith) fm (omega arith) (height_small owner) fn e in
    absurd (on_board p same.across)
seen_alike (Beside owner m) (Offered q n) u v fm fn e =
    let same = cube_alike 20 (cube_height owner) m (half q) 280 n u v (omega arith) (height_small owner) fm (half_small q) (omega arith) fn e in
    absurd (on_board q (sym same.across))
seen_alike (Beside a m) (Beside b n) u v fm fn e =
    let same = cube_alike 20 (cube_height a) m 20 (cube_height b) n u v (omega arith) (height_small a) fm (omega arith) (height_small b) fn e in
    (ap (λ (z : Option Player). Beside z m) (same_height a b same.down) ∙ ap (Beside b) same.value, same.rest)

pub shown_small : (p : Phase) (cube : Cube) → cube.value ≤ 128 → shown (seen_cube p cube) < 2 ^ 64
shown_small phase.Opening cube h = omega (arith, h)
shown_small (phase.ToAct p) cube h = omega (arith, h)
shown_small (phase.Doubled p) cube h = omega (arith, h)
shown_small (phase.ToMove p dice) cube h = omega (arith, h)
shown_small (phase.Resigned p level back) cube h = omega (arith, h)
shown_small (phase.Over p) cube h = omega (arith, h)

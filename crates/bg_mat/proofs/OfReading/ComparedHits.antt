-- A mark and a hit of which one is missing.
use Rattle.std.specs.Prelude.{◌≡◌, ◌==◌, ◌&&◌, ◌||◌, ℕ, ◌≤◌, Bool, true, false, List, ◌∷◌, IsTrue}
use Rattle.std.proofs.Common.{refl, sym, subst, arith}
use Rattle.bg_board.specs.FromTo.{FromTo}
use Rattle.bg_board.specs.Position.{Position}
use Rattle.bg_board.specs.declared.players.Player.{Player}
use Rattle.bg_mat.specs.ComparedHits.{HitsMarked, MarksHit}
use Rattle.bg_mat.specs.Turns.{is_hit, is_marked, is_reached}
use Rattle.bg_mat.specs.declared.movements.legs.Leg.{Leg}

same : (n : ℕ) → (n == n) ≡ true
same n = grind (arith)

-- anything follows from what is false
pub never : {A : Type 0} → IsTrue false → A
never h = absurd (cc h)

first : (b r : Bool) → b ≡ true → IsTrue (b || r)
first b r is = rw is refl

-- the first leg marks a hit where the steps don't hit
pub no_hit : (board : Position) (player : Player) (leg : Leg) (legs : List Leg) (steps : List FromTo)
    → leg.hits ≡ true → leg.step.to ≤ 25 → false ≡ is_hit board player steps leg.step.to
    → HitsMarked board player (leg ∷ legs) steps → IsTrue false
no_hit board player leg legs steps hits low none all =
    let marked : IsTrue (is_marked leg.step.to (leg ∷ legs)) =
    first (leg.hits && leg.step.to == leg.step.to) (is_marked leg.step.to legs) (rw hits (same leg.step.to)) in
    subst (λ (b : Bool). IsTrue b) (sym none) (all leg.step.to low marked)

-- the steps hit where the first of some ends, and no leg marks that
pub no_mark : (board : Position) (player : Player) (legs : List Leg) (steps : List FromTo) (step : FromTo) (ending : List FromTo)
    → step.to ≤ 25 → true ≡ is_hit board player steps step.to → false ≡ is_marked step.to legs
    → MarksHit board player legs steps (step ∷ ending) → IsTrue false
no_mark board player legs steps step ending low hit none all =
    let reached : IsTrue (is_reached step.to (step ∷ ending)) =
    first (step.to == step.to) (is_reached step.to ending) (same step.to) in
    subst (λ (b : Bool). IsTrue b) (sym none)
    (all step.to low reached (subst (λ (b : Bool). IsTrue b) hit refl))

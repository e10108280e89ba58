-- The hits of a turn, step by step.
use Rattle.std.specs.Prelude.{◌≡◌, ◌==◌, ◌&&◌, ◌||◌, ℕ, ◌-◌, Bool, true, false, not, nat_lt, List, [], ◌∷◌, ◌++◌}
use Rattle.std.proofs.Common.{refl, sym, ◌∙◌, ap, subst, arith}
use Rattle.bg_board.specs.FromTo.{FromTo}
use Rattle.bg_board.specs.Position.{Position, opponent, count}
use Rattle.bg_board.specs.declared.players.Player.{Player}
use Rattle.bg_mat.specs.Tellings.{is_new_hit}
use Rattle.bg_mat.specs.Turns.{HasHits, is_hit, is_marked, is_reached, steps_of}
use Rattle.bg_mat.specs.declared.movements.legs.Leg.{Leg}

-- the legs are these steps, with the marks of their hits
pub record AreLegsUpTo (board : Position) (player : Player) (steps : List FromTo) (legs : List Leg) : Type 0 where
  pub same : steps_of legs ≡ steps
  pub hits : (point : ℕ) → is_marked point legs ≡ is_hit board player steps point

pub steps_of-more : (legs : List Leg) (leg : Leg) → steps_of (legs ++ leg ∷ []) ≡ steps_of legs ++ leg.step ∷ []
steps_of-more [] leg = refl
steps_of-more (first ∷ legs) leg = ap (λ (xs : List FromTo). first.step ∷ xs) (steps_of-more legs leg)

or_assoc : (a b c : Bool) → (a || (b || c)) ≡ ((a || b) || c)
or_assoc true b c = refl
or_assoc false b c = refl

or_none : (a : Bool) → (a || false) ≡ a
or_none true = refl
or_none false = refl

is_marked-more : (point : ℕ) (legs : List Leg) (leg : Leg)
    → is_marked point (legs ++ leg ∷ []) ≡ (is_marked point legs || (leg.hits && leg.step.to == point))
is_marked-more point [] leg = or_none (leg.hits && leg.step.to == point)
is_marked-more point (first ∷ legs) leg =
    ap (λ (b : Bool). (first.hits && first.step.to == point) || b) (is_marked-more point legs leg)
    ∙ or_assoc (first.hits && first.step.to == point) (is_marked point legs) (leg.hits && leg.step.to == point)

is_reached-more : (point : ℕ) (steps : List FromTo) (step : FromTo)
    → is_reached point (steps ++ step ∷ []) ≡ (is_reached point steps || step.to == point)
is_reached-more point [] step = or_none (step.to == point)
is_reached-more point (first ∷ steps) step =
    ap (λ (b : Bool). first.to == point || b) (is_reached-more point steps step)
    ∙ or_assoc (first.to == point) (is_reached point steps) (step.to == point)

-- of the point where a step ends, and of any other
new_hit : (e a b r : Bool) → (a && (b && r) || ((a && (b && not r)) && true)) ≡ (a && (b && (r || true)))
new_hit e true true true = refl
new_hit e true true false = refl
new_hit e true false r = refl
new_hit e false b r = refl

old_hit : (a b r h : Bool) → (a && (b && r) || (h && false)) ≡ (a && (b && (r || false)))
old_hit true true true h = refl
old_hit true true false true = refl
old_hit true true false false = refl
old_hit true false r true = refl
old_hit true false r false = refl
old_hit false b r true = refl
old_hit false b r false = refl

eq_of : (a b : ℕ) → (a == b) ≡ true → a ≡ b
eq_of a b h = grind (arith, h)

at_point : (board : Position) (player : Player) (steps : List FromTo) (step : FromTo) (point : ℕ) (e : Bool)
    → (step.to == point) ≡ e
    → (is_hit board player steps point || (is_new_hit board player steps step && e))
    ≡ (nat_lt 0 point && (count board (opponent player) (25 - point) == 1 && (is_reached point steps || e)))
at_point board player steps step point true same =
    let is : step.to ≡ point = eq_of step.to point same in
    subst (λ (p : ℕ). (is_hit board player steps p || (is_new_hit board player steps step && true))
    ≡ (nat_lt 0 p && (count board (opponent player) (25 - p) == 1 && (is_reached p steps || true)))) is
    (new_hit true (nat_lt 0 step.to) (count board (opponent player) (25 - step.to) == 1) (is_reached step.to steps))
at_point board player steps step point false other =
    old_hit (nat_lt 0 point) (count board (opponent player) (25 - point) == 1) (is_reached point steps)
    (is_new_hit board player steps step)

none : (a b : Bool) → false ≡ (a && (b && false))
none true true = refl
none true false = refl
none false b = refl

-- no step, and no leg
pub no_legs : (board : Position) (player : Player) → AreLegsUpTo board player [] []
no_legs board player = record {
  same = refl;
  hits = λ point. none (nat_lt 0 point) (count board (opponent player) (25 - point) == 1);
}

-- one step more
pub leg_more : (board : Position) (player : Player) (steps : List FromTo) (legs : List Leg) (step : FromTo) (h : Bool)
    → h ≡ is_new_hit board player steps step → AreLegsUpTo board player steps legs
    → AreLegsUpTo board player (steps ++ step ∷ []) (legs ++ record { step = step; hits = h } ∷ [])
leg_more board player steps legs step h is are = record {
  same = steps_of-more legs (record { step = step; hits = h }) ∙ ap (λ (xs : List FromTo). xs ++ step ∷ []) are.same;
  hits = λ point.
      is_marked-more point legs (record { step = step; hits = h })
      ∙ (rw (are.hits point, is) (at_point board player steps step point (step.to == point) refl)
      ∙ ap (λ (r : Bool). nat_lt 0 point && (count board (opponent player) (25 - point) == 1 && r))
      (sym (is_reached-more point steps step)));
}

-- all legs
pub all_hits : (board : Position) (player : Player) (steps : List FromTo) (legs : List Leg)
    → AreLegsUpTo board player steps legs → HasHits board player legs steps
all_hits board player steps legs are = λ point low. are.hits point

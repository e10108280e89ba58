-- What every standing keeps, phase by phase.
use Rattle.std.proofs.Common.{◌≡◌, ℕ, zero, suc, ◌+◌, ◌*◌, ◌^◌, ◌<◌, ◌≤◌, Bool, Some, None, refl, sym, ◌∙◌, ap, arith}
use Rattle.std.proofs.Common.{◌↔◌, List, [], ◌∷◌, eqb, ◌||◌, true, false, inl, inr}
use Rattle.std.proofs.lemmas.Bool.{cases_lt, or_cases, agree_below_at}
use Rattle.std.proofs.lemmas.Bool.Decides.{nat_tests}
use Rattle.std.specs.Prelude.{IsTrue}
use Rattle.std.specs.Int.{IsPowerOfTwo, is_power_of_two}
use Rattle.std.specs.Int.Count.{ones}
use Rattle.std.proofs.Math.Pow.{pow_mono}
use Rattle.std.proofs.Math.Nat.{pow-succ'}
use Rattle.bg_board.specs.Position.{Position}
use Rattle.bg_board.specs.declared.players.Player.{Player}
use Rattle.bg_match.specs.declared.phases.Phase.{Phase}
use Rattle.bg_match.specs.declared.phases.Phase.TheVariants.{Opening, ToAct, Doubled, ToMove, Resigned, Over}
use Rattle.bg_match.specs.Limits.{greatest_cube}
use Rattle.bg_match.specs.Terms.{match_length}
use Rattle.bg_match.specs.State.{State, IsState, AreScoresOf, IsCubeOf, IsRunning}

-- while the match goes on both scores are below the match length
pub running_scores : (ph : Phase) (g x o : ℕ) → IsRunning ph → AreScoresOf ph g x o → (x < g) × (o < g)
running_scores Opening g x o r h = h
running_scores (ToAct p) g x o r h = h
running_scores (Doubled p) g x o r h = h
running_scores (ToMove p d) g x o r h = h
running_scores (Resigned p l b) g x o r h = h
running_scores (Over p) g x o r h = absurd r

pub scores_running : (ph : Phase) (g x o : ℕ) → IsRunning ph → (x < g) × (o < g) → AreScoresOf ph g x o
scores_running Opening g x o r h = h
scores_running (ToAct p) g x o r h = h
scores_running (Doubled p) g x o r h = h
scores_running (ToMove p d) g x o r h = h
scores_running (Resigned p l b) g x o r h = h
scores_running (Over p) g x o r h = absurd r

-- another phase in which the match goes on, where the cube is allowed
pub IsState-phase : (s : State) (ph : Phase) → IsRunning s.phase → IsRunning ph → IsCubeOf ph s.cube.value → IsState s → IsState (record s { phase = ph })
IsState-phase s ph from to cube h = record {
  shortest = h.shortest;
  longest = h.longest;
  cube_value = h.cube_value;
  cube_limit = cube;
  middle = h.middle;
  scores = scores_running ph (match_length s.terms) s.x_score s.o_score to (running_scores s.phase (match_length s.terms) s.x_score s.o_score from h.scores);
  first_game = h.first_game;
  games = h.games;
}

-- one of the powers of two with these exponents
abbrev is_power_in : List ℕ → ℕ → Bool
is_power_in [] v = false
is_power_in (k ∷ ks) v = eqb (2 ^ k) v || is_power_in ks v

power_from_test : (ks : List ℕ) (v : ℕ) → is_power_in ks v ≡ true → IsPowerOfTwo v
power_from_test [] v h = cc
power_from_test (k ∷ ks) v h = elim (or_cases (eqb (2 ^ k) v) (is_power_in ks v) h) [
  | inl here ↦ (k, (let e : 2 ^ k ≡ v = grind (arith, nat_tests) in sym e))
  | inr later ↦ power_from_test ks v later
]

-- the greatest cube is a power of two
limit_is_power : IsPowerOfTwo greatest_cube
limit_is_power = power_from_test (0 ∷ 1 ∷ 2 ∷ 3 ∷ 4 ∷ 5 ∷ 6 ∷ 7 ∷ []) greatest_cube refl

-- the double of a power of two is at most a greater power
doubled_power : (k e : ℕ) → 2 ^ k < 2 ^ e → 2 * 2 ^ k ≤ 2 ^ e
doubled_power k e h = elim (cases_lt k e) [
  | inl less ↦ (let most : 2 ^ suc k ≤ 2 ^ e = pow_mono less in let twice = pow-succ' 2 k in omega arith)
  | inr more ↦ (let least : 2 ^ e ≤ 2 ^ k = pow_mono more in absurd (omega arith))
]

-- a value of the cube below its limit may be doubled
doubled_limit : (limit k : ℕ) → IsPowerOfTwo limit → 2 ^ k < limit → 2 * 2 ^ k ≤ limit
doubled_limit limit k (e, is) h = rw is (doubled_power k e (rw is at h))

-- the cube is taken
pub IsState-taken : (s : State) (q p : Player) → s.phase ≡ Doubled q → IsState s → IsState (record s { phase = ToAct p; cube = record { value = 2 * s.cube.value; owner = Some q } })
IsState-taken s q p is h =
    let limit : s.cube.value < greatest_cube = rw is at h.cube_limit in
    let below : 2 ^ h.cube_value.0 < greatest_cube = rw h.cube_value.1 at limit in
    record {
      shortest = h.shortest;
      longest = h.longest;
      cube_value = (suc h.cube_value.0, ap (λ v. 2 * v) h.cube_value.1 ∙ sym (pow-succ' 2 h.cube_value.0));
      cube_limit = rw h.cube_value.1 (doubled_limit greatest_cube h.cube_value.0 limit_is_power below);
      middle = (λ w. cc, λ w. absurd (omega arith));
      scores = rw is at h.scores;
      first_game = h.first_game;
      games = h.games;
    }

-- the next game
pub IsState-next : (s : State) (b : Position) (crawford : Bool) (x o : ℕ) → IsState s → x < match_length s.terms → o < match_length s.terms → s.x_score + s.o_score + 1 ≤ x + o → IsState (record { terms = s.terms; board = b; phase = Opening; cube = record { value = 1; owner = None }; x_score = x; o_score = o; crawford = crawford; game = s.game + 1 })
IsState-next s b crawford x o h low_x low_o more = record {
  shortest = h.shortest;
  longest = h.longest;
  cube_value = (0, refl);
  cube_limit = omega arith;
  middle = (λ _. refl, λ _. refl);
  scores = (low_x, low_o);
  first_game = omega arith;
  games = (let g = h.games in omega arith);
}

test_from_power : (k v : ℕ) → v < 256 → v ≡ 2 ^ k → is_power_in (0 ∷ 1 ∷ 2 ∷ 3 ∷ 4 ∷ 5 ∷ 6 ∷ 7 ∷ []) v ≡ true
test_from_power zero v h e = rw e refl
test_from_power (suc zero) v h e = rw e refl
test_from_power (suc (suc zero)) v h e = rw e refl
test_from_power (suc (suc (suc zero))) v h e = rw e refl
test_from_power (suc (suc (suc (suc zero)))) v h e = rw e refl
test_from_power (suc (suc (suc (suc (suc zero))))) v h e = rw e refl
test_from_power (suc (suc (suc (suc (suc (suc zero)))))) v h e = rw e refl
test_from_power (suc (suc (suc (suc (suc (suc (suc zero))))))) v h e = rw e refl
test_from_power (suc (suc (suc (suc (suc (suc (suc (suc k)))))))) v h e =
    let few : 8 ≤ (suc (suc (suc (suc (suc (suc (suc (suc k)))))))) = omega arith in
    let large : 2 ^ 8 ≤ 2 ^ (suc (suc (suc (suc (suc (suc (suc (suc k)))))))) = pow_mono few in
    absurd (omega arith)

-- below 256 the library's test says the same
pub power_of_two : (v : ℕ) → v < 256 → IsTrue (is_power_of_two v) ↔ IsPowerOfTwo v
unfolding ones
power_of_two v low =
    let same : is_power_of_two v ≡ is_power_in (0 ∷ 1 ∷ 2 ∷ 3 ∷ 4 ∷ 5 ∷ 6 ∷ 7 ∷ []) v =
    agree_below_at is_power_of_two (is_power_in (0 ∷ 1 ∷ 2 ∷ 3 ∷ 4 ∷ 5 ∷ 6 ∷ 7 ∷ [])) 256 v refl low in
    (λ t. power_from_test (0 ∷ 1 ∷ 2 ∷ 3 ∷ 4 ∷ 5 ∷ 6 ∷ 7 ∷ []) v (sym same ∙ t), λ p. same ∙ test_from_power p.0 v low p.1)

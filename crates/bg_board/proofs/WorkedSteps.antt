-- Worked steps: what the definitions say of them.
use Rattle.std.proofs.Common.{◌≡◌, ℕ, [], ◌∷◌, refl, arith}
use Rattle.bg_board.specs.Position.{Position, start_position}
use Rattle.bg_board.specs.FromTo.{FromTo}
use Rattle.bg_board.specs.Step.{IsStep, IsStepFault, after_step}
use Rattle.bg_board.specs.declared.players.Player.TheVariants.{X}
use Rattle.bg_board.specs.declared.steps.StepFault.TheVariants.{NoChecker, BarFirst, WrongLanding, Blocked, NotAllHome, HigherChecker}

abbrev step : ℕ → ℕ → FromTo
step f t = record { from = f; to = t }

-- X has two checkers on 8, and O a single one on his 20, which is X's 5
abbrev single : Position
single = record {
  x = 13 ∷ 0 ∷ 0 ∷ 0 ∷ 0 ∷ 0 ∷ 0 ∷ 0 ∷ 2 ∷ 0 ∷ 0 ∷ 0 ∷ 0 ∷ 0 ∷ 0 ∷ 0 ∷ 0 ∷ 0 ∷ 0 ∷ 0 ∷ 0 ∷ 0 ∷ 0 ∷ 0 ∷ 0 ∷ 0 ∷ [];
  o = 0 ∷ 0 ∷ 0 ∷ 0 ∷ 0 ∷ 0 ∷ 14 ∷ 0 ∷ 0 ∷ 0 ∷ 0 ∷ 0 ∷ 0 ∷ 0 ∷ 0 ∷ 0 ∷ 0 ∷ 0 ∷ 0 ∷ 0 ∷ 1 ∷ 0 ∷ 0 ∷ 0 ∷ 0 ∷ 0 ∷ [];
}

-- a three leads from 8 to 5
hits : IsStep single X (step 8 5) 3
hits = record {
  starts = omega arith;
  downward = omega arith;
  may_start = (omega arith, λ bar. omega arith);
  landing = refl;
  unblocked = λ on. omega arith;
  home = λ off. omega arith;
  highest = λ off less. omega arith;
}

-- the checker there is hit, and goes to O's bar
abbrev after_hit : Position
after_hit = record {
  x = 13 ∷ 0 ∷ 0 ∷ 0 ∷ 0 ∷ 1 ∷ 0 ∷ 0 ∷ 1 ∷ 0 ∷ 0 ∷ 0 ∷ 0 ∷ 0 ∷ 0 ∷ 0 ∷ 0 ∷ 0 ∷ 0 ∷ 0 ∷ 0 ∷ 0 ∷ 0 ∷ 0 ∷ 0 ∷ 0 ∷ [];
  o = 0 ∷ 0 ∷ 0 ∷ 0 ∷ 0 ∷ 0 ∷ 14 ∷ 0 ∷ 0 ∷ 0 ∷ 0 ∷ 0 ∷ 0 ∷ 0 ∷ 0 ∷ 0 ∷ 0 ∷ 0 ∷ 0 ∷ 0 ∷ 0 ∷ 0 ∷ 0 ∷ 0 ∷ 0 ∷ 1 ∷ [];
}

hit : after_step single X (step 8 5) ≡ after_hit
hit = refl

-- the start, but one of X's checkers on 24 stands on the bar
abbrev on_bar : Position
on_bar = record {
  x = 0 ∷ 0 ∷ 0 ∷ 0 ∷ 0 ∷ 0 ∷ 5 ∷ 0 ∷ 3 ∷ 0 ∷ 0 ∷ 0 ∷ 0 ∷ 5 ∷ 0 ∷ 0 ∷ 0 ∷ 0 ∷ 0 ∷ 0 ∷ 0 ∷ 0 ∷ 0 ∷ 0 ∷ 1 ∷ 1 ∷ [];
  o = 0 ∷ 0 ∷ 0 ∷ 0 ∷ 0 ∷ 0 ∷ 5 ∷ 0 ∷ 3 ∷ 0 ∷ 0 ∷ 0 ∷ 0 ∷ 5 ∷ 0 ∷ 0 ∷ 0 ∷ 0 ∷ 0 ∷ 0 ∷ 0 ∷ 0 ∷ 0 ∷ 0 ∷ 2 ∷ 0 ∷ [];
}

-- with a five it enters on 20
enters : IsStep on_bar X (step 25 20) 5
enters = record {
  starts = omega arith;
  downward = omega arith;
  may_start = (omega arith, λ bar. omega arith);
  landing = refl;
  unblocked = λ on. omega arith;
  home = λ off. omega arith;
  highest = λ off less. omega arith;
}

-- and stands there then
abbrev after_entry : Position
after_entry = record {
  x = 0 ∷ 0 ∷ 0 ∷ 0 ∷ 0 ∷ 0 ∷ 5 ∷ 0 ∷ 3 ∷ 0 ∷ 0 ∷ 0 ∷ 0 ∷ 5 ∷ 0 ∷ 0 ∷ 0 ∷ 0 ∷ 0 ∷ 0 ∷ 1 ∷ 0 ∷ 0 ∷ 0 ∷ 1 ∷ 0 ∷ [];
  o = 0 ∷ 0 ∷ 0 ∷ 0 ∷ 0 ∷ 0 ∷ 5 ∷ 0 ∷ 3 ∷ 0 ∷ 0 ∷ 0 ∷ 0 ∷ 5 ∷ 0 ∷ 0 ∷ 0 ∷ 0 ∷ 0 ∷ 0 ∷ 0 ∷ 0 ∷ 0 ∷ 0 ∷ 2 ∷ 0 ∷ [];
}

entered : after_step on_bar X (step 25 20) ≡ after_entry
entered = refl

-- before it no other checker may move
bar_first : IsStepFault BarFirst on_bar X (step 24 18) 6
bar_first = (omega arith, omega arith, λ same. omega arith)

-- a six does not enter: O's five checkers on his 6 hold X's 19
shut_out : IsStepFault Blocked on_bar X (step 25 19) 6
shut_out = ((omega arith, λ bar. refl), refl, omega arith, omega arith)

-- at the start nothing stands on 12
no_checker : IsStepFault NoChecker start_position X (step 12 11) 1
no_checker = refl

-- a six does not lead from 24 to 19
wrong_die : IsStepFault WrongLanding start_position X (step 24 19) 6
wrong_die = ((omega arith, λ bar. omega arith), λ lands. omega arith)

-- X's last two checkers stand on 5 and on 3
abbrev five_and_three : Position
five_and_three = record {
  x = 13 ∷ 0 ∷ 0 ∷ 1 ∷ 0 ∷ 1 ∷ 0 ∷ 0 ∷ 0 ∷ 0 ∷ 0 ∷ 0 ∷ 0 ∷ 0 ∷ 0 ∷ 0 ∷ 0 ∷ 0 ∷ 0 ∷ 0 ∷ 0 ∷ 0 ∷ 0 ∷ 0 ∷ 0 ∷ 0 ∷ [];
  o = 15 ∷ 0 ∷ 0 ∷ 0 ∷ 0 ∷ 0 ∷ 0 ∷ 0 ∷ 0 ∷ 0 ∷ 0 ∷ 0 ∷ 0 ∷ 0 ∷ 0 ∷ 0 ∷ 0 ∷ 0 ∷ 0 ∷ 0 ∷ 0 ∷ 0 ∷ 0 ∷ 0 ∷ 0 ∷ 0 ∷ [];
}

-- a three bears off the one on 3
off_by_its_number : IsStep five_and_three X (step 3 0) 3
off_by_its_number = record {
  starts = omega arith;
  downward = omega arith;
  may_start = (omega arith, λ bar. omega arith);
  landing = refl;
  unblocked = λ on. omega arith;
  home = λ off. omega arith;
  highest = λ off less. omega arith;
}

-- a four does not: another one stands higher
off_from_below : IsStepFault HigherChecker five_and_three X (step 3 0) 4
off_from_below = ((omega arith, λ bar. omega arith), refl, refl, refl, omega arith, omega arith)

-- a six bears off the one on 5, the highest
off_from_the_highest : IsStep five_and_three X (step 5 0) 6
off_from_the_highest = record {
  starts = omega arith;
  downward = omega arith;
  may_start = (omega arith, λ bar. omega arith);
  landing = refl;
  unblocked = λ on. omega arith;
  home = λ off. omega arith;
  highest = λ off less. omega arith;
}

-- X's last two checkers stand on 7 and on 3
abbrev one_outside : Position
one_outside = record {
  x = 13 ∷ 0 ∷ 0 ∷ 1 ∷ 0 ∷ 0 ∷ 0 ∷ 1 ∷ 0 ∷ 0 ∷ 0 ∷ 0 ∷ 0 ∷ 0 ∷ 0 ∷ 0 ∷ 0 ∷ 0 ∷ 0 ∷ 0 ∷ 0 ∷ 0 ∷ 0 ∷ 0 ∷ 0 ∷ 0 ∷ [];
  o = 15 ∷ 0 ∷ 0 ∷ 0 ∷ 0 ∷ 0 ∷ 0 ∷ 0 ∷ 0 ∷ 0 ∷ 0 ∷ 0 ∷ 0 ∷ 0 ∷ 0 ∷ 0 ∷ 0 ∷ 0 ∷ 0 ∷ 0 ∷ 0 ∷ 0 ∷ 0 ∷ 0 ∷ 0 ∷ 0 ∷ [];
}

-- no checker goes off while one stands above 6
not_home : IsStepFault NotAllHome one_outside X (step 3 0) 3
not_home = ((omega arith, λ bar. omega arith), refl, refl, omega arith)

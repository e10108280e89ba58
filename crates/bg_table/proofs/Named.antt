-- Which step is named where a turn is refused.
use Rattle.std.proofs.Common.{◌≡◌, ◌⊎◌, ◌≢◌, ℕ, zero, suc, ◌-◌, ◌<◌, ◌≤◌, eqb, Option, Some, List, [], ◌∷◌, ◌++◌, length, take, replicate, refl, sym, ◌∙◌, ap, arith, inl, inr, append_assoc}
use Rattle.std.specs.Prelude.{codes, slice_get}
use Rattle.std.specs.List.{AllByRecursion}
use Rattle.std.proofs.lemmas.Bool.{cases_eq, cases_lt, cond-true, cond-false, eq-eqb, ne_eqb}
use Rattle.std.proofs.lemmas.List.{take_all}
use Rattle.bg_board.specs.FromTo.{FromTo}
use Rattle.bg_board.specs.Position.{Position}
use Rattle.bg_board.specs.Step.{IsStep, IsStepFault, after_step}
use Rattle.bg_board.specs.declared.players.Player.{Player}
use Rattle.bg_board.specs.declared.steps.StepFault.{StepFault}
use Rattle.bg_board.specs.declared.steps.StepFault.TheVariants as fault
use Rattle.bg_turns.proofs.Orders.{dice_list-double, dice_list-two, in_either_order, in_only_order}
use Rattle.bg_turns.specs.Dice.{dice_list, first_pips, larger_die, second_pips}
use Rattle.bg_turns.specs.InOrder.{IsInOrder}
use Rattle.bg_turns.specs.Turn.{IsPlayable}
use Rattle.bg_turns.specs.declared.throws.Dice.{Dice}
use Rattle.bg_text.specs.Entries.EntryText.{step_text}
use Rattle.bg_table.specs.Laws.{NamesStep}
use Rattle.bg_table.specs.DiceLeft.{judging_pips}
use Rattle.bg_table.specs.StepRefusals.{IsRefusedAt, reason_words, refusal_words, refused_words}
use Rattle.bg_table.specs.declared.dice_left.DiceLeft.{DiceLeft}
use Rattle.bg_table.specs.declared.step_refusals.StepRefusal.{StepRefusal}

-- the die is one of the two
abbrev IsThrown : Dice → ℕ → Type 0
IsThrown dice die = (die ≡ first_pips dice) ⊎ (die ≡ second_pips dice)

-- a step that one of the two can play is played by the die that shows its pips
by_pips : (b : Position) (player : Player) (step : FromTo) (die pips : ℕ) → pips ≡ step.from - step.to → IsStep b player step die
    → IsStep b player step pips
by_pips b player step die pips is h = let low = h.downward in record {
  starts = h.starts;
  downward = h.downward;
  may_start = h.may_start;
  landing = omega (arith, is, low);
  unblocked = h.unblocked;
  home = h.home;
  highest = λ off beyond. absurd (omega (arith, is, low, off, beyond));
}

-- or else by a die that is no smaller
by_larger : (b : Position) (player : Player) (step : FromTo) (die larger : ℕ) → die ≢ step.from - step.to → die ≤ larger
    → IsStep b player step die → IsStep b player step larger
by_larger b player step die larger other least h =
    let low = h.downward in
    let lands = h.landing in
    let beyond : step.from < die = omega (arith, other, low, lands) in
    record {
      starts = h.starts;
      downward = h.downward;
      may_start = h.may_start;
      landing = omega (arith, lands, beyond, least);
      unblocked = h.unblocked;
      home = h.home;
      highest = λ off further. h.highest off beyond;
    }

-- the die that judges a step can play it, if one of the two can
judged : (b : Position) (player : Player) (dice : Dice) (step : FromTo) (die : ℕ) → IsThrown dice die → IsStep b player step die
    → IsStep b player step (judging_pips step dice)
judged b player dice step die thrown h = elim (cases_eq (first_pips dice) (step.from - step.to)) [
  | inl first ↦
      rw (cond-true (eqb (first_pips dice) (step.from - step.to)) _ _ (eq-eqb _ _ first)) (by_pips b player step die (first_pips dice) first h)
  | inr not_first ↦ elim (cases_eq (second_pips dice) (step.from - step.to)) [
    | inl second ↦
        rw (cond-false (eqb (first_pips dice) (step.from - step.to)) _ _ (ne_eqb _ _ not_first), cond-true (eqb (second_pips dice) (step.from - step.to)) _ _ (eq-eqb _ _ second))
        (by_pips b player step die (second_pips dice) second h)
    | inr not_second ↦
        rw (cond-false (eqb (first_pips dice) (step.from - step.to)) _ _ (ne_eqb _ _ not_first), cond-false (eqb (second_pips dice) (step.from - step.to)) _ _ (ne_eqb _ _ not_second))
        (by_larger b player step die (larger_die dice) (neither thrown not_first not_second) (least thrown) h)
  ]
] where
  neither : IsThrown dice die → first_pips dice ≢ step.from - step.to → second_pips dice ≢ step.from - step.to → die ≢ step.from - step.to
  neither (inl is) not_first not_second same = not_first (sym is ∙ same)
  neither (inr is) not_first not_second same = not_second (sym is ∙ same)

  least : IsThrown dice die → die ≤ larger_die dice
  least (inl is) = omega (arith, is)
  least (inr is) = omega (arith, is)

-- the steps are each legal by one of the two dice
abbrev AreThrown : Position → Player → Dice → List FromTo → Type 0
AreThrown b player dice [] = Unit {0}
AreThrown b player dice (step ∷ rest) =
    IsStep b player step (judging_pips step dice) × AreThrown (after_step b player step) player dice rest

thrown_in_order : (b : Position) (player : Player) (dice : Dice) (left : List ℕ) (steps : List FromTo) → AllByRecursion (IsThrown dice) left
    → IsInOrder b player left steps → AreThrown b player dice steps
thrown_in_order b player dice left [] each h = tt
thrown_in_order b player dice [] (step ∷ rest) each h = absurd h
thrown_in_order b player dice (die ∷ left) (step ∷ rest) each h =
    (judged b player dice step die each.0 h.0, thrown_in_order (after_step b player step) player dice left rest each.1 h.1)

thrown : (b : Position) (player : Player) (dice : Dice) (steps : List FromTo) → IsPlayable b player (dice_list dice) steps
    → AreThrown b player dice steps
thrown b player dice steps h = elim (cases_eq (first_pips dice) (second_pips dice)) [
  | inl same ↦
      thrown_in_order b player dice (replicate 4 (first_pips dice)) steps (inl refl, (inl refl, (inl refl, (inl refl, tt))))
      (in_only_order 4 b player (first_pips dice) steps (rw (dice_list-double dice same) at h))
  | inr other ↦ elim (in_either_order b player (first_pips dice) (second_pips dice) steps (rw (dice_list-two dice other) at h)) [
    | inl forth ↦ thrown_in_order b player dice (first_pips dice ∷ second_pips dice ∷ []) steps (inl refl, (inr refl, tt)) forth
    | inr back ↦ thrown_in_order b player dice (second_pips dice ∷ first_pips dice ∷ []) steps (inr refl, (inl refl, tt)) back
  ]
]

-- a legal step has no fault
no_fault : (b : Position) (player : Player) (step : FromTo) (die : ℕ) (why : StepFault) → IsStep b player step die
    → IsStepFault why b player step die → ⊥
no_fault b player step die fault.NoChecker h is = let has = h.may_start.0 in omega (arith, has, is)
no_fault b player step die fault.BarFirst h is = is.2 (h.may_start.1 is.1)
no_fault b player step die fault.WrongLanding h is = is.1 h.landing
no_fault b player step die fault.Blocked h is = let few = h.unblocked is.2 in let many = is.3 in omega (arith, few, many)
no_fault b player step die fault.NotAllHome h is = let none = h.home is.2 in let some = is.3 in omega (arith, none, some)
no_fault b player step die fault.HigherChecker h is = let none = h.highest is.2 is.4 in let some = is.5 in omega (arith, none, some)

-- behind steps that can be played the next one is refused
refused : (b : Position) (player : Player) (dice : Dice) (left : DiceLeft) (steps : List FromTo) (n : ℕ) (refusal : Option StepRefusal)
    → n < length steps → AreThrown b player dice (take n steps) → IsRefusedAt b player dice left steps n refusal
    → (one : StepRefusal) × (refusal ≡ Some one) × (slice_get steps n ≡ Some one.step)
refused b player dice left [] n refusal within played h = absurd (omega arith)
refused b player dice left (step ∷ rest) zero refusal within played h = (record { step = step; tried = b; fault = h.0 }, h.2, refl)
refused b player dice left (step ∷ rest) (suc n) refusal within played (inl h) =
    refused (after_step b player step) player dice left rest n refusal (omega arith) played.1 h.1
refused b player dice left (step ∷ rest) (suc n) refusal within played (inr h) =
    absurd (no_fault b player step (judging_pips step dice) h.0 played.0 h.1)

-- a turn that can't be played has a step behind those that can
more_steps : (b : Position) (player : Player) (dice : List ℕ) (steps : List FromTo) (n : ℕ) → n ≤ length steps
    → IsPlayable b player dice (take n steps) → (IsPlayable b player dice steps → ⊥) → n < length steps
more_steps b player dice steps n within played not_all = elim (cases_lt n (length steps)) [
  | inl less ↦ less
  | inr all ↦ absurd (not_all (rw (take_all n steps all) at played))
]

words : (b : Position) (player : Player) (dice : Dice) (refusal : StepRefusal)
    → refusal_words b player dice (Some refusal) ++ 10 ∷ []
    ≡ step_text refusal.step ++ codes " can't be played: " ++ (reason_words b player dice refusal refusal.fault ++ 10 ∷ [])
unfolding refusal_words refused_words
words b player dice refusal =
    append_assoc (step_text refusal.step ++ codes " can't be played: ") (reason_words b player dice refusal refusal.fault) (10 ∷ [])

pub names_step : NamesStep
names_step b player dice steps playable line wrong (left, refusal, are_left, at, said) =
    let part = wrong.1 in
    let within = more_steps b player (dice_list dice) steps playable part.within part.playable wrong.0 in
    let of = refused b player dice left steps playable refusal within (thrown b player dice (take playable steps) part.playable) at in
    let line_of = ap (λ (r : Option StepRefusal). refusal_words b player dice r ++ 10 ∷ []) of.1 in
    (of.0.step, reason_words b player dice of.0 of.0.fault ++ 10 ∷ [], of.2, said ∙ line_of ∙ words b player dice of.0)

use Rattle.std.proofs.Common.{◌≡◌, ◌<◌, ℕ, ◌%◌, List, Some, slice_index_or, arith, length, refl, subst}
use Rattle.std.specs.Prelude.{slice_get}
use Rattle.bg_board.specs.FromTo.{FromTo}
use Rattle.std.proofs.lemmas.Nat.{mod_below}
use Rattle.std.proofs.lemmas.Option.{slice_get_read}
use Rattle.bg_auto.proofs.SomeTurn.{some_turn}
use Rattle.bg_auto.proofs.auto_actions.turn_of.Goals as goal

-- the element at an index below the length
read : (turns : List (List FromTo)) (k n : ℕ) (turn : List FromTo) → k ≡ length turns → 0 < length turns
    → turn ≡ slice_index_or turns (n % k) turn → slice_get turns (n % length turns) ≡ Some turn
read turns k n turn many some is =
    slice_get_read turns (length turns) (n % length turns) turn refl (mod_below n (length turns) some)
    (subst (λ (m : ℕ). turn ≡ slice_index_or turns (n % m) turn) many is)

pub nonzero_rem-index : goal.nonzero_rem-index
nonzero_rem-index c =
    let turns = c.in_ok-turns.turns.items in
    let some = some_turn c.args.board.now c.args.player c.args.dice turns c.in_ok-turns.ensures.exactly in
    omega (arith, c.len.ensures)

pub swap_remove-requires : goal.swap_remove-requires
swap_remove-requires c =
    let turns = c.in_ok-turns.turns.items in
    let some = some_turn c.args.board.now c.args.player c.args.dice turns c.in_ok-turns.ensures.exactly in
    let below = mod_below c.args.number c.len.result (omega (arith, c.len.ensures)) in
    omega (arith, c.len.ensures)

pub returns : goal.returns
returns c =
    let turns = c.in_ok-turns.turns.items in
    let some = some_turn c.args.board.now c.args.player c.args.dice turns c.in_ok-turns.ensures.exactly in (
      turns,
      record { exactly = c.in_ok-turns.ensures.exactly; greatest_first = c.in_ok-turns.ensures.greatest_first },
      read turns c.len.result c.args.number c.swap_remove.result (omega (arith, c.len.ensures)) some
          c.swap_remove.ensures.value,
    )

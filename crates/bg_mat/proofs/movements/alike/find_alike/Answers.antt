use Rattle.bg_mat.proofs.OfReading.FoundTurns.{none_moved_alike, none_unambiguous, unambiguous_found}
use Rattle.bg_mat.proofs.movements.alike.find_alike.Goals as goal

pub returns-in_default : goal.returns-in_default
returns-in_default c =
    none_moved_alike c.args.board.now c.args.player c.args.dice c.args.legs.now c.in_ok-turns.turns.items c.in_ok-turns.ensures.exactly
    (rw (c.steps.ensures.value, c.as_turn-written.ensures, c.deref.ensures.value) at c.in_default.ensures)

pub returns-in-Some-first_otherwise : goal.returns-in-Some-first_otherwise
returns-in-Some-first_otherwise c =
    none_unambiguous c.args.board.now c.args.player c.args.dice c.args.legs.now c.in_ok-turns.turns.items c.in-Some.first _
    c.in_ok-turns.ensures.exactly
    (rw (c.steps.ensures.value, c.as_turn-written.ensures, c.deref.ensures.value) at c.in-Some.ensures)
    (rw (c.steps-2.ensures.value, c.as_turn-written.ensures, c.deref-2.ensures.value, c.steps-3.ensures.value)
    at c.in-Some-first_otherwise.ensures)

pub returns : goal.returns
returns c =
    unambiguous_found c.args.board.now c.args.player c.args.dice c.args.legs.now c.in_ok-turns.turns.items c.in-Some.first
    c.in_ok-turns.ensures.exactly c.in_ok-turns.ensures.greatest_first
    (rw (c.steps.ensures.value, c.as_turn-written.ensures, c.deref.ensures.value) at c.in-Some.ensures)
    (rw (c.steps-2.ensures.value, c.as_turn-written.ensures, c.deref-2.ensures.value, c.steps-3.ensures.value) at c.in-None.ensures)

use Rattle.std.proofs.Common.{inr}
use Rattle.bg_mat.proofs.OfReading.FoundTurns.{none_moves, unambiguous_found}
use Rattle.bg_typed.proofs.FoundTurns.{refused_by, two_found}
use Rattle.bg_typed.proofs.meanings.unmarked_turn.Goals as goal

pub returns-in_default-clause-fault : goal.returns-in_default-clause-fault
returns-in_default-clause-fault c = (
  c.requires.some,
  none_moves c.args.board.now c.args.player c.args.dice c.args.legs.now c.in_ok-turns.turns.items c.in_ok-turns.ensures.exactly
      (rw (c.steps.ensures.value, c.as_turn-written.ensures, c.deref.ensures.value) at c.in_default.ensures),
)

pub returns-in-Some-first_otherwise-clause-fault : goal.returns-in-Some-first_otherwise-clause-fault
returns-in-Some-first_otherwise-clause-fault c = (
  c.requires.some,
  c.requires.unmarked,
  refused_by c.judge_turn.result c.is_ok.result (rw c.as_turn-written.ensures at c.judge_turn.ensures.ok) c.is_ok.ensures.value
      c.if-is_ok.false,
  two_found c.args.board.now c.args.player c.args.dice c.args.legs.now c.in_ok-turns.turns.items c.in-Some.first
      c.in-Some-first_otherwise.other c.in_ok-turns.ensures.exactly c.in_ok-turns.ensures.greatest_first
      (rw (c.steps.ensures.value, c.as_turn-written.ensures, c.deref.ensures.value) at c.in-Some.ensures)
      (rw (c.steps-2.ensures.value, c.as_turn-written.ensures, c.deref-2.ensures.value, c.steps-3.ensures.value)
      at c.in-Some-first_otherwise.ensures),
)

pub returns-clause-means : goal.returns-clause-means
returns-clause-means c =
    inr (inr (
      c.requires.some,
      c.requires.unmarked,
      inr (
        refused_by c.judge_turn.result c.is_ok.result (rw c.as_turn-written.ensures at c.judge_turn.ensures.ok)
            c.is_ok.ensures.value c.if-is_ok.false,
        unambiguous_found c.args.board.now c.args.player c.args.dice c.args.legs.now c.in_ok-turns.turns.items c.in-Some.first
            c.in_ok-turns.ensures.exactly c.in_ok-turns.ensures.greatest_first
            (rw (c.steps.ensures.value, c.as_turn-written.ensures, c.deref.ensures.value) at c.in-Some.ensures)
            (rw (c.steps-2.ensures.value, c.as_turn-written.ensures, c.deref-2.ensures.value, c.steps-3.ensures.value) at c.in-None.ensures),
      ),
    ))

use Rattle.std.proofs.Common.{refl, inl, arith}
use Rattle.bg_typed.proofs.FoundTurns.{none_only, only_found}
use Rattle.bg_typed.proofs.meanings.only_turn.Goals as goal

pub returns-then-len-ne1-clause-fault : goal.returns-then-len-ne1-clause-fault
returns-then-len-ne1-clause-fault c = (
  refl,
  none_only c.args.board.now c.args.player c.args.dice c.in_ok-turns.turns.items c.in_ok-turns.ensures.exactly
      c.in_ok-turns.ensures.greatest_first (λ one. grind (arith, one, c.len.ensures, c.if-len-ne1.true)),
)

pub returns-clause-means : goal.returns-clause-means
returns-clause-means c =
    inl (
      refl,
      rw c.copy.ensures.value
          (only_found c.args.board.now c.args.player c.args.dice c.in_ok-turns.turns.items c.index.result.now
          c.in_ok-turns.ensures.exactly (grind (arith, c.len.ensures, c.if-len-ne1.false)) c.index.ensures),
    )

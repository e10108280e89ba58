use Rattle.std.proofs.Common.{◌≡◌, ◌∙◌, ◌∷◌, [], ◌++◌, ◌<◌, ap, arith, rules, length}
use Rattle.bg_turns.specs.Turn.{after_steps}
use Rattle.bg_table.proofs.Distinct.{all_so_far, legal_at, more_so_far, not_among, same_so_far}
use Rattle.bg_table.proofs.distinct_turns.distinct_turns.Goals as goal
use Rattle.bg_table.proofs.distinct_turns.distinct_turns.Goals.{then-not-is_among+in_ok-push+in_ok-push-2, else-not-is_among}

pub board_after-after-requires : goal.board_after-after-requires
board_after-after-requires c =
    let within : c.loop-index.index < length c.in_ok-turns.turns.items = omega arith in
    rw c.steps.ensures.value (legal_at _ _ _ _ _ _ c.in_ok-turns.ensures.exactly within c.index-turn.ensures)

pub loop-index-preserved : goal.loop-index-preserved
loop-index-preserved c =
    let b = c.args.board.now in
    let player = c.args.player in
    let turn = c.index-turn.result.now in
    let kept = c.loop-index.distinct.items in
    let boards = c.loop-index.boards.items in
    let within : c.loop-index.index < length c.in_ok-turns.turns.items = omega arith in
    let after : c.board_after-after.result ≡ after_steps b player turn =
    c.board_after-after.ensures ∙ ap (after_steps b player) c.steps.ensures.value in
    elim c.if-not-is_among.branch [
      | then-not-is_among+in_ok-push+in_ok-push-2 w ↦ (
          let others = not_among boards c.deref.result.now c.board_after-after.result (after_steps b player turn) c.is_among.result
          c.deref.ensures.value after c.is_among.ensures w.if-not-is_among.true in
          let distinct : c.if-not-is_among.distinct.items ≡ kept ++ turn ∷ [] =
          ap (λ v. v.items) w.distinct-is ∙ w.in_ok-push-2.ensures.items ∙ ap (λ x. kept ++ x ∷ []) w.copy.ensures.value in
          let reached : c.if-not-is_among.boards.items ≡ boards ++ after_steps b player turn ∷ [] =
          ap (λ v. v.items) w.boards-is ∙ w.in_ok-push.ensures.items ∙ ap (λ x. boards ++ x ∷ []) after in
          rw (distinct, reached) (more_so_far b player _ _ kept boards turn c.in_ok-turns.ensures.greatest_first within
          c.index-turn.ensures others c.loop-index.invariant))
      | else-not-is_among w ↦ (
          let distinct : c.if-not-is_among.distinct.items ≡ kept = ap (λ v. v.items) w.distinct-is in
          let reached : c.if-not-is_among.boards.items ≡ boards = ap (λ v. v.items) w.boards-is in
          rw (distinct, reached) (same_so_far b player _ _ kept boards turn c.in_ok-turns.ensures.greatest_first within
          c.index-turn.ensures (rw (c.deref.ensures.value, after) at c.is_among.ensures.0 w.if-not-is_among.false) c.loop-index.invariant))
    ]

pub returns : goal.returns
returns c =
    all_so_far _ _ _ _ _ _ _ c.in_ok-turns.ensures.exactly (first_of (omega arith, search rules)) c.loop-index.invariant

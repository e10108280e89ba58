use Rattle.std.proofs.Common.{inl, inr, refl}
use Rattle.bg_turns.proofs.Parts.{all_playable, not_playable, steps_legal}
use Rattle.bg_turns.proofs.judging.judge_steps.Goals.{else-can_play_more-via-then-can_play_more+else-not-bears_all_off, else-can_play_more-via-else-can_play_more, else-not-uses_larger-via-then-not-uses_larger+else-not-bears_all_off-2, else-not-uses_larger-via-else-not-uses_larger}
use Rattle.bg_turns.proofs.judging.judge_steps.Goals as goal

pub returns-then-played-steps-clause-ok : goal.returns-then-played-steps-clause-ok
returns-then-played-steps-clause-ok c =
    (λ wrong. cc, λ legal. absurd (not_playable _ _ _ _ _ c.longest_part-played.ensures c.if-played-steps.true legal.playable))

pub returns-then-played-steps-clause-fault : goal.returns-then-played-steps-clause-fault
returns-then-played-steps-clause-fault c =
    (not_playable _ _ _ _ _ c.longest_part-played.ensures c.if-played-steps.true, c.longest_part-played.ensures)

pub bears_all_off-requires : goal.bears_all_off-requires
bears_all_off-requires c =
    steps_legal _ _ _ _ (all_playable _ _ _ _ _ c.longest_part-played.ensures c.if-played-steps.false)

pub bears_all_off-requires-then-not-uses_larger : goal.bears_all_off-requires-then-not-uses_larger
bears_all_off-requires-then-not-uses_larger c =
    steps_legal _ _ _ _ (all_playable _ _ _ _ _ c.longest_part-played.ensures c.if-played-steps.false)

pub returns-clause-ok : goal.returns-clause-ok
returns-clause-ok c =
    let playable = all_playable _ _ _ _ _ c.longest_part-played.ensures c.if-played-steps.false in (
      λ _. record {
        playable = playable;
        complete = elim c.else-can_play_more.branch [
          | else-can_play_more-via-then-can_play_more+else-not-bears_all_off w ↦
              inl (w.bears_all_off.ensures.0 w.if-not-bears_all_off.false)
          | else-can_play_more-via-else-can_play_more w ↦ elim c.else-not-uses_larger.branch [
            | else-not-uses_larger-via-then-not-uses_larger+else-not-bears_all_off-2 v ↦
                inl (v.bears_all_off-then-not-uses_larger.ensures.0 v.if-not-bears_all_off-2.false)
            | else-not-uses_larger-via-else-not-uses_larger v ↦
                inr (w.if-can_play_more.ensures.all, v.if-not-uses_larger.ensures.0 refl)
          ]
        ];
      },
      λ _. refl,
    )

pub returns-clause-legal : goal.returns-clause-legal
returns-clause-legal c =
    steps_legal _ _ _ _ (all_playable _ _ _ _ _ c.longest_part-played.ensures c.if-played-steps.false)

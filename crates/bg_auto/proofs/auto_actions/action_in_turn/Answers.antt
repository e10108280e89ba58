use Rattle.bg_auto.proofs.AutoActions.{nobody_plays}
use Rattle.bg_auto.proofs.auto_actions.action_in_turn.Goals as goal

pub returns-in-Opening-clause-plays : goal.returns-in-Opening-clause-plays
returns-in-Opening-clause-plays c =
    nobody_plays c.args.record.now c.standing-standing.result c.phase.result c.standing-standing.ensures.stands
    c.phase.ensures c.in-Opening.is

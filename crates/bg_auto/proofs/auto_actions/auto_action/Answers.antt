use Rattle.std.proofs.Common.{◌<◌, length, arith}
use Rattle.std.proofs.lemmas.Result.{IfErr-weaker, IfOk-weaker}
use Rattle.bg_auto.proofs.AutoActions.{acting_moves, played, played_follows}
use Rattle.bg_auto.proofs.auto_actions.auto_action.Goals as goal
use Rattle.bg_match.specs.Limits.{most_entries}

pub returns-clause-chosen : goal.returns-clause-chosen
returns-clause-chosen c =
    let few : length c.args.record.now.entries < most_entries =
    omega (arith, c.len.ensures.value, c.len.ensures.legal.0, c.if-len-eq-MOST_ENTRIES.false) in
    let acts = c.if-not-acts.ensures.yes in
    IfOk-weaker c.action_in_turn.result _ _
    (λ chosen plays. played c.args.record.now c.args.player chosen acts few plays)
    c.action_in_turn.ensures.plays

pub returns-clause-follows : goal.returns-clause-follows
returns-clause-follows c =
    let few : length c.args.record.now.entries < most_entries =
    omega (arith, c.len.ensures.value, c.len.ensures.legal.0, c.if-len-eq-MOST_ENTRIES.false) in
    let acts = c.if-not-acts.ensures.yes in
    IfOk-weaker c.action_in_turn.result _ _
    (λ chosen plays. played_follows c.args.record.now c.args.player chosen acts few plays)
    c.action_in_turn.ensures.plays

pub returns-clause-memory : goal.returns-clause-memory
returns-clause-memory c =
    IfErr-weaker c.action_in_turn.result _ _
    (λ why moves. acting_moves c.args.record.now c.args.player moves.0 c.if-not-acts.ensures.yes moves.1)
    c.action_in_turn.ensures.memory

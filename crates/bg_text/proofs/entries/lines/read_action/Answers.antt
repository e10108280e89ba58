use Rattle.std.proofs.Common.{◌≡◌, Err, rules, ◌∙◌}
use Rattle.bg_text.proofs.Spelling.ActionLines.{move_of_pairs, move_fault, no_action_shape}
use Rattle.bg_text.proofs.entries.lines.read_action.Goals as goal

pub returns-in_err-read_turn : goal.returns-in_err-read_turn
returns-in_err-read_turn c =
    let same : c.from_residual.result ≡ Err c.in_err-read_turn.field-0.0 = search rules in
    rw same (rw c.in-Some.ensures (move_fault _ _ c.in_err-read_turn.ensures))

pub returns-in-Some : goal.returns-in-Some
returns-in-Some c = let h = c.in_ok-read_turn.ensures in
    (h.0, c.in-Some.ensures ∙ move_of_pairs _ _ h.1)

pub returns-in-None : goal.returns-in-None
returns-in-None c = no_action_shape _ c.in_default.ensures c.in-None.ensures

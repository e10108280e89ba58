use Rattle.std.proofs.Common.{◌≡◌, ◌∷◌, ◌++◌, Err, codes, rules, ap, ◌∙◌}
use Rattle.bg_text.specs.Entries.EntryShape.{IsActionTextFault}
use Rattle.bg_text.specs.Entries.EntryText.{letter}
use Rattle.bg_text.specs.declared.faults.TextFault.TheVariants.{NotALine}
use Rattle.bg_text.proofs.Spelling.ActionLines.{move_fault, move_of_pairs, no_action_shape}
use Rattle.bg_text.proofs.Spelling.EntryLines.{dice_line, entry_fault, roll_alone, roll_fault, seat_fault}
use Rattle.bg_text.proofs.entries.lines.read_seat_entry.Goals as goal

pub returns-in_err-first : goal.returns-in_err-first
returns-in_err-first c =
    let same : c.from_residual.result ≡ Err c.in_err-first.field-0.0 = search rules in
    let line = c.in-Some.ensures in
    rw (same, line) (entry_fault c.args.player _ _ (roll_fault _ _ c.in_err-first.ensures))

pub returns-in-Some : goal.returns-in-Some
returns-in-Some c =
    let text = c.in-Some.ensures ∙ dice_line (codes "roll ") c.in-Some.numbers.now c.in_ok-first.first c.in_ok-first.second c.in_ok-first.ensures in
    ((λ none. absurd (cc none), λ own. absurd own), tt, ap (λ rest. letter c.args.player ++ 32 ∷ rest) text)

pub returns-in_err-read_turn : goal.returns-in_err-read_turn
returns-in_err-read_turn c =
    let same : c.from_residual-in_err-read_turn.result ≡ Err c.in_err-read_turn.field-0.0 = search rules in
    let line = c.in-Some-rest_after.ensures in
    let fault : IsActionTextFault c.in_err-read_turn.field-0.0 c.args.line.now = rw line (move_fault _ _ c.in_err-read_turn.ensures) in
    rw same (entry_fault c.args.player _ _ (seat_fault _ _ c.in_default.ensures fault))

pub returns-in-Some-rest_after : goal.returns-in-Some-rest_after
returns-in-Some-rest_after c =
    let turn = c.in_ok-read_turn.ensures in
    let text = c.in-Some-rest_after.ensures ∙ move_of_pairs _ _ turn.1 in
    ((λ none. absurd (cc none), λ own. absurd own), turn.0, ap (λ rest. letter c.args.player ++ 32 ∷ rest) text)

pub returns-in-Some-Roll : goal.returns-in-Some-Roll
returns-in-Some-Roll c =
    let read = rw c.in-Some-Roll.field-0-is at c.in-Some-Roll.ensures in
    entry_fault c.args.player _ NotALine (roll_alone _ read.1)

pub returns-in-None : goal.returns-in-None
returns-in-None c =
    entry_fault c.args.player _ NotALine
    (seat_fault _ NotALine c.in_default.ensures (no_action_shape _ c.in_default-rest_after.ensures c.in-None.ensures))

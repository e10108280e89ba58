use Rattle.std.proofs.Common.{◌≡◌, rules}
use Rattle.bg_match.specs.Follows.{CanFollow}
use Rattle.bg_match.specs.declared.entries.Entry.TheVariants as entry
use Rattle.bg_match.specs.declared.phases.Phase.TheVariants as phase
use Rattle.bg_picture.proofs.Ends.{turn_legal}
use Rattle.bg_picture.proofs.wins.board_after.Goals as goal

pub unwrap-requires : goal.unwrap-requires
unwrap-requires c =
    let s = c.args.standing.now in
    let ph : s.phase ≡ phase.ToMove c.in-ToMove-Moved.player c.in-ToMove-Moved.dice = first_of (search rules, cc) in
    let may : CanFollow s (entry.Moved c.in-ToMove-Moved.turn) = rw c.in-ToMove-Moved.is-1 at c.requires in
    c.judge_turn.ensures.ok.1 (rw c.board.ensures (turn_legal s c.in-ToMove-Moved.turn c.in-ToMove-Moved.player c.in-ToMove-Moved.dice ph may))

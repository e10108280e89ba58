use Rattle.std.proofs.Common.{subst}
use Rattle.bg_match.specs.Follows.{CanFollow}
use Rattle.bg_match.specs.declared.entries.Entry.{Entry}
use Rattle.bg_table.proofs.Earlier.{moved_steps}
use Rattle.bg_table.proofs.last_entries.put_entry.Goals as goal

pub put_move-requires : goal.put_move-requires
put_move-requires c =
    let follows = subst (λ (e : Entry). CanFollow c.args.before.now e) c.in-Moved.is c.requires.follows in
    rw (c.board.ensures, c.steps.ensures.value) (moved_steps c.args.before.now c.args.player _ c.requires.acts follows)

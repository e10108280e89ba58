use Rattle.std.proofs.Common.{sym}
use Rattle.bg_table.proofs.Earlier.{acts_before, follows_before}
use Rattle.bg_table.proofs.last_entries.put_told.Goals as goal

pub put_entry-requires-clause-acts : goal.put_entry-requires-clause-acts
put_entry-requires-clause-acts c =
    acts_before c.args.log.now c.args.number c.args.player c.args.before.now c.requires.made c.requires.stands

pub put_entry-requires-clause-follows : goal.put_entry-requires-clause-follows
put_entry-requires-clause-follows c =
    follows_before c.args.log.now c.args.number c.args.before.now c.unwrap-entry.result.now c.requires.legal c.requires.made.0
    (sym (rw c.unwrap-entry.ensures at c.entry.ensures)) c.requires.stands

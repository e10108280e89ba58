use Rattle.bg_mat.proofs.playing.moving.entry_of_dice.Goals as goal

pub returns-in-Opening-2-clause-brings : goal.returns-in-Opening-2-clause-brings
returns-in-Opening-2-clause-brings c = c.opening_of.ensures c.args.standing.now

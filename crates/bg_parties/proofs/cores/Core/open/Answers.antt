use Rattle.bg_parties.proofs.cores.Core.open.Goals as goal

pub returns-in_default : goal.returns-in_default
returns-in_default c = c.watcher.ensures c.args.slot0.now c.args.slot1.now

use Rattle.bg_protocol.specs.Worlds.Nodes.{referee_node_of}
use Rattle.bg_fences.proofs.FencedSaves.{referee_saves}
use Rattle.bg_fences.proofs.fenced_saves.save_referee.Goals as goal

pub returns-in-Ok-clause-saves : goal.returns-in-Ok-clause-saves
returns-in-Ok-clause-saves g c =
    let ends = rw c.unwrap.ensures at c.end_save.ensures.ends in
    referee_saves _ _ _ c.in-Ok.save _ _ (referee_node_of c.args.referee.now) (referee_node_of c.begin_save.new.self) (referee_node_of c.end_save.new.self)
    c.begin_save.ensures.same c.in-Ok.ensures.begins c.write_save-written.ensures.writes ends.1

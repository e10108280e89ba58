use Rattle.bg_world.proofs.Lines.EventFaults.{due_fault, save_fault, tick_fault, restart_fault}
use Rattle.bg_world.proofs.texts.event_lines.read_rest.Goals as goal

pub returns-in-Err : goal.returns-in-Err
returns-in-Err c = due_fault c.args.kind c.args.rest.now c.in-Err.fault c.in-Due.is c.in-Err.ensures

pub returns-in-Err-read_party : goal.returns-in-Err-read_party
returns-in-Err-read_party c =
    save_fault c.args.kind c.args.rest.now c.in-Err-read_party.fault c.in-Save.is c.in-Err-read_party.ensures

pub returns-in-Err-read_party-2 : goal.returns-in-Err-read_party-2
returns-in-Err-read_party-2 c =
    tick_fault c.args.kind c.args.rest.now c.in-Err-read_party-2.fault c.in-Tick.is
    c.in-Err-read_party-2.ensures

pub returns-in-Err-read_party-3 : goal.returns-in-Err-read_party-3
returns-in-Err-read_party-3 c =
    restart_fault c.args.kind c.args.rest.now c.in-Err-read_party-3.fault c.in-Restart.is
    c.in-Err-read_party-3.ensures

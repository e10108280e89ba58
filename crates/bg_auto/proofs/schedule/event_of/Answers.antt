use Rattle.std.proofs.Common.{◌≤◌, ◌%◌, ◌+◌, arith}
use Rattle.std.proofs.lemmas.Result.{IfOk-weaker}
use Rattle.bg_wire.specs.Entries.Codes.{first_watcher}
use Rattle.bg_protocol.specs.Worlds.Simulations.{memory_view}
use Rattle.bg_auto.proofs.Schedules.{chosen}
use Rattle.bg_auto.proofs.schedule.event_of.Goals as goal

pub returns-in-7 : goal.returns-in-7
returns-in-7 c =
    let low : 7 ≤ c.args.a % 16 = omega arith in
    let high : c.args.a % 16 ≤ 8 = omega arith in
    let view = memory_view c.args.world.now in
    let parties = first_watcher + c.args.watchers in
    IfOk-weaker c.choice_of.result _ _
    (λ event choice. chosen view parties c.args.word c.args.a c.args.b event low high
    (rw (← c.named_player.ensures) choice))
    c.choice_of.ensures

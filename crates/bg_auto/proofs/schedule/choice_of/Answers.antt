use Rattle.std.proofs.Common.{rules, ◌≡◌, inr, ap, Some}
use Rattle.bg_protocol.specs.Worlds.Simulations.{memory_view}
use Rattle.bg_protocol.specs.declared.events.Event.TheVariants.{Tick}
use Rattle.bg_auto.specs.Schedule.{seat_log}
use Rattle.bg_auto.proofs.Schedules.{does_nothing}
use Rattle.bg_auto.proofs.schedule.choice_of.Goals as goal

pub returns-in-None : goal.returns-in-None
returns-in-None c =
    let held : seat_log (memory_view c.args.world.now) c.args.player ≡ Some c.in-Some.record.now = search rules in
    let nothing = rw c.in-None.is at c.in_ok-action.ensures.chosen in
    inr (
      does_nothing (memory_view c.args.world.now) c.args.player c.in-Some.record.now held nothing,
      ap Tick c.party_of-party.ensures,
    )

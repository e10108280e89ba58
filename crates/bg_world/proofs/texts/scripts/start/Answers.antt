use Rattle.bg_protocol.specs.Worlds.Simulations.{memory_view, start_in_memory}
use Rattle.bg_protocol.specs.declared.devices.plans.Plan.{Plan}
use Rattle.bg_world.proofs.Lines.ScriptLines.{none_happen}
use Rattle.bg_world.proofs.texts.scripts.start.Goals as goal

pub returns-clause-start : goal.returns-clause-start
returns-clause-start c =
    let plan : Plan = record { tears = c.new.result; sends = c.new-2.result; reads = c.new-3.result } in
    let run = c.in_ok-world.ensures.simulates in (
      plan,
      record { tears = c.new.ensures.items; sends = c.new-2.ensures.items; reads = c.new-3.ensures.items },
      none_happen (Unit {0}) (Unit {0}) (start_in_memory c.args.setup plan) (memory_view c.in_ok-world.world) run.outcomes
          run.calls,
    )

use Rattle.std.proofs.Common.{◌≡◌, ◌+◌, List, arith, take, ◌++◌, ◌∷◌, [], subst, sym, ap, ◌∙◌}
use Rattle.std.proofs.lemmas.List.{take_more}
use Rattle.bg_protocol.specs.Worlds.World.{view_of}
use Rattle.bg_protocol.specs.Worlds.WorldRuns.{RunsCalls, is_fault, is_memory}
use Rattle.bg_protocol.specs.declared.events.Event.{Event}
use Rattle.bg_protocol.proofs.ReachedWorlds.Running.{at_most_one, calls_more, reports_more}
use Rattle.bg_protocol.proofs.worlds.World.steps.Goals as goal

pub loop-event-preserved : goal.loop-event-preserved
loop-event-preserved g c =
    let i = c.loop-event.event-index in
    let e : Event = c.copy.result in
    let so_far = c.loop-event.invariant.runs in
    let first = view_of g.L.Link g.K.Keeper c.args.self.now in
    let mid = view_of g.L.Link g.K.Keeper c.loop-event.self in
    let last = view_of g.L.Link g.K.Keeper c.happen.new.self in
    let more = calls_more g.L.Link.is_honest g.K.Keeper.is_honest first (take i c.args.events.now) so_far.outcomes mid e c.happen.new.outcome last so_far.calls c.happen.ensures.calls in
    let told = reports_more c.loop-event.report c.count.new.report (take i c.args.events.now) so_far.outcomes e c.happen.new.outcome so_far.reports c.count.ensures.done c.count.ensures.memory c.count.ensures.faults in
    let longer : take (i + 1) c.args.events.now ≡ take i c.args.events.now ++ e ∷ [] =
    take_more c.args.events.now i c.event-item.result c.loop-event-test.true ∙ ap (λ (x : Event). take i c.args.events.now ++ x ∷ []) (sym c.event-item.is ∙ sym c.copy.ensures) in
    record {
      runs = subst (λ (es : List Event). RunsCalls g.L.Link.is_honest g.K.Keeper.is_honest first es c.count.new.report last) (sym longer)
          (record { outcomes = so_far.outcomes ++ c.happen.new.outcome ∷ []; calls = more; reports = told });
      done = omega arith;
      memory = omega (arith, c.count.ensures.memory, at_most_one is_memory c.happen.new.outcome);
      faults = omega (arith, c.count.ensures.faults, at_most_one is_fault c.happen.new.outcome);
    }

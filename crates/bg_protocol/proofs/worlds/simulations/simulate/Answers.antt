use Rattle.std.proofs.Common.{subst}
use Rattle.bg_protocol.specs.Worlds.Simulations.{memory_view}
use Rattle.bg_protocol.specs.Worlds.Views.{WorldView}
use Rattle.bg_protocol.specs.Worlds.WorldRuns.{RunsAll}
use Rattle.bg_protocol.proofs.ReachedWorlds.Simulating.{empty_plan, is_of_words, simulates}
use Rattle.bg_protocol.proofs.ReachedWorlds.Upheld.{upholds}
use Rattle.bg_protocol.proofs.worlds.simulations.simulate.Goals as goal

pub returns-clause-simulates : goal.returns-clause-simulates
returns-clause-simulates c =
    simulates c.args.setup c.args.plan.now c.in_ok-world.ensures.refusal c.args.events.now c.run-report.result
    (memory_view c.run-report.new.self)
    (subst (λ (w : WorldView). RunsAll (Unit {0}) (Unit {0}) w c.args.events.now c.run-report.result
    (memory_view c.run-report.new.self)) c.in_ok-world.ensures.start c.run-report.ensures.run)

pub returns-clause-upholds : goal.returns-clause-upholds
returns-clause-upholds c =
    upholds (memory_view c.run-report.new.self) (returns-clause-simulates c).reached

pub returns-clause-words : goal.returns-clause-words
returns-clause-words c =
    is_of_words c.args.setup c.args.plan.now c.in_ok-world.ensures.refusal c.args.events.now c.run-report.result
    (memory_view c.run-report.new.self)
    (subst (λ (w : WorldView). RunsAll (Unit {0}) (Unit {0}) w c.args.events.now c.run-report.result
    (memory_view c.run-report.new.self)) c.in_ok-world.ensures.start c.run-report.ensures.run)

pub returns-clause-none_failed : goal.returns-clause-none_failed
returns-clause-none_failed c =
    empty_plan c.args.setup c.args.plan.now c.args.events.now c.run-report.result (memory_view c.run-report.new.self)
    (subst (λ (w : WorldView). RunsAll (Unit {0}) (Unit {0}) w c.args.events.now c.run-report.result
    (memory_view c.run-report.new.self)) c.in_ok-world.ensures.start c.run-report.ensures.run)

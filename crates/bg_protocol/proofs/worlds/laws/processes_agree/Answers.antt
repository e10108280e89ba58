use Rattle.bg_protocol.proofs.ReachedWorlds.Interleaved.{interleaved, of_words}
use Rattle.bg_protocol.proofs.ReachedWorlds.NodeSteps.{node_calls}
use Rattle.bg_protocol.proofs.ReachedWorlds.Upheld.{upholds}
use Rattle.bg_protocol.proofs.worlds.laws.processes_agree.Goals as goal

pub returns-clause-step : goal.returns-clause-step
returns-clause-step c = node_calls

pub returns-clause-runs : goal.returns-clause-runs
returns-clause-runs c = interleaved

pub returns-clause-upholds : goal.returns-clause-upholds
returns-clause-upholds c = λ old events outcomes new before h.
    upholds new (interleaved old events outcomes new h before).0

pub returns-clause-matches : goal.returns-clause-matches
returns-clause-matches c = λ setup link referee x o events outcomes new is unused h.
    let words = of_words setup link referee x o events outcomes new is unused h in
    (upholds new words.reached, words)

-- What everybody is told.
use Rattle.std.proofs.Common.{List, [], ◌∷◌, sym, subst, arith}
use Rattle.std.specs.Prelude.{⊤}
use Rattle.bg_protocol.proofs.ReachedWorlds.Upheld.{upholds}
use Rattle.bg_protocol.proofs.Protocol.Reached.{agreement, reached}
use Rattle.bg_protocol.proofs.Steps.Goes.{goes}
use Rattle.bg_protocol.specs.Worlds.Views.{WorldView}
use Rattle.bg_protocol.specs.Worlds.WorldRuns.{CallsAll}
use Rattle.bg_protocol.specs.Worlds.WorldState.{IsReachedWorld, protocol_state}
use Rattle.bg_protocol.specs.declared.events.Event.{Event}
use Rattle.bg_protocol.specs.declared.events.Outcome.{Outcome}
use Rattle.bg_hosted.specs.Laws.{StaysReached, TellsSavedAlone}

after_calls : (events : List Event) (outcomes : List Outcome) (old new : WorldView)
    → CallsAll (Unit {0}) ⊤ old events outcomes new → IsReachedWorld old → IsReachedWorld new
after_calls [] [] old new same before = subst IsReachedWorld (sym same) before
after_calls [] (o ∷ outcomes) old new none before = absurd none
after_calls (e ∷ events) [] old new none before = absurd none
after_calls (e ∷ events) (o ∷ outcomes) old new calls before =
    let first = goes (Unit {0}) ⊤ old e o calls.0 calls.1 tt tt before in
    after_calls events outcomes calls.0 new calls.2 first.0

pub stays_reached : StaysReached
stays_reached old new on before = after_calls on.events on.outcomes old new on.calls before

pub tells_saved : TellsSavedAlone
tells_saved w before log told =
    let state = protocol_state w before.restorable in
    let all = agreement state (reached state before.reached) in
    all.followers 3 log.entries (omega arith) ((upholds w before).held 3 log told)

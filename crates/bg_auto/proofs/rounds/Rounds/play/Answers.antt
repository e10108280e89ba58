use Rattle.std.proofs.Common.{Option, Some, sym, ap, subst}
use Rattle.bg_protocol.specs.declared.events.Event.{Event}
use Rattle.bg_auto.specs.RoundResults.{moment_of}
use Rattle.bg_auto.specs.Rounds.{GoesOn, Happens, IsEventOf, follow_up}
use Rattle.bg_auto.specs.declared.rounds.Rounds.{Rounds}
use Rattle.bg_auto.proofs.rounds.Rounds.play.Goals as goal
use Rattle.bg_auto.proofs.rounds.Rounds.play.Goals.{in-Some-follow_up+in_ok-happen, in_default-follow_up}

pub returns-clause-played : goal.returns-clause-played
returns-clause-played g c =
    let old = moment_of g.L.Link g.K.Keeper c.args.self.now in
    let mid = moment_of g.L.Link g.K.Keeper c.happen.new.self in
    let new = moment_of g.L.Link g.K.Keeper c.match-follow_up.self in
    let outcome = c.in_ok-outcome.outcome in
    let happens = c.in_ok-outcome.ensures.happens in
    let event : IsEventOf old c.args.part (Some c.in-Some.event) =
    subst (λ (e : Option Event). IsEventOf old c.args.part e) c.in-Some.is c.in_ok-event.ensures.event in
    let then : GoesOn g.L.Link.is_honest g.K.Keeper.is_honest mid (follow_up c.args.part outcome) new =
    elim c.match-follow_up.branch [
      | in-Some-follow_up+in_ok-happen w ↦ (
          let last = w.in_ok-happen.field-0 in
          let next = w.in-Some-follow_up.next in
          let happens = w.in_ok-happen.ensures.happens in
          let moved = subst (λ (s : Rounds g.row.L.Denot g.row.K.Denot). Happens g.L.Link.is_honest g.K.Keeper.is_honest
          mid next last (moment_of g.L.Link g.K.Keeper s)) (sym w.self-is) happens.0 in
          subst (λ (e : Option Event). GoesOn g.L.Link.is_honest g.K.Keeper.is_honest mid e new)
          w.in-Some-follow_up.ensures (last, moved, happens.1))
      | in_default-follow_up w ↦ (
          subst (λ (e : Option Event). GoesOn g.L.Link.is_honest g.K.Keeper.is_honest mid e new)
          w.in_default-follow_up.ensures
          (ap (λ (s : Rounds g.row.L.Denot g.row.K.Denot). moment_of g.L.Link g.K.Keeper s) w.self-is))
    ] in
    (Some c.in-Some.event, event, (outcome, mid, happens.0, happens.1, then))

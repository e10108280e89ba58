use Rattle.std.proofs.Common.{◌≡◌, rules, inl, inr, sym, ◌∙◌}
use Rattle.bg_match.specs.declared.phases.Actor.TheVariants.{Nobody, Referee, Seat}
use Rattle.bg_processes.proofs.Acting.{another_acts}
use Rattle.bg_processes.proofs.processes.rounds.seat_acts.Goals as goal

pub returns-in-Seat-2 : goal.returns-in-Seat-2
returns-in-Seat-2 c =
    let differ : c.in-Seat.seat ≡ c.args.player → ⊥ = search rules in (
      tt,
      another_acts c.args.record.now (Seat c.in-Seat.seat) (Seat c.args.player) c.in-Seat.ensures
          (λ same. differ (let e : Seat c.in-Seat.seat ≡ Seat c.args.player = same in cc)),
    )

pub returns-in-Referee : goal.returns-in-Referee
returns-in-Referee c = (
  tt,
  another_acts c.args.record.now c.actor.result (Seat c.args.player) c.actor.ensures (λ same. elim c.in-Referee.is [
    | inl is ↦ (let e : Referee ≡ Seat c.args.player = sym is ∙ same in absurd cc)
    | inr is ↦ (let e : Nobody ≡ Seat c.args.player = sym is ∙ same in absurd cc)
  ]),
)

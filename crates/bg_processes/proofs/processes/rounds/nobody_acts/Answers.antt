use Rattle.std.proofs.Common.{◌≡◌, inl, inr, sym, ◌∙◌}
use Rattle.bg_match.specs.declared.phases.Actor.TheVariants.{Nobody, Referee, Seat}
use Rattle.bg_processes.proofs.Acting.{another_acts}
use Rattle.bg_processes.proofs.processes.rounds.nobody_acts.Goals as goal

pub returns-in-Referee : goal.returns-in-Referee
returns-in-Referee c = (
  tt,
  another_acts c.args.record.now c.actor.result Nobody c.actor.ensures (λ same. elim c.in-Referee.is [
    | inl is ↦ (let e : Referee ≡ Nobody = sym is ∙ same in absurd cc)
    | inr is ↦ (let e : Seat is.0 ≡ Nobody = sym is.1 ∙ same in absurd cc)
  ]),
)

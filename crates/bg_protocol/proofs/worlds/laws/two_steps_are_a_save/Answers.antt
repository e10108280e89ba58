use Rattle.bg_referee.specs.Referee.{referee_after_save}
use Rattle.bg_party.specs.Views.{seat_after_save}
use Rattle.bg_protocol.specs.Worlds.Calls.{referee_parts, seat_parts}
use Rattle.bg_protocol.proofs.TwoSteps.{in_world, none_in_world, two_steps}
use Rattle.bg_protocol.proofs.worlds.laws.two_steps_are_a_save.Goals as goal

pub returns-clause-referee : goal.returns-clause-referee
returns-clause-referee g c = λ begun old new save answer old_keeper new_keeper outcome begins same writes ends. (
  two_steps referee_parts referee_after_save g.K.Keeper.is_honest begun.core old.core save answer old_keeper new_keeper
      outcome new.core begins same writes ends.0,
  ends.1,
)

pub returns-clause-seat : goal.returns-clause-seat
returns-clause-seat g c = λ begun old new save answer old_keeper new_keeper outcome begins same writes ends. (
  two_steps seat_parts seat_after_save g.K.Keeper.is_honest begun.core old.core save answer old_keeper new_keeper
      outcome new.core begins same writes ends.0,
  ends.1,
)

pub returns-clause-world : goal.returns-clause-world
returns-clause-world g c = λ begun old written new party save answer outcome begins same writes ends.
    in_world g.K.Keeper.is_honest save answer outcome party begun old written new begins same writes ends

pub returns-clause-none : goal.returns-clause-none
returns-clause-none g c = λ old party outcome begins. none_in_world g.K.Keeper.is_honest party old outcome begins

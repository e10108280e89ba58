use Rattle.std.proofs.Common.{◌≤◌, length}
use Rattle.bg_mat.proofs.OfReading.Refusing.{if_err}
use Rattle.bg_typed.proofs.FoundTurns.{meaning_refused}
use Rattle.bg_typed.proofs.reading.read_turn.Goals as goal

pub returns-clause-fault : goal.returns-clause-fault
returns-clause-fault c =
    let few : length c.in_ok-legs.legs.items ≤ 4 = rw c.as_slice.ensures.value at c.as_slice.ensures.fits in
    if_err c.turn_of_legs.result
    (λ fault h. meaning_refused c.args.board.now c.args.player c.args.dice c.args.typed.now c.in_ok-legs.legs.items fault
    c.in_ok-legs.ensures.told few (rw c.as_slice.ensures.value at h))
    c.turn_of_legs.ensures.fault

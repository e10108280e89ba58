use Rattle.std.proofs.Common.{refl, inl, inr}
use Rattle.bg_mat.proofs.playing.Replay.turn_of.Goals as goal

pub returns-in-Ok-Some-clause-done : goal.returns-in-Ok-Some-clause-done
returns-in-Ok-Some-clause-done c =
    inl (rw (c.in-Ok-Some.field-0-is, c.as_slice.ensures.value, c.board-board.ensures) at c.in-Ok-Some.ensures)

pub returns-in-Ok-Some-find_alike-clause-done : goal.returns-in-Ok-Some-find_alike-clause-done
returns-in-Ok-Some-find_alike-clause-done c =
    let none = rw (c.in-Ok-None.field-0-is, c.as_slice.ensures.value, c.board-board.ensures) at c.in-Ok-None.ensures in
    let alike = rw (c.in-Ok-Some-find_alike.field-0-is, c.as_slice-2.ensures.value, c.board-board.ensures)
    at c.in-Ok-Some-find_alike.ensures in
    inr (none, alike)

pub returns-in-Ok-clause-fault : goal.returns-in-Ok-clause-fault
returns-in-Ok-clause-fault c =
    let none = rw (c.in-Ok-None.field-0-is, c.as_slice.ensures.value, c.board-board.ensures) at c.in-Ok-None.ensures in
    let never = rw (c.in-Ok-None-find_alike.field-0-is, c.as_slice-2.ensures.value, c.board-board.ensures)
    at c.in-Ok-None-find_alike.ensures in
    let is = rw (c.as_slice-3.ensures.value, c.board-board.ensures) at c.in-Ok.ensures in
    rw c.refused.ensures (refl, (is none, never))

use Rattle.std.specs.Prelude.{◌≡◌}
use Rattle.bg_mat.proofs.OfReading.LegRefusals.{leg_low, leg_parts}
use Rattle.bg_mat.proofs.OfReading.MovementLemmas.{point_same}
use Rattle.bg_mat.proofs.movements.legs.read_leg.Goals as goal

pub returns-in_default : goal.returns-in_default
returns-in_default c = λ leg h.
    (rw c.in_default.is at c.read_point.ensures) leg.step.to (leg_low c.args.from c.args.word.now leg h)
    (leg_parts c.args.from c.args.word.now c.split_mark-hits.result.0.now c.split_mark-hits.result.1 leg c.split_mark-hits.ensures.marked
    c.split_mark-hits.ensures.none h)

pub returns-in_default-new : goal.returns-in_default-new
returns-in_default-new c = λ leg h.
    let is = leg_parts c.args.from c.args.word.now c.split_mark-hits.result.0.now c.split_mark-hits.result.1 leg c.split_mark-hits.ensures.marked
    c.split_mark-hits.ensures.none h in
    let same : leg.step.to ≡ c.in-Some.to = point_same c.split_mark-hits.result.0.now leg.step.to c.in-Some.to is c.in-Some.ensures in
    let some = rw c.in_default-new.is at (c.new.ensures.some.1 (h.on_board, rw same at h.lower)) in
    absurd (cc (some))

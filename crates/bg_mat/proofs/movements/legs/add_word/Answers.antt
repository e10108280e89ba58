use Rattle.std.proofs.Common.{rules}
use Rattle.std.specs.Prelude.{IfErr}
use Rattle.bg_mat.specs.declared.movements.legs.LegFault.{LegFault}
use Rattle.bg_mat.specs.Legs.{RefusesLegs, TellsWord}
use Rattle.bg_mat.proofs.OfReading.LegRefusals.{path_refused, times_refused}
use Rattle.bg_mat.proofs.movements.legs.add_word.Goals as goal

pub returns-in_err-path-clause-fault : goal.returns-in_err-path-clause-fault
returns-in_err-path-clause-fault c =
    let h : RefusesLegs (TellsWord c.args.word.now) c.args.legs.now.items c.in_err-path.field-0.0 =
    path_refused c.args.word.now c.split_count-count.result.0.now c.split_count-count.result.1 c.args.legs.now.items c.in_err-path.field-0.0
    c.split_count-count.ensures.counted c.split_count-count.ensures.bracketed c.in_err-path.ensures.fault in
    let passed : (P : LegFault → Type 0) → P c.in_err-path.field-0.0 → IfErr c.from_residual.result P =
    λ P k. search (rules, k) in
    passed (RefusesLegs (TellsWord c.args.word.now) c.args.legs.now.items) h

pub returns-clause-fault : goal.returns-clause-fault
returns-clause-fault c =
    times_refused c.add_times.result c.args.word.now c.split_count-count.result.0.now c.split_count-count.result.1
    c.in_ok-path.path.items c.args.legs.now.items c.split_count-count.ensures.counted c.in_ok-path.ensures.told c.add_times.ensures.fault
    (rw c.as_slice.ensures.value at c.add_times.ensures.many)

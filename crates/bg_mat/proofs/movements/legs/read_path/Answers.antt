use Rattle.std.proofs.Common.{rules, []}
use Rattle.std.specs.Prelude.{IfErr}
use Rattle.bg_mat.specs.declared.movements.legs.LegFault.{LegFault}
use Rattle.bg_mat.specs.Legs.{RefusesLegs, TellsLegs, TellsPath}
use Rattle.bg_mat.proofs.OfReading.LegRefusals.{legs_refused, none_added, no_legs_refused, start_refused}
use Rattle.bg_mat.proofs.movements.legs.read_path.Goals as goal

pub returns-in_default-clause-fault : goal.returns-in_default-clause-fault
returns-in_default-clause-fault c =
    let s = c.split_slash.ensures in
    start_refused c.args.text.now c.split_slash.result.0.now c.split_slash.result.1.now s.1 s.0 s.2
    (rw c.in_default.is at c.read_point.ensures)

pub returns-in_err-add_legs-clause-fault : goal.returns-in_err-add_legs-clause-fault
returns-in_err-add_legs-clause-fault c =
    let s = c.split_slash.ensures in
    let h : RefusesLegs (TellsPath c.args.text.now) [] c.in_err-add_legs.field-0.0 =
    legs_refused c.args.text.now c.split_slash.result.0.now c.split_slash.result.1.now c.in-Some.from c.in_err-add_legs.field-0.0
    s.1 s.0 s.2 c.in-Some.ensures (rw c.new-legs.ensures at c.in_err-add_legs.ensures.fault) in
    let passed : (P : LegFault → Type 0) → P c.in_err-add_legs.field-0.0 → IfErr c.from_residual.result P =
    λ P k. search (rules, k) in
    passed (RefusesLegs (TellsPath c.args.text.now) []) h

pub returns-then-is_empty-clause-fault : goal.returns-then-is_empty-clause-fault
returns-then-is_empty-clause-fault c =
    let s = c.split_slash.ensures in
    let empty : TellsLegs c.in-Some.from c.split_slash.result.1.now [] =
    none_added c.in-Some.from c.split_slash.result.1.now c.add_legs.new.legs.items (rw c.new-legs.ensures at c.in_ok-add_legs.ensures.added) c.if-is_empty.ensures in
    no_legs_refused c.args.text.now c.split_slash.result.0.now c.split_slash.result.1.now c.in-Some.from s.1 s.0 s.2 c.in-Some.ensures empty

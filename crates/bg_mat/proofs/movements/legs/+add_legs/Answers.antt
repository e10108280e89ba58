use Rattle.std.proofs.Common.{◌≡◌, ℕ, List, [], ◌∷◌, ◌++◌, length, arith, rules}
use Rattle.std.specs.Prelude.{◌≢◌, IfErr, MatchOption}
use Rattle.bg_mat.specs.Legs.{RefusesLegs, TellsLegs}
use Rattle.bg_mat.specs.declared.movements.legs.LegFault.{LegFault}
use Rattle.std.proofs.lemmas.Bool.Decides.{Decides-eqb}
use Rattle.std.proofs.lemmas.Slice.Eq.{strip_prefix_is}
use Rattle.bg_mat.proofs.OfReading.LegLemmas.{begins, on_ok, one_more}
use Rattle.bg_mat.proofs.OfReading.LegRefusals.{full_refused, leg_refused, more_refused, room_refused, slash_refused}
use Rattle.bg_mat.proofs.OfReading.Refusing.{if_err}
use Rattle.bg_mat.proofs.movements.legs.+add_legs.Goals as goal

pub returns-in_default-clause-fault : goal.returns-in_default-clause-fault
returns-in_default-clause-fault t c =
    let none : MatchOption c.strip_prefix.result ((rest : List ℕ) → c.args.text.now ≢ (47 ∷ []) ++ rest)
    (λ x. c.args.text.now ≡ (47 ∷ []) ++ x.now) =
    strip_prefix_is Decides-eqb c.args.text.now (47 ∷ []) c.strip_prefix.result c.strip_prefix.ensures.cases in
    slash_refused c.args.from c.args.text.now c.args.legs.now.items
    (λ e. let b = rw e at c.if-is_empty.ensures in absurd (cc (b)))
    (rw c.in_default.is at none)

pub returns-in_default-read_leg-clause-fault : goal.returns-in_default-read_leg-clause-fault
returns-in_default-read_leg-clause-fault t c =
    let e = begins c.args.text.now (47 ∷ []) c.in-Some.text.now c.in-Some.ensures.cases in
    let s = c.split_slash.ensures in
    leg_refused c.args.from c.args.text.now c.in-Some.text.now c.split_slash.result.0.now c.split_slash.result.1.now
    c.args.legs.now.items e s.1 s.0 s.2 (rw c.in_default-read_leg.is at c.read_leg.ensures)

pub returns-in_err-add_legs-clause-fault : goal.returns-in_err-add_legs-clause-fault
returns-in_err-add_legs-clause-fault t c =
    let e = begins c.args.text.now (47 ∷ []) c.in-Some.text.now c.in-Some.ensures.cases in
    let s = c.split_slash.ensures in
    let h : RefusesLegs (TellsLegs c.args.from c.args.text.now) c.args.legs.now.items c.in_err-add_legs.field-0.0 =
    full_refused c.args.from c.args.text.now c.in-Some.text.now c.split_slash.result.0.now c.split_slash.result.1.now
    c.in-Some-read_leg.leg c.args.legs.now.items c.in_err-add_legs.field-0.0 e s.1 s.0 s.2 c.in-Some-read_leg.ensures
    (rw c.to-to.ensures.value at c.in_err-add_legs.ensures.fault) in
    let passed : (P : LegFault → Type 0) → P c.in_err-add_legs.field-0.0 → IfErr c.from_residual.result P =
    λ P k. search (rules, k) in
    passed (RefusesLegs (TellsLegs c.args.from c.args.text.now) c.args.legs.now.items) h

pub returns-then-is_full-clause-fault : goal.returns-then-is_full-clause-fault
returns-then-is_full-clause-fault t c =
    let e = begins c.args.text.now (47 ∷ []) c.in-Some.text.now c.in-Some.ensures.cases in
    let full : length c.args.legs.now.items ≡ 4 = grind (arith, c.if-is_full.ensures.value) in
    room_refused c.args.from c.args.text.now c.in-Some.text.now c.split_slash.result.0.now c.split_slash.result.1.now
    c.in-Some-read_leg.leg c.args.legs.now.items c.add_legs.new.legs.items e c.split_slash.ensures.1 c.in-Some-read_leg.ensures
    (omega (arith, full)) (rw c.to-to.ensures.value at c.in_ok-add_legs.ensures.added)

pub returns-clause-added : goal.returns-clause-added
returns-clause-added t c =
    let e = begins c.args.text.now (47 ∷ []) c.in-Some.text.now c.in-Some.ensures.cases in
    let rest = rw c.to-to.ensures.value at c.add_legs-2.ensures.added in
    on_ok c.add_legs-2.result
    (one_more c.args.from c.args.text.now c.split_slash.result.0.now c.split_slash.result.1.now c.in-Some-read_leg.leg c.args.legs.now.items _
    c.add_legs-2.new.legs.items (rw c.split_slash.ensures.1 at e) c.in-Some-read_leg.ensures c.push.ensures.items)
    rest

pub returns-clause-fault : goal.returns-clause-fault
returns-clause-fault t c =
    let e = begins c.args.text.now (47 ∷ []) c.in-Some.text.now c.in-Some.ensures.cases in
    let s = c.split_slash.ensures in
    let rest = rw c.to-to.ensures.value at c.add_legs-2.ensures.fault in
    if_err c.add_legs-2.result
    (λ fault. more_refused c.args.from c.args.text.now c.in-Some.text.now c.split_slash.result.0.now c.split_slash.result.1.now
    c.in-Some-read_leg.leg c.args.legs.now.items _ fault e s.1 s.0 s.2 c.in-Some-read_leg.ensures c.push.ensures.items)
    rest

use Rattle.std.proofs.Common.{◌≡◌, ◌∙◌, ◌+◌, length, slice_get, Bool, true, false, sym, ap, refl, Some, None, arith}
use Rattle.std.specs.Option.{option_copied}
use Rattle.std.proofs.lemmas.Option.{slice_get_read}
use Rattle.bg_match.specs.Match.{at_number}
use Rattle.bg_match.proofs.Equal.{compares_entries}
use Rattle.bg_party.proofs.Conflicts.{agrees_behind, agrees_more, agrees_all, conflicts}
use Rattle.bg_party.proofs.told.first_conflict.Goals as goal

pub returns-in-Some-2 : goal.returns-in-Some-2
returns-in-Some-2 c =
    let held : at_number c.args.log.now.entries (c.args.start + c.loop-index.index) ≡ Some c.in-Some.held.now =
    sym c.entry.ensures ∙ ap option_copied c.in-Some.is in
    let told : slice_get c.args.list.now c.loop-index.index ≡ Some c.index-list-index.result =
    slice_get_read c.args.list.now
    (length c.args.list.now) c.loop-index.index c.index-list-index.result refl c.loop-index-test.true
    c.index-list-index.is in
    conflicts c.args.log.now.entries c.args.start c.loop-index.index c.args.list.now c.in-Some.held.now
    c.index-list-index.result c.loop-index.invariant told held
    (λ same. differ _ (compares_entries _ _).1 same (sym c.eq.ensures ∙ c.if-eq.false))
  where
    differ : (b : Bool) {P : Type 0} → (P → b ≡ true) → P → b ≡ false → ⊥
    differ b h p e = let t = h p in cc

pub returns-in-None : goal.returns-in-None
returns-in-None c =
    let none : at_number c.args.log.now.entries (c.args.start + c.loop-index.index) ≡ None = sym c.entry.ensures
    ∙ ap option_copied c.in-None.is in
    agrees_behind c.args.log.now.entries c.args.start c.loop-index.index c.args.list.now c.requires.first
    c.loop-index.invariant none

pub loop-index-preserved : goal.loop-index-preserved
loop-index-preserved c =
    let held : at_number c.args.log.now.entries (c.args.start + c.loop-index.index) ≡ Some c.in-Some.held.now =
    sym c.entry.ensures ∙ ap option_copied c.in-Some.is in
    let same = (compares_entries _ _).0 (sym c.eq.ensures ∙ c.if-eq.true) in
    let told : slice_get c.args.list.now c.loop-index.index ≡ Some c.index-list-index.result =
    slice_get_read c.args.list.now
    (length c.args.list.now) c.loop-index.index c.index-list-index.result refl c.loop-index-test.true
    c.index-list-index.is in
    agrees_more c.args.log.now.entries c.args.start c.loop-index.index c.args.list.now c.index-list-index.result
    c.loop-index.invariant told (held ∙ ap Some same)

pub returns : goal.returns
returns c =
    agrees_all c.args.log.now.entries c.args.start c.loop-index.index c.args.list.now
    (omega arith) c.loop-index.invariant

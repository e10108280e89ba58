use Rattle.std.proofs.Common.{◌≡◌, Err, rules, refl}
use Rattle.bg_text.proofs.Spelling.PairTexts.{no_halves, pair_fault, step_of_ends, no_step}
use Rattle.bg_text.proofs.entries.pairs.read_pair.Goals as goal

pub returns-in_default : goal.returns-in_default
returns-in_default c = no_halves _ c.in_default.ensures

pub returns-in_err-from : goal.returns-in_err-from
returns-in_err-from c =
    let same : c.from_residual.result ≡ Err c.in_err-from.field-0.0 = search rules in
    rw same (pair_fault _ _ _ _ _ _ c.in-Some.ensures c.read_source.ensures c.read_target.ensures c.in_err-from.ensures)

pub returns-in-Some-new : goal.returns-in-Some-new
returns-in-Some-new c =
    step_of_ends _ _ _ _ _ _ _ _
    c.in-Some.ensures c.read_source.ensures c.read_target.ensures c.in_ok-from.ensures
    (c.in-Some-new.ensures.some.0 refl) c.in-Some-new.ensures.value

pub returns-in-None : goal.returns-in-None
returns-in-None c =
    no_step _ _ _ _ _ _ _
    c.in-Some.ensures c.read_source.ensures c.read_target.ensures c.in_ok-from.ensures c.in-None.ensures.some.1

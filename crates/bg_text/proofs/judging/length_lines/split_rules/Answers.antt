use Rattle.std.proofs.Common.{Some, None, append-nil, sym}
use Rattle.std.specs.Prelude.{codes}
use Rattle.std.proofs.lemmas.Bool.Decides.{Decides-eqb}
use Rattle.std.proofs.lemmas.Slice.Eq.{strip_suffix_is}
use Rattle.bg_text.proofs.Judged.LengthLines.{digits_before, digits_alone}
use Rattle.bg_text.proofs.judging.length_lines.split_rules.Goals as goal

pub returns-in-Some-clause-whole : goal.returns-in-Some-clause-whole
returns-in-Some-clause-whole c = strip_suffix_is Decides-eqb c.args.words.now (codes " rules 2") (Some c.in-Some.digits) c.in-Some.ensures.cases

pub returns-in-Some-clause-only : goal.returns-in-Some-clause-only
returns-in-Some-clause-only c = λ digits rules are e.
    let whole = strip_suffix_is Decides-eqb c.args.words.now (codes " rules 2") (Some c.in-Some.digits) c.in-Some.ensures.cases in
    digits_before c.args.words.now c.in-Some.digits.now digits rules whole are e

pub returns-in-None-clause-whole : goal.returns-in-None-clause-whole
returns-in-None-clause-whole c = sym (append-nil c.args.words.now)

pub returns-in-None-clause-only : goal.returns-in-None-clause-only
returns-in-None-clause-only c = λ digits rules are e.
    digits_alone c.args.words.now digits rules (strip_suffix_is Decides-eqb c.args.words.now (codes " rules 2") None c.in-None.ensures.cases) e

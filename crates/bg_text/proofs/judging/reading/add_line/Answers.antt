use Rattle.std.proofs.Common.{◌≡◌, ap}
use Rattle.std.proofs.lemmas.Result.{err_from_is_err_and}
use Rattle.bg_match.specs.declared.entries.Entry.{Entry}
use Rattle.bg_text.specs.Judge.Reading.{IsLineAt}
use Rattle.bg_text.proofs.Judged.ReadLines.{line_added, line_refused, same_ok, refused_illegal}
use Rattle.bg_text.proofs.judging.reading.add_line.Goals as goal

pub returns-in_err-push-clause-fault : goal.returns-in_err-push-clause-fault
returns-in_err-push-clause-fault c =
    let p = err_from_is_err_and c.from_residual-in_err-push.result c.from_residual-in_err-push.ensures.1 in
    let only : (f : Entry) → IsLineAt c.standing.result c.args.line.now f → c.in_ok-entry.entry ≡ f =
    λ f at. same_ok c.read_line.result c.in_ok-entry.entry f c.in_ok-entry.was (c.read_line.ensures.only f at) in
    rw (p.1, p.2)
    (line_refused c.args.log.now c.standing.result c.args.line.now c.standing.ensures.stands c.in_ok-entry.entry c.in_err-push.field-0.0
    c.in_ok-entry.ensures.found only c.in_err-push.ensures.fault
    (refused_illegal c.push.result c.in_err-push.field-0.0 c.in_err-push.was c.push.ensures.ok))

pub returns-clause-added : goal.returns-clause-added
returns-clause-added c =
    line_added c.args.log.now c.standing.result c.args.line.now c.standing.ensures.stands c.in_ok-entry.entry c.push.new.self
    c.in_ok-entry.ensures.found (ap (λ log. log.entries) c.in_ok-push.ensures.appended) (ap (λ log. log.terms) c.in_ok-push.ensures.appended) (ap (λ log. log.id) c.in_ok-push.ensures.appended)
    c.in_ok-push.ensures.legal

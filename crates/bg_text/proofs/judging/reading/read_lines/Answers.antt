use Rattle.std.proofs.Common.{ap, refl}
use Rattle.bg_match.specs.Match.{Log}
use Rattle.bg_text.specs.Judge.Judging.{lines_of}
use Rattle.bg_text.proofs.Judged.PartRead.{part_start, part_more, all_read, line_stops}
use Rattle.bg_text.proofs.judging.reading.read_lines.Goals as goal

pub loop-line-init : goal.loop-line-init
loop-line-init c =
    let new = rw c.unwrap-log.ensures at c.new.ensures.value in
    part_start c.args.id c.args.terms (lines_of c.args.lines.now) c.unwrap-log.result c.args.lines.now refl (ap (λ (r : Log). r.entries) new) (ap (λ (r : Log). r.terms) new) (ap (λ (r : Log). r.id) new)

pub loop-line-preserved : goal.loop-line-preserved
loop-line-preserved c =
    part_more c.args.id c.args.terms (lines_of c.args.lines.now) c.loop-line.log c.add_line.new.log c.loop-line.rest.now c.in-Some.after.now c.in-Some.line.now
    c.loop-line.invariant c.in-Some.ensures.lines c.in-Ok.ensures.added

pub returns-in-Err-Refused : goal.returns-in-Err-Refused
returns-in-Err-Refused c =
    let fault = rw c.in-Err-Refused.field-0-is at c.in-Err-Refused.ensures.fault in
    let same = c.in-Err-Refused.ensures.err in
    rw (same, c.in-Err-Refused.why-is)
    (line_stops c.args.id c.args.terms (lines_of c.args.lines.now) c.loop-line.log c.loop-line.rest.now c.in-Some.after.now c.in-Some.line.now c.in-Err-Refused.why
    c.loop-line.invariant c.in-Some.ensures.lines fault)

pub returns : goal.returns
returns c =
    let empty = c.in_default.ensures.none.0 refl in
    all_read c.args.id c.args.terms (lines_of c.args.lines.now) c.loop-line.log (rw empty at c.loop-line.invariant)

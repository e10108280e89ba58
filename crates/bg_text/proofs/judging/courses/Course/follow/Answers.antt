use Rattle.std.proofs.Common.{arith, refl}
use Rattle.std.proofs.lemmas.Result.{err_from_is_err_and}
use Rattle.bg_text.proofs.Judged.Courses.{fault_stops, full_stops, err_illegal}
use Rattle.bg_text.proofs.Judged.ReadLines.{line_at, read_alone, read_as, read_of_line}
use Rattle.bg_text.proofs.judging.courses.Course.follow.Goals as goal

pub returns-in-Err-clause-refused : goal.returns-in-Err-clause-refused
returns-in-Err-clause-refused c = (
  rw c.in-Err.is at c.parse_entry-read.ensures.fault,
  λ e few at.
      let read = read_of_line c.args.self.now.standing c.args.line.now c.parse_entry-read.result c.parse_entry-read.ensures.only e at in
      absurd (cc (read, c.in-Err.is)),
)

pub returns-in_err-apply-clause-refused : goal.returns-in_err-apply-clause-refused
returns-in_err-apply-clause-refused c =
    let p = err_from_is_err_and c.from_residual.result c.from_residual.ensures.1 in
    let read = read_as c.args.self.now.standing c.args.line.now _ _ _ _ c.in-Ok.is c.parse_entry-read.ensures.found c.is_wrong_seat.ensures c.if-is_wrong_seat.false in
    let alone = read_alone c.args.self.now.standing c.args.line.now _ _ _ c.in-Ok.is c.parse_entry-read.ensures.only in
    rw (p.1, p.2)
    (fault_stops c.args.self.now c.args.line.now c.in-Ok.entry read alone c.in_err-apply.field-0.0
    (omega (arith, c.if-self-ge-MOST_ENTRIES.false)) c.in_err-apply.ensures.fault
    (err_illegal c.apply.result c.in_err-apply.field-0.0 c.in_err-apply.was c.apply.ensures.ok))

pub returns-then-self-ge-MOST_ENTRIES-clause-refused : goal.returns-then-self-ge-MOST_ENTRIES-clause-refused
returns-then-self-ge-MOST_ENTRIES-clause-refused c =
    let read = read_as c.args.self.now.standing c.args.line.now _ _ _ _ c.in-Ok.is c.parse_entry-read.ensures.found c.is_wrong_seat.ensures c.if-is_wrong_seat.false in
    let alone = read_alone c.args.self.now.standing c.args.line.now _ _ _ c.in-Ok.is c.parse_entry-read.ensures.only in
    full_stops c.args.self.now c.args.line.now c.in-Ok.entry read alone c.if-self-ge-MOST_ENTRIES.true

pub returns-clause-added : goal.returns-clause-added
returns-clause-added c =
    let follows = c.in_ok-apply.ensures.after in
    let read = read_as c.args.self.now.standing c.args.line.now _ _ _ _ c.in-Ok.is c.parse_entry-read.ensures.found c.is_wrong_seat.ensures c.if-is_wrong_seat.false in
    let at = line_at c.args.self.now.standing c.args.line.now c.in-Ok.entry c.apply.new.self read follows in
    (c.in-Ok.entry, at, follows, omega (arith, c.if-self-ge-MOST_ENTRIES.false), refl)

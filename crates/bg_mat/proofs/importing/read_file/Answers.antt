use Rattle.std.proofs.Common.{◌≡◌, [], refl, arith, rules}
use Rattle.bg_text.specs.Judge.Judging.{lines_of}
use Rattle.bg_mat.specs.Refusals.{IsReadFault}
use Rattle.std.proofs.lemmas.Grind.{common_steps}
use Rattle.bg_mat.proofs.OfReading.ImportedFiles.{crawford_behind, file_ends, file_imported, header_told}
use Rattle.bg_mat.proofs.OfReading.LegLemmas.{if_ok}
use Rattle.bg_mat.proofs.OfReading.Refusing.{begin_refused, crawford_refused, filler_refused, games_refused, if_err}
use Rattle.bg_mat.proofs.importing.read_file.Goals as goal

pub returns-in_err-record-clause-fault : goal.returns-in_err-record-clause-fault
returns-in_err-record-clause-fault c =
    let h : IsReadFault c.args.id c.args.rules (lines_of c.args.input.now) c.in_err-record.field-0.0 =
    begin_refused c.args.id c.args.rules c.args.input.now c.loop-line.number c.loop-line.rest.now c.in-Some.line.now c.in-Some.after.now
    c.in_err-record.field-0.0 c.loop-line.invariant.refuses c.in-Some.ensures.lines
    (λ f. let t = c.is_header.ensures.1 f in absurd (cc (t, c.if-not-is_header.true))) c.in_err-record.ensures.fault in
    search (rules, h)

pub returns-then-not-is_header-clause-done : goal.returns-then-not-is_header-clause-done
returns-then-not-is_header-clause-done c =
    let (log, (points, is, begins)) = c.in_ok-record.ensures.done in
    if_ok c.read_games.result
    (λ imported h. file_imported c.args.id c.args.rules (lines_of c.args.input.now) c.loop-line.rest.now c.in-Some.line.now
    c.in-Some.after.now c.loop-line.number points c.in_ok-record.record c.new.result imported.record imported.lines.items
    c.loop-line.invariant.file c.in-Some.ensures.lines is begins c.new.ensures h)
    c.read_games.ensures.done

pub returns-then-not-is_header-clause-ends : goal.returns-then-not-is_header-clause-ends
returns-then-not-is_header-clause-ends c =
    let (log, (points, is, begins)) = c.in_ok-record.ensures.done in
    if_ok c.read_games.result
    (λ imported h. file_ends (lines_of c.args.input.now) c.loop-line.rest.now c.in-Some.line.now c.in-Some.after.now
    c.loop-line.number points imported.within_game c.loop-line.invariant.file c.in-Some.ensures.lines is h)
    c.read_games.ensures.ends

pub returns-then-not-is_header-clause-fault : goal.returns-then-not-is_header-clause-fault
returns-then-not-is_header-clause-fault c =
    let (log, (points, is, terms)) = c.in_ok-record.ensures.done in
    let range : points ≡ c.in_ok-record.record.terms.length = rw terms refl in
    if_err c.read_games.result
    (λ fault h. games_refused c.args.id c.args.rules c.args.input.now c.loop-line.number points c.loop-line.rest.now c.in-Some.line.now
    c.in-Some.after.now fault c.loop-line.invariant.refuses c.in-Some.ensures.lines
    (λ f. let t = c.is_header.ensures.1 f in absurd (cc (t, c.if-not-is_header.true))) is
    (let low = log.points.0 in omega (arith, range)) (let low = log.points.1 in omega (arith, range)) c.new.result (rw terms at c.new.ensures) h)
    c.read_games.ensures.fault

pub returns-then-takes_away-clause-fault : goal.returns-then-takes_away-clause-fault
returns-then-takes_away-clause-fault c =
    let header = c.is_header.ensures.0 c.if-not-is_header.false in
    let has = crawford_behind c.loop-line.rest.now c.in-Some.line.now (lines_of c.in-Some.after.now) c.has_crawford-crawford.result
    c.in-Some.ensures.lines header c.loop-line.invariant.crawford in
    rw c.refused.ensures (crawford_refused c.args.id c.args.rules c.args.input.now c.loop-line.number c.loop-line.rest.now
    c.in-Some.line.now c.in-Some.after.now c.has_crawford-crawford.result c.takes_away.result c.loop-line.invariant.refuses
    c.in-Some.ensures.lines header has c.takes_away.ensures c.if-takes_away.true)

pub loop-line-preserved : goal.loop-line-preserved
loop-line-preserved c =
    let header = c.is_header.ensures.0 c.if-not-is_header.false in
    let has = crawford_behind c.loop-line.rest.now c.in-Some.line.now (lines_of c.in-Some.after.now) c.has_crawford-crawford.result
    c.in-Some.ensures.lines header c.loop-line.invariant.crawford in record {
      file = λ points told there h. c.loop-line.invariant.file points told there
          (header_told c.loop-line.rest.now c.in-Some.line.now c.in-Some.after.now c.loop-line.number c.has_crawford-crawford.result
          c.takes_away.result c.in-Some.ensures.lines header has c.takes_away.ensures c.if-takes_away.false points told there h);
      refuses = filler_refused c.args.id c.args.rules c.args.input.now c.loop-line.number c.loop-line.rest.now c.in-Some.line.now
          c.in-Some.after.now c.has_crawford-crawford.result c.takes_away.result c.loop-line.invariant.refuses c.in-Some.ensures.lines
          header has c.takes_away.ensures c.if-takes_away.false;
      crawford = has;
      few = omega (arith, c.in-Some.ensures.shorter, c.loop-line.invariant.few);
    }

pub returns-clause-fault : goal.returns-clause-fault
returns-clause-fault c =
    let none : c.loop-line.rest.now ≡ [] = grind (arith, common_steps, c.split_line.ensures.none, c.in_default.is) in
    rw c.refused-2.ensures (c.loop-line.invariant.refuses c.loop-line.number _ (rw none (refl, refl)))

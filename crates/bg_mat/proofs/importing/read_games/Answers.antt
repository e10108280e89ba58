use Rattle.std.proofs.Common.{◌≡◌, [], arith, rules}
use Rattle.std.proofs.lemmas.Grind.{common_steps}
use Rattle.bg_text.specs.Judge.Judging.{lines_of}
use Rattle.bg_mat.specs.Refusals.{AreRefusedGames, IsToldLine, Refuses}
use Rattle.bg_mat.proofs.OfReading.Readings.{all_end, all_read, filler_read, line_read, reading_begins}
use Rattle.bg_mat.proofs.OfReading.Refusing.{end_refused, line_refused, pending_on, told_here}
use Rattle.bg_mat.proofs.importing.read_games.Goals as goal
use Rattle.bg_mat.proofs.importing.read_games.Goals.{then-not-is_filler+in_ok-awaited, else-not-is_filler}

pub loop-line-init : goal.loop-line-init
loop-line-init c = record {
  read = reading_begins c.args.start c.args.first c.args.input.now c.requires.replay;
  pending = rw c.requires.none tt;
  closed = λ is. c.requires.none;
  few = omega arith;
}

pub loop-line-preserved : goal.loop-line-preserved
loop-line-preserved c = record {
  read = elim c.if-not-is_filler.branch [
    | then-not-is_filler+in_ok-awaited w ↦ rw (w.replay-is, w.awaited-is)
        (line_read c.args.start c.args.first c.args.input.now c.loop-line.replay _ c.loop-line.awaited _ c.loop-line.number
        c.loop-line.rest.now c.in-Some.line.now c.in-Some.after.now w.in_ok-awaited.ensures.done.0 c.loop-line.invariant.read
        c.in-Some.ensures.lines (λ f. let t = c.is_filler.ensures.1 f in absurd (cc (t, w.if-not-is_filler.true)))
        w.in_ok-awaited.ensures.done.1 w.in_ok-awaited.ensures.done.2)
    | else-not-is_filler w ↦ rw (w.replay-is, w.awaited-is)
        (filler_read c.args.start c.args.first c.args.input.now c.loop-line.replay c.loop-line.awaited c.loop-line.number
        c.loop-line.rest.now c.in-Some.line.now c.in-Some.after.now c.loop-line.invariant.read c.in-Some.ensures.lines
        (c.is_filler.ensures.0 w.if-not-is_filler.false))
  ];
  pending = elim c.if-not-is_filler.branch [
    | then-not-is_filler+in_ok-awaited w ↦ rw w.replay-is
        (pending_on (IsToldLine c.args.first (lines_of c.args.input.now)) c.loop-line.replay _ c.loop-line.number
        w.in_ok-awaited.ensures.done.0 c.loop-line.invariant.pending
        (told_here c.args.start c.args.first c.args.input.now c.loop-line.replay c.loop-line.awaited c.loop-line.number
        c.loop-line.rest.now c.in-Some.line.now c.in-Some.after.now c.loop-line.invariant.read c.in-Some.ensures.lines
        (λ f. let t = c.is_filler.ensures.1 f in absurd (cc (t, w.if-not-is_filler.true))))
        w.in_ok-awaited.ensures.done.2)
    | else-not-is_filler w ↦ rw w.replay-is c.loop-line.invariant.pending
  ];
  closed = elim c.if-not-is_filler.branch [
    | then-not-is_filler+in_ok-awaited w ↦ rw (w.replay-is, w.awaited-is) w.in_ok-awaited.ensures.closed
    | else-not-is_filler w ↦ rw (w.replay-is, w.awaited-is) c.loop-line.invariant.closed
  ];
  few = omega (arith, c.in-Some.ensures.shorter, c.loop-line.invariant.few);
}

pub returns-in_err-awaited-clause-fault : goal.returns-in_err-awaited-clause-fault
returns-in_err-awaited-clause-fault c =
    let h : Refuses (AreRefusedGames c.args.start c.args.first (lines_of c.args.input.now)) c.in_err-awaited.field-0.0 =
    line_refused c.args.start c.args.first c.args.input.now c.loop-line.replay c.loop-line.awaited c.loop-line.number
    c.loop-line.rest.now c.in-Some.line.now c.in-Some.after.now c.in_err-awaited.field-0.0 c.loop-line.invariant.read
    c.in-Some.ensures.lines
    (λ f. let t = c.is_filler.ensures.1 f in absurd (cc (t, c.if-not-is_filler.true)))
    c.loop-line.invariant.pending c.in_err-awaited.ensures.fault in
    search (rules, h)

pub returns-in_err-finish-clause-fault : goal.returns-in_err-finish-clause-fault
returns-in_err-finish-clause-fault c =
    let none : c.loop-line.rest.now ≡ [] = grind (arith, common_steps, c.split_line.ensures.none, c.in_default.is) in
    let (stays, refused, is) = c.in_err-finish.ensures.fault in
    let h : Refuses (AreRefusedGames c.args.start c.args.first (lines_of c.args.input.now)) c.in_err-finish.field-0.0 =
    end_refused c.args.start c.args.first c.args.input.now c.loop-line.replay c.loop-line.awaited c.loop-line.number
    c.loop-line.rest.now c.in_err-finish.field-0.0 stays c.loop-line.invariant.read none c.loop-line.invariant.pending
    refused is in
    search (rules, h)

pub returns-clause-done : goal.returns-clause-done
returns-clause-done c =
    let none : c.loop-line.rest.now ≡ [] = grind (arith, common_steps, c.split_line.ensures.none, c.in_default.is) in
    all_read c.args.start c.args.first c.args.input.now c.loop-line.replay c.finish.new.self c.loop-line.awaited
    c.loop-line.number c.loop-line.rest.now c.loop-line.invariant.read none c.in_ok-finish.ensures.done

pub returns-clause-ends : goal.returns-clause-ends
returns-clause-ends c =
    let none : c.loop-line.rest.now ≡ [] = grind (arith, common_steps, c.split_line.ensures.none, c.in_default.is) in
    all_end c.args.start c.args.first c.args.input.now c.loop-line.replay c.loop-line.awaited c.loop-line.number c.loop-line.rest.now
    c.is_within_game.result c.loop-line.invariant.read none c.is_within_game.ensures

use Rattle.std.proofs.Common.{◌∙◌, []}
use Rattle.bg_text.specs.Judge.Judging.{lines_of}
use Rattle.bg_reports.proofs.LineAt.{next_behind}
use Rattle.bg_reports.proofs.checking.lines.line_at.Goals as goal

pub loop-before-preserved : goal.loop-before-preserved
loop-before-preserved c =
    next_behind [] (lines_of c.args.text.now) c.loop-before._before c.in-Some.field-0-0.now
    (lines_of c.in-Some.after.now) (c.loop-before.invariant ∙ c.in-Some.ensures.lines)

use Rattle.std.proofs.Common.{◌≡◌, ◌∙◌, sym, Ok}
use Rattle.bg_text.proofs.Judged.Courses.{course_begins, course_grows}
use Rattle.bg_text.proofs.judging.courses.Heard.hear.Goals.{in-Some, in-None}
use Rattle.bg_text.proofs.judging.courses.Heard.hear.Goals as goal

pub returns-in_default : goal.returns-in_default
returns-in_default c none lines keeps = elim c.match-self.branch [
  | in-Some w ↦
      let ok : w.follow-heard.result ≡ Ok c.in_default.field-0 = sym w.heard-is ∙ c.in_default.is in
      let heard = rw w.in-Some.is at keeps in
      let added = rw ok at w.follow-heard.ensures.added in
      rw (w.self-is, none) (course_grows w.in-Some.course w.follow-heard.new.self lines c.args.line.now heard added)
  | in-None w ↦
      let ok : w.begin-heard.result ≡ Ok c.in_default.field-0 = sym w.heard-is ∙ c.in_default.is in
      let first = rw w.in-None.is at keeps in
      let begun = rw ok at w.begin-heard.ensures.begun in
      rw (w.self-is, w.begin-heard.ensures.refusal, none, first) (course_begins w.begin-heard.new.self.course c.args.line.now begun.0 begun.1)
]

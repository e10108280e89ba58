use Rattle.bg_text.proofs.Judged.Courses.{fine_answers, refused_answers}
use Rattle.bg_text.proofs.judging.courses.Heard.judgement.Goals as goal

pub returns-in-Some-None : goal.returns-in-Some-None
returns-in-Some-None c =
    rw (c.in-Some-None.is-0, c.in-Some-None.is-1) (fine_answers c.fine.result c.in-Some-None.course c.fine.ensures.text c.fine.ensures.verdict)

pub returns-in-Some-Some : goal.returns-in-Some-Some
returns-in-Some-Some c =
    rw (c.in-Some-Some.is-0, c.in-Some-Some.is-1)
    (refused_answers c.refused.result c.in-Some-Some.course c.in-Some-Some.why c.refused.ensures.text c.refused.ensures.verdict)

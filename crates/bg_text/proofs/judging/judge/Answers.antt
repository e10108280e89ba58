use Rattle.std.proofs.Common.{Ok, ◌≡◌, rules}
use Rattle.bg_text.proofs.Judged.HeardBytes.{IsSaid, said_of_input}
use Rattle.bg_text.proofs.Judged.WholeInputs.{judged_known}
use Rattle.bg_text.proofs.judging.judge.Goals.{in-Some, in-None}
use Rattle.bg_text.proofs.judging.judge.Goals as goal

pub returns-clause-judged : goal.returns-clause-judged
returns-clause-judged g c =
    let heard = c.in_ok-judge.ensures.heard in
    let judgement = c.in_ok-judgement.judgement in
    let ended : c.match-branch-2.map_err ≡ Ok judgement = search (rules, c.in_ok-judgement.was, c.in_ok-judgement.ensures.cases) in
    let said : IsSaid c.in_ok-judge.field-0 judgement.text.items judgement.verdict =
    elim c.match-branch-2.branch [
      | in-Some w ↦ rw w.in-Some.is (rw (← w.map_err-is, ended) at w.end.ensures)
      | in-None w ↦ rw w.in-None.is (rw (← w.map_err-is, ended) at w.too_long.ensures)
    ] in
    let judged = said_of_input c.in_ok-judge.field-0 heard.0 judgement.text.items judgement.verdict heard.2 said in
    let done : c.write_text.result ≡ Ok c.in_ok-map_err.field-0 = search (rules, c.in_ok-map_err.was, c.in_ok-map_err.ensures.cases) in
    let written = rw (done, c.deref.ensures.value) at c.write_text.ensures.written in (
      heard.0,
      judgement.text.items,
      heard.1,
      judged,
      written,
      judged_known _ _ _ _ heard.1.known judged,
    )

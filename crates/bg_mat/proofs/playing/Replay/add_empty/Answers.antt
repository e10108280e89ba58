use Rattle.std.proofs.Common.{◌≡◌, ◌≢◌, ◌∙◌, inr}
use Rattle.bg_match.specs.Actor.{actor_of}
use Rattle.bg_match.specs.declared.phases.Actor.TheVariants as actor
use Rattle.bg_mat.proofs.OfReading.ItemRefusals.{passed_by_referee}
use Rattle.bg_mat.proofs.OfReading.Refusing.{if_err, why_at}
use Rattle.bg_mat.proofs.playing.Replay.add_empty.Goals as goal

pub returns-clause-fault : goal.returns-clause-fault
returns-clause-fault c =
    let s = c.args.self.now.standing in
    let other : actor_of s ≢ actor.Referee = λ e.
    let is : c.actor.result ≡ actor.Referee = c.actor.ensures ∙ e in
    let t = rw is at c.if-eq.ensures in
    absurd (cc (t)) in
    let plays = (passed_by_referee s c.args.player c.requires.moves.0 c.requires.moves.1).1 other in
    if_err c.add-2.result
    (λ fault. why_at c.args.line fault (λ why h. inr (plays, inr (c.in_ok-turn.turn, c.in_ok-turn.ensures.done, h))))
    c.add-2.ensures.fault

use Rattle.std.proofs.Common.{◌≡◌, ◌<◌, ◌^◌, ℕ, suc, ◌+◌, arith, subst}
use Rattle.bg_auto.specs.Attempts.{word_for}
use Rattle.bg_auto.specs.Simulating.{HappensAs, Runs}
use Rattle.bg_auto.specs.Words.{event_words}
use Rattle.bg_auto.proofs.simulation.Simulation.run.Goals as goal

pub loop-index-preserved : goal.loop-index-preserved
loop-index-preserved g c =
    let old = c.loop-index.self in
    let index = c.loop-index.index in
    let is = c.loop-index.invariant in
    let few : index < 2 ^ 32 = omega arith in
    let word : c.word_for-word.result ≡ word_for old.seed old.dice.held old.dice.attempt =
    rw (← is.kept) c.word_for-word.ensures.word in
    let words : c.next_event_words.result ≡ event_words old.seed index =
    c.next_event_words.ensures.words old.seed index few is.schedule in
    let happens : HappensAs old index c.happen.new.self = c.in_ok-happen.ensures index word words in
    let next : suc index ≡ index + 1 = omega arith in
    record {
      runs = subst (λ (n : ℕ). Runs n c.args.self.now c.happen.new.self) next (old, is.runs, happens);
      schedule = rw happens.seed (c.next_event_words.ensures.next old.seed index few is.schedule);
      kept = rw (happens.seed, ← is.kept) c.word_for-word.ensures.seed;
    }

use Rattle.std.proofs.Common.{◌≡◌, ◌↔◌, true, List, sym, arith}
use Rattle.std.specs.Prelude.{Contains}
use Rattle.std.proofs.lemmas.List.{get_or_read}
use Rattle.bg_board.specs.FromTo.{FromTo}
use Rattle.bg_turns.specs.Turn.{IsLegalTurn}
use Rattle.bg_mat.proofs.OfReading.TurnLemmas.{found_turn, no_turn, none_more}
use Rattle.bg_mat.proofs.movements.turns.find_turn.Goals as goal

pub returns-then-fits : goal.returns-then-fits
returns-then-fits c =
    let turns = c.deref-turn-items.result.now in
    let exact : (steps : List FromTo) → Contains turns steps ↔ IsLegalTurn c.args.board.now c.args.player c.args.dice steps =
    rw c.deref-turn-items.ensures.value c.in_ok-turns.ensures.exactly in
    let both = (rw c.as_turn-written.ensures at c.fits.ensures).0 c.if-fits.true in
    rw c.copy.ensures.value
    (found_turn c.args.board.now c.args.player c.args.dice c.args.legs.now turns c.loop-turn.turn-index c.turn-item.result
    (λ w. let t : c.has_hits.result ≡ true = (rw c.as_turn-written.ensures at c.has_hits.ensures).1 (w.legal, w.hits) in
    absurd (cc (t, c.if-has_hits.false)))
    exact (rw c.deref-turn-items.ensures.value c.in_ok-turns.ensures.greatest_first) c.loop-turn.invariant
    c.loop-turn-test.true
    (λ d. sym (get_or_read turns c.loop-turn.turn-index c.turn-item.result c.loop-turn-test.true c.turn-item.is d))
    both.0 both.1)

pub loop-turn-preserved : goal.loop-turn-preserved
loop-turn-preserved c =
    let turns = c.deref-turn-items.result.now in
    none_more c.args.board.now c.args.player c.args.legs.now turns c.loop-turn.turn-index c.turn-item.result
    c.loop-turn.invariant
    (λ d. sym (get_or_read turns c.loop-turn.turn-index c.turn-item.result c.loop-turn-test.true c.turn-item.is d))
    (λ moved hits.
    let t : c.fits.result ≡ true = (rw c.as_turn-written.ensures at c.fits.ensures).1 (moved, hits) in
    absurd (cc (t, c.if-fits.false)))

pub returns : goal.returns
returns c =
    let turns = c.deref-turn-items.result.now in
    let exact : (steps : List FromTo) → Contains turns steps ↔ IsLegalTurn c.args.board.now c.args.player c.args.dice steps =
    rw c.deref-turn-items.ensures.value c.in_ok-turns.ensures.exactly in
    no_turn c.args.board.now c.args.player c.args.dice c.args.legs.now turns exact
    (λ k d below. c.loop-turn.invariant k d (omega (arith, below, c.loop-turn-test.false)))

use Rattle.std.proofs.Common.{◌≡◌, ◌≢◌, arith, [], ◌∷◌}
use Rattle.bg_mat.specs.Telling.{Game}
use Rattle.bg_mat.proofs.OfReading.Replays.{begun, goes_on_twice}
use Rattle.std.proofs.Common.{false, inl, inr, refl}
use Rattle.bg_mat.proofs.OfReading.ItemRefusals.{game_wins_none}
use Rattle.bg_mat.proofs.playing.Replay.begin_game.Goals.{then-number-from-2-via-then-number-from-2, then-number-from-2-via-else-number-from-2+then-not-is_opening}
use Rattle.bg_mat.proofs.playing.Replay.begin_game.Goals as goal

pub returns-clause-done : goal.returns-clause-done
returns-clause-done c =
    let closed = c.in_ok-close.ensures.done.0 in
    let is : c.args.number ≡ c.close.new.self.standing.game = omega (arith, c.from-2.ensures, c.game-game.ensures, c.if-number-from-2.false) in
    let other : c.args.number ≢ c.close.new.self.game = omega (arith, c.from.ensures, c.if-number-from.false) in
    rw c.game-game.ensures
    (goes_on_twice c.args.self.now c.close.new.self _ [] (record { line = c.args.line; item = Game c.args.number } ∷ []) closed.0
    (begun c.close.new.self c.args.line c.args.number c.score-self.result closed.0.replay closed.1
    (c.is_opening.ensures.0 c.if-not-is_opening.false) is other c.score-self.ensures))

pub returns-then-number-from-clause-fault : goal.returns-then-number-from-clause-fault
returns-then-number-from-clause-fault c =
    rw c.refused.ensures (record {
      stays = false;
      loses = game_wins_none c.args.self.now.pending c.args.number;
      refused = inr (
        c.close.new.self,
        c.in_ok-close.ensures.done,
        refl,
        inl (refl, λ e. omega (arith, e, c.from.ensures, c.if-number-from.true)),
      );
    })

pub returns-then-number-from-2-clause-fault : goal.returns-then-number-from-2-clause-fault
returns-then-number-from-2-clause-fault c =
    rw c.refused-then-number-from-2.ensures (record {
      stays = false;
      loses = game_wins_none c.args.self.now.pending c.args.number;
      refused = inr (
        c.close.new.self,
        c.in_ok-close.ensures.done,
        refl,
        inr (
          omega (arith, c.from.ensures, c.if-number-from.false),
          elim c.then-number-from-2.branch [
            | then-number-from-2-via-then-number-from-2 w ↦
                inl (λ e. omega (arith, e, c.from-2.ensures, c.game-game.ensures, w.if-number-from-2.true))
            | then-number-from-2-via-else-number-from-2+then-not-is_opening w ↦
                inr (λ e. let t = w.is_opening.ensures.1 e in absurd (cc (t, w.if-not-is_opening.true)))
          ],
          c.game_fault.ensures,
        ),
      );
    })

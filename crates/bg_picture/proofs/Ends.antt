-- Where games end.
use Rattle.std.proofs.Common.{◌≡◌, ℕ, ◌+◌, ◌*◌, ◌≤◌, ltb, Bool, true, false, cond, Option, Some, None, refl, sym, ◌∙◌, ap, subst, arith, List}
use Rattle.bg_board.specs.FromTo.{FromTo}
use Rattle.bg_board.specs.Position.{opponent}
use Rattle.bg_board.specs.declared.players.Player.{Player}
use Rattle.bg_board.specs.declared.players.Player.TheVariants.{X, O}
use Rattle.bg_turns.specs.Turn.{IsLegalTurn, after_steps}
use Rattle.bg_turns.specs.declared.throws.Dice.{Dice}
use Rattle.bg_match.specs.Follows.{CanFollow, Follows, after_level}
use Rattle.bg_match.specs.Level.{multiple, level_of}
use Rattle.bg_match.specs.State.{State, IsState, IsCubeOf, after_win, greater_score, next_game, scored}
use Rattle.bg_match.specs.Terms.{match_length}
use Rattle.bg_match.specs.Limits.{greatest_cube}
use Rattle.bg_match.specs.declared.entries.Entry.{Entry}
use Rattle.bg_match.specs.declared.entries.Entry.TheVariants as entry
use Rattle.bg_match.specs.declared.levels.Level.{Level}
use Rattle.bg_match.specs.declared.phases.Phase.{Phase}
use Rattle.bg_match.specs.declared.phases.Phase.TheVariants as phase
use Rattle.bg_picture.specs.Wins.{end_of, has_ended, turn_win, win_of}

-- by the test whether the match goes on
scored_ended : (t : State) (w : Player) (before : ℕ) (on : Bool) → has_ended (cond on (next_game t before) (record t { phase = phase.Over w })).phase ≡ true
scored_ended t w before true = refl
scored_ended t w before false = refl

won_ended : (s : State) (w : Player) (n : ℕ) → has_ended (after_win s w n).phase ≡ true
won_ended s X n = scored_ended (scored s X n) X (greater_score s) (ltb (s.x_score + n) (match_length s.terms))
won_ended s O n = scored_ended (scored s O n) O (greater_score s) (ltb (s.o_score + n) (match_length s.terms))

turn_goes_on : (s : State) (p : Player) (cube : ℕ) (level : Option Level) → has_ended (after_level s p level).phase ≡ false → turn_win cube p level ≡ None
turn_goes_on s p cube None on = refl
turn_goes_on s p cube (Some level) on = let ended = won_ended s p (multiple level * s.cube.value) in absurd cc

-- nothing is won where the game goes on
pub no_win : (s : State) (e : Entry) (t : State) → Follows s e t → has_ended t.phase ≡ false → win_of s e ≡ None
no_win s (entry.Opening x o) t h on = refl
no_win s (entry.Rolled dice) t h on = refl
no_win s entry.Doubled t h on = refl
no_win s entry.Taken t h on = refl
no_win s entry.Dropped t (q, ph, is) on =
    let ended = won_ended s (opponent q) s.cube.value in
    let going : has_ended (after_win s (opponent q) s.cube.value).phase ≡ false = rw is at on in
    absurd cc
no_win s (entry.Moved turn) t (p, dice, ph, passing, legal, is) on =
    let board = after_steps s.board p turn in
    rw ph (turn_goes_on (record s { board = board }) p s.cube.value (level_of board p) (rw is at on))
no_win s (entry.Resigned level) t h on = refl
no_win s entry.Accepted t (p, level, back, ph, is) on =
    let ended = won_ended s (opponent p) (multiple level * s.cube.value) in
    let going : has_ended (after_win s (opponent p) (multiple level * s.cube.value)).phase ≡ false = rw is at on in
    absurd cc
no_win s entry.Rejected t h on = refl
no_win s entry.Passed t h on = refl

scored_game : (s t : State) (w : Player) (before : ℕ) (on : Bool) → t.game ≡ s.game → s.game ≤ (cond on (next_game t before) (record t { phase = phase.Over w })).game
scored_game s t w before true h = omega (arith, h)
scored_game s t w before false h = omega (arith, h)

won_game : (s : State) (w : Player) (n : ℕ) → s.game ≤ (after_win s w n).game
won_game s X n = scored_game s (scored s X n) X (greater_score s) (ltb (s.x_score + n) (match_length s.terms)) refl
won_game s O n = scored_game s (scored s O n) O (greater_score s) (ltb (s.o_score + n) (match_length s.terms)) refl

turn_game : (s : State) (p : Player) (level : Option Level) → s.game ≤ (after_level s p level).game
turn_game s p None = omega arith
turn_game s p (Some level) = won_game s p (multiple level * s.cube.value)

same_game : (s t : State) → t.game ≡ s.game → s.game ≤ t.game
same_game s t h = omega (arith, h)

-- no entry leads back to an earlier game
pub later_game : (s : State) (e : Entry) (t : State) → Follows s e t → s.game ≤ t.game
later_game s (entry.Opening x o) t h = same_game s t (ap (λ u. u.game) h.2)
later_game s (entry.Rolled dice) t h = same_game s t (ap (λ u. u.game) h.2)
later_game s entry.Doubled t h = same_game s t (ap (λ u. u.game) h.3)
later_game s entry.Taken t h = same_game s t (ap (λ u. u.game) h.2)
later_game s entry.Dropped t h = rw h.2 (won_game s (opponent h.0) s.cube.value)
later_game s (entry.Moved turn) t h =
    let board = after_steps s.board h.0 turn in
    rw h.5 (turn_game (record s { board = board }) h.0 (level_of board h.0))
later_game s (entry.Resigned level) t h = same_game s t (ap (λ u. u.game) h.4)
later_game s entry.Accepted t h = rw h.4 (won_game s (opponent h.0) (multiple h.1 * s.cube.value))
later_game s entry.Rejected t h = same_game s t (ap (λ u. u.game) h.4)
later_game s entry.Passed t h = same_game s t (ap (λ u. u.game) h.4)

pub cube_limited : (ph : Phase) (value : ℕ) → IsCubeOf ph value → value ≤ greatest_cube
cube_limited phase.Opening value h = h
cube_limited (phase.ToAct p) value h = h
cube_limited (phase.Doubled p) value h = omega (arith, h)
cube_limited (phase.ToMove p dice) value h = h
cube_limited (phase.Resigned p level back) value h = h
cube_limited (phase.Over p) value h = h

cube_at_end : (ph : Phase) (value : ℕ) → has_ended ph ≡ true → value ≤ greatest_cube → IsCubeOf ph value
cube_at_end phase.Opening value ended h = h
cube_at_end (phase.ToAct p) value ended h = absurd cc
cube_at_end (phase.Doubled p) value ended h = absurd cc
cube_at_end (phase.ToMove p dice) value ended h = absurd cc
cube_at_end (phase.Resigned p level back) value ended h = absurd cc
cube_at_end (phase.Over p) value ended h = h

-- the end of a game is a standing
pub end_stands : (s : State) (e : Entry) (t : State) → Follows s e t → has_ended t.phase ≡ true → IsState s → IsState t → IsState (end_of s e t)
end_stands s e t follows ended from to =
    let later = later_game s e t follows in
    record {
      shortest = to.shortest;
      longest = to.longest;
      cube_value = from.cube_value;
      cube_limit = cube_at_end t.phase s.cube.value ended (cube_limited s.phase s.cube.value from.cube_limit);
      middle = from.middle;
      scores = to.scores;
      first_game = from.first_game;
      games = omega (arith, later, to.games);
    }

-- a turn that follows is legal
pub turn_legal : (s : State) (turn : List FromTo) (p : Player) (dice : Dice) → s.phase ≡ phase.ToMove p dice → CanFollow s (entry.Moved turn)
    → IsLegalTurn s.board p dice turn
turn_legal s turn p dice ph (t, h) =
    let both : phase.ToMove h.0 h.1 ≡ phase.ToMove p dice = sym h.2 ∙ ph in
    let player : h.0 ≡ p = cc in
    let thrown : h.1 ≡ dice = cc in
    subst (λ (x : Player). IsLegalTurn s.board x dice turn) player (subst (λ (x : Dice). IsLegalTurn s.board h.0 x turn) thrown h.4)

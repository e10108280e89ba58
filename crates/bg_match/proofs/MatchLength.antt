-- The length of a match stays.
use Rattle.std.proofs.Common.{◌≡◌, ℕ, ◌+◌, ◌*◌, ltb, Bool, true, false, cond, Option, Some, None, List, [], ◌∷◌, refl, ◌∙◌, ap}
use Rattle.bg_match.specs.Terms.{Terms, match_length}
use Rattle.bg_board.specs.Position.{Position}
use Rattle.bg_board.specs.declared.players.Player.{Player}
use Rattle.bg_board.specs.declared.players.Player.TheVariants.{X, O}
use Rattle.bg_turns.specs.Turn.{after_steps}
use Rattle.bg_match.specs.declared.levels.Level.{Level}
use Rattle.bg_match.specs.declared.phases.Phase.TheVariants as phase
use Rattle.bg_match.specs.declared.entries.Entry.{Entry}
use Rattle.bg_match.specs.declared.entries.Entry.TheVariants as entry
use Rattle.bg_match.specs.Level.{multiple, level_of}
use Rattle.bg_match.specs.State.{State, scored, next_game, after_win, start_of, greater_score}
use Rattle.bg_match.specs.Follows.{Follows, after_level}
use Rattle.bg_match.specs.Match.{Leads, StandsAt}

-- by the test whether the match goes on
after_scored : (s t : State) (winner : Player) (before : ℕ) (running : Bool) → t.terms ≡ s.terms → (cond running (next_game t before) (record t { phase = phase.Over winner })).terms ≡ s.terms
after_scored s t winner before true h = h
after_scored s t winner before false h = h

terms-after_win : (s : State) (winner : Player) (n : ℕ) → (after_win s winner n).terms ≡ s.terms
terms-after_win s X n = after_scored s (scored s X n) X (greater_score s) (ltb (s.x_score + n) (match_length s.terms)) refl
terms-after_win s O n = after_scored s (scored s O n) O (greater_score s) (ltb (s.o_score + n) (match_length s.terms)) refl

terms-after_level : (s : State) (board : Position) (p : Player) (level : Option Level) → (after_level (record s { board = board }) p level).terms ≡ s.terms
terms-after_level s board p None = refl
terms-after_level s board p (Some level) = terms-after_win (record s { board = board }) p (multiple level * s.cube.value)

terms-Follows : (s : State) (e : Entry) (t : State) → Follows s e t → t.terms ≡ s.terms
terms-Follows s (entry.Opening x o) t h = ap (λ u. u.terms) h.2
terms-Follows s (entry.Rolled dice) t h = ap (λ u. u.terms) h.2
terms-Follows s entry.Doubled t h = ap (λ u. u.terms) h.3
terms-Follows s entry.Taken t h = ap (λ u. u.terms) h.2
terms-Follows s entry.Dropped t h = rw h.2 (terms-after_win s _ _)
terms-Follows s (entry.Moved turn) t h = rw h.5 (terms-after_level s (after_steps s.board h.0 turn) h.0 (level_of (after_steps s.board h.0 turn) h.0))
terms-Follows s (entry.Resigned level) t h = ap (λ u. u.terms) h.4
terms-Follows s entry.Accepted t h = rw h.4 (terms-after_win s _ _)
terms-Follows s entry.Rejected t h = ap (λ u. u.terms) h.4
terms-Follows s entry.Passed t h = ap (λ u. u.terms) h.4

terms-Leads : (s : State) (entries : List Entry) (t : State) → Leads s entries t → t.terms ≡ s.terms
terms-Leads s [] t h = ap (λ u. u.terms) h
terms-Leads s (e ∷ rest) t h = terms-Leads h.0 rest t h.2 ∙ terms-Follows s e h.0 h.1

pub terms-StandsAt : (terms : Terms) (entries : List Entry) (t : State) → StandsAt terms entries t → t.terms ≡ terms
terms-StandsAt terms entries t h = terms-Leads (start_of terms) entries t h

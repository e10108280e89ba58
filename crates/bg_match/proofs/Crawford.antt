-- The mark of a standing is that of the list of scores.
use Rattle.std.proofs.Common.{◌≡◌, ◌≢◌, ◌↔◌, ℕ, ◌+◌, ◌*◌, Bool, true, false, cond, eqb, ltb, eq-eqb, Option, Some, None, List, [], ◌∷◌, refl, sym, ◌∙◌, ap, subst, arith}
use Rattle.std.proofs.lemmas.Bool.{cond-true, cond-false, ne_eqb}
use Rattle.std.proofs.lemmas.Bool.Decides.{nat_tests}
use Rattle.bg_match.specs.Terms.{Terms, match_length}
use Rattle.bg_board.specs.Position.{Position, opponent}
use Rattle.bg_board.specs.declared.players.Player.{Player}
use Rattle.bg_board.specs.declared.players.Player.TheVariants.{X, O}
use Rattle.bg_turns.specs.declared.throws.Dice.{Dice}
use Rattle.bg_turns.specs.Turn.{after_steps}
use Rattle.bg_match.specs.declared.levels.Level.{Level}
use Rattle.bg_match.specs.declared.phases.Phase.TheVariants as phase
use Rattle.bg_match.specs.declared.entries.Entry.{Entry}
use Rattle.bg_match.specs.declared.entries.Entry.TheVariants as entry
use Rattle.bg_match.specs.Level.{multiple, level_of}
use Rattle.bg_match.specs.State.{State, IsRunning, scored, next_game, after_win, start_of, is_crawford, greater_score}
use Rattle.bg_match.specs.Follows.{Follows, phase_back, after_level}
use Rattle.bg_match.specs.Match.{Leads, LeadsWithScores, scores_then, IsCrawfordGame, MarksCrawford}
use Rattle.bg_match.proofs.MatchLength.{terms-StandsAt}

-- the mark by the scores
abbrev mark_of : ℕ → List ℕ → Bool
mark_of length [] = false
mark_of length (latest ∷ []) = is_crawford length None latest
mark_of length (latest ∷ before ∷ rest) = is_crawford length (Some before) latest

abbrev StartsWith : List ℕ → ℕ → Type 0
StartsWith [] n = ⊥
StartsWith (g ∷ gs) n = g ≡ n

record Agrees (s : State) (scores : List ℕ) : Type 0 where
  pub mark : s.crawford ≡ mark_of (match_length s.terms) scores
  pub latest : IsRunning s.phase → StartsWith scores (greater_score s)

-- the game goes on
goes_on : (s t : State) (scores : List ℕ) → Agrees s scores → IsRunning s.phase → t.game ≡ s.game → t.crawford ≡ s.crawford → t.terms ≡ s.terms → greater_score t ≡ greater_score s → Agrees t (scores_then s t scores)
goes_on s t scores h running game mark terms greater =
    let same : scores_then s t scores ≡ scores = cond-true (eqb t.game s.game) _ _ (eq-eqb t.game s.game game) in
    rw same (record {
      mark = mark ∙ (h.mark ∙ ap (λ (m : Terms). mark_of (match_length m) scores) (sym terms));
      latest = λ _. rw greater (h.latest running);
    })

-- the next game
mark_more : (length n g : ℕ) (scores : List ℕ) → StartsWith scores n → is_crawford length (Some n) g ≡ mark_of length (g ∷ scores)
mark_more length n g [] h = absurd h
mark_more length n g (m ∷ scores) h = ap (λ k. is_crawford length (Some k) g) (sym h)

opens : (s t : State) (scores : List ℕ) → Agrees s scores → IsRunning s.phase → t.game ≡ s.game + 1 → t.crawford ≡ is_crawford (match_length t.terms) (Some (greater_score s)) (greater_score t) → Agrees t (scores_then s t scores)
opens s t scores h running game mark =
    let other : t.game ≢ s.game = omega arith in
    let more : scores_then s t scores ≡ greater_score t ∷ scores = cond-false (eqb t.game s.game) _ _ (ne_eqb t.game s.game other) in
    rw more (record {
      mark = mark ∙ mark_more (match_length t.terms) (greater_score s) (greater_score t) scores (h.latest running);
      latest = λ _. refl;
    })

-- the match is over
ends : (s t : State) (scores : List ℕ) → Agrees s scores → t.game ≡ s.game → t.crawford ≡ s.crawford → t.terms ≡ s.terms → (IsRunning t.phase → ⊥) → Agrees t (scores_then s t scores)
ends s t scores h game mark terms over =
    let same : scores_then s t scores ≡ scores = cond-true (eqb t.game s.game) _ _ (eq-eqb t.game s.game game) in
    rw same (record {
      mark = mark ∙ (h.mark ∙ ap (λ (m : Terms). mark_of (match_length m) scores) (sym terms));
      latest = λ running. absurd (over running);
    })

wins : (s : State) (w : Player) (n : ℕ) (scores : List ℕ) → Agrees s scores → IsRunning s.phase → Agrees (after_win s w n) (scores_then s (after_win s w n) scores)
wins s X n scores h running = go (ltb (s.x_score + n) (match_length s.terms)) where
  go : (t : Bool) → Agrees (cond t (next_game (scored s X n) (greater_score s)) (record (scored s X n) { phase = phase.Over X })) (scores_then s (cond t (next_game (scored s X n) (greater_score s)) (record (scored s X n) { phase = phase.Over X })) scores)
  go true = opens s (next_game (scored s X n) (greater_score s)) scores h running refl refl
  go false = ends s (record (scored s X n) { phase = phase.Over X }) scores h refl refl refl (λ r. r)
wins s O n scores h running = go (ltb (s.o_score + n) (match_length s.terms)) where
  go : (t : Bool) → Agrees (cond t (next_game (scored s O n) (greater_score s)) (record (scored s O n) { phase = phase.Over O })) (scores_then s (cond t (next_game (scored s O n) (greater_score s)) (record (scored s O n) { phase = phase.Over O })) scores)
  go true = opens s (next_game (scored s O n) (greater_score s)) scores h running refl refl
  go false = ends s (record (scored s O n) { phase = phase.Over O }) scores h refl refl refl (λ r. r)

back_runs : (p : Player) (b : Option Dice) → IsRunning (phase_back p b)
back_runs p None = tt
back_runs p (Some dice) = tt

-- after a turn
moves : (s : State) (board : Position) (p : Player) (level : Option Level) (scores : List ℕ) → Agrees s scores → IsRunning s.phase → Agrees (after_level (record s { board = board }) p level) (scores_then s (after_level (record s { board = board }) p level) scores)
moves s board p None scores h running = goes_on s (record s { board = board; phase = phase.ToAct (opponent p) }) scores h running refl refl refl refl
moves s board p (Some level) scores h running =
    wins (record s { board = board }) p (multiple level * s.cube.value) scores (record { mark = h.mark; latest = h.latest }) running

-- one entry
follows_agrees : (s : State) (e : Entry) (t : State) (scores : List ℕ) → Agrees s scores → Follows s e t → Agrees t (scores_then s t scores)
follows_agrees s (entry.Opening x o) t scores h f =
    let running : IsRunning s.phase = rw f.0 tt in
    rw f.2 (goes_on s _ scores h running refl refl refl refl)
follows_agrees s (entry.Rolled dice) t scores h f =
    let running : IsRunning s.phase = rw f.1 tt in
    rw f.2 (goes_on s _ scores h running refl refl refl refl)
follows_agrees s entry.Doubled t scores h f =
    let running : IsRunning s.phase = rw f.1 tt in
    rw f.3 (goes_on s _ scores h running refl refl refl refl)
follows_agrees s entry.Taken t scores h f =
    let running : IsRunning s.phase = rw f.1 tt in
    rw f.2 (goes_on s _ scores h running refl refl refl refl)
follows_agrees s entry.Dropped t scores h f =
    let running : IsRunning s.phase = rw f.1 tt in
    rw f.2 (wins s (opponent f.0) s.cube.value scores h running)
follows_agrees s (entry.Moved turn) t scores h f =
    let running : IsRunning s.phase = rw f.2 tt in
    rw f.5 (moves s (after_steps s.board f.0 turn) f.0 (level_of (after_steps s.board f.0 turn) f.0) scores h running)
follows_agrees s (entry.Resigned level) t scores h f =
    let running : IsRunning s.phase = rw f.2 (back_runs f.0 f.1) in
    rw f.4 (goes_on s _ scores h running refl refl refl refl)
follows_agrees s entry.Accepted t scores h f =
    let running : IsRunning s.phase = rw f.3 tt in
    rw f.4 (wins s (opponent f.0) (multiple f.1 * s.cube.value) scores h running)
follows_agrees s entry.Rejected t scores h f =
    let running : IsRunning s.phase = rw f.3 tt in
    rw f.4 (goes_on s _ scores h running refl refl refl refl)
follows_agrees s entry.Passed t scores h f =
    let running : IsRunning s.phase = rw f.2 tt in
    rw f.4 (goes_on s _ scores h running refl refl refl refl)

leads_agrees : (s : State) (scores : List ℕ) (entries : List Entry) (t : State) (all : List ℕ) → Agrees s scores → LeadsWithScores s scores entries t all → Agrees t all
leads_agrees s scores [] t all h l = rw (l.0, l.1) h
leads_agrees s scores (e ∷ entries) t all h l =
    leads_agrees l.0 (scores_then s l.0 scores) entries t all (follows_agrees s e l.0 scores h l.1) l.2

mark_is : (length : ℕ) (scores : List ℕ) → (mark_of length scores ≡ true) ↔ IsCrawfordGame length scores
mark_is length [] = (λ h. cc, λ h. absurd h)
mark_is length (latest ∷ []) = (λ h. grind (arith, nat_tests), λ h. grind (arith, nat_tests))
mark_is length (latest ∷ before ∷ rest) = (λ h. (grind (arith, nat_tests), grind (arith, nat_tests)), λ h. grind (arith, nat_tests))

without_scores : (s : State) (scores : List ℕ) (entries : List Entry) (t : State) (all : List ℕ) → LeadsWithScores s scores entries t all → Leads s entries t
without_scores s scores [] t all l = l.0
without_scores s scores (e ∷ rest) t all l = (l.0, l.1, without_scores l.0 (scores_then s l.0 scores) rest t all l.2)

pub marks_crawford : MarksCrawford
marks_crawford terms entries t scores l =
    let h = leads_agrees (start_of terms) (0 ∷ []) entries t scores (record { mark = refl; latest = λ _. refl }) l in
    let by_scores : (t.crawford ≡ true) ↔ IsCrawfordGame (match_length t.terms) scores =
    (λ marked. (mark_is (match_length t.terms) scores).0 (sym h.mark ∙ marked), λ game. h.mark ∙ (mark_is (match_length t.terms) scores).1 game) in
    let same = terms-StandsAt terms entries t (without_scores (start_of terms) (0 ∷ []) entries t scores l) in
    subst (λ (m : Terms). (t.crawford ≡ true) ↔ IsCrawfordGame (match_length m) scores) same by_scores

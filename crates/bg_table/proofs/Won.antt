-- What is said of a game that is won.
use Rattle.std.proofs.Common.{◌≡◌, ℕ, ◌+◌, ◌≤◌, ltb, Bool, true, false, cond, refl, arith}
use Rattle.std.proofs.lemmas.Bool.{cond-true}
use Rattle.std.proofs.lemmas.Bool.Decides.{nat_tests}
use Rattle.bg_board.specs.declared.players.Player.{Player}
use Rattle.bg_board.specs.declared.players.Player.TheVariants.{X, O}
use Rattle.bg_match.specs.State.{State, after_win, greater_score, next_game, score_of, scored}
use Rattle.bg_match.specs.Terms.{match_length}
use Rattle.bg_match.specs.declared.phases.Phase.TheVariants.{Over}
use Rattle.bg_table.specs.Laws.{TellsWin}
use Rattle.bg_table.specs.Results.{gained, result_words}

-- the scores after a win, whether the match goes on or not
kept_scores : (t : State) (winner player : Player) (before : ℕ) (on : Bool)
    → score_of (cond on (next_game t before) (record t { phase = Over winner })) player ≡ score_of t player
kept_scores t winner X before true = refl
kept_scores t winner X before false = refl
kept_scores t winner O before true = refl
kept_scores t winner O before false = refl

scores : (s : State) (winner player : Player) (n : ℕ) → score_of (after_win s winner n) player ≡ score_of (scored s winner n) player
scores s winner player n =
    kept_scores (scored s winner n) winner player (greater_score s) (ltb (score_of (scored s winner n) winner) (match_length s.terms))

some : (n : ℕ) → 1 ≤ n → ltb 0 n ≡ true
some n h = grind (arith, nat_tests)

pub tells_win : TellsWin
unfolding result_words
tells_win s X reader n h =
    let t = after_win s X n in
    let more : gained s t X ≡ n = let is : score_of t X ≡ s.x_score + n = scores s X X n in omega (arith, is) in
    rw more (cond-true (ltb 0 n) _ _ (some n h))
tells_win s O reader n h =
    let t = after_win s O n in
    let none : gained s t X ≡ 0 = let is : score_of t X ≡ s.x_score = scores s O X n in omega (arith, is) in
    let more : gained s t O ≡ n = let is : score_of t O ≡ s.o_score + n = scores s O O n in omega (arith, is) in
    rw (none, more) (cond-true (ltb 0 n) _ _ (some n h))

-- What is told of the end of a game.
use Rattle.std.specs.Prelude.{◌≡◌, ℕ, ◌+◌, ◌*◌, ◌<◌, if◌then◌else◌, Bool, true, false, Option, Some, None, List, [], ◌∷◌, ◌++◌}
use Rattle.std.proofs.Common.{append-nil, refl, sym, ◌∙◌, ap, inl, inr, arith}
use Rattle.bg_board.specs.Position.{opponent}
use Rattle.bg_board.specs.declared.players.Player.{Player}
use Rattle.bg_board.specs.declared.players.Player.TheVariants.{X, O}
use Rattle.bg_match.specs.Follows.{Follows}
use Rattle.bg_match.specs.Level.{multiple}
use Rattle.bg_match.specs.Match.{Leads}
use Rattle.bg_match.specs.State.{State, IsRunning, next_game, score_of, scored}
use Rattle.bg_match.specs.Terms.{Terms}
use Rattle.bg_match.specs.declared.levels.Level.{Level}
use Rattle.bg_match.specs.declared.phases.Phase.TheVariants as phase
use Rattle.bg_match.specs.declared.entries.Entry.{Entry}
use Rattle.bg_match.specs.declared.entries.Entry.TheVariants as entry
use Rattle.bg_mat.specs.Telling.{Does, GoesOn, IsOver, MayResign, Place, Tells, before_of, deed_of}
use Rattle.bg_mat.specs.Tellings.{IsWinBetween, TellsWin, with_telling}
use Rattle.bg_mat.specs.declared.rows.cells.Cell.TheVariants as cell
use Rattle.bg_mat.specs.declared.rows.cells.Win.{Win}
use Rattle.bg_mat.specs.declared.awaiting.Awaited.{Awaited}
use Rattle.bg_mat.specs.declared.awaiting.Awaited.TheVariants as awaited
use Rattle.bg_mat.specs.declared.tellings.Telling.{Telling}
use Rattle.bg_mat.specs.declared.tellings.Telling.TheVariants as telling
use Rattle.bg_mat.proofs.OfWriting.Retold.{told_more, one_item, InGame, calm_phase, calm, IsAt, IsOffer, MayStand, IsTold, IsSettled}

-- no score grows: there is no win
pub no_win : (s t : State) (won : Option Telling) → t.x_score ≡ s.x_score → t.o_score ≡ s.o_score → TellsWin s t won
    → won ≡ None
no_win s t None x o h = refl
no_win s t (Some (telling.Game game)) x o h = absurd h
no_win s t (Some (telling.Does X (cell.Wins win))) x o h = let k = h.grown in let m = h.some in absurd (omega arith)
no_win s t (Some (telling.Does O (cell.Wins win))) x o h = let k = h.grown in let m = h.some in absurd (omega arith)
no_win s t (Some (telling.Does p (cell.Turn dice legs))) x o h = absurd h
no_win s t (Some (telling.Does p (cell.CannotMove dice))) x o h = absurd h
no_win s t (Some (telling.Does p (cell.Unknown dice))) x o h = absurd h
no_win s t (Some (telling.Does p (cell.Doubles n))) x o h = absurd h
no_win s t (Some (telling.Does p cell.Takes)) x o h = absurd h
no_win s t (Some (telling.Does p cell.Drops)) x o h = absurd h

-- one score grows: it is that player's win
win_is : (s t : State) (w : Player) (n : ℕ) (won : Option Telling) → 0 < n → score_of t w ≡ score_of s w + n
    → score_of t (opponent w) ≡ score_of s (opponent w) → TellsWin s t won
    → (win : Win) × (won ≡ Some (telling.Does w (cell.Wins win))) × (win.points ≡ n) × IsWinBetween s t w win
win_is s t X n None some grown same h = let k = h.0 in absurd (omega arith)
win_is s t O n None some grown same h = let k = h.1 in absurd (omega arith)
win_is s t w n (Some (telling.Game game)) some grown same h = absurd h
win_is s t X n (Some (telling.Does X (cell.Wins win))) some grown same h =
    let k = h.grown in (win, refl, omega arith, h)
win_is s t O n (Some (telling.Does O (cell.Wins win))) some grown same h =
    let k = h.grown in (win, refl, omega arith, h)
win_is s t X n (Some (telling.Does O (cell.Wins win))) some grown same h =
    let k = h.grown in let m = h.some in absurd (omega arith)
win_is s t O n (Some (telling.Does X (cell.Wins win))) some grown same h =
    let k = h.grown in let m = h.some in absurd (omega arith)
win_is s t w n (Some (telling.Does p (cell.Turn dice legs))) some grown same h = absurd h
win_is s t w n (Some (telling.Does p (cell.CannotMove dice))) some grown same h = absurd h
win_is s t w n (Some (telling.Does p (cell.Unknown dice))) some grown same h = absurd h
win_is s t w n (Some (telling.Does p (cell.Doubles m))) some grown same h = absurd h
win_is s t w n (Some (telling.Does p cell.Takes)) some grown same h = absurd h
win_is s t w n (Some (telling.Does p cell.Drops)) some grown same h = absurd h

-- after a win: the next game, or the end of the match
abbrev pub won_state : Bool → State → Player → ℕ → ℕ → State
won_state true s w n greater = next_game (scored s w n) greater
won_state false s w n greater = record (scored s w n) { phase = phase.Over w }

won_score : (b : Bool) (s : State) (w : Player) (n g : ℕ) → score_of (won_state b s w n g) w ≡ score_of s w + n
won_score true s X n g = refl
won_score true s O n g = refl
won_score false s X n g = refl
won_score false s O n g = refl

lost_score : (b : Bool) (s : State) (w : Player) (n g : ℕ)
    → score_of (won_state b s w n g) (opponent w) ≡ score_of s (opponent w)
lost_score true s X n g = refl
lost_score true s O n g = refl
lost_score false s X n g = refl
lost_score false s O n g = refl

pub is_won_state : (s : State) (w : Player) (n : ℕ) (g : ℕ) (b : Bool) (t : State)
    → t ≡ (if b then next_game (scored s w n) g else record (scored s w n) { phase = phase.Over w })
    → t ≡ won_state b s w n g
is_won_state s w n g true t h = h
is_won_state s w n g false t h = h

scored_game : (s : State) (w : Player) (n : ℕ) → (scored s w n).game ≡ s.game
scored_game s X n = refl
scored_game s O n = refl

-- what a win leads to is where a match may be told to
won_over : (b : Bool) (s : State) (w : Player) (n g : ℕ) (p : Place) → p.state ≡ won_state b s w n g → s.game ≡ p.game
    → IsOver p
won_over true s w n g p at game =
    let next : p.state.game ≡ (scored s w n).game + 1 = ap (λ (x : State). x.game) at in
    inr (λ e. absurd (omega (arith, scored_game s w n)))
won_over false s w n g p at game = inl (w, ap (λ (x : State). x.phase) at)

won_at : (b : Bool) (s : State) (w : Player) (n g : ℕ) (p : Place) (told kept : List Entry) → kept ≡ told
    → p.state ≡ won_state b s w n g → s.game ≡ p.game
    → IsAt (calm_phase (won_state b s w n g).phase) told kept p (calm (won_state b s w n g))
won_at true s w n g p told kept all at game = (all, at, λ e. absurd (omega (arith, scored_game s w n)))
won_at false s w n g p told kept all at game = (all, at)

won_offer : (b : Bool) (s : State) (w : Player) (n g : ℕ)
    → IsOffer (won_state b s w n g).phase (won_state b s w n g)
won_offer true s w n g = tt
won_offer false s w n g = tt

won_stands : (b : Bool) (s : State) (w : Player) (n g : ℕ) (there : Awaited) → there ≡ awaited.Game
    → MayStand (won_state b s w n g).phase there
won_stands true s w n g there h = λ e. absurd (cc (e, h))
won_stands false s w n g there h = tt

won_cube : (b : Bool) (s : State) (w : Player) (n g : ℕ) → 0 < s.cube.value → 0 < (won_state b s w n g).cube.value
won_cube true s w n g h = omega arith
won_cube false s X n g h = h
won_cube false s O n g h = h

same_score : (r s : State) (w : Player) → r.x_score ≡ s.x_score → r.o_score ≡ s.o_score → score_of r w ≡ score_of s w
same_score r s X x o = x
same_score r s O x o = o

opponent_twice : (p : Player) → opponent (opponent p) ≡ p
opponent_twice X = refl
opponent_twice O = refl

score_before : (p : Place) (s : State) (w : Player) → InGame p s → before_of p w ≡ score_of s w
score_before p s X h = h.x
score_before p s O h = h.o

-- a game is won by what was told of it last
pub won_by_play : (terms : Terms) (kept : List Entry) (r s : State) (w : Player) (n g : ℕ) (b : Bool) (tellings : List Telling) (won : Option Telling)
    → 0 < n → 0 < s.cube.value → r.x_score ≡ s.x_score → r.o_score ≡ s.o_score → r.game ≡ s.game
    → IsSettled terms kept r (won_state b s w n g) tellings → TellsWin r (won_state b s w n g) won
    → IsTold terms kept (won_state b s w n g) (with_telling tellings won)
won_by_play terms kept r s w n g b tellings won some cube x o game h tells =
    let t = won_state b s w n g in
    let of_r : score_of r w ≡ score_of s w = same_score r s w x o in
    let of_other : score_of r (opponent w) ≡ score_of s (opponent w) = same_score r s (opponent w) x o in
    let (win, is, worth, wins) = win_is r t w n won some
    (won_score b s w n g ∙ ap (λ (m : ℕ). m + n) (sym of_r)) (lost_score b s w n g ∙ sym of_other) tells in
    let here : r.game ≡ h.place.game = h.in_game.game in
    let score : score_of h.place.state w ≡ before_of h.place w + win.points =
    ap (λ (y : State). score_of y w) h.at ∙ (wins.grown
    ∙ ap (λ (m : ℕ). m + win.points) (sym (score_before h.place r w h.in_game))) in
    let tells_win : Tells h.place (Does w (deed_of (cell.Wins win))) [] h.place = (
      refl,
      refl,
      (
        inl (won_over b s w n g h.place h.at (sym game ∙ here), wins.some, score, refl),
        λ e. rw h.at (wins.ends e),
      ),
    ) in
    rw is (record {
      told = h.told ++ [];
      place = h.place;
      there = awaited.Game;
      retold = told_more terms tellings h.told [] h.place h.place awaited.Row awaited.Game
          (telling.Does w (cell.Wins win)) h.retold
          (one_item h.place h.place (Does w (deed_of (cell.Wins win))) [] tells_win) (refl, wins.few, refl);
      at = won_at b s w n g h.place (h.told ++ []) kept (h.all ∙ sym (append-nil h.told)) h.at (sym game ∙ here);
      offer = won_offer b s w n g;
      stands = won_stands b s w n g awaited.Game refl;
      cube = won_cube b s w n g cube;
    })

-- a game is won by an offer that is accepted
pub won_by_offer : (terms : Terms) (kept : List Entry) (c s : State) (loser : Player) (level : Level) (g : ℕ) (b : Bool) (tellings : List Telling) (won : Option Telling)
    → 0 < multiple level * c.cube.value → 0 < c.cube.value → MayResign c loser → IsRunning c.phase
    → Follows c (entry.Resigned level) s → s.x_score ≡ c.x_score → s.o_score ≡ c.o_score → s.game ≡ c.game
    → Follows s entry.Accepted (won_state b s (opponent loser) (multiple level * c.cube.value) g)
    → s.cube ≡ c.cube → IsSettled terms kept c c tellings
    → TellsWin s (won_state b s (opponent loser) (multiple level * c.cube.value) g) won
    → IsTold terms (kept ++ entry.Resigned level ∷ entry.Accepted ∷ [])
    (won_state b s (opponent loser) (multiple level * c.cube.value) g) (with_telling tellings won)
won_by_offer terms kept c s loser level g b tellings won some cube may runs offers x o game accepts same h tells =
    let w = opponent loser in
    let n = multiple level * c.cube.value in
    let t = won_state b s w n g in
    let (win, is, worth, wins) = win_is s t w n won some (won_score b s w n g) (lost_score b s w n g) tells in
    let own = entry.Resigned level ∷ entry.Accepted ∷ [] in
    let q : Place = record h.place { state = t } in
    let may_place : MayResign h.place.state (opponent w) =
    rw (h.at, opponent_twice loser) may in
    let leads : Leads h.place.state own t = rw h.at (s, offers, (t, accepts, refl)) in
    let on : GoesOn h.place = record { running = rw h.at runs; same = ap (λ (y : State). y.game) h.at ∙ h.in_game.game } in
    let worth_place : win.points ≡ multiple level * h.place.state.cube.value = rw h.at worth in
    let tells_win : Tells h.place (Does w (deed_of (cell.Wins win))) own q =
    (refl, leads, (inr (on, may_place, (level, worth_place, refl)), wins.ends)) in
    let here : s.game ≡ q.game = game ∙ h.in_game.game in
    rw is (record {
      told = h.told ++ own;
      place = q;
      there = awaited.Game;
      retold = told_more terms tellings h.told own h.place q awaited.Row awaited.Game
          (telling.Does w (cell.Wins win)) h.retold (one_item h.place q (Does w (deed_of (cell.Wins win))) own tells_win)
          (refl, wins.few, refl);
      at = won_at b s w n g q (h.told ++ own) (kept ++ own) (ap (λ (xs : List Entry). xs ++ own) h.all) refl here;
      offer = won_offer b s w n g;
      stands = won_stands b s w n g awaited.Game refl;
      cube = won_cube b s w n g (rw same cube);
    })

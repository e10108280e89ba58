-- What is told within a game.
use Rattle.std.specs.Prelude.{◌≡◌, ◌≢◌, ◌<◌, ◌≤◌, length, Option, Some, None, List, [], ◌∷◌, ◌++◌}
use Rattle.std.proofs.Common.{append_assoc, append-nil, refl, sym, ◌∙◌, ap, subst, inl, inr, arith}
use Rattle.std.specs.List.{AllByRecursion}
use Rattle.bg_board.specs.Position.{Position}
use Rattle.bg_board.specs.Die.{pips}
use Rattle.bg_board.specs.declared.dice.Die.{Die}
use Rattle.arrayvec.specs.ArrayVec.{ArrayVec}
use Rattle.bg_mat.specs.declared.movements.legs.Leg.{Leg}
use Rattle.bg_board.specs.declared.players.Player.{Player}
use Rattle.bg_turns.specs.declared.throws.Dice.{Dice}
use Rattle.bg_match.specs.Follows.{Follows, phase_back, opener}
use Rattle.bg_match.specs.State.{State, IsRunning}
use Rattle.bg_match.specs.Terms.{Terms}
use Rattle.bg_match.specs.declared.levels.Level.{Level}
use Rattle.bg_match.specs.declared.phases.Phase.TheVariants as phase
use Rattle.bg_match.specs.declared.entries.Entry.{Entry}
use Rattle.bg_match.specs.declared.entries.Entry.TheVariants as entry
use Rattle.bg_mat.specs.Telling.{AreOf, Does, Game, Scores, GoesOn, MovesBy, Place, Tells, Turn, deed_of}
use Rattle.bg_mat.specs.Tellings.{IsInOrder, IsOnBoard, HasGameNumbers}
use Rattle.bg_mat.specs.declared.rows.cells.Cell.{Cell}
use Rattle.bg_mat.specs.declared.rows.cells.Cell.TheVariants as cell
use Rattle.bg_mat.specs.declared.awaiting.Awaited.{Awaited}
use Rattle.bg_mat.specs.declared.awaiting.Awaited.TheVariants as awaited
use Rattle.bg_mat.specs.declared.tellings.Telling.{Telling}
use Rattle.bg_mat.specs.declared.tellings.Telling.TheVariants as telling
use Rattle.bg_mat.proofs.OfReading.Replays.{rolled_board}
use Rattle.bg_mat.proofs.OfWriting.Retold.{Retold, told_more, one_item, InGame, IsTold, IsSettled, one_more}

-- dice alone
pub dice_told : (terms : Terms) (kept : List Entry) (b : State) (player : Player) (dice : Dice) (tellings : List Telling)
    → IsTold terms kept (record b { phase = phase.ToMove player dice }) tellings
    → IsSettled terms kept (record b { phase = phase.ToMove player dice }) (record b { phase = phase.ToMove player dice })
    (tellings ++ telling.Does player (cell.Turn dice (record { items = [] })) ∷ [])
dice_told terms kept b player dice tellings h =
    let (roll, all, brings, follows, on, game) = h.at in
    let c : State = record b { phase = phase.ToMove player dice } in
    let q : Place = record h.place { state = c } in
    let tells : Tells h.place (Does player (Turn dice [])) (roll ∷ []) q =
    (refl, (c, follows, refl), (on, (roll, brings, inl (refl, refl)))) in
    record {
      told = h.told ++ roll ∷ [];
      place = q;
      retold = told_more terms tellings h.told (roll ∷ []) h.place q h.there awaited.Row
          (telling.Does player (cell.Turn dice (record { items = [] }))) h.retold
          (one_item h.place q (Does player (Turn dice [])) (roll ∷ []) tells) (h.stands, (tt, omega arith), refl);
      all = all;
      at = refl;
      in_game = record { game = game.game; x = game.x; o = game.o };
    }

-- dice and a move
pub turn_told : (terms : Terms) (kept : List Entry) (b : State) (player : Player) (dice : Dice) (tellings : List Telling) (legs : ArrayVec Leg) (move : Entry) (t : State)
    → AllByRecursion IsOnBoard legs.items × (length legs.items ≤ 4) → MovesBy b.board player dice legs.items move
    → Follows (record b { phase = phase.ToMove player dice }) move t → IsTold terms kept (record b { phase = phase.ToMove player dice }) tellings
    → IsSettled terms (kept ++ move ∷ []) (record b { phase = phase.ToMove player dice }) t
    (tellings ++ telling.Does player (cell.Turn dice legs) ∷ [])
turn_told terms kept b player dice tellings legs move t low by moves h =
    let (roll, all, brings, follows, on, game) = h.at in
    let c : State = record b { phase = phase.ToMove player dice } in
    let q : Place = record h.place { state = t } in
    let own = roll ∷ move ∷ [] in
    let board : b.board ≡ h.place.state.board = rolled_board h.place.state c player dice roll brings follows in
    let by_place : MovesBy h.place.state.board player dice legs.items move =
    subst (λ (x : Position). MovesBy x player dice legs.items move) board by in
    let tells : Tells h.place (Does player (Turn dice legs.items)) own q =
    (refl, (c, follows, (t, moves, refl)), (on, (roll, brings, inr (move, refl, by_place)))) in
    record {
      told = h.told ++ own;
      place = q;
      retold = told_more terms tellings h.told own h.place q h.there awaited.Row (telling.Does player (cell.Turn dice legs))
          h.retold (one_item h.place q (Does player (Turn dice legs.items)) own tells) (h.stands, low, refl);
      all = ap (λ (xs : List Entry). xs ++ move ∷ []) all ∙ append_assoc h.told (roll ∷ []) (move ∷ []);
      at = refl;
      in_game = record { game = game.game; x = game.x; o = game.o };
    }

-- a double, or an answer
pub act_told : (terms : Terms) (kept : List Entry) (s t : State) (player : Player) (tellings : List Telling) (does : Cell) (e : Entry) (told : List Entry) (p : Place) (there : Awaited)
    → Retold terms tellings told p there → there ≡ awaited.Row → kept ≡ told → p.state ≡ s → InGame p s
    → Follows s e t → IsRunning s.phase
    → (GoesOn p → AreOf p player (deed_of does) (e ∷ []) t) → IsInOrder awaited.Row (telling.Does player does ∷ []) awaited.Row
    → IsSettled terms (kept ++ e ∷ []) s t (tellings ++ telling.Does player does ∷ [])
act_told terms kept s t player tellings does e told p there retold row all at game follows runs of order =
    let q : Place = record p { state = t } in
    let on : GoesOn p = record { running = rw at runs; same = ap (λ (x : State). x.game) at ∙ game.game } in
    let tells : Tells p (Does player (deed_of does)) (e ∷ []) q = (refl, (t, rw at follows, refl), of on) in
    record {
      told = told ++ e ∷ [];
      place = q;
      retold = told_more terms tellings told (e ∷ []) p q there awaited.Row (telling.Does player does) retold
          (one_item p q (Does player (deed_of does)) (e ∷ []) tells)
          (subst (λ (x : Awaited). IsInOrder x (telling.Does player does ∷ []) awaited.Row) (sym row) order);
      all = one_more kept told e all;
      at = refl;
      in_game = record { game = game.game; x = game.x; o = game.o };
    }

-- the game goes on, and a player is to roll
pub goes_on : (terms : Terms) (kept : List Entry) (s b : State) (player : Player) (tellings : List Telling)
    → IsSettled terms kept s (record b { phase = phase.ToAct player }) tellings → b.game ≡ s.game → b.x_score ≡ s.x_score
    → b.o_score ≡ s.o_score → 0 < b.cube.value → IsTold terms kept (record b { phase = phase.ToAct player }) tellings
goes_on terms kept s b player tellings h game x o cube = record {
  told = h.told;
  place = h.place;
  there = awaited.Row;
  retold = h.retold;
  at = (h.all, h.at, record { game = game ∙ h.in_game.game; x = h.in_game.x ∙ sym x; o = h.in_game.o ∙ sym o });
  offer = tt;
  stands = refl;
  cube = cube;
}

-- a double is to be answered
pub answers_next : (terms : Terms) (kept : List Entry) (s b : State) (player : Player) (tellings : List Telling)
    → IsSettled terms kept s (record b { phase = phase.Doubled player }) tellings → b.game ≡ s.game
    → b.x_score ≡ s.x_score → b.o_score ≡ s.o_score → 0 < b.cube.value
    → IsTold terms kept (record b { phase = phase.Doubled player }) tellings
answers_next terms kept s b player tellings h game x o cube = record {
  told = h.told;
  place = h.place;
  there = awaited.Row;
  retold = h.retold;
  at = (h.all, h.at, record { game = game ∙ h.in_game.game; x = h.in_game.x ∙ sym x; o = h.in_game.o ∙ sym o });
  offer = tt;
  stands = refl;
  cube = cube;
}

-- a game is opened
pub opening_told : (terms : Terms) (kept : List Entry) (b : State) (x o : Die) (tellings : List Telling)
    → (pips x ≢ pips o) → HasGameNumbers (record { number = b.game; x = b.x_score; o = b.o_score }) → IsTold terms kept (record b { phase = phase.Opening }) tellings
    → IsTold terms (kept ++ entry.Opening x o ∷ [])
    (record b { phase = phase.ToMove (opener x o) (record { first = x; second = o }) })
    (tellings ++ telling.Game (record { number = b.game; x = b.x_score; o = b.o_score }) ∷ [])
opening_told terms kept b x o tellings other few h =
    let s : State = record b { phase = phase.Opening } in
    let q : Place = record { state = s; game = b.game; x_before = b.x_score; o_before = b.o_score } in
    let at : h.place.state ≡ s = h.at.1 in
    let number : Tells h.place (Game b.game) [] q =
    (refl, ap (λ (y : State). y.phase) at, sym (ap (λ (y : State). y.game) at), h.at.2, rw at refl) in
    let scores : Tells q (Scores b.x_score b.o_score) [] q = (refl, refl, refl, refl) in
    record {
      told = h.told ++ [];
      place = q;
      there = awaited.Row;
      retold = told_more terms tellings h.told [] h.place q h.there awaited.Row
          (telling.Game (record { number = b.game; x = b.x_score; o = b.o_score })) h.retold
          ([], [], q, number, ([], [], q, scores, (refl, refl), refl), refl) (h.stands, few, refl);
      at = (
        entry.Opening x o,
        one_more kept (h.told ++ []) (entry.Opening x o) (h.at.0 ∙ sym (append-nil h.told)),
        (refl, inl refl),
        (refl, other, refl),
        record { running = tt; same = refl },
        record { game = refl; x = refl; o = refl },
      );
      offer = tt;
      stands = refl;
      cube = h.cube;
    }

-- dice are rolled
pub roll_told : (terms : Terms) (kept : List Entry) (b : State) (player : Player) (dice : Dice) (tellings : List Telling)
    → IsTold terms kept (record b { phase = phase.ToAct player }) tellings
    → IsTold terms (kept ++ entry.Rolled dice ∷ []) (record b { phase = phase.ToMove player dice }) tellings
roll_told terms kept b player dice tellings h =
    let (all, at, game) = h.at in
    let acts : h.place.state.phase ≡ phase.ToAct player = ap (λ (y : State). y.phase) at in
    record {
      told = h.told;
      place = h.place;
      there = h.there;
      retold = h.retold;
      at = (
        entry.Rolled dice,
        one_more kept h.told (entry.Rolled dice) all,
        (acts, inl refl),
        (player, acts, rw at refl),
        record { running = rw acts tt; same = ap (λ (y : State). y.game) at ∙ game.game },
        record { game = game.game; x = game.x; o = game.o },
      );
      offer = tt;
      stands = h.stands;
      cube = h.cube;
    }

-- an offer to resign is made
pub offer_told : (terms : Terms) (kept : List Entry) (b : State) (player : Player) (back : Option Dice) (level : Level) (tellings : List Telling)
    → Follows (record b { phase = phase_back player back }) (entry.Resigned level)
    (record b { phase = phase.Resigned player level back })
    → IsTold terms kept (record b { phase = phase_back player back }) tellings
    → IsTold terms kept (record b { phase = phase.Resigned player level back }) tellings
offer_told terms kept b player None level tellings follows h = record {
  told = h.told;
  place = h.place;
  there = h.there;
  retold = h.retold;
  at = h.at;
  offer = follows;
  stands = h.stands;
  cube = h.cube;
}
offer_told terms kept b player (Some dice) level tellings follows h = record {
  told = h.told;
  place = h.place;
  there = h.there;
  retold = h.retold;
  at = h.at;
  offer = follows;
  stands = h.stands;
  cube = h.cube;
}

-- an offer to resign is not accepted
pub rejection_told : (terms : Terms) (kept : List Entry) (b : State) (player : Player) (back : Option Dice) (level : Level) (tellings : List Telling)
    → IsTold terms kept (record b { phase = phase.Resigned player level back }) tellings
    → IsTold terms kept (record b { phase = phase_back player back }) tellings
rejection_told terms kept b player None level tellings h = record {
  told = h.told;
  place = h.place;
  there = h.there;
  retold = h.retold;
  at = h.at;
  offer = tt;
  stands = h.stands;
  cube = h.cube;
}
rejection_told terms kept b player (Some dice) level tellings h = record {
  told = h.told;
  place = h.place;
  there = h.there;
  retold = h.retold;
  at = h.at;
  offer = tt;
  stands = h.stands;
  cube = h.cube;
}

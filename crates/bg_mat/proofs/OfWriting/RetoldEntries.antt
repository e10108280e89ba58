-- What each entry adds to what is told.
use Rattle.std.specs.Prelude.{◌≡◌, ℕ, ◌*◌, ◌<◌, ◌≤◌, nat_lt, Option, Some, None, List, [], ◌∷◌, ◌++◌, length}
use Rattle.std.proofs.Common.{append-nil, refl, sym, ◌∙◌, ap, subst, inl, inr, arith}
use Rattle.arrayvec.specs.ArrayVec.{ArrayVec}
use Rattle.bg_board.specs.FromTo.{FromTo}
use Rattle.bg_board.specs.Position.{opponent}
use Rattle.bg_board.specs.declared.players.Player.{Player}
use Rattle.bg_turns.specs.declared.throws.Dice.{Dice}
use Rattle.bg_match.specs.Follows.{Follows, phase_back, after_level}
use Rattle.bg_match.specs.Level.{multiple, level_of}
use Rattle.bg_match.specs.State.{State, after_win, greater_score, score_of, scored}
use Rattle.bg_match.specs.Terms.{Terms, match_length}
use Rattle.bg_match.specs.declared.levels.Level.{Level}
use Rattle.bg_match.specs.declared.levels.Level.TheVariants as level
use Rattle.bg_match.specs.declared.phases.Phase.{Phase}
use Rattle.bg_match.specs.declared.phases.Phase.TheVariants as phase
use Rattle.bg_match.specs.declared.entries.Entry.{Entry}
use Rattle.bg_match.specs.declared.entries.Entry.TheVariants as entry
use Rattle.bg_turns.specs.Turn.{IsDownward, after_steps}
use Rattle.bg_match.proofs.PlayableTurns.{legal_in_range}
use Rattle.std.specs.List.{AllByRecursion}
use Rattle.bg_mat.specs.Telling.{MovesBy}
use Rattle.bg_mat.specs.Tellings.{IsOnBoard, IsDeedIn, TellsDice, TellsEntry, TellsMove, TellsWin, with_telling}
use Rattle.bg_mat.specs.Turns.{steps_of}
use Rattle.bg_mat.specs.declared.rows.cells.Cell.TheVariants as cell
use Rattle.bg_mat.specs.declared.awaiting.Awaited.{Awaited}
use Rattle.bg_mat.specs.declared.movements.legs.Leg.{Leg}
use Rattle.bg_mat.specs.declared.tellings.Telling.{Telling}
use Rattle.bg_mat.specs.declared.tellings.Telling.TheVariants as telling
use Rattle.bg_mat.proofs.OfReading.TurnLemmas.{written_turn}
use Rattle.bg_mat.proofs.OfWriting.Retold.{Retold, IsTold, IsSettled}
use Rattle.bg_mat.proofs.OfWriting.RetoldWins.{is_won_state, no_win, won_state, won_by_play, won_by_offer}
use Rattle.bg_mat.proofs.OfWriting.RetoldSteps.{dice_told, turn_told, act_told, goes_on, answers_next, opening_told, roll_told, offer_told, rejection_told}

-- what an entry adds to the entries that are kept, where the match stands in a phase
abbrev pub kept_more : Entry → Phase → List Entry
kept_more (entry.Resigned level) ph = []
kept_more entry.Rejected ph = []
kept_more entry.Accepted (phase.Resigned player level back) = entry.Resigned level ∷ entry.Accepted ∷ []
kept_more e ph = e ∷ []

abbrev pub offer_of : Phase → Option Level
offer_of (phase.Resigned player level back) = Some level
offer_of ph = None

as_phase : (s : State) (ph : Phase) → s.phase ≡ ph → s ≡ record s { phase = ph }
as_phase s ph h = ap (λ (x : Phase). record s { phase = x }) h

points_some : (l : Level) (n : ℕ) → 0 < n → 0 < multiple l * n
points_some level.Normal n h = omega arith
points_some level.Gammon n h = omega arith
points_some level.Backgammon n h = omega arith

no_steps : (legs : List Leg) → steps_of legs ≡ [] → legs ≡ []
no_steps [] h = refl
no_steps (leg ∷ legs) h = absurd (cc (h))

low_legs : (legs : List Leg) → AllByRecursion IsDownward (steps_of legs) → AllByRecursion IsOnBoard legs
low_legs [] h = tt
low_legs (leg ∷ legs) (down, more) =
    ((down.starts, down.lower), low_legs legs more)

as_many : (legs : List Leg) → length legs ≡ length (steps_of legs)
as_many [] = refl
as_many (leg ∷ legs) = let more = as_many legs in omega (arith, more)

-- after a turn the game goes on, or is won
after_move : (terms : Terms) (kept : List Entry) (s r t : State) (player : Player) (l : Option Level) (tellings : List Telling) (won : Option Telling)
    → t ≡ after_level r player l → r.x_score ≡ s.x_score → r.o_score ≡ s.o_score → r.game ≡ s.game → 0 < r.cube.value
    → IsSettled terms kept s t tellings → TellsWin s t won → IsTold terms kept t (with_telling tellings won)
after_move terms kept s r t player None tellings won is x o game cube h tells =
    let none : won ≡ None = no_win s t won (ap (λ (y : State). y.x_score) is ∙ x) (ap (λ (y : State). y.o_score) is ∙ o) tells in
    rw (none, is) (goes_on terms kept s r (opponent player) tellings
    (subst (λ (y : State). IsSettled terms kept s y tellings) is h) game x o cube)
after_move terms kept s r t player (Some level) tellings won is x o game cube h tells =
    let n = multiple level * r.cube.value in
    let b = nat_lt (score_of (scored r player n) player) (match_length r.terms) in
    let same : t ≡ won_state b r player n (greater_score r) = is_won_state r player n (greater_score r) b t is in
    rw same (won_by_play terms kept s r player n (greater_score r) b tellings won (points_some level r.cube.value cube) cube
    (sym x) (sym o) (sym game) (subst (λ (y : State). IsSettled terms kept s y tellings) same h)
    (subst (λ (y : State). TellsWin s y won) same tells))

-- an offer is accepted
accepted : (terms : Terms) (kept : List Entry) (b t : State) (player : Player) (level : Level) (back : Option Dice) (tellings : List Telling) (told won : Option Telling)
    → t ≡ after_win (record b { phase = phase.Resigned player level back }) (opponent player) (multiple level * b.cube.value)
    → IsTold terms kept (record b { phase = phase.Resigned player level back }) tellings
    → TellsDice (phase.Resigned player level back) told
    → TellsWin (record b { phase = phase.Resigned player level back }) t won
    → IsTold terms (kept ++ entry.Resigned level ∷ entry.Accepted ∷ []) t (with_telling (with_telling tellings told) won)
accepted terms kept b t player level None tellings told won is h dice tells =
    let s : State = record b { phase = phase.Resigned player level None } in
    let c : State = record b { phase = phase.ToAct player } in
    let n = multiple level * b.cube.value in
    let r = nat_lt (score_of (scored s (opponent player) n) (opponent player)) (match_length s.terms) in
    let same : t ≡ won_state r s (opponent player) n (greater_score s) = is_won_state s (opponent player) n (greater_score s) r t is in
    let settled : IsSettled terms kept c c tellings = record {
      told = h.told;
      place = h.place;
      retold = subst (λ (y : Awaited). Retold terms tellings h.told h.place y) h.stands h.retold;
      all = h.at.0;
      at = h.at.1;
      in_game = h.at.2;
    } in
    rw (dice, same) (won_by_offer terms kept c s player level (greater_score s) r tellings won
    (points_some level b.cube.value h.cube) h.cube (inl refl) tt h.offer refl refl refl
    (player, level, None, refl, sym same ∙ is) refl settled (subst (λ (y : State). TellsWin s y won) same tells))
accepted terms kept b t player level (Some d) tellings told won is h dice tells =
    let s : State = record b { phase = phase.Resigned player level (Some d) } in
    let c : State = record b { phase = phase.ToMove player d } in
    let n = multiple level * b.cube.value in
    let r = nat_lt (score_of (scored s (opponent player) n) (opponent player)) (match_length s.terms) in
    let same : t ≡ won_state r s (opponent player) n (greater_score s) = is_won_state s (opponent player) n (greater_score s) r t is in
    let calm_told : IsTold terms kept c tellings = rejection_told terms kept b player (Some d) level tellings h in
    let settled = dice_told terms kept b player d tellings calm_told in
    rw (dice, same) (won_by_offer terms kept c s player level (greater_score s) r
    (tellings ++ telling.Does player (cell.Turn d (record { items = [] })) ∷ []) won
    (points_some level b.cube.value h.cube) h.cube (inr (d, refl)) tt h.offer refl refl refl
    (player, level, Some d, refl, sym same ∙ is) refl settled (subst (λ (y : State). TellsWin s y won) same tells))

-- a turn, or a pass
moved_told : (terms : Terms) (kept : List Entry) (s t : State) (player : Player) (dice : Dice) (tellings : List Telling) (legs : ArrayVec Leg) (move : Entry)
    → AllByRecursion IsOnBoard legs.items × (length legs.items ≤ 4) → s.phase ≡ phase.ToMove player dice → MovesBy s.board player dice legs.items move → Follows s move t
    → IsTold terms kept s tellings
    → IsSettled terms (kept ++ move ∷ []) s t (tellings ++ telling.Does player (cell.Turn dice legs) ∷ [])
moved_told terms kept s t player dice tellings legs move low ph by follows h =
    let is = as_phase s (phase.ToMove player dice) ph in
    let c : State = record s { phase = phase.ToMove player dice } in
    let settled = turn_told terms kept s player dice tellings legs move t low by
    (subst (λ (y : State). Follows y move t) is follows) (subst (λ (y : State). IsTold terms kept y tellings) is h) in
    record {
      told = settled.told;
      place = settled.place;
      retold = settled.retold;
      all = settled.all;
      at = settled.at;
      in_game = record { game = settled.in_game.game; x = settled.in_game.x; o = settled.in_game.o };
    }

-- an entry that is allowed
pub entry_told : (terms : Terms) (kept : List Entry) (s : State) (e : Entry) (t : State) (tellings : List Telling) (told won : Option Telling)
    → Follows s e t → IsTold terms kept s tellings → TellsEntry s e told → TellsWin s t won
    → IsTold terms (kept ++ kept_more e s.phase) t (with_telling (with_telling tellings told) won)
entry_told terms kept s (entry.Opening x o) t tellings told won (ph, other, is) h (tells, few) wins =
    let none : won ≡ None = no_win s t won (ap (λ (y : State). y.x_score) is) (ap (λ (y : State). y.o_score) is) wins in
    rw (tells, none, is) (opening_told terms kept s x o tellings other few
    (subst (λ (y : State). IsTold terms kept y tellings) (as_phase s phase.Opening ph) h))
entry_told terms kept s (entry.Rolled dice) t tellings told won (player, ph, is) h tells wins =
    let none : won ≡ None = no_win s t won (ap (λ (y : State). y.x_score) is) (ap (λ (y : State). y.o_score) is) wins in
    rw (tells, none, is) (roll_told terms kept s player dice tellings
    (subst (λ (y : State). IsTold terms kept y tellings) (as_phase s (phase.ToAct player) ph) h))
entry_told terms kept s entry.Doubled t tellings told won (player, ph, may, is) h (tells, few) wins =
    let none : won ≡ None = no_win s t won (ap (λ (y : State). y.x_score) is) (ap (λ (y : State). y.o_score) is) wins in
    let made_as = as_phase s (phase.ToAct player) ph in
    let k = subst (λ (y : State). IsTold terms kept y tellings) made_as h in
    let c : State = record s { phase = phase.ToAct player } in
    let does = cell.Doubles (Some (2 * s.cube.value)) in
    let said : told ≡ Some (telling.Does player does) = subst (λ (x : Phase). IsDeedIn x does told) ph tells in
    let settled = act_told terms kept c t player tellings does entry.Doubled k.told k.place k.there k.retold k.stands k.at.0
    k.at.1 k.at.2 (subst (λ (y : State). Follows y entry.Doubled t) made_as (player, ph, may, is)) tt
    (λ on. (on, ap (λ (y : State). y.phase) k.at.1, sym (ap (λ (y : State). 2 * y.cube.value) k.at.1), refl)) (refl, few, refl) in
    rw (said, none, is) (answers_next terms (kept ++ entry.Doubled ∷ []) c s (opponent player)
    (tellings ++ telling.Does player does ∷ [])
    (subst (λ (y : State). IsSettled terms (kept ++ entry.Doubled ∷ []) c y (tellings ++ telling.Does player does ∷ [])) is settled)
    refl refl refl h.cube)
entry_told terms kept s entry.Taken t tellings told won (player, ph, is) h tells wins =
    let none : won ≡ None = no_win s t won (ap (λ (y : State). y.x_score) is) (ap (λ (y : State). y.o_score) is) wins in
    let made_as = as_phase s (phase.Doubled player) ph in
    let k = subst (λ (y : State). IsTold terms kept y tellings) made_as h in
    let c : State = record s { phase = phase.Doubled player } in
    let r : State = record s { cube = record { value = 2 * s.cube.value; owner = Some player } } in
    let said : told ≡ Some (telling.Does player cell.Takes) = subst (λ (x : Phase). IsDeedIn x cell.Takes told) ph tells in
    let settled = act_told terms kept c t player tellings cell.Takes entry.Taken k.told k.place k.there k.retold k.stands
    k.at.0 k.at.1 k.at.2 (subst (λ (y : State). Follows y entry.Taken t) made_as (player, ph, is)) tt
    (λ on. (on, ap (λ (y : State). y.phase) k.at.1, refl)) (refl, tt, refl) in
    rw (said, none, is) (goes_on terms (kept ++ entry.Taken ∷ []) c r (opponent player)
    (tellings ++ telling.Does player cell.Takes ∷ [])
    (subst (λ (y : State). IsSettled terms (kept ++ entry.Taken ∷ []) c y (tellings ++ telling.Does player cell.Takes ∷ [])) is settled)
    refl refl refl (let cube = h.cube in omega arith))
entry_told terms kept s entry.Dropped t tellings told won (player, ph, is) h tells wins =
    let made_as = as_phase s (phase.Doubled player) ph in
    let k = subst (λ (y : State). IsTold terms kept y tellings) made_as h in
    let c : State = record s { phase = phase.Doubled player } in
    let n = s.cube.value in
    let said : told ≡ Some (telling.Does player cell.Drops) = subst (λ (x : Phase). IsDeedIn x cell.Drops told) ph tells in
    let settled = act_told terms kept c t player tellings cell.Drops entry.Dropped k.told k.place k.there k.retold k.stands
    k.at.0 k.at.1 k.at.2 (subst (λ (y : State). Follows y entry.Dropped t) made_as (player, ph, is)) tt
    (λ on. (on, ap (λ (y : State). y.phase) k.at.1, refl)) (refl, tt, refl) in
    let b = nat_lt (score_of (scored s (opponent player) n) (opponent player)) (match_length s.terms) in
    let same : t ≡ won_state b s (opponent player) n (greater_score s) = is_won_state s (opponent player) n (greater_score s) b t is in
    let more = tellings ++ telling.Does player cell.Drops ∷ [] in
    rw (said, same) (won_by_play terms (kept ++ entry.Dropped ∷ []) c s (opponent player) n (greater_score s) b more won h.cube
    h.cube refl refl refl (subst (λ (y : State). IsSettled terms (kept ++ entry.Dropped ∷ []) c y more) same settled)
    (subst (λ (y : State). TellsWin c y won) same (subst (λ (y : State). TellsWin y t won) made_as wins)))
entry_told terms kept s (entry.Moved turn) t tellings told won (player, dice, ph, on, legal, is) h tells wins =
    let (legs, said, steps, hits) = subst (λ (x : Phase). TellsMove s.board x turn told) ph tells in
    let by : MovesBy s.board player dice legs.items (entry.Moved turn) = inl (written_turn s.board player dice legs.items turn (sym steps)
    (record { legal = rw steps legal; hits = rw steps hits })) in
    let range = legal_in_range s.board player dice turn legal in
    let many : length legs.items ≡ length turn = as_many legs.items ∙ ap (λ (xs : List FromTo). length xs) steps in
    let low : AllByRecursion IsOnBoard legs.items × (length legs.items ≤ 4) =
    (low_legs legs.items (rw steps range.each), (let few = range.few in omega (arith, many, few))) in
    let settled = moved_told terms kept s t player dice tellings legs (entry.Moved turn) low ph by (player, dice, ph, on, legal, is) h in
    let board = after_steps s.board player turn in
    rw said (after_move terms (kept ++ entry.Moved turn ∷ []) s (record s { board = board }) t player (level_of board player)
    (tellings ++ telling.Does player (cell.Turn dice legs) ∷ []) won is refl refl refl h.cube settled wins)
entry_told terms kept s entry.Passed t tellings told won (player, dice, ph, on, is) h tells wins =
    let (legs, said, steps, hits) = subst (λ (x : Phase). TellsMove s.board x [] told) ph tells in
    let low : AllByRecursion IsOnBoard legs.items × (length legs.items ≤ 4) = rw (no_steps legs.items steps) (tt, omega arith) in
    let settled = moved_told terms kept s t player dice tellings legs entry.Passed low ph (no_steps legs.items steps)
    (player, dice, ph, on, is) h in
    rw said (after_move terms (kept ++ entry.Passed ∷ []) s s t player None
    (tellings ++ telling.Does player (cell.Turn dice legs) ∷ []) won is refl refl refl h.cube settled wins)
entry_told terms kept s (entry.Resigned level) t tellings told won (player, back, ph, on, is) h tells wins =
    let none : won ≡ None = no_win s t won (ap (λ (y : State). y.x_score) is) (ap (λ (y : State). y.o_score) is) wins in
    let made_as = as_phase s (phase_back player back) ph in
    let made : State = record s { phase = phase.Resigned player level back } in
    let follows : Follows (record s { phase = phase_back player back }) (entry.Resigned level) made =
    subst (λ (y : State). Follows y (entry.Resigned level) made) made_as (player, back, ph, on, refl) in
    rw (tells, none, is, append-nil kept) (offer_told terms kept s player back level tellings follows
    (subst (λ (y : State). IsTold terms kept y tellings) made_as h))
entry_told terms kept s entry.Rejected t tellings told won (player, level, back, ph, is) h tells wins =
    let none : won ≡ None = no_win s t won (ap (λ (y : State). y.x_score) is) (ap (λ (y : State). y.o_score) is) wins in
    let made_as = as_phase s (phase.Resigned player level back) ph in
    rw (tells, none, is, append-nil kept) (rejection_told terms kept s player back level tellings
    (subst (λ (y : State). IsTold terms kept y tellings) made_as h))
entry_told terms kept s entry.Accepted t tellings told won (player, level, back, ph, is) h tells wins =
    let made_as = as_phase s (phase.Resigned player level back) ph in
    let made : State = record s { phase = phase.Resigned player level back } in
    rw ph (accepted terms kept s t player level back tellings told won
    (subst (λ (y : State). t ≡ after_win y (opponent player) (multiple level * s.cube.value)) made_as is)
    (subst (λ (y : State). IsTold terms kept y tellings) made_as h) (subst (λ (x : Phase). TellsDice x told) ph tells)
    (subst (λ (y : State). TellsWin y t won) made_as wins))

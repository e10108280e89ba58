-- What is added to a replay.
use Rattle.std.specs.Prelude.{◌≡◌, ◌≢◌, ℕ, ◌+◌, ◌*◌, ◌<◌, Bool, true, Some, None, List, [], ◌∷◌, ◌++◌, length, replicate}
use Rattle.std.proofs.Common.{append_assoc, refl, sym, ◌∙◌, ap, subst, inl, inr}
use Rattle.bg_board.specs.Position.{Position, opponent}
use Rattle.bg_board.specs.declared.players.Player.{Player}
use Rattle.bg_turns.specs.declared.throws.Dice.{Dice}
use Rattle.bg_match.specs.Follows.{Follows}
use Rattle.bg_match.specs.Match.{IsLog, StandsAt}
use Rattle.bg_match.specs.State.{State, score_of, start_of}
use Rattle.bg_match.specs.Level.{multiple}
use Rattle.bg_match.specs.declared.levels.Level.{Level}
use Rattle.bg_match.specs.declared.phases.Phase.TheVariants as phase
use Rattle.bg_match.specs.declared.entries.Entry.{Entry}
use Rattle.bg_match.specs.declared.entries.Entry.TheVariants as entry
use Rattle.bg_match.proofs.Runs.{Leads-last}
use Rattle.bg_mat.specs.Telling.{AreTold, AreOf, BringsDice, Deed, Does, Game, Scores, GoesOn, IsOver, IsOverMatch, MayResign, MovesBy, Place, Told, Turn, CannotMove, Wins, before_of, deed_of}
use Rattle.bg_mat.specs.Replaying.{Adds, Closes, Grows, GoesOnBy, IsReplay, Plays, Resigns, Rolls, pending_items, place_of}
use Rattle.bg_mat.specs.declared.rows.cells.Cell.{Cell}
use Rattle.bg_mat.specs.declared.movements.legs.Leg.{Leg}
use Rattle.bg_mat.specs.declared.playing.PendingTurn.{PendingTurn}
use Rattle.bg_mat.specs.declared.playing.Replay.{Replay}

pub nothing_more : {X : Type 0} (xs : List X) → xs ++ [] ≡ xs
nothing_more [] = refl
nothing_more {X} (x ∷ xs) = ap (λ (ys : List X). x ∷ ys) (nothing_more xs)

-- the entry that a record has more leads to where it stands then
pub added : (old new : Replay) (line : ℕ) (e : Entry) → IsReplay old → old.pending ≡ None
    → new.log ≡ record old.log { entries = old.log.entries ++ e ∷ []; spare = new.log.spare }
    → new.lines.items ≡ old.lines.items ++ line ∷ [] → new.game ≡ old.game → new.before ≡ old.before
    → new.pending ≡ old.pending → IsLog new.log → StandsAt new.log.terms new.log.entries new.standing
    → Adds old new line e
added old new line e kept closed log lines game before pending legal stands =
    let terms : new.log.terms ≡ old.log.terms = cc in
    let entries : new.log.entries ≡ old.log.entries ++ e ∷ [] = cc in
    let at : StandsAt old.log.terms (old.log.entries ++ e ∷ []) new.standing = rw (← terms, ← entries) stands in
    record {
      grows = record { log = log; lines = lines; game = game; before = before };
      follows = Leads-last (start_of old.log.terms) old.log.entries e old.standing new.standing kept.stands at;
      pending = pending;
      replay = record {
        log = legal;
        stands = stands;
        pending = rw (pending ∙ closed) tt;
      };
    }

-- one entry and then another
pub grown_twice : (old middle new : Replay) (line : ℕ) (d e : Entry) → Grows old middle line (d ∷ [])
    → Grows middle new line (e ∷ []) → Grows old new line (d ∷ e ∷ [])
grown_twice old middle new line d e g h =
    let entries : middle.log.entries ≡ old.log.entries ++ d ∷ [] = (let k = g.log in cc) in
    let more : middle.log.entries ++ e ∷ [] ≡ old.log.entries ++ d ∷ e ∷ [] =
    ap (λ (xs : List Entry). xs ++ e ∷ []) entries ∙ append_assoc old.log.entries (d ∷ []) (e ∷ []) in
    let lines : middle.lines.items ++ line ∷ [] ≡ old.lines.items ++ line ∷ line ∷ [] =
    ap (λ (xs : List ℕ). xs ++ line ∷ []) g.lines ∙ append_assoc old.lines.items (line ∷ []) (line ∷ []) in
    record {
      log = (let k = g.log in let l = h.log in cc (more));
      lines = h.lines ∙ lines;
      game = h.game ∙ g.game;
      before = h.before ∙ g.before;
    }

-- where a replay stands after entries, but for the state
pub same_place : (old new : Replay) → new.game ≡ old.game → new.before ≡ old.before
    → place_of new ≡ record (place_of old) { state = new.standing }
same_place old new g b = cc

-- who brings dice leaves the board as it is
pub rolled_board : (s t : State) (player : Player) (dice : Dice) (e : Entry) → BringsDice s player dice e
    → Follows s e t → t.board ≡ s.board
rolled_board s t player dice (entry.Opening x o) b f = let k = f.2 in cc
rolled_board s t player dice (entry.Rolled thrown) b f = let k = f.2 in cc
rolled_board s t player dice entry.Doubled b f = absurd b
rolled_board s t player dice entry.Taken b f = absurd b
rolled_board s t player dice entry.Dropped b f = absurd b
rolled_board s t player dice (entry.Moved turn) b f = absurd b
rolled_board s t player dice (entry.Resigned level) b f = absurd b
rolled_board s t player dice entry.Accepted b f = absurd b
rolled_board s t player dice entry.Rejected b f = absurd b
rolled_board s t player dice entry.Passed b f = absurd b

-- dice alone
pub rolled : (old new : Replay) (line : ℕ) (player : Player) (dice : Dice) → GoesOn (place_of old)
    → old.pending ≡ None → Rolls old new line player dice → Plays old new line player (Turn dice [])
rolled old new line player dice on closed r = record {
  entries = r.roll ∷ [];
  told = (
    same_place old new r.adds.grows.game r.adds.grows.before,
    (new.standing, r.adds.follows, refl),
    (on, (r.roll, r.brings, inl (refl, refl))),
  );
  grows = r.adds.grows;
  pending = r.adds.pending ∙ closed;
  replay = r.adds.replay;
}

-- dice and a move
pub moved : (old middle new : Replay) (line : ℕ) (player : Player) (dice : Dice) (legs : List Leg) (move : Entry)
    → GoesOn (place_of old) → old.pending ≡ None → Rolls old middle line player dice
    → MovesBy middle.standing.board player dice legs move → Adds middle new line move
    → Plays old new line player (Turn dice legs)
moved old middle new line player dice legs move on closed r by a =
    let board : middle.standing.board ≡ old.standing.board = rolled_board old.standing middle.standing player dice r.roll r.brings r.adds.follows in
    let by_old : MovesBy old.standing.board player dice legs move = subst (λ (b : Position). MovesBy b player dice legs move) board by in
    let grows = grown_twice old middle new line r.roll move r.adds.grows a.grows in
    record {
      entries = r.roll ∷ move ∷ [];
      told = (
        same_place old new grows.game grows.before,
        (middle.standing, r.adds.follows, (new.standing, a.follows, refl)),
        (on, (r.roll, r.brings, inr (move, refl, by_old))),
      );
      grows = grows;
      pending = a.pending ∙ r.adds.pending ∙ closed;
      replay = a.replay;
    }

-- dice of a player who can't move
pub not_moved : (old middle new : Replay) (line : ℕ) (player : Player) (dice : Dice) (move : Entry)
    → GoesOn (place_of old) → old.pending ≡ None → Rolls old middle line player dice
    → MovesBy middle.standing.board player dice [] move → Adds middle new line move
    → Plays old new line player (CannotMove dice)
not_moved old middle new line player dice move on closed r by a =
    let board : middle.standing.board ≡ old.standing.board = rolled_board old.standing middle.standing player dice r.roll r.brings r.adds.follows in
    let by_old : MovesBy old.standing.board player dice [] move = subst (λ (b : Position). MovesBy b player dice [] move) board by in
    let grows = grown_twice old middle new line r.roll move r.adds.grows a.grows in
    record {
      entries = r.roll ∷ move ∷ [];
      told = (
        same_place old new grows.game grows.before,
        (middle.standing, r.adds.follows, (new.standing, a.follows, refl)),
        (on, (r.roll, move, r.brings, refl, by_old)),
      );
      grows = grows;
      pending = a.pending ∙ r.adds.pending ∙ closed;
      replay = a.replay;
    }

-- what one player does, as an item
pub one_item : (old new : Replay) (line : ℕ) (player : Player) (deed : Deed) → old.pending ≡ None
    → Plays old new line player deed → GoesOnBy old new (record { line = line; item = Does player deed } ∷ [])
one_item old new line player deed closed p = record {
  told = record { line = line; item = Does player deed } ∷ [];
  entries = p.entries;
  lines = replicate (length p.entries) line;
  leads = (
    p.entries,
    [],
    [],
    place_of new,
    p.told,
    (refl, refl, refl),
    sym (nothing_more p.entries),
    sym (nothing_more (replicate (length p.entries) line)),
  );
  log = p.grows.log;
  numbered = p.grows.lines;
  same = rw (closed, p.pending) refl;
  replay = p.replay;
}

-- items one behind the other
pub told_append : (p : Place) (a b : List Told) (d e : List Entry) (k l : List ℕ) (m q : Place) → AreTold p a d k m
    → AreTold m b e l q → AreTold p (a ++ b) (d ++ e) (k ++ l) q
told_append p [] b d e k l m q h more =
    rw (h.0, h.1) (subst (λ (x : Place). AreTold x b e l q) h.2 more)
told_append p (t ∷ a) b d e k l m q (own, rest, others, middle, tells, left, entries, lines) more = (
  own,
  rest ++ e,
  others ++ l,
  middle,
  tells,
  told_append middle a b rest e others l m q left more,
  ap (λ (xs : List Entry). xs ++ e) entries ∙ append_assoc own rest e,
  ap (λ (xs : List ℕ). xs ++ l) lines ∙ append_assoc (replicate (length own) t.line) others l,
)

in_a_row : (first a b between t u last : List Told) → first ++ a ≡ t ++ between → between ++ b ≡ u ++ last
    → first ++ (a ++ b) ≡ (t ++ u) ++ last
in_a_row first a b between t u last g h =
    sym (append_assoc first a b)
    ∙ (ap (λ (xs : List Told). xs ++ b) g
    ∙ (append_assoc t between b
    ∙ (ap (λ (xs : List Told). t ++ xs) h ∙ sym (append_assoc t u last))))

-- a replay goes on, and then goes on
pub goes_on_twice : (old middle new : Replay) (a b : List Told) → GoesOnBy old middle a → GoesOnBy middle new b
    → GoesOnBy old new (a ++ b)
goes_on_twice old middle new a b g h =
    let entries : middle.log.entries ++ h.entries ≡ old.log.entries ++ (g.entries ++ h.entries) =
    (let k : middle.log.entries ≡ old.log.entries ++ g.entries = (let l = g.log in cc) in
    ap (λ (xs : List Entry). xs ++ h.entries) k ∙ append_assoc old.log.entries g.entries h.entries) in
    record {
      told = g.told ++ h.told;
      entries = g.entries ++ h.entries;
      lines = g.lines ++ h.lines;
      leads = told_append (place_of old) g.told h.told g.entries h.entries g.lines h.lines (place_of middle) (place_of new) g.leads h.leads;
      log = (let k = g.log in let l = h.log in cc (entries));
      numbered = h.numbered
          ∙ (ap (λ (xs : List ℕ). xs ++ h.lines) g.numbered ∙ append_assoc old.lines.items g.lines h.lines);
      same = in_a_row (pending_items old.pending) a b (pending_items middle.pending) g.told h.told (pending_items new.pending) g.same h.same;
      replay = h.replay;
    }

-- nothing is added
pub stays : (r : Replay) → IsReplay r → GoesOnBy r r []
stays r kept = record {
  told = [];
  entries = [];
  lines = [];
  leads = (refl, refl, refl);
  log = rw (nothing_more r.log.entries) refl;
  numbered = sym (nothing_more r.lines.items);
  same = nothing_more (pending_items r.pending);
  replay = kept;
}

-- what one entry tells
pub alone : (old new : Replay) (line : ℕ) (player : Player) (deed : Deed) (e : Entry)
    → AreOf (place_of old) player deed (e ∷ []) new.standing → old.pending ≡ None → Adds old new line e
    → Plays old new line player deed
alone old new line player deed e of closed a = record {
  entries = e ∷ [];
  told = (same_place old new a.grows.game a.grows.before, (new.standing, a.follows, refl), of);
  grows = a.grows;
  pending = a.pending ∙ closed;
  replay = a.replay;
}

-- an offer to resign and its acceptance
pub resigned : (old middle new : Replay) (line : ℕ) (winner : Player) (won : ℕ) (level : Level)
    → MayResign old.standing (opponent winner) → won ≡ multiple level * old.standing.cube.value
    → Adds old middle line (entry.Resigned level) → Adds middle new line entry.Accepted → Resigns old new line winner won
resigned old middle new line winner won level may worth a b = record {
  level = level;
  may = may;
  worth = worth;
  leads = (middle.standing, a.follows, (new.standing, b.follows, refl));
  grows = grown_twice old middle new line (entry.Resigned level) entry.Accepted a.grows b.grows;
  pending = b.pending ∙ a.pending;
  replay = b.replay;
}

pub won_by_offer : (old new : Replay) (line : ℕ) (winner : Player) (won : ℕ) (ends : Bool) → GoesOn (place_of old)
    → old.pending ≡ None → Resigns old new line winner won → (ends ≡ true → IsOverMatch new.standing)
    → Plays old new line winner (Wins won ends)
won_by_offer old new line winner won ends on closed r over = record {
  entries = entry.Resigned r.level ∷ entry.Accepted ∷ [];
  told = (
    same_place old new r.grows.game r.grows.before,
    r.leads,
    (inr (on, r.may, (r.level, r.worth, refl)), over),
  );
  grows = r.grows;
  pending = r.pending ∙ closed;
  replay = r.replay;
}

pub won_by_play : (old : Replay) (line : ℕ) (winner : Player) (won : ℕ) (ends : Bool) → IsReplay old
    → IsOver (place_of old) → old.pending ≡ None
    → (0 < won) × (score_of old.standing winner ≡ before_of (place_of old) winner + won)
    → (ends ≡ true → IsOverMatch old.standing) → Plays old old line winner (Wins won ends)
won_by_play old line winner won ends kept over closed has is = record {
  entries = [];
  told = (refl, refl, (inl (over, has.0, has.1, refl), is));
  grows = record {
    log = rw (nothing_more old.log.entries) refl;
    lines = sym (nothing_more old.lines.items);
    game = refl;
    before = refl;
  };
  pending = closed;
  replay = kept;
}

-- without the turn that is pending
pub without : (old : Replay) → IsReplay old → IsReplay (record old { pending = None })
without old kept = record { log = kept.log; stands = kept.stands; pending = tt }

pub closed_by : (old new : Replay) (turn : PendingTurn) → old.pending ≡ Some turn
    → Plays (record old { pending = None }) new turn.line turn.player (Turn turn.dice []) → Closes old new
closed_by old new turn is p = (
  record {
    told = record { line = turn.line; item = Does turn.player (Turn turn.dice []) } ∷ [];
    entries = p.entries;
    lines = replicate (length p.entries) turn.line;
    leads = (
      p.entries,
      [],
      [],
      place_of new,
      p.told,
      (refl, refl, refl),
      sym (nothing_more p.entries),
      sym (nothing_more (replicate (length p.entries) turn.line)),
    );
    log = p.grows.log;
    numbered = p.grows.lines;
    same = rw (is, p.pending) refl;
    replay = p.replay;
  },
  p.pending,
)

pub none_closed : (old : Replay) → IsReplay old → old.pending ≡ None → Closes old (record old { pending = None })
none_closed old kept none = (
  record {
    told = [];
    entries = [];
    lines = [];
    leads = (refl, refl, refl);
    log = rw (nothing_more old.log.entries) refl;
    numbered = sym (nothing_more old.lines.items);
    same = rw none refl;
    replay = without old kept;
  },
  refl,
)

-- a turn that is pending
pub pends : (old : Replay) (turn : PendingTurn) → IsReplay old → GoesOn (place_of old) → old.pending ≡ None
    → GoesOnBy old (record old { pending = Some turn })
    (record { line = turn.line; item = Does turn.player (Turn turn.dice []) } ∷ [])
pends old turn kept on closed = record {
  told = [];
  entries = [];
  lines = [];
  leads = (refl, refl, refl);
  log = rw (nothing_more old.log.entries) refl;
  numbered = sym (nothing_more old.lines.items);
  same = rw closed refl;
  replay = record { log = kept.log; stands = kept.stands; pending = on };
}

-- a game begins
pub begun : (r : Replay) (line number : ℕ) (before : ℕ × ℕ) → IsReplay r → r.pending ≡ None
    → r.standing.phase ≡ phase.Opening → number ≡ r.standing.game → number ≢ r.game
    → before ≡ (r.standing.x_score, r.standing.o_score)
    → GoesOnBy r (record r { game = r.standing.game; before = before }) (record { line = line; item = Game number } ∷ [])
begun r line number before kept closed opening is other scores = record {
  told = record { line = line; item = Game number } ∷ [];
  entries = [];
  lines = [];
  leads = (
    [],
    [],
    [],
    place_of (record r { game = r.standing.game; before = before }),
    (refl, opening, is, other, rw (is, scores) refl),
    (refl, refl, refl),
    refl,
    refl,
  );
  log = rw (nothing_more r.log.entries) refl;
  numbered = sym (nothing_more r.lines.items);
  same = rw closed refl;
  replay = record { log = kept.log; stands = kept.stands; pending = rw closed tt };
}

-- what one player does, as the item of a cell
pub item_of_cell : (old new : Replay) (line : ℕ) (player : Player) (cell : Cell) (deed : Deed) → deed_of cell ≡ deed
    → old.pending ≡ None → Plays old new line player deed
    → GoesOnBy old new (record { line = line; item = Does player (deed_of cell) } ∷ [])
item_of_cell old new line player cell deed is closed p = rw is (one_item old new line player deed closed p)

-- the scores so far
pub scored : (r : Replay) (line : ℕ) (scores : ℕ × ℕ) → IsReplay r → r.pending ≡ None → scores.0 ≡ r.standing.x_score
    → scores.1 ≡ r.standing.o_score
    → GoesOnBy r r (record { line = line; item = Scores scores.0 scores.1 } ∷ [])
scored r line scores kept closed x o = record {
  told = record { line = line; item = Scores scores.0 scores.1 } ∷ [];
  entries = [];
  lines = [];
  leads = ([], [], [], place_of r, (refl, refl, x, o), (refl, refl, refl), refl, refl);
  log = rw (nothing_more r.log.entries) refl;
  numbered = sym (nothing_more r.lines.items);
  same = rw closed refl;
  replay = kept;
}

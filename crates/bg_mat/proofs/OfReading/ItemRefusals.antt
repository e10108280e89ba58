-- Why items are refused.
use Rattle.std.specs.Prelude.{◌≡◌, ◌≢◌, ◌↔◌, ℕ, ◌+◌, ◌*◌, Bool, true, false, Option, Some, None, List, [], ◌∷◌, length, IsTrue, IfSome, if◌then◌else◌, Result, Ok, Err, OnOk}
use Rattle.std.proofs.Common.{refl, sym, ◌∙◌, ap, inl, inr, arith}
use Rattle.bg_board.specs.declared.players.Player.{Player}
use Rattle.bg_turns.specs.declared.throws.Dice.{Dice}
use Rattle.bg_match.specs.Actor.{actor_of, passes}
use Rattle.bg_match.specs.Follows.{Follows}
use Rattle.bg_match.specs.Level.{multiple}
use Rattle.bg_match.specs.Match.{Log, IsRecordFault}
use Rattle.bg_match.specs.State.{State}
use Rattle.bg_match.specs.declared.levels.Level.{Level}
use Rattle.bg_match.specs.declared.levels.Level.TheVariants as level
use Rattle.bg_match.specs.declared.phases.Actor.TheVariants as actor
use Rattle.bg_match.specs.declared.phases.Phase.TheVariants as phase
use Rattle.bg_match.specs.declared.entries.Entry.{Entry}
use Rattle.bg_match.specs.declared.entries.Entry.TheVariants as entry
use Rattle.bg_match.specs.declared.entries.EntryFault.{EntryFault}
use Rattle.bg_match.specs.declared.entries.EntryFault.TheVariants as entry_fault
use Rattle.bg_mat.specs.ItemFaults.{IsDeedFault, IsEmptyFault, IsItemFault, IsMoveFault, IsThrowFault, RefusesEntry, with_entry}
use Rattle.bg_mat.specs.Refusals.{IsRefusedItem, LosesBy, Refuses, RefusesAt, RefusesPending}
use Rattle.bg_mat.specs.Replaying.{Adds, Closes, ClosesBy, place_of}
use Rattle.bg_mat.specs.Telling.{BringsDice, GoesOn, Item, Game, Place, Turn}
use Rattle.bg_mat.specs.declared.faults.MatFault.{MatFault}
use Rattle.bg_mat.specs.declared.faults.ReadFault.{ReadFault}
use Rattle.bg_mat.specs.declared.faults.ReadFault.TheVariants as read_fault
use Rattle.bg_mat.specs.declared.movements.legs.Leg.{Leg}
use Rattle.bg_mat.specs.declared.playing.PendingTurn.{PendingTurn}
use Rattle.bg_mat.specs.declared.playing.Replay.{Replay}

-- the dice that are pending are refused
pub pending_refused : (r : Replay) (n : ℕ) (item : Item) (alone : Bool) (fault : ReadFault)
    → IfSome r.pending (λ turn. IsTrue alone ↔ LosesBy turn.player item) → RefusesPending alone r fault
    → Refuses (IsRefusedItem r n item) fault
pending_refused r n item alone read_fault.Memory loses h = tt
pending_refused r n item alone (read_fault.Refused number why) loses (turn, is, h) =
    record { stays = alone; loses = loses; refused = inl (turn, is, h.0, h.1) }

-- what comes behind them is
pub item_refused : (r closed : Replay) (n : ℕ) (item : Item) (alone : Bool) (fault : ReadFault)
    → IfSome r.pending (λ turn. IsTrue alone ↔ LosesBy turn.player item) → ClosesBy alone r closed
    → RefusesAt n (IsItemFault closed.log (place_of closed) item) fault → Refuses (IsRefusedItem r n item) fault
item_refused r closed n item alone read_fault.Memory loses by h = tt
item_refused r closed n item alone (read_fault.Refused number why) loses by h =
    record { stays = alone; loses = loses; refused = inr (closed, by, h.0, h.1) }

-- nobody loses by a game that begins
pub game_wins_none : (p : Option PendingTurn) (number : ℕ) → IfSome p (λ turn. IsTrue false ↔ LosesBy turn.player (Game number))
game_wins_none None number = tt
game_wins_none (Some turn) number = (λ t. absurd (cc (t)), λ h. absurd h)

-- an entry is refused behind a record, however much room it has
same_fault : (own : EntryFault) (a b : Log) (e : Entry) → own ≢ entry_fault.Memory → a.terms ≡ b.terms → a.entries ≡ b.entries
    → IsRecordFault own a e → IsRecordFault own b e
same_fault entry_fault.RecordFull a b e other t n h = rw (← n) h
same_fault entry_fault.Memory a b e other t n h = absurd (other refl)
same_fault entry_fault.MatchOver a b e other t n h = rw (← t, ← n) h
same_fault entry_fault.WrongPhase a b e other t n h = rw (← t, ← n) h
same_fault entry_fault.EqualOpening a b e other t n h = rw (← t, ← n) h
same_fault (entry_fault.Turn why) a b e other t n h = rw (← t, ← n) h
same_fault (entry_fault.NoDouble why) a b e other t n h = rw (← t, ← n) h

pub refused_behind : (old middle : Replay) (line : ℕ) (first e : Entry) (why : MatFault) → Adds old middle line first
    → RefusesEntry middle.log e why → RefusesEntry (with_entry old.log first) e why
refused_behind old middle line first e why a (own, is, other, h) = (
  own,
  is,
  other,
  same_fault own middle.log (with_entry old.log first) e other (ap (λ (l : Log). l.terms) a.grows.log)
      (ap (λ (l : Log). l.entries) a.grows.log) h,
)

-- who brings dice is to move them
pub moves_next : (s t : State) (player : Player) (dice : Dice) (e : Entry) → BringsDice s player dice e → Follows s e t
    → (thrown : Dice) × (t.phase ≡ phase.ToMove player thrown)
moves_next s t player dice (entry.Opening x o) b f =
    (record { first = x; second = o }, (let is = f.2 in let who = b.0 in cc))
moves_next s t player dice (entry.Rolled thrown) b f =
    (thrown, (let e : phase.ToAct f.0 ≡ phase.ToAct player = sym f.1 ∙ b.0 in let is = f.2 in cc))
moves_next s t player dice entry.Doubled b f = absurd b
moves_next s t player dice entry.Taken b f = absurd b
moves_next s t player dice entry.Dropped b f = absurd b
moves_next s t player dice (entry.Moved turn) b f = absurd b
moves_next s t player dice (entry.Resigned level) b f = absurd b
moves_next s t player dice entry.Accepted b f = absurd b
moves_next s t player dice entry.Rejected b f = absurd b
moves_next s t player dice entry.Passed b f = absurd b

-- where a player is to move, the referee acts exactly where the turn is passed
pub passed_by_referee : (s : State) (player : Player) (thrown : Dice) → s.phase ≡ phase.ToMove player thrown
    → ((actor_of s ≡ actor.Referee) → passes s ≡ true) × ((actor_of s ≢ actor.Referee) → passes s ≡ false)
passed_by_referee s player thrown is = by (passes s) refl where
  by : (b : Bool) → passes s ≡ b → ((actor_of s ≡ actor.Referee) → passes s ≡ true) × ((actor_of s ≢ actor.Referee) → passes s ≡ false)
  by true p = (λ h. p, λ h. absurd (h (rw p refl)))
  by false p = (λ h. (let seat : actor_of s ≡ actor.Seat player = rw (p, is) refl in absurd (cc (seat, h))), λ h. p)

-- points that are neither once, twice nor three times the cube
pub no_level : (won cube : ℕ) → won ≢ cube → won ≢ 2 * cube → won ≢ 3 * cube → (l : Level) → won ≡ multiple l * cube → ⊥
no_level won cube one two three level.Normal is = one (omega (arith, is))
no_level won cube one two three level.Gammon is = two is
no_level won cube one two three level.Backgammon is = three is

-- what comes behind dice is refused
pub move_behind : (old middle : Replay) (line : ℕ) (roll : Entry) (player : Player) (dice : Dice) (legs : List Leg) (why : MatFault)
    → Adds old middle line roll → IsMoveFault middle.log middle.standing player dice legs why
    → IsMoveFault (with_entry old.log roll) middle.standing player dice legs why
move_behind old middle line roll player dice legs why a (inl none) = inl none
move_behind old middle line roll player dice legs why a (inr (turn, tells, h)) =
    inr (turn, tells, refused_behind old middle line roll (entry.Moved turn) why a h)

pub empty_behind : (old middle : Replay) (line : ℕ) (roll : Entry) (player : Player) (dice : Dice) (why : MatFault)
    → Adds old middle line roll → IsEmptyFault middle.log middle.standing player dice why
    → IsEmptyFault (with_entry old.log roll) middle.standing player dice why
empty_behind old middle line roll player dice why a (inl h) = inl (h.0, refused_behind old middle line roll entry.Passed why a h.1)
empty_behind old middle line roll player dice why a (inr h) = inr (h.0, move_behind old middle line roll player dice [] why a h.1)

-- a turn with a movement
pub turn_deed : (log : Log) (p : Place) (player : Player) (dice : Dice) (legs : List Leg) (why : MatFault) → (legs ≡ [] → ⊥) → GoesOn p
    → IsThrowFault log p.state player dice (λ l s. IsMoveFault l s player dice legs) why
    → IsDeedFault log p player (Turn dice legs) why
turn_deed log p player dice [] why some on h = absurd (some refl)
turn_deed log p player dice (leg ∷ legs) why some on h = inr (on, h)

-- the turn that was pending is added
pub closed_so : (old new : Replay) (turn : PendingTurn) (alone : Bool) → old.pending ≡ Some turn → Closes old new
    → length new.log.entries ≡ length old.log.entries + (if alone then 1 else 2) → ClosesBy alone old new
closed_so old new turn alone is closes many = (closes, rw is many)

pub on_both : {A E : Type 0} {P Q S : Type 0} (r : Result A E) → (P → Q → S) → OnOk r P → OnOk r Q → OnOk r S
on_both (Ok x) f h k = f h k
on_both (Err e) f h k = h

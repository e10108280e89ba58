-- What a replay of items keeps, and how it goes on.
use Rattle.std.specs.Prelude.{◌≡◌, ℕ, ◌+◌, ◌*◌, Bool, Option, Some, None, IfSome, List, [], ◌∷◌, ◌++◌, length}
use Rattle.std.specs.Prelude.{replicate, if◌then◌else◌}
use Rattle.bg_board.specs.declared.players.Player.{Player}
use Rattle.bg_match.specs.Follows.{Follows}
use Rattle.bg_board.specs.Position.{opponent}
use Rattle.bg_turns.specs.declared.throws.Dice.{Dice}
use Rattle.bg_match.specs.Level.{multiple}
use Rattle.bg_match.specs.Match.{Log, IsLog, Leads, StandsAt}
use Rattle.bg_match.specs.State.{start_of}
use Rattle.bg_match.specs.declared.levels.Level.{Level}
use Rattle.bg_match.specs.declared.entries.Entry.TheVariants as entry
use Rattle.bg_match.specs.declared.entries.Entry.{Entry}
use Rattle.bg_mat.specs.Rows.Headings.{IsScoresLine}
use Rattle.bg_mat.specs.Telling.{Deed, Turn, Does, Scores, Told, Place, Tells, AreTold, BringsDice, GoesOn, MayResign}
use Rattle.bg_mat.specs.Telling.{MovesBy}
use Rattle.bg_mat.specs.declared.playing.PendingTurn.{PendingTurn}
use Rattle.bg_mat.specs.declared.playing.Replay.{Replay}

abbrev pub place_of : Replay → Place
place_of r = record { state = r.standing; game = r.game; x_before = r.before.0; o_before = r.before.1 }

-- what a replay keeps
pub record IsReplay (r : Replay) : Type 0 where
  pub log : IsLog r.log
  pub stands : StandsAt r.log.terms r.log.entries r.standing
  pub pending : IfSome r.pending (λ turn. GoesOn (place_of r))

-- these entries are added, for a line, and nothing else of the record changes
pub record Grows (old new : Replay) (line : ℕ) (entries : List Entry) : Type 0 where
  pub log : new.log ≡ record old.log { entries = old.log.entries ++ entries; spare = new.log.spare }
  pub lines : new.lines.items ≡ old.lines.items ++ replicate (length entries) line
  pub game : new.game ≡ old.game
  pub before : new.before ≡ old.before

-- one entry is added
pub record Adds (old new : Replay) (line : ℕ) (e : Entry) : Type 0 where
  pub grows : Grows old new line (e ∷ [])
  pub follows : Follows old.standing e new.standing
  pub pending : new.pending ≡ old.pending
  pub replay : IsReplay new

-- a player brings dice
pub record Rolls (old new : Replay) (line : ℕ) (player : Player) (dice : Dice) : Type 0 where
  pub roll : Entry
  pub brings : BringsDice old.standing player dice roll
  pub adds : Adds old new line roll

-- an empty move, or a pass, is added
pub record AddsMove (old new : Replay) (line : ℕ) (player : Player) (dice : Dice) : Type 0 where
  pub move : Entry
  pub moves : MovesBy old.standing.board player dice [] move
  pub adds : Adds old new line move

-- the other player resigns, so that the winner has so many points
pub record Resigns (old new : Replay) (line : ℕ) (winner : Player) (won : ℕ) : Type 0 where
  pub level : Level
  pub may : MayResign old.standing (opponent winner)
  pub worth : won ≡ multiple level * old.standing.cube.value
  pub leads : Leads old.standing (entry.Resigned level ∷ entry.Accepted ∷ []) new.standing
  pub grows : Grows old new line (entry.Resigned level ∷ entry.Accepted ∷ [])
  pub pending : new.pending ≡ old.pending
  pub replay : IsReplay new

-- what a player does is added
pub record Plays (old new : Replay) (line : ℕ) (player : Player) (deed : Deed) : Type 0 where
  pub entries : List Entry
  pub told : Tells (place_of old) (Does player deed) entries (place_of new)
  pub grows : Grows old new line entries
  pub pending : new.pending ≡ None
  pub replay : IsReplay new

-- the turn that is pending
abbrev pub pending_items : Option PendingTurn → List Told
pending_items None = []
pending_items (Some turn) = record { line = turn.line; item = Does turn.player (Turn turn.dice []) } ∷ []

-- nothing is told of a match without entries
pub record Begins (log : Log) (r : Replay) : Type 0 where
  pub same : r.log ≡ log
  pub lines : r.lines.items ≡ []
  pub game : r.game ≡ 0
  pub before : r.before ≡ (0, 0)
  pub pending : r.pending ≡ None
  pub standing : r.standing ≡ start_of log.terms
  pub replay : IsReplay r

-- items are added, those of the turn that was pending with them, and without the turn that is
pub record GoesOnBy (old new : Replay) (items : List Told) : Type 0 where
  pub told : List Told
  pub entries : List Entry
  pub lines : List ℕ
  pub leads : AreTold (place_of old) told entries lines (place_of new)
  pub log : new.log ≡ record old.log { entries = old.log.entries ++ entries; spare = new.log.spare }
  pub numbered : new.lines.items ≡ old.lines.items ++ lines
  pub same : pending_items old.pending ++ items ≡ told ++ pending_items new.pending
  pub replay : IsReplay new

-- the turn that was pending is added, and none is pending
abbrev pub Closes : Replay → Replay → Type 0
Closes old new = GoesOnBy old new [] × (new.pending ≡ None)

-- the turn that was pending is added, with its dice alone where they stay so, else with a move; and
-- none is pending
abbrev pub ClosesBy : Bool → Replay → Replay → Type 0
ClosesBy stays old new =
    Closes old new
    × IfSome old.pending (λ turn. length new.log.entries ≡ length old.log.entries + (if stays then 1 else 2))

-- a line with the scores so far is added
pub record TellsScores (old new : Replay) (number : ℕ) (line : List ℕ) : Type 0 where
  pub x : ℕ
  pub o : ℕ
  pub scores : IsScoresLine line x o
  pub goes : GoesOnBy old new (record { line = number; item = Scores x o } ∷ [])

-- How a game ends.
use Rattle.std.specs.Prelude.{ℕ, ◌*◌, Bool, true, false, Option, Some, None}
use Rattle.bg_board.specs.Position.{Position, opponent}
use Rattle.bg_board.specs.declared.players.Player.{Player}
use Rattle.bg_turns.specs.Turn.{after_steps}
use Rattle.bg_match.specs.Level.{multiple, level_of}
use Rattle.bg_match.specs.State.{State}
use Rattle.bg_match.specs.declared.entries.Entry.{Entry}
use Rattle.bg_match.specs.declared.entries.Entry.TheVariants as entry
use Rattle.bg_match.specs.declared.levels.Level.{Level}
use Rattle.bg_match.specs.declared.phases.Phase.{Phase}
use Rattle.bg_match.specs.declared.phases.Phase.TheVariants as phase
use Rattle.bg_picture.specs.declared.wins.Win.{Win}
use Rattle.bg_picture.specs.declared.wins.Way.TheVariants.{BearingOff, Drop, Resignation}

-- whether an entry that leads to this phase ended a game: the next one opens, or the match is over
abbrev pub has_ended : Phase → Bool
has_ended phase.Opening = true
has_ended (phase.Over p) = true
has_ended _ = false

-- the board of the game after an entry in a phase
abbrev pub board_after : Entry → Phase → Position → Position
board_after (entry.Moved turn) (phase.ToMove p dice) b = after_steps b p turn
board_after _ _ b = b

-- what a turn wins, where the cube shows this, if all checkers of the player who moves are then off
abbrev pub turn_win : ℕ → Player → Option Level → Option Win
turn_win cube p None = None
turn_win cube p (Some level) = Some (record { winner = p; points = multiple level * cube; way = BearingOff level })

-- what an entry in a phase wins, on a board after it and where the cube shows this
abbrev pub win_in : Entry → Phase → Position → ℕ → Option Win
win_in (entry.Moved turn) (phase.ToMove p dice) board cube = turn_win cube p (level_of board p)
win_in entry.Dropped (phase.Doubled p) board cube = Some (record { winner = opponent p; points = cube; way = Drop })
win_in entry.Accepted (phase.Resigned p level back) board cube =
    Some (record { winner = opponent p; points = multiple level * cube; way = Resignation level })
win_in _ _ board cube = None

-- how an entry that follows ends the game, if it does
abbrev pub win_of : State → Entry → Option Win
win_of s e = win_in e s.phase (board_after e s.phase s.board) s.cube.value

-- the end of a game by an entry that leads from s to next: what stands after it but for the next
-- game, which is the score and whether the match is over, with the board, the cube, the Crawford
-- mark and the number of the game itself
abbrev pub end_of : State → Entry → State → State
end_of s e next = record next {
  board = board_after e s.phase s.board;
  cube = s.cube;
  crawford = s.crawford;
  game = s.game;
}

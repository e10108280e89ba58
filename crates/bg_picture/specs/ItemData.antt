-- What an item of a page tells of its position: the page's script draws the picture from it.
use Rattle.std.specs.Prelude.{ℕ, ◌+◌, List, ◌++◌, map, Option, Some, None, codes}
use Rattle.std.specs.Fmt.{decimal}
use Rattle.bg_board.specs.Die.{pips}
use Rattle.bg_board.specs.Position.{Position}
use Rattle.bg_board.specs.declared.players.Player.{Player}
use Rattle.bg_turns.specs.declared.throws.Dice.{Dice}
use Rattle.bg_match.specs.State.{State}
use Rattle.bg_match.specs.declared.phases.Cube.{Cube}
use Rattle.bg_match.specs.declared.phases.Phase.{Phase}
use Rattle.bg_match.specs.declared.phases.Phase.TheVariants as phase
use Rattle.bg_text.specs.Entries.EntryText.{letter}
use Rattle.bg_picture.specs.Captions.{caption_words}
use Rattle.bg_picture.specs.declared.captions.Caption.{Caption}

-- a letter for how many checkers stand on a point: a for none, b for one
abbrev pub count_letter : ℕ → ℕ
count_letter count = 97 + count

-- the checkers of a player, off first and the bar last
unfoldable pub counts_data : List ℕ → List ℕ
counts_data counts = map count_letter counts

-- those of X, and then those of O
unfoldable pub board_data : Position → List ℕ
board_data b = counts_data b.x ++ counts_data b.o

abbrev pub owner_data : Option Player → List ℕ
owner_data None = codes "-"
owner_data (Some player) = letter player

unfoldable pub cube_data : Cube → List ℕ
cube_data cube = codes " " ++ decimal cube.value ++ codes " " ++ owner_data cube.owner

unfoldable pub both_data : Dice → List ℕ
both_data dice = codes " " ++ decimal (pips dice.first) ++ decimal (pips dice.second)

-- the dice that lie on the board, where there are some
unfoldable pub dice_data : Phase → List ℕ
dice_data (phase.ToMove p dice) = both_data dice
dice_data (phase.Resigned p level (Some dice)) = both_data dice
dice_data _ = codes " -"

unfoldable pub score_data : State → List ℕ
score_data s = codes " " ++ decimal s.x_score ++ codes " " ++ decimal s.o_score

-- as in "aaaaaafadaaaafaaaaaaaaaacaaaaaaafadaaaafaaaaaaaaaaca 1 - 31 0 0"
unfoldable pub position_data : State → List ℕ
position_data s = board_data s.board ++ cube_data s.cube ++ dice_data s.phase ++ score_data s

-- and what stands below the picture
unfoldable pub item_data : State → Caption → List ℕ
item_data s caption =
    codes " data-at='" ++ position_data s ++ codes "' data-next='" ++ caption_words s caption ++ codes "'"

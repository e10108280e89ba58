-- How a player is named to a reader, who is one of the two.
use Rattle.std.specs.Prelude.{ℕ, List, [], ◌++◌, codes}
use Rattle.bg_board.specs.declared.players.Player.{Player}
use Rattle.bg_board.specs.declared.players.Player.TheVariants.{X, O}
use Rattle.bg_text.specs.Entries.EntryText.{letter}

abbrev pub you_mark : Player → Player → List ℕ
you_mark X X = codes " (you)"
you_mark O O = codes " (you)"
you_mark X O = []
you_mark O X = []

-- as in "X (you)"
unfoldable pub name_text : Player → Player → List ℕ
name_text player reader = letter player ++ you_mark player reader

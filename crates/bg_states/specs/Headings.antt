-- The match, the game, the score and the cube.
use Rattle.std.specs.Prelude.{ℕ, Bool, true, false, Option, Some, None, List, [], ◌++◌, codes, length}
use Rattle.std.specs.Fmt.{decimal}
use Rattle.bg_board.specs.declared.players.Player.{Player}
use Rattle.bg_match.specs.Match.{Log}
use Rattle.bg_match.specs.State.{State}
use Rattle.bg_match.specs.Terms.{match_length, rules_of}
use Rattle.bg_match.specs.declared.limits.Rules.{Rules}
use Rattle.bg_match.specs.declared.limits.Rules.TheVariants.{One, Two}
use Rattle.bg_match.specs.declared.phases.Cube.{Cube}
use Rattle.bg_text.specs.Entries.EntryText.{letter}

abbrev pub rules_digit : Rules → List ℕ
rules_digit One = codes "1"
rules_digit Two = codes "2"

-- as in {"number":12,"length":3,"rules":1
unfoldable pub match_text : Log → List ℕ
match_text log =
    codes "{\"number\":" ++ decimal (length log.entries) ++ codes ",\"length\":" ++ decimal (match_length log.terms)
    ++ codes ",\"rules\":" ++ rules_digit (rules_of log.terms)

abbrev pub flag : Bool → List ℕ
flag true = codes "true"
flag false = codes "false"

-- as in ,"game":1,"crawford":false
unfoldable pub game_text : State → List ℕ
game_text s = codes ",\"game\":" ++ decimal s.game ++ codes ",\"crawford\":" ++ flag s.crawford

-- as in ,"score":[1,0]
unfoldable pub score_text : State → List ℕ
score_text s = codes ",\"score\":[" ++ decimal s.x_score ++ codes "," ++ decimal s.o_score ++ codes "]"

-- nothing where there is no player
abbrev pub owner_letter : Option Player → List ℕ
owner_letter None = []
owner_letter (Some player) = letter player

unfoldable pub owner_text : Option Player → List ℕ
owner_text owner = codes ",\"owner\":\"" ++ owner_letter owner ++ codes "\"}"

-- as in ,"cube":{"value":2,"owner":"X"}
unfoldable pub cube_text : Cube → List ℕ
cube_text cube = codes ",\"cube\":{\"value\":" ++ decimal cube.value ++ owner_text cube.owner

-- The XGID of a standing.
use Rattle.std.specs.Prelude.{◌==◌, ℕ, ◌+◌, ◌*◌, ◌-◌, nat_lt, Option, Some, None, List, ◌++◌, map, codes, if◌then◌else◌}
use Rattle.std.specs.List.{range_with_len}
use Rattle.std.specs.Fmt.{decimal}
use Rattle.bg_board.specs.Position.{Position, count}
use Rattle.bg_board.specs.declared.players.Player.{Player}
use Rattle.bg_board.specs.declared.players.Player.TheVariants.{X, O}
use Rattle.bg_turns.specs.Dice.{larger_die}
use Rattle.bg_match.specs.State.{State}
use Rattle.bg_match.specs.Limits.{greatest_cube}
use Rattle.bg_match.specs.Terms.{match_length}
use Rattle.bg_match.specs.declared.phases.Cube.{Cube}
use Rattle.bg_match.specs.declared.phases.Phase.{Phase}
use Rattle.bg_match.specs.declared.phases.Phase.TheVariants.{Opening, Doubled, ToMove, Resigned, Over}
use Rattle.bg_ids.specs.Turns.{on_roll}
use Rattle.bg_ids.specs.MatchIds.{doublings, smaller_die, yes_number, is_crawford}
use Rattle.bg_ids.specs.declared.xgids.XgidFault.{XgidFault}
use Rattle.bg_ids.specs.declared.xgids.XgidFault.TheVariants as fault

-- the checkers of one player at a place: A for one of X, B for two; a, b and so on of O; - for none
abbrev pub mark : ℕ → ℕ → ℕ
mark x o = if nat_lt 0 x then 64 + x else if nat_lt 0 o then 96 + o else 45

-- 26 places: the bar of O, the points of X from 1 to 24, and the bar of X
abbrev pub place_mark : Position → ℕ → ℕ
place_mark b place =
    mark (if place == 0 then 0 else count b X place) (if place == 25 then 0 else count b O (25 - place))

abbrev pub owner_sign : Option Player → List ℕ
owner_sign None = codes "0"
owner_sign (Some X) = codes "1"
owner_sign (Some O) = codes "-1"

abbrev pub player_sign : Player → List ℕ
player_sign player = owner_sign (Some player)

-- the dice, the greater one first, or 00 before the roll, or D while a double is answered
abbrev pub dice_sign : Phase → List ℕ
dice_sign (ToMove p dice) = decimal (10 * larger_die dice + smaller_die dice)
dice_sign (Doubled p) = codes "D"
dice_sign _ = codes "00"

unfoldable pub places_text : Position → List ℕ
places_text b = map (place_mark b) (range_with_len 0 26)

-- the fields behind the places, each behind a colon
abbrev pub behind_colon : List ℕ → List ℕ
behind_colon text = codes ":" ++ text

-- how often the cube was doubled, and whose it is
unfoldable pub cube_text : Cube → List ℕ
cube_text cube = behind_colon (decimal (doublings cube.value)) ++ behind_colon (owner_sign cube.owner)

-- who is on roll, and the dice
unfoldable pub turn_text : Phase → List ℕ
turn_text phase = behind_colon (player_sign (on_roll phase)) ++ behind_colon (dice_sign phase)

-- the score, that of X first
unfoldable pub score_text : ℕ → ℕ → List ℕ
score_text x o = behind_colon (decimal x) ++ behind_colon (decimal o)

-- whether it is the Crawford game, the length of the match, and how often a cube can be doubled
unfoldable pub terms_text : State → List ℕ
terms_text s =
    behind_colon (decimal (yes_number (is_crawford s))) ++ behind_colon (decimal (match_length s.terms))
    ++ behind_colon (decimal (doublings greatest_cube))

-- the XGID, with X as the player at the bottom
abbrev pub xgid_text : State → List ℕ
xgid_text s =
    codes "XGID=" ++ places_text s.board ++ cube_text s.cube ++ turn_text s.phase ++ score_text s.x_score s.o_score
    ++ terms_text s

-- why a standing has no XGID, where it has none
abbrev pub xgid_fault : Phase → Option XgidFault
xgid_fault Opening = Some fault.NoGame
xgid_fault (Resigned p level back) = Some fault.Resigned
xgid_fault (Over p) = Some fault.Over
xgid_fault _ = None

abbrev pub xgid_fault_words : XgidFault → List ℕ
xgid_fault_words fault.NoGame = codes "no game is open"
xgid_fault_words fault.Resigned = codes "an offer to resign is not told"
xgid_fault_words fault.Over = codes "the match is over"

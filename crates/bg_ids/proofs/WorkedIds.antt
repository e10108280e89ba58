-- IDs of worked standings, computed: each is as GNU Backgammon has it.
use Rattle.std.specs.Prelude.{◌≡◌, Some, [], ◌∷◌, codes}
use Rattle.std.proofs.Common.{refl}
use Rattle.bg_board.specs.Position.{Position, start_position}
use Rattle.bg_board.specs.declared.dice.Die.TheVariants.{One, Three}
use Rattle.bg_board.specs.declared.players.Player.TheVariants.{X, O}
use Rattle.bg_match.specs.State.{State, start_of}
use Rattle.bg_match.specs.Terms.{terms_of}
use Rattle.bg_match.specs.declared.limits.Rules.TheVariants as rules
use Rattle.bg_match.specs.declared.phases.Phase.TheVariants.{Doubled, ToMove}
use Rattle.std.specs.Int.Count.{count_trailing_zeros}
use Rattle.std.specs.Fmt.{digits}
use Rattle.base64.specs.Rfc4648.{encode_symbols}
use Rattle.bg_ids.specs.Bits.{number_bits, bits_bytes, bits_text}
use Rattle.bg_ids.specs.PositionIds.{position_text}
use Rattle.bg_ids.specs.MatchIds.{match_text}
use Rattle.bg_ids.specs.Xgids.{places_text, cube_text, turn_text, score_text, terms_text, xgid_text}

-- a match of seven points
abbrev seven : State
seven = start_of (terms_of 7 rules.One)

-- X has rolled 3 and 1 at its start
abbrev rolled : State
rolled = record seven { phase = ToMove X (record { first = One; second = Three }) }

-- O answers the double of X at a score of 3 to 5 in a match of nine points
abbrev doubled : State
doubled = record (start_of (terms_of 9 rules.One)) {
  phase = Doubled O;
  cube = record { value = 2; owner = Some X };
  x_score = 3;
  o_score = 5;
}

-- X has five checkers on his 6, O one on his bar and one on his 1, and all others are off
abbrev few : Position
few = record {
  x = 10 ∷ 0 ∷ 0 ∷ 0 ∷ 0 ∷ 0 ∷ 5 ∷ 0 ∷ 0 ∷ 0 ∷ 0 ∷ 0 ∷ 0 ∷ 0 ∷ 0 ∷ 0 ∷ 0 ∷ 0 ∷ 0 ∷ 0 ∷ 0 ∷ 0 ∷ 0 ∷ 0 ∷ 0 ∷ 0 ∷ [];
  o = 13 ∷ 1 ∷ 0 ∷ 0 ∷ 0 ∷ 0 ∷ 0 ∷ 0 ∷ 0 ∷ 0 ∷ 0 ∷ 0 ∷ 0 ∷ 0 ∷ 0 ∷ 0 ∷ 0 ∷ 0 ∷ 0 ∷ 0 ∷ 0 ∷ 0 ∷ 0 ∷ 0 ∷ 0 ∷ 1 ∷ [];
}

start_id : position_text start_position X ≡ codes "4HPwATDgc/ABMA"
unfolding bits_text bits_bytes encode_symbols
start_id = refl

few_of_x : position_text few X ≡ codes "AQAAAh8AAAAAAA"
unfolding bits_text bits_bytes encode_symbols
few_of_x = refl

few_of_o : position_text few O ≡ codes "4AMAQAAAgAAAAA"
unfolding bits_text bits_bytes encode_symbols
few_of_o = refl

new_match : match_text seven ≡ codes "cAjgAAAAAAAE"
unfolding bits_text bits_bytes number_bits encode_symbols count_trailing_zeros
new_match = refl

first_roll : match_text rolled ≡ codes "cInlAAAAAAAE"
unfolding bits_text bits_bytes number_bits encode_symbols count_trailing_zeros
first_roll = refl

offered_double : match_text doubled ≡ codes "UREgAVAAGAAE"
unfolding bits_text bits_bytes number_bits encode_symbols count_trailing_zeros
offered_double = refl

first_roll_xgid : xgid_text rolled ≡ codes "XGID=-b----E-C---eE---c-e----B-:0:0:1:31:0:0:0:7:7"
unfolding places_text cube_text turn_text score_text terms_text count_trailing_zeros digits
first_roll_xgid = refl

offered_double_xgid : xgid_text doubled ≡ codes "XGID=-b----E-C---eE---c-e----B-:1:1:1:D:3:5:0:9:7"
unfolding places_text cube_text turn_text score_text terms_text count_trailing_zeros digits
offered_double_xgid = refl

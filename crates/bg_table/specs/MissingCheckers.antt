-- What is said of a point where a player has no checker to move.
use Rattle.std.specs.Prelude.{◌==◌, ◌&&◌, ℕ, ◌-◌, nat_lt, List, [], ◌++◌, codes, if◌then◌else◌}
use Rattle.std.specs.Fmt.{decimal}
use Rattle.bg_board.specs.Position.{Position, count, opponent}
use Rattle.bg_board.specs.declared.players.Player.{Player}
use Rattle.bg_text.specs.Entries.EntryText.{letter}

-- a checker stood there before the turn
abbrev pub further_words : ℕ → List ℕ
further_words before = if before == 0 then [] else codes "further "

unfoldable pub place_words : ℕ → List ℕ
place_words point = if point == 25 then codes "the bar" else codes "point " ++ decimal point

-- as in "you have no checker on point 9", or "you have no further checker on point 8", where the
-- turn begins on this position
unfoldable pub none_words : Position → Player → ℕ → List ℕ
none_words b player point =
    codes "you have no " ++ further_words (count b player point) ++ codes "checker on " ++ place_words point

abbrev pub stand_words : ℕ → List ℕ
stand_words checkers = if checkers == 1 then codes " has a checker of " else codes " has checkers of "

-- as in "point 12 has checkers of O, none of yours"
unfoldable pub others_words : Player → ℕ → ℕ → List ℕ
others_words player point checkers =
    place_words point ++ stand_words checkers ++ letter (opponent player) ++ codes ", none of yours"

-- a player has no checker on a point: the other one may have some there, as the step is tried
abbrev pub missing_words : Position → Position → Player → ℕ → List ℕ
missing_words b tried player point =
    if nat_lt point 25 && nat_lt 0 (count tried (opponent player) (25 - point))
    then others_words player point (count tried (opponent player) (25 - point))
    else none_words b player point

-- Which party sits for a player.
use Rattle.std.specs.Prelude.{ℕ}
use Rattle.bg_board.specs.declared.players.Player.{Player}
use Rattle.bg_board.specs.declared.players.Player.TheVariants.{X, O}
use Rattle.bg_wire.specs.Entries.Codes.{seat_of_x, seat_of_o}

abbrev pub party_of : Player → ℕ
party_of X = seat_of_x
party_of O = seat_of_o

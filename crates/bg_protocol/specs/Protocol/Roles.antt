-- Which party has which role.
use Rattle.std.specs.Prelude.{ℕ, zero, suc}
use Rattle.bg_board.specs.declared.players.Player.TheVariants.{X, O}
use Rattle.bg_protocol.specs.declared.roles.Role.{Role}
use Rattle.bg_protocol.specs.declared.roles.Role.TheVariants as roles

-- party 0 is the referee, 1 the seat of X, 2 the seat of O, and the others watch: party 3 is the
-- watcher of index 0
abbrev pub role : ℕ → Role
role zero = roles.Referee
role (suc zero) = roles.Seat X
role (suc (suc zero)) = roles.Seat O
role (suc (suc (suc index))) = roles.Watcher index

-- A world in which a seat is put in its place.
use Rattle.std.specs.Prelude.{◌≡◌, Option}
use Rattle.std.proofs.Common.{refl}
use Rattle.bg_board.specs.declared.players.Player.{Player}
use Rattle.bg_board.specs.declared.players.Player.TheVariants.{X, O}
use Rattle.bg_party.specs.Views.{SeatView}
use Rattle.bg_protocol.specs.Worlds.Views.{KeeperView, LinkView, WorldView, seat_core, with_seat_core, with_seat_keeper}

-- a world whose seat is put back is as it was
pub put_back : (w : WorldView) (player : Player) → with_seat_core w player (seat_core w player) ≡ w
put_back w X = refl
put_back w O = refl

-- so it is over another link
pub put_back_over : (w : WorldView) (player : Player) (link : LinkView)
    → with_seat_core (record w { link = link }) player (seat_core w player) ≡ record w { link = link }
put_back_over w X link = refl
put_back_over w O link = refl

-- with another keeper its core is the same
pub same_core : (w : WorldView) (player : Player) (keeper : KeeperView)
    → seat_core (with_seat_keeper w player keeper) player ≡ seat_core w player
same_core w X keeper = refl
same_core w O keeper = refl

-- a seat and its keeper are put in their places in either order
pub either_order : (w : WorldView) (player : Player) (core : Option SeatView) (keeper : KeeperView)
    → with_seat_core (with_seat_keeper w player keeper) player core
    ≡ with_seat_keeper (with_seat_core w player core) player keeper
either_order w X core keeper = refl
either_order w O core keeper = refl

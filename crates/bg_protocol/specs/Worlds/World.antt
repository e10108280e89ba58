-- A world as contracts see it.
use Rattle.bg_board.specs.declared.players.Player.{Player}
use Rattle.bg_board.specs.declared.players.Player.TheVariants.{X, O}
use Rattle.bg_protocol.specs.Worlds.Views.{WorldView, keeper_view, link_view}
use Rattle.bg_protocol.specs.declared.devices.Keeper as keeper
use Rattle.bg_protocol.specs.declared.devices.Link as link
use Rattle.bg_protocol.specs.declared.nodes.seat.SeatNode.{SeatNode}
use Rattle.bg_protocol.specs.declared.worlds.World.{World}

abbrev pub view_of : {L K : Type 0} → link.Ghosts L → keeper.Ghosts K → World L K → WorldView
view_of l k w = record {
  id = w.id;
  terms = w.terms;
  link = link_view l w.link;
  referee_keeper = keeper_view k w.keepers.referee;
  x_keeper = keeper_view k w.keepers.x;
  o_keeper = keeper_view k w.keepers.o;
  referee = w.referee.core;
  x = w.x.core;
  o = w.o.core;
  watchers = w.watchers;
}

-- the seat of a player
abbrev pub seat_of : {L K : Type 0} → World L K → Player → SeatNode
seat_of w X = w.x
seat_of w O = w.o

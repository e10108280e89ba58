-- In whose numbers the points of a picture are named.
use Rattle.bg_board.specs.declared.players.Player.{Player}
use Rattle.bg_board.specs.declared.players.Player.TheVariants as player
use Rattle.bg_match.specs.declared.phases.Phase.{Phase}
use Rattle.bg_match.specs.declared.phases.Phase.TheVariants.{Opening, ToAct, Doubled, ToMove, Resigned, Over}
use Rattle.bg_picture.specs.declared.numberings.Numbering.{Numbering}
use Rattle.bg_picture.specs.declared.numberings.Numbering.TheVariants.{X, Mover}

-- the player who rolls, answers a double, moves or resigns; X before a game and after the match
abbrev pub mover : Phase → Player
mover Opening = player.X
mover (ToAct p) = p
mover (Doubled p) = p
mover (ToMove p dice) = p
mover (Resigned p level back) = p
mover (Over p) = player.X

-- the player in whose numbers the points are named
abbrev pub reader_of : Numbering → Phase → Player
reader_of X phase = player.X
reader_of Mover phase = mover phase

-- Who is on roll, and who is to act.
use Rattle.bg_board.specs.Position.{opponent}
use Rattle.bg_board.specs.declared.players.Player.{Player}
use Rattle.bg_board.specs.declared.players.Player.TheVariants as player
use Rattle.bg_match.specs.declared.phases.Phase.{Phase}
use Rattle.bg_match.specs.declared.phases.Phase.TheVariants.{Opening, ToAct, Doubled, ToMove, Resigned, Over}

-- the player on roll: who rolls or has rolled, also while the other one answers his double or his
-- offer to resign. Before a game that is X, and after the match the player who lost it
abbrev pub on_roll : Phase → Player
on_roll Opening = player.X
on_roll (ToAct p) = p
on_roll (Doubled p) = opponent p
on_roll (ToMove p dice) = p
on_roll (Resigned p level back) = p
on_roll (Over p) = opponent p

-- the player who is to act: who answers a double or an offer to resign, and else the player on roll
abbrev pub to_act : Phase → Player
to_act (Doubled p) = p
to_act (Resigned p level back) = opponent p
to_act phase = on_roll phase

-- The keepers of a world, lent to its host.
use denote.RattleType.{RattleType}
use Rattle.std.specs.Borrow.{Fml, Lends, MutBor}
use Rattle.bg_protocol.specs.contracts.worlds.World.{the_row as world_row}
use Rattle.bg_protocol.specs.contracts.worlds.setups.Keepers.{the_row as keepers_row}
use Rattle.bg_protocol.specs.declared.worlds.World.{World}
use Rattle.bg_protocol.specs.declared.worlds.setups.Keepers.{Keepers}

abbrev pub with_keepers : {L K : Type 0} → World L K → Keepers K → World L K
with_keepers w keepers = record w { keepers = keepers }

-- whoever borrows the keepers leaves the world with what he leaves in their place
abbrev pub LendsKeepers : (L K : RattleType) → MutBor (World L.Denot K.Denot) → MutBor (Keepers K.Denot) → Fml
LendsKeepers L K world keepers = Lends (world_row L K) (keepers_row K) world keepers (with_keepers world.now)

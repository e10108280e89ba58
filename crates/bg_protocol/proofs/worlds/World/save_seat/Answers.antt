use Rattle.std.proofs.Common.{refl}
use Rattle.bg_protocol.specs.Worlds.Views.{keeper_view}
use Rattle.bg_protocol.proofs.worlds.World.save_seat.Goals as goal

pub returns-in-X-clause-calls : goal.returns-in-X-clause-calls
returns-in-X-clause-calls g c =
    rw c.in-X.is (keeper_view g.K.Keeper c.save_into.new.keeper, (c.save_into.new.self).core, (c.save_into.ensures.saves).0, refl)

pub returns-in-O-clause-calls : goal.returns-in-O-clause-calls
returns-in-O-clause-calls g c =
    rw c.in-O.is
    (keeper_view g.K.Keeper c.save_into-in-O.new.keeper, (c.save_into-in-O.new.self).core, (c.save_into-in-O.ensures.saves).0, refl)

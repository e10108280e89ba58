use Rattle.std.proofs.Common.{sym, arith}
use Rattle.bg_referee.proofs.KnownNumbers.{known_at, unknown_at}
use Rattle.bg_referee.proofs.sessions.Sessions.told_to.Goals as goal

pub returns-then-self-party : goal.returns-then-self-party
returns-then-self-party c =
    rw (sym c.self.view_is) (known_at c.self.inside.known c.self.inside.told c.args.party (omega (arith, c.self.told, c.requires)) c.if-self-party.true)

pub returns-else-self-party : goal.returns-else-self-party
returns-else-self-party c =
    rw (sym c.self.view_is) (unknown_at c.self.inside.known c.self.inside.told c.args.party c.if-self-party.false)

use Rattle.std.proofs.Common.{◌≡◌, ◌-◌, ◌+◌, [], ap, arith}
use Rattle.bg_referee.specs.Sessions.{SessionsView, behind, parties_from, first_party, last_party}
use Rattle.bg_referee.proofs.Rounds.{round_more, pushed_below}
use Rattle.bg_referee.proofs.sessions.Sessions.pushed.Goals as goal

pub loop-party-preserved : goal.loop-party-preserved
loop-party-preserved c =
    let s = c.args.self.now in
    let cursor : c.self.inside.cursor ≡ s.cursor = ap (λ (v : SessionsView). v.cursor) c.self.view_is in
    round_more s c.args.saved [] c.loop-party.found.items c.add_if_behind.new.found.items s.cursor (c.loop-party.party - s.cursor) (c.loop-party.party + 1 - s.cursor) c.loop-party.party
    (omega (arith, c.loop-party.auto.party, c.from-party.ensures, cursor)) (omega (arith, c.loop-party.auto.party, c.from-party.ensures, cursor)) c.loop-party.invariant c.add_if_behind.ensures

pub loop-party-2-preserved : goal.loop-party-2-preserved
loop-party-2-preserved c =
    let s = c.args.self.now in
    round_more s c.args.saved (behind s c.args.saved (parties_from s.cursor (last_party + 1 - s.cursor))) c.loop-party-2.found.items c.add_if_behind-in-loop-party-2.new.found.items first_party (c.loop-party-2.party - first_party) (c.loop-party-2.party + 1 - first_party) c.loop-party-2.party
    (omega (arith, c.loop-party-2.auto.party, c.from-party-2.ensures)) (omega (arith, c.loop-party-2.auto.party, c.from-party-2.ensures)) c.loop-party-2.invariant c.add_if_behind-in-loop-party-2.ensures

pub returns-clause-behind : goal.returns-clause-behind
returns-clause-behind c =
    let s = c.args.self.now in
    rw c.loop-party-2.invariant (pushed_below s c.args.saved (parties_from s.cursor (last_party + 1 - s.cursor)) (parties_from first_party (c.loop-party-2.party - first_party)))

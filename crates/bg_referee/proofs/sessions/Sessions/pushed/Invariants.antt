use Rattle.std.proofs.Common.{◌≡◌, ◌-◌, ◌+◌, ◌++◌, [], take}
use Rattle.bg_referee.specs.Sessions.{behind, parties_from, first_party, last_party}
use Rattle.bg_referee.proofs.sessions.Sessions.pushed.Given as goal

abbrev pub invariant-loop-party : goal.invariant-loop-party
invariant-loop-party l = l.found.items ≡ take 2 ([] ++ behind l.self l.saved (parties_from l.self.cursor (l.party - l.self.cursor)))

abbrev pub invariant-loop-party-2 : goal.invariant-loop-party-2
invariant-loop-party-2 l =
    l.found.items ≡ take 2 (behind l.self l.saved (parties_from l.self.cursor (last_party + 1 - l.self.cursor))
    ++ behind l.self l.saved (parties_from first_party (l.party - first_party)))

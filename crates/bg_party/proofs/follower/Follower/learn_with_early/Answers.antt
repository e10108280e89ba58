use Rattle.std.proofs.Common.{◌≤◌, ◌+◌, length, arith, length-append, refl}
use Rattle.bg_match.specs.Limits.{most_entries}
use Rattle.bg_party.proofs.Growing.{early_fits}
use Rattle.bg_party.proofs.follower.Follower.learn_with_early.Goals as goal

pub count_that_follow-count-requires-clause-few : goal.count_that_follow-count-requires-clause-few
count_that_follow-count-requires-clause-few c =
    let entries = c.self.inside.log.entries in
    let new = c.args.new.now in
    let some : length entries + length new ≤ most_entries =
    omega (arith, length-append entries new, (c.in-Ok.ensures.ok.0 refl).0) in
    rw (c.as_slice.ensures.value, c.behind-early.ensures)
    (early_fits c.self.inside.window (length entries) (length new) most_entries c.self.invariant.numbered some)

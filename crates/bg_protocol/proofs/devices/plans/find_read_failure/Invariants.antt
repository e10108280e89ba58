use Rattle.std.proofs.Common.{◌≡◌, ℕ, List, [], drop}
use Rattle.bg_protocol.specs.Devices.Plan.{KeeperPlan, read_failure_at}
use Rattle.bg_protocol.specs.declared.devices.plans.FailRead.{FailRead}
use Rattle.bg_protocol.proofs.devices.plans.find_read_failure.Given as goal

abbrev plan_of : ℕ → List FailRead → KeeperPlan
plan_of party reads = record { party = party; tears = []; reads = reads }

-- the first entry for the read is among those that are left, if there is one
abbrev pub invariant-loop-failure : goal.invariant-loop-failure
invariant-loop-failure l = read_failure_at (plan_of l.party (drop l.failure-index l.plan)) l.nth ≡ read_failure_at (plan_of l.party l.plan) l.nth

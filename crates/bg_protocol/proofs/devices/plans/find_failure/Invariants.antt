use Rattle.std.proofs.Common.{◌≡◌, drop}
use Rattle.bg_protocol.specs.Devices.Plan.{failure_at}
use Rattle.bg_protocol.proofs.devices.plans.find_failure.Given as goal

-- the first entry for the send is among those that are left, if there is one
abbrev pub invariant-loop-failure : goal.invariant-loop-failure
invariant-loop-failure l = failure_at (drop l.failure-index l.plan) l.nth ≡ failure_at l.plan l.nth

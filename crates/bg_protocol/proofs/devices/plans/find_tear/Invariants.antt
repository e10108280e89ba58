use Rattle.std.proofs.Common.{◌≡◌, ℕ, List, [], drop}
use Rattle.bg_protocol.specs.Devices.Plan.{KeeperPlan, tear_at}
use Rattle.bg_protocol.specs.declared.devices.plans.Tear.{Tear}
use Rattle.bg_protocol.proofs.devices.plans.find_tear.Given as goal

abbrev plan_of : ℕ → List Tear → KeeperPlan
plan_of party tears = record { party = party; tears = tears; reads = [] }

-- the first entry for the write is among those that are left, if there is one
abbrev pub invariant-loop-tear : goal.invariant-loop-tear
invariant-loop-tear l = tear_at (plan_of l.party (drop l.tear-index l.plan)) l.nth ≡ tear_at (plan_of l.party l.plan) l.nth

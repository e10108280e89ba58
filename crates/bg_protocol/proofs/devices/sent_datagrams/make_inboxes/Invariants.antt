use Rattle.std.proofs.Common.{◌≡◌, ℕ, ◌-◌, length}
use Rattle.bg_protocol.specs.Devices.Inboxes.{inbox_at}
use Rattle.bg_protocol.proofs.devices.sent_datagrams.make_inboxes.Given as goal

-- the inboxes have the texts that they had
abbrev pub invariant-loop-alloc : goal.invariant-loop-alloc
invariant-loop-alloc l = (p : ℕ) → inbox_at l.inboxes.items p ≡ inbox_at l.initial.inboxes.items p

abbrev pub decreases-loop-alloc : goal.decreases-loop-alloc
decreases-loop-alloc l = 256 - length l.inboxes.items

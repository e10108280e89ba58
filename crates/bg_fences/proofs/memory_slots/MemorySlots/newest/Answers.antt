use Rattle.std.proofs.Common.{subst, List, ℕ, Ok}
use Rattle.bg_fences.specs.ToldNumbers.{TellsNumber}
use Rattle.bg_fences.proofs.FencedWrites.{newest_of}
use Rattle.bg_fences.proofs.memory_slots.MemorySlots.newest.Goals as goal

pub returns : goal.returns
returns c =
    let zero = subst (λ (bytes : List ℕ). TellsNumber bytes (Ok c.in_ok-zero.zero)) c.get.ensures c.in_ok-zero.ensures in
    let one = subst (λ (bytes : List ℕ). TellsNumber bytes (Ok c.in_ok-one.one)) c.get-2.ensures c.in_ok-one.ensures in
    rw c.max.ensures (newest_of c.args.self.now _ _ zero one)

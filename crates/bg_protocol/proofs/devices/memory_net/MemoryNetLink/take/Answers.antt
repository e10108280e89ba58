use Rattle.std.proofs.Common.{Option, IfSome, ℕ, subst}
use Rattle.arrayvec.specs.ArrayVec.{ArrayVec}
use Rattle.bg_protocol.specs.Devices.Honesty.{MayArrive}
use Rattle.bg_protocol.specs.Devices.MemoryDevices.{sent_over}
use Rattle.bg_protocol.proofs.Deliveries.Arrivals.{arrives}
use Rattle.bg_protocol.proofs.devices.memory_net.MemoryNetLink.take.Goals as goal

pub returns-clause-honest : goal.returns-clause-honest
returns-clause-honest c =
    let sent = sent_over c.args.self.now in
    λ _. rw c.array_of-bytes.ensures
    (subst (λ (found : Option (ArrayVec ℕ)). IfSome found (λ bytes. MayArrive sent c.args.party bytes.items))
    c.in-Some.ensures.handed (arrives sent c.args.party c.args.pick))

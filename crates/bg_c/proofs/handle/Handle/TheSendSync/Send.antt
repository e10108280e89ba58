-- A handle may cross to another thread: what it owns is what a box of its value owns.
use Rattle.std.specs.Prelude.{None, Some}
use mir.Raw.{raw}
use base.Shift.{Keyless}
use base.Fraction.{full_share}
use denote.Memory.{lone}
use denote.RawPtr.{Ptr, block_ptr, null_ptr}
use denote.Struct.Owning.{fields}
use denote.Param.Send.{IsSend, AllSend, owning_send, part_keyless, sendable}
use Rattle.std.specs.Ptr.{points_to}
use Rattle.std.proofs.Crossing as heap
use Rattle.std.proofs.alloc.Global.TheSendSync as handle
use Rattle.std.specs.declared.alloc.Global.{Global}
use Rattle.bg_parties.specs.contracts.party.Party as Party
use Rattle.bg_parties.proofs.party.Party.TheSendSync.{the_send as party}
use Rattle.bg_c.specs.Handle.{Kept, handle_owns}
use Rattle.bg_c.specs.contracts.handle.Handle.{the_row, the_type}

pointed : (p : Ptr) (x : (Party.the_row).Denot) → Keyless (points_to Party.the_row p x)
pointed (block_ptr b o) x = part_keyless Party.the_row party full_share x b o
pointed null_ptr x = tt

keyless : (alloc : Global) (p : Ptr) (x : Kept) → Keyless (handle_owns alloc p x)
keyless alloc p None = tt
keyless alloc p (Some x) = (pointed p x, heap.frees.frees alloc (raw (lone Party.the_row.mir)) p)

pub send : IsSend the_row
send =
    let all : AllSend (fields the_type) = (search sendable, (handle.the_field_send, tt)) in
    owning_send the_type all (λ d. keyless d.alloc d.at d.value)
    (λ k d w. tt)

-- What a handle owns: nothing where it is empty and null, else what a box owns of its value.
use Rattle.std.specs.Prelude.{Option, None, Some}
use Rattle.std.specs.Coded.{coded_option}
use base.Fml.{Fml, feq}
use base.Stored.{Coded}
use denote.RawPtr.{Ptr, null_ptr}
use Rattle.std.specs.Box.Ownership.{box_owns}
use Rattle.std.specs.Global.{Global}
use Rattle.std.specs.contracts.impls.GlobalAllocator.TheImpl.{ghosts}
use Rattle.bg_parties.specs.contracts.party.Party.{the_row}

-- what contracts see of a party
abbrev pub Held : Type 0
Held = the_row.Denot

abbrev pub Kept : Type 0
Kept = Option Held

abbrev pub kept_coded : Coded Kept
kept_coded = coded_option the_row.coded

abbrev pub handle_owns : Global → Ptr → Kept → Fml
handle_owns alloc p None = feq Ptr p null_ptr
handle_owns alloc p (Some x) = box_owns (ghosts.dealloc_token alloc) the_row p x

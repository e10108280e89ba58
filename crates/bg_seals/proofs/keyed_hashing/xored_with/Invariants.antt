-- The bytes so far are XORed.
use Rattle.std.proofs.Common.{◌≡◌, ◌++◌, take, drop, map, bit_xor}
use Rattle.bg_seals.proofs.keyed_hashing.xored_with.Given as goal

abbrev pub invariant-loop-byte : goal.invariant-loop-byte
invariant-loop-byte l =
    l.byte-items ≡ map (λ byte. bit_xor byte l.pad_byte) (take l.byte-index l.initial.byte-items)
    ++ drop l.byte-index l.initial.byte-items

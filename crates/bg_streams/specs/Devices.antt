-- What a call does to the bytes and the failures of a device, before and after.
use Rattle.std.specs.Prelude.{◌≡◌, ℕ, ◌+◌, ◌<◌, List, ◌++◌, length, take, Result, Ok, Err}

-- a call that failed is counted, and another is not
abbrev pub CountsFailure : {T E : Type 0} → ℕ → ℕ → Result T E → Type 0
CountsFailure before after (Ok value) = after ≡ before
CountsFailure before after (Err failure) = after ≡ before + 1

-- a read gave the first bytes of the buffer, as many as it answers; one that failed gave none
abbrev pub Gives : {E : Type 0} → List ℕ → List ℕ → Result ℕ E → List ℕ → Type 0
Gives before after (Ok count) buffer = after ≡ before ++ take count buffer
Gives before after (Err failure) buffer = after ≡ before

-- a write that succeeded wrote all of its bytes; one that failed counts as none
abbrev pub WritesBytes : {T E : Type 0} → List ℕ → List ℕ → Result T E → List ℕ → Type 0
WritesBytes before after (Ok value) bytes = after ≡ before ++ bytes
WritesBytes before after (Err failure) bytes = after ≡ before

-- a flush that succeeded has taken all that was written; one that failed counts as none
abbrev pub TakesWritten : {T E : Type 0} → List ℕ → List ℕ → Result T E → List ℕ → Type 0
TakesWritten before after (Ok value) written = after ≡ written
TakesWritten before after (Err failure) written = after ≡ before

-- a read that gave nothing, though there was room, is counted, and another is not
abbrev pub CountsEnd : {E : Type 0} → ℕ → ℕ → Result ℕ E → List ℕ → Type 0
CountsEnd before after (Ok count) buffer =
    (count ≡ 0 → 0 < length buffer → after ≡ before + 1)
    × (0 < count → after ≡ before) × (length buffer ≡ 0 → after ≡ before)
CountsEnd before after (Err failure) buffer = after ≡ before

-- Which device failed, and how often.
use Rattle.std.specs.Prelude.{◌≡◌, ℕ, ◌+◌, Result, Ok, Err}
use Rattle.bg_streams.specs.declared.faults.EngineFault.{EngineFault}
use Rattle.bg_streams.specs.declared.faults.EngineFault.TheVariants.{Read, Write, Memory}

-- the source failed once where the answer is Read, and else not at all; a writer's fault is no
-- answer of reading
abbrev pub ReadsFailOnce : {T : Type 0} → Result T EngineFault → ℕ → ℕ → Type 0
ReadsFailOnce (Ok value) before after = after ≡ before
ReadsFailOnce (Err Read) before after = after ≡ before + 1
ReadsFailOnce (Err Write) before after = ⊥
ReadsFailOnce (Err Memory) before after = after ≡ before

-- how often the source and the sink failed: once each where the answer is their fault, and else not
-- at all
abbrev pub SourceFails : {T : Type 0} → Result T EngineFault → ℕ → ℕ → Type 0
SourceFails (Err Read) before after = after ≡ before + 1
SourceFails _ before after = after ≡ before

abbrev pub SinkFails : {T : Type 0} → Result T EngineFault → ℕ → ℕ → Type 0
SinkFails (Err Write) before after = after ≡ before + 1
SinkFails _ before after = after ≡ before

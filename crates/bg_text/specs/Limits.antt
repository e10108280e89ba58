-- The number that limits an input.
use Rattle.std.specs.Prelude.{ℕ}

-- an input has so many bytes at most
abbrev pub most_bytes : ℕ
most_bytes = 41943040

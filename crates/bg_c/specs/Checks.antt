-- The report on a file.
use Rattle.std.specs.Prelude.{◌==◌, ℕ, Option, Some, None, if◌then◌else◌}

-- the columns of a screen, and no screen for 0
abbrev pub columns_numbered : ℕ → Option ℕ
columns_numbered columns = if columns == 0 then None else Some columns

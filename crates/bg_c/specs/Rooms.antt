-- What a call leaves in the room for a text.
use Rattle.std.specs.Prelude.{◌≡◌, ℕ, ◌<◌, ◌≤◌, List, ◌++◌, drop, length}
use Rattle.bg_c.specs.declared.statuses.Status.{Status}
use Rattle.bg_c.specs.declared.statuses.Status.TheVariants.{Ok, NoRoom}

-- a text that fits stands at the front of the room, and behind it what was there; where it does not
-- fit the room is as it was. How many bytes it has is said in both cases
pub record PutsText (text old : List ℕ) (status : Status) (new : List ℕ) (needed : ℕ) : Type 0 where
  pub many : needed ≡ length text
  pub fits : length text ≤ length old → (status ≡ Ok) × (new ≡ text ++ drop (length text) old)
  pub short : length old < length text → (status ≡ NoRoom) × (new ≡ old)

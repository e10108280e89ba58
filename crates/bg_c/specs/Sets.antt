-- What a call answers, and what it sets.
use Rattle.std.specs.Prelude.{◌≡◌, ℕ, List, length, nat_le, Result, Ok, Err, if◌then◌else◌}
use Rattle.std.specs.Global.{Vec}
use Rattle.bg_c.specs.Rooms.{PutsText}
use Rattle.bg_c.specs.Status.{status_code}
use Rattle.bg_c.specs.declared.statuses.Status.{Status}
use Rattle.bg_c.specs.declared.statuses.Status.TheVariants as status

-- the same answer, with the status of what it is refused for
abbrev pub with_status : {T F : Type 0} → (F → Status) → Result T F → Result T Status
with_status status_of (Ok value) = Ok value
with_status status_of (Err why) = Err (status_of why)

-- the status of a call that is done, or that is refused
abbrev pub status_of : {T : Type 0} → Result T Status → Status
status_of (Ok value) = status.Ok
status_of (Err why) = why

-- a call that is done sets what it made; else what it sets is as before
abbrev pub set_to : {T : Type 0} → Result T Status → T → T
set_to (Ok value) before = value
set_to (Err why) before = before

-- the number of the status, and what is set
pub record Sets {T : Type 0} (made : Result T Status) (before : T) (code : ℕ) (after : T) : Type 0 where
  pub answers : code ≡ status_code (status_of made)
  pub sets : after ≡ set_to made before

-- the text that was made is put into the room; where none was made, the room and what is needed are
-- as before
abbrev pub Gives : Result (Vec ℕ) Status → List ℕ → ℕ → Status → List ℕ → ℕ → Type 0
Gives (Ok text) room before status new needed = PutsText text.items room status new needed
Gives (Err why) room before status new needed = (status ≡ why) × (new ≡ room) × (needed ≡ before)

-- a call that writes a text: of what was made this holds
abbrev pub Writes : (Result (Vec ℕ) Status → Type 0) → List ℕ → ℕ → ℕ → List ℕ → ℕ → Type 0
Writes IsMade room before code new needed =
    (made : Result (Vec ℕ) Status) × (status : Status) × IsMade made × Gives made room before status new needed
    × (code ≡ status_code status)

-- what goes with a text is set where the text fits into the room
abbrev pub beside_in_room : {T : Type 0} → T × Vec ℕ → List ℕ → T → T
beside_in_room made room before = if nat_le (length made.1.items) (length room) then made.0 else before

-- the text that was made is put into the room, and what goes with it is set; where none was made,
-- all is as before
abbrev pub GivesBeside : {T : Type 0} → Result (T × Vec ℕ) Status → List ℕ → ℕ → T → ℕ → List ℕ → ℕ → T → Type 0
GivesBeside (Ok made) room needed_before before code new needed beside =
    (status : Status) × PutsText made.1.items room status new needed × (code ≡ status_code status)
    × (beside ≡ beside_in_room made room before)
GivesBeside (Err why) room needed_before before code new needed beside =
    (code ≡ status_code why) × (new ≡ room) × (needed ≡ needed_before) × (beside ≡ before)

-- No two statuses have one number.
use Rattle.std.proofs.Common.{◌≡◌, refl, sym, ap, ◌∙◌}
use Rattle.std.specs.Prelude.{List, [], ◌∷◌, Some, slice_get}
use Rattle.bg_c.specs.Status.{status_code}
use Rattle.bg_c.specs.declared.statuses.Status.{Status}
use Rattle.bg_c.specs.declared.statuses.Status.TheVariants as status

-- the statuses in the order of their numbers
abbrev all : List Status
all =
    status.Ok ∷ status.NoRoom ∷ status.Memory ∷ status.BadArgument ∷ status.NotOpen ∷
    status.WrongParty ∷ status.NotAPacket ∷ status.NotAnAction ∷ status.Damaged ∷ status.WrongMatch ∷
    status.WrongSave ∷ status.SavesSpent ∷ status.NotYourTurn ∷ status.AlreadyClaimed ∷ status.Illegal ∷
    status.NotDue ∷ status.WordRefused ∷ status.NotToMove ∷ status.Refused ∷ status.NotEmpty ∷
    status.NothingSaved ∷ status.NotASave ∷ status.Busy ∷ status.Closed ∷ status.Copied ∷
    status.OtherSender ∷ status.NoXgid ∷ []

is_coded : (s : Status) → slice_get all (status_code s) ≡ Some s
is_coded status.Ok = refl
is_coded status.NoRoom = refl
is_coded status.Memory = refl
is_coded status.BadArgument = refl
is_coded status.NotOpen = refl
is_coded status.WrongParty = refl
is_coded status.NotAPacket = refl
is_coded status.NotAnAction = refl
is_coded status.Damaged = refl
is_coded status.WrongMatch = refl
is_coded status.WrongSave = refl
is_coded status.SavesSpent = refl
is_coded status.NotYourTurn = refl
is_coded status.AlreadyClaimed = refl
is_coded status.Illegal = refl
is_coded status.NotDue = refl
is_coded status.WordRefused = refl
is_coded status.NotToMove = refl
is_coded status.Refused = refl
is_coded status.NotEmpty = refl
is_coded status.NothingSaved = refl
is_coded status.NotASave = refl
is_coded status.Busy = refl
is_coded status.Closed = refl
is_coded status.Copied = refl
is_coded status.OtherSender = refl
is_coded status.NoXgid = refl

pub same_status : (a b : Status) → status_code a ≡ status_code b → a ≡ b
same_status a b same =
    let one : slice_get all (status_code a) ≡ Some a = is_coded a in
    let other : slice_get all (status_code b) ≡ Some b = is_coded b in
    let codes : slice_get all (status_code a) ≡ slice_get all (status_code b) = ap (slice_get all) same in
    let both : Some a ≡ Some b = sym one ∙ codes ∙ other in
    cc

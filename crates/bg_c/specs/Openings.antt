-- How a handle is opened: for a new match, or to go on with what is saved.
use Rattle.std.specs.Prelude.{◌≡◌, ◌⊎◌, ℕ, zero, suc, ◌≤◌, List, [], Some, None, Result, Ok, Err, MatchOption}
use Rattle.bg_match.specs.Terms.{Terms}
use Rattle.bg_wire.specs.Entries.Codes.{last_watcher}
use Rattle.bg_party.specs.Views.{fresh_watcher}
use Rattle.bg_parties.specs.Party.{Opens, begun_referee, begun_seat}
use Rattle.bg_parties.specs.declared.cores.Core.{Core}
use Rattle.bg_parties.specs.declared.cores.Core.TheVariants.{Watcher}
use Rattle.bg_parties.specs.declared.faults.OpenFault.{OpenFault}
use Rattle.bg_c.specs.Answers.{open_status}
use Rattle.bg_c.specs.Handle.{Held, Kept}
use Rattle.bg_c.specs.Slots.{ReadsSlots}
use Rattle.bg_c.specs.Status.{status_code}
use Rattle.bg_c.specs.Terms.{terms_numbered}
use Rattle.bg_c.specs.declared.slots.SavedFields.{SavedFields}
use Rattle.bg_c.specs.declared.statuses.Status.{Status}
use Rattle.bg_c.specs.declared.statuses.Status.TheVariants as status

-- a party of a match of these terms begins, and no save of it is under way; or this is why it does
-- not
abbrev pub IsOpened : List ℕ → List ℕ → ℕ → ℕ → Terms → Result Held Status → Type 0
IsOpened slot0 slot1 number id terms (Ok party) =
    Opens slot0 slot1 number id terms (Ok party.core) × (party.under_way ≡ None)
IsOpened slot0 slot1 number id terms (Err refusal) =
    (why : OpenFault) × Opens slot0 slot1 number id terms (Err why) × (refusal ≡ open_status why)

-- the party that was made is put into the handle, or there is no place for it, and the handle is as
-- before
abbrev pub Places : Held → Kept → Status → Kept → Type 0
Places party old answer new =
    ((answer ≡ status.Ok) × (new ≡ Some party)) ⊎ ((answer ≡ status.Memory) × (new ≡ old))

-- ---- for a new match

-- the party of a number as it begins: party 0 as the referee, 1 and 2 as the seats of X and O, and
-- the others watch
abbrev pub fresh_core : ℕ → ℕ → Terms → Core
fresh_core zero id terms = begun_referee id terms None
fresh_core (suc zero) id terms = begun_seat 1 id terms None
fresh_core (suc (suc zero)) id terms = begun_seat 2 id terms None
fresh_core (suc (suc (suc index))) id terms = Watcher (fresh_watcher (suc (suc (suc index))) id terms)

-- it begins afresh, and no save of it is under way; or this is why it does not
abbrev pub IsFresh : ℕ → ℕ → Terms → Result Held Status → Type 0
IsFresh number id terms (Ok party) = (party.core ≡ fresh_core number id terms) × (party.under_way ≡ None)
IsFresh number id terms (Err why) = IsOpened [] [] number id terms (Err why)

-- both slots are to be empty, and then a party begins afresh
pub record BeginsMatch
    (slot0 slot1 : List ℕ) (number id : ℕ) (terms : Terms) (made : Result Held Status) : Type 0 where
  pub empty : (slot0 ≡ []) × (slot1 ≡ []) → IsFresh number id terms made
  pub used : ((slot0 ≡ []) × (slot1 ≡ []) → ⊥) → made ≡ Err status.NotEmpty

-- parties are numbered to 255
pub record BeginsParty
    (slot0 slot1 : List ℕ) (number id : ℕ) (terms : Terms) (made : Result Held Status) : Type 0 where
  pub party : number ≤ last_watcher → BeginsMatch slot0 slot1 number id terms made
  pub none : (number ≤ last_watcher → ⊥) → made ≡ Err status.BadArgument

-- a party of a match of this length by these rules, which is looked at first
abbrev pub IsBegun : List ℕ → List ℕ → ℕ → ℕ → ℕ → ℕ → Result Held Status → Type 0
IsBegun slot0 slot1 number id points rules made =
    MatchOption (terms_numbered points rules) (made ≡ Err status.BadArgument)
    (λ terms. BeginsParty slot0 slot1 number id terms made)

-- what a call to begin answers, and what the handle holds afterwards
abbrev pub BeginsHandle : Result Held Status → Kept → ℕ → Kept → Type 0
BeginsHandle (Ok party) old code new = (answer : Status) × Places party old answer new × (code ≡ status_code answer)
BeginsHandle (Err why) old code new = (code ≡ status_code why) × (new ≡ old)

-- ---- to go on

-- the party that the slots restore, and what is told of its save: something is saved
abbrev pub IsResumed : List ℕ → List ℕ → ℕ → ℕ → ℕ → ℕ → Result (Held × SavedFields) Status → Type 0
IsResumed slot0 slot1 number id points rules (Ok made) =
    ReadsSlots slot0 slot1 number id points rules (Ok made.1) × (made.1.found ≡ 1)
    × ((terms : Terms) × (terms_numbered points rules ≡ Some terms)
    × IsOpened slot0 slot1 number id terms (Ok made.0))
IsResumed slot0 slot1 number id points rules (Err why) =
    ReadsSlots slot0 slot1 number id points rules (Err why)
    ⊎ ((why ≡ status.NothingSaved)
    × ((fields : SavedFields) × ReadsSlots slot0 slot1 number id points rules (Ok fields) × (fields.found ≡ 0)))
    ⊎ ((terms : Terms) × (terms_numbered points rules ≡ Some terms)
    × IsOpened slot0 slot1 number id terms (Err why))

-- what a call to go on answers, what the handle holds afterwards, and what is told
abbrev pub ResumesHandle : Result (Held × SavedFields) Status → Kept × SavedFields → ℕ → Kept × SavedFields → Type 0
ResumesHandle (Ok made) old code new =
    ((code ≡ status_code status.Ok) × (new ≡ (Some made.0, made.1)))
    ⊎ ((code ≡ status_code status.Memory) × (new ≡ old))
ResumesHandle (Err why) old code new = (code ≡ status_code why) × (new ≡ old)

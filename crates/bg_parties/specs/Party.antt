-- A party with its role, the save that is under way, and how it begins.
use Rattle.std.specs.Prelude.{◌≡◌, ℕ, zero, suc, ◌<◌, List, Option, Some, None, Result, Ok, Err}
use Rattle.bg_match.specs.Limits.{IsMatchLength}
use Rattle.bg_match.specs.Terms.{Terms, match_length}
use Rattle.bg_wire.specs.Entries.Codes.{first_watcher}
use Rattle.bg_wire.specs.Saved.Restoring.{Restores}
use Rattle.bg_wire.specs.declared.saves.Saved.{Saved}
use Rattle.bg_referee.specs.Referee.{fresh_referee, resumed_referee}
use Rattle.bg_party.specs.Views.{fresh_seat, fresh_watcher, player_of, resumed_seat}
use Rattle.bg_parties.specs.declared.cores.Core.{Core}
use Rattle.bg_parties.specs.declared.cores.Core.TheVariants as core
use Rattle.bg_parties.specs.declared.faults.OpenFault.{OpenFault}
use Rattle.bg_parties.specs.declared.faults.OpenFault.TheVariants.{LengthOutOfRange, Restore}

-- the number of the next save; 0 of a watcher, who saves nothing
abbrev pub next_save_of : Core → ℕ
next_save_of (core.Referee r) = r.next_save
next_save_of (core.Seat s) = s.next_save
next_save_of (core.Watcher w) = 0

-- the save that is under way is the next one
abbrev pub IsUnderWay : Core → Option ℕ → Type 0
IsUnderWay party under_way = (save : ℕ) → under_way ≡ Some save → save ≡ next_save_of party

-- party 0 goes on as the referee, with what was restored, and is fresh where nothing was
abbrev pub begun_referee : ℕ → Terms → Option Saved → Core
begun_referee id terms None = core.Referee (fresh_referee id terms)
begun_referee id terms (Some saved) = core.Referee (resumed_referee saved)

-- parties 1 and 2 as the seats of X and O
abbrev pub begun_seat : ℕ → ℕ → Terms → Option Saved → Core
begun_seat party id terms None = core.Seat (fresh_seat (player_of party) id terms)
begun_seat party id terms (Some saved) = core.Seat (resumed_seat saved)

-- party 0 is the referee, 1 and 2 are the seats of X and O, and the others watch
abbrev pub MatchRole : ℕ → Type 0 → Type 0 → Type 0 → Type 0
MatchRole zero Referee Seat Watcher = Referee
MatchRole (suc zero) Referee Seat Watcher = Seat
MatchRole (suc (suc zero)) Referee Seat Watcher = Seat
MatchRole (suc (suc (suc index))) Referee Seat Watcher = Watcher

-- what the slots restore decides how a referee or a seat begins; a watcher is fresh whatever they
-- have
abbrev pub Begins : List ℕ → List ℕ → ℕ → ℕ → Terms → Core → Type 0
Begins slot0 slot1 number id terms party =
    MatchRole number
    ((found : Option Saved) × Restores slot0 slot1 number id terms (Ok found)
    × (party ≡ begun_referee id terms found))
    ((found : Option Saved) × Restores slot0 slot1 number id terms (Ok found)
    × (party ≡ begun_seat number id terms found))
    (party ≡ core.Watcher (fresh_watcher number id terms))

-- why it is not opened: the length is looked at first, and the slots of the referee and of seats
-- alone
abbrev pub IsOpenFault : OpenFault → List ℕ → List ℕ → ℕ → ℕ → Terms → Type 0
IsOpenFault LengthOutOfRange slot0 slot1 number id terms = IsMatchLength (match_length terms) → ⊥
IsOpenFault (Restore why) slot0 slot1 number id terms =
    IsMatchLength (match_length terms) × (number < first_watcher)
    × Restores slot0 slot1 number id terms (Err why)

-- how a party is opened: it begins in a match of a length that there is, or this is why it does not
abbrev pub Opens : List ℕ → List ℕ → ℕ → ℕ → Terms → Result Core OpenFault → Type 0
Opens slot0 slot1 number id terms (Ok party) =
    IsMatchLength (match_length terms) × Begins slot0 slot1 number id terms party
Opens slot0 slot1 number id terms (Err why) = IsOpenFault why slot0 slot1 number id terms

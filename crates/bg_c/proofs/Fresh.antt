-- Empty slots restore nothing, so a party over them begins afresh.
use Rattle.std.proofs.Common.{◌≡◌, ℕ, zero, suc, [], refl}
use Rattle.std.specs.Prelude.{Option, Some, None, Result, Ok, Err}
use Rattle.bg_match.specs.Terms.{Terms}
use Rattle.bg_wire.specs.Saved.Restoring.{Restores, SlotsRestore}
use Rattle.bg_wire.specs.Saved.SavedText.{SavedParts, parts_of}
use Rattle.bg_wire.specs.declared.saves.Saved.{Saved}
use Rattle.bg_wire.proofs.OfSaves.OneText.{empty_loads, restores_once}
use Rattle.bg_parties.specs.Party.{Begins}
use Rattle.bg_parties.specs.declared.cores.Core.{Core}
use Rattle.bg_c.specs.Handle.{Held}
use Rattle.bg_c.specs.Openings.{IsFresh, IsOpened, fresh_core}
use Rattle.bg_c.specs.declared.statuses.Status.{Status}

nothing : (restored : Option SavedParts) → SlotsRestore [] [] restored → restored ≡ None
nothing restored is =
    let none : SlotsRestore [] [] None =
    record { first = None; second = None; first_loads = empty_loads; second_loads = empty_loads; is_newer = refl } in
    restores_once [] [] restored None is none

begun : (number id : ℕ) (terms : Terms) (found : Option Saved) → Restores [] [] number id terms (Ok found) → found ≡ None
begun number id terms None is = refl
begun number id terms (Some saved) is = absurd (cc (nothing (Some (parts_of saved)) is.0))

fresh : (number id : ℕ) (terms : Terms) (party : Core) → Begins [] [] number id terms party
    → party ≡ fresh_core number id terms
fresh zero id terms party is =
    let none : is.0 ≡ None = begun 0 id terms is.0 is.1 in rw none at is.2
fresh (suc zero) id terms party is =
    let none : is.0 ≡ None = begun 1 id terms is.0 is.1 in rw none at is.2
fresh (suc (suc zero)) id terms party is =
    let none : is.0 ≡ None = begun 2 id terms is.0 is.1 in rw none at is.2
fresh (suc (suc (suc index))) id terms party is = is

pub is_fresh : (number id : ℕ) (terms : Terms) (made : Result Held Status) → IsOpened [] [] number id terms made
    → IsFresh number id terms made
is_fresh number id terms (Ok party) is = (fresh number id terms party.core is.0.1, is.1)
is_fresh number id terms (Err why) is = is

-- Entries that follow, one after the other.
use Rattle.std.proofs.Common.{◌≡◌, ℕ, ◌+◌, ◌<◌, ◌≤◌, Result, Ok, Err, List, ◌++◌, length, take, get_or, refl, subst}
use Rattle.std.proofs.Common.{arith, length-append}
use Rattle.std.specs.Prelude.{IsOk, IfErr}
use Rattle.bg_match.specs.Limits.{most_entries}
use Rattle.bg_match.specs.Terms.{Terms}
use Rattle.bg_match.specs.declared.entries.Entry.{Entry}
use Rattle.bg_match.specs.declared.entries.ExtendFault.{ExtendFault}
use Rattle.bg_match.specs.declared.entries.ExtendFault.TheVariants as fault
use Rattle.bg_match.specs.Follows.{CanFollow}
use Rattle.bg_match.specs.Match.{Log, IsLegalRecord, IsExtendFault, StandsAt}
use Rattle.bg_match.specs.State.{State}
use Rattle.bg_match.proofs.Extending.{more, not_legal}
use Rattle.bg_match.proofs.Runs.{legal_follow}
use Rattle.bg_party.specs.Learns.{FollowsFor}

-- where there is room, entries that follow are appended
pub appended : {A : Type 0} (r : Result A ExtendFault) (log : Log) (list : List Entry)
    → IfErr r (λ why. IsExtendFault why log list) → length list ≤ log.spare
    → IsLegalRecord log.terms (log.entries ++ list) → IsOk r
appended (Ok x) log list why room legal = refl
appended (Err (fault.Illegal n)) log list why room legal = absurd (not_legal log.terms n (log.entries ++ list) why legal)
appended (Err fault.Memory) log list why room legal = absurd (omega (arith, why.0))

-- an entry that does not follow ends those that do
pub follows_for : (terms : Terms) (entries list : List Entry) (i : ℕ) (x : Entry) (s : State) → i < length list
    → x ≡ get_or list i x
    → length entries + length list ≤ most_entries → length (take i list) ≡ i
    → StandsAt terms (entries ++ take i list) s → (CanFollow s x → ⊥) → FollowsFor terms entries list i
follows_for terms entries list i x s within is few taken at stuck =
    let front = entries ++ take i list in
    let size = length-append entries (take i list) in
    let room : length front < most_entries = omega arith in
    record {
      within = omega arith;
      legal = (omega arith, (s, at));
      no_more =
          λ more_left legal. stuck
          ((legal_follow terms front x s at room).0
          (subst (IsLegalRecord terms) (more entries list i x within is) legal));
    }

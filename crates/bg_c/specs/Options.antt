-- What the player who acts may claim.
use Rattle.std.specs.Prelude.{◌≡◌, ◌↔◌, ◌+◌, ℕ, Bool, IsTrue, ◌&&◌, nat_lt, is_some, length, if◌then◌else◌}
use Rattle.bg_match.specs.Limits.{most_entries}
use Rattle.bg_match.specs.Match.{IsNext, Log}
use Rattle.bg_match.specs.State.{State}
use Rattle.bg_match.specs.declared.entries.Entry.TheVariants as entry
use Rattle.bg_match.specs.declared.levels.Level.TheVariants.{Normal}
use Rattle.bg_party.specs.Claims.{trial_dice}
use Rattle.bg_c.specs.Turns.{mover_of}
use Rattle.bg_c.specs.declared.parties.options.Options.{Options}

-- what follows the record, whose entries lead to s: whether a roll does not depend on its dice, nor
-- an offer on its level. A player who is to move has a legal turn
pub record HasOptions (log : Log) (s : State) (all : Options) : Type 0 where
  pub roll : IsTrue all.roll ↔ IsNext log.terms log.entries (entry.Rolled trial_dice)
  pub double : IsTrue all.double ↔ IsNext log.terms log.entries entry.Doubled
  pub take : IsTrue all.take ↔ IsNext log.terms log.entries entry.Taken
  pub drop : IsTrue all.drop ↔ IsNext log.terms log.entries entry.Dropped
  pub turn : all.turn ≡ (is_some (mover_of s) && nat_lt (length log.entries) most_entries)
  pub resign : IsTrue all.resign ↔ IsNext log.terms log.entries (entry.Resigned Normal)
  pub accept : IsTrue all.accept ↔ IsNext log.terms log.entries entry.Accepted
  pub reject : IsTrue all.reject ↔ IsNext log.terms log.entries entry.Rejected

-- the bit of an option, where it is given
abbrev pub bit_of : Bool → ℕ → ℕ
bit_of given bit = if given then bit else 0

abbrev pub options_code : Options → ℕ
options_code all =
    bit_of all.roll 1 + bit_of all.double 2 + bit_of all.take 4 + bit_of all.drop 8
    + bit_of all.turn 16 + bit_of all.resign 32 + bit_of all.accept 64 + bit_of all.reject 128

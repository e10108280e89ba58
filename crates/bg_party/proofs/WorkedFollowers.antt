-- Worked windows and gaps, by the definitions alone.
use Rattle.std.proofs.Common.{◌≡◌, ℕ, zero, suc, true, false, Bool, Some, None, List, [], ◌∷◌, refl}
use Rattle.bg_board.specs.declared.dice.Die.TheVariants.{One, Three}
use Rattle.bg_match.specs.declared.entries.Entry.{Entry}
use Rattle.bg_match.specs.declared.entries.Entry.TheVariants as entry
use Rattle.bg_match.specs.declared.levels.Level.TheVariants.{Normal}
use Rattle.bg_match.specs.declared.limits.Rules.TheVariants as rules
use Rattle.bg_match.specs.Terms.{Terms, terms_of}
use Rattle.bg_party.specs.Learns.{coming}
use Rattle.bg_party.specs.Retry.{RetryView, after_tick, at_once, is_due}
use Rattle.bg_party.specs.Takes.{grown_with}
use Rattle.bg_party.specs.Views.{FollowerView, IsEarly, fresh_follower}
use Rattle.bg_party.specs.Window.{unbroken}

-- ---- gaps

-- on which of so many ticks it sends
sendings : ℕ → RetryView → List Bool
sendings zero r = []
sendings (suc n) r = is_due r ∷ sendings n (after_tick r)

-- on the ticks 1, 2, 4, 8 and 16 of the first sixteen
first_sixteen : sendings 16 at_once ≡
    true ∷ true ∷ false ∷ true ∷ false ∷ false ∷ false ∷ true
    ∷ false ∷ false ∷ false ∷ false ∷ false ∷ false ∷ false ∷ true ∷ []
unfolding sendings
first_sixteen = refl

-- the gap of 32 stays
longest : after_tick (record { wait = 0; gap = 32 }) ≡ record { wait = 31; gap = 32 }
longest = refl

-- ---- windows: the opening 3 1, an offer of a normal game and its rejection

abbrev opening : Entry
opening = entry.Opening Three One

abbrev offer : Entry
offer = entry.Resigned Normal

abbrev rejection : Entry
rejection = entry.Rejected

-- up to the first that is missing
up_to_a_hole : unbroken (Some offer ∷ Some rejection ∷ None ∷ Some offer ∷ []) ≡ offer ∷ rejection ∷ []
up_to_a_hole = refl

-- a match to one point, by the first rules
abbrev one_point : Terms
one_point = terms_of 1 rules.One

-- a follower that holds nothing, and keeps entries 2 and 3
abbrev early : FollowerView
early = record (fresh_follower 1 one_point) { early = None ∷ Some offer ∷ Some rejection ∷ [] }

third_is_kept : IsEarly early 3 rejection
third_is_kept = (2, refl, refl)

-- entry 1 comes, and the two behind it
three_come : coming early 1 (opening ∷ []) ≡ opening ∷ offer ∷ rejection ∷ []
three_come = refl

-- all three are held then, and nothing is kept
three_are_held : grown_with early (coming early 1 (opening ∷ [])) 3 0 ≡
    record {
      log = record { id = 1; terms = one_point; entries = opening ∷ offer ∷ rejection ∷ []; spare = 0 };
      early =
          [];
      retry = at_once;
    }
three_are_held = refl

-- where only the opening follows, the two are dropped
two_are_dropped : grown_with early (coming early 1 (opening ∷ [])) 1 0 ≡
    record { log = record { id = 1; terms = one_point; entries = opening ∷ []; spare = 0 }; early = []; retry = at_once }
two_are_dropped = refl

-- behind a hole an entry stays: entry 4 is kept, and entries 1 and 2 come
abbrev far : FollowerView
far = record (fresh_follower 1 one_point) { early = None ∷ None ∷ None ∷ Some offer ∷ [] }

fourth_stays : grown_with far (coming far 1 (opening ∷ offer ∷ [])) 2 0 ≡
    record {
      log = record { id = 1; terms = one_point; entries = opening ∷ offer ∷ []; spare = 0 };
      early =
          None ∷ Some offer ∷ [];
      retry = at_once;
    }
fourth_stays = refl

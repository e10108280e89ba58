-- The numbers by which a host names a match.
use Rattle.std.specs.Prelude.{◌==◌, ℕ, Option, Some, None, option_map, nat_le, if◌then◌else◌}
use Rattle.bg_match.specs.Limits.{longest_match, shortest_match}
use Rattle.bg_match.specs.Terms.{Terms, terms_of}
use Rattle.bg_match.specs.declared.limits.Rules.{Rules}
use Rattle.bg_match.specs.declared.limits.Rules.TheVariants.{One, Two}
use Rattle.bg_wire.specs.Entries.Codes.{rules_one, rules_two}

-- the rules of a number, where there are such
abbrev pub rules_numbered : ℕ → Option Rules
rules_numbered number =
    if number == rules_one then Some One else if number == rules_two then Some Two else None

-- the terms of a match to so many points by the rules of a number, where there are such
abbrev pub terms_numbered : ℕ → ℕ → Option Terms
terms_numbered points rules =
    if nat_le shortest_match points
    then (if nat_le points longest_match then option_map (terms_of points) (rules_numbered rules) else None)
    else None

-- Reading the rules of a match, as the code does it: words of private contracts, of which no public
-- clause speaks.
use Rattle.std.specs.Prelude.{◌==◌, ℕ, if◌then◌else◌}
use Rattle.bg_match.specs.declared.limits.Rules.{Rules}
use Rattle.bg_match.specs.declared.limits.Rules.TheVariants.{One, Two}
use Rattle.bg_wire.specs.Entries.Codes.{rules_one, rules_two}
use Rattle.bg_wire.specs.Entries.Reading.{Cursor, Read, u8_at, with}

abbrev pub rules_of_code : ℕ → Rules
rules_of_code code = if code == rules_one then One else Two

unfoldable pub rules_at : Cursor → Read Rules
rules_at c = with rules_of_code (u8_at rules_one rules_two c)

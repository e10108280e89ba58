-- What is written of the length and the rules of a match.
use Rattle.std.specs.Prelude.{ℕ, List, [], ◌++◌, codes}
use Rattle.std.specs.Fmt.{decimal}
use Rattle.bg_match.specs.Terms.{Terms, match_length, rules_of}
use Rattle.bg_match.specs.declared.limits.Rules.{Rules}
use Rattle.bg_match.specs.declared.limits.Rules.TheVariants.{One, Two}

-- the first rules are not named
abbrev pub rules_mark : Rules → List ℕ
rules_mark One = []
rules_mark Two = codes " rules 2"

abbrev pub terms_text : Terms → List ℕ
terms_text terms = codes "length " ++ decimal (match_length terms) ++ rules_mark (rules_of terms)

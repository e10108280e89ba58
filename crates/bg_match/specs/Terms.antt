-- What the players agree on before a match.
use Rattle.std.specs.Prelude.{ℕ}
use Rattle.bg_match.specs.declared.limits.Rules.{Rules}
use Rattle.bg_match.specs.declared.limits.Terms.{Terms as DeclaredTerms}

-- its length, and its rules
abbrev pub Terms : Type 0
Terms = DeclaredTerms

abbrev pub terms_of : ℕ → Rules → Terms
terms_of length rules = record { length = length; rules = rules }

-- how many points the match is played to
abbrev pub match_length : Terms → ℕ
match_length terms = terms.length

-- by which rules it is played
abbrev pub rules_of : Terms → Rules
rules_of terms = terms.rules

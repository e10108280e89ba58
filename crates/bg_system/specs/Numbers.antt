-- Numbers in texts.
use Rattle.std.specs.Prelude.{◌≡◌, ℕ, List, ◌∷◌, ◌++◌}
use Rattle.std.specs.Fmt.{decimal}
use Rattle.bg_match.specs.declared.limits.Rules.{Rules}
use Rattle.bg_match.specs.declared.limits.Rules.TheVariants.{One, Two}

-- a text begins with a word, a number and a mark, and this is the rest
abbrev pub BeginsWith : List ℕ → List ℕ → ℕ → ℕ → List ℕ → Type 0
BeginsWith text word n mark rest = text ≡ word ++ (decimal n ++ mark ∷ rest)

-- the number by which rules are named
abbrev pub rules_number : Rules → ℕ
rules_number One = 1
rules_number Two = 2

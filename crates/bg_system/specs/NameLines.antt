-- The lines that say how the players of a match are called.
use Rattle.std.specs.Prelude.{ℕ, ◌≢◌, List, [], ◌++◌, Option, Some, None, IfSome, codes}
use Rattle.bg_system.specs.Names.{IsName}
use Rattle.bg_system.specs.declared.files.name_lines.Names.{Names}

-- the names that players have
abbrev pub IsNames : Names → Type 0
IsNames names = IfSome names.x IsName × IfSome names.o IsName

-- the line that says a name behind a word; nothing where there is no name
abbrev pub name_line : List ℕ → Option (List ℕ) → List ℕ
name_line word None = []
name_line word (Some name) = word ++ name ++ codes "\n"

-- the lines of both names
abbrev pub names_text : Names → List ℕ
names_text names = name_line (codes "name-x ") names.x ++ name_line (codes "name-o ") names.o

-- a text does not begin with a word
abbrev pub LacksWord : List ℕ → List ℕ → Type 0
LacksWord word text = (rest : List ℕ) → text ≢ word ++ rest

-- what stands behind names begins with no line of one
abbrev pub IsPastNames : List ℕ → Type 0
IsPastNames text = LacksWord (codes "name-") text

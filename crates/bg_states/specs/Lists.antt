-- Lists of JSON.
use Rattle.std.specs.Prelude.{ℕ, Bool, true, false, List, [], ◌∷◌, ◌++◌, codes}
use Rattle.std.specs.Fmt.{decimal}

-- what stands before an item: a comma, but before the first
abbrev pub comma_text : Bool → List ℕ
comma_text true = []
comma_text false = codes ","

-- numbers with commas between them; whether the first of them is that of the list
abbrev pub some_text : Bool → List ℕ → List ℕ
some_text first [] = []
some_text first (number ∷ numbers) = comma_text first ++ decimal number ++ some_text false numbers

-- as in "[6,5]"
abbrev pub numbers_text : List ℕ → List ℕ
numbers_text numbers = codes "[" ++ some_text true numbers ++ codes "]"

-- What an order of a match may say.
use Rattle.std.specs.Prelude.{◌≡◌, ◌⊎◌, ℕ, List, codes}

-- the key is that of the length, the rules, or the name of a player
abbrev pub IsKeyOfOrder : List ℕ → Type 0
IsKeyOfOrder key =
    (key ≡ codes "length") ⊎ (key ≡ codes "rules") ⊎ (key ≡ codes "x") ⊎ (key ≡ codes "o")

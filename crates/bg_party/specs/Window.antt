-- Early entries, which are kept until those before them come. They are a list of places: the first
-- is that of the number behind the last one of the record, the next that of the number after it,
-- and so on.
use Rattle.std.specs.Prelude.{◌≡◌, ℕ, ◌+◌, ◌<◌, ◌≤◌, Option, Some, None, List, [], ◌∷◌, length, drop}
use Rattle.std.specs.Prelude.{slice_get, slice_index_or}
use Rattle.bg_match.specs.declared.entries.Entry.{Entry}

-- there are at most so many places
abbrev pub window_size : ℕ
window_size = 32

-- the entry that is kept at a place, if one is
abbrev pub at_place : List (Option Entry) → ℕ → Option Entry
at_place early i = slice_index_or early i None

-- the entries at the first places, up to the first place that has none
abbrev pub unbroken : List (Option Entry) → List Entry
unbroken [] = []
unbroken (None ∷ rest) = []
unbroken (Some e ∷ rest) = e ∷ unbroken rest

-- the entries that are kept right behind the first places, so many, up to the first place that has
-- none
abbrev pub early_behind : List (Option Entry) → ℕ → List Entry
early_behind early count = unbroken (drop count early)

-- the list is kept from this place on, as far as there are places: each of its entries at its own
-- place, in place of what was kept there. At all other places stays what was kept
pub record KeepsFrom (old : List (Option Entry)) (place : ℕ) (list : List Entry) (new : List (Option Entry))
    : Type 0 where
  pub told : (i : ℕ) (e : Entry) → slice_get list i ≡ Some e → place + i < window_size
      → at_place new (place + i) ≡ Some e
  pub before : (i : ℕ) → i < place → at_place new i ≡ at_place old i
  pub behind : (i : ℕ) → place + length list ≤ i → at_place new i ≡ at_place old i

-- A match file has one reading.
use Rattle.std.specs.Prelude.{◌≡◌, ℕ, List, [], ◌∷◌}
use Rattle.bg_match.specs.declared.entries.Entry.{Entry}
use Rattle.bg_mat.specs.Files.{TellsFile, TellsLine, numbered}
use Rattle.bg_mat.specs.Telling.{AreTold, Item, Place, Scores, Told}
use Rattle.bg_mat.specs.declared.awaiting.Awaited.{Awaited}

-- the same items, or both are scores
abbrev pub IsAlike : Item → Item → Type 0
IsAlike (Scores x o) (Scores y u) = Unit {0}
IsAlike a b = a ≡ b

-- one by one the same lines tell the same, whatever the scores
abbrev pub AreAlike : List Told → List Told → Type 0
AreAlike [] [] = Unit {0}
AreAlike (a ∷ told) (b ∷ more) = (a.line ≡ b.line) × IsAlike a.item b.item × AreAlike told more
AreAlike _ _ = ⊥

-- the lines of a file tell one length, and one after the other the same, whatever the scores, and
-- one thing may follow
abbrev pub FilesReadOnce : Type 0
FilesReadOnce =
    (n : ℕ) (lines : List (List ℕ)) (points others : ℕ) (told more : List Told) (there then : Awaited)
    → TellsFile n lines points told there → TellsFile n lines others more then
    → (points ≡ others) × AreAlike told more × (there ≡ then)

-- a line tells one thing at a place of a match, and one thing may follow it: the scores are those
-- of the place
abbrev pub LinesReadOnce : Type 0
LinesReadOnce =
    (here : Awaited) (line : List ℕ) (n : ℕ) (place : Place) (items others : List Item) (next after : Awaited)
    (entries more : List Entry) (numbers beside : List ℕ) (there then : Place)
    → TellsLine here line items next → AreTold place (numbered n items) entries numbers there
    → TellsLine here line others after → AreTold place (numbered n others) more beside then
    → (items ≡ others) × (next ≡ after)

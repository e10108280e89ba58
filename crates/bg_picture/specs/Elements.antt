-- The elements of a picture, and their text.
use Rattle.std.specs.Prelude.{ℕ, List, ◌++◌, codes}
use Rattle.std.specs.Fmt.{decimal}

-- a shape of Shapes.antt with its origin at a place, or words around a place on their base line.
-- Places are in units of the picture: x to the right, y down
pub data Element : Type 0 where
  Shape : (name : List ℕ) → (x : ℕ) → (y : ℕ) → Element
  Words : (x : ℕ) → (y : ℕ) → (words : List ℕ) → Element

unfoldable pub place_text : ℕ → ℕ → List ℕ
place_text x y = codes " x='" ++ decimal x ++ codes "' y='" ++ decimal y ++ codes "'"

unfoldable pub words_start : ℕ → ℕ → List ℕ
words_start x y = codes "<text" ++ place_text x y ++ codes ">"

unfoldable pub words_end : List ℕ
words_end = codes "</text>"

unfoldable pub element_text : Element → List ℕ
element_text (Shape name x y) = codes "<use href='#" ++ name ++ codes "'" ++ place_text x y ++ codes "/>"
element_text (Words x y words) = words_start x y ++ words ++ words_end

-- what is drawn in one class of the style stands between these two
unfoldable pub group_start : List ℕ → List ℕ
group_start class = codes "<g class='" ++ class ++ codes "'>"

unfoldable pub group_end : List ℕ
group_end = codes "</g>"

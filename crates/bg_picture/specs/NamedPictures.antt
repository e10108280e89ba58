-- The picture of a standing with words below it: who plays, and on what occasion.
use Rattle.std.specs.Prelude.{◌==◌, ℕ, List, [], ◌++◌, length, codes, if◌then◌else◌}
use Rattle.bg_board.specs.declared.players.Player.{Player}
use Rattle.bg_match.specs.State.{State}
use Rattle.bg_picture.specs.Elements.{group_start, group_end, words_start, words_end}
use Rattle.bg_picture.specs.Escapes.{escaped}
use Rattle.bg_picture.specs.Pictures.{drawing, shapes_text, style_text, titles_text}

-- what comes from outside: the names of X and of O, and the occasion
pub record Labels : Type 0 where
  pub x : List ℕ
  pub o : List ℕ
  pub occasion : List ℕ

-- the edges, with room for three lines below
unfoldable pub labelled_frame : List ℕ
labelled_frame = codes " viewBox='-8 0 616 644' role='img'>"

unfoldable pub labelled_start : State → Player → List ℕ
labelled_start s reader = codes "<svg xmlns='http://www.w3.org/2000/svg'" ++ labelled_frame ++ titles_text s reader

-- a line on its base line, as in "X: Anna"
unfoldable pub label_line : ℕ → List ℕ → List ℕ → List ℕ
label_line y front text = words_start 0 y ++ front ++ escaped text ++ words_end

-- and nothing where there is no such text
unfoldable pub label_text : ℕ → List ℕ → List ℕ → List ℕ
label_text y front text = if length text == 0 then [] else label_line y front text

unfoldable pub labels_text : Labels → List ℕ
labels_text labels =
    group_start (codes "left") ++ label_text 580 (codes "X: ") labels.x ++ label_text 606 (codes "O: ") labels.o
    ++ label_text 632 [] labels.occasion ++ group_end

-- an SVG file of a standing, with these words below
unfoldable pub labelled_picture : State → Player → Labels → List ℕ
labelled_picture s reader labels =
    labelled_start s reader ++ style_text ++ shapes_text reader ++ drawing s reader ++ labels_text labels
    ++ codes "</svg>\n"

-- The picture of a standing.
use Rattle.std.specs.Prelude.{ℕ, List, ◌++◌, codes}
use Rattle.std.specs.Fmt.{decimal}
use Rattle.bg_board.specs.declared.players.Player.{Player}
use Rattle.bg_board.specs.declared.players.Player.TheVariants.{X, O}
use Rattle.bg_match.specs.Actor.{passes}
use Rattle.bg_match.specs.State.{State}
use Rattle.bg_picture.specs.Descriptions.{description, game_words, phase_words}
use Rattle.bg_picture.specs.Elements.{element_text, group_start, group_end}
use Rattle.bg_picture.specs.Elements.Element.{Shape, Words}
use Rattle.bg_picture.specs.Shapes.{style, shapes}
use Rattle.bg_picture.specs.Stacks.{checkers_text, numbers_name, numbers_text}
use Rattle.bg_picture.specs.Tables.{cube_text, table_text}

-- the empty board, with the numbers of a player
unfoldable pub board_text : Player → List ℕ
board_text reader =
    element_text (Shape (codes "board") 0 0) ++ element_text (Shape (numbers_name reader) 0 0)

-- the board with the checkers and the cube
unfoldable pub position_text : State → Player → List ℕ
position_text s reader =
    board_text reader ++ checkers_text s.board X ++ checkers_text s.board O ++ cube_text s.phase s.cube

-- above, the length and the game
unfoldable pub game_caption : State → List ℕ
game_caption s = element_text (Words 0 25 (game_words s))

-- below, what is to happen next
unfoldable pub lower_caption : State → List ℕ
lower_caption s = element_text (Words 0 549 (phase_words s))

unfoldable pub captions_text : State → List ℕ
captions_text s = group_start (codes "left") ++ game_caption s ++ lower_caption s ++ group_end

-- a player's score, on a base line
unfoldable pub score_text : ℕ → List ℕ → ℕ → List ℕ
score_text y player score = element_text (Words 564 y (player ++ decimal score))

-- the scores, each on its player's side
unfoldable pub scores_text : State → List ℕ
scores_text s =
    group_start (codes "right") ++ score_text 25 (codes "O ") s.o_score ++ score_text 549 (codes "X ") s.x_score
    ++ group_end

-- what is drawn of a standing, with the numbers of a player
unfoldable pub drawing : State → Player → List ℕ
drawing s reader = position_text s reader ++ table_text s.phase (passes s) ++ captions_text s ++ scores_text s

-- the caption below is the title, which is told first
unfoldable pub titles_text : State → Player → List ℕ
titles_text s reader =
    codes "<title>" ++ phase_words s ++ codes "</title><desc>" ++ description s reader ++ codes "</desc>"

-- the edges of a picture, and that it is read aloud by its title and description
unfoldable pub frame : List ℕ
frame = codes " viewBox='-8 0 616 560' role='img'>"

-- the style of a picture, and the shapes that its drawing uses
unfoldable pub style_text : List ℕ
style_text = codes "<style>\n" ++ style ++ codes "</style>\n"

unfoldable pub shapes_text : Player → List ℕ
shapes_text reader = codes "<defs>\n" ++ shapes ++ numbers_text reader ++ codes "</defs>\n"

-- the beginning of a picture, with its title and description
unfoldable pub picture_start : State → Player → List ℕ
picture_start s reader = codes "<svg xmlns='http://www.w3.org/2000/svg'" ++ frame ++ titles_text s reader

-- an SVG file of a standing, whose points have the numbers of a player
unfoldable pub picture_text : State → Player → List ℕ
picture_text s reader =
    picture_start s reader ++ style_text ++ shapes_text reader ++ drawing s reader ++ codes "</svg>\n"

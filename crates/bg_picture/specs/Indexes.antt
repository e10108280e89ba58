-- The index of many matches: their boards, small, and each leads to the page of its match.
use Rattle.std.specs.Prelude.{ℕ, List, ◌++◌, codes}
use Rattle.std.specs.Fmt.{decimal}
use Rattle.bg_match.specs.State.{State}
use Rattle.bg_match.specs.Terms.{match_length}
use Rattle.bg_picture.specs.Descriptions.{phase_words}
use Rattle.bg_picture.specs.Escapes.{escaped}
use Rattle.bg_picture.specs.IndexParts.{index_script, index_style}
use Rattle.bg_picture.specs.PageParts.{head_start, live_script}
use Rattle.bg_picture.specs.Pages.{heading_text, live_part, refresh_text, title_text}
use Rattle.bg_picture.specs.Shapes.{style}

unfoldable pub index_styles : List ℕ
index_styles = codes "<style>\n" ++ style ++ index_style ++ codes "</style>\n</head>\n"

unfoldable pub index_head : List ℕ → ℕ → List ℕ
index_head title seconds = head_start ++ refresh_text seconds ++ title_text title ++ index_styles

unfoldable pub index_body : ℕ → List ℕ
index_body seconds = codes "<body" ++ live_part seconds ++ codes ">\n"

-- all that stands before the matches
unfoldable pub index_start : List ℕ → ℕ → List ℕ
index_start title seconds =
    index_head title seconds ++ index_body seconds ++ heading_text title
    ++ codes "<p id='age'></p>\n<div id='matches'>\n"

-- some of the matches, under these words
unfoldable pub section_start : List ℕ → List ℕ
section_start words = codes "<h2>" ++ escaped words ++ codes "</h2>\n<ul>\n"

unfoldable pub section_end : List ℕ
section_end = codes "</ul>\n"

-- a link to the page of a match
unfoldable pub link_text : List ℕ → List ℕ
link_text file = codes "<li><a href='" ++ escaped file ++ codes ".html'>"

-- its picture, asked for anew where there is an entry more
unfoldable pub image_text : List ℕ → ℕ → List ℕ
image_text file entries = codes "<img src='" ++ escaped file ++ codes ".svg?" ++ decimal entries ++ codes "' alt=''>\n"

-- the score, as in "3-1", in which no line ends
unfoldable pub unbroken_score : State → List ℕ
unbroken_score s = codes "<span>" ++ decimal s.x_score ++ codes "-" ++ decimal s.o_score ++ codes "</span>"

-- the score and the length, as in "3-1 of 7"
unfoldable pub points_text : State → List ℕ
points_text s = unbroken_score s ++ codes " of " ++ decimal (match_length s.terms)

unfoldable pub match_title : List ℕ → List ℕ
match_title title = codes "<b><bdi>" ++ escaped title ++ codes "</bdi></b> "

-- the words below it
unfoldable pub match_words : List ℕ → State → List ℕ
match_words title s = match_title title ++ points_text s ++ codes ", " ++ phase_words s

-- a match of so many entries that stands at s, by the name of its files and its title
unfoldable pub match_item : List ℕ → List ℕ → ℕ → State → List ℕ
match_item file title entries s = link_text file ++ image_text file entries ++ match_words title s ++ codes "</a></li>\n"

unfoldable pub index_end : List ℕ
index_end = codes "</div>\n<script>\n" ++ index_script ++ live_script ++ codes "</script>\n</body>\n</html>\n"

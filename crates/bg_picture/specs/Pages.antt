-- The page of a match.
use Rattle.std.specs.Prelude.{◌≡◌, ◌==◌, ℕ, List, [], ◌++◌, length, codes, if◌then◌else◌}
use Rattle.std.specs.Fmt.{decimal}
use Rattle.bg_board.specs.declared.players.Player.{Player}
use Rattle.bg_board.specs.declared.players.Player.TheVariants.{X, O}
use Rattle.bg_match.specs.Match.{Log}
use Rattle.bg_match.specs.State.{State, start_of}
use Rattle.bg_match.specs.Terms.{Terms}
use Rattle.bg_match.specs.declared.entries.Entry.{Entry}
use Rattle.bg_picture.specs.Descriptions.{phase_words, terms_words}
use Rattle.bg_picture.specs.Escapes.{escaped}
use Rattle.bg_picture.specs.Items.{AreItemsOf, game_start}
use Rattle.bg_picture.specs.PageIds.{id_script}
use Rattle.bg_picture.specs.PageParts.{head_start, live_script, page_style, script, view}
use Rattle.bg_picture.specs.Shapes.{style, shapes}
use Rattle.bg_text.specs.Entries.EntryText.{letter}
use Rattle.bg_picture.specs.Numberings.{reader_of}
use Rattle.bg_picture.specs.Pictures.{drawing, frame, titles_text}
use Rattle.bg_picture.specs.Stacks.{numbers_text}
use Rattle.bg_picture.specs.declared.numberings.Numbering.{Numbering}
use Rattle.bg_picture.specs.declared.numberings.Numbering.TheVariants as numbered

-- after so many seconds a browser without scripts shows the page anew; 0 is never
unfoldable pub refresh_text : ℕ → List ℕ
refresh_text seconds =
    if seconds == 0 then []
    else codes "<noscript><meta http-equiv='refresh' content='" ++ decimal seconds ++ codes "'></noscript>\n"

-- and one with scripts asks for a newer one
unfoldable pub seconds_part : ℕ → List ℕ
seconds_part seconds = codes " data-seconds='" ++ decimal seconds ++ codes "'"

unfoldable pub live_part : ℕ → List ℕ
live_part seconds = if seconds == 0 then [] else seconds_part seconds

abbrev pub numbering_word : Numbering → List ℕ
numbering_word numbered.X = codes "X"
numbering_word numbered.Mover = codes "mover"

unfoldable pub body_text : Numbering → ℕ → List ℕ
body_text numbering seconds =
    codes "<body data-numbering='" ++ numbering_word numbering ++ codes "'" ++ live_part seconds ++ codes ">\n"

unfoldable pub title_text : List ℕ → List ℕ
title_text title = codes "<title>" ++ escaped title ++ codes "</title>\n"

-- the styles, and the class by which the style knows that scripts run
unfoldable pub styles_text : List ℕ
styles_text =
    codes "<style>\n" ++ style ++ page_style
    ++ codes "</style>\n<script>document.documentElement.className='js'</script>\n</head>\n"

unfoldable pub head_text : List ℕ → ℕ → List ℕ
head_text title seconds = head_start ++ refresh_text seconds ++ title_text title ++ styles_text

-- the shapes that all pictures share
unfoldable pub shared_shapes : List ℕ
shared_shapes =
    codes "<svg class='shapes' aria-hidden='true'><defs>\n" ++ shapes ++ numbers_text X ++ numbers_text O
    ++ codes "</defs></svg>\n"

unfoldable pub heading_text : List ℕ → List ℕ
heading_text title = codes "<h1><bdi>" ++ escaped title ++ codes "</bdi></h1>\n"

-- the name of a player, where there is one
unfoldable pub named_text : Player → List ℕ → List ℕ
named_text player name =
    codes "<p class='name'>" ++ letter player ++ codes ": <bdi>" ++ escaped name ++ codes "</bdi></p>\n"

unfoldable pub name_text : Player → List ℕ → List ℕ
name_text player name = if length name == 0 then [] else named_text player name

-- what comes from outside: a title, and the names of X and O
pub record Words : Type 0 where
  pub title : List ℕ
  pub x : List ℕ
  pub o : List ℕ

-- all that stands before the games
unfoldable pub page_start : Words → Numbering → ℕ → List ℕ
page_start words numbering seconds =
    head_text words.title seconds ++ body_text numbering seconds ++ shared_shapes ++ heading_text words.title
    ++ name_text X words.x ++ name_text O words.o ++ view

-- a picture whose shapes the page has
unfoldable pub inner_picture : State → Player → List ℕ
inner_picture s reader = codes "<svg" ++ frame ++ titles_text s reader ++ drawing s reader ++ codes "</svg>\n"

-- where the match stands, in words
unfoldable pub summary_text : State → List ℕ
summary_text s = codes "<p>" ++ terms_words s ++ codes "; " ++ phase_words s ++ codes "</p>\n"

-- behind the games, where the match stands: whoever reads without scripts sees it, and no one
-- before the games
unfoldable pub end_text : Numbering → State → List ℕ
end_text numbering s =
    codes "</ol>\n</div>\n</main>\n<div id='end'>\n" ++ inner_picture s (reader_of numbering s.phase)
    ++ summary_text s ++ codes "</div>\n"

-- what a page does where scripts run
unfoldable pub scripts : List ℕ
scripts = id_script ++ script ++ live_script

unfoldable pub page_end : Numbering → State → List ℕ
page_end numbering s =
    end_text numbering s ++ codes "<script>\n" ++ scripts ++ codes "</script>\n</body>\n</html>\n"

-- new is old with the items of all entries of a match
abbrev pub PutsEntries : Log → List ℕ → List ℕ → Type 0
PutsEntries log old new =
    (items : List ℕ) × (t : State) × AreItemsOf 1 (start_of log.terms) log.entries items t × (new ≡ old ++ items)

-- the text is the page of a match of these terms with these entries, which stands at t
abbrev pub IsPage : Words → Numbering → ℕ → Terms → List Entry → List ℕ → Type 0
IsPage words numbering seconds terms entries text =
    (items : List ℕ) × (t : State) × AreItemsOf 1 (start_of terms) entries items t
    × (text ≡ page_start words numbering seconds ++ game_start 0 (start_of terms) ++ items ++ page_end numbering t)

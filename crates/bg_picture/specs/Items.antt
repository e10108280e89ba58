-- The items of a page, each with the data of its picture: the start of each game, its entries, and
-- its result.
use Rattle.std.specs.Prelude.{◌≡◌, ℕ, ◌+◌, List, [], ◌∷◌, ◌++◌, Option, Some, None, codes}
use Rattle.std.specs.Fmt.{decimal}
use Rattle.bg_match.specs.Actor.{actor_of, seat_of}
use Rattle.bg_match.specs.Follows.{Follows}
use Rattle.bg_match.specs.State.{State}
use Rattle.bg_match.specs.declared.entries.Entry.{Entry}
use Rattle.bg_match.specs.declared.phases.Phase.{Phase}
use Rattle.bg_match.specs.declared.phases.Phase.TheVariants.{Opening}
use Rattle.bg_text.specs.Entries.EntryText.{entry_text}
use Rattle.bg_picture.specs.Captions.{result_words}
use Rattle.bg_picture.specs.Descriptions.{crawford_words, game_words, score_words}
use Rattle.bg_picture.specs.ItemData.{item_data}
use Rattle.bg_picture.specs.Wins.{end_of, win_of}
use Rattle.bg_picture.specs.declared.anchors.Anchor.{Anchor}
use Rattle.bg_picture.specs.declared.anchors.Anchor.TheVariants as anchor
use Rattle.bg_picture.specs.declared.captions.Caption.{Caption}
use Rattle.bg_picture.specs.declared.captions.Caption.TheVariants.{Next, Won}
use Rattle.bg_picture.specs.declared.wins.Win.{Win}

-- an entry goes by its number, the start and the result of a game by that of the game
unfoldable pub anchor_text : Anchor → List ℕ
anchor_text (anchor.Start game) = codes "start" ++ decimal game
anchor_text (anchor.Entry number) = codes "p" ++ decimal number
anchor_text (anchor.Result game) = codes "result" ++ decimal game

-- an item can be named in the page's address, and has the data of its picture
unfoldable pub item_tag : Anchor → State → Caption → List ℕ
item_tag which s caption = codes "<li id='" ++ anchor_text which ++ codes "'" ++ item_data s caption

-- and its words follow
unfoldable pub item_start : Anchor → State → Caption → List ℕ
item_start which s caption = item_tag which s caption ++ codes "><a href='#" ++ anchor_text which ++ codes "'>"

unfoldable pub item_end : List ℕ
item_end = codes "</a></li>\n"

-- the number of a game; and what a script hides until the reader is there, whether it is the
-- Crawford game, and the score before it
unfoldable pub game_heading : State → List ℕ
game_heading s =
    codes "<h2>game " ++ decimal s.game ++ codes "<span>" ++ crawford_words s.crawford ++ score_words s
    ++ codes "</span></h2>\n"

-- and then a list, whose first item has this number, which only that of an entry shows; it has the
-- words above the pictures of the game
unfoldable pub list_start : ℕ → State → List ℕ
list_start number s =
    codes "<ol start='" ++ decimal number ++ codes "' data-game='" ++ game_words s ++ codes "'>\n"

unfoldable pub start_item : State → List ℕ
start_item s = item_start (anchor.Start s.game) s Next ++ codes "start of game " ++ decimal s.game ++ item_end

-- a game that starts behind so many entries
unfoldable pub game_start : ℕ → State → List ℕ
game_start number s = game_heading s ++ list_start number s ++ start_item s

-- the next game, where the match goes on
unfoldable pub next_start : ℕ → State → Phase → List ℕ
next_start number s Opening = codes "</ol>\n" ++ game_start number s
next_start number s _ = []

-- an entry at s of this number, behind which stands what is told of t
unfoldable pub entry_item : ℕ → State → Entry → State → Caption → List ℕ
entry_item number s e t caption =
    item_start (anchor.Entry number) t caption ++ entry_text (seat_of (actor_of s)) e ++ item_end

-- the result of a game, whose words a script hides until the reader is there
unfoldable pub told_result : Win → State → List ℕ
told_result win end = codes "result<span>: " ++ result_words win end ++ codes "</span>"

unfoldable pub result_item : Win → State → List ℕ
result_item win end = item_start (anchor.Result end.game) end (Won win) ++ told_result win end ++ item_end

-- the item of the entry of this number, behind which the match stands at next; or where it ended a
-- game by a win, at such an end, that of the entry with the game's end, the result, and the start
-- of the next game
unfoldable pub items_by : ℕ → State → Entry → State → State → Option Win → List ℕ
items_by number s e next end None = entry_item number s e next Next
items_by number s e next end (Some win) =
    entry_item number s e end (Won win) ++ result_item win end ++ next_start number next next.phase

-- the items of the entry of this number, which leads from s to next
unfoldable pub entry_items : ℕ → State → Entry → State → List ℕ
entry_items number s e next = items_by number s e next (end_of s e next) (win_of s e)

-- the text has the items of each entry, the first of this number, and the entries lead from s to t
abbrev pub AreItemsOf : ℕ → State → List Entry → List ℕ → State → Type 0
AreItemsOf number s [] text t = (text ≡ []) × (t ≡ s)
AreItemsOf number s (e ∷ entries) text t =
    (next : State) × (rest : List ℕ) × Follows s e next × (text ≡ entry_items number s e next ++ rest)
    × AreItemsOf (number + 1) next entries rest t

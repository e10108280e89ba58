-- What the lines of a written match file tell.
use Rattle.std.specs.Prelude.{◌≡◌, ◌≢◌, ℕ, ◌+◌, ◌-◌, ◌<◌, ◌≤◌, max, Bool, true, false, Some, None, List, [], ◌∷◌, ◌++◌, map, length, replicate, codes, if◌then◌else◌}
use Rattle.std.proofs.Common.{refl, sym, ◌∙◌, ap, subst, inl, inr, arith}
use Rattle.std.specs.Fmt.{decimal}
use Rattle.bg_board.specs.declared.players.Player.{Player}
use Rattle.bg_board.specs.declared.players.Player.TheVariants.{X, O}
use Rattle.bg_match.specs.Match.{Log}
use Rattle.bg_match.specs.Terms.{match_length}
use Rattle.bg_match.specs.declared.entries.Entry.{Entry}
use Rattle.bg_mat.specs.Rows.Cells.{TellsRow}
use Rattle.bg_mat.specs.Files.{Exports, TellsLine, TellsLines, after_row, behind_mark, is_win, lines_in, items_of, kept_entries, numbered, start_place}
use Rattle.bg_text.specs.Judge.Judging.{lines_of}
use Rattle.bg_mat.specs.Retelling.{TellsRecord}
use Rattle.bg_mat.specs.Rows.RowTexts.{Line, Heading, Alone, Both, beside, game_text, grouped, length_text, lines_text, next_row, padded, score_text, share_row}
use Rattle.bg_mat.specs.Telling.{AreTold, Does, Game, Item, Place, Scores, Told, deed_of}
use Rattle.bg_mat.specs.Tellings.{AreOfItems, HasGameNumbers, HasNumbers, IsInOrder, after_cell, items_of_tellings}
use Rattle.bg_mat.specs.declared.rows.cells.Cell.{Cell}
use Rattle.bg_mat.specs.declared.rows.cells.Cell.TheVariants as cell
use Rattle.bg_mat.specs.declared.awaiting.Awaited.{Awaited}
use Rattle.bg_mat.specs.declared.awaiting.Awaited.TheVariants as awaited
use Rattle.bg_mat.specs.declared.tellings.GameStart.{GameStart}
use Rattle.bg_mat.specs.declared.tellings.Telling.{Telling}
use Rattle.bg_mat.specs.declared.tellings.Telling.TheVariants as telling
use Rattle.bg_mat.specs.declared.rows.Row.{Row}
use Rattle.bg_mat.proofs.OfReading.ToldLines.{game_told, row_told}
use Rattle.bg_mat.proofs.OfWriting.PlainTexts.{IsOfLine, blanks_of_line, decimal_plain, first_line, no_blanks, of_line_both, of_line_by, plain_of_line}
use Rattle.bg_mat.proofs.OfWriting.WrittenRows.{alone_written, both_written, game_line, length_line, row_of, scores_line, scores_told}

-- the items of lines
abbrev pub items_of_line : Line → List Item
items_of_line (Heading game) = Game game.number ∷ Scores game.x game.o ∷ []
items_of_line (Alone player c) = Does player (deed_of c) ∷ []
items_of_line (Both l r) = Does X (deed_of l) ∷ Does O (deed_of r) ∷ []

abbrev pub items_of_lines : List Line → List Item
items_of_lines [] = []
items_of_lines (line ∷ lines) = items_of_line line ++ items_of_lines lines

-- games begin where one may, and rows stand within games
abbrev pub AreInOrder : Awaited → List Line → Awaited → Type 0
AreInOrder here [] there = there ≡ here
AreInOrder here (Heading game ∷ lines) there =
    (here ≢ awaited.Scores) × HasGameNumbers game × AreInOrder awaited.Row lines there
AreInOrder here (Alone player c ∷ lines) there =
    (here ≡ awaited.Row) × HasNumbers c × AreInOrder (after_cell c) lines there
AreInOrder here (Both l r ∷ lines) there =
    (here ≡ awaited.Row) × HasNumbers l × HasNumbers r × (is_win (Some l) ≡ false) × AreInOrder (after_cell r) lines there

-- a row may follow a cell that is no win
no_win : (c : Cell) → after_cell c ≡ awaited.Row → is_win (Some c) ≡ false
no_win (cell.Wins win) h = absurd (cc (h))
no_win (cell.Turn dice legs) h = refl
no_win (cell.CannotMove dice) h = refl
no_win (cell.Unknown dice) h = refl
no_win (cell.Doubles n) h = refl
no_win cell.Takes h = refl
no_win cell.Drops h = refl

-- a cell of X beside one of O
beside_by : (l r : Cell) (lines : List Line) (there : Awaited) (b : Bool)
    → HasNumbers l → AreInOrder (after_cell l) (Alone O r ∷ lines) there
    → AreInOrder awaited.Row (if b then Both l r ∷ lines else Alone X l ∷ Alone O r ∷ lines) there
beside_by l r lines there false low h = (refl, low, h)
beside_by l r lines there true low (row, high, more) = (refl, low, high, no_win l row, more)

beside_order : (l : Cell) (lines : List Line) (there : Awaited) → HasNumbers l → AreInOrder (after_cell l) lines there
    → AreInOrder awaited.Row (beside l lines) there
beside_order l [] there low h = (refl, low, h)
beside_order l (Heading game ∷ lines) there low h = (refl, low, h)
beside_order l (Alone X c ∷ lines) there low h = (refl, low, h)
beside_order l (Alone O r ∷ lines) there low h = beside_by l r lines there (share_row l r) low h
beside_order l (Both m r ∷ lines) there low h = (refl, low, h)

beside_items_by : (l r : Cell) (lines : List Line) (b : Bool)
    → items_of_lines (if b then Both l r ∷ lines else Alone X l ∷ Alone O r ∷ lines)
    ≡ Does X (deed_of l) ∷ Does O (deed_of r) ∷ items_of_lines lines
beside_items_by l r lines true = refl
beside_items_by l r lines false = refl

beside_items : (l : Cell) (lines : List Line) → items_of_lines (beside l lines) ≡ Does X (deed_of l) ∷ items_of_lines lines
beside_items l [] = refl
beside_items l (Heading game ∷ lines) = refl
beside_items l (Alone X c ∷ lines) = refl
beside_items l (Alone O r ∷ lines) = beside_items_by l r lines (share_row l r)
beside_items l (Both m r ∷ lines) = refl

grouped_order : (here : Awaited) (tellings : List Telling) (there : Awaited) → IsInOrder here tellings there
    → AreInOrder here (grouped tellings) there
grouped_order here [] there h = h
grouped_order here (telling.Game game ∷ more) there (may, few, h) = (may, few, grouped_order awaited.Row more there h)
grouped_order here (telling.Does X c ∷ more) there (row, low, h) =
    rw row (beside_order c (grouped more) there low (grouped_order (after_cell c) more there h))
grouped_order here (telling.Does O c ∷ more) there (row, low, h) = (row, low, grouped_order (after_cell c) more there h)

grouped_items : (tellings : List Telling) → items_of_lines (grouped tellings) ≡ items_of_tellings tellings
grouped_items [] = refl
grouped_items (telling.Game game ∷ more) =
    ap (λ (xs : List Item). Game game.number ∷ Scores game.x game.o ∷ xs) (grouped_items more)
grouped_items (telling.Does X c ∷ more) =
    beside_items c (grouped more) ∙ ap (λ (xs : List Item). Does X (deed_of c) ∷ xs) (grouped_items more)
grouped_items (telling.Does O c ∷ more) = ap (λ (xs : List Item). Does O (deed_of c) ∷ xs) (grouped_items more)

-- what is told, without the lines
abbrev pub items_told : List Told → List Item
items_told told = map (λ t. t.item) told

numbered_items : (n : ℕ) (items : List Item) (more : List Told) → items_told (numbered n items ++ more) ≡ items ++ items_told more
numbered_items n [] more = refl
numbered_items n (x ∷ items) more = ap (λ (xs : List Item). x ∷ xs) (numbered_items n items more)

-- lines of this text tell these items
pub record LinesTell (here : Awaited) (n : ℕ) (text : List ℕ) (items : List Item) (there : Awaited) : Type 0 where
  pub told : List Told
  pub lines : TellsLines here n (lines_of text) told there
  pub same : items_told told ≡ items

-- one line more
line_more : (here next there : Awaited) (n : ℕ) (line rest : List ℕ) (own items : List Item) → IsOfLine line
    → TellsLine here line own next → LinesTell next (n + 1) rest items there
    → LinesTell here n (line ++ codes "\n" ++ rest) (own ++ items) there
line_more here next there n line rest own items of_line tells more = record {
  told = numbered n own ++ more.told;
  lines = rw (first_line line rest of_line) (own, more.told, next, tells, more.lines, refl);
  same = numbered_items n own more.told ∙ ap (λ (xs : List Item). own ++ xs) more.same;
}

row_after : (player : Player) (c : Cell) → after_row (row_of player c) ≡ after_cell c
row_after X (cell.Wins win) = refl
row_after X (cell.Turn dice legs) = refl
row_after X (cell.CannotMove dice) = refl
row_after X (cell.Unknown dice) = refl
row_after X (cell.Doubles n) = refl
row_after X cell.Takes = refl
row_after X cell.Drops = refl
row_after O (cell.Wins win) = refl
row_after O (cell.Turn dice legs) = refl
row_after O (cell.CannotMove dice) = refl
row_after O (cell.Unknown dice) = refl
row_after O (cell.Doubles n) = refl
row_after O cell.Takes = refl
row_after O cell.Drops = refl

row_items : (player : Player) (c : Cell)
    → Does player (deed_of c) ∷ [] ≡ items_of (row_of player c).left (row_of player c).right
row_items X c = refl
row_items O c = refl

row_some : (player : Player) (c : Cell) → (row_of player c).left ≡ None → (row_of player c).right ≡ None → ⊥
row_some X c e d = absurd (cc (e))
row_some O c e d = absurd (cc (d))

-- the row of a cell that is alone
alone_line : (player : Player) (c : Cell) (line : List ℕ) → TellsRow line (row_of player c)
    → TellsLine awaited.Row line (Does player (deed_of c) ∷ []) (after_cell c)
alone_line player c line tells =
    inr (row_told line (row_of player c) tells (row_some player c), inr (row_of player c, tells, row_items player c, sym (row_after player c)))

both_line : (l r : Cell) (line : List ℕ) → is_win (Some l) ≡ false
    → TellsRow line (record { left = Some l; right = Some r })
    → TellsLine awaited.Row line (Does X (deed_of l) ∷ Does O (deed_of r) ∷ []) (after_cell r)
both_line l r line wl tells =
    let row : Row = record { left = Some l; right = Some r } in
    inr (row_told line row tells (λ e d. absurd (cc (e))), inr (row, tells, refl, rw (wl, ← row_after O r) refl))

heading_line : (here : Awaited) (n : ℕ) → here ≢ awaited.Scores → n ≤ 9999
    → TellsLine here (codes " Game " ++ decimal n) (Game n ∷ []) awaited.Scores
heading_line awaited.Game n may few =
    inr (game_told (codes " Game " ++ decimal n) n (game_line n few), (n, game_line n few, refl, refl))
heading_line awaited.Row n may few =
    inr (game_told (codes " Game " ++ decimal n) n (game_line n few), inl (n, game_line n few, refl, refl))
heading_line awaited.Scores n may few = absurd (may refl)

score_of_line : (name : List ℕ) (x : ℕ) → IsOfLine name → x < 65536 → IsOfLine (score_text name x)
score_of_line name x h few =
    of_line_both (name ++ codes " : ") (decimal x) (of_line_both name (codes " : ") h (of_line_by (codes " : ") refl))
    (plain_of_line (decimal x) (decimal_plain x (omega arith)))

scores_of_line : (x o : ℕ) → x < 65536 → o < 65536
    → IsOfLine (codes " " ++ padded 31 (score_text (codes "X") x) ++ score_text (codes "O") o)
scores_of_line x o a b =
    of_line_both (codes " " ++ padded 31 (score_text (codes "X") x)) (score_text (codes "O") o)
    (of_line_both (codes " ") (padded 31 (score_text (codes "X") x)) (refl, tt)
    (of_line_both (score_text (codes "X") x) (replicate (max 1 (31 - length (score_text (codes "X") x))) 32)
    (score_of_line (codes "X") x (refl, tt) a) (blanks_of_line (max 1 (31 - length (score_text (codes "X") x))))))
    (score_of_line (codes "O") o (refl, tt) b)

heads_of : (d p s rest : List ℕ)
    → (d ++ codes "\n") ++ (codes " " ++ p ++ s ++ codes "\n" ++ rest) ≡ d ++ codes "\n " ++ p ++ s ++ codes "\n" ++ rest
heads_of [] p s rest = refl
heads_of (x ∷ d) p s rest = ap (λ (t : List ℕ). x ∷ t) (heads_of d p s rest)

-- the text that heads a game, in lines
heads : (game : GameStart) (rest : List ℕ)
    → codes "\n" ++ (codes " Game " ++ decimal game.number ++ codes "\n"
    ++ (codes " " ++ padded 31 (score_text (codes "X") game.x) ++ score_text (codes "O") game.o ++ codes "\n" ++ rest))
    ≡ game_text game ++ rest
heads game rest =
    ap (λ (t : List ℕ). codes "\n Game " ++ t)
    (heads_of (decimal game.number) (padded 31 (score_text (codes "X") game.x)) (score_text (codes "O") game.o) rest)

-- the three lines that head a game
game_lines : (here there : Awaited) (n : ℕ) (game : GameStart) (rest : List ℕ) (items : List Item) → here ≢ awaited.Scores
    → HasGameNumbers game → LinesTell awaited.Row (n + 1 + 1 + 1) rest items there
    → LinesTell here n (game_text game ++ rest) (Game game.number ∷ Scores game.x game.o ∷ items) there
game_lines here there n game rest items may (few, x, o) more =
    let scores = codes " " ++ padded 31 (score_text (codes "X") game.x) ++ score_text (codes "O") game.o in
    let third = line_more awaited.Scores awaited.Row there (n + 1 + 1) scores rest (Scores game.x game.o ∷ []) items
    (scores_of_line game.x game.o x o)
    (inr (scores_told game.x game.o, (game.x, game.o, scores_line game.x game.o, refl, refl))) more in
    let second = line_more here awaited.Scores there (n + 1) (codes " Game " ++ decimal game.number) (scores ++ codes "\n" ++ rest)
    (Game game.number ∷ []) (Scores game.x game.o ∷ items)
    (of_line_both (codes " Game ") (decimal game.number) (of_line_by (codes " Game ") refl) (plain_of_line (decimal game.number) (decimal_plain game.number (omega arith))))
    (heading_line here game.number may few) third in
    let first = line_more here here there n [] (codes " Game " ++ decimal game.number ++ codes "\n" ++ (scores ++ codes "\n" ++ rest))
    [] (Game game.number ∷ Scores game.x game.o ∷ items) tt (inl (inl no_blanks, refl, refl)) second in
    subst (λ (t : List ℕ). LinesTell here n t (Game game.number ∷ Scores game.x game.o ∷ items) there)
    (heads game rest) first

pub lines_tell : (here there : Awaited) (row n : ℕ) (lines : List Line) → AreInOrder here lines there
    → LinesTell here n (lines_text row lines) (items_of_lines lines) there
lines_tell here there row n [] h = record { told = []; lines = (refl, h); same = refl }
lines_tell here there row n (Heading game ∷ lines) (may, few, h) =
    game_lines here there n game (lines_text 1 lines) (items_of_lines lines) may few
    (lines_tell awaited.Row there 1 (n + 1 + 1 + 1) lines h)
lines_tell here there row n (Alone player c ∷ lines) (at, low, h) =
    let w = alone_written row player c low in
    let rest = lines_text (next_row row) lines in
    let more = lines_tell (after_cell c) there (next_row row) (n + 1) lines h in
    rw at (subst (λ (t : List ℕ). LinesTell awaited.Row n (t ++ rest) (Does player (deed_of c) ∷ items_of_lines lines) there) (sym w.spelled)
    (line_more awaited.Row (after_cell c) there n w.line rest (Does player (deed_of c) ∷ []) (items_of_lines lines) w.of_line
    (alone_line player c w.line w.tells) more))
lines_tell here there row n (Both l r ∷ lines) (at, low, high, wl, h) =
    let w = both_written row l r low high in
    let rest = lines_text (next_row row) lines in
    let more = lines_tell (after_cell r) there (next_row row) (n + 1) lines h in
    rw at (subst (λ (t : List ℕ). LinesTell awaited.Row n (t ++ rest) (Does X (deed_of l) ∷ Does O (deed_of r) ∷ items_of_lines lines) there) (sym w.spelled)
    (line_more awaited.Row (after_cell r) there n w.line rest (Does X (deed_of l) ∷ Does O (deed_of r) ∷ []) (items_of_lines lines) w.of_line
    (both_line l r w.line wl w.tells) more))

-- items that lead from a place to another, with the lines that tell them
told_on_lines : (told : List Told) (p q : Place) (entries : List Entry) → AreOfItems p (items_told told) entries q
    → (lines : List ℕ) × AreTold p told entries lines q
told_on_lines [] p q entries h = ([], (h.0, refl, h.1))
told_on_lines (t ∷ told) p q entries (own, rest, middle, tells, more, all) =
    let (lines, leads) = told_on_lines told middle q rest more in
    (replicate (length own) t.line ++ lines, (own, rest, lines, middle, tells, leads, all, refl))

length_end : (d rest : List ℕ)
    → d ++ codes " point match" ++ codes "\n" ++ rest ≡ d ++ codes " point match\n" ++ rest
length_end [] rest = refl
length_end (x ∷ d) rest = ap (λ (t : List ℕ). x ∷ t) (length_end d rest)

length_parts : (points : ℕ) (rest : List ℕ)
    → codes " " ++ decimal points ++ codes " point match" ++ codes "\n" ++ rest ≡ length_text points ++ rest
length_parts points rest =
    ap (λ (t : List ℕ). codes " " ++ t) (length_end (decimal points) rest)

length_of_line : (points : ℕ) → points ≤ 9999 → IsOfLine (codes " " ++ decimal points ++ codes " point match")
length_of_line points few =
    of_line_both (codes " " ++ decimal points) (codes " point match")
    (of_line_both (codes " ") (decimal points) (refl, tt) (plain_of_line (decimal points) (decimal_plain points (omega arith))))
    (of_line_by (codes " point match") refl)

-- a text that begins with a blank has no mark in front
blank_no_mark : (rest : List ℕ) → behind_mark (32 ∷ rest) ≡ 32 ∷ rest
blank_no_mark rest = refl

-- the whole text tells the record
pub record_written : (log : Log) (points : ℕ) (tellings : List Telling) (start text : List ℕ) → points ≡ match_length log.terms
    → points ≤ 9999 → TellsRecord log tellings → start ≡ length_text points
    → text ≡ start ++ lines_text 1 (grouped tellings) → Exports log text
record_written log points tellings start text is few tells first all =
    let rest = lines_text 1 (grouped tellings) in
    let line = codes " " ++ decimal points ++ codes " point match" in
    let games = lines_tell awaited.Game tells.there 1 2 (grouped tellings)
    (grouped_order awaited.Game tellings tells.there tells.order) in
    let same : items_told games.told ≡ items_of_tellings tellings = games.same ∙ grouped_items tellings in
    let on = told_on_lines games.told (start_place log.terms) tells.place (kept_entries log.entries) (rw same tells.leads) in
    let spelled : text ≡ line ++ codes "\n" ++ rest = all ∙ (ap (λ (t : List ℕ). t ++ rest) first ∙ sym (length_parts points rest)) in
    let whole : behind_mark text ≡ text = ap behind_mark spelled ∙ (blank_no_mark _ ∙ sym spelled) in
    let lines : lines_in text ≡ line ∷ lines_of rest =
    ap lines_of (whole ∙ spelled) ∙ first_line line rest (length_of_line points few) in
    record {
      told = games.told;
      there = tells.there;
      lines = on.0;
      place = tells.place;
      file = rw (lines, ← is) (inr (length_line points few, games.lines));
      leads = on.1;
    }

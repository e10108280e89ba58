-- A match file has one reading.
use Rattle.std.specs.Prelude.{◌≡◌, ℕ, ◌+◌, Option, Some, None, List, [], ◌∷◌, ◌++◌}
use Rattle.std.proofs.Common.{refl, sym, ◌∙◌, ap, subst, inl, inr, arith}
use Rattle.bg_match.specs.declared.entries.Entry.{Entry}
use Rattle.bg_mat.specs.Files.{BeginsGame, TellsAwaited, TellsLine, TellsLines, after_row, items_of, numbered}
use Rattle.bg_mat.specs.OneReading.{AreAlike, FilesReadOnce, IsAlike, LinesReadOnce}
use Rattle.bg_mat.specs.Rows.Cells.{TellsCell, TellsCells, TellsRow}
use Rattle.bg_mat.specs.Rows.Headings.{IsGameLine}
use Rattle.bg_mat.specs.Rows.Words.{IsBlankText}
use Rattle.bg_mat.specs.Telling.{AreTold, Does, Game, Item, Place, Scores, Told}
use Rattle.bg_mat.specs.declared.awaiting.Awaited.{Awaited}
use Rattle.bg_mat.specs.declared.awaiting.Awaited.TheVariants as awaited
use Rattle.bg_mat.specs.declared.rows.Row.{Row}
use Rattle.bg_mat.specs.declared.rows.cells.Cell.{Cell}
use Rattle.bg_mat.proofs.OfReading.CellHeads.{cell_opens, first_of, second_of}
use Rattle.bg_mat.proofs.OfReading.CellLemmas.{cell_same}
use Rattle.bg_mat.proofs.OfReading.HeadingLemmas.{game_number_same, game_words, length_same}
use Rattle.bg_mat.proofs.OfReading.Openings.{opens_some}
use Rattle.bg_mat.proofs.OfReading.RowLemmas.{skip_same}
use Rattle.bg_mat.proofs.OfReading.ToldLines.{length_told, row_no_game}

blank_no_cell : (text : List ℕ) (c : Cell) (rest : List ℕ) → IsBlankText text → TellsCell text c rest → ⊥
blank_no_cell text c rest blank tells = opens_some text (first_of c) (second_of c) (cell_opens text c rest tells) blank

-- the cells of a row
cells_same : (text : List ℕ) (l r m s : Option Cell) → TellsCells text l r → TellsCells text m s → (l ≡ m) × (r ≡ s)
cells_same text None None None None h k = (refl, refl)
cells_same text None None (Some y) None blank (low, end, told, last) = absurd (blank_no_cell text y end blank told)
cells_same text None None None (Some p) blank (wide, end, told, last) = absurd (blank_no_cell text p end blank told)
cells_same text None None (Some y) (Some p) blank (low, middle, end, told, second, last) = absurd (blank_no_cell text y middle blank told)
cells_same text (Some x) None None None (few, rest, tells, blank) k = absurd (blank_no_cell text x rest k tells)
cells_same text None (Some o) None None (wide, rest, tells, blank) k = absurd (blank_no_cell text o rest k tells)
cells_same text (Some x) (Some o) None None (few, middle, rest, tells, more, blank) k = absurd (blank_no_cell text x middle k tells)
cells_same text (Some x) None (Some y) None (few, rest, tells, blank) (low, end, told, last) =
    (ap Some (cell_same text x y rest end tells told).0, refl)
cells_same text (Some x) None None (Some p) (few, rest, tells, blank) (wide, end, told, last) = absurd (omega (arith, few, wide))
cells_same text (Some x) None (Some y) (Some p) (few, rest, tells, blank) (low, middle, end, told, second, last) =
    absurd (blank_no_cell middle p end (subst IsBlankText (cell_same text x y rest middle tells told).1 blank) second)
cells_same text None (Some o) (Some y) None (wide, rest, tells, blank) (low, end, told, last) = absurd (omega (arith, wide, low))
cells_same text None (Some o) None (Some p) (wide, rest, tells, blank) (many, end, told, last) =
    (refl, ap Some (cell_same text o p rest end tells told).0)
cells_same text None (Some o) (Some y) (Some p) (wide, rest, tells, blank) (low, middle, end, told, second, last) =
    absurd (omega (arith, wide, low))
cells_same text (Some x) (Some o) (Some y) None (few, middle, rest, tells, more, blank) (low, end, told, last) =
    absurd (blank_no_cell middle o rest (subst IsBlankText (cell_same text y x end middle told tells).1 last) more)
cells_same text (Some x) (Some o) None (Some p) (few, middle, rest, tells, more, blank) (wide, end, told, last) =
    absurd (omega (arith, few, wide))
cells_same text (Some x) (Some o) (Some y) (Some p) (few, middle, rest, tells, more, blank) (low, between, end, told, second, last) =
    let first = cell_same text x y middle between tells told in
    let here : TellsCell middle p end = subst (λ (t : List ℕ). TellsCell t p end) (sym first.1) second in
    (ap Some first.0, ap Some (cell_same middle o p rest end more here).0)

row_by : (a b : Row) → a.left ≡ b.left → a.right ≡ b.right → a ≡ b
row_by a b h k =
    let one : a ≡ record { left = b.left; right = a.right } =
    ap (λ (c : Option Cell). record { left = c; right = a.right }) h in
    one ∙ ap (λ (c : Option Cell). record { left = b.left; right = c }) k

row_same : (line : List ℕ) (a b : Row) → TellsRow line a → TellsRow line b → a ≡ b
row_same line a b (cells, skips, tells) (others, skip, told) =
    let same = skip_same line cells others skips skip in
    let here : TellsCells cells b.left b.right = subst (λ (t : List ℕ). TellsCells t b.left b.right) (sym same) told in
    let both = cells_same cells a.left a.right b.left b.right tells here in
    row_by a b both.0 both.1

game_same : (line : List ℕ) (n m : ℕ) → IsGameLine line n → IsGameLine line m → n ≡ m
game_same line n m (after, number, rest, first, second, is, blank) h =
    game_number_same number n m is (game_words line after number rest m first second h).0

begins_same : (line : List ℕ) (items others : List Item) (next after : Awaited) → BeginsGame line items next
    → BeginsGame line others after → (items ≡ others) × (next ≡ after)
begins_same line items others next after (n, is, e, f) (m, at, g, h) =
    (e ∙ (ap (λ (k : ℕ). Game k ∷ []) (game_same line n m is at) ∙ sym g), f ∙ sym h)

rows_same : (line : List ℕ) (items others : List Item) (next after : Awaited) (a b : Row) → TellsRow line a → TellsRow line b
    → items ≡ items_of a.left a.right → next ≡ after_row a → others ≡ items_of b.left b.right → after ≡ after_row b
    → (items ≡ others) × (next ≡ after)
rows_same line items others next after a b is at e f g h =
    let same = row_same line a b is at in
    (e ∙ (ap (λ (row : Row). items_of row.left row.right) same ∙ sym g), f ∙ (ap after_row same ∙ sym h))

row_line_same : (line : List ℕ) (items others : List Item) (next after : Awaited) → TellsAwaited awaited.Row line items next
    → TellsAwaited awaited.Row line others after → (items ≡ others) × (next ≡ after)
row_line_same line items others next after (inl h) (inl k) = begins_same line items others next after h k
row_line_same line items others next after (inl (n, is, e, f)) (inr (row, tells, g, h)) = absurd (row_no_game line row n tells is)
row_line_same line items others next after (inr (row, tells, g, h)) (inl (n, is, e, f)) = absurd (row_no_game line row n tells is)
row_line_same line items others next after (inr (a, is, e, f)) (inr (b, at, g, h)) =
    rows_same line items others next after a b is at e f g h

-- what is alike
alike_self : (a : Item) → IsAlike a a
alike_self (Game n) = refl
alike_self (Scores x o) = tt
alike_self (Does player deed) = refl

alike_items : (n : ℕ) (items : List Item) → AreAlike (numbered n items) (numbered n items)
alike_items n [] = tt
alike_items n (x ∷ items) = (refl, alike_self x, alike_items n items)

alike_by : (n : ℕ) (items others : List Item) (next after : Awaited) → (items ≡ others) × (next ≡ after)
    → AreAlike (numbered n items) (numbered n others) × (next ≡ after)
alike_by n items others next after (e, f) =
    (subst (λ (xs : List Item). AreAlike (numbered n items) (numbered n xs)) e (alike_items n items), f)

alike_scores : (n : ℕ) (items others : List Item) (x o y u : ℕ) → items ≡ Scores x o ∷ [] → others ≡ Scores y u ∷ []
    → AreAlike (numbered n items) (numbered n others)
alike_scores n items others x o y u e f = rw (e, f) (refl, tt, tt)

alike_awaited : (here : Awaited) (n : ℕ) (line : List ℕ) (items others : List Item) (next after : Awaited)
    → TellsAwaited here line items next → TellsAwaited here line others after
    → AreAlike (numbered n items) (numbered n others) × (next ≡ after)
alike_awaited awaited.Game n line items others next after h k =
    alike_by n items others next after (begins_same line items others next after h k)
alike_awaited awaited.Row n line items others next after h k =
    alike_by n items others next after (row_line_same line items others next after h k)
alike_awaited awaited.Scores n line items others next after (x, o, is, e, f) (y, u, at, g, h) =
    (alike_scores n items others x o y u e g, f ∙ sym h)

alike_line : (here : Awaited) (n : ℕ) (line : List ℕ) (items others : List Item) (next after : Awaited)
    → TellsLine here line items next → TellsLine here line others after
    → AreAlike (numbered n items) (numbered n others) × (next ≡ after)
alike_line here n line items others next after (inl (filler, e, f)) (inl (blank, g, h)) =
    alike_by n items others next after (e ∙ sym g, f ∙ sym h)
alike_line here n line items others next after (inl (filler, e, f)) (inr (none, tells)) = absurd (none filler)
alike_line here n line items others next after (inr (none, tells)) (inl (filler, e, f)) = absurd (none filler)
alike_line here n line items others next after (inr (none, tells)) (inr (never, told)) =
    alike_awaited here n line items others next after tells told

alike_both : (a b c d : List Told) → AreAlike a b → AreAlike c d → AreAlike (a ++ c) (b ++ d)
alike_both [] [] c d h k = k
alike_both (x ∷ a) (y ∷ b) c d (line, item, more) k = (line, item, alike_both a b c d more k)
alike_both [] (y ∷ b) c d h k = absurd h
alike_both (x ∷ a) [] c d h k = absurd h

alike_lines : (here : Awaited) (n : ℕ) (lines : List (List ℕ)) (told more : List Told) (there then : Awaited)
    → TellsLines here n lines told there → TellsLines here n lines more then → AreAlike told more × (there ≡ then)
alike_lines here n [] told more there then (e, f) (g, h) = (rw (e, g) tt, f ∙ sym h)
alike_lines here n (line ∷ lines) told more there then (items, behind, next, tells, rest, e) (others, last, after, also, end, g) =
    let first = alike_line here n line items others next after tells also in
    let left = alike_lines next (n + 1) lines behind last there then rest
    (subst (λ (a : Awaited). TellsLines a (n + 1) lines last then) (sym first.1) end) in
    (rw (e, g) (alike_both (numbered n items) (numbered n others) behind last first.0 left.0), left.1)

pub files_once : FilesReadOnce
files_once n [] points others told more there then h k = absurd h
files_once n (line ∷ lines) points others told more there then (inl (filler, says, h)) (inl (blank, also, k)) =
    files_once (n + 1) lines points others told more there then h k
files_once n (line ∷ lines) points others told more there then (inl (filler, says, h)) (inr (is, k)) =
    absurd (length_told line others is filler)
files_once n (line ∷ lines) points others told more there then (inr (is, h)) (inl (filler, says, k)) =
    absurd (length_told line points is filler)
files_once n (line ∷ lines) points others told more there then (inr (is, h)) (inr (at, k)) =
    let alike = alike_lines awaited.Game (n + 1) lines told more there then h k in
    (length_same line points others is at, alike.0, alike.1)

-- the scores of a place
scores_at : (n x o : ℕ) (p q : Place) (entries : List Entry) (numbers : List ℕ)
    → AreTold p (numbered n (Scores x o ∷ [])) entries numbers q → (x ≡ p.state.x_score) × (o ≡ p.state.o_score)
scores_at n x o p q entries numbers (own, rest, beside, middle, (none, same, one, two), more, all, lines) = (one, two)

scores_same : (n : ℕ) (items others : List Item) (x o y u : ℕ) (p there then : Place) (entries more : List Entry)
    (numbers beside : List ℕ) → items ≡ Scores x o ∷ [] → others ≡ Scores y u ∷ []
    → AreTold p (numbered n items) entries numbers there → AreTold p (numbered n others) more beside then → items ≡ others
scores_same n items others x o y u p there then entries more numbers beside e f h k =
    let one = scores_at n x o p there entries numbers
    (subst (λ (xs : List Item). AreTold p (numbered n xs) entries numbers there) e h) in
    let two = scores_at n y u p then more beside
    (subst (λ (xs : List Item). AreTold p (numbered n xs) more beside then) f k) in
    let a : x ≡ y = one.0 ∙ sym two.0 in
    let b : o ≡ u = one.1 ∙ sym two.1 in
    e ∙ (cc (a, b) ∙ sym f)

awaited_once : (here : Awaited) (line : List ℕ) (n : ℕ) (p : Place) (items others : List Item) (next after : Awaited)
    (entries more : List Entry) (numbers beside : List ℕ) (there then : Place)
    → TellsAwaited here line items next → AreTold p (numbered n items) entries numbers there
    → TellsAwaited here line others after → AreTold p (numbered n others) more beside then
    → (items ≡ others) × (next ≡ after)
awaited_once awaited.Game line n p items others next after entries more numbers beside there then h leads k lead =
    begins_same line items others next after h k
awaited_once awaited.Row line n p items others next after entries more numbers beside there then h leads k lead =
    row_line_same line items others next after h k
awaited_once awaited.Scores line n p items others next after entries more numbers beside there then (x, o, is, e, f) leads
    (y, u, at, g, h) lead =
    (scores_same n items others x o y u p there then entries more numbers beside e g leads lead, f ∙ sym h)

pub lines_once : LinesReadOnce
lines_once here line n p items others next after entries more numbers beside there then (inl (filler, e, f)) leads
    (inl (blank, g, h)) lead = (e ∙ sym g, f ∙ sym h)
lines_once here line n p items others next after entries more numbers beside there then (inl (filler, e, f)) leads
    (inr (none, tells)) lead = absurd (none filler)
lines_once here line n p items others next after entries more numbers beside there then (inr (none, tells)) leads
    (inl (filler, e, f)) lead = absurd (none filler)
lines_once here line n p items others next after entries more numbers beside there then (inr (none, tells)) leads
    (inr (never, told)) lead =
    awaited_once here line n p items others next after entries more numbers beside there then tells leads told lead

-- Lists of turns, cell by cell.
use Rattle.std.proofs.Common.{◌≡◌, ◌≢◌, ◌⊎◌, ℕ, zero, suc, ◌+◌, ◌-◌, ◌*◌, ◌/◌, ◌<◌, ◌≤◌, max, List, [], ◌∷◌, ◌++◌, length, drop, get_or, refl, append_assoc, length-append, length-drop, ◌∙◌, ap, subst, sym, arith, inl, inr}
use Rattle.std.specs.Prelude.{All}
use Rattle.std.proofs.Math.Nat.{div-mul-le_self}
use Rattle.std.proofs.lemmas.Bool.{cases_lt}
use Rattle.std.proofs.lemmas.List.{at_drop_more}
use Rattle.std.proofs.lemmas.List.Elements.{Contains-get_or}
use Rattle.bg_board.specs.FromTo.{FromTo}
use Rattle.bg_board.specs.Position.{Position}
use Rattle.bg_board.specs.declared.players.Player.{Player}
use Rattle.bg_turns.proofs.Parts.{steps_legal}
use Rattle.bg_turns.specs.Dice.{dice_list}
use Rattle.bg_turns.specs.InOrder.{AreLegalSteps}
use Rattle.bg_turns.specs.declared.throws.Dice.{Dice}
use Rattle.bg_table.specs.DistinctTurns.{AreDistinctTurns}
use Rattle.bg_table.specs.Laws.{FitsLines}
use Rattle.bg_table.specs.TurnLists.{cell_width, cells_text, ends_line, gap, in_row, list_text, marked_steps, turns_text}

-- what is left of a list is an element and what is left behind it
left : {Y : Type 0} (F : List (List FromTo) → Y) (turns : List (List FromTo)) (i : ℕ) (turn : List FromTo)
    → i < length turns → turn ≡ get_or turns i turn → F (drop i turns) ≡ F (turn ∷ drop (i + 1) turns)
left F turns i turn within is =
    at_drop_more F turns i turn within ∙ ap (λ (t : List FromTo). F (t ∷ drop (i + 1) turns)) (sym is)

-- the width so far, with one text more
pub wider : (b : Position) (player : Player) (turns : List (List FromTo)) (i width all : ℕ) (turn : List FromTo)
    → i < length turns → turn ≡ get_or turns i turn → max (cell_width b player (drop i turns)) width ≡ all
    → max (cell_width b player (drop (i + 1) turns)) (max (length (marked_steps b player turn) + 1) width) ≡ all
wider b player turns i width all turn within is kept =
    let more : cell_width b player (drop i turns) ≡ max (length (marked_steps b player turn) + 1) (cell_width b player (drop (i + 1) turns)) =
    left (cell_width b player) turns i turn within is in
    omega (arith, more, kept)

-- cells have some width
pub some_width : (b : Position) (player : Player) (turns : List (List FromTo)) → 1 ≤ cell_width b player turns
some_width b player [] = omega arith
some_width b player (steps ∷ turns) = omega arith

-- the cells so far, with one more
pub cell_more : (b : Position) (player : Player) (width row : ℕ) (turns : List (List FromTo)) (i : ℕ) (turn : List FromTo)
    (start cell next all : List ℕ) (spare : ℕ) → i < length turns → turn ≡ get_or turns i turn
    → cell ≡ start ++ marked_steps b player turn → spare ≡ width - (length cell - length start)
    → next ≡ cell ++ gap spare (ends_line (i + 1) row (length turns - (i + 1)))
    → start ++ cells_text b player width row (i + 1) (drop i turns) ≡ all
    → next ++ cells_text b player width row (i + 1 + 1) (drop (i + 1) turns) ≡ all
cell_more b player width row turns i turn start cell next all spare within is put fits ended kept =
    let text = marked_steps b player turn in
    let last = ends_line (i + 1) row (length (drop (i + 1) turns)) in
    let rest = cells_text b player width row (i + 1 + 1) (drop (i + 1) turns) in
    let more : cells_text b player width row (i + 1) (drop i turns) ≡ text ++ gap (width - length text) last ++ rest =
    left (cells_text b player width row (i + 1)) turns i turn within is in
    let long : length cell ≡ length start + length text = ap length put ∙ length-append start text in
    let same : spare ≡ width - length text = omega (arith, long, fits) in
    let behind : length turns - (i + 1) ≡ length (drop (i + 1) turns) = sym (length-drop (i + 1) turns) in
    let added : next ≡ start ++ text ++ gap (width - length text) last = ended
    ∙ ap (λ (xs : List ℕ). xs ++ gap spare (ends_line (i + 1) row (length turns - (i + 1)))) put
    ∙ ap (λ (n : ℕ). start ++ text ++ gap n (ends_line (i + 1) row (length turns - (i + 1)))) same
    ∙ ap (λ (n : ℕ). start ++ text ++ gap (width - length text) (ends_line (i + 1) row n)) behind in
    let whole : start ++ (text ++ gap (width - length text) last ++ rest) ≡ all = ap (λ (xs : List ℕ). start ++ xs) (sym more) ∙ kept in
    let joined : start ++ text ++ gap (width - length text) last ++ rest ≡ start ++ (text ++ gap (width - length text) last ++ rest) = simp append_assoc in
    ap (λ (xs : List ℕ). xs ++ rest) added ∙ joined ∙ whole

-- lists of one turn alone are those of the only turn
pub not_only : (b : Position) (player : Player) (columns : ℕ) (turns : List (List FromTo)) → length turns ≢ 1
    → list_text b player columns turns ≡ turns_text b player columns turns
not_only b player columns [] other = refl
not_only b player columns (steps ∷ []) other = absurd (other refl)
not_only b player columns (steps ∷ next ∷ turns) other = refl

-- distinct turns have legal steps
pub distinct_legal : (b : Position) (player : Player) (dice : Dice) (turns : List (List FromTo)) → AreDistinctTurns b player dice turns
    → All (AreLegalSteps b player) turns
distinct_legal b player dice turns h k d within =
    let turn = get_or turns k d in
    steps_legal b player (dice_list dice) turn ((h.exactly turn).0 (Contains-get_or turns k d within)).legal.playable

-- the only turn has legal steps
pub only_legal : (b : Position) (player : Player) (turns : List (List FromTo)) (only : List FromTo) → turns ≡ only ∷ []
    → All (AreLegalSteps b player) turns → AreLegalSteps b player only
only_legal b player turns only is h =
    let all : All (AreLegalSteps b player) (only ∷ []) = subst (λ (xs : List (List FromTo)). All (AreLegalSteps b player) xs) is h in
    all 0 only (omega arith)

-- each text is shorter than a cell
shorter : (b : Position) (player : Player) (turns : List (List FromTo)) (k : ℕ) (d : List FromTo) → k < length turns
    → length (marked_steps b player (get_or turns k d)) < cell_width b player turns
shorter b player [] k d within = absurd (omega arith)
shorter b player (steps ∷ turns) zero d within = omega arith
shorter b player (steps ∷ turns) (suc k) d within = let rest = shorter b player turns k d (omega arith) in omega (arith, rest)

-- the cells of a line fit, or there is one
row_fits : (columns width : ℕ) → (in_row columns width ≡ 1) ⊎ (in_row columns width * width ≤ columns + 1)
row_fits columns width = elim (cases_lt ((columns + 1) / width) 1) [
  | inl less ↦ inl (omega (arith, less))
  | inr more ↦ inr (
      let same : in_row columns width ≡ (columns + 1) / width = omega (arith, more) in
      rw same (div-mul-le_self (columns + 1) width))
]

pub fits_lines : FitsLines
fits_lines b player turns columns width is =
    (subst (λ (n : ℕ). All (λ steps. length (marked_steps b player steps) < n) turns) (sym is) (shorter b player turns), row_fits columns width)

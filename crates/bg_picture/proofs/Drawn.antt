-- What drawings tell.
use Rattle.std.proofs.Common.{◌≡◌, ◌≤◌, ◌++◌, List, Option, Some, None, ℕ, sym, ◌∙◌, ap, refl}
use Rattle.bg_board.specs.Position.{IsPosition}
use Rattle.bg_board.specs.declared.players.Player.{Player}
use Rattle.bg_turns.specs.declared.throws.Dice.{Dice}
use Rattle.bg_match.specs.Actor.{passes}
use Rattle.bg_match.specs.State.{State, IsState}
use Rattle.bg_match.specs.declared.phases.Phase.{Phase}
use Rattle.bg_match.specs.declared.phases.Phase.TheVariants as phase
use Rattle.bg_picture.specs.Laws.{DrawnAlike, lying_dice, seen_cube}
use Rattle.bg_picture.specs.Pictures.{captions_text, drawing, scores_text}
use Rattle.bg_picture.specs.Tables.{table_text}
use Rattle.bg_picture.proofs.DrawnBoards.{behind, board_told}
use Rattle.bg_picture.proofs.DrawnCubes.{cube_of, seen_alike, shown_small}
use Rattle.bg_picture.proofs.DrawnDice.{dice_alike, lying, no_dice, other_part, table_of}
use Rattle.bg_picture.proofs.Ends.{cube_limited}

-- what is drawn tells the cube and the dice
pub behind_told : (s t : State) → s.cube.value ≤ 128 → t.cube.value ≤ 128 → behind s ≡ behind t
    → (seen_cube s.phase s.cube ≡ seen_cube t.phase t.cube) × (lying s.phase ≡ lying t.phase)
behind_told s t hs ht e =
    let ends : (s : State) → List ℕ = λ s. table_text s.phase (passes s) ++ (captions_text s ++ scores_text s) in
    let all = ap (λ l. l ++ ends s) (sym (cube_of s.phase s.cube)) ∙ (e ∙ ap (λ l. l ++ ends t) (cube_of t.phase t.cube)) in
    let cube = seen_alike (seen_cube s.phase s.cube) (seen_cube t.phase t.cube) (ends s) (ends t) (shown_small s.phase s.cube hs)
    (shown_small t.phase t.cube ht) all in
    let table = sym (table_of s.phase (passes s) (captions_text s ++ scores_text s))
    ∙ (cube.1 ∙ table_of t.phase (passes t) (captions_text t ++ scores_text t)) in
    let dice = dice_alike (lying s.phase) (lying t.phase) (other_part s.phase (passes s) ++ (captions_text s ++ scores_text s))
    (other_part t.phase (passes t) ++ (captions_text t ++ scores_text t))
    (no_dice s.phase (passes s) s (scores_text s)) (no_dice t.phase (passes t) t (scores_text t)) table in
    (cube.0, dice)

-- the dice without whose they are
abbrev dice_only : Option (Player × Dice) → Option Dice
dice_only None = None
dice_only (Some (p, dice)) = Some dice

dice_lie : (p : Phase) → dice_only (lying p) ≡ lying_dice p
dice_lie phase.Opening = refl
dice_lie (phase.ToAct p) = refl
dice_lie (phase.Doubled p) = refl
dice_lie (phase.ToMove p dice) = refl
dice_lie (phase.Resigned p level None) = refl
dice_lie (phase.Resigned p level (Some dice)) = refl
dice_lie (phase.Over p) = refl

pub picture_told : (s t : State) (r q : Player) → IsState s → IsState t → IsPosition s.board → IsPosition t.board
    → drawing s r ≡ drawing t q → DrawnAlike s t
picture_told s t r q is it sb tb e =
    let same = board_told s t r q sb tb e in
    let rest = behind_told s t (cube_limited s.phase s.cube.value is.cube_limit) (cube_limited t.phase t.cube.value it.cube_limit) same.rest in
    record {
      board = same.board;
      cube = rest.0;
      dice = sym (dice_lie s.phase) ∙ (ap dice_only rest.1 ∙ dice_lie t.phase);
    }

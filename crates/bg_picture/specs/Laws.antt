-- What holds of pictures and pages.
use Rattle.std.specs.Prelude.{◌≡◌, ◌≢◌, ◌==◌, ◌<◌, ◌≤◌, ◌*◌, ◌^◌, ◌⊎◌, ℕ, Bool, not, ◌&&◌, IsTrue}
use Rattle.std.specs.Prelude.{List, [], ◌∷◌, ◌++◌, length, codes, Option, Some, None}
use Rattle.std.specs.List.{AllByRecursion, Contains, flat_map, list_all}
use Rattle.bg_board.specs.Position.{IsPosition}
use Rattle.bg_board.specs.declared.players.Player.{Player}
use Rattle.bg_turns.specs.declared.throws.Dice.{Dice}
use Rattle.bg_match.specs.State.{State, IsState}
use Rattle.bg_match.specs.declared.entries.Entry.{Entry}
use Rattle.bg_match.specs.declared.phases.Cube.{Cube}
use Rattle.bg_match.specs.declared.phases.Phase.{Phase}
use Rattle.bg_match.specs.declared.phases.Phase.TheVariants as phase
use Rattle.bg_picture.specs.Escapes.{escaped}
use Rattle.bg_picture.specs.ItemData.{position_data}
use Rattle.bg_picture.specs.Items.{AreItemsOf, anchor_text, item_start}
use Rattle.bg_picture.specs.Pictures.{drawing}
use Rattle.bg_picture.specs.declared.anchors.Anchor.{Anchor}
use Rattle.bg_picture.specs.declared.anchors.Anchor.TheVariants as anchor
use Rattle.bg_picture.specs.declared.captions.Caption.{Caption}

-- whether a byte neither begins nor ends mark-up or an attribute: it is none of " ' < >
abbrev pub is_plain_byte : ℕ → Bool
is_plain_byte b = not (b == 34) && not (b == 39) && not (b == 60) && not (b == 62)

-- an escaped text has no other bytes
abbrev pub EscapedTextsArePlain : Type 0
EscapedTextsArePlain = (text : List ℕ) → IsTrue (list_all is_plain_byte (escaped text))

-- what stands for a byte that mark-up begins or ends by
abbrev pub references : List (List ℕ)
references = codes "&amp;" ∷ codes "&lt;" ∷ codes "&gt;" ∷ codes "&quot;" ∷ codes "&#39;" ∷ []

-- a part of an escaped text: such a reference, or one byte that is no ampersand
abbrev pub IsPart : List ℕ → Type 0
IsPart part = Contains references part ⊎ ((b : ℕ) × (part ≡ b ∷ []) × (b ≢ 38))

-- so each ampersand in it begins a reference
abbrev pub AmpersandsBeginReferences : Type 0
AmpersandsBeginReferences = (text : List ℕ) → (parts : List (List ℕ)) × (escaped text ≡ flat_map (λ part. part) parts)
    × AllByRecursion IsPart parts

abbrev pub anchor_number : Anchor → ℕ
anchor_number (anchor.Start game) = game
anchor_number (anchor.Entry number) = number
anchor_number (anchor.Result game) = game

-- no two items of a page have one name
abbrev pub ItemNamesDiffer : Type 0
ItemNamesDiffer = (a b : Anchor) → anchor_number a < 2 ^ 64 → anchor_number b < 2 ^ 64
    → anchor_text a ≡ anchor_text b → a ≡ b

-- a text has an item of this name
abbrev pub HasItem : List ℕ → Anchor → Type 0
HasItem text which =
    (before : List ℕ) × (s : State) × (caption : Caption) × (after : List ℕ)
    × (text ≡ before ++ item_start which s caption ++ after)

-- the items of a match's entries are named by their numbers, from 1 to that of the last entry
abbrev pub EntriesHaveItems : Type 0
EntriesHaveItems = (s t : State) (entries : List Entry) (items : List ℕ) → AreItemsOf 1 s entries items t
    → (number : ℕ) → 1 ≤ number → number ≤ length entries → HasItem items (anchor.Entry number)

-- the dice that lie on the board
abbrev pub lying_dice : Phase → Option Dice
lying_dice (phase.ToMove p dice) = Some dice
lying_dice (phase.Resigned p level back) = back
lying_dice _ = None

-- what the data of a standing tell of it
pub record ToldAlike (s t : State) : Type 0 where
  pub board : s.board ≡ t.board
  pub cube : s.cube ≡ t.cube
  pub dice : lying_dice s.phase ≡ lying_dice t.phase
  pub x_score : s.x_score ≡ t.x_score
  pub o_score : s.o_score ≡ t.o_score

-- data are those of one board, one cube, one pair of dice and one score
abbrev pub ItemsTellPositions : Type 0
ItemsTellPositions = (s t : State) → IsState s → IsState t → IsPosition s.board → IsPosition t.board
    → position_data s ≡ position_data t → ToldAlike s t

-- the cube as it is seen: before the player who answers a double, with twice its value; else beside
-- the board, in the middle or on its owner's side
pub data SeenCube : Type 0 where
  Offered : (to : Player) → (value : ℕ) → SeenCube
  Beside : (owner : Option Player) → (value : ℕ) → SeenCube

abbrev pub seen_cube : Phase → Cube → SeenCube
seen_cube (phase.Doubled p) cube = Offered p (2 * cube.value)
seen_cube _ cube = Beside cube.owner cube.value

-- what the drawing of a standing tells of it
pub record DrawnAlike (s t : State) : Type 0 where
  pub board : s.board ≡ t.board
  pub cube : seen_cube s.phase s.cube ≡ seen_cube t.phase t.cube
  pub dice : lying_dice s.phase ≡ lying_dice t.phase

-- drawings that are one text show one board, one cube and one pair of dice, in whosever numbers the
-- points are
abbrev pub DrawingsTellPositions : Type 0
DrawingsTellPositions = (s t : State) (r q : Player) → IsState s → IsState t → IsPosition s.board → IsPosition t.board
    → drawing s r ≡ drawing t q → DrawnAlike s t

-- Which files are refused, at which line, and why.
use Rattle.std.specs.Prelude.{◌≡◌, ◌≢◌, ◌⊎◌, ◌↔◌, ℕ, ◌+◌, ◌<◌, ◌≤◌, Bool, Some, List, [], ◌∷◌, ◌++◌, length, IsTrue}
use Rattle.std.specs.Prelude.{IfSome}
use Rattle.bg_board.specs.declared.players.Player.{Player}
use Rattle.bg_turns.specs.HasStep.{has_step}
use Rattle.bg_match.specs.Match.{empty_log}
use Rattle.bg_match.specs.Terms.{terms_of}
use Rattle.bg_match.specs.declared.limits.Rules.{Rules}
use Rattle.bg_mat.specs.Files.{HasCrawford, TellsAwaited, TellsLines, numbered}
use Rattle.bg_mat.specs.ItemFaults.{IsItemFault, IsPendingFault}
use Rattle.bg_mat.specs.Replaying.{Begins, ClosesBy, GoesOnBy, place_of}
use Rattle.bg_mat.specs.Rows.Headings.{IsFiller, IsHeader, IsLengthLine, IsScoresLine, SaysNoCrawford}
use Rattle.bg_mat.specs.Rows.RowFaults.{IsPlaceFault, IsRowPlace}
use Rattle.bg_mat.specs.Telling.{Does, Item, Told, Wins}
use Rattle.bg_mat.specs.declared.awaiting.Awaited.{Awaited}
use Rattle.bg_mat.specs.declared.awaiting.Awaited.TheVariants as awaited
use Rattle.bg_mat.specs.declared.faults.ImportFault.{ImportFault}
use Rattle.bg_mat.specs.declared.faults.ImportFault.TheVariants as import_fault
use Rattle.bg_mat.specs.declared.faults.MatFault.{MatFault}
use Rattle.bg_mat.specs.declared.faults.MatFault.TheVariants as why
use Rattle.bg_mat.specs.declared.faults.ReadFault.{ReadFault}
use Rattle.bg_mat.specs.declared.faults.ReadFault.TheVariants as read_fault
use Rattle.bg_mat.specs.declared.playing.PendingTurn.{PendingTurn}
use Rattle.bg_mat.specs.declared.playing.Replay.{Replay}

-- the line of this number tells something: of lines of which the first has another number
pub record IsToldLine (first : ℕ) (lines : List (List ℕ)) (number : ℕ) : Type 0 where
  pub before : List (List ℕ)
  pub line : List ℕ
  pub behind : List (List ℕ)
  pub cut : lines ≡ before ++ line ∷ behind
  pub number_is : number ≡ first + length before
  pub no_filler : IsFiller line → ⊥

-- why the first line that tells something is no length of a match of 1 to 99 points
abbrev pub IsLengthFault : List ℕ → MatFault → Type 0
IsLengthFault line why.NoLength = (n : ℕ) → IsLengthLine line n → ⊥
IsLengthFault line why.Money = IsLengthLine line 0
IsLengthFault line why.LengthOutOfRange = (n : ℕ) × IsLengthLine line n × (99 < n)
IsLengthFault line _ = ⊥

-- which fault of shape it is, where this is awaited
abbrev pub IsShapeWhy : Awaited → List ℕ → MatFault → Type 0
IsShapeWhy awaited.Game line fault = fault ≡ why.NotALine
IsShapeWhy awaited.Scores line fault = ⊥
IsShapeWhy awaited.Row line fault = IsPlaceFault (IsRowPlace line) fault

-- the line tells nothing of what is awaited, for this fault
abbrev pub IsShapeFault : Awaited → List ℕ → MatFault → Type 0
IsShapeFault here line fault =
    ((items : List Item) (next : Awaited) → TellsAwaited here line items next → ⊥) × IsShapeWhy here line fault

-- by the item the player whose dice are pending loses
abbrev pub LosesBy : Player → Item → Type 0
LosesBy player (Does winner (Wins won ends)) = player ≢ winner
LosesBy player _ = ⊥

-- an item of line n is refused behind a replay: the dice that are pending are, or what comes behind
-- them is. They stay without a turn where their player then loses
pub record IsRefusedItem (r : Replay) (n : ℕ) (item : Item) (number : ℕ) (fault : MatFault) : Type 0 where
  pub stays : Bool
  pub loses : IfSome r.pending (λ turn. IsTrue stays ↔ LosesBy turn.player item)
  pub refused : ((turn : PendingTurn) × (r.pending ≡ Some turn) × (number ≡ turn.line)
      × IsPendingFault stays r.log r.standing turn.player turn.dice fault)
      ⊎ ((closed : Replay) × ClosesBy stays r closed × (number ≡ n)
      × IsItemFault closed.log (place_of closed) item fault)

-- one of the items of line n is refused behind a replay and those before it
pub record AreRefusedItems (r : Replay) (n : ℕ) (items : List Item) (number : ℕ) (fault : MatFault) : Type 0 where
  pub before : List Item
  pub item : Item
  pub behind : List Item
  pub cut : items ≡ before ++ item ∷ behind
  pub old : Replay
  pub goes : GoesOnBy r old (numbered n before)
  pub refused : IsRefusedItem old n item number fault

-- line n is refused behind a replay, where this is awaited: by its shape, or the scores are others,
-- or by what it tells
abbrev pub IsRefusedLine : Awaited → Replay → List ℕ → ℕ → ℕ → MatFault → Type 0
IsRefusedLine here r line n number fault =
    ((number ≡ n) × IsShapeFault here line fault)
    ⊎ (((number ≡ n) × (here ≡ awaited.Scores) × (fault ≡ why.WrongScores)
    × (IsScoresLine line r.standing.x_score r.standing.o_score → ⊥))
    ⊎ ((items : List Item) × (next : Awaited) × TellsAwaited here line items next
    × AreRefusedItems r n items number fault))

-- from a replay on, of lines of which the first has this number, those up to one are read, and it
-- is refused
pub record AreRefusedLines (from : Replay) (first : ℕ) (lines : List (List ℕ)) (number : ℕ) (fault : MatFault)
    : Type 0 where
  pub before : List (List ℕ)
  pub line : List ℕ
  pub behind : List (List ℕ)
  pub cut : lines ≡ before ++ line ∷ behind
  pub no_filler : IsFiller line → ⊥
  pub told : List Told
  pub here : Awaited
  pub file : TellsLines awaited.Game first before told here
  pub r : Replay
  pub goes : GoesOnBy from r told
  pub refused : IsRefusedLine here r line (first + length before) number fault

-- from a replay on all lines are read, and the dice that are pending then are refused. They stay
-- without a turn where the player has a step
pub record IsRefusedEnd (from : Replay) (first : ℕ) (lines : List (List ℕ)) (number : ℕ) (fault : MatFault)
    : Type 0 where
  pub told : List Told
  pub here : Awaited
  pub file : TellsLines awaited.Game first lines told here
  pub r : Replay
  pub goes : GoesOnBy from r told
  pub turn : PendingTurn
  pub pending : r.pending ≡ Some turn
  pub number_is : number ≡ turn.line
  pub refused : IsPendingFault (has_step r.standing.board turn.player turn.dice) r.log r.standing turn.player
      turn.dice fault

-- the lines of games are refused, at a line that tells something
abbrev pub AreRefusedGames : Replay → ℕ → List (List ℕ) → ℕ → MatFault → Type 0
AreRefusedGames from first lines number fault =
    IsToldLine first lines number
    × (AreRefusedLines from first lines number fault ⊎ IsRefusedEnd from first lines number fault)

-- the lines, of which the first has the number n, are refused: at a header that takes the Crawford
-- game away, or as there is no length, or at a later line that tells something
abbrev pub AreRefused : ℕ → Rules → ℕ → List (List ℕ) → ℕ → MatFault → Type 0
AreRefused id rules n [] number fault = (number ≡ n) × (fault ≡ why.NoLength)
AreRefused id rules n (line ∷ lines) number fault =
    (IsHeader line
    × (((number ≡ n) × (fault ≡ why.NoCrawford) × SaysNoCrawford line × HasCrawford lines)
    ⊎ ((SaysNoCrawford line → HasCrawford lines → ⊥) × AreRefused id rules (n + 1) lines number fault)))
    ⊎ ((IsHeader line → ⊥) × (((number ≡ n) × IsLengthFault line fault)
    ⊎ ((points : ℕ) × IsLengthLine line points × (1 ≤ points) × (points ≤ 99)
    × ((from : Replay) × Begins (empty_log id (terms_of points rules)) from
    × AreRefusedGames from (n + 1) lines number fault))))

-- the fault of a file that is not too long
abbrev pub IsReadFault : ℕ → Rules → List (List ℕ) → ReadFault → Type 0
IsReadFault id rules lines (read_fault.Refused number fault) = AreRefused id rules 1 lines number fault
IsReadFault id rules lines read_fault.Memory = Unit {0}

abbrev pub IsRefusal : ℕ → Rules → List (List ℕ) → ImportFault → Type 0
IsRefusal id rules lines (import_fault.Refused number fault) = AreRefused id rules 1 lines number fault
IsRefusal id rules lines _ = Unit {0}

-- the fault, if it is no lack of memory, names this line, for such a reason
abbrev pub RefusesAt : ℕ → (MatFault → Type 0) → ReadFault → Type 0
RefusesAt n Why (read_fault.Refused number fault) = (number ≡ n) × Why fault
RefusesAt n Why read_fault.Memory = Unit {0}

-- the fault, if it is no lack of memory, is one of these lines and reasons
abbrev pub Refuses : (ℕ → MatFault → Type 0) → ReadFault → Type 0
Refuses Fault (read_fault.Refused number fault) = Fault number fault
Refuses Fault read_fault.Memory = Unit {0}

-- the fault is that of the turn that is pending
abbrev pub RefusesPending : Bool → Replay → ReadFault → Type 0
RefusesPending stays r fault =
    (turn : PendingTurn) × (r.pending ≡ Some turn)
    × RefusesAt turn.line (IsPendingFault stays r.log r.standing turn.player turn.dice) fault

-- the fault is that of a line of this number that is no length of 1 to 99 points
abbrev pub IsBeginFault : List ℕ → ℕ → ReadFault → Type 0
IsBeginFault line n (read_fault.Refused number fault) = (number ≡ n) × IsLengthFault line fault
IsBeginFault line n read_fault.Memory = Unit {0}

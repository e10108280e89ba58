-- Why an action of a player can't be made, and what he may do.
use Rattle.std.specs.Prelude.{◌≡◌, ◌==◌, ◌⊎◌, ℕ, Option, Some, None, MatchOption, List, [], ◌++◌, codes, if◌then◌else◌}
use Rattle.std.specs.Fmt.{decimal}
use Rattle.bg_board.specs.declared.players.Player.{Player}
use Rattle.bg_board.specs.declared.players.Player.TheVariants.{X, O}
use Rattle.bg_match.specs.Actor.{actor_of}
use Rattle.bg_match.specs.Follows.{IsNoDouble, MayDouble}
use Rattle.bg_match.specs.State.{State}
use Rattle.bg_match.specs.Terms.{match_length}
use Rattle.bg_match.specs.declared.actions.Action.{Action}
use Rattle.bg_match.specs.declared.actions.Action.TheVariants as action
use Rattle.bg_match.specs.declared.entries.EntryFault.{EntryFault}
use Rattle.bg_match.specs.declared.entries.EntryFault.TheVariants as fault
use Rattle.bg_match.specs.declared.entries.NoDouble.{NoDouble}
use Rattle.bg_match.specs.declared.entries.NoDouble.TheVariants as no_double
use Rattle.bg_match.specs.declared.phases.Phase.{Phase}
use Rattle.bg_match.specs.declared.phases.Phase.TheVariants as phase
use Rattle.bg_table.specs.Offering.{AreOffered}
use Rattle.bg_table.specs.Prompts.{prompt_words}
use Rattle.bg_table.specs.TurnRefusals.{IsTurnRefusal}
use Rattle.bg_table.specs.declared.offers.Offers.{Offers}
use Rattle.bg_table.specs.declared.refusals.RefusedTurn.{RefusedTurn}

-- why nobody can double in a game that is played without the cube. That of a match to one point is
-- no Crawford game to its players
abbrev pub cubeless_words : ℕ → List ℕ
cubeless_words points =
    if points == 1 then codes "a match to one point is played without the cube\n"
    else codes "nobody can double in the Crawford game\n"

-- why a player can't double in a match to so many points
abbrev pub no_double_words : ℕ → NoDouble → Player → List ℕ
no_double_words points no_double.Crawford reader = cubeless_words points
no_double_words points no_double.NotOwner X = codes "the cube is O's, so you can't double\n"
no_double_words points no_double.NotOwner O = codes "the cube is X's, so you can't double\n"
no_double_words points no_double.AtCap reader = codes "the cube shows 128, so nobody can double\n"

-- why a phase doesn't allow an action
abbrev pub phase_words : Phase → Action → List ℕ
phase_words (phase.Over p) a = []
phase_words phase.Opening a = codes "the game isn't opened yet\n"
phase_words (phase.Doubled p) a = codes "answer the double first\n"
phase_words (phase.Resigned p level back) a = codes "answer the offer to resign first\n"
phase_words ph action.Take = codes "nobody has doubled\n"
phase_words ph action.Drop = codes "nobody has doubled\n"
phase_words ph action.Accept = codes "nobody has offered to resign\n"
phase_words ph action.Reject = codes "nobody has offered to resign\n"
phase_words (phase.ToAct p) (action.Move turn) = codes "roll the dice first\n"
phase_words (phase.ToMove p dice) action.Roll = codes "the dice are rolled: move them\n"
phase_words (phase.ToMove p dice) action.Double = codes "you can double only before you roll\n"
phase_words _ _ = codes "this can't be done now\n"

-- the line says why a double can't be made in this phase: what forbids it in the whole game comes
-- first, and the phase alone is named where nothing else does
abbrev pub IsDoubleLine : State → Player → List ℕ → Type 0
IsDoubleLine s reader line =
    ((why : NoDouble) × IsNoDouble why s reader × (line ≡ no_double_words (match_length s.terms) why reader))
    ⊎ (MayDouble s reader × (line ≡ phase_words s.phase action.Double))

-- the line says why an action can't be made in a phase. While a double is answered, that comes first
abbrev pub IsPhaseLine : State → Phase → Player → Action → List ℕ → Type 0
IsPhaseLine s (phase.Over p) reader a line = line ≡ phase_words (phase.Over p) a
IsPhaseLine s (phase.Doubled p) reader a line = line ≡ phase_words (phase.Doubled p) a
IsPhaseLine s ph reader action.Double line = IsDoubleLine s reader line
IsPhaseLine s ph reader a line = line ≡ phase_words ph a

-- the line says why an action can't be made, but for turns
abbrev pub IsReasonLine : State → Player → Action → EntryFault → List ℕ → Type 0
IsReasonLine s reader a fault.RecordFull line = line ≡ codes "the match has as many entries as it can have\n"
IsReasonLine s reader a fault.MatchOver line = line ≡ []
IsReasonLine s reader a fault.WrongPhase line = IsPhaseLine s s.phase reader a line
IsReasonLine s reader a fault.EqualOpening line = line ≡ codes "equal dice open no game\n"
IsReasonLine s reader a (fault.Turn why) line = line ≡ codes "there are no dice for a turn\n"
IsReasonLine s reader a (fault.NoDouble why) line = line ≡ no_double_words (match_length s.terms) why reader
IsReasonLine s reader a fault.Memory line = line ≡ codes "there is no memory for another entry\n"

-- the turn that an action plays in a phase and that is refused
abbrev pub refused_turn : Phase → Action → EntryFault → Option RefusedTurn
refused_turn (phase.ToMove p dice) (action.Move turn) (fault.Turn why) =
    Some (record { player = p; dice = dice; turn = turn; fault = why })
refused_turn _ _ _ = None

-- the line says why an action can't be made: of a turn why it is refused
abbrev pub IsWhy : State → Player → Action → EntryFault → List ℕ → Type 0
IsWhy s reader a why line = MatchOption (refused_turn s.phase a why) (IsReasonLine s reader a why line)
    (λ refused. IsTurnRefusal s.board refused.player refused.dice refused.turn refused.fault line)

-- the text says to a player why an action of his can't be made, and then whose turn it is and what
-- he may do
abbrev pub IsRefusal : State → Player → Action → EntryFault → List ℕ → Type 0
IsRefusal s reader a why text =
    (reason : List ℕ) × (o : Offers) × IsWhy s reader a why reason × AreOffered s reader o
    × (text ≡ reason ++ prompt_words (actor_of s) reader o)

-- as in "your choice for entry 12 is kept, and waits for the referee"
unfoldable pub waiting_words : ℕ → List ℕ
waiting_words number =
    codes "your choice for entry " ++ decimal number ++ codes " is kept, and waits for the referee\n"

-- The line that says whose turn it is, and what may be done.
use Rattle.std.specs.Prelude.{◌≡◌, ℕ, Bool, true, false, List, [], ◌++◌, codes}
use Rattle.bg_board.specs.declared.players.Player.{Player}
use Rattle.bg_board.specs.declared.players.Player.TheVariants.{X, O}
use Rattle.bg_match.specs.Actor.{actor_of}
use Rattle.bg_match.specs.State.{State}
use Rattle.bg_match.specs.declared.phases.Actor.{Actor}
use Rattle.bg_match.specs.declared.phases.Actor.TheVariants.{Referee, Seat, Nobody}
use Rattle.bg_text.specs.Entries.EntryText.{letter}
use Rattle.bg_table.specs.Offering.{AreOffered}
use Rattle.bg_table.specs.declared.offers.Offers.{Offers}

-- a text where something is so
abbrev pub said : Bool → List ℕ → List ℕ
said true text = text
said false text = []

unfoldable pub answers_words : Offers → List ℕ
answers_words o =
    said o.roll (codes "roll, ") ++ said o.double (codes "double, ") ++ said o.take (codes "take, ")
    ++ said o.drop (codes "drop") ++ said o.accept (codes "accept, ") ++ said o.reject (codes "reject")

unfoldable pub turns_words : Offers → List ℕ
turns_words o =
    said o.turn (codes "move .. (`legal` lists the turns), ")
    ++ said o.resign (codes "resign normal, resign gammon, resign backgammon") ++ codes "\n"

-- as in "your turn, X: roll, double, resign normal, resign gammon, resign backgammon"
abbrev pub own_words : Player → Offers → List ℕ
own_words reader o = codes "your turn, " ++ letter reader ++ codes ": " ++ answers_words o ++ turns_words o

unfoldable pub prompt_words : Actor → Player → Offers → List ℕ
prompt_words Nobody reader o = codes "the match is over\n"
prompt_words Referee reader o = codes "it is the referee's turn\n"
prompt_words (Seat X) O o = codes "it is X's turn\n"
prompt_words (Seat O) X o = codes "it is O's turn\n"
prompt_words (Seat X) X o = own_words X o
prompt_words (Seat O) O o = own_words O o

-- the text says whose turn it is and, to the player who acts, what he may do
abbrev pub IsPrompt : State → Player → List ℕ → Type 0
IsPrompt s reader text = (o : Offers) × AreOffered s reader o × (text ≡ prompt_words (actor_of s) reader o)

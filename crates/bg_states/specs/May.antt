-- What a player may do now.
use Rattle.std.specs.Prelude.{◌≡◌, ℕ, Bool, true, false, List, [], ◌∷◌, ◌++◌, codes}
use Rattle.bg_board.specs.declared.players.Player.{Player}
use Rattle.bg_match.specs.State.{State}
use Rattle.bg_table.specs.Offering.{AreOffered}
use Rattle.bg_table.specs.declared.offers.Offers.{Offers}
use Rattle.bg_states.specs.Lists.{comma_text}

-- the word of one, where it is offered; whether the first of the list is still to come
abbrev pub word_text : Bool → Bool → List ℕ → List ℕ
word_text first true word = comma_text first ++ codes "\"" ++ word ++ codes "\""
word_text first false word = []

abbrev pub is_first_behind : Bool → Bool → Bool
is_first_behind first true = false
is_first_behind first false = first

-- the words of those that are offered, with commas between them
abbrev pub words_text : Bool → List (Bool × List ℕ) → List ℕ
words_text first [] = []
words_text first (offer ∷ offers) =
    word_text first offer.0 offer.1 ++ words_text (is_first_behind first offer.0) offers

abbrev pub offer_words : Offers → List (Bool × List ℕ)
offer_words o =
    (o.roll, codes "roll") ∷ (o.double, codes "double") ∷ (o.take, codes "take") ∷ (o.drop, codes "drop")
    ∷ (o.accept, codes "accept") ∷ (o.reject, codes "reject") ∷ (o.turn, codes "move") ∷ (o.resign, codes "resign") ∷ []

abbrev pub offer_text : Offers → List ℕ
offer_text o = words_text true (offer_words o)

-- as in ,"may":["roll","double","resign"]
unfoldable pub may_text : Offers → List ℕ
may_text offers = codes ",\"may\":[" ++ offer_text offers ++ codes "]"

-- what a player is told of what he may do
abbrev pub TellsMay : State → Player → List ℕ → Type 0
TellsMay s player text = (offers : Offers) × AreOffered s player offers × (text ≡ may_text offers)

-- that is added
abbrev pub AddsMay : State → Player → List ℕ → List ℕ → Type 0
AddsMay s player old new = (text : List ℕ) × TellsMay s player text × (new ≡ old ++ text)

-- The kinds of events, and the words that tell their lines apart.
use Rattle.std.proofs.Common.{◌≡◌, ℕ, List, [], ◌∷◌, ◌++◌, refl, sym, ◌∙◌, ap}
use Rattle.std.specs.Prelude.{if◌then◌else◌}
use Rattle.std.specs.Fmt.{decimal}
use Rattle.bg_board.specs.declared.players.Player.TheVariants.{X}
use Rattle.bg_match.specs.declared.actions.Action.TheVariants as action
use Rattle.bg_text.specs.Entries.EntryText.{letter, action_words}
use Rattle.bg_text.specs.Entries.Words.{words_of, spaced}
use Rattle.bg_text.proofs.Spelling.EntryTexts.{word_by_test}
use Rattle.bg_text.proofs.Spelling.Splits.{IsWord, first_piece}
use Rattle.bg_world.specs.Texts.EventText.{event_words}
use Rattle.bg_world.specs.Texts.EventLines.{kind_start}
use Rattle.bg_world.specs.declared.texts.event_lines.EventKind.{EventKind}
use Rattle.bg_world.specs.declared.texts.event_lines.EventKind.TheVariants as kind
use Rattle.bg_protocol.specs.declared.events.Event.{Event}
use Rattle.bg_protocol.specs.declared.events.Event.TheVariants as event
use Rattle.bg_world.proofs.Lines.LineParts.{same}

abbrev pub kind_of : Event → EventKind
kind_of (event.Due word) = kind.Due
kind_of (event.Take party pick word) = kind.Take
kind_of (event.Choose player a) = kind.Choose
kind_of (event.Save party) = kind.Save
kind_of (event.Tick party) = kind.Tick
kind_of (event.Restart party) = kind.Restart

-- an event of a kind
abbrev sample : EventKind → Event
sample kind.Due = event.Due 0
sample kind.Take = event.Take 0 0 0
sample kind.Choose = event.Choose X action.Roll
sample kind.Save = event.Save 0
sample kind.Tick = event.Tick 0
sample kind.Restart = event.Restart 0

abbrev first_of : List (List ℕ) → List ℕ
first_of [] = []
first_of (word ∷ words) = word

-- the first word of a kind's lines
abbrev pub kind_word : EventKind → List ℕ
kind_word k = first_of (event_words (sample k))

-- the words behind it
abbrev pub rest_words : Event → List (List ℕ)
rest_words (event.Due word) = decimal word ∷ []
rest_words (event.Take party pick word) = decimal party ∷ decimal pick ∷ decimal word ∷ []
rest_words (event.Choose player a) = letter player ∷ action_words a
rest_words (event.Save party) = decimal party ∷ []
rest_words (event.Tick party) = decimal party ∷ []
rest_words (event.Restart party) = decimal party ∷ []

pub kind_first : (e : Event) → event_words e ≡ kind_word (kind_of e) ∷ rest_words e
kind_first (event.Due word) = refl
kind_first (event.Take party pick word) = refl
kind_first (event.Choose player a) = refl
kind_first (event.Save party) = refl
kind_first (event.Tick party) = refl
kind_first (event.Restart party) = refl

-- ---- the first word

pub kind_is_word : (k : EventKind) → IsWord (kind_word k)
kind_is_word kind.Due = word_by_test (kind_word kind.Due) refl
kind_is_word kind.Take = word_by_test (kind_word kind.Take) refl
kind_is_word kind.Choose = word_by_test (kind_word kind.Choose) refl
kind_is_word kind.Save = word_by_test (kind_word kind.Save) refl
kind_is_word kind.Tick = word_by_test (kind_word kind.Tick) refl
kind_is_word kind.Restart = word_by_test (kind_word kind.Restart) refl

-- a space follows it
start_is : (k : EventKind) (rest : List ℕ) → kind_start k ++ rest ≡ kind_word k ++ 32 ∷ rest
start_is kind.Due rest = refl
start_is kind.Take rest = refl
start_is kind.Choose rest = refl
start_is kind.Save rest = refl
start_is kind.Tick rest = refl
start_is kind.Restart rest = refl

pub words_of_start : (k : EventKind) (rest : List ℕ) → words_of (kind_start k ++ rest) ≡ kind_word k ∷ words_of rest
words_of_start k rest = first_piece 32 (kind_start k ++ rest) (kind_word k) rest (kind_is_word k) (start_is k rest)

pub start_of_spaced : (k : EventKind) (word : List ℕ) (words : List (List ℕ))
    → spaced (kind_word k ∷ word ∷ words) ≡ kind_start k ++ spaced (word ∷ words)
start_of_spaced k word words = sym (start_is k (spaced (word ∷ words)))

-- ---- it tells the kinds apart

abbrev said : List ℕ → EventKind
said word =
    if same word (kind_word kind.Due) then kind.Due
    else if same word (kind_word kind.Take) then kind.Take
    else if same word (kind_word kind.Choose) then kind.Choose
    else if same word (kind_word kind.Save) then kind.Save
    else if same word (kind_word kind.Tick) then kind.Tick
    else kind.Restart

said_by : (k : EventKind) → said (kind_word k) ≡ k
said_by kind.Due = refl
said_by kind.Take = refl
said_by kind.Choose = refl
said_by kind.Save = refl
said_by kind.Tick = refl
said_by kind.Restart = refl

pub same_kind : (k l : EventKind) (u v : List (List ℕ)) → kind_word k ∷ u ≡ kind_word l ∷ v → k ≡ l
same_kind k l u v e =
    let first : kind_word k ≡ kind_word l = ap first_of e in
    sym (said_by k) ∙ (ap said first ∙ said_by l)

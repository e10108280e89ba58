-- What a message says.
use Rattle.std.specs.Prelude.{◌≡◌, ◌≤◌, ◌<◌, ◌^◌, ℕ, List, ◌++◌, ◌∷◌, codes, length}
use Rattle.std.specs.Fmt.{decimal}
use Rattle.bg_requests.specs.declared.messages.Message.{Message}
use Rattle.bg_requests.specs.declared.messages.Message.TheVariants as messages

-- so many bytes are read
abbrev pub most_message : ℕ
most_message = 512

-- the text is the number in decimal digits, a blank (32), and the words
abbrev pub IsActOf : List ℕ → ℕ → List ℕ → Type 0
IsActOf text number words = (text ≡ decimal number ++ 32 ∷ words) × (number < 2 ^ 32)

-- the text is a number and words
abbrev pub IsAct : List ℕ → Type 0
IsAct text = (number : ℕ) × (words : List ℕ) × IsActOf text number words

-- the message says this, and is not too long
abbrev pub Says : List ℕ → Message → Type 0
Says text (messages.Hello secret) = (length text ≤ most_message) × (text ≡ codes "hello " ++ secret.now)
Says text (messages.Act number words) =
    (length text ≤ most_message)
    × ((rest : List ℕ) × IsActOf rest number words.now × (text ≡ codes "act " ++ rest))
Says text messages.Unknown = Unit {0}

-- the server knows what is said
abbrev pub IsKnown : Message → Type 0
IsKnown messages.Unknown = ⊥
IsKnown message = Unit {0}

-- the message says something that the server knows
abbrev pub SaysSome : List ℕ → Type 0
SaysSome text = (message : Message) × IsKnown message × Says text message

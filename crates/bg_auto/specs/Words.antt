-- The random words of an automatic match: words of ChaCha20.
use Rattle.std.specs.Prelude.{ℕ, ◌+◌, ◌*◌, List, ◌++◌, replicate}
use Rattle.std.specs.Int.{w64, to_be_bytes}
use Rattle.rand_chacha.specs.ChaCha.{ChaCha, key_of, word_at}

-- ChaCha20 has twenty rounds, which are ten double rounds
abbrev pub double_rounds : ℕ
double_rounds = 10

-- the stream of the dice, and that of the schedule
abbrev pub dice_stream : ℕ
dice_stream = 1

abbrev pub schedule_stream : ℕ
schedule_stream = 2

-- the bytes of the key: the seed as eight bytes, the highest first, then 24 bytes 0
abbrev pub key_bytes : ℕ → List ℕ
key_bytes seed = to_be_bytes w64 seed ++ replicate 24 0

-- the word at a place, from 0, of a stream, for the 32 bytes of a key; and for the key of a seed
abbrev pub keyed_word : List ℕ → ℕ → ℕ → ℕ
keyed_word key stream place = word_at double_rounds (key_of key) stream place

abbrev pub word_of : ℕ → ℕ → ℕ → ℕ
word_of seed stream place = keyed_word (key_bytes seed) stream place

-- each entry has so many places, one for each attempt
abbrev pub attempts : ℕ
attempts = 65536

-- the word for the dice of entry n at an attempt, from 0, for the bytes of a key; and for the key
-- of a seed
abbrev pub keyed_dice_word : List ℕ → ℕ → ℕ → ℕ
keyed_dice_word key n attempt = keyed_word key dice_stream (attempts * n + attempt)

abbrev pub dice_word : ℕ → ℕ → ℕ → ℕ
dice_word seed n attempt = keyed_dice_word (key_bytes seed) n attempt

-- the two words that choose event i, from 0
abbrev pub event_words : ℕ → ℕ → ℕ × ℕ
event_words seed i = (word_of seed schedule_stream (2 * i), word_of seed schedule_stream (2 * i + 1))

-- the generator of the schedule's words before event i, from 0
abbrev pub schedule_at : ℕ → ℕ → ChaCha
schedule_at seed i = record { key = key_of (key_bytes seed); stream = schedule_stream; word_pos = 2 * i }

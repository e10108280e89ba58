-- What the readers of event lines say of a line and of its parts.
use Rattle.std.specs.Prelude.{◌≡◌, ℕ, ◌≤◌, List, Result, Ok, Err, codes}
use Rattle.std.specs.Fmt.{decimal}
use Rattle.bg_text.specs.Entries.Pairs.{Says}
use Rattle.bg_text.specs.declared.faults.TextFault.{TextFault}
use Rattle.bg_text.specs.declared.faults.TextFault.TheVariants.{NotALine}
use Rattle.bg_world.specs.Texts.EventText.{IsEvent, IsEventTextFault, IsLongNumeral, event_text}
use Rattle.bg_world.specs.declared.texts.event_lines.EventKind.{EventKind}
use Rattle.bg_world.specs.declared.texts.event_lines.EventKind.TheVariants as kind
use Rattle.bg_protocol.specs.declared.events.Event.{Event}
use Rattle.bg_protocol.specs.declared.events.Event.TheVariants as event

-- a word that says a number up to this one
abbrev pub IsNumberUpTo : ℕ → List ℕ → Result ℕ TextFault → Type 0
IsNumberUpTo most word result = Says IsLongNumeral (λ n. n ≤ most) decimal word result

-- what three words say together. Another shape is graver than a wrong number
abbrev pub take_of : Result ℕ TextFault → Result ℕ TextFault → Result ℕ TextFault → Result Event TextFault
take_of (Err NotALine) pick word = Err NotALine
take_of party (Err NotALine) word = Err NotALine
take_of party pick (Err NotALine) = Err NotALine
take_of (Err fault) pick word = Err fault
take_of (Ok party) (Err fault) word = Err fault
take_of (Ok party) (Ok pick) (Err fault) = Err fault
take_of (Ok party) (Ok pick) (Ok word) = Ok (event.Take party pick word)

-- the word that a line begins with, and its space
abbrev pub kind_start : EventKind → List ℕ
kind_start kind.Due = codes "due "
kind_start kind.Take = codes "take "
kind_start kind.Choose = codes "choose "
kind_start kind.Save = codes "save "
kind_start kind.Tick = codes "tick "
kind_start kind.Restart = codes "restart "

-- the event of a line, or what is wrong with the line
abbrev pub IsEventOf : List ℕ → Result Event TextFault → Type 0
IsEventOf line (Ok e) = IsEvent e × (line ≡ event_text e)
IsEventOf line (Err fault) = IsEventTextFault fault line

-- What a path names.
use Rattle.std.specs.Prelude.{◌≡◌, ℕ, ◌^◌, ◌<◌, ◌==◌, ◌&&◌, ◌||◌, nat_le, not, Bool, List, [], ◌++◌, codes, IsTrue, Option, Some, length}
use Rattle.std.specs.Fmt.{decimal}
use Rattle.std.specs.List.{list_all}
use denote.Bor.{Bor}
use Rattle.bg_requests.specs.declared.targets.Part.{Part}
use Rattle.bg_requests.specs.declared.targets.Part.TheVariants as parts
use Rattle.bg_requests.specs.declared.targets.Target.{Target}
use Rattle.bg_requests.specs.declared.targets.Target.TheVariants as targets

-- ---- names of matches

-- a letter, a digit, a hyphen or an underscore
abbrev pub may_be_in_name : ℕ → Bool
may_be_in_name byte =
    (nat_le 48 byte && nat_le byte 57) || (nat_le 65 byte && nat_le byte 90) || (nat_le 97 byte && nat_le byte 122)
    || byte == 45 || byte == 95

-- 1 to 64 of these
abbrev pub may_name : List ℕ → Bool
may_name name = list_all may_be_in_name name && not (length name == 0) && nat_le (length name) 64

-- ---- parts of a match

-- the word of a part, behind the name of its match and a slash; the page has none
abbrev pub IsWordOf : List ℕ → Part → Type 0
IsWordOf word parts.Page = ⊥
IsWordOf word parts.Embed = word ≡ codes "embed"
IsWordOf word parts.State = word ≡ codes "state"
IsWordOf word (parts.StateAfter count) = (word ≡ codes "states/" ++ decimal count) × (count < 2 ^ 32)
IsWordOf word parts.Transcript = word ≡ codes "transcript"
IsWordOf word parts.Mat = word ≡ codes "mat"
IsWordOf word parts.Picture = word ≡ codes "picture"
IsWordOf word parts.Dice = word ≡ codes "dice"
IsWordOf word parts.Actions = word ≡ codes "actions"
IsWordOf word parts.Live = word ≡ codes "live"

-- the word is that of a part
abbrev pub IsWord : List ℕ → Type 0
IsWord word = (part : Part) × IsWordOf word part

-- the part has no number
abbrev pub IsPlain : Part → Type 0
IsPlain (parts.StateAfter count) = ⊥
IsPlain part = Unit {0}

-- the word is that of a part that has no number
abbrev pub IsPlainWord : List ℕ → Type 0
IsPlainWord word = (part : Part) × IsPlain part × IsWordOf word part

-- what stands behind the name of a match
abbrev pub IsBehind : List ℕ → Part → Type 0
IsBehind behind parts.Page = behind ≡ []
IsBehind behind part = (word : List ℕ) × IsWordOf word part × (behind ≡ codes "/" ++ word)

-- a name and what stands behind it name this
abbrev pub IsNamedBehind : List ℕ → Target → Type 0
IsNamedBehind rest (targets.Of name part) =
    IsTrue (may_name name.now) × ((behind : List ℕ) × IsBehind behind part × (rest ≡ name.now ++ behind))
IsNamedBehind rest targets.Nothing = Unit {0}
IsNamedBehind rest _ = ⊥

-- something is named
abbrev pub IsFound : Target → Type 0
IsFound targets.Nothing = ⊥
IsFound target = Unit {0}

-- a name and what stands behind it name something
abbrev pub NamesSomeBehind : List ℕ → Type 0
NamesSomeBehind rest = (target : Target) × IsFound target × IsNamedBehind rest target

-- ---- paths

-- The path names this: each target has its own path.
abbrev pub IsNamedBy : List ℕ → Target → Type 0
IsNamedBy path targets.Home = path ≡ codes "/"
IsNamedBy path targets.Script = path ≡ codes "/script.js"
IsNamedBy path targets.Style = path ≡ codes "/style.css"
IsNamedBy path targets.Matches = path ≡ codes "/matches"
IsNamedBy path targets.Play = path ≡ codes "/play"
IsNamedBy path targets.PlayLive = path ≡ codes "/play/live"
IsNamedBy path targets.Health = path ≡ codes "/health"
IsNamedBy path targets.Metrics = path ≡ codes "/metrics"
IsNamedBy path (targets.Of name part) =
    (rest : List ℕ) × IsNamedBehind rest (targets.Of name part) × (path ≡ codes "/matches/" ++ rest)
IsNamedBy path targets.Nothing = Unit {0}

-- the path names something
abbrev pub NamesSome : List ℕ → Type 0
NamesSome path = (target : Target) × IsFound target × IsNamedBy path target

-- a name with a part, if there is one, comes to this: nothing, where no match may have the name
abbrev pub IsOfMatch : Bor (List ℕ) → Option Part → Target → Type 0
IsOfMatch name (Some part) (targets.Of found given) = (found ≡ name) × (given ≡ part) × IsTrue (may_name name.now)
IsOfMatch name part targets.Nothing = Unit {0}
IsOfMatch name part _ = ⊥

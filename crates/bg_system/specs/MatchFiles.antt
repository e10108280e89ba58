-- What all processes of a match agree on, and the text that says it.
use Rattle.std.specs.Prelude.{ℕ, ◌^◌, ◌<◌, List, ◌++◌, codes}
use Rattle.std.specs.Fmt.{decimal}
use Rattle.std.specs.Int.{IsInRange}
use Rattle.bg_match.specs.Limits.{IsMatchLength}
use Rattle.bg_match.specs.Terms.{match_length, rules_of}
use Rattle.bg_system.specs.Numbers.{rules_number}
use Rattle.bg_system.specs.declared.files.match_files.MatchFile.{MatchFile}

abbrev pub lowest_port : ℕ
lowest_port = 1024

-- so each of the 256 parties has a port
abbrev pub highest_port : ℕ
highest_port = 65280

-- what the processes of a match can agree on
pub record IsMatchFile (file : MatchFile) : Type 0 where
  pub numbered : file.id < 2 ^ 64
  pub played : IsMatchLength (match_length file.terms)
  pub heard : IsInRange lowest_port highest_port file.port

-- the text of a match file: a line, and its line feed
abbrev pub match_text : MatchFile → List ℕ
match_text file =
    codes "match " ++ decimal file.id
    ++ codes " length " ++ decimal (match_length file.terms)
    ++ codes " rules " ++ decimal (rules_number (rules_of file.terms))
    ++ codes " port " ++ decimal file.port
    ++ codes "\n"

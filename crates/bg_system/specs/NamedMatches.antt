-- What a match file says: a match, and how its players are called.
use Rattle.std.specs.Prelude.{ℕ, List, ◌++◌}
use Rattle.bg_system.specs.MatchFiles.{IsMatchFile, match_text}
use Rattle.bg_system.specs.NameLines.{IsNames, names_text}
use Rattle.bg_system.specs.declared.files.named_matches.NamedMatch.{NamedMatch}

-- what a match file can say
pub record IsNamedMatch (file : NamedMatch) : Type 0 where
  pub of_match : IsMatchFile file.table
  pub named : IsNames file.names

-- the text of a match file: that of the match, and the lines of the names
abbrev pub named_match_text : NamedMatch → List ℕ
named_match_text file = match_text file.table ++ names_text file.names

-- The parts of what a match file says.
use Rattle.std.proofs.Common.{◌≡◌, ℕ, List, ◌++◌, Some, append_assoc, refl}
use Rattle.bg_system.specs.MatchFiles.{match_text}
use Rattle.bg_system.specs.NameLines.{names_text}
use Rattle.bg_system.specs.NamedMatches.{named_match_text}
use Rattle.bg_system.specs.declared.files.match_files.MatchFile.{MatchFile}
use Rattle.bg_system.specs.declared.files.name_lines.Names.{Names}
use Rattle.bg_system.specs.declared.files.named_matches.NamedMatch.{NamedMatch}

-- the names stand behind the match
pub behind_table : (file : NamedMatch) (rest : List ℕ)
    → named_match_text file ++ rest ≡ match_text file.table ++ (names_text file.names ++ rest)
behind_table file rest = parts (match_text file.table) (names_text file.names)
  where
    parts : (table names : List ℕ) → (table ++ names) ++ rest ≡ table ++ (names ++ rest)
    parts table names = simp append_assoc refl

-- what has these parts is the same
pub same_named_match : (file : NamedMatch) (table : MatchFile) (names : Names) → table ≡ file.table → names ≡ file.names
    → record { table = table; names = names } ≡ file
same_named_match file table names one two = rw (one, two) refl

pub same_found_match : (a b : NamedMatch) → Some a ≡ Some b → a ≡ b
same_found_match a b same = cc same

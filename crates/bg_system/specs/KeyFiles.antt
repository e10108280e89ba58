-- What a match is handed to a party by, and the text that says it.
use Rattle.std.specs.Prelude.{◌≡◌, ℕ, List, ◌++◌, None, codes, length}
use Rattle.std.specs.Fmt.{decimal}
use Rattle.std.specs.Int.{IsInRange}
use Rattle.hex.specs.Hex.{IsBytes, encode_lower}
use Rattle.bg_seals.specs.Keys.{key_bytes, party_key}
use Rattle.bg_wire.specs.Entries.Codes.{first_watcher, seat_of_o, seat_of_x}
use Rattle.bg_system.specs.MatchFiles.{IsMatchFile, match_text}
use Rattle.bg_system.specs.NameLines.{IsNames, names_text}
use Rattle.bg_system.specs.declared.files.key_files.KeyFile.{KeyFile}
use Rattle.bg_system.specs.declared.files.key_files.KeyFiles.{KeyFiles}
use Rattle.bg_system.specs.declared.files.match_files.MatchFile.{MatchFile}
use Rattle.bg_system.specs.declared.files.name_lines.Names.{Names}

-- what a party can be handed: the match, names, the seat's number or that of the first watcher for
-- all of them, and a key
pub record IsKeyFile (file : KeyFile) : Type 0 where
  pub of_match : IsMatchFile file.table
  pub named : IsNames file.names
  pub of_party : IsInRange seat_of_x first_watcher file.party
  pub whole : length file.key ≡ key_bytes
  pub bytes : IsBytes file.key

-- the text of a key file: that of the match file, and a line with the key in hexadecimal digits
abbrev pub key_file_text : KeyFile → List ℕ
key_file_text file =
    match_text file.table ++ names_text file.names
    ++ codes "key " ++ decimal file.party
    ++ codes " " ++ encode_lower file.key
    ++ codes "\n"

-- the file of a party whose key is derived from a secret, without names
abbrev pub key_file_of : MatchFile → List ℕ → ℕ → KeyFile
key_file_of table secret party = record {
  table = table;
  names = record { x = None; o = None };
  party = party;
  key = party_key secret table.id party;
}

-- the file with other names
abbrev pub with_names : Names → KeyFile → KeyFile
with_names names file = record file { names = names }

-- those of all parties of a match
abbrev pub key_files_of : MatchFile → List ℕ → KeyFiles
key_files_of table secret = record {
  x = key_file_of table secret seat_of_x;
  o = key_file_of table secret seat_of_o;
  watchers = key_file_of table secret first_watcher;
}

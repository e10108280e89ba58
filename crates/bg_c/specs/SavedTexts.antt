-- What is told of one saved text.
use Rattle.std.specs.Prelude.{◌≡◌, ℕ, List, length, replicate, Result, Ok, Err}
use Rattle.bg_match.specs.Terms.{match_length, rules_of}
use Rattle.bg_wire.specs.Entries.Codes.{rules_code}
use Rattle.bg_wire.specs.Saved.SavedText.{HasEntries, IsSavedText, SavedParts}
use Rattle.bg_party.specs.Claims.{claim_number}
use Rattle.bg_c.specs.declared.saved_texts.PeekedFields.{PeekedFields}
use Rattle.bg_c.specs.declared.statuses.Status.{Status}
use Rattle.bg_c.specs.declared.statuses.Status.TheVariants.{Memory, NotASave}

abbrev pub peeked_fields : SavedParts → PeekedFields
peeked_fields p = record {
  id = p.id;
  party = p.party;
  match_length = match_length p.terms;
  rules = rules_code (rules_of p.terms);
  save = p.save;
  entries = length p.entries;
  claim = claim_number p.claim;
  reserved = replicate 4 0;
}

-- the bytes are no saved text
abbrev pub IsNoSave : List ℕ → Type 0
IsNoSave bytes = (p : SavedParts) → IsSavedText p bytes → ⊥

-- what is read of bytes: the fields of the save whose text they are. Memory is wanted for its
-- entries
abbrev pub PeeksSave : List ℕ → Result PeekedFields Status → Type 0
PeeksSave bytes (Ok fields) = (p : SavedParts) × IsSavedText p bytes × (fields ≡ peeked_fields p)
PeeksSave bytes (Err NotASave) = IsNoSave bytes
PeeksSave bytes (Err Memory) = HasEntries bytes
PeeksSave bytes (Err _) = ⊥

use Rattle.bg_text.proofs.Spelling.EntryTexts.{one_entry}
use Rattle.bg_text.proofs.entries.writing.entry_texts_differ.Goals as goal

pub returns : goal.returns
returns c = one_entry

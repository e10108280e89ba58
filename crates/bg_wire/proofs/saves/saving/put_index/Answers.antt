use Rattle.std.proofs.Common.{ap, ◌∙◌, sym, ◌++◌, List, ℕ}
use Rattle.bg_wire.specs.Entries.EntryText.{bytes_of}
use Rattle.bg_wire.proofs.OfSaves.SavedEntries.{at_next}
use Rattle.bg_wire.proofs.saves.saving.put_index.Goals as goal

pub returns-in-Some-clause-text : goal.returns-in-Some-clause-text
returns-in-Some-clause-text c =
    let found = sym (at_next c.args.log.now.entries c.args.index) ∙ sym c.in-Some.ensures in
    c.put_entry.ensures.text ∙ ap (λ (r : List ℕ). c.args.chunk.now ++ r) (sym (ap bytes_of found))

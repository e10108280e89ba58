use Rattle.std.proofs.Common.{refl, sym, ◌∙◌, ◌++◌, ◌+◌, ◌≡◌, List, ℕ, ap, append_assoc, arith, length, length-append, take}
use Rattle.bg_wire.specs.Entries.EntryText.{entries_bytes, bytes_at}
use Rattle.bg_wire.proofs.OfSaves.SavedEntries.{written_next, written_fits}
use Rattle.bg_wire.proofs.saves.saving.push_entries.Goals as goal

pub append_full-requires : goal.append_full-requires
append_full-requires c =
    let entries = c.args.log.now.entries in
    let start = c.args.text.now.items in
    let text = c.loop-index.text.items in
    let chunk = c.loop-index.chunk in
    let new = text ++ c.put_index.new.chunk in
    let added = bytes_at entries c.loop-index.index in
    let grown : new ≡ (text ++ chunk) ++ added =
    ap (λ (r : List ℕ). text ++ r) c.put_index.ensures.text ∙ sym (append_assoc text chunk added) in
    let written : new ≡ start ++ entries_bytes (take (c.loop-index.index + 1) entries) =
    written_next entries c.loop-index.index start (text ++ chunk) new added c.loop-index.invariant.text grown refl in
    let fits = written_fits entries (c.loop-index.index + 1) start new _ written c.requires.room in
    omega (arith, fits, c.loop-index.invariant.capacity)

pub append-requires : goal.append-requires
append-requires c =
    let text = c.loop-index.text.items in
    let chunk = c.loop-index.chunk in
    let fits = written_fits c.args.log.now.entries c.loop-index.index c.args.text.now.items (text ++ chunk) _
    c.loop-index.invariant.text c.requires.room in
    let both = length-append text chunk in
    let slice = ap length c.as_slice.ensures.value in
    omega (arith, fits, both, slice, c.loop-index.invariant.capacity)

pub loop-index-preserved : goal.loop-index-preserved
loop-index-preserved c =
    let text = c.loop-index.text.items in
    let chunk = c.loop-index.chunk in
    let added = bytes_at c.args.log.now.entries c.loop-index.index in
    record {
      text = written_next c.args.log.now.entries c.loop-index.index c.args.text.now.items (text ++ chunk)
          (c.append_full.new.text.items ++ c.append_full.new.chunk) added c.loop-index.invariant.text
          (c.append_full.ensures.same ∙ ap (λ (r : List ℕ). text ++ r) c.put_index.ensures.text
          ∙ sym (append_assoc text chunk added)) refl;
      room = c.append_full.ensures.room;
      capacity = omega (arith, c.loop-index.invariant.capacity, c.append_full.ensures.capacity);
      end = c.len-index-end.ensures.value;
    }

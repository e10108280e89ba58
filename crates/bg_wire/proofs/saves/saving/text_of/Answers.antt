use Rattle.std.proofs.Common.{◌∙◌, ◌++◌, ap, arith, length, List, ℕ}
use Rattle.bg_wire.specs.Entries.EntryText.{entries_bytes}
use Rattle.bg_wire.specs.Saved.SavedText.{parts_with}
use Rattle.bg_wire.proofs.Lengths.{length-saved_text, length-entries_text}
use Rattle.bg_wire.proofs.saves.saving.text_of.Goals as goal

pub push_entries-requires : goal.push_entries-requires
push_entries-requires c =
    let made = c.in_ok-text.ensures in
    let begun = ap length (c.append.ensures.items ∙ ap (λ (r : List ℕ). r ++ c.as_slice-front.result.now) made.items ∙ c.as_slice-front.ensures.value) in
    let entries = length-entries_text c.args.log.now.entries c.len.ensures.in_range in
    omega (arith, begun, entries, made.capacity, ap length c.as_slice-front.ensures.value, c.append.ensures.capacity, c.len.ensures.value)

pub returns-clause-text : goal.returns-clause-text
returns-clause-text c =
    let front = c.front_text-front.ensures in
    let made = c.in_ok-text.ensures.items in
    let begun = c.append.ensures.items ∙ ap (λ (r : List ℕ). r ++ c.as_slice-front.result.now) made
    ∙ c.as_slice-front.ensures.value ∙ front.text in
    record {
      layout = record {
        in_layout = front.in_layout;
        spelled = c.push_entries.ensures
            ∙ ap (λ (r : List ℕ). r ++ entries_bytes c.args.log.now.entries) begun;
      };
      legal = front.legal;
    }

pub returns-clause-longest : goal.returns-clause-longest
returns-clause-longest c =
    let text = returns-clause-text c in
    let p = parts_with c.args.party c.args.save c.args.claim.now c.args.log.now in
    omega (arith, ap length text.layout.spelled, length-saved_text p text.layout.in_layout)

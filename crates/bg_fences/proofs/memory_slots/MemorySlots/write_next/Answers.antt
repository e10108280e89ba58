use Rattle.std.proofs.Common.{refl, ap, ◌∙◌, List, ℕ}
use Rattle.bg_wire.specs.Saved.SlotLaws.{with_slot}
use Rattle.bg_fences.proofs.FencedWrites.{is_next_text, next_told}
use Rattle.bg_fences.proofs.memory_slots.MemorySlots.write_next.Goals as goal

pub returns-then-not-is_next : goal.returns-then-not-is_next
returns-then-not-is_next c = (
  λ text.
      let is = c.is_next.ensures.1 (next_told c.args.self.now c.args.slot c.args.bytes.now _ _ c.in_ok-number.ensures c.in_ok-newest.ensures text) in
      cc (is, c.if-not-is_next.true),
  refl,
)

pub returns : goal.returns
returns c =
    let is = c.is_next.ensures.0 c.if-not-is_next.false in
    let copied = c.in_ok-to_vec.ensures.items_if_clones_equal (λ x y same. same) in (
      is_next_text c.args.self.now c.args.slot c.args.bytes.now _ _ c.in_ok-number.ensures c.in_ok-newest.ensures is.0 is.1,
      c.set.ensures ∙ ap (λ (bytes : List ℕ). with_slot c.args.self.now c.args.slot bytes) copied,
    )

use Rattle.std.proofs.Common.{length, take, ap, arith, ◌∙◌, ◌++◌}
use Rattle.std.specs.List.{flat_map}
use Rattle.bg_ids.specs.Bits.{number_bits}
use Rattle.bg_ids.proofs.Read.{ten_long, none_decode, decoded_same, decoded_ten}
use Rattle.bg_ids.proofs.reading.bits_of.Goals as goal

pub returns-then-text-ne-MOST_CHARACTERS-clause-none : goal.returns-then-text-ne-MOST_CHARACTERS-clause-none
returns-then-text-ne-MOST_CHARACTERS-clause-none c = λ ten. c.if-text-ne-MOST_CHARACTERS.true (ten_long c.args.text.now ten)

pub put_bytes-requires : goal.put_bytes-requires
put_bytes-requires c =
    let same = decoded_same _ _ c.type_inv.text c.in-Ok.ensures.ok.0 in
    omega (arith, decoded_ten _ _ c.if-text-ne-MOST_CHARACTERS.false same, ap length c.new-bits.ensures)

pub returns-in-Ok-clause-some : goal.returns-in-Ok-clause-some
returns-in-Ok-clause-some c =
    let same = decoded_same _ _ c.type_inv.text c.in-Ok.ensures.ok.0 in (
      take c.in-Ok.count c.decode_slice_unchecked.new.output,
      record { small = c.put_bytes.ensures.small; ten = decoded_ten _ _ c.if-text-ne-MOST_CHARACTERS.false same; same = same },
      c.put_bytes.ensures.items ∙ ap (λ t. t ++ flat_map (number_bits 8) (take c.in-Ok.count c.decode_slice_unchecked.new.output)) c.new-bits.ensures,
    )

pub returns-in-Err-clause-none : goal.returns-in-Err-clause-none
returns-in-Err-clause-none c = none_decode c.args.text.now _ c.in-Err.ensures.err

use Rattle.std.proofs.Common.{◌∙◌}
use Rattle.bg_system.specs.Names.{IsName}
use Rattle.bg_system.proofs.NameBytes.{few_bytes, written_over}
use Rattle.bg_system.proofs.files.names.Name.of.Goals as goal

pub invariant_of-result : goal.invariant_of-result
invariant_of-result c =
    let named : IsName c.args.text.now = record { valid = c.utf8.text; fine = c.requires } in
    written_over c.args.text.now c.copy_from_slice.new.self (c.copy_from_slice.ensures.after ∙ c.as_bytes.ensures.value)
    (few_bytes c.args.text.now c.requires) named

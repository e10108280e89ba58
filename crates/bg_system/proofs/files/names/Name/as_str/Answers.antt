use Rattle.bg_system.proofs.NameBytes.{is_read}
use Rattle.bg_system.proofs.files.names.Name.as_str.Goals as goal

pub unwrap-requires : goal.unwrap-requires
unwrap-requires c = is_read _ _ _ c.from_utf8.result c.self.invariant.3.valid c.from_utf8.ensures.cases

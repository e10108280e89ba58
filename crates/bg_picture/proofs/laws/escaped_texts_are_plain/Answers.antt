use Rattle.std.proofs.Common.{map}
use Rattle.bg_picture.specs.Escapes.{escaped_byte}
use Rattle.bg_picture.proofs.Plain.{text_parts, text_plain}
use Rattle.bg_picture.proofs.laws.escaped_texts_are_plain.Goals as goal

pub returns-clause-plain : goal.returns-clause-plain
returns-clause-plain c = text_plain

pub returns-clause-references : goal.returns-clause-references
returns-clause-references c = λ text. (map escaped_byte text, (text_parts text).0, (text_parts text).1)

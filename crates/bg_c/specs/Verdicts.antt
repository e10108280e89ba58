-- Verdicts, as C sees them.
use Rattle.std.specs.Prelude.{replicate}
use Rattle.bg_text.specs.declared.judging.verdicts.Verdict.{Verdict}
use Rattle.bg_text.specs.declared.judging.verdicts.Verdict.TheVariants.{Fine, Refused, TooLong}
use Rattle.bg_c.specs.declared.judge.VerdictFields.{VerdictFields}

-- the number of entries or of the refused line; an input that is too long has none
abbrev pub verdict_fields : Verdict → VerdictFields
verdict_fields (Fine entries) = record { kind = 0; number = entries; reserved = replicate 2 0 }
verdict_fields (Refused line) = record { kind = 1; number = line; reserved = replicate 2 0 }
verdict_fields TooLong = record { kind = 2; number = 0; reserved = replicate 2 0 }

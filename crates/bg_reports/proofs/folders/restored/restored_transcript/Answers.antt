use Rattle.std.proofs.Common.{Some}
use Rattle.bg_wire.specs.Saved.SavedText.{parts_of}
use Rattle.bg_reports.specs.Show.{loaded_of}
use Rattle.bg_reports.proofs.folders.restored.restored_transcript.Goals as goal

pub returns-in-Some : goal.returns-in-Some
returns-in-Some c = (
  Some (parts_of c.in-Some.saved.now),
  record {
    first = loaded_of c.in_ok-zero.zero;
    second = loaded_of c.in_ok-one.one;
    first_loads = c.in_ok-zero.ensures.loads;
    second_loads = c.in_ok-one.ensures.loads;
    is_newer = c.in-Some.ensures;
  },
  c.in_ok-transcript_text-in-Some.ensures,
)

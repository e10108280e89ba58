use Rattle.std.proofs.Common.{refl}
use Rattle.bg_match.specs.declared.entries.Entry.TheVariants as entry
use Rattle.bg_mat.specs.Telling as telling
use Rattle.bg_mat.proofs.OfReading.LegLemmas.{on_ok}
use Rattle.bg_mat.proofs.OfReading.Replays as replays
use Rattle.bg_mat.proofs.playing.Replay.double.Goals as goal

pub returns-clause-done : goal.returns-clause-done
returns-clause-done c =
    on_ok c.add.result
    (λ added. replays.alone c.args.self.now c.add.new.self c.args.line c.args.player (telling.Doubles c.args.said) entry.Doubled
    (c.requires.goes_on, c.is_to_act.ensures.0 c.if-not-is_to_act.false, c.shows.ensures.0 c.if-not-shows.false, refl)
    c.requires.closed added)
    c.add.ensures.done

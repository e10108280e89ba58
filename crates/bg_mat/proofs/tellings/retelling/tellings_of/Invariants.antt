use Rattle.bg_mat.proofs.OfWriting.RetoldRecords.{IsPartTold}
use Rattle.bg_mat.proofs.tellings.retelling.tellings_of.Given as goal

abbrev pub invariant-loop-written : goal.invariant-loop-written
invariant-loop-written l = IsPartTold l.log l.written l.standing l.tellings.items

use Rattle.bg_fences.proofs.AllNodes.{nodes_agree}
use Rattle.bg_fences.proofs.laws.fenced_nodes_agree.Goals as goal

pub returns : goal.returns
returns c = nodes_agree

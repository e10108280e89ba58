use Rattle.bg_text.proofs.Judged.OneJudgement.{one_judgement}
use Rattle.bg_text.proofs.judging.judgements_agree.Goals as goal

pub returns : goal.returns
returns c = one_judgement

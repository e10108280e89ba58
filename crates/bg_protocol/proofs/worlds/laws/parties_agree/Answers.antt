use Rattle.bg_protocol.proofs.worlds.laws.parties_agree.Goals as goal
use Rattle.bg_protocol.proofs.Protocol.Reached.{reached, headline, agreement}

pub returns-clause-headline : goal.returns-clause-headline
returns-clause-headline c = λ w h. headline w (reached w h)

pub returns-clause-agreement : goal.returns-clause-agreement
returns-clause-agreement c = λ w h. agreement w (reached w h)

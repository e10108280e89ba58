use Rattle.bg_world.proofs.Lines.OutcomeTexts.{texts_differ}
use Rattle.bg_world.proofs.texts.outcome_texts.outcome_texts_differ.Goals as goal

pub returns : goal.returns
returns c = texts_differ

use Rattle.bg_fences.proofs.AllCalls.{headline, reached_by_processes}
use Rattle.bg_fences.proofs.Newest.{holds_of_newest}
use Rattle.bg_fences.proofs.Words.{shows_words}
use Rattle.bg_fences.proofs.laws.fenced_processes_agree.Goals as goal

pub returns-clause-headline : goal.returns-clause-headline
returns-clause-headline c = λ m h. headline m (reached_by_processes m h).1

pub returns-clause-newest : goal.returns-clause-newest
returns-clause-newest c = λ m h. holds_of_newest m (reached_by_processes m h).1

pub returns-clause-words : goal.returns-clause-words
returns-clause-words c = λ m h. shows_words m h

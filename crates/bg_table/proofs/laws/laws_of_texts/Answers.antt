use Rattle.bg_table.proofs.Listed.{fits_lines}
use Rattle.bg_table.proofs.Named.{names_step}
use Rattle.bg_table.proofs.Won.{tells_win}
use Rattle.bg_table.proofs.laws.laws_of_texts.Goals as goal

pub returns-clause-step : goal.returns-clause-step
returns-clause-step c = names_step

pub returns-clause-win : goal.returns-clause-win
returns-clause-win c = tells_win

pub returns-clause-lines : goal.returns-clause-lines
returns-clause-lines c = fits_lines

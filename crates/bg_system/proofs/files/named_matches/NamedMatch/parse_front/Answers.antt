use Rattle.std.proofs.Common.{◌∙◌, ◌++◌}
use Rattle.bg_system.specs.NameLines.{names_text}
use Rattle.bg_system.proofs.MatchedNames.{behind_table, same_named_match}
use Rattle.bg_system.proofs.files.named_matches.NamedMatch.parse_front.Goals as goal

pub returns-in_err-table-clause-all : goal.returns-in_err-table-clause-all
returns-in_err-table-clause-all c = λ file rest fine past is.
    absurd (c.in_err-table.ensures.all file.table (names_text file.names ++ rest) fine.of_match (is ∙ behind_table file rest))

pub returns-in_default-clause-all : goal.returns-in_default-clause-all
returns-in_default-clause-all c = λ file rest fine past is.
    let table = c.in_ok-table.ensures.all file.table (names_text file.names ++ rest) fine.of_match (is ∙ behind_table file rest) in
    c.in_default.ensures.all file.names rest fine.named past table.1

pub returns-clause-all : goal.returns-clause-all
returns-clause-all c = λ file rest fine past is.
    let table = c.in_ok-table.ensures.all file.table (names_text file.names ++ rest) fine.of_match (is ∙ behind_table file rest) in
    let names = c.in-Some.ensures.all file.names rest fine.named past table.1 in
    (same_named_match file c.in_ok-table.table c.in-Some.names table.0 names.0, names.1)

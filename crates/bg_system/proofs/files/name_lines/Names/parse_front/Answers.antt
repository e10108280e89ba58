use Rattle.std.proofs.Common.{◌∙◌, ◌++◌, codes}
use Rattle.bg_system.specs.NameLines.{name_line}
use Rattle.bg_system.proofs.NameTexts.{if_none, lacks_o, lacks_x, names_parts, same_names}
use Rattle.bg_system.proofs.files.name_lines.Names.parse_front.Goals as goal

pub returns-in_default-split_name-clause-all : goal.returns-in_default-split_name-clause-all
returns-in_default-split_name-clause-all c = λ names rest named past is.
    let first = c.in-Some.ensures.all names.x (name_line (codes "name-o ") names.o ++ rest) named.0
    (if_none names.x (lacks_x names.o rest past)) (is ∙ names_parts names rest) in
    c.in_default-split_name.ensures.all names.o rest named.1 (if_none names.o (lacks_o rest past)) first.1

pub returns-clause-all : goal.returns-clause-all
returns-clause-all c = λ names rest named past is.
    let first = c.in-Some.ensures.all names.x (name_line (codes "name-o ") names.o ++ rest) named.0
    (if_none names.x (lacks_x names.o rest past)) (is ∙ names_parts names rest) in
    let second = c.in-Some-split_name.ensures.all names.o rest named.1 (if_none names.o (lacks_o rest past)) first.1 in
    (same_names names c.in-Some.x c.in-Some-split_name.o first.0 second.0, second.1)

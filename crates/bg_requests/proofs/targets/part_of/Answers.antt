use Rattle.std.proofs.Common.{None, Some, arith}
use Rattle.std.proofs.lemmas.Str.Pattern.{split_parts}
use Rattle.bg_requests.proofs.Named.{named_behind}
use Rattle.bg_requests.proofs.Total.{name_and_word, whole_name}
use Rattle.bg_requests.proofs.targets.part_of.Goals as goal

pub returns-in-Some-clause-named : goal.returns-in-Some-clause-named
returns-in-Some-clause-named c =
    let split = split_parts 47 c.args.rest.now (Some (c.in-Some.name, c.in-Some.word)) c.in-Some.ensures.cases (omega arith) in
    named_behind c.args.rest.now c.in-Some.name c.in-Some.word.now c.part_named.result c.of_match-in-Some.result split.0
    c.part_named.ensures.named c.of_match-in-Some.ensures.named

pub returns-in-None-clause-total : goal.returns-in-None-clause-total
returns-in-None-clause-total c named =
    let none = split_parts 47 c.args.rest.now None c.in-None.ensures.cases (omega arith) in
    c.of_match.ensures.total (search) (whole_name c.args.rest.now none named)

pub returns-in-Some-clause-total : goal.returns-in-Some-clause-total
returns-in-Some-clause-total c named =
    let split = split_parts 47 c.args.rest.now (Some (c.in-Some.name, c.in-Some.word)) c.in-Some.ensures.cases (omega arith) in
    let both = name_and_word c.args.rest.now (c.in-Some.name, c.in-Some.word) c.in-Some.ensures.cases split.0 named in
    c.of_match-in-Some.ensures.total (c.part_named.ensures.total both.1) both.0

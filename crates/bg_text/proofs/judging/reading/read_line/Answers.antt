use Rattle.std.proofs.Common.{◌≡◌, Ok, ap, rules}
use Rattle.bg_text.proofs.Judged.ReadLines.{read_of_line, same_found}
use Rattle.bg_text.proofs.judging.reading.read_line.Goals as goal

pub returns-in_err-seat-clause-only : goal.returns-in_err-seat-clause-only
returns-in_err-seat-clause-only c e at =
    let read = read_of_line c.args.standing.now c.args.line.now c.parse_entry.result c.parse_entry.ensures.only e at in
    let fine = rw read at c.map_err.ensures.cases in
    let failed = c.in_err-seat.was in cc

pub returns-clause-found : goal.returns-clause-found
returns-clause-found c =
    let was : c.parse_entry.result ≡ Ok (c.in_ok-seat.seat, c.in_ok-seat.entry) = search (rules, c.in_ok-seat.was, c.in_ok-seat.ensures.cases) in
    let found = rw was at c.parse_entry.ensures.found in
    (c.in_ok-seat.seat, found.0, found.1, found.2, λ wrong. let right = c.if-is_wrong_seat.false in let wrongly = c.is_wrong_seat.ensures.1 wrong in cc)

pub returns-clause-only : goal.returns-clause-only
returns-clause-only c e at =
    let was : c.parse_entry.result ≡ Ok (c.in_ok-seat.seat, c.in_ok-seat.entry) = search (rules, c.in_ok-seat.was, c.in_ok-seat.ensures.cases) in
    ap Ok (same_found _ _ _ _ was (read_of_line c.args.standing.now c.args.line.now c.parse_entry.result c.parse_entry.ensures.only e at))

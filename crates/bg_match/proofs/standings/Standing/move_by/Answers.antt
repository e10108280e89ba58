use Rattle.std.proofs.Common.{rules}
use Rattle.bg_match.proofs.standings.Standing.move_by.Goals as goal

pub returns-in_err-map_err-clause-ok : goal.returns-in_err-map_err-clause-ok
returns-in_err-map_err-clause-ok c = rw (← c.self.view_is) (
  λ ok. search (rules, ok, c.from_residual.ensures),
  λ legal. search (rules, c.play_turn.ensures.ok.1 legal, c.map_err.ensures.cases, c.in_err-map_err.was),
)

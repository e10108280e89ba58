use Rattle.std.specs.Prelude.{IfSome}
use Rattle.bg_site.specs.Places.{HasSeatAt}
use Rattle.bg_site.proofs.sites.Site.by_secret.Given as goal

abbrev pub invariant-loop-index : goal.invariant-loop-index
invariant-loop-index g l = IfSome l.found (λ seat. HasSeatAt l.self.places.items l.digest seat.0 seat.1)

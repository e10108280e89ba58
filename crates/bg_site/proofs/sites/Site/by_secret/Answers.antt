use Rattle.std.proofs.Common.{List, ℕ, subst}
use Rattle.std.specs.Prelude.{IfSome}
use Rattle.bg_site.specs.Places.{HasSeatAt}
use Rattle.bg_site.proofs.sites.Site.by_secret.Goals as goal

pub returns : goal.returns
returns g c =
    subst (λ (d : List ℕ). IfSome c.loop-index.found (λ seat. HasSeatAt c.args.self.now.places.items d seat.0 seat.1))
    c.digest_of-digest.ensures c.loop-index.invariant

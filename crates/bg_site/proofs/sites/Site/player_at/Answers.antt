use Rattle.std.proofs.Common.{◌≡◌, Some}
use Rattle.std.specs.Prelude.{slice_get}
use Rattle.bg_site.proofs.AtPlaces.{found_at, seated}
use Rattle.bg_site.proofs.sites.Site.player_at.Goals as goal

pub returns-in-Some : goal.returns-in-Some
returns-in-Some g c =
    let at = found_at c.deref.result.now c.args.index c.in-Some.place.now c.in-Some.ensures.lookup.3.0 c.in-Some.ensures.lookup.1 in
    let there : slice_get c.args.self.now.places.items c.args.index ≡ Some c.in-Some.place.now = cc in
    seated c.args.self.now.places.items c.args.digest.now c.args.index c.in-Some.place.now c.player_of.result there c.player_of.ensures

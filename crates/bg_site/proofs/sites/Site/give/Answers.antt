use Rattle.std.proofs.Common.{◌≡◌, Some}
use Rattle.std.specs.Prelude.{slice_get}
use Rattle.bg_site.proofs.AtPlaces.{found_at, given_ended, given_live}
use Rattle.bg_site.proofs.sites.Site.give.Goals as goal

pub returns-in-Some-held : goal.returns-in-Some-held
returns-in-Some-held g c =
    let at = found_at c.deref.result.now c.args.index c.in-Some.place.now c.in-Some.ensures.lookup.3.0 c.in-Some.ensures.lookup.1 in
    let there : slice_get c.args.self.now.places.items c.args.index ≡ Some c.in-Some.place.now = cc in
    given_live g.K.Keeper c.args.self.now.places.items c.args.index c.args.asked c.in-Some.place.now c.in-Some-held.record.now
    c.text_of.result there c.in-Some-held.ensures c.text_of.ensures

pub returns-in-Some-load : goal.returns-in-Some-load
returns-in-Some-load g c =
    let at = found_at c.deref.result.now c.args.index c.in-Some.place.now c.in-Some.ensures.lookup.3.0 c.in-Some.ensures.lookup.1 in
    let there : slice_get c.args.self.now.places.items c.args.index ≡ Some c.in-Some.place.now = cc in
    given_ended g.K.Keeper c.args.self.now.places.items c.args.index c.args.asked c.in-Some.place.now
    c.text_of-in-Some-load.result there (λ some. let is = c.is_live.ensures.1 some in absurd (cc))

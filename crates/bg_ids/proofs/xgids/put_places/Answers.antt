use Rattle.std.proofs.Common.{◌<◌, ◌∙◌, arith}
use Rattle.std.proofs.lemmas.Str.{encode_ascii}
use Rattle.bg_ids.proofs.Places.{places_more, places_end, pushed_length}
use Rattle.bg_ids.proofs.xgids.put_places.Goals as goal

pub push-requires : goal.push-requires
push-requires c =
    let low : c.from.result < 128 = omega (arith, c.from.ensures, c.place_mark.ensures.ascii) in
    (omega arith, rw (encode_ascii c.from.result low) (omega (arith, c.loop-place.invariant.len, c.requires, c.loop-place-test.true)))

pub loop-place-preserved : goal.loop-place-preserved
loop-place-preserved c =
    let low : c.from.result < 128 = omega (arith, c.from.ensures, c.place_mark.ensures.ascii) in
    let added = c.push.ensures.ascii low in
    record {
      bytes = places_more _ _ _ _ _ _ c.loop-place.invariant.bytes (c.from.ensures ∙ c.place_mark.ensures.mark) added;
      len = pushed_length _ _ _ _ _ c.loop-place.invariant.len added;
    }

pub returns-clause-bytes : goal.returns-clause-bytes
returns-clause-bytes c = places_end _ _ _ _ c.loop-place.auto.place-end c.loop-place-test.false c.loop-place.invariant.bytes

-- What is found at a place.
use Rattle.std.proofs.Common.{◌≡◌, ℕ, ◌<◌, List, length, get_or, Option, Some, None, Result, Ok, Err, refl, sym, ap, subst, ◌∙◌}
use Rattle.std.specs.Prelude.{IfOk, IfSome, IsSome, slice_get}
use Rattle.std.proofs.lemmas.Option.{slice_get-get_or}
use Rattle.bg_board.specs.declared.players.Player.{Player}
use Rattle.bg_hosted.specs.declared.hosted_matches.HostedMatch.{HostedMatch}
use Rattle.bg_match.specs.Match.{Log}
use Rattle.bg_protocol.specs.declared.devices.Keeper as keeper
use Rattle.bg_site.specs.Given.{IsGivenOf}
use Rattle.bg_site.specs.Places.{HasSeatAt, IsGivenAt, player_in, told_in}
use Rattle.bg_site.specs.declared.files.Asked.{Asked}
use Rattle.bg_site.specs.declared.files.Given.{Given}
use Rattle.bg_site.specs.declared.places.Place.{Place}

pub found_at : {X : Type 0} (xs : List X) (i : ℕ) (x : X) → i < length xs → x ≡ get_or xs i x → slice_get xs i ≡ Some x
found_at xs i x within is = slice_get-get_or xs i x within ∙ ap (λ y. Some y) (sym is)

-- the player whose seat has the digest has it at this place
pub seated : {K : Type 0} (places : List (Place K)) (digest : List ℕ) (index : ℕ) (place : Place K) (found : Option Player)
    → slice_get places index ≡ Some place → found ≡ player_in place.seats digest
    → IfSome found (λ player. HasSeatAt places digest index player)
seated places digest index place None there is = tt
seated places digest index place (Some player) there is = (place, there, sym is)

-- what is given of the record that everybody is told
pub given_live : {K E : Type 0} (k : keeper.Ghosts K) (places : List (Place K)) (index : ℕ) (asked : Asked) (place : Place K)
    (log : Log) (result : Result Given E) → slice_get places index ≡ Some place → Some log ≡ told_in k place.hosted
    → IfOk result (λ given. IsGivenOf log asked given) → IfOk result (λ given. IsGivenAt k places index asked given)
given_live k places index asked place log (Err e) there told is = tt
given_live k places index asked place log (Ok given) there told is = λ other held at holds.
    let same : place ≡ other = cc in
    let logs : log ≡ held = cc in
    subst (λ (l : Log). IsGivenOf l asked given) logs is

some_told : {K : Type 0} (k : keeper.Ghosts K) (hosted : Option (HostedMatch K)) (log : Log) → told_in k hosted ≡ Some log
    → IsSome hosted
some_told k None log is = absurd (cc)
some_told k (Some hosted) log is = refl

-- nothing is said of what is given of a match that has ended
pub given_ended : {K E : Type 0} (k : keeper.Ghosts K) (places : List (Place K)) (index : ℕ) (asked : Asked) (place : Place K)
    (result : Result Given E) → slice_get places index ≡ Some place → (IsSome place.hosted → ⊥)
    → IfOk result (λ given. IsGivenAt k places index asked given)
given_ended k places index asked place (Err e) there none = tt
given_ended k places index asked place (Ok given) there none = λ other held at holds.
    let same : other ≡ place = cc in
    absurd (none (some_told k place.hosted held (sym (ap (λ (p : Place _). told_in k p.hosted) same) ∙ holds)))

-- What contracts see of the matches of a server.
use Rattle.std.specs.Prelude.{◌≡◌, ◌≢◌, ℕ, List, ◌++◌, codes, Option, Some, None, slice_get}
use Rattle.sha2.specs.Sha256.{sha256}
use Rattle.bg_board.specs.declared.players.Player.{Player}
use Rattle.bg_hosted.specs.HostedMatches.{told_of, world_of}
use Rattle.bg_match.specs.Match.{Log}
use Rattle.bg_requests.specs.Seats.{player_with}
use Rattle.bg_requests.specs.declared.seats.Seats.{Seats}
use Rattle.bg_protocol.specs.declared.devices.Keeper as keeper
use Rattle.bg_site.specs.Given.{IsGivenOf}
use Rattle.bg_site.specs.declared.files.Asked.{Asked}
use Rattle.bg_site.specs.declared.files.Given.{Given}
use Rattle.bg_site.specs.declared.peers.Peer.{Peer}
use Rattle.bg_site.specs.declared.places.Place.{Place}
use Rattle.bg_hosted.specs.declared.hosted_matches.HostedMatch.{HostedMatch}

-- what everybody is told of a match that goes on
abbrev pub told_in : {K : Type 0} → keeper.Ghosts K → Option (HostedMatch K) → Option Log
told_in k None = None
told_in k (Some hosted) = told_of (world_of k hosted)

-- the secret, where the match does not go on
abbrev pub secret_once_ended : {K : Type 0} → Option (HostedMatch K) → List ℕ → Option (List ℕ)
secret_once_ended None secret = Some secret
secret_once_ended (Some hosted) secret = None

-- the secret of the dice of a match, which is told once it has ended
abbrev pub secret_in : {K : Type 0} → Place K → Option (List ℕ)
secret_in place = secret_once_ended place.hosted place.key

-- what is given of the match at a place, while it goes on, is made of what everybody is told
abbrev pub IsGivenAt : {K : Type 0} → keeper.Ghosts K → List (Place K) → ℕ → Asked → Given → Type 0
IsGivenAt k places index asked given =
    (place : Place _) (log : Log) → slice_get places index ≡ Some place → told_in k place.hosted ≡ Some log
    → IsGivenOf log asked given

-- the player whose seat has a secret of this digest, if there is one
abbrev pub player_in : Option Seats → List ℕ → Option Player
player_in None digest = None
player_in (Some seats) digest = player_with seats digest

-- the seat of this player, at this place, has a secret of this digest
abbrev pub HasSeatAt : {K : Type 0} → List (Place K) → List ℕ → ℕ → Player → Type 0
HasSeatAt places digest index player =
    (place : Place _) × (slice_get places index ≡ Some place) × (player_in place.seats digest ≡ Some player)

-- all places but one are as they were
abbrev pub ChangesOnly : {K : Type 0} → List (Place K) → List (Place K) → ℕ → Type 0
ChangesOnly old new index = (other : ℕ) → other ≢ index → slice_get new other ≡ slice_get old other

-- the seat that a peer has now, if it has one, is that of this secret
abbrev pub HasSeatBy : {K : Type 0} → List (Place K) → List ℕ → Peer → Type 0
HasSeatBy places secret peer =
    (index : ℕ) (player : Player) → peer.place ≡ Some index → peer.seat ≡ Some player
    → HasSeatAt places (sha256 secret) index player

-- the seat that a peer has now, if it has one, is that of the secret in its greeting
abbrev pub HasSeatByGreeting : {K : Type 0} → List (Place K) → List ℕ → Peer → Type 0
HasSeatByGreeting places text peer =
    (index : ℕ) (player : Player) → peer.place ≡ Some index → peer.seat ≡ Some player
    → (secret : List ℕ) × (text ≡ codes "hello " ++ secret) × HasSeatAt places (sha256 secret) index player

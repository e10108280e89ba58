-- The keys that a party has, and the datagrams that are sealed by them.
use Rattle.std.specs.Prelude.{◌≡◌, ℕ, List, Option, Some, None, MatchOption, ◌==◌, if◌then◌else◌}
use Rattle.bg_seals.specs.Datagrams.{IsSealed}
use Rattle.bg_seals.specs.Keys.{party_key}
use Rattle.bg_seals.specs.declared.directions.Direction.{Direction}
use Rattle.bg_seals.specs.declared.directions.Direction.TheVariants.{ToReferee, FromReferee}
use Rattle.bg_wire.specs.Entries.Codes.{referee, seat_of_x, seat_of_o, first_watcher}
use Rattle.bg_system.specs.declared.files.key_files.KeyFiles.{KeyFiles}
use Rattle.bg_system.specs.declared.sockets.keyrings.Keyring.{Keyring}
use Rattle.bg_system.specs.declared.sockets.keyrings.Keyring.TheVariants.{OfReferee, OfParty}

-- the keys of the referee, that of each seat, and that of the first watcher for all who watch
abbrev pub keys_of_referee : List ℕ → ℕ → Keyring
keys_of_referee secret id =
    OfReferee (party_key secret id seat_of_x) (party_key secret id seat_of_o) (party_key secret id first_watcher)

-- the same where the referee has key files: the key of each party is that of its file
abbrev pub keys_in_files : KeyFiles → Keyring
keys_in_files files = OfReferee files.x.key files.o.key files.watchers.key

-- the key of what goes between the referee and a party
abbrev pub key_for : Keyring → ℕ → List ℕ
key_for (OfReferee x o watchers) party = if party == seat_of_x then x else if party == seat_of_o then o else watchers
key_for (OfParty key) party = key

-- which way a datagram goes from one party to another, and the one of them that is not the referee
abbrev pub way : ℕ → ℕ → Option (Direction × ℕ)
way from to =
    if from == referee then (if to == referee then None else Some (FromReferee, to))
    else if to == referee then Some (ToReferee, from)
    else None

-- no datagram goes from the one to the other
abbrev pub CannotSeal : ℕ → ℕ → Type 0
CannotSeal from to = way from to ≡ None

-- the datagram is the packet, sealed by one of these keys to go from one party to another
abbrev pub IsSealedBy : Keyring → ℕ → ℕ → List ℕ → List ℕ → Type 0
IsSealedBy keys from to packet datagram =
    MatchOption (way from to) ⊥ (λ at. IsSealed (key_for keys at.1) at.0 at.1 packet datagram)

-- the datagram is no packet sealed so
abbrev pub IsNotSealedBy : Keyring → ℕ → ℕ → List ℕ → Type 0
IsNotSealedBy keys from to datagram = (packet : List ℕ) → IsSealedBy keys from to packet datagram → ⊥

-- How the other seat stands, as the referee tells a seat of it.
use Rattle.std.specs.Prelude.{◌≡◌, ℕ, List, [], ◌∷◌}
use Rattle.std.specs.declared.net.socket_addr.SocketAddr.{SocketAddr}
use Rattle.bg_wire.specs.Entries.Codes.{referee}
use Rattle.bg_system.specs.Keyrings.{IsSealedBy}
use Rattle.bg_system.specs.Senders.{IsAddressOf}
use Rattle.bg_system.specs.declared.sockets.keyrings.Keyring.{Keyring}
use Rattle.bg_system.specs.declared.sockets.notices.Presence.{Presence}
use Rattle.bg_system.specs.declared.sockets.notices.Presence.TheVariants.{Unheard, Here, Away}

-- the notice that the other seat stands so
abbrev pub notice_text : Presence → List ℕ
notice_text Unheard = 0 ∷ 0 ∷ []
notice_text Here = 0 ∷ 1 ∷ []
notice_text Away = 0 ∷ 2 ∷ []

-- the bytes are no notice
abbrev pub IsNoNotice : List ℕ → Type 0
IsNoNotice bytes = (presence : Presence) → bytes ≡ notice_text presence → ⊥

-- a datagram that came to a seat from an address is the referee's notice that the other stands so
pub record IsTold
    (keys : Keyring) (port own : ℕ) (datagram : List ℕ) (from : SocketAddr) (presence : Presence)
    : Type 0 where
  pub sent_there : IsAddressOf port referee from
  pub sealed : IsSealedBy keys referee own (notice_text presence) datagram

-- it is none
abbrev pub IsNotTold : Keyring → ℕ → ℕ → List ℕ → SocketAddr → Type 0
IsNotTold keys port own datagram from =
    (presence : Presence) → IsTold keys port own datagram from presence → ⊥

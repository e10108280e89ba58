-- How the logic keeps a datagram in a history.
use Rattle.std.specs.Prelude.{ℕ, List, refl}
use Rattle.std.specs.Coded.{Coded, code_by, coded_list, coded×, coded_ℕ}
use Rattle.bg_wire.specs.declared.packets.Datagram.{Datagram}

abbrev pub coded_datagram : Coded Datagram
coded_datagram =
    code_by (ℕ × List ℕ) (coded× coded_ℕ (coded_list coded_ℕ))
    (λ (d : Datagram). (d.to, d.bytes)) (λ (p : ℕ × List ℕ). record { to = p.0; bytes = p.1 }) (λ _. refl)

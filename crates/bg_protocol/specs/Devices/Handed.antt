-- What a link in memory hands over.
use Rattle.std.specs.Prelude.{ℕ, List, [], ◌∷◌, Option, Some, None, Result, Ok, Err, filter, length, min, slice_get}
use Rattle.std.specs.Prelude.{◌==◌, if◌then◌else◌}
use Rattle.arrayvec.specs.ArrayVec.{ArrayVec}
use Rattle.bg_streams.specs.declared.histories.History.{History}
use Rattle.bg_wire.specs.declared.packets.Datagram.{Datagram}
use Rattle.bg_protocol.specs.declared.devices.DeviceFault.{DeviceFault}

-- the datagrams that were sent to the party, the oldest first
abbrev pub sent_to : ℕ → List Datagram → List Datagram
sent_to party sent = filter (λ datagram. datagram.to == party) sent

-- a count of datagrams stops here
abbrev pub greatest_count : ℕ
greatest_count = 4294967295

-- how many were sent to the party, or the greatest count where there are more
abbrev pub count_to : ℕ → List Datagram → ℕ
count_to party sent = min (length (sent_to party sent)) greatest_count

-- the bytes of a datagram, if there is one
abbrev pub bytes_handed : Option Datagram → Option (ArrayVec ℕ)
bytes_handed None = None
bytes_handed (Some datagram) = Some (record { items = datagram.bytes })

-- the pick that names no datagram
abbrev pub garbled_pick : ℕ
garbled_pick = 4294967295

-- The garbled pick names one byte 0, which is no packet's text. Any other pick is an index, from 0,
-- into the datagrams that were sent to the party; it names nothing where there is none.
abbrev pub handed : List Datagram → ℕ → ℕ → Option (ArrayVec ℕ)
handed sent party pick =
    if pick == garbled_pick then Some (record { items = 0 ∷ [] })
    else bytes_handed (slice_get (sent_to party sent) pick)

-- the bytes that were noted, if there were any
abbrev pub noted : Option History → Option (ArrayVec ℕ)
noted None = None
noted (Some history) = Some (record { items = history.bytes })

-- the answer of a take that was noted
abbrev pub noted_answer : Result (Option History) DeviceFault → Result (Option (ArrayVec ℕ)) DeviceFault
noted_answer (Ok found) = Ok (noted found)
noted_answer (Err fault) = Err fault

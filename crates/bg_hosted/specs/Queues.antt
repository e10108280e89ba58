-- The datagrams that wait in a queue.
use Rattle.std.specs.Prelude.{◌==◌, ◌&&◌, ◌||◌, ℕ, Bool, true, false, List, [], ◌∷◌}
use Rattle.bg_wire.specs.declared.packets.Datagram.{Datagram}

-- so many wait at most
abbrev pub most_waiting : ℕ
most_waiting = 64

abbrev pub are_same : List ℕ → List ℕ → Bool
are_same [] [] = true
are_same (x ∷ xs) (y ∷ ys) = (x == y) && are_same xs ys
are_same _ _ = false

abbrev pub is_same : Datagram → Datagram → Bool
is_same a b = (a.to == b.to) && are_same a.bytes b.bytes

-- the datagram is among those that were sent
abbrev pub was_sent : List Datagram → Datagram → Bool
was_sent [] datagram = false
was_sent (first ∷ sent) datagram = is_same first datagram || was_sent sent datagram

-- all of these are among those that were sent
abbrev pub were_sent : List Datagram → List Datagram → Bool
were_sent sent [] = true
were_sent sent (datagram ∷ waiting) = was_sent sent datagram && were_sent sent waiting

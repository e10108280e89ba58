-- What the referee knows that the parties have, so that it can send them what they lack.
use Rattle.std.specs.Prelude.{◌≡◌, ◌==◌, ℕ, zero, suc, ◌+◌, ◌-◌, ◌≤◌, nat_lt, Option, Some, None, List, [], ◌∷◌}
use Rattle.std.specs.Prelude.{◌++◌, length, take, min, slice_index_or, slice_set, replicate, if◌then◌else◌}
use Rattle.bg_wire.specs.Entries.Codes.{seat_of_x, last_watcher, most_in_packet}
use Rattle.bg_wire.specs.declared.packets.Packet.{Packet}
use Rattle.bg_wire.specs.declared.packets.Packet.TheVariants as packet
use Rattle.bg_referee.specs.declared.outcomes.TakeOutcome.{TakeOutcome}
use Rattle.bg_referee.specs.declared.outcomes.TakeOutcome.TheVariants as outcome

-- ---- the parties that are told of entries: all but the referee

abbrev pub first_party : ℕ
first_party = seat_of_x

abbrev pub last_party : ℕ
last_party = last_watcher

-- how many of them one tick sends entries
abbrev pub most_pushes : ℕ
most_pushes = 2

-- ---- sessions

-- the number of the last entry that each party is known to have, or nothing, in the order of the
-- parties' numbers from 0 (the referee's own place has nothing); and the party with which the next
-- round begins
pub record SessionsView : Type 0 where
  pub told : List (Option ℕ)
  pub cursor : ℕ

pub record IsSessions (s : SessionsView) : Type 0 where
  pub places : length s.told ≡ last_party + 1
  pub first : first_party ≤ s.cursor
  pub last : s.cursor ≤ last_party

-- nothing is known of any party, and the round begins with the first
abbrev pub no_sessions : SessionsView
no_sessions = record { told = replicate (last_party + 1) None; cursor = first_party }

-- the number of the last entry that a party is known to have
abbrev pub told_to : SessionsView → ℕ → Option ℕ
told_to s party = slice_index_or s.told party None

-- from now on a party is known to have the entries up to a number
abbrev pub tell : SessionsView → ℕ → ℕ → SessionsView
tell s party number = record s { told = slice_set s.told party (Some number) }

-- ---- what an answer teaches

-- the sender of a Want or a Claim has all that is saved
abbrev pub hear_sender : SessionsView → ℕ → Packet → SessionsView
hear_sender s saved (packet.Want id rules sender held) = tell s sender saved
hear_sender s saved (packet.Claim id rules sender number action) = tell s sender saved
hear_sender s saved (packet.Entries id rules start list) = s

-- a party that is sent entries has them
abbrev pub hear_answer : SessionsView → ℕ → Packet → SessionsView
hear_answer s party (packet.Entries id rules start list) = tell s party (start + length list - 1)
hear_answer s party _ = s

-- what the answer to a packet teaches, while so many entries are saved
abbrev pub hear : SessionsView → ℕ → Packet → TakeOutcome → SessionsView
hear s saved p (outcome.Answer party answer) = hear_answer s party answer
hear s saved p outcome.Nothing = hear_sender s saved p
hear s saved p (outcome.Accepted n) = hear_sender s saved p
hear s saved p _ = s

-- ---- whom a tick sends entries

-- so many parties, each with the number after that of the one before
abbrev pub parties_from : ℕ → ℕ → List ℕ
parties_from first zero = []
parties_from first (suc n) = first ∷ parties_from (first + 1) n

-- the party beside the number of its last entry, before these, where it is known to have less than
-- is saved
abbrev pub before_if_behind : ℕ → ℕ → Option ℕ → List (ℕ × ℕ) → List (ℕ × ℕ)
before_if_behind saved party None rest = rest
before_if_behind saved party (Some n) rest = if nat_lt n saved then (party, n) ∷ rest else rest

-- those of the parties that are known to have less than is saved, each beside the number of its
-- last entry
abbrev pub behind : SessionsView → ℕ → List ℕ → List (ℕ × ℕ)
behind s saved [] = []
behind s saved (party ∷ rest) = before_if_behind saved party (told_to s party) (behind s saved rest)

-- those of all parties, once round from the cursor on: up to the last party, and then from the
-- first
abbrev pub all_behind : SessionsView → ℕ → List (ℕ × ℕ)
all_behind s saved =
    behind s saved (parties_from s.cursor (last_party + 1 - s.cursor))
    ++ behind s saved (parties_from first_party (s.cursor - first_party))

-- whom a tick sends entries: the first two of them
abbrev pub pushed : SessionsView → ℕ → List (ℕ × ℕ)
pushed s saved = take most_pushes (all_behind s saved)

-- the last party is followed by the first
abbrev pub party_after : ℕ → ℕ
party_after party = if party == last_party then first_party else party + 1

-- afterwards each of these is known to have the last entry that it was sent, eight at most behind
-- its last one; and the next round begins with the party after the last of them
abbrev pub after_pushes : SessionsView → ℕ → List (ℕ × ℕ) → SessionsView
after_pushes s saved [] = s
after_pushes s saved (one ∷ rest) =
    after_pushes (record (tell s one.0 (min saved (one.1 + most_in_packet))) { cursor = party_after one.0 }) saved rest

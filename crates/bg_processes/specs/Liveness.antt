-- How a party knows that its referee is silent: by the rounds in which nothing of it came.
use Rattle.std.specs.Prelude.{ℕ, ◌+◌, ◌-◌, ◌==◌, ◌≡◌, ◌&&◌, nat_le, min, if◌then◌else◌}
use Rattle.std.specs.Prelude.{Bool, true, false, Option, Some, None, List, [], ◌∷◌}
use Rattle.std.specs.List.{count_by, take_while}
use Rattle.bg_processes.specs.declared.sockets.liveness.Liveness.{Liveness}
use Rattle.bg_processes.specs.declared.sockets.liveness.LivenessChange.{LivenessChange}
use Rattle.bg_processes.specs.declared.sockets.liveness.LivenessChange.TheVariants.{Silent, HeardAgain}

-- a tick comes a tenth of a second after the one before, or later: so many take three seconds at
-- least
abbrev pub silent_ticks : ℕ
silent_ticks = 31

-- from a tick on which a party asks whether the referee is there to the next such one
abbrev pub ticks_to_ask : ℕ
ticks_to_ask = 10

-- what a party begins with
abbrev pub at_first : Liveness
at_first = record { wait = 0; heard = 0; unheard = 0 }

-- it asks in a round
abbrev pub asks_in : Liveness → Bool → Bool
asks_in liveness tick = tick && liveness.wait == 0

abbrev pub is_silent : Liveness → Bool
is_silent liveness = nat_le silent_ticks liveness.unheard

abbrev wait_after : ℕ → Bool → ℕ
wait_after wait tick = if tick then (if wait == 0 then ticks_to_ask - 1 else wait - 1) else wait

-- how many ticks went by at one count, up to those of silence
abbrev unheard_after : Liveness → ℕ → Bool → ℕ
unheard_after liveness count tick =
    min silent_ticks ((if count == liveness.heard then liveness.unheard else 0) + (if tick then 1 else 0))

-- a round later, in which so many datagrams were counted that ever came from the referee
abbrev pub after_round : Liveness → ℕ → Bool → Liveness
after_round liveness count tick =
    record { wait = wait_after liveness.wait tick; heard = count; unheard = unheard_after liveness count tick }

-- what a party is told, by whether the referee counted as silent before, and does so now
abbrev pub change_of : Bool → Bool → Option LivenessChange
change_of false true = Some Silent
change_of true false = Some HeardAgain
change_of before now = None

abbrev pub change_between : Liveness → Liveness → Option LivenessChange
change_between before after = change_of (is_silent before) (is_silent after)

-- a round: the count, and whether a tick was due
pub record Counted : Type 0 where
  pub count : ℕ
  pub tick : Bool

-- after some rounds, the newest of which is the first here
abbrev pub after_rounds : List Counted → Liveness
after_rounds [] = at_first
after_rounds (round ∷ earlier) = after_round (after_rounds earlier) round.count round.tick

-- how many ticks were due since the newest count came: those of the rounds that have it
abbrev pub ticks_at_newest : List Counted → ℕ
ticks_at_newest [] = 0
ticks_at_newest (newest ∷ earlier) =
    count_by (λ round. round.tick) (take_while (λ round. round.count == newest.count) (newest ∷ earlier))

-- the referee counts as silent exactly where so many ticks were due since the newest count came
abbrev pub CountsSilence : Type 0
CountsSilence = (rounds : List Counted) → is_silent (after_rounds rounds) ≡ nat_le silent_ticks (ticks_at_newest rounds)

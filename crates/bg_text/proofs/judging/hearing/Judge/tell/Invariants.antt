use Rattle.std.proofs.Common.{◌≡◌, ℕ, List, ◌++◌, length}
use Rattle.bg_text.specs.Judge.Hearing.{HasHeard}
use Rattle.bg_text.proofs.judging.hearing.Judge.tell.Given as goal

-- so many bytes are told
abbrev pub invariant-loop-rest : goal.invariant-loop-rest
invariant-loop-rest l =
    (done : List ℕ) × (l.fn.bytes ≡ done ++ l.rest)
    × ((told : List ℕ) → HasHeard told l.fn.self.heard l.fn.self.unended.items → HasHeard (told ++ done) l.self.heard l.self.unended.items)

abbrev pub decreases-loop-rest : goal.decreases-loop-rest
decreases-loop-rest l = length l.rest

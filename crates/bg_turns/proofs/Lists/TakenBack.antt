-- A step that is taken back.
use Rattle.std.proofs.Common.{◌≡◌, ℕ, ◌+◌, ◌-◌, ◌<◌, ◌≤◌, List, length, get_or, refl, sym, ap, subst, arith, length-set, inl, inr}
use Rattle.std.proofs.Math.ListN.{set}
use Rattle.std.proofs.lemmas.Bool.{cases_eq}
use Rattle.std.proofs.lemmas.Grind.{common_steps}
use Rattle.std.proofs.lemmas.List.{ext_get_or}
use Rattle.bg_board.specs.Step.{carried}
use Rattle.bg_turns.specs.declared.mover_counts.MoverCounts.{MoverCounts}
use Rattle.bg_turns.specs.MoverCounts.{IsMoverCounts, after}

-- one checker is taken from where it landed, and put where it started
abbrev pub taken_back : List ℕ → ℕ → ℕ → List ℕ
taken_back own from to =
    let lifted = set own to (get_or own to 0 - 1) in
    set lifted from (get_or lifted from 0 + 1)

taken_there : (own : List ℕ) (from to i : ℕ) → length own ≡ 26 → from ≤ 25 → to < from → 0 < get_or own from 0
    → get_or (taken_back (carried own from to) from to) i 0 ≡ get_or own i 0
taken_there own from to i long high low held = elim (cases_eq i from) [
  | inl start ↦ grind (arith, common_steps)
  | inr other ↦ elim (cases_eq i to) [
    | inl landing ↦ grind (arith, common_steps)
    | inr else_where ↦ grind (arith, common_steps)
  ]
]

pub taken-back : (r before : MoverCounts) (from to : ℕ) → IsMoverCounts before → from ≤ 25 → to < from → 0 < get_or before.own from 0
    → r ≡ after before from to → record { own = taken_back r.own from to; other = r.other } ≡ before
taken-back r before from to is high low held same =
    let own : taken_back (carried before.own from to) from to ≡ before.own =
    ext_get_or 0 (taken_back (carried before.own from to) from to) before.own (simp length-set refl)
    (λ i within. taken_there before.own from to i is.points high low held) in
    subst (λ (q : MoverCounts). record { own = taken_back q.own from to; other = q.other } ≡ before) (sym same)
    (ap (λ xs. record { own = xs; other = before.other }) own)

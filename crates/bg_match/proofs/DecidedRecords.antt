-- A record is legal or it is not: which of the two, can be computed.
use Rattle.std.specs.Prelude.{◌≡◌, ◌≢◌, ◌⊎◌, ℕ, ◌≤◌, Bool, true, false, List, [], ◌∷◌, length, Option, Some, None}
use Rattle.std.proofs.Common.{refl, sym, subst, arith, inl, inr, ◌∙◌}
use Rattle.std.proofs.lemmas.Bool.{cases_eq, cases_lt}
use Rattle.bg_board.specs.Die.{pips}
use Rattle.bg_board.specs.declared.players.Player.{Player}
use Rattle.bg_board.specs.declared.players.Player.TheVariants.{X, O}
use Rattle.bg_turns.specs.Turn.{IsLegalTurn}
use Rattle.bg_match.specs.Actor.{passes}
use Rattle.bg_match.specs.Follows.{Follows, MayDouble, phase_back}
use Rattle.bg_match.specs.Limits.{greatest_cube, most_entries}
use Rattle.bg_match.specs.Match.{Leads, IsLegalRecord}
use Rattle.bg_match.specs.State.{State, start_of}
use Rattle.bg_match.specs.Terms.{Terms}
use Rattle.bg_match.specs.declared.entries.Entry.{Entry}
use Rattle.bg_match.specs.declared.entries.Entry.TheVariants as entry
use Rattle.bg_match.specs.declared.phases.Phase.{Phase}
use Rattle.bg_match.specs.declared.phases.Phase.TheVariants as phase
use Rattle.bg_match.proofs.Runs.{Follows-same}
use Rattle.bg_turns.proofs.DecidedTurns.{Decided, both, decided_by, decided_turn}

-- where an entry leads, or that it follows nowhere
abbrev pub Next : State → Entry → Type 0
Next s e = Decided ((t : State) × Follows s e t)

decided_bool : (a b : Bool) → Decided (a ≡ b)
decided_bool true true = inl refl
decided_bool true false = inr (λ e. cc)
decided_bool false true = inr (λ e. cc)
decided_bool false false = inl refl

decided_owner : (owner : Option Player) (p : Player) → Decided ((owner ≡ None) ⊎ (owner ≡ Some p))
decided_owner None p = inl (inl refl)
decided_owner (Some X) X = inl (inr refl)
decided_owner (Some O) O = inl (inr refl)
decided_owner (Some X) O = inr none
  where
    none : (Some X ≡ None) ⊎ (Some X ≡ Some O) → ⊥
    none (inl e) = absurd cc
    none (inr e) = absurd cc
decided_owner (Some O) X = inr none
  where
    none : (Some O ≡ None) ⊎ (Some O ≡ Some X) → ⊥
    none (inl e) = absurd cc
    none (inr e) = absurd cc

decided_differ : (m n : ℕ) → Decided (m ≢ n)
decided_differ m n = elim (cases_eq m n) [
  | inl same ↦ inr (λ differ. differ same)
  | inr differ ↦ inl differ
]

decided_double : (s : State) (p : Player) → Decided (MayDouble s p)
decided_double s p =
    decided_by (λ h. record { with_cube = h.0; owned = h.1.0; below_cap = h.1.1 }) (λ h. (h.with_cube, (h.owned, h.below_cap)))
    (both (decided_bool s.crawford false) (both (decided_owner s.cube.owner p) (decided_differ s.cube.value greatest_cube)))

module _ (s : State) where
  opening : (x o : _) (ph : Phase) → s.phase ≡ ph → Next s (entry.Opening x o)
  opening x o phase.Opening e = elim (cases_eq (pips x) (pips o)) [
    | inl same ↦ inr (λ h. h.1.1 same)
    | inr differ ↦ inl (_, (e, differ, refl))
  ]
  opening x o (phase.ToAct p) e = inr (λ h. let same = h.1.0 in cc)
  opening x o (phase.Doubled p) e = inr (λ h. let same = h.1.0 in cc)
  opening x o (phase.ToMove p dice) e = inr (λ h. let same = h.1.0 in cc)
  opening x o (phase.Resigned p level back) e = inr (λ h. let same = h.1.0 in cc)
  opening x o (phase.Over p) e = inr (λ h. let same = h.1.0 in cc)

  -- which phase it is
  to_act : (ph : Phase) → s.phase ≡ ph → Decided ((p : Player) × (s.phase ≡ phase.ToAct p))
  to_act (phase.ToAct p) e = inl (p, e)
  to_act phase.Opening e = inr (λ h. let same = h.1 in cc)
  to_act (phase.Doubled p) e = inr (λ h. let same = h.1 in cc)
  to_act (phase.ToMove p dice) e = inr (λ h. let same = h.1 in cc)
  to_act (phase.Resigned p level back) e = inr (λ h. let same = h.1 in cc)
  to_act (phase.Over p) e = inr (λ h. let same = h.1 in cc)

  to_answer : (ph : Phase) → s.phase ≡ ph → Decided ((q : Player) × (s.phase ≡ phase.Doubled q))
  to_answer (phase.Doubled q) e = inl (q, e)
  to_answer phase.Opening e = inr (λ h. let same = h.1 in cc)
  to_answer (phase.ToAct p) e = inr (λ h. let same = h.1 in cc)
  to_answer (phase.ToMove p dice) e = inr (λ h. let same = h.1 in cc)
  to_answer (phase.Resigned p level back) e = inr (λ h. let same = h.1 in cc)
  to_answer (phase.Over p) e = inr (λ h. let same = h.1 in cc)

  rolled : (dice : _) → Next s (entry.Rolled dice)
  rolled dice = decided_by (λ h. (_, (h.0, h.1, refl))) (λ h. (h.1.0, h.1.1)) (to_act s.phase refl)

  doubled : (ph : Phase) → s.phase ≡ ph → Next s entry.Doubled
  doubled (phase.ToAct p) e = of (decided_double s p)
    where
      of : Decided (MayDouble s p) → Next s entry.Doubled
      of (inl may) = inl (_, (p, e, may, refl))
      of (inr not) = inr (λ h. let same : h.1.0 ≡ p = (let phases = h.1.1 in cc) in not (subst (MayDouble s) same h.1.2))
  doubled phase.Opening e = inr (λ h. let same = h.1.1 in cc)
  doubled (phase.Doubled p) e = inr (λ h. let same = h.1.1 in cc)
  doubled (phase.ToMove p dice) e = inr (λ h. let same = h.1.1 in cc)
  doubled (phase.Resigned p level back) e = inr (λ h. let same = h.1.1 in cc)
  doubled (phase.Over p) e = inr (λ h. let same = h.1.1 in cc)

  taken : Next s entry.Taken
  taken = decided_by (λ h. (_, (h.0, h.1, refl))) (λ h. (h.1.0, h.1.1)) (to_answer s.phase refl)

  dropped : Next s entry.Dropped
  dropped = decided_by (λ h. (_, (h.0, h.1, refl))) (λ h. (h.1.0, h.1.1)) (to_answer s.phase refl)

  moved : (turn : _) (ph : Phase) → s.phase ≡ ph → Next s (entry.Moved turn)
  moved turn (phase.ToMove p dice) e = of (both (decided_bool (passes s) false) (decided_turn s.board p dice turn))
    where
      of : Decided ((passes s ≡ false) × IsLegalTurn s.board p dice turn) → Next s (entry.Moved turn)
      of (inl legal) = inl (_, (p, dice, e, legal.0, legal.1, refl))
      of (inr not) = inr (λ h.
          let phases = h.1.2 in
          let player : h.1.0 ≡ p = cc in
          let thrown : h.1.1 ≡ dice = cc in
          not (h.1.3, rw (player, thrown) at h.1.4))
  moved turn phase.Opening e = inr (λ h. let same = h.1.2 in cc)
  moved turn (phase.ToAct p) e = inr (λ h. let same = h.1.2 in cc)
  moved turn (phase.Doubled p) e = inr (λ h. let same = h.1.2 in cc)
  moved turn (phase.Resigned p level back) e = inr (λ h. let same = h.1.2 in cc)
  moved turn (phase.Over p) e = inr (λ h. let same = h.1.2 in cc)

  resigned : (level : _) (ph : Phase) → s.phase ≡ ph → Next s (entry.Resigned level)
  resigned level (phase.ToAct p) e = of (decided_bool (passes s) false)
    where
      of : Decided (passes s ≡ false) → Next s (entry.Resigned level)
      of (inl goes) = inl (_, (p, None, e, goes, refl))
      of (inr not) = inr (λ h. not h.1.3)
  resigned level (phase.ToMove p dice) e = of (decided_bool (passes s) false)
    where
      of : Decided (passes s ≡ false) → Next s (entry.Resigned level)
      of (inl goes) = inl (_, (p, Some dice, e, goes, refl))
      of (inr not) = inr (λ h. not h.1.3)
  resigned level phase.Opening e = inr (λ h. no_phase_back h.1.0 h.1.1 (sym e ∙ h.1.2))
    where
      no_phase_back : (p : Player) (back : Option _) → phase.Opening ≡ phase_back p back → ⊥
      no_phase_back p None same = absurd cc
      no_phase_back p (Some dice) same = absurd cc
  resigned level (phase.Doubled q) e = inr (λ h. no_phase_back h.1.0 h.1.1 (sym e ∙ h.1.2))
    where
      no_phase_back : (p : Player) (back : Option _) → phase.Doubled q ≡ phase_back p back → ⊥
      no_phase_back p None same = absurd cc
      no_phase_back p (Some dice) same = absurd cc
  resigned level (phase.Resigned q other away) e = inr (λ h. no_phase_back h.1.0 h.1.1 (sym e ∙ h.1.2))
    where
      no_phase_back : (p : Player) (back : Option _) → phase.Resigned q other away ≡ phase_back p back → ⊥
      no_phase_back p None same = absurd cc
      no_phase_back p (Some dice) same = absurd cc
  resigned level (phase.Over q) e = inr (λ h. no_phase_back h.1.0 h.1.1 (sym e ∙ h.1.2))
    where
      no_phase_back : (p : Player) (back : Option _) → phase.Over q ≡ phase_back p back → ⊥
      no_phase_back p None same = absurd cc
      no_phase_back p (Some dice) same = absurd cc

  offered : (ph : Phase) → s.phase ≡ ph → Decided ((p : Player) × (level : _) × (back : _) × (s.phase ≡ phase.Resigned p level back))
  offered (phase.Resigned p level back) e = inl (p, level, back, e)
  offered phase.Opening e = inr (λ h. let same = h.3 in cc)
  offered (phase.ToAct p) e = inr (λ h. let same = h.3 in cc)
  offered (phase.Doubled p) e = inr (λ h. let same = h.3 in cc)
  offered (phase.ToMove p dice) e = inr (λ h. let same = h.3 in cc)
  offered (phase.Over p) e = inr (λ h. let same = h.3 in cc)

  accepted : Next s entry.Accepted
  accepted = decided_by (λ h. (_, (h.0, h.1, h.2, h.3, refl))) (λ h. (h.1.0, h.1.1, h.1.2, h.1.3)) (offered s.phase refl)

  rejected : Next s entry.Rejected
  rejected = decided_by (λ h. (_, (h.0, h.1, h.2, h.3, refl))) (λ h. (h.1.0, h.1.1, h.1.2, h.1.3)) (offered s.phase refl)

  passed : (ph : Phase) → s.phase ≡ ph → Next s entry.Passed
  passed (phase.ToMove p dice) e = of (decided_bool (passes s) true)
    where
      of : Decided (passes s ≡ true) → Next s entry.Passed
      of (inl stuck) = inl (_, (p, dice, e, stuck, refl))
      of (inr not) = inr (λ h. not h.1.3)
  passed phase.Opening e = inr (λ h. let same = h.1.2 in cc)
  passed (phase.ToAct p) e = inr (λ h. let same = h.1.2 in cc)
  passed (phase.Doubled p) e = inr (λ h. let same = h.1.2 in cc)
  passed (phase.Resigned p level back) e = inr (λ h. let same = h.1.2 in cc)
  passed (phase.Over p) e = inr (λ h. let same = h.1.2 in cc)

  next : (e : Entry) → Next s e
  next (entry.Opening x o) = opening x o s.phase refl
  next (entry.Rolled dice) = rolled dice
  next entry.Doubled = doubled s.phase refl
  next entry.Taken = taken
  next entry.Dropped = dropped
  next (entry.Moved turn) = moved turn s.phase refl
  next (entry.Resigned level) = resigned level s.phase refl
  next entry.Accepted = accepted
  next entry.Rejected = rejected
  next entry.Passed = passed s.phase refl

-- where entries lead, or that they lead nowhere
abbrev Lead : State → List Entry → Type 0
Lead s entries = Decided ((t : State) × Leads s entries t)

decided_leads : (s : State) (entries : List Entry) → Lead s entries
decided_leads s [] = inl (s, refl)
decided_leads s (e ∷ rest) = of (next s e) (λ m. decided_leads m rest)
  where
    behind : (m : State) → Follows s e m → Lead m rest → Lead s (e ∷ rest)
    behind m follows (inl (t, leads)) = inl (t, (m, follows, leads))
    behind m follows (inr nowhere) =
        inr (λ h. nowhere (h.0, subst (λ (n : State). Leads n rest h.0) (Follows-same s e h.1.0 m h.1.1 follows) h.1.2))

    of : Next s e → ((m : State) → Lead m rest) → Lead s (e ∷ rest)
    of (inl (m, follows)) leads = behind m follows (leads m)
    of (inr not) leads = inr (λ h. not (h.1.0, h.1.1))

pub decided_record : (terms : Terms) (entries : List Entry) → Decided (IsLegalRecord terms entries)
decided_record terms entries = both (decided_few (length entries)) (decided_leads (start_of terms) entries)
  where
    decided_few : (n : ℕ) → Decided (n ≤ most_entries)
    decided_few n = elim (cases_lt most_entries n) [
      | inl more ↦ inr (λ few. omega (arith, more, few))
      | inr few ↦ inl few
    ]

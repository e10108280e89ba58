-- A turn, a double and an entry have one fault.
use Rattle.std.proofs.Common.{◌≡◌, ◌⊎◌, true, false, List, Option, Some, None, refl, sym, ◌∙◌, ap, arith, inl, inr}
use Rattle.bg_board.specs.FromTo.{FromTo}
use Rattle.bg_board.specs.Position.{Position, opponent}
use Rattle.bg_board.specs.declared.players.Player.{Player}
use Rattle.bg_board.specs.declared.players.Player.TheVariants.{X, O}
use Rattle.bg_turns.specs.Turn.{IsTurnFault}
use Rattle.bg_turns.specs.declared.faults.TurnFault.{TurnFault}
use Rattle.bg_turns.specs.declared.faults.TurnFault.TheVariants.{StepIllegal, MoreCanBePlayed, LargerMustBePlayed}
use Rattle.bg_turns.specs.declared.throws.Dice.{Dice}
use Rattle.bg_match.specs.Actor.{passes}
use Rattle.bg_match.specs.Follows.{IsEntryFault, IsNoDouble, is_allowed, is_in_phase}
use Rattle.bg_match.specs.State.{State}
use Rattle.bg_match.specs.declared.entries.Entry.{Entry}
use Rattle.bg_match.specs.declared.entries.Entry.TheVariants as entry
use Rattle.bg_match.specs.declared.entries.EntryFault.{EntryFault}
use Rattle.bg_match.specs.declared.entries.EntryFault.TheVariants.{RecordFull, MatchOver, WrongPhase, EqualOpening, Turn, NoDouble, Memory}
use Rattle.bg_match.specs.declared.entries.NoDouble.{NoDouble as NoDoubleFault}
use Rattle.bg_match.specs.declared.entries.NoDouble.TheVariants.{Crawford, NotOwner, AtCap}
use Rattle.bg_match.specs.declared.phases.Phase.TheVariants as phase
use Rattle.bg_match.proofs.Passing.{not_passed}

-- a turn has one fault
one_turn_fault : (b : Position) (player : Player) (dice : Dice) (steps : List FromTo) (why other : TurnFault) → IsTurnFault why b player dice steps → IsTurnFault other b player dice steps → why ≡ other
one_turn_fault b player dice steps (StepIllegal i) (StepIllegal j) h k =
    let up = k.1.longest i h.1.within h.1.playable in
    let down = h.1.longest j k.1.within k.1.playable in
    ap StepIllegal (omega (arith, up, down))
one_turn_fault b player dice steps (StepIllegal i) MoreCanBePlayed h k = absurd (h.0 k.0)
one_turn_fault b player dice steps (StepIllegal i) LargerMustBePlayed h k = absurd (h.0 k.0)
one_turn_fault b player dice steps MoreCanBePlayed (StepIllegal j) h k = absurd (k.0 h.0)
one_turn_fault b player dice steps MoreCanBePlayed MoreCanBePlayed h k = refl
one_turn_fault b player dice steps MoreCanBePlayed LargerMustBePlayed h k = absurd (omega (arith, h.2.2, k.2 h.2.0 h.2.1))
one_turn_fault b player dice steps LargerMustBePlayed (StepIllegal j) h k = absurd (k.0 h.0)
one_turn_fault b player dice steps LargerMustBePlayed MoreCanBePlayed h k = absurd (omega (arith, k.2.2, h.2 k.2.0 k.2.1))
one_turn_fault b player dice steps LargerMustBePlayed LargerMustBePlayed h k = refl

no_own_opponent : (p : Player) → opponent p ≡ p → ⊥
no_own_opponent X e = absurd cc
no_own_opponent O e = absurd cc

same_some : (p q : Player) → Some p ≡ Some q → p ≡ q
same_some p q e = cc

not_owned : (owner : Option Player) (p : Player) → owner ≡ Some (opponent p) → (owner ≡ None) ⊎ (owner ≡ Some p) → ⊥
not_owned owner p h (inl none) = absurd cc
not_owned owner p h (inr own) = no_own_opponent p (same_some (opponent p) p (sym h ∙ own))

-- a double has one fault
one_double_fault : (s : State) (p : Player) (why other : NoDoubleFault) → IsNoDouble why s p → IsNoDouble other s p → why ≡ other
one_double_fault s p Crawford Crawford h k = refl
one_double_fault s p Crawford NotOwner h k = let no : true ≡ false = sym h ∙ k.0 in absurd cc
one_double_fault s p Crawford AtCap h k = let no : true ≡ false = sym h ∙ k.0 in absurd cc
one_double_fault s p NotOwner Crawford h k = let no : true ≡ false = sym k ∙ h.0 in absurd cc
one_double_fault s p NotOwner NotOwner h k = refl
one_double_fault s p NotOwner AtCap h k = absurd (not_owned s.cube.owner p h.1 k.1)
one_double_fault s p AtCap Crawford h k = let no : true ≡ false = sym k ∙ h.0 in absurd cc
one_double_fault s p AtCap NotOwner h k = absurd (not_owned s.cube.owner p k.1 h.1)
one_double_fault s p AtCap AtCap h k = refl

-- an entry has one fault
allowed : (s : State) (e : Entry) → passes s ≡ false → is_in_phase e s.phase ≡ true → is_allowed s e ≡ false → ⊥
allowed s e none h k = let no : is_in_phase e s.phase ≡ false = rw none at k in absurd cc

module _ (s : State) (e : Entry) where
  same_turn : (why other : TurnFault) → IsEntryFault (Turn why) s e → IsEntryFault (Turn other) s e → Turn why ≡ Turn other
  same_turn why other h k =
      let thrown : phase.ToMove h.0 h.1 ≡ phase.ToMove k.0 k.1 = sym h.3 ∙ k.3 in
      let moved : entry.Moved h.2 ≡ entry.Moved k.2 = sym h.5 ∙ k.5 in
      let player : h.0 ≡ k.0 = cc in
      let dice : h.1 ≡ k.1 = cc in
      let turn : h.2 ≡ k.2 = cc in
      ap Turn (one_turn_fault s.board k.0 k.1 k.2 why other (rw (player, dice, turn) at h.6) k.6)

  same_double : (why other : NoDoubleFault) → IsEntryFault (NoDouble why) s e → IsEntryFault (NoDouble other) s e → NoDouble why ≡ NoDouble other
  same_double why other h k =
      let acts : phase.ToAct h.0 ≡ phase.ToAct k.0 = sym h.1 ∙ k.1 in
      let player : h.0 ≡ k.0 = cc in
      ap NoDouble (one_double_fault s k.0 why other (rw player at h.3) k.3)

  pub one_entry_fault : (why other : EntryFault) → IsEntryFault why s e → IsEntryFault other s e → why ≡ other
  one_entry_fault RecordFull other h k = absurd h
  one_entry_fault Memory other h k = absurd h
  one_entry_fault MatchOver RecordFull h k = absurd k
  one_entry_fault MatchOver Memory h k = absurd k
  one_entry_fault MatchOver MatchOver h k = refl
  one_entry_fault MatchOver WrongPhase h k = absurd (k.0 h.0 h.1)
  one_entry_fault MatchOver EqualOpening h k = let no = sym h.1 ∙ k.2 in absurd cc
  one_entry_fault MatchOver (Turn other) h k = let no = sym h.1 ∙ k.3 in absurd cc
  one_entry_fault MatchOver (NoDouble other) h k = let no = sym h.1 ∙ k.1 in absurd cc
  one_entry_fault WrongPhase RecordFull h k = absurd k
  one_entry_fault WrongPhase Memory h k = absurd k
  one_entry_fault WrongPhase MatchOver h k = absurd (h.0 k.0 k.1)
  one_entry_fault WrongPhase WrongPhase h k = refl
  one_entry_fault WrongPhase EqualOpening h k = absurd (allowed s e (not_passed s phase.Opening k.2 (λ p dice is. cc)) (rw (k.2, k.3) refl) h.1)
  one_entry_fault WrongPhase (Turn other) h k = absurd (allowed s e k.4 (rw (k.3, k.5) refl) h.1)
  one_entry_fault WrongPhase (NoDouble other) h k = absurd (allowed s e (not_passed s (phase.ToAct k.0) k.1 (λ p dice is. cc)) (rw (k.1, k.2) refl) h.1)
  one_entry_fault EqualOpening RecordFull h k = absurd k
  one_entry_fault EqualOpening Memory h k = absurd k
  one_entry_fault EqualOpening MatchOver h k = let no = sym h.2 ∙ k.1 in absurd cc
  one_entry_fault EqualOpening WrongPhase h k = absurd (allowed s e (not_passed s phase.Opening h.2 (λ p dice is. cc)) (rw (h.2, h.3) refl) k.1)
  one_entry_fault EqualOpening EqualOpening h k = refl
  one_entry_fault EqualOpening (Turn other) h k = let no = sym h.2 ∙ k.3 in absurd cc
  one_entry_fault EqualOpening (NoDouble other) h k = let no = sym h.2 ∙ k.1 in absurd cc
  one_entry_fault (Turn why) RecordFull h k = absurd k
  one_entry_fault (Turn why) Memory h k = absurd k
  one_entry_fault (Turn why) MatchOver h k = let no = sym h.3 ∙ k.1 in absurd cc
  one_entry_fault (Turn why) WrongPhase h k = absurd (allowed s e h.4 (rw (h.3, h.5) refl) k.1)
  one_entry_fault (Turn why) EqualOpening h k = let no = sym h.3 ∙ k.2 in absurd cc
  one_entry_fault (Turn why) (Turn other) h k = same_turn why other h k
  one_entry_fault (Turn why) (NoDouble other) h k = let no = sym h.3 ∙ k.1 in absurd cc
  one_entry_fault (NoDouble why) RecordFull h k = absurd k
  one_entry_fault (NoDouble why) Memory h k = absurd k
  one_entry_fault (NoDouble why) MatchOver h k = let no = sym h.1 ∙ k.1 in absurd cc
  one_entry_fault (NoDouble why) WrongPhase h k = absurd (allowed s e (not_passed s (phase.ToAct h.0) h.1 (λ p dice is. cc)) (rw (h.1, h.2) refl) k.1)
  one_entry_fault (NoDouble why) EqualOpening h k = let no = sym h.1 ∙ k.2 in absurd cc
  one_entry_fault (NoDouble why) (Turn other) h k = let no = sym h.1 ∙ k.3 in absurd cc
  one_entry_fault (NoDouble why) (NoDouble other) h k = same_double why other h k

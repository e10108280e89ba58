-- A list of entries leads to one standing.
use Rattle.std.proofs.Common.{◌≡◌, ◌≢◌, ◌↔◌, ℕ, ◌*◌, ◌<◌, Option, Some, None, List, [], ◌∷◌, ◌++◌, length, length-append, refl, sym, ◌∙◌, ap, subst, arith}
use Rattle.bg_board.specs.declared.players.Player.{Player}
use Rattle.bg_turns.specs.declared.throws.Dice.{Dice}
use Rattle.bg_board.specs.Position.{opponent}
use Rattle.bg_board.specs.Die.{pips}
use Rattle.bg_board.specs.declared.dice.Die.{Die}
use Rattle.bg_turns.specs.Turn.{IsLegalTurn, after_steps}
use Rattle.bg_board.specs.FromTo.{FromTo}
use Rattle.bg_match.specs.Limits.{most_entries}
use Rattle.bg_match.specs.declared.levels.Level.{Level}
use Rattle.bg_match.specs.declared.phases.Phase.TheVariants as phase
use Rattle.bg_match.specs.declared.entries.Entry.{Entry}
use Rattle.bg_match.specs.declared.entries.Entry.TheVariants as entry
use Rattle.bg_match.specs.Level.{multiple}
use Rattle.bg_match.specs.State.{State, after_win, start_of}
use Rattle.bg_match.specs.Actor.{passes}
use Rattle.bg_match.specs.Follows.{Follows, CanFollow, IsEntryFault, MayDouble, opener, phase_back, after_turn}
use Rattle.bg_match.specs.declared.entries.EntryFault.{EntryFault}
use Rattle.bg_match.specs.declared.entries.EntryFault.TheVariants as fault
use Rattle.std.specs.Prelude.{false, Result, Ok, Err, IfOk, IfErr}
use Rattle.bg_match.specs.Terms.{Terms}
use Rattle.bg_match.specs.Match.{Leads, StandsAt, IsRecordFault, IsNext}

phase_back-player : (p q : Player) (a b : Option Dice) → phase_back p a ≡ phase_back q b → p ≡ q
phase_back-player p q None None h = cc
phase_back-player p q None (Some e) h = cc
phase_back-player p q (Some d) None h = cc
phase_back-player p q (Some d) (Some e) h = cc

phase_back-dice : (p q : Player) (a b : Option Dice) → phase_back p a ≡ phase_back q b → a ≡ b
phase_back-dice p q None None h = refl
phase_back-dice p q None (Some e) h = cc
phase_back-dice p q (Some d) None h = cc
phase_back-dice p q (Some d) (Some e) h = cc

-- an entry leads to one standing
pub Follows-same : (s : State) (e : Entry) (t u : State) → Follows s e t → Follows s e u → t ≡ u
Follows-same s (entry.Opening x o) t u h k = h.2 ∙ sym k.2
Follows-same s (entry.Rolled dice) t u h k =
    let same : h.0 ≡ k.0 = (let e : phase.ToAct h.0 ≡ phase.ToAct k.0 = sym h.1 ∙ k.1 in cc) in
    h.2 ∙ ap (λ (p : Player). record s { phase = phase.ToMove p dice }) same ∙ sym k.2
Follows-same s entry.Doubled t u h k =
    let same : h.0 ≡ k.0 = (let e : phase.ToAct h.0 ≡ phase.ToAct k.0 = sym h.1 ∙ k.1 in cc) in
    h.3 ∙ ap (λ (p : Player). record s { phase = phase.Doubled (opponent p) }) same ∙ sym k.3
Follows-same s entry.Taken t u h k =
    let same : h.0 ≡ k.0 = (let e : phase.Doubled h.0 ≡ phase.Doubled k.0 = sym h.1 ∙ k.1 in cc) in
    h.2 ∙ ap (λ (q : Player). record s { phase = phase.ToAct (opponent q); cube = record { value = 2 * s.cube.value; owner = Some q } }) same ∙ sym k.2
Follows-same s entry.Dropped t u h k =
    let same : h.0 ≡ k.0 = (let e : phase.Doubled h.0 ≡ phase.Doubled k.0 = sym h.1 ∙ k.1 in cc) in
    h.2 ∙ ap (λ (q : Player). after_win s (opponent q) s.cube.value) same ∙ sym k.2
Follows-same s (entry.Moved turn) t u h k =
    let same : h.0 ≡ k.0 = (let e : phase.ToMove h.0 h.1 ≡ phase.ToMove k.0 k.1 = sym h.2 ∙ k.2 in cc) in
    h.5 ∙ ap (λ (p : Player). after_turn s p (after_steps s.board p turn)) same ∙ sym k.5
Follows-same s (entry.Resigned level) t u h k =
    let e = sym h.2 ∙ k.2 in
    let same = phase_back-player h.0 k.0 h.1 k.1 e in
    let back = phase_back-dice h.0 k.0 h.1 k.1 e in
    h.4 ∙ ap (λ (p : Player). record s { phase = phase.Resigned p level h.1 }) same ∙ ap (λ (b : Option Dice). record s { phase = phase.Resigned k.0 level b }) back ∙ sym k.4
Follows-same s entry.Accepted t u h k =
    let e : phase.Resigned h.0 h.1 h.2 ≡ phase.Resigned k.0 k.1 k.2 = sym h.3 ∙ k.3 in
    let same : h.0 ≡ k.0 = cc in
    let level : h.1 ≡ k.1 = cc in
    h.4 ∙ ap (λ (p : Player). after_win s (opponent p) (multiple h.1 * s.cube.value)) same ∙ ap (λ (l : Level). after_win s (opponent k.0) (multiple l * s.cube.value)) level ∙ sym k.4
Follows-same s entry.Rejected t u h k =
    let e : phase.Resigned h.0 h.1 h.2 ≡ phase.Resigned k.0 k.1 k.2 = sym h.3 ∙ k.3 in
    let same : h.0 ≡ k.0 = cc in
    let back : h.2 ≡ k.2 = cc in
    h.4 ∙ ap (λ (p : Player). record s { phase = phase_back p h.2 }) same ∙ ap (λ (b : Option Dice). record s { phase = phase_back k.0 b }) back ∙ sym k.4
Follows-same s entry.Passed t u h k =
    let same : h.0 ≡ k.0 = (let e : phase.ToMove h.0 h.1 ≡ phase.ToMove k.0 k.1 = sym h.2 ∙ k.2 in cc) in
    h.4 ∙ ap (λ (p : Player). record s { phase = phase.ToAct (opponent p) }) same ∙ sym k.4

-- one more entry
pub Leads-push : (s : State) (entries : List Entry) (e : Entry) (m t : State) → Leads s entries m → Follows m e t → Leads s (entries ++ e ∷ []) t
Leads-push s [] e m t h f = (t, subst (λ (x : State). Follows x e t) h f, refl)
Leads-push s (d ∷ entries) e m t h f = (h.0, h.1, Leads-push h.0 entries e m t h.2 f)

pub Leads-last : (s : State) (entries : List Entry) (e : Entry) (m t : State) → Leads s entries m → Leads s (entries ++ e ∷ []) t → Follows m e t
Leads-last s [] e m t h k = rw (h, k.2) k.1
Leads-last s (d ∷ entries) e m t h k =
    let same = Follows-same s d k.0 h.0 k.1 h.1 in
    Leads-last h.0 entries e m t h.2 (subst (λ (x : State). Leads x (entries ++ e ∷ []) t) same k.2)

-- what the standing says of an entry, said of the record
module _ (terms : Terms) (entries : List Entry) (e : Entry) (m : State) (at : StandsAt terms entries m) (few : length entries < most_entries) where
  pub legal_follow : IsNext terms entries e ↔ CanFollow m e
  legal_follow = (
    λ legal. (legal.1.0, Leads-last (start_of terms) entries e m legal.1.0 at legal.1.1),
    λ can. (omega (arith, length-append entries (e ∷ [])), (can.0, Leads-push (start_of terms) entries e m can.0 at can.1)),
  )

  pub after_follow : (r : Result State EntryFault) → IfOk r (λ t. Follows m e t) → IfOk r (λ t. (length entries < most_entries) × StandsAt terms (entries ++ e ∷ []) t)
  after_follow (Ok t) h = (few, Leads-push (start_of terms) entries e m t at h)
  after_follow (Err why) h = tt

  pub record_fault : (why : EntryFault) (id spare : ℕ) → IsEntryFault why m e → IsRecordFault why (record { id = id; terms = terms; entries = entries; spare = spare }) e
  record_fault fault.RecordFull id spare h = absurd h
  record_fault fault.Memory id spare h = absurd h
  record_fault fault.MatchOver id spare h = (few, (m, at, h))
  record_fault fault.WrongPhase id spare h = (few, (m, at, h))
  record_fault fault.EqualOpening id spare h = (few, (m, at, h))
  record_fault (fault.Turn why) id spare h = (few, (m, at, h))
  record_fault (fault.NoDouble why) id spare h = (few, (m, at, h))

  pub after_fault : (r : Result State EntryFault) (id spare : ℕ) → IfErr r (λ why. IsEntryFault why m e) → IfErr r (λ why. IsRecordFault why (record { id = id; terms = terms; entries = entries; spare = spare }) e)
  after_fault (Ok t) id spare h = tt
  after_fault (Err why) id spare h = record_fault why id spare h

-- a turn that is to be moved may follow exactly where it is legal
pub CanFollow-Moved : (s : State) (p : Player) (dice : Dice) (turn : List FromTo) → s.phase ≡ phase.ToMove p dice → passes s ≡ false → CanFollow s (entry.Moved turn) ↔ IsLegalTurn s.board p dice turn
CanFollow-Moved s p dice turn is play = (
  λ h. (
      let same : phase.ToMove h.1.0 h.1.1 ≡ phase.ToMove p dice = sym h.1.2 ∙ is in
      let player : h.1.0 ≡ p = cc in
      let thrown : h.1.1 ≡ dice = cc in
      subst (λ (d : Dice). IsLegalTurn s.board p d turn) thrown (subst (λ (q : Player). IsLegalTurn s.board q h.1.1 turn) player h.1.4)),
  λ legal. (after_turn s p (after_steps s.board p turn), (p, dice, is, play, legal, refl)),
)

-- an opening may follow where a game is to be opened exactly where its dice differ
pub CanFollow-Opening : (s : State) (x o : Die) → s.phase ≡ phase.Opening → CanFollow s (entry.Opening x o) ↔ (pips x ≢ pips o)
CanFollow-Opening s x o is = (λ h. h.1.1, λ differ. (record s { phase = phase.ToMove (opener x o) (record { first = x; second = o }) }, (is, differ, refl)))

-- a double may follow where a player is to act exactly where he may double
pub CanFollow-Doubled : (s : State) (p : Player) → s.phase ≡ phase.ToAct p → CanFollow s entry.Doubled ↔ MayDouble s p
CanFollow-Doubled s p is = (
  λ h. (
      let same : phase.ToAct h.1.0 ≡ phase.ToAct p = sym h.1.1 ∙ is in
      let player : h.1.0 ≡ p = cc in
      subst (λ (q : Player). MayDouble s q) player h.1.2),
  λ may. (record s { phase = phase.Doubled (opponent p) }, (p, is, may, refl)),
)

-- what may follow in its phase whatever else holds
pub CanFollow-Rolled : (s : State) (p : Player) (dice : Dice) → s.phase ≡ phase.ToAct p → CanFollow s (entry.Rolled dice)
CanFollow-Rolled s p dice is = (record s { phase = phase.ToMove p dice }, (p, is, refl))

pub CanFollow-Taken : (s : State) (q : Player) → s.phase ≡ phase.Doubled q → CanFollow s entry.Taken
CanFollow-Taken s q is = (record s { phase = phase.ToAct (opponent q); cube = record { value = 2 * s.cube.value; owner = Some q } }, (q, is, refl))

pub CanFollow-Dropped : (s : State) (q : Player) → s.phase ≡ phase.Doubled q → CanFollow s entry.Dropped
CanFollow-Dropped s q is = (after_win s (opponent q) s.cube.value, (q, is, refl))

pub CanFollow-Resigned : (s : State) (p : Player) (back : Option Dice) (level : Level) → s.phase ≡ phase_back p back → passes s ≡ false → CanFollow s (entry.Resigned level)
CanFollow-Resigned s p back level is play = (record s { phase = phase.Resigned p level back }, (p, back, is, play, refl))

pub CanFollow-Accepted : (s : State) (p : Player) (level : Level) (back : Option Dice) → s.phase ≡ phase.Resigned p level back → CanFollow s entry.Accepted
CanFollow-Accepted s p level back is = (after_win s (opponent p) (multiple level * s.cube.value), (p, level, back, is, refl))

pub CanFollow-Rejected : (s : State) (p : Player) (level : Level) (back : Option Dice) → s.phase ≡ phase.Resigned p level back → CanFollow s entry.Rejected
CanFollow-Rejected s p level back is = (record s { phase = phase_back p back }, (p, level, back, is, refl))

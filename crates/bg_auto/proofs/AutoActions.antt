-- The entry of what an automatic player does follows the record.
use Rattle.std.proofs.Common.{◌≡◌, ◌≢◌, ◌⊎◌, ℕ, IfSome, ◌<◌, ◌%◌, true, false, cond, eqb, Bool, Option}
use Rattle.std.proofs.Common.{Some, None, List, [], ◌∷◌, length, length-append, refl, sym, ◌∙◌, ap, subst, arith, inl, inr}
use Rattle.std.proofs.lemmas.Option.{get_or_from_slice_get, slice_get_within}
use Rattle.bg_board.specs.declared.players.Player.{Player}
use Rattle.bg_board.specs.FromTo.{FromTo}
use Rattle.bg_board.specs.Position.{Position}
use Rattle.bg_turns.specs.Turn.{IsLegalTurn}
use Rattle.bg_turns.specs.declared.throws.Dice.{Dice}
use Rattle.bg_match.specs.Limits.{most_entries}
use Rattle.bg_match.specs.Answers.{IsAnswer}
use Rattle.bg_match.specs.Follows.{CanFollow}
use Rattle.bg_match.specs.Match.{ActsAfter, IsNext, Log, StandsAt}
use Rattle.bg_match.specs.State.{State, start_of}
use Rattle.bg_match.specs.Terms.{Terms}
use Rattle.bg_match.specs.declared.actions.Action.{Action}
use Rattle.bg_match.specs.declared.actions.Action.TheVariants as action
use Rattle.bg_match.specs.declared.entries.Entry.{Entry}
use Rattle.bg_match.specs.declared.entries.Entry.TheVariants as entry
use Rattle.bg_match.specs.declared.phases.Phase.{Phase}
use Rattle.bg_match.specs.declared.phases.Phase.TheVariants as phase
use Rattle.bg_match.specs.declared.phases.Actor.{Actor}
use Rattle.bg_match.specs.declared.phases.Actor.TheVariants.{Nobody, Referee, Seat}
use Rattle.bg_match.specs.Actor.{actor_in, actor_of, passes}
use Rattle.bg_match.proofs.Legal.{one_actor}
use Rattle.bg_match.proofs.Passing.{by_pass, by_phase, not_passed}
use Rattle.bg_match.proofs.Runs.{Leads-push}
use Rattle.bg_auto.specs.AutoAction.{Does, IsAutoAction, IsToMove, IsTurnOf, Plays, next_number}

-- a turn that the list names is legal
turn_is_legal : (board : Position) (p : Player) (dice : Dice) (n : ℕ) (turn : List FromTo)
    → IsTurnOf board p dice n turn → IsLegalTurn board p dice turn
turn_is_legal board p dice n turn h =
    let at = n % length h.0 in
    (h.1.exactly turn).0 (at, slice_get_within h.0 at turn h.2, get_or_from_slice_get h.0 at turn turn h.2)

-- an entry that follows where the record stands is the next one
next_of : (terms : Terms) (entries : List Entry) (s : State) (e : Entry) → length entries < most_entries
    → StandsAt terms entries s → CanFollow s e → IsNext terms entries e
next_of terms entries s e few stands can = (
  omega (arith, length-append entries (e ∷ [])),
  (can.0, Leads-push (start_of terms) entries e s can.0 stands can.1),
)

next_like : (terms : Terms) (entries : List Entry) (s : State) (e f : Entry) → f ≡ e → length entries < most_entries
    → StandsAt terms entries s → CanFollow s e → IsNext terms entries f
next_like terms entries s e f same few stands can =
    subst (λ (x : Entry). IsNext terms entries x) (sym same) (next_of terms entries s e few stands can)

follows_in : (terms : Terms) (entries : List Entry) (s : State) (at : Phase) (does : Action) (e : Entry)
    → s.phase ≡ at → passes s ≡ false → length entries < most_entries → StandsAt terms entries s
    → Does terms entries s.board at does
    → IsAnswer does e → IsNext terms entries e
follows_in terms entries s phase.Opening does e is play few stands h answers = absurd h
follows_in terms entries s (phase.Over p) does e is play few stands h answers = absurd h
follows_in terms entries s (phase.ToAct p) action.Double e is play few stands h answers =
    subst (λ (x : Entry). IsNext terms entries x) (sym answers) h.1
follows_in terms entries s (phase.ToAct p) action.Roll e is play few stands h answers =
    next_like terms entries s (entry.Rolled answers.0) e answers.1 few stands (_, (p, is, refl))
follows_in terms entries s (phase.ToAct p) action.Take e is play few stands h answers = absurd h
follows_in terms entries s (phase.ToAct p) action.Drop e is play few stands h answers = absurd h
follows_in terms entries s (phase.ToAct p) (action.Move turn) e is play few stands h answers = absurd h
follows_in terms entries s (phase.ToAct p) (action.Resign level) e is play few stands h answers = absurd h
follows_in terms entries s (phase.ToAct p) action.Accept e is play few stands h answers = absurd h
follows_in terms entries s (phase.ToAct p) action.Reject e is play few stands h answers = absurd h
follows_in terms entries s (phase.Doubled q) does e is play few stands h answers =
    go (eqb (next_number entries % 5) 0) (subst (λ (a : Action). IsAnswer a e) h answers) where
      go : (t : Bool) → IsAnswer (cond t action.Drop action.Take) e → IsNext terms entries e
      go true dropped = next_like terms entries s entry.Dropped e dropped few stands (_, (q, is, refl))
      go false taken = next_like terms entries s entry.Taken e taken few stands (_, (q, is, refl))
follows_in terms entries s (phase.ToMove p dice) (action.Move turn) e is play few stands h answers =
    let legal = turn_is_legal s.board p dice (next_number entries) turn h in
    next_like terms entries s (entry.Moved turn) e answers few stands (_, (p, dice, is, play, legal, refl))
follows_in terms entries s (phase.ToMove p dice) action.Roll e is play few stands h answers = absurd h
follows_in terms entries s (phase.ToMove p dice) action.Double e is play few stands h answers = absurd h
follows_in terms entries s (phase.ToMove p dice) action.Take e is play few stands h answers = absurd h
follows_in terms entries s (phase.ToMove p dice) action.Drop e is play few stands h answers = absurd h
follows_in terms entries s (phase.ToMove p dice) (action.Resign level) e is play few stands h answers = absurd h
follows_in terms entries s (phase.ToMove p dice) action.Accept e is play few stands h answers = absurd h
follows_in terms entries s (phase.ToMove p dice) action.Reject e is play few stands h answers = absurd h
follows_in terms entries s (phase.Resigned p level back) does e is play few stands h answers =
    let rejects : e ≡ entry.Rejected = subst (λ (a : Action). IsAnswer a e) h answers in
    next_like terms entries s entry.Rejected e rejects few stands (_, (p, level, back, is, refl))

-- where a seat acts no turn is to be passed
seat_plays : (log : Log) (s : State) (player : Player) → ActsAfter log.terms log.entries (Seat player)
    → StandsAt log.terms log.entries s → passes s ≡ false
seat_plays log s player acts stands = go (passes s) refl where
  same : actor_of s ≡ Seat player
  same = one_actor log.terms log.entries (actor_of s) (Seat player) (s, stands, refl) acts

  go : (t : Bool) → passes s ≡ t → passes s ≡ false
  go true pass = absurd (let not : Referee ≡ Seat player = sym (by_pass s pass) ∙ same in cc)
  go false play = play

-- the entry of what is played follows
pub played_follows : (log : Log) (player : Player) (does : Option Action) → ActsAfter log.terms log.entries (Seat player)
    → length log.entries < most_entries → Plays log does
    → IfSome does (λ action. (e : Entry) → IsAnswer action e → IsNext log.terms log.entries e)
played_follows log player None acts few plays = tt
played_follows log player (Some does) acts few plays = λ e answers.
    follows_in log.terms log.entries plays.0 plays.0.phase does e refl (seat_plays log plays.0 player acts plays.1) few
    plays.1 plays.2 answers

-- what the player plays who acts is what he does
pub played : (log : Log) (player : Player) (does : Option Action) → ActsAfter log.terms log.entries (Seat player)
    → length log.entries < most_entries → Plays log does → IsAutoAction log player does
played log player None acts few plays = inl (plays player)
played log player (Some does) acts few plays = (acts, few, plays)

-- where a game is to be opened, or the match is over, nobody plays
pub nobody_plays : (log : Log) (s : State) (at : Phase) → StandsAt log.terms log.entries s → at ≡ s.phase
    → (at ≡ phase.Opening) ⊎ ((winner : Player) × (at ≡ phase.Over winner)) → Plays log None
nobody_plays log s at stands is (inl opening) = λ p acts.
    let here = sym is ∙ opening in
    let actor = by_phase s (not_passed s phase.Opening here (λ p dice is. cc)) ∙ ap actor_in here in
    let not : Referee ≡ Seat p = sym actor ∙ one_actor log.terms log.entries (actor_of s) (Seat p) (s, stands, refl) acts in
    absurd (let differ = not in cc)
nobody_plays log s at stands is (inr over) = λ p acts.
    let here = sym is ∙ over.1 in
    let actor = by_phase s (not_passed s (phase.Over over.0) here (λ p dice is. cc)) ∙ ap actor_in here in
    let not : Nobody ≡ Seat p = sym actor ∙ one_actor log.terms log.entries (actor_of s) (Seat p) (s, stands, refl) acts in
    absurd (let differ = not in cc)

-- one actor acts
pub another_acts : (log : Log) (actor : Actor) (p : Player) → ActsAfter log.terms log.entries actor → actor ≢ Seat p
    → ActsAfter log.terms log.entries (Seat p) → ⊥
another_acts log actor p acts differ also = differ (one_actor log.terms log.entries actor (Seat p) acts also)

-- who acts where a player is to move is that player
pub acting_moves : (log : Log) (player mover : Player) → ActsAfter log.terms log.entries (Seat player) → IsToMove log mover
    → IsToMove log player
acting_moves log player mover acts moves =
    let actor = by_phase moves.0 (seat_plays log moves.0 player acts moves.2) ∙ ap actor_in moves.3 in
    let named = one_actor log.terms log.entries (Seat mover) (Seat player) (moves.0, moves.2, sym actor) acts in
    let same : mover ≡ player = cc in
    subst (λ (p : Player). IsToMove log p) same moves

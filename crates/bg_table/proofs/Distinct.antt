-- The distinct turns, turn by turn.
use Rattle.std.proofs.Common.{◌≡◌, ◌⊎◌, ◌↔◌, ℕ, zero, suc, ◌+◌, ◌<◌, ◌≤◌, Bool, false, List, [], ◌∷◌, ◌++◌, length, get_or, refl, sym, ◌∙◌, ap, subst, arith, inl, inr}
use Rattle.std.specs.Prelude.{AllPairs, Contains, IsTrue}
use Rattle.std.proofs.lemmas.Bool.{cases_eq}
use Rattle.std.proofs.lemmas.List.{get_or_default}
use Rattle.std.proofs.lemmas.List.Elements.{Contains-append_left, Contains-push, Contains-push_cases}
use Rattle.bg_board.specs.FromTo.{FromTo}
use Rattle.bg_board.specs.Position.{Position}
use Rattle.bg_board.specs.declared.players.Player.{Player}
use Rattle.bg_turns.proofs.Lists.Listed.{AllPairs-append, AllPairs-one}
use Rattle.bg_turns.proofs.Parts.{steps_legal}
use Rattle.bg_turns.specs.Dice.{dice_list}
use Rattle.bg_turns.specs.InOrder.{AreLegalSteps}
use Rattle.bg_turns.specs.Turn.{IsLegalTurn, after_steps}
use Rattle.bg_turns.specs.TurnOrder.{IsGreater, IsHigher}
use Rattle.bg_turns.specs.declared.throws.Dice.{Dice}
use Rattle.bg_table.specs.DistinctTurns.{AreDistinctTurns, StandsForAll}

-- the turn is one of the first, so many
abbrev pub IsBefore : List (List FromTo) → ℕ → List FromTo → Type 0
IsBefore turns i turn = (k : ℕ) × (k < i) × (k < length turns) × (get_or turns k turn ≡ turn)

-- the turn is kept, or a greater one that leads where it leads
abbrev pub IsStoodFor : Position → Player → List (List FromTo) → List FromTo → Type 0
IsStoodFor b player kept turn =
    (other : List FromTo) × Contains kept other × (after_steps b player other ≡ after_steps b player turn)
    × ((turn ≡ other) ⊎ IsGreater other turn)

-- of the first turns, so many, the distinct ones are kept, with the positions to which they lead
pub record IsSoFar (b : Position) (player : Player) (turns : List (List FromTo)) (i : ℕ) (kept : List (List FromTo)) (positions : List Position) : Type 0 where
  pub reached : (p : Position) → Contains positions p
      → (turn : List FromTo) × Contains kept turn × (after_steps b player turn ≡ p)
  pub noted : (turn : List FromTo) → Contains kept turn → Contains positions (after_steps b player turn)
  pub listed : (turn : List FromTo) → Contains kept turn → IsBefore turns i turn
  pub stood_for : (turn : List FromTo) → IsBefore turns i turn → IsStoodFor b player kept turn
  pub apart : (turn other : List FromTo) → Contains kept turn → Contains kept other
      → after_steps b player turn ≡ after_steps b player other → turn ≡ other
  pub ordered : AllPairs IsGreater kept

-- none of no elements
none_in : {A : Type 0} (x : A) → Contains [] x → ⊥
none_in x h = let below = h.1 in omega arith

pub none_so_far : (b : Position) (player : Player) (turns : List (List FromTo)) → IsSoFar b player turns 0 [] []
none_so_far b player turns = record {
  reached = λ p h. absurd (none_in p h);
  noted = λ turn h. absurd (none_in turn h);
  listed = λ turn h. absurd (none_in turn h);
  stood_for = λ turn h. absurd (let below = h.1 in omega arith);
  apart = λ turn other h. absurd (none_in turn h);
  ordered = λ i j d less within. absurd (omega arith);
}

later : (turns : List (List FromTo)) (i : ℕ) (turn : List FromTo) → IsBefore turns i turn → IsBefore turns (i + 1) turn
later turns i turn h = let below = h.1 in (h.0, omega arith, h.2, h.3)

-- one of the first turns and one more is one of the first, or that one
before_more : (turns : List (List FromTo)) (i : ℕ) (turn next : List FromTo) → i < length turns → next ≡ get_or turns i next
    → IsBefore turns (i + 1) turn → IsBefore turns i turn ⊎ (turn ≡ next)
before_more turns i turn next within is h = elim (cases_eq h.0 i) [
  | inl here ↦ inr (sym (subst (λ (k : ℕ). get_or turns k turn ≡ turn) here h.3) ∙ get_or_default turns i turn next within ∙ sym is)
  | inr earlier ↦ inl (h.0, (let below = h.1 in omega arith), h.2, h.3)
]

-- a later turn is less
before_greater : (turns : List (List FromTo)) (i : ℕ) (turn next : List FromTo) → AllPairs IsGreater turns → i < length turns
    → next ≡ get_or turns i next → IsBefore turns i turn → IsGreater turn next
before_greater turns i turn next ordered within is h =
    let less = ordered h.0 i turn h.1 within in
    let same : get_or turns i turn ≡ next = get_or_default turns i turn next within ∙ sym is in
    subst (λ (t : List FromTo). IsGreater turn t) same (subst (λ (t : List FromTo). IsGreater t (get_or turns i turn)) h.3 less)

-- a turn that leads where one that is kept leads
pub same_so_far : (b : Position) (player : Player) (turns : List (List FromTo)) (i : ℕ) (kept : List (List FromTo)) (positions : List Position) (next : List FromTo)
    → AllPairs IsGreater turns → i < length turns → next ≡ get_or turns i next → Contains positions (after_steps b player next)
    → IsSoFar b player turns i kept positions → IsSoFar b player turns (i + 1) kept positions
same_so_far b player turns i kept positions next ordered within is there h = record {
  reached = h.reached;
  noted = h.noted;
  listed = λ turn has. later turns i turn (h.listed turn has);
  stood_for = λ turn before. elim (before_more turns i turn next within is before) [
    | inl earlier ↦ h.stood_for turn earlier
    | inr here ↦ subst (λ (t : List FromTo). IsStoodFor b player kept t) (sym here) stands
  ];
  apart = h.apart;
  ordered = h.ordered;
} where
  stands : IsStoodFor b player kept next
  stands =
      let of = h.reached (after_steps b player next) there in
      (of.0, of.1, of.2, inr (before_greater turns i of.0 next ordered within is (h.listed of.0 of.1)))

-- a turn that leads elsewhere
pub more_so_far : (b : Position) (player : Player) (turns : List (List FromTo)) (i : ℕ) (kept : List (List FromTo)) (positions : List Position) (next : List FromTo)
    → AllPairs IsGreater turns → i < length turns → next ≡ get_or turns i next → (Contains positions (after_steps b player next) → ⊥)
    → IsSoFar b player turns i kept positions
    → IsSoFar b player turns (i + 1) (kept ++ next ∷ []) (positions ++ after_steps b player next ∷ [])
more_so_far b player turns i kept positions next ordered within is new h = record {
  reached = reached;
  noted = noted;
  listed = listed;
  stood_for = stood_for;
  apart = apart;
  ordered = AllPairs-append kept (next ∷ []) h.ordered (AllPairs-one next) greater;
} where
  to : Position
  to = after_steps b player next

  reached : (p : Position) → Contains (positions ++ to ∷ []) p
      → (turn : List FromTo) × Contains (kept ++ next ∷ []) turn × (after_steps b player turn ≡ p)
  reached p has = elim (Contains-push_cases positions to p has) [
    | inl old ↦ (let of = h.reached p old in (of.0, Contains-append_left kept (next ∷ []) of.0 of.1, of.2))
    | inr here ↦ (next, Contains-push kept next, here)
  ]

  noted : (turn : List FromTo) → Contains (kept ++ next ∷ []) turn → Contains (positions ++ to ∷ []) (after_steps b player turn)
  noted turn has = elim (Contains-push_cases kept next turn has) [
    | inl old ↦ Contains-append_left positions (to ∷ []) (after_steps b player turn) (h.noted turn old)
    | inr here ↦ subst (λ (t : List FromTo). Contains (positions ++ to ∷ []) (after_steps b player t)) here (Contains-push positions to)
  ]

  here_now : IsBefore turns (i + 1) next
  here_now = (i, omega arith, within, sym is)

  listed : (turn : List FromTo) → Contains (kept ++ next ∷ []) turn → IsBefore turns (i + 1) turn
  listed turn has = elim (Contains-push_cases kept next turn has) [
    | inl old ↦ later turns i turn (h.listed turn old)
    | inr here ↦ subst (λ (t : List FromTo). IsBefore turns (i + 1) t) here here_now
  ]

  stands : IsStoodFor b player (kept ++ next ∷ []) next
  stands = (next, Contains-push kept next, refl, inl refl)

  stood_for : (turn : List FromTo) → IsBefore turns (i + 1) turn → IsStoodFor b player (kept ++ next ∷ []) turn
  stood_for turn before = elim (before_more turns i turn next within is before) [
    | inl earlier ↦ (
        let of = h.stood_for turn earlier in
        (of.0, Contains-append_left kept (next ∷ []) of.0 of.1, of.2, of.3))
    | inr here ↦ subst (λ (t : List FromTo). IsStoodFor b player (kept ++ next ∷ []) t) (sym here) stands
  ]

  elsewhere : (turn : List FromTo) → Contains kept turn → after_steps b player turn ≡ to → ⊥
  elsewhere turn has same = new (subst (λ (p : Position). Contains positions p) same (h.noted turn has))

  apart : (turn other : List FromTo) → Contains (kept ++ next ∷ []) turn → Contains (kept ++ next ∷ []) other
      → after_steps b player turn ≡ after_steps b player other → turn ≡ other
  apart turn other one two same = elim (Contains-push_cases kept next turn one) [
    | inl old ↦ elim (Contains-push_cases kept next other two) [
      | inl also ↦ h.apart turn other old also same
      | inr here ↦ absurd (elsewhere turn old (same ∙ ap (after_steps b player) (sym here)))
    ]
    | inr first ↦ elim (Contains-push_cases kept next other two) [
      | inl also ↦ absurd (elsewhere other also (sym same ∙ ap (after_steps b player) (sym first)))
      | inr here ↦ sym first ∙ here
    ]
  ]

  only_one : (x y : List FromTo) → Contains (x ∷ []) y → y ≡ x
  only_one x y (zero, below, same) = sym same
  only_one x y (suc k, below, same) = absurd (omega (arith, below))

  greater : (turn other : List FromTo) → Contains kept turn → Contains (next ∷ []) other → IsGreater turn other
  greater turn other has one =
      let only : other ≡ next = only_one next other one in
      subst (λ (t : List FromTo). IsGreater turn t) (sym only) (before_greater turns i turn next ordered within is (h.listed turn has))

-- a test says that a position is not among some
pub not_among : (positions given : List Position) (p q : Position) (t : Bool) → given ≡ positions → p ≡ q
    → IsTrue t ↔ Contains given p → t ≡ false → Contains positions q → ⊥
not_among positions given p q t same is h denied has =
    let there : Contains given p = subst (λ (x : Position). Contains given x) (sym is) (subst (λ (xs : List Position). Contains xs q) (sym same) has) in
    let both : IsTrue false = subst (λ (x : Bool). IsTrue x) denied (h.1 there) in
    absurd cc

-- a legal turn is one of legal steps
pub legal_at : (b : Position) (player : Player) (dice : Dice) (turns : List (List FromTo)) (i : ℕ) (turn : List FromTo)
    → ((steps : List FromTo) → Contains turns steps ↔ IsLegalTurn b player dice steps) → i < length turns → turn ≡ get_or turns i turn
    → AreLegalSteps b player turn
legal_at b player dice turns i turn exactly within is =
    steps_legal b player (dice_list dice) turn ((exactly turn).0 (i, within, sym is)).playable

-- one step is not higher than itself
higher_once : (a b : FromTo) → IsHigher a b → IsHigher b a → ⊥
higher_once a b (inl one) (inl two) = omega (arith, one, two)
higher_once a b (inl one) (inr two) = let same = two.0 in omega (arith, one, same)
higher_once a b (inr one) (inl two) = let same = one.0 in omega (arith, two, same)
higher_once a b (inr one) (inr two) = omega (arith, one.1, two.1)

self_higher : (a b : FromTo) → IsHigher a b → a ≡ b → ⊥
self_higher a b h same = higher_once a b h (subst (λ (s : FromTo). IsHigher s a) same (subst (λ (s : FromTo). IsHigher a s) (sym same) h))

-- of two turns one alone is greater
pub greater_once : (a b : List FromTo) → IsGreater a b → IsGreater b a → ⊥
greater_once [] b h k = h
greater_once (x ∷ a) [] h k = k
greater_once (x ∷ a) (y ∷ b) (inl one) (inl two) = higher_once x y one two
greater_once (x ∷ a) (y ∷ b) (inl one) (inr two) = self_higher x y one (sym two.0)
greater_once (x ∷ a) (y ∷ b) (inr one) (inl two) = self_higher y x two (sym one.0)
greater_once (x ∷ a) (y ∷ b) (inr one) (inr two) = greater_once a b one.1 two.1

-- of all legal turns the distinct ones are kept
pub all_so_far : (b : Position) (player : Player) (dice : Dice) (turns : List (List FromTo)) (i : ℕ) (kept : List (List FromTo)) (positions : List Position)
    → ((steps : List FromTo) → Contains turns steps ↔ IsLegalTurn b player dice steps) → length turns ≤ i
    → IsSoFar b player turns i kept positions → AreDistinctTurns b player dice kept
all_so_far b player dice turns i kept positions exactly end h = record {
  exactly = λ steps. (stands steps, kept_too steps);
  greatest_first = h.ordered;
} where
  legal : (steps : List FromTo) → Contains kept steps → IsLegalTurn b player dice steps
  legal steps has = let of = h.listed steps has in (exactly steps).0 (of.0, of.2, of.3)

  before : (steps : List FromTo) → IsLegalTurn b player dice steps → IsBefore turns i steps
  before steps is = let of = (exactly steps).1 is in (of.0, (let below = of.1 in omega arith), of.1, of.2)

  greatest : (steps : List FromTo) → Contains kept steps → (other : List FromTo) → IsLegalTurn b player dice other
      → after_steps b player other ≡ after_steps b player steps → (other ≡ steps) ⊎ IsGreater steps other
  greatest steps has other is same =
      let of = h.stood_for other (before other is) in
      let one : of.0 ≡ steps = h.apart of.0 steps of.1 has (of.2 ∙ same) in
      subst (λ (t : List FromTo). (other ≡ t) ⊎ IsGreater t other) one of.3

  stands : (steps : List FromTo) → Contains kept steps → StandsForAll b player dice steps
  stands steps has = record {
    legal = legal steps has;
    greatest = λ other is same. greatest steps has other is same;
  }

  chosen : (steps : List FromTo) → StandsForAll b player dice steps → (other : List FromTo) → Contains kept other
      → after_steps b player other ≡ after_steps b player steps → (steps ≡ other) ⊎ IsGreater other steps
      → (other ≡ steps) ⊎ IsGreater steps other → Contains kept steps
  chosen steps is other has same (inl one) two = subst (λ (t : List FromTo). Contains kept t) (sym one) has
  chosen steps is other has same (inr one) (inl two) = subst (λ (t : List FromTo). Contains kept t) two has
  chosen steps is other has same (inr one) (inr two) = absurd (greater_once other steps one two)

  kept_too : (steps : List FromTo) → StandsForAll b player dice steps → Contains kept steps
  kept_too steps is =
      let of = h.stood_for steps (before steps is.legal) in
      chosen steps is of.0 of.1 of.2 of.3 (is.greatest of.0 (legal of.0 of.1) of.2)

-- What the entries of a record tell, one behind the other.
use Rattle.std.specs.Prelude.{◌≡◌, ◌≢◌, ◌<◌, List, [], ◌∷◌, ◌++◌}
use Rattle.std.proofs.Common.{append_assoc, append-nil, refl, sym, ◌∙◌, ap, subst, arith}
use Rattle.bg_match.specs.Follows.{Follows, phase_back}
use Rattle.bg_match.specs.State.{State, start_of}
use Rattle.bg_match.specs.Terms.{Terms}
use Rattle.bg_match.specs.declared.phases.Phase.{Phase}
use Rattle.bg_match.specs.declared.phases.Phase.TheVariants as phase
use Rattle.bg_match.specs.declared.entries.Entry.{Entry}
use Rattle.bg_match.specs.declared.entries.Entry.TheVariants as entry
use Rattle.bg_mat.specs.Files.{start_place}
use Rattle.bg_mat.specs.Telling.{BringsDice, GoesOn, Item, Place, Tells}
use Rattle.bg_mat.specs.Tellings.{AreOfItems, IsInOrder, items_of_telling, items_of_tellings}
use Rattle.bg_mat.specs.declared.rows.cells.Cell.TheVariants as cell
use Rattle.bg_mat.specs.declared.awaiting.Awaited.{Awaited}
use Rattle.bg_mat.specs.declared.awaiting.Awaited.TheVariants as awaited
use Rattle.bg_mat.specs.declared.tellings.Telling.{Telling}
use Rattle.bg_mat.specs.declared.tellings.Telling.TheVariants as telling

-- what is told leads through these entries to a place
pub record Retold (terms : Terms) (tellings : List Telling) (told : List Entry) (p : Place) (there : Awaited) : Type 0 where
  pub items : AreOfItems (start_place terms) (items_of_tellings tellings) told p
  pub order : IsInOrder awaited.Game tellings there

items-append : (a b : List Telling) → items_of_tellings (a ++ b) ≡ items_of_tellings a ++ items_of_tellings b
items-append [] b = refl
items-append (t ∷ a) b =
    ap (λ (xs : List Item). items_of_telling t ++ xs) (items-append a b)
    ∙ sym (append_assoc (items_of_telling t) (items_of_tellings a) (items_of_tellings b))

of_both : (p : Place) (a b : List Item) (d e : List Entry) (m q : Place) → AreOfItems p a d m → AreOfItems m b e q
    → AreOfItems p (a ++ b) (d ++ e) q
of_both p [] b d e m q h more = rw h.0 (subst (λ (x : Place). AreOfItems x b e q) h.1 more)
of_both p (t ∷ a) b d e m q (own, rest, middle, tells, left, entries) more = (
  own,
  rest ++ e,
  middle,
  tells,
  of_both middle a b rest e m q left more,
  ap (λ (xs : List Entry). xs ++ e) entries ∙ append_assoc own rest e,
)

in_order_both : (here : Awaited) (a b : List Telling) (middle there : Awaited) → IsInOrder here a middle
    → IsInOrder middle b there → IsInOrder here (a ++ b) there
in_order_both here [] b middle there h more = subst (λ (x : Awaited). IsInOrder x b there) h more
in_order_both here (telling.Game game ∷ a) b middle there h more =
    (h.0, h.1, in_order_both awaited.Row a b middle there h.2 more)
in_order_both here (telling.Does player (cell.Wins win) ∷ a) b middle there h more =
    (h.0, h.1, in_order_both awaited.Game a b middle there h.2 more)
in_order_both here (telling.Does player (cell.Turn dice legs) ∷ a) b middle there h more =
    (h.0, h.1, in_order_both awaited.Row a b middle there h.2 more)
in_order_both here (telling.Does player (cell.CannotMove dice) ∷ a) b middle there h more =
    (h.0, h.1, in_order_both awaited.Row a b middle there h.2 more)
in_order_both here (telling.Does player (cell.Unknown dice) ∷ a) b middle there h more =
    (h.0, h.1, in_order_both awaited.Row a b middle there h.2 more)
in_order_both here (telling.Does player (cell.Doubles n) ∷ a) b middle there h more =
    (h.0, h.1, in_order_both awaited.Row a b middle there h.2 more)
in_order_both here (telling.Does player cell.Takes ∷ a) b middle there h more =
    (h.0, h.1, in_order_both awaited.Row a b middle there h.2 more)
in_order_both here (telling.Does player cell.Drops ∷ a) b middle there h more =
    (h.0, h.1, in_order_both awaited.Row a b middle there h.2 more)

-- one telling more
pub told_more : (terms : Terms) (tellings : List Telling) (told own : List Entry) (p q : Place) (middle there : Awaited) (t : Telling)
    → Retold terms tellings told p middle → AreOfItems p (items_of_telling t) own q → IsInOrder middle (t ∷ []) there
    → Retold terms (tellings ++ t ∷ []) (told ++ own) q there
told_more terms tellings told own p q middle there t r items order = record {
  items = rw (items-append tellings (t ∷ []), append-nil (items_of_telling t))
      (of_both (start_place terms) (items_of_tellings tellings) (items_of_telling t) told own p q r.items items);
  order = in_order_both awaited.Game tellings (t ∷ []) middle there r.order order;
}

-- one item leads from p to q
pub one_item : (p q : Place) (item : Item) (own : List Entry) → Tells p item own q → AreOfItems p (item ∷ []) own q
one_item p q item own tells = (own, [], q, tells, (refl, refl), sym (append-nil own))

-- the game that is told is the one that is played, and the scores before it are those so far
pub record InGame (p : Place) (s : State) : Type 0 where
  pub game : s.game ≡ p.game
  pub x : p.x_before ≡ s.x_score
  pub o : p.o_before ≡ s.o_score

-- the phase without an offer to resign
abbrev pub calm_phase : Phase → Phase
calm_phase (phase.Resigned player level back) = phase_back player back
calm_phase ph = ph

abbrev pub calm : State → State
calm s = record s { phase = calm_phase s.phase }

-- the entries that are kept lead to c, and those that are told to p: dice that are left to move are
-- not told yet
abbrev pub IsAt : Phase → List Entry → List Entry → Place → State → Type 0
IsAt phase.Opening told kept p c = (kept ≡ told) × (p.state ≡ c) × (c.game ≢ p.game)
IsAt (phase.ToMove player dice) told kept p c =
    (roll : Entry) × (kept ≡ told ++ roll ∷ []) × BringsDice p.state player dice roll × Follows p.state roll c
    × GoesOn p × InGame p c
IsAt (phase.Over winner) told kept p c = (kept ≡ told) × (p.state ≡ c)
IsAt (phase.ToAct player) told kept p c = (kept ≡ told) × (p.state ≡ c) × InGame p c
IsAt (phase.Doubled player) told kept p c = (kept ≡ told) × (p.state ≡ c) × InGame p c
IsAt (phase.Resigned player level back) told kept p c = ⊥

abbrev pub IsOffer : Phase → State → Type 0
IsOffer (phase.Resigned player level back) s =
    Follows (record s { phase = phase_back player back }) (entry.Resigned level) s
IsOffer _ s = Unit {0}

abbrev pub MayStand : Phase → Awaited → Type 0
MayStand phase.Opening there = there ≢ awaited.Scores
MayStand (phase.Over winner) there = Unit {0}
MayStand _ there = there ≡ awaited.Row

-- what is told of the entries that are kept, where the match stands at s
pub record IsTold (terms : Terms) (kept : List Entry) (s : State) (tellings : List Telling) : Type 0 where
  pub told : List Entry
  pub place : Place
  pub there : Awaited
  pub retold : Retold terms tellings told place there
  pub at : IsAt (calm_phase s.phase) told kept place (calm s)
  pub offer : IsOffer s.phase s
  pub stands : MayStand s.phase there
  pub cube : 0 < s.cube.value

pub nothing_told : (terms : Terms) → IsTold terms [] (start_of terms) []
nothing_told terms = record {
  told = [];
  place = start_place terms;
  there = awaited.Game;
  retold = record { items = (refl, refl); order = refl };
  at = (refl, refl, λ e. absurd (omega arith));
  offer = tt;
  stands = λ e. absurd (cc (e));
  cube = omega arith;
}

-- all that is kept is told, in a game in which the match stood at s, and it stands at t
pub record IsSettled (terms : Terms) (kept : List Entry) (s t : State) (tellings : List Telling) : Type 0 where
  pub told : List Entry
  pub place : Place
  pub retold : Retold terms tellings told place awaited.Row
  pub all : kept ≡ told
  pub at : place.state ≡ t
  pub in_game : InGame place s

pub one_more : (kept told : List Entry) (e : Entry) → kept ≡ told → kept ++ e ∷ [] ≡ told ++ e ∷ []
one_more kept told e h = ap (λ (xs : List Entry). xs ++ e ∷ []) h

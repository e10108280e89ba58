-- The laws of entries and actions.
use Rattle.std.proofs.Common.{◌≡◌, ℕ, zero, suc, ◌-◌, ◌≤◌, List, [], ◌∷◌, ◌++◌, length, refl, sym, ap, subst, ◌∙◌, arith}
use Rattle.std.specs.Prelude.{◌==◌, Ok}
use Rattle.std.specs.List.{flat_map, AllByRecursion}
use Rattle.std.proofs.lemmas.List.Concat.{flat_map-cons}
use Rattle.bg_board.specs.Die.{pips, die_of}
use Rattle.bg_board.specs.FromTo.{FromTo}
use Rattle.bg_board.specs.declared.dice.Die.{Die}
use Rattle.bg_board.specs.declared.dice.Die.TheVariants.{One, Two, Three, Four, Five, Six}
use Rattle.bg_turns.specs.declared.throws.Dice.{Dice}
use Rattle.bg_turns.specs.Turn.{IsDownward, IsTurn}
use Rattle.bg_match.specs.Entry.{IsAction}
use Rattle.bg_match.specs.declared.actions.Action.{Action}
use Rattle.bg_match.specs.declared.actions.Action.TheVariants as action
use Rattle.bg_match.specs.declared.entries.Entry.{Entry}
use Rattle.bg_match.specs.declared.entries.Entry.TheVariants as entry
use Rattle.bg_match.specs.declared.levels.Level.{Level}
use Rattle.bg_match.specs.declared.levels.Level.TheVariants.{Normal, Gammon, Backgammon}
use Rattle.bg_wire.specs.Entries.Codes.{opening_code, rolled_code, doubled_code, taken_code, dropped_code, moved_code, resigned_code, accepted_code, rejected_code, normal_code, backgammon_code, least_pips, most_pips, lowest_start, bar, most_steps}
use Rattle.bg_wire.specs.Saved.SavedLayouts.{last_code, IsEntryIn}
use Rattle.bg_wire.specs.declared.saves.layouts.Layout.{Layout}
use Rattle.bg_wire.specs.declared.saves.layouts.Layout.TheVariants as layouts
use Rattle.bg_wire.specs.Entries.Reading.{◌>>=◌, Cursor, Read, u8_at, many_at, with}
use Rattle.bg_wire.specs.Entries.EntryText.{step_bytes, turn_bytes, level_code, dice_bytes, action_bytes, entry_bytes}
use Rattle.bg_wire.specs.Entries.EntryReading.{step_at, turn_at, level_of_code, level_at, die_at, dice_at, action_of, action_at, entry_of, entry_at}
use Rattle.bg_wire.proofs.Laws.{OneByte, Law, Then, Nothing, Mapped, Each, Choice, HasText, has_mapped, has_choice, has_each, then_law, done_law, with_law, other_text, many_law, choice_law}
use Rattle.bg_wire.proofs.Fields.{Byte, has_byte, byte_law}

-- what is in its ranges has this text
abbrev pub Spells : {A : Type 0} → (A → Type 0) → (A → List ℕ) → A → List ℕ → Type 0
Spells Valid text x front = Valid x × (front ≡ text x)

abbrev Always : {A : Type 0} → A → Type 0
Always x = Unit {0}

-- ---- steps and turns

abbrev step_of : ℕ → ℕ → FromTo
step_of from to = record { from = from; to = to }

abbrev StepParts : FromTo → List ℕ → Type 0
StepParts = Then (Byte lowest_start bar) (λ from. Mapped (step_of from) (Byte 0 (from - 1)))

step_to : (s : FromTo) (front : List ℕ) → StepParts s front → Spells IsDownward step_bytes s front
step_to s front h =
    let from = h.0 in let to = h.4.0 in
    let text : front ≡ step_bytes (step_of from to) = h.5 ∙ ap (λ (r : List ℕ). r ++ h.2) h.3.2 ∙ ap (λ (r : List ℕ). from ∷ r) h.4.1.2 in
    subst (λ (x : FromTo). Spells IsDownward step_bytes x front) h.4.2 (record { starts = h.3.1; lower = omega (arith, h.3.0, h.4.1.1) }, text)

step_from : (s : FromTo) (front : List ℕ) → Spells IsDownward step_bytes s front → StepParts s front
step_from s front h = (
  s.from,
  s.from ∷ [],
  s.to ∷ [],
  (omega (arith, h.0.lower), h.0.starts, refl),
  (s.to, (omega arith, omega (arith, h.0.lower), refl), refl),
  h.1,
)

pub step_law : Law OneByte step_at (Spells IsDownward step_bytes)
unfolding step_at
step_law = other_text _ step_to step_from
    (then_law (u8_at lowest_start bar) (λ from c. with (step_of from) (u8_at 0 (from - 1) c)) (byte_law lowest_start bar)
    (λ from. with_law (step_of from) (u8_at 0 (from - 1)) (byte_law 0 (from - 1)))
    (λ from first h. has_mapped (step_of from) (has_byte 0 (from - 1) (omega arith))))

has_step : HasText (Spells IsDownward step_bytes)
has_step = (step_of 1 0, step_bytes (step_of 1 0), (record { starts = omega arith; lower = omega arith }, refl))

-- each has a text, one after the other
pub each_to : {A : Type 0} (Valid : A → Type 0) (text : A → List ℕ) (n : ℕ) (xs : List A) (front : List ℕ) → Each (Spells Valid text) n xs front
    → (length xs ≡ n) × AllByRecursion Valid xs × (front ≡ flat_map text xs)
each_to Valid text zero [] front h = (refl, tt, h)
each_to Valid text zero (x ∷ xs) front h = absurd h
each_to Valid text (suc n) [] front h = absurd h
each_to Valid text (suc n) (x ∷ xs) front h =
    let r = each_to Valid text n xs h.1 h.3 in
    (ap suc r.0, (h.2.0, r.1), h.4 ∙ ap (λ (f : List ℕ). f ++ h.1) h.2.1 ∙ ap (λ (f : List ℕ). text x ++ f) r.2 ∙ sym (flat_map-cons text x xs))

pub each_from : {A : Type 0} (Valid : A → Type 0) (text : A → List ℕ) (n : ℕ) (xs : List A) (front : List ℕ) → length xs ≡ n → AllByRecursion Valid xs → front ≡ flat_map text xs → Each (Spells Valid text) n xs front
each_from Valid text zero [] front len all e = e
each_from Valid text zero (x ∷ xs) front len all e = absurd (omega arith)
each_from Valid text (suc n) [] front len all e = absurd (omega arith)
each_from Valid text (suc n) (x ∷ xs) front len all e =
    (text x, flat_map text xs, (all.0, refl), each_from Valid text n xs (flat_map text xs) (omega arith) all.1 refl, e ∙ flat_map-cons text x xs)

-- a count, and so many
abbrev Counted : {A : Type 0} → ℕ → ℕ → (A → Type 0) → (A → List ℕ) → List A → List ℕ → Type 0
Counted low high Valid text = Then (Byte low high) (λ n. Each (Spells Valid text) n)

abbrev pub IsCounted : {A : Type 0} → ℕ → ℕ → (A → Type 0) → List A → Type 0
IsCounted low high Valid xs = (low ≤ length xs) × (length xs ≤ high) × AllByRecursion Valid xs

abbrev counted_text : {A : Type 0} → (A → List ℕ) → List A → List ℕ
counted_text text xs = length xs ∷ flat_map text xs

counted_to : {A : Type 0} (low high : ℕ) (Valid : A → Type 0) (text : A → List ℕ) (xs : List A) (front : List ℕ) → Counted low high Valid text xs front → Spells (IsCounted low high Valid) (counted_text text) xs front
counted_to low high Valid text xs front h =
    let r = each_to Valid text h.0 xs h.2 h.4 in
    ((omega (arith, r.0, h.3.0), omega (arith, r.0, h.3.1), r.1), h.5 ∙ ap (λ (f : List ℕ). f ++ h.2) h.3.2 ∙ ap (λ (f : List ℕ). h.0 ∷ f) r.2 ∙ ap (λ (n : ℕ). n ∷ flat_map text xs) (sym r.0))

counted_from : {A : Type 0} (low high : ℕ) (Valid : A → Type 0) (text : A → List ℕ) (xs : List A) (front : List ℕ) → Spells (IsCounted low high Valid) (counted_text text) xs front → Counted low high Valid text xs front
counted_from low high Valid text xs front h =
    (length xs, length xs ∷ [], flat_map text xs, (h.0.0, h.0.1, refl), each_from Valid text (length xs) xs (flat_map text xs) refl h.0.2 refl, h.1)

pub counted_law : {A : Type 0} (low high : ℕ) (Valid : A → Type 0) (text : A → List ℕ) (one : Cursor → Read A) → Law OneByte one (Spells Valid text) → HasText (Spells Valid text)
    → Law OneByte (λ c. u8_at low high c >>= λ n. many_at one n.0 n.1) (Spells (IsCounted low high Valid) (counted_text text))
counted_law low high Valid text one law some =
    other_text _ (counted_to low high Valid text) (counted_from low high Valid text) (then_law (u8_at low high) (λ n. many_at one n) (byte_law low high) (λ n. many_law one law n) (λ n first h. has_each some n))

turn_law : Law OneByte turn_at (Spells IsTurn turn_bytes)
unfolding turn_at
turn_law = other_text _ (λ t front h. (record { few = h.0.1; each = h.0.2 }, h.1)) (λ t front h. ((omega arith, h.0.few, h.0.each), h.1)) (counted_law 0 most_steps IsDownward step_bytes step_at step_law has_step)

has_turn : HasText (Spells IsTurn turn_bytes)
has_turn = ([], turn_bytes [], (record { few = omega arith; each = tt }, refl))

-- ---- one byte that names a value

module _ {A : Type 0} (low high : ℕ) (named : ℕ → A) (code : A → ℕ) (to : (n : ℕ) → low ≤ n → n ≤ high → code (named n) ≡ n) (from : (x : A) → (low ≤ code x) × (code x ≤ high) × (named (code x) ≡ x)) where
  abbrev code_text : A → List ℕ
  code_text x = code x ∷ []

  code_to : (x : A) (front : List ℕ) → Mapped named (Byte low high) x front → Spells Always code_text x front
  code_to x front h = (tt, h.1.2 ∙ ap (λ (n : ℕ). n ∷ []) (sym (to h.0 h.1.0 h.1.1) ∙ ap code h.2))

  code_from : (x : A) (front : List ℕ) → Spells Always code_text x front → Mapped named (Byte low high) x front
  code_from x front h = (code x, ((from x).0, (from x).1, h.1), (from x).2)

  code_law : Law OneByte (λ c. with named (u8_at low high c)) (Spells Always code_text)
  code_law = other_text _ code_to code_from (with_law named (u8_at low high) (byte_law low high))

level_named : (n : ℕ) → normal_code ≤ n → n ≤ backgammon_code → level_code (level_of_code n) ≡ n
level_named zero low high = absurd (omega arith)
level_named (suc zero) low high = refl
level_named (suc (suc zero)) low high = refl
level_named (suc (suc (suc zero))) low high = refl
level_named (suc (suc (suc (suc n)))) low high = absurd (omega arith)

level_in_range : (l : Level) → (normal_code ≤ level_code l) × (level_code l ≤ backgammon_code) × (level_of_code (level_code l) ≡ l)
level_in_range Normal = (omega arith, omega arith, refl)
level_in_range Gammon = (omega arith, omega arith, refl)
level_in_range Backgammon = (omega arith, omega arith, refl)

abbrev level_text : Level → List ℕ
level_text l = level_code l ∷ []

level_law : Law OneByte level_at (Spells Always level_text)
unfolding level_at
level_law = code_law normal_code backgammon_code level_of_code level_code level_named level_in_range

has_level : HasText (Spells Always level_text)
has_level = (Normal, level_text Normal, (tt, refl))

die_named : (n : ℕ) → least_pips ≤ n → n ≤ most_pips → pips (die_of n) ≡ n
die_named zero low high = absurd (omega arith)
die_named (suc zero) low high = refl
die_named (suc (suc zero)) low high = refl
die_named (suc (suc (suc zero))) low high = refl
die_named (suc (suc (suc (suc zero)))) low high = refl
die_named (suc (suc (suc (suc (suc zero))))) low high = refl
die_named (suc (suc (suc (suc (suc (suc zero)))))) low high = refl
die_named (suc (suc (suc (suc (suc (suc (suc n))))))) low high = absurd (omega arith)

die_in_range : (d : Die) → (least_pips ≤ pips d) × (pips d ≤ most_pips) × (die_of (pips d) ≡ d)
die_in_range One = (omega arith, omega arith, refl)
die_in_range Two = (omega arith, omega arith, refl)
die_in_range Three = (omega arith, omega arith, refl)
die_in_range Four = (omega arith, omega arith, refl)
die_in_range Five = (omega arith, omega arith, refl)
die_in_range Six = (omega arith, omega arith, refl)

abbrev die_text : Die → List ℕ
die_text d = pips d ∷ []

die_law : Law OneByte die_at (Spells Always die_text)
unfolding die_at
die_law = code_law least_pips most_pips die_of pips die_named die_in_range

has_die : HasText (Spells Always die_text)
has_die = (One, die_text One, (tt, refl))

abbrev dice_of : Die → Die → Dice
dice_of first second = record { first = first; second = second }

abbrev throw_text : Dice → List ℕ
throw_text dice = dice_bytes dice.first dice.second

abbrev DiceParts : Dice → List ℕ → Type 0
DiceParts = Then (Spells Always die_text) (λ first. Mapped (dice_of first) (Spells Always die_text))

dice_to : (d : Dice) (front : List ℕ) → DiceParts d front → Spells Always throw_text d front
dice_to d front h =
    let text : front ≡ throw_text (dice_of h.0 h.4.0) = h.5 ∙ ap (λ (r : List ℕ). r ++ h.2) h.3.1 ∙ ap (λ (r : List ℕ). pips h.0 ∷ r) h.4.1.1 in
    (tt, subst (λ (x : Dice). front ≡ throw_text x) h.4.2 text)

dice_from : (d : Dice) (front : List ℕ) → Spells Always throw_text d front → DiceParts d front
dice_from d front h = (d.first, die_text d.first, die_text d.second, (tt, refl), (d.second, (tt, refl), refl), h.1)

dice_law : Law OneByte dice_at (Spells Always throw_text)
unfolding dice_at
dice_law = other_text _ dice_to dice_from (then_law die_at (λ first c. with (dice_of first) (die_at c)) die_law (λ first. with_law (dice_of first) die_at die_law) (λ first text h. has_mapped (dice_of first) has_die))

has_dice : HasText (Spells Always throw_text)
has_dice = (dice_of One One, throw_text (dice_of One One), (tt, refl))

-- ---- a code, and what follows it

module _ {A : Type 0} (Valid : A → Type 0) (text : A → List ℕ) (code : ℕ) where
  nothing_follows : (x y : A) (rest : List ℕ) → Valid x → text x ≡ code ∷ [] → Nothing x y rest → Spells Valid text y (code ∷ rest)
  nothing_follows x y rest valid spelled h = subst (λ (z : A). Spells Valid text z (code ∷ rest)) h.0 (valid, ap (λ (r : List ℕ). code ∷ r) h.1 ∙ sym spelled)

  follows : {B : Type 0} (f : B → A) (Part : B → Type 0) (part_text : B → List ℕ) (y : A) (rest : List ℕ) → ((x : B) → Part x → Valid (f x)) → ((x : B) → text (f x) ≡ code ∷ part_text x) → Mapped f (Spells Part part_text) y rest → Spells Valid text y (code ∷ rest)
  follows f Part part_text y rest valid spelled h = subst (λ (z : A). Spells Valid text z (code ∷ rest)) h.2 (valid h.0 h.1.0, ap (λ (r : List ℕ). code ∷ r) h.1.1 ∙ sym (spelled h.0))

-- ---- actions

abbrev ActionRest : ℕ → Action → List ℕ → Type 0
ActionRest code =
    Choice (code == rolled_code) (Nothing action.Roll)
    (Choice (code == doubled_code) (Nothing action.Double)
    (Choice (code == taken_code) (Nothing action.Take)
    (Choice (code == dropped_code) (Nothing action.Drop)
    (Choice (code == moved_code) (Mapped action.Move (Spells IsTurn turn_bytes))
    (Choice (code == resigned_code) (Mapped action.Resign (Spells Always level_text))
    (Choice (code == accepted_code) (Nothing action.Accept)
    (Nothing action.Reject)))))))

action_rest_law : (code : ℕ) → Law OneByte (action_of code) (ActionRest code)
unfolding action_of
action_rest_law code =
    choice_law (code == rolled_code) (λ c. Ok (action.Roll, c)) _ (done_law action.Roll)
    (choice_law (code == doubled_code) (λ c. Ok (action.Double, c)) _ (done_law action.Double)
    (choice_law (code == taken_code) (λ c. Ok (action.Take, c)) _ (done_law action.Take)
    (choice_law (code == dropped_code) (λ c. Ok (action.Drop, c)) _ (done_law action.Drop)
    (choice_law (code == moved_code) (λ c. with action.Move (turn_at c)) _ (with_law action.Move turn_at turn_law)
    (choice_law (code == resigned_code) (λ c. with action.Resign (level_at c)) _ (with_law action.Resign level_at level_law)
    (choice_law (code == accepted_code) (λ c. Ok (action.Accept, c)) (λ c. Ok (action.Reject, c)) (done_law action.Accept) (done_law action.Reject)))))))

has_action_rest : (code : ℕ) → HasText (ActionRest code)
has_action_rest code =
    has_choice (code == rolled_code) (action.Roll, [], (refl, refl))
    (has_choice (code == doubled_code) (action.Double, [], (refl, refl))
    (has_choice (code == taken_code) (action.Take, [], (refl, refl))
    (has_choice (code == dropped_code) (action.Drop, [], (refl, refl))
    (has_choice (code == moved_code) (has_mapped action.Move has_turn)
    (has_choice (code == resigned_code) (has_mapped action.Resign has_level)
    (has_choice (code == accepted_code) (action.Accept, [], (refl, refl))
    (action.Reject, [], (refl, refl))))))))

action_rest : (code : ℕ) (a : Action) (rest : List ℕ) → rolled_code ≤ code → code ≤ rejected_code → ActionRest code a rest → Spells IsAction action_bytes a (code ∷ rest)
action_rest zero a rest low high h = absurd (omega arith)
action_rest (suc zero) a rest low high h = absurd (omega arith)
action_rest (suc (suc zero)) a rest low high h = nothing_follows IsAction action_bytes 2 action.Roll a rest tt refl h
action_rest (suc (suc (suc zero))) a rest low high h = nothing_follows IsAction action_bytes 3 action.Double a rest tt refl h
action_rest (suc (suc (suc (suc zero)))) a rest low high h = nothing_follows IsAction action_bytes 4 action.Take a rest tt refl h
action_rest (suc (suc (suc (suc (suc zero))))) a rest low high h = nothing_follows IsAction action_bytes 5 action.Drop a rest tt refl h
action_rest (suc (suc (suc (suc (suc (suc zero)))))) a rest low high h = follows IsAction action_bytes 6 action.Move IsTurn turn_bytes a rest (λ x v. v) (λ x. refl) h
action_rest (suc (suc (suc (suc (suc (suc (suc zero))))))) a rest low high h = follows IsAction action_bytes 7 action.Resign Always level_text a rest (λ x v. tt) (λ x. refl) h
action_rest (suc (suc (suc (suc (suc (suc (suc (suc zero)))))))) a rest low high h = nothing_follows IsAction action_bytes 8 action.Accept a rest tt refl h
action_rest (suc (suc (suc (suc (suc (suc (suc (suc (suc zero))))))))) a rest low high h = nothing_follows IsAction action_bytes 9 action.Reject a rest tt refl h
action_rest (suc (suc (suc (suc (suc (suc (suc (suc (suc (suc n)))))))))) a rest low high h = absurd (omega arith)

abbrev ActionParts : Action → List ℕ → Type 0
ActionParts = Then (Byte rolled_code rejected_code) ActionRest

action_to : (a : Action) (front : List ℕ) → ActionParts a front → Spells IsAction action_bytes a front
action_to a front h =
    let text : front ≡ h.0 ∷ h.2 = h.5 ∙ ap (λ (r : List ℕ). r ++ h.2) h.3.2 in
    subst (λ (f : List ℕ). Spells IsAction action_bytes a f) (sym text) (action_rest h.0 a h.2 h.3.0 h.3.1 h.4)

action_from : (a : Action) (front : List ℕ) → Spells IsAction action_bytes a front → ActionParts a front
action_from action.Roll front h = (2, 2 ∷ [], [], (omega arith, omega arith, refl), (refl, refl), h.1)
action_from action.Double front h = (3, 3 ∷ [], [], (omega arith, omega arith, refl), (refl, refl), h.1)
action_from action.Take front h = (4, 4 ∷ [], [], (omega arith, omega arith, refl), (refl, refl), h.1)
action_from action.Drop front h = (5, 5 ∷ [], [], (omega arith, omega arith, refl), (refl, refl), h.1)
action_from (action.Move t) front h = (6, 6 ∷ [], turn_bytes t, (omega arith, omega arith, refl), (t, (h.0, refl), refl), h.1)
action_from (action.Resign l) front h = (7, 7 ∷ [], level_text l, (omega arith, omega arith, refl), (l, (tt, refl), refl), h.1)
action_from action.Accept front h = (8, 8 ∷ [], [], (omega arith, omega arith, refl), (refl, refl), h.1)
action_from action.Reject front h = (9, 9 ∷ [], [], (omega arith, omega arith, refl), (refl, refl), h.1)

pub action_law : Law OneByte action_at (Spells IsAction action_bytes)
unfolding action_at
action_law = other_text _ action_to action_from (then_law (u8_at rolled_code rejected_code) action_of (byte_law rolled_code rejected_code) action_rest_law (λ code first h. has_action_rest code))

pub has_action : HasText (Spells IsAction action_bytes)
has_action = (action.Roll, action_bytes action.Roll, (tt, refl))

-- ---- entries

abbrev opening_of : Dice → Entry
opening_of dice = entry.Opening dice.first dice.second

abbrev EntryRest : ℕ → Entry → List ℕ → Type 0
EntryRest code =
    Choice (code == opening_code) (Mapped opening_of (Spells Always throw_text))
    (Choice (code == rolled_code) (Mapped entry.Rolled (Spells Always throw_text))
    (Choice (code == doubled_code) (Nothing entry.Doubled)
    (Choice (code == taken_code) (Nothing entry.Taken)
    (Choice (code == dropped_code) (Nothing entry.Dropped)
    (Choice (code == moved_code) (Mapped entry.Moved (Spells IsTurn turn_bytes))
    (Choice (code == resigned_code) (Mapped entry.Resigned (Spells Always level_text))
    (Choice (code == accepted_code) (Nothing entry.Accepted)
    (Choice (code == rejected_code) (Nothing entry.Rejected)
    (Nothing entry.Passed)))))))))

entry_rest_law : (code : ℕ) → Law OneByte (entry_of code) (EntryRest code)
unfolding entry_of
entry_rest_law code =
    choice_law (code == opening_code) (λ c. with opening_of (dice_at c)) _ (with_law opening_of dice_at dice_law)
    (choice_law (code == rolled_code) (λ c. with entry.Rolled (dice_at c)) _ (with_law entry.Rolled dice_at dice_law)
    (choice_law (code == doubled_code) (λ c. Ok (entry.Doubled, c)) _ (done_law entry.Doubled)
    (choice_law (code == taken_code) (λ c. Ok (entry.Taken, c)) _ (done_law entry.Taken)
    (choice_law (code == dropped_code) (λ c. Ok (entry.Dropped, c)) _ (done_law entry.Dropped)
    (choice_law (code == moved_code) (λ c. with entry.Moved (turn_at c)) _ (with_law entry.Moved turn_at turn_law)
    (choice_law (code == resigned_code) (λ c. with entry.Resigned (level_at c)) _ (with_law entry.Resigned level_at level_law)
    (choice_law (code == accepted_code) (λ c. Ok (entry.Accepted, c)) _ (done_law entry.Accepted)
    (choice_law (code == rejected_code) (λ c. Ok (entry.Rejected, c)) (λ c. Ok (entry.Passed, c))
    (done_law entry.Rejected) (done_law entry.Passed)))))))))

has_entry_rest : (code : ℕ) → HasText (EntryRest code)
has_entry_rest code =
    has_choice (code == opening_code) (has_mapped opening_of has_dice)
    (has_choice (code == rolled_code) (has_mapped entry.Rolled has_dice)
    (has_choice (code == doubled_code) (entry.Doubled, [], (refl, refl))
    (has_choice (code == taken_code) (entry.Taken, [], (refl, refl))
    (has_choice (code == dropped_code) (entry.Dropped, [], (refl, refl))
    (has_choice (code == moved_code) (has_mapped entry.Moved has_turn)
    (has_choice (code == resigned_code) (has_mapped entry.Resigned has_level)
    (has_choice (code == accepted_code) (entry.Accepted, [], (refl, refl))
    (has_choice (code == rejected_code) (entry.Rejected, [], (refl, refl))
    (entry.Passed, [], (refl, refl))))))))))

entry_rest : (layout : Layout) (code : ℕ) (e : Entry) (rest : List ℕ) → opening_code ≤ code → code ≤ last_code layout
    → EntryRest code e rest → Spells (IsEntryIn layout) entry_bytes e (code ∷ rest)
entry_rest layout zero e rest low high h = absurd (omega arith)
entry_rest layout (suc zero) e rest low high h =
    follows (IsEntryIn layout) entry_bytes 1 opening_of Always throw_text e rest (λ x v. tt) (λ x. refl) h
entry_rest layout (suc (suc zero)) e rest low high h =
    follows (IsEntryIn layout) entry_bytes 2 entry.Rolled Always throw_text e rest (λ x v. tt) (λ x. refl) h
entry_rest layout (suc (suc (suc zero))) e rest low high h =
    nothing_follows (IsEntryIn layout) entry_bytes 3 entry.Doubled e rest tt refl h
entry_rest layout (suc (suc (suc (suc zero)))) e rest low high h =
    nothing_follows (IsEntryIn layout) entry_bytes 4 entry.Taken e rest tt refl h
entry_rest layout (suc (suc (suc (suc (suc zero))))) e rest low high h =
    nothing_follows (IsEntryIn layout) entry_bytes 5 entry.Dropped e rest tt refl h
entry_rest layout (suc (suc (suc (suc (suc (suc zero)))))) e rest low high h =
    follows (IsEntryIn layout) entry_bytes 6 entry.Moved IsTurn turn_bytes e rest (λ x v. v) (λ x. refl) h
entry_rest layout (suc (suc (suc (suc (suc (suc (suc zero))))))) e rest low high h =
    follows (IsEntryIn layout) entry_bytes 7 entry.Resigned Always level_text e rest (λ x v. tt) (λ x. refl) h
entry_rest layout (suc (suc (suc (suc (suc (suc (suc (suc zero)))))))) e rest low high h =
    nothing_follows (IsEntryIn layout) entry_bytes 8 entry.Accepted e rest tt refl h
entry_rest layout (suc (suc (suc (suc (suc (suc (suc (suc (suc zero))))))))) e rest low high h =
    nothing_follows (IsEntryIn layout) entry_bytes 9 entry.Rejected e rest tt refl h
entry_rest layouts.One (suc (suc (suc (suc (suc (suc (suc (suc (suc (suc zero)))))))))) e rest low high h =
    absurd (omega arith)
entry_rest layouts.Two (suc (suc (suc (suc (suc (suc (suc (suc (suc (suc zero)))))))))) e rest low high h =
    nothing_follows (IsEntryIn layouts.Two) entry_bytes 10 entry.Passed e rest tt refl h
entry_rest layouts.One (suc (suc (suc (suc (suc (suc (suc (suc (suc (suc (suc n))))))))))) e rest low high h =
    absurd (omega arith)
entry_rest layouts.Two (suc (suc (suc (suc (suc (suc (suc (suc (suc (suc (suc n))))))))))) e rest low high h =
    absurd (omega arith)

abbrev EntryParts : Layout → Entry → List ℕ → Type 0
EntryParts layout = Then (Byte opening_code (last_code layout)) EntryRest

entry_to : (layout : Layout) (e : Entry) (front : List ℕ) → EntryParts layout e front
    → Spells (IsEntryIn layout) entry_bytes e front
entry_to layout e front h =
    let text : front ≡ h.0 ∷ h.2 = h.5 ∙ ap (λ (r : List ℕ). r ++ h.2) h.3.2 in
    subst (λ (f : List ℕ). Spells (IsEntryIn layout) entry_bytes e f) (sym text)
    (entry_rest layout h.0 e h.2 h.3.0 h.3.1 h.4)

rejected_fits : (layout : Layout) → rejected_code ≤ last_code layout
rejected_fits layouts.One = omega arith
rejected_fits layouts.Two = omega arith

entry_from : (layout : Layout) (e : Entry) (front : List ℕ) → Spells (IsEntryIn layout) entry_bytes e front
    → EntryParts layout e front
entry_from layout (entry.Opening x o) front h = (
  1,
  1 ∷ [],
  dice_bytes x o,
  (omega arith, omega (arith, rejected_fits layout), refl),
  (dice_of x o, (tt, refl), refl),
  h.1,
)
entry_from layout (entry.Rolled d) front h =
    (2, 2 ∷ [], throw_text d, (omega arith, omega (arith, rejected_fits layout), refl), (d, (tt, refl), refl), h.1)
entry_from layout entry.Doubled front h =
    (3, 3 ∷ [], [], (omega arith, omega (arith, rejected_fits layout), refl), (refl, refl), h.1)
entry_from layout entry.Taken front h =
    (4, 4 ∷ [], [], (omega arith, omega (arith, rejected_fits layout), refl), (refl, refl), h.1)
entry_from layout entry.Dropped front h =
    (5, 5 ∷ [], [], (omega arith, omega (arith, rejected_fits layout), refl), (refl, refl), h.1)
entry_from layout (entry.Moved t) front h =
    (6, 6 ∷ [], turn_bytes t, (omega arith, omega (arith, rejected_fits layout), refl), (t, (h.0, refl), refl), h.1)
entry_from layout (entry.Resigned l) front h =
    (7, 7 ∷ [], level_text l, (omega arith, omega (arith, rejected_fits layout), refl), (l, (tt, refl), refl), h.1)
entry_from layout entry.Accepted front h =
    (8, 8 ∷ [], [], (omega arith, omega (arith, rejected_fits layout), refl), (refl, refl), h.1)
entry_from layout entry.Rejected front h =
    (9, 9 ∷ [], [], (omega arith, omega (arith, rejected_fits layout), refl), (refl, refl), h.1)
entry_from layouts.One entry.Passed front h = absurd h.0
entry_from layouts.Two entry.Passed front h = (10, 10 ∷ [], [], (omega arith, omega arith, refl), (refl, refl), h.1)

pub entry_law : (layout : Layout) → Law OneByte (entry_at layout) (Spells (IsEntryIn layout) entry_bytes)
unfolding entry_at
entry_law layout =
    other_text _ (entry_to layout) (entry_from layout)
    (then_law (u8_at opening_code (last_code layout)) entry_of (byte_law opening_code (last_code layout)) entry_rest_law
    (λ code first h. has_entry_rest code))

pub has_entry : (layout : Layout) → HasText (Spells (IsEntryIn layout) entry_bytes)
has_entry layout = (entry.Doubled, entry_bytes entry.Doubled, (tt, refl))

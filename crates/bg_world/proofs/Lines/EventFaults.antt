-- What is wrong with an event's line.
use Rattle.std.proofs.Common.{◌≡◌, ℕ, ◌≤◌, inl, inr, List, [], ◌∷◌, ◌++◌, Result, Ok, Err, refl, sym, ◌∙◌, ap, subst, arith}
use Rattle.std.specs.Prelude.{Contains}
use Rattle.std.specs.Fmt.{decimal}
use Rattle.bg_board.specs.declared.players.Player.{Player}
use Rattle.bg_turns.specs.Turn.{IsTurn}
use Rattle.bg_match.specs.declared.actions.Action.{Action}
use Rattle.bg_match.specs.declared.actions.Action.TheVariants as action
use Rattle.bg_text.specs.Entries.EntryText.{letter, action_text, action_words}
use Rattle.bg_text.specs.Entries.EntryShape.{IsActionShape, IsActionTextFault, plain_words}
use Rattle.bg_text.specs.Entries.Words.{words_of, spaced}
use Rattle.bg_text.specs.declared.faults.TextFault.{TextFault}
use Rattle.bg_text.specs.declared.faults.TextFault.TheVariants.{NotALine, BadNumber, TooManySteps}
use Rattle.bg_text.proofs.Spelling.ActionLines.{no_fault, plain_fixed}
use Rattle.bg_text.proofs.Spelling.ActionTexts.{downward_action, words_of_action}
use Rattle.bg_text.proofs.Spelling.EntryLines.{words_behind}
use Rattle.bg_text.proofs.Spelling.EntryTexts.{same_player}
use Rattle.bg_text.proofs.Spelling.Splits.{line_spaced}
use Rattle.bg_world.specs.Texts.EventText.{HasRightNumbers, IsEvent, IsEventShape, IsEventTextFault, IsLongNumeral, event_text, event_words, greatest_party, greatest_word}
use Rattle.bg_world.specs.Texts.EventLines.{IsEventOf, IsNumberUpTo, kind_start, take_of}
use Rattle.bg_world.specs.declared.texts.event_lines.EventKind.{EventKind}
use Rattle.bg_world.specs.declared.texts.event_lines.EventKind.TheVariants as kind
use Rattle.bg_protocol.specs.declared.events.Event.{Event}
use Rattle.bg_protocol.specs.declared.events.Event.TheVariants as event
use Rattle.bg_world.proofs.Lines.EventKinds.{kind_of, rest_words}
use Rattle.bg_world.proofs.Lines.EventShapes.{AreNumerals, IsRestShape, line_shape, numeral_of_one, of_line, one_numeral, shape_of_line, shape_of_rest}
use Rattle.bg_world.proofs.Lines.EventTexts.{choice_text, number_text, right_numbers, same_event, words_of_event}

-- ---- one number

-- the events of a kind have one number, which is at most this
abbrev AreNumbered : EventKind → ℕ → Type 0
AreNumbered k most =
    (e : Event) → HasRightNumbers e → kind_of e ≡ k → (n : ℕ) × (n ≤ most) × (rest_words e ≡ decimal n ∷ [])

number_fault : (k : EventKind) (most : ℕ) (rest : List ℕ) (fault : TextFault) → AreNumbered k most
    → (AreNumerals 1 (words_of rest) → IsRestShape k (words_of rest))
    → (IsRestShape k (words_of rest) → AreNumerals 1 (words_of rest))
    → IsNumberUpTo most rest (Err fault) → IsEventTextFault fault (kind_start k ++ rest)
number_fault k most rest NotALine numbered to from h =
    λ shape. h (numeral_of_one rest (from (shape_of_line k rest shape)))
number_fault k most rest BadNumber numbered to from h = (
  line_shape k rest (to (one_numeral rest h.0)),
  λ e right is.
      let both = of_line k rest e right is in
      let number = numbered e right both.0 in
      h.1 number.0 number.1 (line_spaced rest (decimal number.0 ∷ []) (both.1 ∙ number.2)),
)
number_fault k most rest TooManySteps numbered to from h = absurd h

dues : AreNumbered kind.Due greatest_word
dues (event.Due n) right e = (n, right, refl)
dues (event.Take p k w) right e = absurd cc
dues (event.Choose p a) right e = absurd cc
dues (event.Save p) right e = absurd cc
dues (event.Tick p) right e = absurd cc
dues (event.Restart p) right e = absurd cc

saves : AreNumbered kind.Save greatest_party
saves (event.Save n) right e = (n, right, refl)
saves (event.Due n) right e = absurd cc
saves (event.Take p k w) right e = absurd cc
saves (event.Choose p a) right e = absurd cc
saves (event.Tick p) right e = absurd cc
saves (event.Restart p) right e = absurd cc

ticks : AreNumbered kind.Tick greatest_party
ticks (event.Tick n) right e = (n, right, refl)
ticks (event.Due n) right e = absurd cc
ticks (event.Take p k w) right e = absurd cc
ticks (event.Choose p a) right e = absurd cc
ticks (event.Save p) right e = absurd cc
ticks (event.Restart p) right e = absurd cc

restarts : AreNumbered kind.Restart greatest_party
restarts (event.Restart n) right e = (n, right, refl)
restarts (event.Due n) right e = absurd cc
restarts (event.Take p k w) right e = absurd cc
restarts (event.Choose p a) right e = absurd cc
restarts (event.Save p) right e = absurd cc
restarts (event.Tick p) right e = absurd cc

of_kind : (k l : EventKind) (rest : List ℕ) (fault : TextFault) → k ≡ l → IsEventTextFault fault (kind_start l ++ rest)
    → IsEventTextFault fault (kind_start k ++ rest)
of_kind k l rest fault is h = subst (λ (x : EventKind). IsEventTextFault fault (kind_start x ++ rest)) (sym is) h

pub due_fault : (k : EventKind) (rest : List ℕ) (fault : TextFault) → k ≡ kind.Due
    → IsNumberUpTo greatest_word rest (Err fault) → IsEventTextFault fault (kind_start k ++ rest)
due_fault k rest fault is h =
    of_kind k kind.Due rest fault is (number_fault kind.Due greatest_word rest fault dues (λ n. n) (λ n. n) h)

pub save_fault : (k : EventKind) (rest : List ℕ) (fault : TextFault) → k ≡ kind.Save
    → IsNumberUpTo greatest_party rest (Err fault) → IsEventTextFault fault (kind_start k ++ rest)
save_fault k rest fault is h =
    of_kind k kind.Save rest fault is (number_fault kind.Save greatest_party rest fault saves (λ n. n) (λ n. n) h)

pub tick_fault : (k : EventKind) (rest : List ℕ) (fault : TextFault) → k ≡ kind.Tick
    → IsNumberUpTo greatest_party rest (Err fault) → IsEventTextFault fault (kind_start k ++ rest)
tick_fault k rest fault is h =
    of_kind k kind.Tick rest fault is (number_fault kind.Tick greatest_party rest fault ticks (λ n. n) (λ n. n) h)

pub restart_fault : (k : EventKind) (rest : List ℕ) (fault : TextFault) → k ≡ kind.Restart
    → IsNumberUpTo greatest_party rest (Err fault) → IsEventTextFault fault (kind_start k ++ rest)
restart_fault k rest fault is h =
    of_kind k kind.Restart rest fault is
    (number_fault kind.Restart greatest_party rest fault restarts (λ n. n) (λ n. n) h)

-- ---- a choice

letter_and_words : (player : Player) (text : List ℕ) (p : Player) (rest : List (List ℕ))
    → words_of (letter player ++ 32 ∷ text) ≡ letter p ∷ rest → (p ≡ player) × (words_of text ≡ rest)
letter_and_words player text p rest e =
    let words : letter player ∷ words_of text ≡ letter p ∷ rest = sym (words_behind player text) ∙ e in
    let first : letter p ≡ letter player = cc in
    let tail : words_of text ≡ rest = cc in
    (same_player p player first, tail)

choice_is : (player : Player) (text : List ℕ) (a : Action) → text ≡ action_text a
    → kind_start kind.Choose ++ (letter player ++ 32 ∷ text) ≡ event_text (event.Choose player a)
choice_is player text a e =
    ap (λ (rest : List ℕ). kind_start kind.Choose ++ rest)
    (ap (λ (t : List ℕ). letter player ++ 32 ∷ t) e ∙ sym (choice_text player a))

chosen : (player : Player) (text : List ℕ) (e : Event) → HasRightNumbers e → kind_of e ≡ kind.Choose
    → words_of (letter player ++ 32 ∷ text) ≡ rest_words e
    → ((a : Action) → HasRightNumbers (event.Choose player a) → text ≡ action_text a → ⊥) → ⊥
chosen player text (event.Choose p a) right is words none =
    let both = letter_and_words player text p (action_words a) words in
    none a right (line_spaced text (action_words a) both.1)
chosen player text (event.Due n) right is words none = absurd cc
chosen player text (event.Take p k w) right is words none = absurd cc
chosen player text (event.Save p) right is words none = absurd cc
chosen player text (event.Tick p) right is words none = absurd cc
chosen player text (event.Restart p) right is words none = absurd cc

pub choice_fault : (player : Player) (text : List ℕ) (fault : TextFault) → IsActionTextFault fault text
    → IsEventTextFault fault (kind_start kind.Choose ++ (letter player ++ 32 ∷ text))
choice_fault player text NotALine h = λ shape.
    let rest = shape_of_line kind.Choose (letter player ++ 32 ∷ text) shape in
    let both = letter_and_words player text rest.0 rest.1 rest.2 in
    h (subst IsActionShape (sym both.1) rest.3)
choice_fault player text BadNumber h = (
  line_shape kind.Choose (letter player ++ 32 ∷ text) (player, words_of text, words_behind player text, h.0),
  λ e right is.
      let both = of_line kind.Choose (letter player ++ 32 ∷ text) e right is in
      chosen player text e right both.0 both.1 h.1,
)
choice_fault player text TooManySteps (steps, text_is, down, many) =
    (player, steps, choice_is player text (action.Move steps) text_is, down, many)

pub choice_found : (player : Player) (rest text : List ℕ) (a : Action) → rest ≡ letter player ++ 32 ∷ text
    → text ≡ action_text a → kind_start kind.Choose ++ rest ≡ event_text (event.Choose player a)
choice_found player rest text a split is =
    ap (λ (t : List ℕ). kind_start kind.Choose ++ t) split ∙ choice_is player text a is

-- an action's shape is not of no words
no_plain : Contains plain_words [] → ⊥
no_plain h = let fixed = plain_fixed [] h in no_words fixed.0 fixed.2
  where
    no_words : (a : Action) → [] ≡ action_words a → ⊥
    no_words action.Roll e = absurd cc
    no_words action.Double e = absurd cc
    no_words action.Take e = absurd cc
    no_words action.Drop e = absurd cc
    no_words (action.Move steps) e = absurd cc
    no_words (action.Resign level) e = absurd cc
    no_words action.Accept e = absurd cc
    no_words action.Reject e = absurd cc

-- no player's letter stands behind the first word
letter_stands : (rest : List ℕ) (player : Player) (words : List (List ℕ)) → words_of rest ≡ letter player ∷ words
    → IsActionShape words → (text : List ℕ) × (rest ≡ letter player ++ 32 ∷ text)
letter_stands rest player [] e (inl s) = absurd cc
letter_stands rest player [] e (inr (inl s)) = let nil = s.spelled in absurd cc
letter_stands rest player [] e (inr (inr s)) = absurd (no_plain s)
letter_stands rest player (word ∷ words) e shape =
    (spaced (word ∷ words), line_spaced rest (letter player ∷ word ∷ words) e)

pub no_player : (rest : List ℕ) → ((player : Player) (text : List ℕ) → rest ≡ letter player ++ 32 ∷ text → ⊥)
    → IsEventShape (words_of (kind_start kind.Choose ++ rest)) → ⊥
no_player rest none shape =
    let found = shape_of_line kind.Choose rest shape in
    let text = letter_stands rest found.0 found.1 found.2 found.3 in
    none found.0 text.0 text.1

-- ---- three numbers

numeral_said : (most : ℕ) (word : List ℕ) (n : ℕ) → most ≤ greatest_word → IsNumberUpTo most word (Ok n)
    → IsLongNumeral word
numeral_said most word n top h = subst IsLongNumeral (sym h.1) (number_text n (omega (arith, top, h.0)))

party_said : (word : List ℕ) (n : ℕ) → IsNumberUpTo greatest_party word (Ok n) → IsLongNumeral word
party_said word n h = numeral_said greatest_party word n (omega arith) h

word_said : (word : List ℕ) (n : ℕ) → IsNumberUpTo greatest_word word (Ok n) → IsLongNumeral word
word_said word n h = numeral_said greatest_word word n (omega arith) h

-- words that are three numerals, but not those of a party, a pick and a word
bad_three : (rest a b c : List ℕ) → words_of rest ≡ a ∷ b ∷ c ∷ [] → IsLongNumeral a → IsLongNumeral b
    → IsLongNumeral c → ((p k w : ℕ) → p ≤ greatest_party → k ≤ greatest_word → w ≤ greatest_word
    → a ≡ decimal p → b ≡ decimal k → c ≡ decimal w → ⊥)
    → IsEventTextFault BadNumber (kind_start kind.Take ++ rest)
bad_three rest a b c e ha hb hc none = (
  line_shape kind.Take rest (subst (AreNumerals 3) (sym e) (refl, (ha, (hb, (hc, tt))))),
  λ x right is.
      let both = of_line kind.Take rest x right is in
      of_event x right both.0 (sym e ∙ both.1),
)
  where
    of_event : (x : Event) → HasRightNumbers x → kind_of x ≡ kind.Take → a ∷ b ∷ c ∷ [] ≡ rest_words x → ⊥
    of_event (event.Take p k w) right is words =
        let one : a ≡ decimal p = cc in
        let two : b ≡ decimal k = cc in
        let three : c ≡ decimal w = cc in
        none p k w right.0 right.1 right.2 one two three
    of_event (event.Due n) right is words = absurd cc
    of_event (event.Choose p x) right is words = absurd cc
    of_event (event.Save p) right is words = absurd cc
    of_event (event.Tick p) right is words = absurd cc
    of_event (event.Restart p) right is words = absurd cc

not_three : (rest a b c : List ℕ) → words_of rest ≡ a ∷ b ∷ c ∷ []
    → (IsLongNumeral a → IsLongNumeral b → IsLongNumeral c → ⊥)
    → IsEventTextFault NotALine (kind_start kind.Take ++ rest)
not_three rest a b c e none = λ shape.
    let three : AreNumerals 3 (a ∷ b ∷ c ∷ []) = subst (AreNumerals 3) e (shape_of_line kind.Take rest shape) in
    none three.1.0 three.1.1.0 three.1.1.1.0

pub not_three_words : (rest : List ℕ) → ((a b c : List ℕ) → words_of rest ≡ a ∷ b ∷ c ∷ [] → ⊥)
    → IsEventShape (words_of (kind_start kind.Take ++ rest)) → ⊥
not_three_words rest none shape = of_words (words_of rest) refl (shape_of_line kind.Take rest shape)
  where
    of_words : (words : List (List ℕ)) → words_of rest ≡ words → AreNumerals 3 words → ⊥
    of_words [] e h = omega (arith, h.0)
    of_words (a ∷ []) e h = omega (arith, h.0)
    of_words (a ∷ b ∷ []) e h = omega (arith, h.0)
    of_words (a ∷ b ∷ c ∷ []) e h = none a b c e
    of_words (a ∷ b ∷ c ∷ d ∷ more) e h = omega (arith, h.0)

take_is : (rest a b c : List ℕ) (p k w : ℕ) → words_of rest ≡ a ∷ b ∷ c ∷ [] → a ≡ decimal p → b ≡ decimal k
    → c ≡ decimal w → kind_start kind.Take ++ rest ≡ event_text (event.Take p k w)
take_is rest a b c p k w e ea eb ec =
    let words : a ∷ b ∷ c ∷ [] ≡ decimal p ∷ decimal k ∷ decimal w ∷ [] = cc in
    ap (λ (t : List ℕ). kind_start kind.Take ++ t)
    (line_spaced rest (decimal p ∷ decimal k ∷ decimal w ∷ []) (e ∙ words))

take_says : (rest a b c : List ℕ) (party pick word : Result ℕ TextFault) → words_of rest ≡ a ∷ b ∷ c ∷ []
    → IsNumberUpTo greatest_party a party → IsNumberUpTo greatest_word b pick → IsNumberUpTo greatest_word c word
    → IsEventOf (kind_start kind.Take ++ rest) (take_of party pick word)
take_says rest a b c (Ok p) (Ok k) (Ok w) e ha hb hc =
    ((ha.0, hb.0, hc.0), take_is rest a b c p k w e ha.1 hb.1 hc.1)
take_says rest a b c (Err NotALine) k w e ha hb hc = not_three rest a b c e (λ x y z. ha x)
take_says rest a b c (Ok p) (Err NotALine) w e ha hb hc = not_three rest a b c e (λ x y z. hb y)
take_says rest a b c (Err BadNumber) (Err NotALine) w e ha hb hc = not_three rest a b c e (λ x y z. hb y)
take_says rest a b c (Ok p) (Ok k) (Err NotALine) e ha hb hc = not_three rest a b c e (λ x y z. hc z)
take_says rest a b c (Ok p) (Err BadNumber) (Err NotALine) e ha hb hc = not_three rest a b c e (λ x y z. hc z)
take_says rest a b c (Err BadNumber) (Ok k) (Err NotALine) e ha hb hc = not_three rest a b c e (λ x y z. hc z)
take_says rest a b c (Err BadNumber) (Err BadNumber) (Err NotALine) e ha hb hc = not_three rest a b c e (λ x y z. hc z)
take_says rest a b c (Ok p) (Ok k) (Err BadNumber) e ha hb hc =
    bad_three rest a b c e (party_said a p ha) (word_said b k hb) hc.0
    (λ x y z lx ly lz ex ey ez. hc.1 z lz ez)
take_says rest a b c (Ok p) (Err BadNumber) (Ok w) e ha hb hc =
    bad_three rest a b c e (party_said a p ha) hb.0 (word_said c w hc)
    (λ x y z lx ly lz ex ey ez. hb.1 y ly ey)
take_says rest a b c (Ok p) (Err BadNumber) (Err BadNumber) e ha hb hc =
    bad_three rest a b c e (party_said a p ha) hb.0 hc.0
    (λ x y z lx ly lz ex ey ez. hb.1 y ly ey)
take_says rest a b c (Err BadNumber) (Ok k) (Ok w) e ha hb hc =
    bad_three rest a b c e ha.0 (word_said b k hb) (word_said c w hc)
    (λ x y z lx ly lz ex ey ez. ha.1 x lx ex)
take_says rest a b c (Err BadNumber) (Ok k) (Err BadNumber) e ha hb hc =
    bad_three rest a b c e ha.0 (word_said b k hb) hc.0
    (λ x y z lx ly lz ex ey ez. ha.1 x lx ex)
take_says rest a b c (Err BadNumber) (Err BadNumber) (Ok w) e ha hb hc =
    bad_three rest a b c e ha.0 hb.0 (word_said c w hc)
    (λ x y z lx ly lz ex ey ez. ha.1 x lx ex)
take_says rest a b c (Err BadNumber) (Err BadNumber) (Err BadNumber) e ha hb hc =
    bad_three rest a b c e ha.0 hb.0 hc.0 (λ x y z lx ly lz ex ey ez. ha.1 x lx ex)
take_says rest a b c (Err TooManySteps) k w e ha hb hc = absurd ha
take_says rest a b c (Ok p) (Err TooManySteps) w e ha hb hc = absurd hb
take_says rest a b c (Err BadNumber) (Err TooManySteps) w e ha hb hc = absurd hb
take_says rest a b c (Ok p) (Ok k) (Err TooManySteps) e ha hb hc = absurd hc
take_says rest a b c (Ok p) (Err BadNumber) (Err TooManySteps) e ha hb hc = absurd hc
take_says rest a b c (Err BadNumber) (Ok k) (Err TooManySteps) e ha hb hc = absurd hc
take_says rest a b c (Err BadNumber) (Err BadNumber) (Err TooManySteps) e ha hb hc = absurd hc

pub take_read : (rest a b c : List ℕ) (party pick word : Result ℕ TextFault) (r : Result Event TextFault)
    → words_of rest ≡ a ∷ b ∷ c ∷ [] → IsNumberUpTo greatest_party a party → IsNumberUpTo greatest_word b pick
    → IsNumberUpTo greatest_word c word → r ≡ take_of party pick word → IsEventOf (kind_start kind.Take ++ rest) r
take_read rest a b c party pick word r e ha hb hc is =
    subst (IsEventOf (kind_start kind.Take ++ rest)) (sym is) (take_says rest a b c party pick word e ha hb hc)

-- ---- what is wrong with a line is nothing that an event's text has

shape_of_event : (e : Event) → IsEvent e → (IsEventShape (event_words e) → ⊥) → ⊥
shape_of_event (event.Due n) h none = none (shape_of_rest kind.Due (decimal n ∷ []) (refl, (number_text n h, tt)))
shape_of_event (event.Take p k w) h none =
    none (shape_of_rest kind.Take (decimal p ∷ decimal k ∷ decimal w ∷ [])
    (refl, (number_text p (omega (arith, h.0)), (number_text k h.1, (number_text w h.2, tt)))))
shape_of_event (event.Choose p a) h none =
    no_fault (action_text a) NotALine a
    (λ s. none (shape_of_rest kind.Choose (letter p ∷ action_words a) (p, action_words a, refl, of_text s))) h refl
  where
    of_text : IsActionShape (words_of (action_text a)) → IsActionShape (action_words a)
    of_text s = subst IsActionShape (words_of_action a (downward_action a h)) s
shape_of_event (event.Save n) h none =
    none (shape_of_rest kind.Save (decimal n ∷ []) (refl, (number_text n (omega (arith, h)), tt)))
shape_of_event (event.Tick n) h none =
    none (shape_of_rest kind.Tick (decimal n ∷ []) (refl, (number_text n (omega (arith, h)), tt)))
shape_of_event (event.Restart n) h none =
    none (shape_of_rest kind.Restart (decimal n ∷ []) (refl, (number_text n (omega (arith, h)), tt)))

no_event_fault : (line : List ℕ) (fault : TextFault) (e : Event) → IsEventTextFault fault line → IsEvent e
    → line ≡ event_text e → ⊥
no_event_fault line NotALine e h range is =
    let words : words_of line ≡ event_words e = ap words_of is ∙ words_of_event e (right_numbers e range) in
    shape_of_event e range (λ shape. h (subst IsEventShape (sym words) shape))
no_event_fault line BadNumber e h range is = h.1 e (right_numbers e range) is
no_event_fault line TooManySteps e (player, steps, text, down, many) range is =
    let same : e ≡ event.Choose player (action.Move steps) =
    same_event e (event.Choose player (action.Move steps)) (right_numbers e range) down (sym is ∙ text) in
    let few : IsTurn steps = subst IsEvent same range in
    omega (arith, few.few)

pub only_event : (line : List ℕ) (result : Result Event TextFault) → IsEventOf line result → (e : Event) → IsEvent e
    → line ≡ event_text e → result ≡ Ok e
only_event line (Ok found) h e range is =
    ap Ok (same_event found e (right_numbers found h.0) (right_numbers e range) (sym h.1 ∙ is))
only_event line (Err fault) h e range is = absurd (no_event_fault line fault e h range is)

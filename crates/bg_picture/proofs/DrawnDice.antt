-- What drawings tell of the dice.
use Rattle.std.proofs.Common.{◌≡◌, ℕ, ◌+◌, ◌-◌, ◌<◌, ◌^◌, Bool, List, [], ◌++◌, length, get_or, Option, Some, None, refl, sym, ◌∙◌, ap, arith, inl, inr, ◌⊎◌, append_assoc}
use Rattle.std.specs.Prelude.{codes}
use Rattle.std.proofs.lemmas.List.{append_cancel_left}
use Rattle.bg_board.specs.Die.{pips}
use Rattle.bg_board.specs.Position.{opponent}
use Rattle.bg_board.specs.declared.dice.Die.{Die}
use Rattle.bg_board.specs.declared.dice.Die.TheVariants.{One, Two, Three, Four, Five, Six}
use Rattle.bg_board.specs.declared.players.Player.{Player}
use Rattle.bg_board.specs.declared.players.Player.TheVariants.{X, O}
use Rattle.bg_turns.specs.declared.throws.Dice.{Dice}
use Rattle.bg_match.specs.State.{State}
use Rattle.bg_match.specs.declared.phases.Phase.{Phase}
use Rattle.bg_match.specs.declared.phases.Phase.TheVariants as phase
use Rattle.bg_text.proofs.Spelling.EntryTexts.{same_pips}
use Rattle.bg_picture.specs.Elements.{element_text, group_end, group_start}
use Rattle.bg_picture.specs.Elements.Element.{Shape}
use Rattle.bg_picture.specs.Pictures.{captions_text}
use Rattle.bg_picture.specs.Places.{half}
use Rattle.bg_picture.specs.Stacks.{class_of}
use Rattle.bg_picture.specs.Tables.{dice_text, die_name, die_text, offer_text, pass_text, table_text}
use Rattle.bg_picture.proofs.DrawnParts.{four, shape_alike}
use Rattle.bg_picture.proofs.Told.{same_throw}

-- the dice on the board, and whose they are
abbrev pub lying : Phase → Option (Player × Dice)
lying (phase.ToMove p dice) = Some (p, dice)
lying (phase.Resigned p level None) = None
lying (phase.Resigned p level (Some dice)) = Some (p, dice)
lying _ = None

abbrev dice_part : Option (Player × Dice) → List ℕ
dice_part None = []
dice_part (Some (p, dice)) = dice_text p dice

-- what lies beside them
abbrev pub other_part : Phase → Bool → List ℕ
other_part (phase.ToMove p dice) passing = pass_text (half p) passing
other_part (phase.Resigned p level back) passing = offer_text (opponent p) level
other_part _ passing = []

pub table_of : (p : Phase) (passing : Bool) (u : List ℕ) → table_text p passing ++ u ≡ dice_part (lying p) ++ (other_part p passing ++ u)
unfolding table_text
table_of phase.Opening passing u = refl
table_of (phase.ToAct p) passing u = refl
table_of (phase.Doubled p) passing u = refl
table_of (phase.ToMove p dice) passing u = append_assoc (dice_text p dice) (pass_text (half p) passing) u
table_of (phase.Resigned p level None) passing u = refl
table_of (phase.Resigned p level (Some dice)) passing u = append_assoc (dice_text p dice) (offer_text (opponent p) level) u
table_of (phase.Over p) passing u = refl

-- no dice stand at the front of this text
abbrev HasNoDice : List ℕ → Type 0
HasNoDice w = (get_or w 1 0 ≡ 117) ⊎ (get_or w 10 0 ≡ 108)

pub no_dice : (p : Phase) (passing : Bool) (s : State) (u : List ℕ) → lying p ≡ None → HasNoDice (other_part p passing ++ (captions_text s ++ u))
unfolding captions_text group_start offer_text element_text
no_dice phase.Opening passing s u none = inr refl
no_dice (phase.ToAct p) passing s u none = inr refl
no_dice (phase.Doubled p) passing s u none = inr refl
no_dice (phase.ToMove p dice) passing s u none = absurd cc
no_dice (phase.Resigned p level back) passing s u none = inl refl
no_dice (phase.Over p) passing s u none = inr refl

dice_before : (p : Player) (dice : Dice) (u : List ℕ) → dice_text p dice ++ u ≡ group_start (class_of p)
    ++ (element_text (Shape (die_name dice.first) (half p - 21) 280) ++ (element_text (Shape (die_name dice.second) (half p + 21) 280) ++ (codes "</g>" ++ u)))
unfolding dice_text die_text group_end
dice_before p dice u =
    four (group_start (class_of p)) (element_text (Shape (die_name dice.first) (half p - 21) 280))
    (element_text (Shape (die_name dice.second) (half p + 21) 280)) (codes "</g>") u

dice_second : (p : Player) (dice : Dice) (u : List ℕ) → get_or (dice_text p dice ++ u) 1 0 ≡ 103
unfolding group_start
dice_second p dice u = ap (λ l. get_or l 1 0) (dice_before p dice u)

abbrev class_byte : Player → ℕ
class_byte X = 120
class_byte O = 111

dice_class : (p : Player) (dice : Dice) (u : List ℕ) → get_or (dice_text p dice ++ u) 10 0 ≡ class_byte p
unfolding group_start class_of
dice_class X dice u = ap (λ l. get_or l 10 0) (dice_before X dice u)
dice_class O dice u = ap (λ l. get_or l 10 0) (dice_before O dice u)

not_dice : (p : Player) (dice : Dice) (u w : List ℕ) → HasNoDice w → dice_text p dice ++ u ≡ w → ⊥
not_dice X dice u w (inl h) e = omega (arith, h, dice_second X dice u, ap (λ l. get_or l 1 0) e)
not_dice O dice u w (inl h) e = omega (arith, h, dice_second O dice u, ap (λ l. get_or l 1 0) e)
not_dice X dice u w (inr h) e = omega (arith, h, dice_class X dice u, ap (λ l. get_or l 10 0) e)
not_dice O dice u w (inr h) e = omega (arith, h, dice_class O dice u, ap (λ l. get_or l 10 0) e)

die_two : (die : Die) → length (die_name die) ≡ 2
die_two One = refl
die_two Two = refl
die_two Three = refl
die_two Four = refl
die_two Five = refl
die_two Six = refl

die_digit : (die : Die) → get_or (die_name die) 1 0 ≡ 48 + pips die
die_digit One = refl
die_digit Two = refl
die_digit Three = refl
die_digit Four = refl
die_digit Five = refl
die_digit Six = refl

same_die : (a b : Die) → die_name a ≡ die_name b → a ≡ b
same_die a b e =
    let digit : get_or (die_name a) 1 0 ≡ get_or (die_name b) 1 0 = ap (λ l. get_or l 1 0) e in
    same_pips a b (omega (arith, die_digit a, die_digit b, digit))

same_class : (p q : Player) → class_byte p ≡ class_byte q → p ≡ q
same_class X X e = refl
same_class X O e = absurd (omega (arith, e))
same_class O X e = absurd (omega (arith, e))
same_class O O e = refl

off_small : (p : Player) → (half p - 21 < 2 ^ 64) × (half p + 21 < 2 ^ 64)
off_small X = (omega arith, omega arith)
off_small O = (omega arith, omega arith)

both_dice : (p : Player) (a b : Dice) (u v : List ℕ) → dice_text p a ++ u ≡ dice_text p b ++ v → a ≡ b
both_dice p a b u v e =
    let ends : (dice : Dice) (u : List ℕ) → List ℕ = λ dice u. element_text (Shape (die_name dice.second) (half p + 21) 280) ++ (codes "</g>" ++ u) in
    let small = off_small p in
    let all = append_cancel_left (group_start (class_of p)) (element_text (Shape (die_name a.first) (half p - 21) 280) ++ ends a u)
    (element_text (Shape (die_name b.first) (half p - 21) 280) ++ ends b v) (sym (dice_before p a u) ∙ (e ∙ dice_before p b v)) in
    let first = shape_alike (die_name a.first) (die_name b.first) (half p - 21) 280 (half p - 21) 280 (ends a u) (ends b v)
    (die_two a.first ∙ sym (die_two b.first)) small.0 (omega arith) small.0 (omega arith) all in
    let second = shape_alike (die_name a.second) (die_name b.second) (half p + 21) 280 (half p + 21) 280 (codes "</g>" ++ u) (codes "</g>" ++ v)
    (die_two a.second ∙ sym (die_two b.second)) small.1 (omega arith) small.1 (omega arith) first.rest in
    same_throw a b (same_die a.first b.first first.name) (same_die a.second b.second second.name)

pub dice_alike : (a b : Option (Player × Dice)) (u v : List ℕ) → (a ≡ None → HasNoDice u) → (b ≡ None → HasNoDice v)
    → dice_part a ++ u ≡ dice_part b ++ v → a ≡ b
dice_alike None None u v hu hv e = refl
dice_alike None (Some (q, b)) u v hu hv e = absurd (not_dice q b v u (hu refl) (sym e))
dice_alike (Some (p, a)) None u v hu hv e = absurd (not_dice p a u v (hv refl) e)
dice_alike (Some (p, a)) (Some (q, b)) u v hu hv e =
    let player : p ≡ q = same_class p q (sym (dice_class p a u) ∙ (ap (λ l. get_or l 10 0) e ∙ dice_class q b v)) in
    let here : dice_text q a ++ u ≡ dice_text q b ++ v = ap (λ (z : Player). dice_text z a ++ u) (sym player) ∙ e in
    let dice : a ≡ b = both_dice q a b u v here in
    ap (λ (z : Player). Some (z, a)) player ∙ ap (λ (z : Dice). Some (q, z)) dice

-- A text begins with one cell.
use Rattle.std.specs.Prelude.{◌≡◌, ◌==◌, ℕ, ◌+◌, ◌≤◌, Bool, true, false, Option, Some, None, List, [], ◌∷◌, ◌++◌, length, codes}
use Rattle.std.proofs.Common.{length-append, refl, sym, ◌∙◌, ap, subst, inl, inr, arith}
use Rattle.std.proofs.lemmas.Bool.{ne_eqb}
use Rattle.bg_mat.specs.Legs.{TellsMovement, TellsWord}
use Rattle.bg_mat.specs.Rows.Cells.{BeginsArrow, EndsMovement, EndsName, EndsWin, SaysCannotMove, SaysDouble, SaysUnknown, TellsCell, TellsDouble, TellsPoints, TellsWin, ending, ends_name}
use Rattle.bg_mat.specs.Rows.Numbers.{IsNumber}
use Rattle.bg_mat.specs.Rows.Words.{BeginsSolid, BeginsWith, IsEither, IsFirstWord, Says, SaysAll}
use Rattle.bg_mat.specs.declared.movements.legs.Leg.{Leg}
use Rattle.bg_mat.specs.declared.rows.cells.Win.{Win}
use Rattle.bg_mat.specs.declared.rows.cells.Cell.{Cell}
use Rattle.bg_mat.specs.declared.rows.cells.Cell.TheVariants.{Turn, CannotMove, Unknown, Doubles, Takes, Drops, Wins}
use Rattle.bg_mat.proofs.OfReading.CellHeads.{kind_of, kinds_same}
use Rattle.bg_mat.proofs.OfReading.HeadingLemmas.{either_rest, says_rest}
use Rattle.bg_mat.proofs.OfReading.MovementLemmas.{AllOf, StopsAt, cut_same, head_same, letters_all, tail_same, word_same}
use Rattle.bg_mat.proofs.OfReading.Openings.{blanks_same, dice_same, says_open, solid_letter, unknown_opens}
use Rattle.bg_mat.proofs.OfReading.WordLemmas.{first_word_same}

-- a word of a movement does not end it
goes_on : (text after word rest : List ℕ) (words : List (List ℕ)) (legs : List Leg) → text ≡ after
    → BeginsWith text (word ∷ words) rest → TellsMovement (word ∷ words) legs → EndsMovement after → ⊥
goes_on text after word rest words legs e (middle, first, more) (own, others, tells, all, is) ends =
    ends word middle own (subst (λ (t : List ℕ). IsFirstWord t word middle) e first) tells

-- a movement that ends behind its words has all of them
pub movement_same : (text : List ℕ) (words others : List (List ℕ)) (rest behind : List ℕ) (legs more : List Leg)
    → BeginsWith text words rest → TellsMovement words legs → EndsMovement rest
    → BeginsWith text others behind → TellsMovement others more → EndsMovement behind → (legs ≡ more) × (rest ≡ behind)
movement_same text [] [] rest behind legs more e tells ends f told stops = (tells ∙ sym told, sym e ∙ f)
movement_same text [] (v ∷ vs) rest behind legs more e tells ends f told stops =
    absurd (goes_on text rest v behind vs more e f told ends)
movement_same text (w ∷ ws) [] rest behind legs more e tells ends f told stops =
    absurd (goes_on text behind w rest ws legs f e tells stops)
movement_same text (w ∷ ws) (v ∷ vs) rest behind legs more (after, first, begins) (own, others, tells, all, is) ends
    (then, other, begun) (each, last, told, every, at) stops =
    let both = first_word_same text w after v then first other in
    let legs_of : own ≡ each = word_same w own each tells (subst (λ (x : List ℕ). TellsWord x each) (sym both.0) told) in
    let more_of = movement_same after ws vs rest behind others last begins all ends
    (subst (λ (t : List ℕ). BeginsWith t vs behind) (sym both.1) begun) every stops in
    (is ∙ (cc (legs_of, more_of.0) ∙ sym at), more_of.1)

-- and no words of a movement tell more legs
pub movement_most : (text : List ℕ) (words others : List (List ℕ)) (rest behind : List ℕ) (legs more : List Leg)
    → BeginsWith text words rest → TellsMovement words legs → EndsMovement rest
    → BeginsWith text others behind → TellsMovement others more → length more ≤ length legs
movement_most text words [] rest behind legs more e tells ends f told = rw told (omega arith)
movement_most text [] (v ∷ vs) rest behind legs more e tells ends f told =
    absurd (goes_on text rest v behind vs more e f told ends)
movement_most text (w ∷ ws) (v ∷ vs) rest behind legs more (after, first, begins) (own, others, tells, all, is) ends
    (then, other, begun) (each, last, told, every, at) =
    let both = first_word_same text w after v then first other in
    let legs_of : own ≡ each = word_same w own each tells (subst (λ (x : List ℕ). TellsWord x each) (sym both.0) told) in
    let few = movement_most after ws vs rest behind others last begins all ends
    (subst (λ (t : List ℕ). BeginsWith t vs behind) (sym both.1) begun) every in
    let one : length legs ≡ length own + length others = ap (λ (t : List Leg). length t) is ∙ length-append own others in
    let two : length more ≡ length each + length last = ap (λ (t : List Leg). length t) at ∙ length-append each last in
    let own_size : length own ≡ length each = ap (λ (t : List Leg). length t) legs_of in
    omega (arith, one, two, own_size, few)

-- words that a text begins with, and what follows
begins_same : (text : List ℕ) (words : List (List ℕ)) (r s : List ℕ) → BeginsWith text words r → BeginsWith text words s → r ≡ s
begins_same text [] r s e f = sym e ∙ f
begins_same text (word ∷ words) r s (after, first, more) (then, other, most) =
    let same = (first_word_same text word after word then first other).1 in
    begins_same after words r s more (subst (λ (t : List ℕ). BeginsWith t words s) (sym same) most)

number_same : (word other : List ℕ) (n m : ℕ) → word ≡ other → IsNumber word n → IsNumber other m → n ≡ m
number_same word other n m e is at =
    let here : IsNumber word m = subst (λ (w : List ℕ). IsNumber w m) (sym e) at in is.value ∙ sym here.value

-- words that a text says, and what follows
all_said : (text : List ℕ) (words : List (List ℕ)) (r s : List ℕ) → SaysAll text words r → SaysAll text words s → r ≡ s
all_said text [] r s e f = sym e ∙ f
all_said text (word ∷ words) r s (after, first, more) (then, other, most) =
    let same = says_rest text word word after then first other in
    all_said after words r s more (subst (λ (t : List ℕ). SaysAll t words s) (sym same) most)

-- the name of a double ends where letters do
pub name_high : (word : List ℕ) → IsEither word (codes "Double") (codes "Doubles") → AllOf (λ b. 65 ≤ b) word
name_high word (inl is) =
    letters_all (λ b. 65 ≤ b) (λ b h. h) word (codes "double") is
    (omega arith, (omega arith, (omega arith, (omega arith, (omega arith, (omega arith, tt))))))
name_high word (inr is) =
    letters_all (λ b. 65 ≤ b) (λ b h. h) word (codes "doubles") is
    (omega arith, (omega arith, (omega arith, (omega arith, (omega arith, (omega arith, (omega arith, tt)))))))

pub name_first : (word behind : List ℕ) → IsEither word (codes "Double") (codes "Doubles") → BeginsSolid (word ++ behind)
name_first [] behind (inl is) = absurd (cc (is))
name_first [] behind (inr is) = absurd (cc (is))
name_first (x ∷ word) behind (inl is) = solid_letter x 100 (head_same _ _ _ _ is) (omega arith)
name_first (x ∷ word) behind (inr is) = solid_letter x 100 (head_same _ _ _ _ is) (omega arith)

name_stops : (rest : List ℕ) → EndsName rest → StopsAt (λ b. 65 ≤ b) rest
name_stops [] h = tt
name_stops (x ∷ rest) h = λ high.
    let space : (x == 32) ≡ false = ne_eqb x 32 (λ e. omega (arith, e, high)) in
    let tab : (x == 9) ≡ false = ne_eqb x 9 (λ e. omega (arith, e, high)) in
    let end : (x == 13) ≡ false = ne_eqb x 13 (λ e. omega (arith, e, high)) in
    let sign : (x == 61) ≡ false = ne_eqb x 61 (λ e. omega (arith, e, high)) in
    let none : ends_name x ≡ false = rw (space, tab, end, sign) refl in
    absurd (cc (none, h))

pub doubles_same : (text r s : List ℕ) → SaysDouble text r → SaysDouble text s → r ≡ s
doubles_same text r s f g =
    let cut = (blanks_same f.blanks (f.word ++ r) g.blanks (g.word ++ s) (sym f.spelled ∙ g.spelled) f.blank g.blank
    (name_first f.word r f.is) (name_first g.word s g.is)).1 in
    (cut_same (λ b. 65 ≤ b) f.word r g.word s cut (name_high f.word f.is) (name_high g.word g.is)
    (name_stops r f.ends) (name_stops s g.ends)).1

pub arrow_same : (text r s : List ℕ) → BeginsArrow text r → BeginsArrow text s → r ≡ s
arrow_same text r s (a, blank, e) (b, other, d) =
    let cut = (blanks_same a (61 ∷ 62 ∷ r) b (61 ∷ 62 ∷ s) (sym e ∙ d) blank other refl refl).1 in
    tail_same 62 62 r s (tail_same 61 61 (62 ∷ r) (62 ∷ s) cut)

pub double_same : (text : List ℕ) (n m : Option ℕ) (r s : List ℕ) → TellsDouble text n r → TellsDouble text m s → (n ≡ m) × (r ≡ s)
double_same text None None r s (is, none) (at, never) = (refl, doubles_same text r s is at)
double_same text None (Some m) r s (is, none) (after, behind, number, at, arrow, first, digits) =
    absurd (none behind (subst (λ (t : List ℕ). BeginsArrow t behind) (doubles_same text after r at is) arrow))
double_same text (Some n) None r s (after, behind, number, is, arrow, first, digits) (at, never) =
    absurd (never behind (subst (λ (t : List ℕ). BeginsArrow t behind) (doubles_same text after s is at) arrow))
double_same text (Some n) (Some m) r s (after, behind, number, is, arrow, first, digits)
    (then, beyond, other, at, pointer, second, figures) =
    let a = doubles_same text after then is at in
    let b = arrow_same after behind beyond arrow (subst (λ (t : List ℕ). BeginsArrow t beyond) (sym a) pointer) in
    let c = first_word_same behind number r other s first
    (subst (λ (t : List ℕ). IsFirstWord t other s) (sym b) second) in
    (ap Some (number_same number other n m c.0 digits figures), c.1)

pub points_same : (text : List ℕ) (n m : ℕ) (r s : List ℕ) → TellsPoints text n r → TellsPoints text m s → (n ≡ m) × (r ≡ s)
points_same text n m r s (number, word, (after, first, (behind, second, is)), digits, points)
    (other, name, (then, one, (beyond, two, at)), figures, more) =
    let a = first_word_same text number after other then first one in
    let b = first_word_same after word behind name beyond second
    (subst (λ (t : List ℕ). IsFirstWord t name beyond) (sym a.1) two) in
    (number_same number other n m a.0 digits figures, sym is ∙ (b.1 ∙ at))

-- what ends the match
ending_same : (b c : Bool) (text r s : List ℕ) → SaysAll text (ending b) r → (b ≡ false → EndsWin r)
    → SaysAll text (ending c) s → (c ≡ false → EndsWin s) → (b ≡ c) × (r ≡ s)
ending_same true true text r s f ends g stops = (refl, all_said text (ending true) r s f g)
ending_same false false text r s f ends g stops = (refl, sym f ∙ g)
ending_same true false text r s (after, first, more) ends g stops =
    absurd (stops refl after (subst (λ (t : List ℕ). Says t (codes "and") after) g first))
ending_same false true text r s f ends (after, first, more) stops =
    absurd (ends refl after (subst (λ (t : List ℕ). Says t (codes "and") after) f first))

win_by : (w v : Win) → w.points ≡ v.points → w.ends_match ≡ v.ends_match → w ≡ v
win_by w v h k =
    let one : w ≡ record { points = v.points; ends_match = w.ends_match } =
    ap (λ (n : ℕ). record { points = n; ends_match = w.ends_match }) h in
    one ∙ ap (λ (b : Bool). record { points = v.points; ends_match = b }) k

pub win_same : (text : List ℕ) (w v : Win) (r s : List ℕ) → TellsWin text w r → TellsWin text v s → (w ≡ v) × (r ≡ s)
win_same text w v r s (after, behind, first, points, begins, ends) (then, beyond, one, more, begun, stops) =
    let a = either_rest text (codes "Win") (codes "Wins") (codes "Win") (codes "Wins") after then first one in
    let b = points_same after w.points v.points behind beyond points
    (subst (λ (t : List ℕ). TellsPoints t v.points beyond) (sym a) more) in
    let c = ending_same w.ends_match v.ends_match behind r s begins ends
    (subst (λ (t : List ℕ). SaysAll t (ending v.ends_match) s) (sym b.1) begun) stops in
    (win_by w v b.0 c.0, c.1)

no_move_twice : (text r s : List ℕ) → SaysCannotMove text r → SaysUnknown text s → ⊥
no_move_twice text r s (after, first, more) unknown =
    let o = says_open text (codes "Cannot") after 99 97 (codes "nnot") first refl (omega arith) in
    let e = unknown_opens text s 99 97 unknown o in
    omega (arith, e)

same_by_kind : (text : List ℕ) (a b : Cell) (r s : List ℕ) → kind_of a ≡ kind_of b → TellsCell text a r → TellsCell text b s → (a ≡ b) × (r ≡ s)
same_by_kind text (Turn d l) (Turn e k) r s kind (after, is, may, (words, begins, tells), few, ends)
    (then, at, can, (more, begun, told), small, stops) =
    let both = dice_same text d e after then is at in
    let legs = movement_same after words more r s l.items k.items begins tells ends
    (subst (λ (t : List ℕ). BeginsWith t more s) (sym both.1) begun) told stops in
    let items : l ≡ k = ap (λ (xs : List Leg). record { items = xs }) legs.0 in
    (cc (both.0, items), legs.1)
same_by_kind text (Turn d l) (CannotMove e) r s kind (after, is, may, told, few, ends) (then, at, cannot) =
    absurd ((may s).0 (subst (λ (t : List ℕ). SaysCannotMove t s) (sym (dice_same text d e after then is at).1) cannot))
same_by_kind text (Turn d l) (Unknown e) r s kind (after, is, may, told, few, ends) (then, at, unknown) =
    absurd ((may s).1 (subst (λ (t : List ℕ). SaysUnknown t s) (sym (dice_same text d e after then is at).1) unknown))
same_by_kind text (CannotMove d) (Turn e k) r s kind (after, is, cannot) (then, at, may, told, few, ends) =
    absurd ((may r).0 (subst (λ (t : List ℕ). SaysCannotMove t r) (dice_same text d e after then is at).1 cannot))
same_by_kind text (CannotMove d) (CannotMove e) r s kind (after, is, cannot) (then, at, can) =
    let both = dice_same text d e after then is at in (
      ap CannotMove both.0,
      all_said after (codes "Cannot" ∷ codes "Move" ∷ []) r s cannot
          (subst (λ (t : List ℕ). SaysCannotMove t s) (sym both.1) can),
    )
same_by_kind text (CannotMove d) (Unknown e) r s kind (after, is, cannot) (then, at, unknown) =
    absurd (no_move_twice after r s cannot
    (subst (λ (t : List ℕ). SaysUnknown t s) (sym (dice_same text d e after then is at).1) unknown))
same_by_kind text (Unknown d) (Turn e k) r s kind (after, is, unknown) (then, at, may, told, few, ends) =
    absurd ((may r).1 (subst (λ (t : List ℕ). SaysUnknown t r) (dice_same text d e after then is at).1 unknown))
same_by_kind text (Unknown d) (CannotMove e) r s kind (after, is, unknown) (then, at, cannot) =
    absurd (no_move_twice after s r
    (subst (λ (t : List ℕ). SaysCannotMove t s) (sym (dice_same text d e after then is at).1) cannot) unknown)
same_by_kind text (Unknown d) (Unknown e) r s kind (after, is, (word, first, marks)) (then, at, (other, one, signs)) =
    let both = dice_same text d e after then is at in (
      ap Unknown both.0,
      (first_word_same after word r other s first
          (subst (λ (t : List ℕ). IsFirstWord t other s) (sym both.1) one)).1,
    )
same_by_kind text (Doubles n) (Doubles m) r s kind f g =
    let both = double_same text n m r s f g in (ap Doubles both.0, both.1)
same_by_kind text Takes Takes r s kind f g =
    (refl, either_rest text (codes "Take") (codes "Takes") (codes "Take") (codes "Takes") r s f g)
same_by_kind text Drops Drops r s kind f g =
    (refl, either_rest text (codes "Drop") (codes "Drops") (codes "Drop") (codes "Drops") r s f g)
same_by_kind text (Wins w) (Wins v) r s kind f g =
    let both = win_same text w v r s f g in (ap Wins both.0, both.1)
same_by_kind text (Turn d l) (Doubles m) r s kind f g = absurd (omega (arith, kind))
same_by_kind text (Turn d l) Takes r s kind f g = absurd (omega (arith, kind))
same_by_kind text (Turn d l) Drops r s kind f g = absurd (omega (arith, kind))
same_by_kind text (Turn d l) (Wins v) r s kind f g = absurd (omega (arith, kind))
same_by_kind text (CannotMove d) (Doubles m) r s kind f g = absurd (omega (arith, kind))
same_by_kind text (CannotMove d) Takes r s kind f g = absurd (omega (arith, kind))
same_by_kind text (CannotMove d) Drops r s kind f g = absurd (omega (arith, kind))
same_by_kind text (CannotMove d) (Wins v) r s kind f g = absurd (omega (arith, kind))
same_by_kind text (Unknown d) (Doubles m) r s kind f g = absurd (omega (arith, kind))
same_by_kind text (Unknown d) Takes r s kind f g = absurd (omega (arith, kind))
same_by_kind text (Unknown d) Drops r s kind f g = absurd (omega (arith, kind))
same_by_kind text (Unknown d) (Wins v) r s kind f g = absurd (omega (arith, kind))
same_by_kind text (Doubles n) (Turn e k) r s kind f g = absurd (omega (arith, kind))
same_by_kind text (Doubles n) (CannotMove e) r s kind f g = absurd (omega (arith, kind))
same_by_kind text (Doubles n) (Unknown e) r s kind f g = absurd (omega (arith, kind))
same_by_kind text (Doubles n) Takes r s kind f g = absurd (omega (arith, kind))
same_by_kind text (Doubles n) Drops r s kind f g = absurd (omega (arith, kind))
same_by_kind text (Doubles n) (Wins v) r s kind f g = absurd (omega (arith, kind))
same_by_kind text Takes (Turn e k) r s kind f g = absurd (omega (arith, kind))
same_by_kind text Takes (CannotMove e) r s kind f g = absurd (omega (arith, kind))
same_by_kind text Takes (Unknown e) r s kind f g = absurd (omega (arith, kind))
same_by_kind text Takes (Doubles m) r s kind f g = absurd (omega (arith, kind))
same_by_kind text Takes Drops r s kind f g = absurd (omega (arith, kind))
same_by_kind text Takes (Wins v) r s kind f g = absurd (omega (arith, kind))
same_by_kind text Drops (Turn e k) r s kind f g = absurd (omega (arith, kind))
same_by_kind text Drops (CannotMove e) r s kind f g = absurd (omega (arith, kind))
same_by_kind text Drops (Unknown e) r s kind f g = absurd (omega (arith, kind))
same_by_kind text Drops (Doubles m) r s kind f g = absurd (omega (arith, kind))
same_by_kind text Drops Takes r s kind f g = absurd (omega (arith, kind))
same_by_kind text Drops (Wins v) r s kind f g = absurd (omega (arith, kind))
same_by_kind text (Wins w) (Turn e k) r s kind f g = absurd (omega (arith, kind))
same_by_kind text (Wins w) (CannotMove e) r s kind f g = absurd (omega (arith, kind))
same_by_kind text (Wins w) (Unknown e) r s kind f g = absurd (omega (arith, kind))
same_by_kind text (Wins w) (Doubles m) r s kind f g = absurd (omega (arith, kind))
same_by_kind text (Wins w) Takes r s kind f g = absurd (omega (arith, kind))
same_by_kind text (Wins w) Drops r s kind f g = absurd (omega (arith, kind))

-- a text begins with one cell, and one rest follows
pub cell_same : (text : List ℕ) (a b : Cell) (r s : List ℕ) → TellsCell text a r → TellsCell text b s → (a ≡ b) × (r ≡ s)
cell_same text a b r s f g = same_by_kind text a b r s (kinds_same text a b r s f g) f g

-- What the data of an item tell.
use Rattle.std.proofs.Common.{◌≡◌, ℕ, ◌+◌, ◌≤◌, ◌<◌, ◌^◌, List, [], ◌∷◌, ◌++◌, length, map, get_or, drop, Option, Some, None, refl, sym, ◌∙◌, ap, arith, append_assoc}
use Rattle.std.specs.Prelude.{codes}
use Rattle.std.specs.Fmt.{decimal}
use Rattle.std.proofs.lemmas.Fmt.{decimal_digit, decimal_injective}
use Rattle.std.proofs.lemmas.List.{length-map}
use Rattle.bg_board.specs.Die.{pips}
use Rattle.bg_board.specs.Position.{Position, IsPosition}
use Rattle.bg_board.specs.declared.dice.Die.{Die}
use Rattle.bg_board.specs.declared.dice.Die.TheVariants.{One, Two, Three, Four, Five, Six}
use Rattle.bg_board.specs.declared.players.Player.{Player}
use Rattle.bg_board.specs.declared.players.Player.TheVariants.{X, O}
use Rattle.bg_turns.specs.declared.throws.Dice.{Dice}
use Rattle.bg_match.specs.State.{State, IsState, AreScoresOf}
use Rattle.bg_match.specs.declared.phases.Cube.{Cube}
use Rattle.bg_match.specs.declared.phases.Phase.{Phase}
use Rattle.bg_match.specs.declared.phases.Phase.TheVariants as phase
use Rattle.bg_text.proofs.Spelling.EntryTexts.{same_pips}
use Rattle.bg_picture.specs.ItemData.{board_data, both_data, count_letter, counts_data, cube_data, dice_data, owner_data, position_data, score_data}
use Rattle.bg_picture.specs.Laws.{ToldAlike, lying_dice}
use Rattle.bg_picture.proofs.Cuts.{cut_decimal, cut_length, two_ends}
use Rattle.bg_picture.proofs.Ends.{cube_limited}

pub boards_of : (b c : Position) → b.x ≡ c.x → b.o ≡ c.o → b ≡ c
boards_of b c x o =
    let both : ◌≡◌ {A = List ℕ × List ℕ} (b.x, b.o) (c.x, c.o) = cc (x, o) in
    ap (λ (q : List ℕ × List ℕ). record { x = q.0; o = q.1 }) both

counts_alike : (xs ys : List ℕ) → map count_letter xs ≡ map count_letter ys → xs ≡ ys
counts_alike [] [] e = refl
counts_alike [] (y ∷ ys) e = let f : 0 ≡ length (y ∷ map count_letter ys) = ap length e in absurd (omega (arith, f))
counts_alike (x ∷ xs) [] e = let f : length (x ∷ map count_letter xs) ≡ 0 = ap length e in absurd (omega (arith, f))
counts_alike (x ∷ xs) (y ∷ ys) e =
    two_ends x y xs ys (omega (arith, ap (λ l. get_or l 0 0) e)) (counts_alike xs ys (ap (drop 1) e))

long : (xs ys : List ℕ) → length xs ≡ 26 → length ys ≡ 26 → length (map count_letter xs) ≡ length (map count_letter ys)
long xs ys h k = omega (arith, length-map xs count_letter, length-map ys count_letter, h, k)

board_alike : (b c : Position) (u v : List ℕ) → IsPosition b → IsPosition c → board_data b ++ u ≡ board_data c ++ v
    → (b ≡ c) × (u ≡ v)
unfolding board_data counts_data
board_alike b c u v h k e =
    let all = sym (append_assoc (map count_letter b.x) (map count_letter b.o) u)
    ∙ (e ∙ append_assoc (map count_letter c.x) (map count_letter c.o) v) in
    let x = cut_length (map count_letter b.x) (map count_letter c.x) (map count_letter b.o ++ u) (map count_letter c.o ++ v)
    (long b.x c.x h.x_points k.x_points) all in
    let o = cut_length (map count_letter b.o) (map count_letter c.o) u v (long b.o c.o h.o_points k.o_points) x.1 in
    (boards_of b c (counts_alike b.x c.x x.0) (counts_alike b.o c.o o.0), o.1)

same_owner : (a b : Option Player) → owner_data a ≡ owner_data b → a ≡ b
same_owner None None e = refl
same_owner None (Some X) e = let f : 45 ≡ 88 = ap (λ l. get_or l 0 0) e in absurd (omega (arith, f))
same_owner None (Some O) e = let f : 45 ≡ 79 = ap (λ l. get_or l 0 0) e in absurd (omega (arith, f))
same_owner (Some X) None e = let f : 88 ≡ 45 = ap (λ l. get_or l 0 0) e in absurd (omega (arith, f))
same_owner (Some O) None e = let f : 79 ≡ 45 = ap (λ l. get_or l 0 0) e in absurd (omega (arith, f))
same_owner (Some X) (Some X) e = refl
same_owner (Some X) (Some O) e = let f : 88 ≡ 79 = ap (λ l. get_or l 0 0) e in absurd (omega (arith, f))
same_owner (Some O) (Some X) e = let f : 79 ≡ 88 = ap (λ l. get_or l 0 0) e in absurd (omega (arith, f))
same_owner (Some O) (Some O) e = refl

owner_one : (a : Option Player) → length (owner_data a) ≡ 1
owner_one None = refl
owner_one (Some X) = refl
owner_one (Some O) = refl

same_cube : (a b : Cube) → a.value ≡ b.value → a.owner ≡ b.owner → a ≡ b
same_cube a b value owner =
    let both : ◌≡◌ {A = ℕ × Option Player} (a.value, a.owner) (b.value, b.owner) = cc (value, owner) in
    ap (λ (q : ℕ × Option Player). record { value = q.0; owner = q.1 }) both

-- the text of a cube, with what follows
cube_before : (cube : Cube) (u : List ℕ) → cube_data cube ++ u ≡ 32 ∷ (decimal cube.value ++ 32 ∷ (owner_data cube.owner ++ u))
unfolding cube_data
cube_before cube u = simp append_assoc

cube_alike : (a b : Cube) (u v : List ℕ) → a.value < 2 ^ 64 → b.value < 2 ^ 64 → cube_data a ++ u ≡ cube_data b ++ v
    → (a ≡ b) × (u ≡ v)
cube_alike a b u v h k e =
    let all = ap (drop 1) (sym (cube_before a u) ∙ (e ∙ cube_before b v)) in
    let value = cut_decimal 32 a.value b.value (owner_data a.owner ++ u) (owner_data b.owner ++ v) (omega arith) h k all in
    let owner = cut_length (owner_data a.owner) (owner_data b.owner) u v (owner_one a.owner ∙ sym (owner_one b.owner)) value.1 in
    (same_cube a b value.0 (same_owner a.owner b.owner owner.0), owner.1)

pips_few : (die : Die) → pips die < 10
pips_few One = omega arith
pips_few Two = omega arith
pips_few Three = omega arith
pips_few Four = omega arith
pips_few Five = omega arith
pips_few Six = omega arith

-- two digits
both_before : (dice : Dice) → both_data dice ≡ 32 ∷ (48 + pips dice.first) ∷ (48 + pips dice.second) ∷ []
unfolding both_data
both_before dice =
    rw (decimal_digit (pips dice.first) (pips_few dice.first), decimal_digit (pips dice.second) (pips_few dice.second)) refl

pub same_throw : (a b : Dice) → a.first ≡ b.first → a.second ≡ b.second → a ≡ b
same_throw a b first second =
    let both : ◌≡◌ {A = Die × Die} (a.first, a.second) (b.first, b.second) = cc (first, second) in
    ap (λ (q : Die × Die). record { first = q.0; second = q.1 }) both

both_alike : (a b : Dice) (u v : List ℕ) → both_data a ++ u ≡ both_data b ++ v → (a ≡ b) × (u ≡ v)
both_alike a b u v e =
    let all = ap (λ l. l ++ u) (sym (both_before a)) ∙ (e ∙ ap (λ l. l ++ v) (both_before b)) in
    let first : pips a.first ≡ pips b.first = omega (arith, ap (λ l. get_or l 1 0) all) in
    let second : pips a.second ≡ pips b.second = omega (arith, ap (λ l. get_or l 2 0) all) in
    (same_throw a b (same_pips a.first b.first first) (same_pips a.second b.second second), ap (drop 3) all)

-- the dice of a phase, or a hyphen
abbrev dice_told : Option Dice → List ℕ
dice_told None = codes " -"
dice_told (Some dice) = both_data dice

dice_of : (p : Phase) → dice_data p ≡ dice_told (lying_dice p)
unfolding dice_data
dice_of phase.Opening = refl
dice_of (phase.ToAct p) = refl
dice_of (phase.Doubled p) = refl
dice_of (phase.ToMove p dice) = refl
dice_of (phase.Resigned p level None) = refl
dice_of (phase.Resigned p level (Some dice)) = refl
dice_of (phase.Over p) = refl

no_hyphen : (a : Dice) (u v : List ℕ) → both_data a ++ u ≡ codes " -" ++ v → ⊥
no_hyphen a u v e =
    let all = ap (λ l. l ++ u) (sym (both_before a)) ∙ e in
    omega (arith, ap (λ l. get_or l 1 0) all)

told_alike : (a b : Option Dice) (u v : List ℕ) → dice_told a ++ u ≡ dice_told b ++ v → (a ≡ b) × (u ≡ v)
told_alike None None u v e = (refl, ap (drop 2) e)
told_alike None (Some b) u v e = absurd (no_hyphen b v u (sym e))
told_alike (Some a) None u v e = absurd (no_hyphen a u v e)
told_alike (Some a) (Some b) u v e =
    let both = both_alike a b u v e in
    (ap Some both.0, both.1)

score_before : (s : State) → score_data s ≡ 32 ∷ (decimal s.x_score ++ 32 ∷ decimal s.o_score)
unfolding score_data
score_before s = simp append_assoc

scores_alike : (s t : State) → s.x_score < 2 ^ 64 → s.o_score < 2 ^ 64 → t.x_score < 2 ^ 64 → t.o_score < 2 ^ 64
    → score_data s ≡ score_data t → (s.x_score ≡ t.x_score) × (s.o_score ≡ t.o_score)
scores_alike s t sx so tx to e =
    let x = cut_decimal 32 s.x_score t.x_score (decimal s.o_score) (decimal t.o_score) (omega arith) sx tx
    (ap (drop 1) (sym (score_before s) ∙ (e ∙ score_before t))) in
    (x.0, decimal_injective s.o_score t.o_score so to x.1)

small_scores : (p : Phase) (points x o : ℕ) → points ≤ 99 → AreScoresOf p points x o → (x < 2 ^ 64) × (o < 2 ^ 64)
small_scores phase.Opening points x o few h = (omega (arith, h.0, few), omega (arith, h.1, few))
small_scores (phase.ToAct p) points x o few h = (omega (arith, h.0, few), omega (arith, h.1, few))
small_scores (phase.Doubled p) points x o few h = (omega (arith, h.0, few), omega (arith, h.1, few))
small_scores (phase.ToMove p dice) points x o few h = (omega (arith, h.0, few), omega (arith, h.1, few))
small_scores (phase.Resigned p level back) points x o few h = (omega (arith, h.0, few), omega (arith, h.1, few))
small_scores (phase.Over X) points x o few h = (omega (arith, h.1), omega (arith, h.2, few))
small_scores (phase.Over O) points x o few h = (omega (arith, h.2, few), omega (arith, h.1))

position_before : (s : State) → position_data s ≡ board_data s.board ++ (cube_data s.cube ++ (dice_data s.phase ++ score_data s))
unfolding position_data
position_before s = simp append_assoc

pub told : (s t : State) → IsState s → IsState t → IsPosition s.board → IsPosition t.board
    → position_data s ≡ position_data t → ToldAlike s t
told s t is it sb tb e =
    let board = board_alike s.board t.board (cube_data s.cube ++ (dice_data s.phase ++ score_data s))
    (cube_data t.cube ++ (dice_data t.phase ++ score_data t)) sb tb (sym (position_before s) ∙ (e ∙ position_before t)) in
    let s_cube = cube_limited s.phase s.cube.value is.cube_limit in
    let t_cube = cube_limited t.phase t.cube.value it.cube_limit in
    let cube = cube_alike s.cube t.cube (dice_data s.phase ++ score_data s) (dice_data t.phase ++ score_data t)
    (omega (arith, s_cube)) (omega (arith, t_cube)) board.1 in
    let lying = ap (λ l. l ++ score_data s) (sym (dice_of s.phase)) ∙ (cube.1 ∙ ap (λ l. l ++ score_data t) (dice_of t.phase)) in
    let dice = told_alike (lying_dice s.phase) (lying_dice t.phase) (score_data s) (score_data t) lying in
    let s_scores = small_scores s.phase _ s.x_score s.o_score is.longest is.scores in
    let t_scores = small_scores t.phase _ t.x_score t.o_score it.longest it.scores in
    let scores = scores_alike s t s_scores.0 s_scores.1 t_scores.0 t_scores.1 dice.1 in
    record {
      board = board.0;
      cube = cube.0;
      dice = dice.0;
      x_score = scores.0;
      o_score = scores.1;
    }

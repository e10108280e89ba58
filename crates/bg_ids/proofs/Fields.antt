-- What the bits of a Match ID tell of its fields.
use Rattle.std.proofs.Common.{◌≡◌, ◌==◌, ◌<◌, ◌≤◌, ◌/◌, ◌%◌, ◌^◌, ℕ, zero, suc, Bool, true, false, List, [], ◌∷◌, ◌++◌, length, map, refl, ap, sym, ◌∙◌, arith, append_assoc}
use Rattle.std.specs.Prelude.{Option, Some, None}
use Rattle.std.specs.List.{flat_map, sum_by, AllByRecursion}
use Rattle.std.proofs.Math.Nat.{pow-suc}
use Rattle.std.proofs.lemmas.List.{length-append}
use Rattle.std.proofs.lemmas.List.Sums.{sum_by-cons}
use Rattle.std.proofs.lemmas.Nat.{trailing_le}
use Rattle.bg_board.specs.Die.{pips}
use Rattle.bg_board.specs.declared.dice.Die.{Die}
use Rattle.bg_board.specs.declared.dice.Die.TheVariants.{One, Two, Three, Four, Five, Six}
use Rattle.bg_board.specs.declared.players.Player.{Player}
use Rattle.bg_board.specs.declared.players.Player.TheVariants.{X, O}
use Rattle.bg_turns.specs.declared.throws.Dice.{Dice}
use Rattle.bg_match.specs.State.{State, IsState, AreScoresOf}
use Rattle.bg_match.specs.Terms.{match_length}
use Rattle.bg_match.specs.declared.levels.Level.{Level}
use Rattle.bg_match.specs.declared.levels.Level.TheVariants.{Normal, Gammon, Backgammon}
use Rattle.bg_match.specs.declared.phases.Phase.{Phase}
use Rattle.bg_match.specs.declared.phases.Phase.TheVariants.{Opening, ToAct, Doubled, ToMove, Resigned, Over}
use Rattle.bg_ids.specs.Bits.{number_bits}
use Rattle.bg_ids.specs.MatchIds.{player_number, owner_number, yes_number, stage_number, level_number, resigned_number, greater_number, lesser_number, width, field_bits, match_fields, match_bits, match_text}
use Rattle.bg_ids.specs.declared.match_ids.BitField.{BitField}
use Rattle.bg_ids.proofs.Inverses.{same_bits}

parity : (a b : ℕ) → a < 2 → b < 2 → (a == 1) ≡ (b == 1) → a ≡ b
parity zero zero l m e = refl
parity zero (suc zero) l m e = absurd (cc e)
parity (suc zero) zero l m e = absurd (cc e)
parity (suc zero) (suc zero) l m e = refl
parity (suc (suc a)) b l m e = absurd (omega (arith, l))
parity a (suc (suc b)) l m e = absurd (omega (arith, m))

-- a number is told by its bits, whatever follows
pub same_number : (width m n : ℕ) (s t : List Bool) → m < 2 ^ width → n < 2 ^ width
    → number_bits width m ++ s ≡ number_bits width n ++ t → (m ≡ n) × (s ≡ t)
unfolding number_bits
same_number zero m n s t fits few e = (omega (arith, fits, few), e)
same_number (suc width) m n s t fits few e =
    let last : (m % 2 == 1) ≡ (n % 2 == 1) = cc e in
    let rest : number_bits width (m / 2) ++ s ≡ number_bits width (n / 2) ++ t = cc e in
    let low = parity (m % 2) (n % 2) (omega arith) (omega arith) last in
    let high = same_number width (m / 2) (n / 2) s t (omega (arith, fits, pow-suc 2 width)) (omega (arith, few, pow-suc 2 width)) rest in
    (omega (arith, low, high.0), high.1)

abbrev pub Fits : BitField → Type 0
Fits f = f.number < 2 ^ f.width

-- fields of the same widths are told by their bits
pub same_fields : (xs ys : List BitField) (s t : List Bool) → map width xs ≡ map width ys → AllByRecursion Fits xs → AllByRecursion Fits ys
    → flat_map field_bits xs ++ s ≡ flat_map field_bits ys ++ t → xs ≡ ys
same_fields [] [] s t w f g e = refl
same_fields [] (y ∷ ys) s t w f g e = absurd (cc w)
same_fields (x ∷ xs) [] s t w f g e = absurd (cc w)
same_fields (x ∷ xs) (y ∷ ys) s t w f g e =
    let wide : x.width ≡ y.width = cc w in
    let others : map width xs ≡ map width ys = cc w in
    let apart = sym (append_assoc (field_bits x) (flat_map field_bits xs) s) ∙ e ∙ append_assoc (field_bits y) (flat_map field_bits ys) t in
    let first = same_number x.width x.number y.number (flat_map field_bits xs ++ s) (flat_map field_bits ys ++ t) f.0 (rw wide g.0) (rw (← wide) at apart) in
    let rest = same_fields xs ys s t others f.1 g.1 first.1 in
    let both : ◌≡◌ {A = ℕ × ℕ} (x.number, x.width) (y.number, y.width) = cc (first.0, wide) in
    let one : x ≡ y = ap (λ (q : ℕ × ℕ). record { number = q.0; width = q.1 }) both in
    cc (one, rest)

pub length-number : (width n : ℕ) → length (number_bits width n) ≡ width
unfolding number_bits
length-number zero n = refl
length-number (suc width) n = ap suc (length-number width (n / 2))

pub length-fields : (xs : List BitField) → length (flat_map field_bits xs) ≡ sum_by width xs
length-fields [] = refl
length-fields (x ∷ xs) =
    length-append (field_bits x) (flat_map field_bits xs) ∙ omega (arith, length-number x.width x.number, length-fields xs, sum_by-cons width x xs)

player_fits : (p : Player) → player_number p < 2
player_fits X = omega arith
player_fits O = omega arith

owner_fits : (p : Option Player) → owner_number p < 4
owner_fits None = omega arith
owner_fits (Some p) = omega (arith, player_fits p)

yes_fits : (b : Bool) → yes_number b < 2
yes_fits true = omega arith
yes_fits false = omega arith

stage_fits : (phase : Phase) → stage_number phase < 8
stage_fits Opening = omega arith
stage_fits (ToAct p) = omega arith
stage_fits (Doubled p) = omega arith
stage_fits (ToMove p dice) = omega arith
stage_fits (Resigned p level back) = omega arith
stage_fits (Over p) = omega arith

level_fits : (level : Level) → level_number level < 4
level_fits Normal = omega arith
level_fits Gammon = omega arith
level_fits Backgammon = omega arith

resigned_fits : (phase : Phase) → resigned_number phase < 4
resigned_fits Opening = omega arith
resigned_fits (ToAct p) = omega arith
resigned_fits (Doubled p) = omega arith
resigned_fits (ToMove p dice) = omega arith
resigned_fits (Resigned p level back) = level_fits level
resigned_fits (Over p) = omega arith

pips_fit : (die : Die) → pips die < 8
pips_fit One = omega arith
pips_fit Two = omega arith
pips_fit Three = omega arith
pips_fit Four = omega arith
pips_fit Five = omega arith
pips_fit Six = omega arith

greater_fits : (dice : Option Dice) → greater_number dice < 8
greater_fits None = omega arith
greater_fits (Some dice) = omega (arith, pips_fit dice.first, pips_fit dice.second)

lesser_fits : (dice : Option Dice) → lesser_number dice < 8
lesser_fits None = omega arith
lesser_fits (Some dice) = omega (arith, pips_fit dice.first, pips_fit dice.second)

scores_fit : (phase : Phase) (points x o : ℕ) → points ≤ 99 → AreScoresOf phase points x o → (x < 32768) × (o < 32768)
scores_fit Opening points x o l h = (omega (arith, h.0), omega (arith, h.1))
scores_fit (ToAct p) points x o l h = (omega (arith, h.0), omega (arith, h.1))
scores_fit (Doubled p) points x o l h = (omega (arith, h.0), omega (arith, h.1))
scores_fit (ToMove p dice) points x o l h = (omega (arith, h.0), omega (arith, h.1))
scores_fit (Resigned p level back) points x o l h = (omega (arith, h.0), omega (arith, h.1))
scores_fit (Over X) points x o l h = (omega (arith, h.1), omega (arith, h.2))
scores_fit (Over O) points x o l h = (omega (arith, h.2), omega (arith, h.1))

-- each field of a standing fits
fields_fit : (s : State) → IsState s → AllByRecursion Fits (match_fields s)
fields_fit s is =
    let scores = scores_fit s.phase (match_length s.terms) s.x_score s.o_score is.longest is.scores in
    (omega (arith, trailing_le 8 s.cube.value), (owner_fits s.cube.owner, (player_fits _, (yes_fits _, (stage_fits s.phase, (player_fits _, (yes_fits _, (resigned_fits s.phase, (greater_fits _, (lesser_fits _, (omega (arith, is.longest), (scores.1, (scores.0, (omega arith, tt))))))))))))))

-- a Match ID is that of one list of fields
pub differ : (s t : State) → IsState s → IsState t → match_text s ≡ match_text t → match_fields s ≡ match_fields t
differ s t is it e =
    let bits = same_bits 9 (match_bits s) (match_bits t) 5 5 (omega (arith, length-fields (match_fields s))) (omega (arith, length-fields (match_fields t))) e in
    same_fields (match_fields s) (match_fields t) _ _ refl (fields_fit s is) (fields_fit t it) bits

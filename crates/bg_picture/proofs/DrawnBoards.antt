-- What drawings tell of the board.
use Rattle.std.proofs.Common.{◌≡◌, ℕ, ◌+◌, ◌≤◌, ◌<◌, ◌^◌, Bool, true, false, not, cond, min, ◌==◌, ◌&&◌, List, [], ◌∷◌, ◌++◌, length, map, get_or, drop, sum, refl, sym, ◌∙◌, ap, arith, inl, inr, append_assoc}
use Rattle.std.specs.Prelude.{codes, nat_le}
use Rattle.std.specs.Fmt.{decimal}
use Rattle.std.specs.List.{flat_map, list_all}
use Rattle.std.proofs.lemmas.Bool.{and_parts, cases_eq, cases_lt, eq-eqb, le-ltb, leb-true, lt-ltb, ne_eqb}
use Rattle.std.proofs.lemmas.Grind.{same_number_lists}
use Rattle.std.proofs.lemmas.List.{append_cancel_left, get_or_past}
use Rattle.std.proofs.lemmas.List.Sums.{get_or-le-sum_by}
use Rattle.std.proofs.lemmas.List.FromFn.{get_or-map-range_with_len}
use Rattle.bg_board.specs.Position.{Position, IsPosition, count}
use Rattle.bg_board.specs.declared.players.Player.{Player}
use Rattle.bg_board.specs.declared.players.Player.TheVariants.{X, O}
use Rattle.bg_match.specs.Actor.{passes}
use Rattle.bg_match.specs.State.{State}
use Rattle.bg_picture.specs.Elements.{element_text, group_end, group_start}
use Rattle.bg_picture.specs.Elements.Element.{Shape, Words}
use Rattle.bg_picture.specs.Places.{column, count_line, is_above, stack_top}
use Rattle.bg_picture.specs.Pictures.{board_text, captions_text, drawing, position_text, scores_text}
use Rattle.bg_picture.specs.Stacks.{all_points, checkers_text, class_of, count_text, numbers_name, stack, stack_name, stack_text, stacks_text}
use Rattle.bg_picture.specs.Tables.{cube_text, table_text}
use Rattle.bg_picture.proofs.DrawnParts.{shape_alike, shape_before, words_alike, words_second}
use Rattle.bg_picture.proofs.Told.{boards_of}

-- the name of a stack: how many of its checkers are drawn
name_two : (k : ℕ) → length (stack_name k) ≡ 2
name_two k = two (k == 1) (k == 2) (k == 3) (k == 4)
  where
    two : (a b c d : Bool) → length (cond a (codes "c1") (cond b (codes "c2") (cond c (codes "c3") (cond d (codes "c4") (codes "c5"))))) ≡ 2
    two true b c d = refl
    two false true c d = refl
    two false false true d = refl
    two false false false true = refl
    two false false false false = refl

name_digit : (k : ℕ) → 0 < k → get_or (stack_name k) 1 0 ≡ 48 + min k 5
name_digit k some = elim (cases_eq k 1) [
  | inl e ↦ rw e refl
  | inr n1 ↦ elim (cases_eq k 2) [
    | inl e ↦ rw e refl
    | inr n2 ↦ elim (cases_eq k 3) [
      | inl e ↦ rw e refl
      | inr n3 ↦ elim (cases_eq k 4) [
        | inl e ↦ rw e refl
        | inr n4 ↦ rw (ne_eqb k 1 n1, ne_eqb k 2 n2, ne_eqb k 3 n3, ne_eqb k 4 n4) (omega (arith, some, n1, n2, n3, n4))
      ]
    ]
  ]
]

same_drawn : (j k : ℕ) → 0 < j → 0 < k → stack_name j ≡ stack_name k → min j 5 ≡ min k 5
same_drawn j k sj sk e =
    let digit : get_or (stack_name j) 1 0 ≡ get_or (stack_name k) 1 0 = ap (λ l. get_or l 1 0) e in
    omega (arith, name_digit j sj, name_digit k sk, digit)

top_small : (a : Bool) (k : ℕ) → stack_top a k < 2 ^ 64
top_small true k = omega arith
top_small false k = omega arith

same_top : (a b : Bool) (j k : ℕ) → stack_top a j ≡ stack_top b k → a ≡ b
same_top true true j k e = refl
same_top true false j k e = absurd (omega (arith, e))
same_top false true j k e = absurd (omega (arith, e))
same_top false false j k e = refl

-- a stack is nothing, or a shape and perhaps its count
no_stack : (x : ℕ) (a : Bool) (k : ℕ) → k ≤ 0 → stack_text x a k ≡ []
unfolding stack_text
no_stack x a k none = rw (le-ltb 0 k none) refl

some_stack : (x : ℕ) (a : Bool) (k : ℕ) (u : List ℕ) → 0 < k
    → stack_text x a k ++ u ≡ element_text (Shape (stack_name k) x (stack_top a k)) ++ (count_text x a k ++ u)
unfolding stack_text
some_stack x a k u some = rw (lt-ltb 0 k some) (append_assoc (element_text (Shape (stack_name k) x (stack_top a k))) (count_text x a k) u)

some_second : (x : ℕ) (a : Bool) (k : ℕ) (u : List ℕ) → 0 < k → get_or (stack_text x a k ++ u) 1 0 ≡ 117
some_second x a k u some =
    ap (λ l. get_or l 1 0) (some_stack x a k u some ∙ shape_before (stack_name k) x (stack_top a k) (count_text x a k ++ u))

no_count : (x : ℕ) (a : Bool) (k : ℕ) → k ≤ 5 → count_text x a k ≡ []
unfolding count_text
no_count x a k few = rw (le-ltb 5 k few) refl

some_count : (x : ℕ) (a : Bool) (k : ℕ) → 5 < k → count_text x a k ≡ element_text (Words x (count_line a) (decimal k))
unfolding count_text
some_count x a k many = rw (lt-ltb 5 k many) refl

-- where as many checkers are drawn, and no words follow the stack, the counts are the same
same_count : (x : ℕ) (a : Bool) (j k : ℕ) (u v : List ℕ) → j < 2 ^ 64 → k < 2 ^ 64 → min j 5 ≡ min k 5
    → (get_or u 1 0 ≡ 116 → ⊥) → (get_or v 1 0 ≡ 116 → ⊥) → count_text x a j ++ u ≡ count_text x a k ++ v → (j ≡ k) × (u ≡ v)
same_count x a j k u v fj fk drawn nu nv e = elim (cases_lt 5 j) [
  | inl mj ↦ elim (cases_lt 5 k) [
    | inl mk ↦ let f : element_text (Words x (count_line a) (decimal j)) ++ u ≡ element_text (Words x (count_line a) (decimal k)) ++ v =
        ap (λ l. l ++ u) (sym (some_count x a j mj)) ∙ (e ∙ ap (λ l. l ++ v) (some_count x a k mk)) in
        words_alike x (count_line a) j k u v fj fk f
    | inr fewk ↦ let f : element_text (Words x (count_line a) (decimal j)) ++ u ≡ v =
        ap (λ l. l ++ u) (sym (some_count x a j mj)) ∙ (e ∙ ap (λ l. l ++ v) (no_count x a k fewk)) in
        absurd (nv (ap (λ l. get_or l 1 0) (sym f) ∙ words_second x (count_line a) (decimal j) u))
  ]
  | inr fewj ↦ elim (cases_lt 5 k) [
    | inl mk ↦ let f : u ≡ element_text (Words x (count_line a) (decimal k)) ++ v =
        ap (λ l. l ++ u) (sym (no_count x a j fewj)) ∙ (e ∙ ap (λ l. l ++ v) (some_count x a k mk)) in
        absurd (nu (ap (λ l. get_or l 1 0) f ∙ words_second x (count_line a) (decimal k) v))
    | inr fewk ↦ let f : u ≡ v = ap (λ l. l ++ u) (sym (no_count x a j fewj)) ∙ (e ∙ ap (λ l. l ++ v) (no_count x a k fewk)) in
        (omega (arith, drawn, fewj, fewk), f)
  ]
]

-- places of two stacks differ, by their column or by their half
abbrev same_half : Bool → Bool → Bool
same_half true b = b
same_half false b = not b

abbrev is_apart : Player → ℕ → ℕ → Bool
is_apart p q r = not (column q == column r && same_half (is_above p q) (is_above p r))

half_alike : (b : Bool) → same_half b b ≡ true
half_alike true = refl
half_alike false = refl

not_apart : (p : Player) (q r : ℕ) → column q ≡ column r → is_above p q ≡ is_above p r → is_apart p q r ≡ true → ⊥
not_apart p q r e f h =
    let here : (column q == column r) ≡ true = eq-eqb (column q) (column r) e in
    let half : same_half (is_above p q) (is_above p r) ≡ true = rw f (half_alike (is_above p r)) in
    let g : not (true && true) ≡ true = rw (here, half) at h in
    absurd cc

-- points whose places all differ and lie on the board
abbrev are_apart : Player → List ℕ → Bool
are_apart p [] = true
are_apart p (q ∷ points) = nat_le (column q) 600 && (list_all (is_apart p q) points && are_apart p points)

all_apart : (p : Player) → are_apart p all_points ≡ true
all_apart X = refl
all_apart O = refl

abbrev stacks_of : Position → Player → List ℕ → List ℕ → List ℕ
stacks_of b p points u = flat_map (stack b p) points ++ (codes "</g>" ++ u)

next_stack : (b : Position) (p : Player) (q : ℕ) (points : List ℕ) (u : List ℕ) → stacks_of b p (q ∷ points) u ≡ stack b p q ++ stacks_of b p points u
next_stack b p q points u = append_assoc (stack b p q) (flat_map (stack b p) points) (codes "</g>" ++ u)

past_none : (b : Position) (p : Player) (q : ℕ) (points : List ℕ) (u : List ℕ) → count b p q ≤ 0 → stacks_of b p (q ∷ points) u ≡ stacks_of b p points u
past_none b p q points u none =
    next_stack b p q points u ∙ ap (λ l. l ++ stacks_of b p points u) (no_stack (column q) (is_above p q) (count b p q) none)

-- no words stand at the front of stacks
second : (b : Position) (p : Player) (points : List ℕ) (u : List ℕ) → get_or (stacks_of b p points u) 1 0 ≡ 116 → ⊥
second b p [] u e = omega (arith, e)
second b p (q ∷ points) u e = elim (cases_lt 0 (count b p q)) [
  | inl some ↦ let f : 117 ≡ 116 =
      sym (some_second (column q) (is_above p q) (count b p q) (stacks_of b p points u) some)
      ∙ (ap (λ l. get_or l 1 0) (sym (next_stack b p q points u)) ∙ e) in omega (arith, f)
  | inr none ↦ second b p points u (ap (λ l. get_or l 1 0) (sym (past_none b p q points u none)) ∙ e)
]

-- a stack stands at the front of no stacks that are apart from it
none_there : (p : Player) (c : Position) (q k : ℕ) (points : List ℕ) (u w : List ℕ) → 0 < k → column q ≤ 600
    → list_all (is_apart p q) points ≡ true → are_apart p points ≡ true
    → stack_text (column q) (is_above p q) k ++ u ≡ stacks_of c p points w → ⊥
none_there p c q k [] u w some on apart fit e =
    let f : 117 ≡ 47 = sym (some_second (column q) (is_above p q) k u some) ∙ ap (λ l. get_or l 1 0) e in
    omega (arith, f)
none_there p c q k (r ∷ points) u w some on apart fit e =
    let first = and_parts (is_apart p q r) (list_all (is_apart p q) points) apart in
    let fits = and_parts (nat_le (column r) 600) (list_all (is_apart p r) points && are_apart p points) fit in
    let rest = and_parts (list_all (is_apart p r) points) (are_apart p points) fits.1 in
    elim (cases_lt 0 (count c p r)) [
      | inl more ↦ let n = count c p r in
          let all = sym (some_stack (column q) (is_above p q) k u some)
          ∙ (e ∙ (next_stack c p r points w ∙ some_stack (column r) (is_above p r) n (stacks_of c p points w) more)) in
          let low : column r ≤ 600 = leb-true (column r) 600 fits.0 in
          let same = shape_alike (stack_name k) (stack_name n) (column q) (stack_top (is_above p q) k) (column r) (stack_top (is_above p r) n)
          (count_text (column q) (is_above p q) k ++ u) (count_text (column r) (is_above p r) n ++ stacks_of c p points w)
          (name_two k ∙ sym (name_two n)) (omega (arith, on)) (top_small (is_above p q) k) (omega (arith, low)) (top_small (is_above p r) n) all in
          not_apart p q r same.across (same_top (is_above p q) (is_above p r) k n same.down) first.0
      | inr none ↦ none_there p c q k points u w some on first.1 rest.1 (e ∙ past_none c p r points w none)
    ]

abbrev AreFew : Position → Player → List ℕ → Type 0
AreFew b p [] = Unit {0}
AreFew b p (q ∷ points) = (count b p q < 2 ^ 64) × AreFew b p points

same_stacks : (p : Player) (b c : Position) (points : List ℕ) (u w : List ℕ) → are_apart p points ≡ true → AreFew b p points → AreFew c p points
    → stacks_of b p points u ≡ stacks_of c p points w → (map (count b p) points ≡ map (count c p) points) × (u ≡ w)
same_stacks p b c [] u w fit fb fc e = (refl, ap (drop 4) e)
same_stacks p b c (q ∷ points) u w fit fb fc e =
    let fits = and_parts (nat_le (column q) 600) (list_all (is_apart p q) points && are_apart p points) fit in
    let apart = and_parts (list_all (is_apart p q) points) (are_apart p points) fits.1 in
    let on : column q ≤ 600 = leb-true (column q) 600 fits.0 in
    let j = count b p q in
    let k = count c p q in
    elim (cases_lt 0 j) [
      | inl sj ↦ elim (cases_lt 0 k) [
        | inl sk ↦ let all = sym (some_stack (column q) (is_above p q) j (stacks_of b p points u) sj)
            ∙ (sym (next_stack b p q points u) ∙ (e ∙ (next_stack c p q points w
            ∙ some_stack (column q) (is_above p q) k (stacks_of c p points w) sk))) in
            let same = shape_alike (stack_name j) (stack_name k) (column q) (stack_top (is_above p q) j) (column q) (stack_top (is_above p q) k)
            (count_text (column q) (is_above p q) j ++ stacks_of b p points u) (count_text (column q) (is_above p q) k ++ stacks_of c p points w)
            (name_two j ∙ sym (name_two k)) (omega (arith, on)) (top_small (is_above p q) j) (omega (arith, on)) (top_small (is_above p q) k) all in
            let counts = same_count (column q) (is_above p q) j k (stacks_of b p points u) (stacks_of c p points w) fb.0 fc.0
            (same_drawn j k sj sk same.name) (second b p points u) (second c p points w) same.rest in
            let rest = same_stacks p b c points u w apart.1 fb.1 fc.1 counts.1 in
            (ap (λ n. n ∷ map (count b p) points) counts.0 ∙ ap (λ l. k ∷ l) rest.0, rest.1)
        | inr nk ↦ absurd (none_there p c q j points (stacks_of b p points u) w sj on apart.0 apart.1
            (sym (next_stack b p q points u) ∙ (e ∙ past_none c p q points w nk)))
      ]
      | inr nj ↦ elim (cases_lt 0 k) [
        | inl sk ↦ absurd (none_there p b q k points (stacks_of c p points w) u sk on apart.0 apart.1
            (sym (next_stack c p q points w) ∙ (sym e ∙ past_none b p q points u nj)))
        | inr nk ↦ let rest = same_stacks p b c points u w apart.1 fb.1 fc.1
            (sym (past_none b p q points u nj) ∙ (e ∙ past_none c p q points w nk)) in
            let none : j ≡ k = omega (arith, nj, nk) in
            (ap (λ n. n ∷ map (count b p) points) none ∙ ap (λ l. k ∷ l) rest.0, rest.1)
      ]
    ]

few : (xs : List ℕ) (q : ℕ) → sum xs ≡ 15 → get_or xs q 0 < 2 ^ 64
few xs q fifteen = elim (cases_lt q (length xs)) [
  | inl within ↦ omega (arith, get_or-le-sum_by (λ x. x) xs q 0 within, fifteen)
  | inr past ↦ omega (arith, get_or_past xs q 0 past)
]

all_few : (b : Position) (p : Player) (points : List ℕ) → IsPosition b → AreFew b p points
all_few b p [] h = tt
all_few b X (q ∷ points) h = (few b.x q h.x_fifteen, all_few b X points h)
all_few b O (q ∷ points) h = (few b.o q h.o_fifteen, all_few b O points h)

-- counts are those of the points that are drawn
same_points : (xs ys : List ℕ) → length xs ≡ 26 → length ys ≡ 26 → map (λ q. get_or xs q 0) all_points ≡ map (λ q. get_or ys q 0) all_points
    → xs ≡ ys
same_points xs ys h k e = same_number_lists xs ys (omega (arith, h, k)) each
  where
    each : (n : ℕ) → n < length xs → get_or xs n 0 ≡ get_or ys n 0
    each n within =
        let few : n < 26 = omega (arith, within, h) in
        sym (get_or-map-range_with_len (λ q. get_or xs q 0) 0 26 n n 0 few (omega arith))
        ∙ (ap (λ l. get_or l n 0) e ∙ get_or-map-range_with_len (λ q. get_or ys q 0) 0 26 n n 0 few (omega arith))

pieces : (a b gx sx go so end cube table captions scores : List ℕ)
    → a ++ b ++ (gx ++ sx ++ end) ++ (go ++ so ++ end) ++ cube ++ table ++ captions ++ scores
    ≡ a ++ (b ++ (gx ++ (sx ++ (end ++ (go ++ (so ++ (end ++ (cube ++ (table ++ (captions ++ scores))))))))))
pieces a b gx sx go so end cube table captions scores = simp append_assoc

-- what is drawn behind the checkers
abbrev pub behind : State → List ℕ
behind s = cube_text s.phase s.cube ++ (table_text s.phase (passes s) ++ (captions_text s ++ scores_text s))

drawing_before : (s : State) (r : Player) → drawing s r
    ≡ element_text (Shape (codes "board") 0 0) ++ (element_text (Shape (numbers_name r) 0 0)
    ++ (group_start (class_of X) ++ stacks_of s.board X all_points (group_start (class_of O) ++ stacks_of s.board O all_points (behind s))))
unfolding drawing position_text board_text checkers_text stacks_text group_end
drawing_before s r =
    pieces (element_text (Shape (codes "board") 0 0)) (element_text (Shape (numbers_name r) 0 0)) (group_start (class_of X))
    (flat_map (stack s.board X) all_points) (group_start (class_of O)) (flat_map (stack s.board O) all_points) (codes "</g>")
    (cube_text s.phase s.cube) (table_text s.phase (passes s)) (captions_text s) (scores_text s)

name_long : (r : Player) → length (numbers_name r) ≡ 9
unfolding numbers_name
name_long X = refl
name_long O = refl

pub record SameDrawing (s t : State) : Type 0 where
  pub board : s.board ≡ t.board
  pub rest : behind s ≡ behind t

pub board_told : (s t : State) (r q : Player) → IsPosition s.board → IsPosition t.board → drawing s r ≡ drawing t q → SameDrawing s t
board_told s t r q sb tb e =
    let x_and : (s : State) → List ℕ = λ s. group_start (class_of X)
    ++ stacks_of s.board X all_points (group_start (class_of O) ++ stacks_of s.board O all_points (behind s)) in
    let o_and : (s : State) → List ℕ = λ s. group_start (class_of O) ++ stacks_of s.board O all_points (behind s) in
    let numbers = append_cancel_left (element_text (Shape (codes "board") 0 0)) (element_text (Shape (numbers_name r) 0 0) ++ x_and s)
    (element_text (Shape (numbers_name q) 0 0) ++ x_and t) (sym (drawing_before s r) ∙ (e ∙ drawing_before t q)) in
    let named = shape_alike (numbers_name r) (numbers_name q) 0 0 0 0 (x_and s) (x_and t) (name_long r ∙ sym (name_long q))
    (omega arith) (omega arith) (omega arith) (omega arith) numbers in
    let x_stacks = append_cancel_left (group_start (class_of X)) (stacks_of s.board X all_points (o_and s))
    (stacks_of t.board X all_points (o_and t)) named.rest in
    let x = same_stacks X s.board t.board all_points (o_and s) (o_and t) (all_apart X) (all_few s.board X all_points sb)
    (all_few t.board X all_points tb) x_stacks in
    let o_stacks = append_cancel_left (group_start (class_of O)) (stacks_of s.board O all_points (behind s))
    (stacks_of t.board O all_points (behind t)) x.1 in
    let o = same_stacks O s.board t.board all_points (behind s) (behind t) (all_apart O) (all_few s.board O all_points sb)
    (all_few t.board O all_points tb) o_stacks in
    record {
      board = boards_of s.board t.board (same_points s.board.x t.board.x sb.x_points tb.x_points x.0)
          (same_points s.board.o t.board.o sb.o_points tb.o_points o.0);
      rest = o.1;
    }

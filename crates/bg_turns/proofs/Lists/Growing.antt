-- A list of turns that grows by the lists behind some steps.
use Rattle.std.proofs.Common.{◌≡◌, ℕ, ◌+◌, ◌-◌, ◌<◌, ◌≤◌, true, false, List, [], ◌∷◌, ◌++◌, length, take, refl, sym, ◌∙◌, ap, arith, append_assoc}
use Rattle.std.proofs.lemmas.List.{map-append, append-nil, take_more_set}
use Rattle.std.proofs.Math.ListN.{set}
use Rattle.bg_board.specs.FromTo.{FromTo}
use Rattle.bg_turns.specs.declared.mover_counts.MoverCounts.{MoverCounts}
use Rattle.bg_turns.specs.MoverCounts.{step_of, can, after, begin, at_each, one_die, tree, behind}
use Rattle.bg_turns.proofs.Lists.OneDie.{tree-end}
use Rattle.bg_turns.proofs.Lists.Listed.{at_each-at, at_each-none, one_die-no, one_die-yes}
use Rattle.std.proofs.Common.{inl}

pub behind-begin : (front : List FromTo) (step : FromTo) (rests : List (List FromTo)) → behind front (begin step rests) ≡ behind (front ++ step ∷ []) rests
behind-begin front step [] = refl
behind-begin front step (rest ∷ rests) =
    let first : front ++ (step ∷ rest) ≡ (front ++ step ∷ []) ++ rest = sym (append_assoc front (step ∷ []) rest) in
    let more = behind-begin front step rests in
    cc

pub behind-empty : (front : List FromTo) → behind front ([] ∷ []) ≡ front ∷ []
behind-empty front = ap (λ x. x ∷ []) (append-nil front)

-- the list with what is left, before and after a point
pub grown : (f : ℕ → List (List FromTo)) (from : ℕ) (front : List FromTo) (items items' total : List (List FromTo)) → 0 < from → items' ≡ items ++ behind front (f from) → items ++ behind front (at_each f from) ≡ total → items' ++ behind front (at_each f (from - 1)) ≡ total
grown f from front items items' total some is so_far =
    rw is
    (append_assoc items (behind front (f from)) (behind front (at_each f (from - 1)))
    ∙ (ap (λ xs. items ++ xs) (sym (map-append (λ rest. front ++ rest) (f from) (at_each f (from - 1))))
    ∙ (ap (λ xs. items ++ behind front xs) (sym (at_each-at f from some)) ∙ so_far)))

-- one die more, from a point
module _ (r : MoverCounts) (die from left played : ℕ) (fronts : List FromTo) (items items' total : List (List FromTo)) (some : 0 < from) (so_far : items ++ behind (take played fronts) (at_each (one_die r die (tree die (left - 1))) from) ≡ total) where
  module _ (step : FromTo) (room : played < length fronts) (passed : can r from die ≡ true) (is_step : step ≡ step_of from die) where
    longer : take (played + 1) (set fronts played step) ≡ take played fronts ++ step_of from die ∷ []
    longer = take_more_set fronts played step room ∙ ap (λ (s : FromTo). take played fronts ++ s ∷ []) is_step

    pub add_branch : items' ≡ items ++ behind (take (played + 1) (set fronts played step)) (tree die (left - 1) (after r step.from step.to)) → items' ++ behind (take played fronts) (at_each (one_die r die (tree die (left - 1))) (from - 1)) ≡ total
    add_branch is =
        let there : tree die (left - 1) (after r step.from step.to) ≡ tree die (left - 1) (after r from (from - die)) =
        ap (λ (s : FromTo). tree die (left - 1) (after r s.from s.to)) is_step in
        grown (one_die r die (tree die (left - 1))) from (take played fronts) items items' total some
        (is ∙ ap (λ xs. items ++ xs)
        (ap (λ front. behind front (tree die (left - 1) (after r step.from step.to))) longer
        ∙ (ap (λ xs. behind (take played fronts ++ step_of from die ∷ []) xs) there
        ∙ (sym (behind-begin (take played fronts) (step_of from die) (tree die (left - 1) (after r from (from - die))))
        ∙ ap (λ xs. behind (take played fronts) xs) (sym (one_die-yes r die (tree die (left - 1)) from passed))))))
        so_far

    pub add_leaf : left ≡ 1 → items' ≡ items ++ take (played + 1) (set fronts played step) ∷ [] → items' ++ behind (take played fronts) (at_each (one_die r die (tree die (left - 1))) (from - 1)) ≡ total
    add_leaf last is =
        let none : left - 1 ≡ 0 = omega arith in
        let ends = tree-end die (left - 1) (after r step.from step.to) (inl none) in
        add_branch
        (is ∙ ap (λ xs. items ++ xs)
        (sym (behind-empty (take (played + 1) (set fronts played step)))
        ∙ ap (λ xs. behind (take (played + 1) (set fronts played step)) xs) (sym ends)))

-- the loop is over
pub finished : (f : ℕ → List (List FromTo)) (from : ℕ) (front : List FromTo) (items total : List (List FromTo)) → from ≤ 0 → items ++ behind front (at_each f from) ≡ total → items ≡ total
finished f from front items total over so_far =
    let none : from ≡ 0 = omega arith in
    let last : at_each f from ≡ [] = ap (λ n. at_each f n) none ∙ at_each-none f in
    sym (append-nil items) ∙ (ap (λ xs. items ++ behind front xs) (sym last) ∙ so_far)

-- one step from a point
module _ (r : MoverCounts) (die from played : ℕ) (rest : MoverCounts → List (List FromTo)) (fronts : List FromTo) (items items' : List (List FromTo)) where
  pub step_nothing : can r from die ≡ false → items' ≡ items → items' ≡ items ++ behind (take played fronts) (one_die r die rest from)
  step_nothing fails is = is ∙ (sym (append-nil items) ∙ ap (λ xs. items ++ behind (take played fronts) xs) (sym (one_die-no r die rest from fails)))

  pub step_lists : (step : FromTo) (next : MoverCounts → List (List FromTo)) (whole : List (List FromTo)) → played < length fronts → whole ≡ begin (step_of from die) (next (after r from (from - die))) → step ≡ step_of from die → items' ≡ items ++ behind (take (played + 1) (set fronts played step)) (next (after r step.from step.to)) → items' ≡ items ++ behind (take played fronts) whole
  step_lists step next whole room begins is_step is =
      let longer : take (played + 1) (set fronts played step) ≡ take played fronts ++ step_of from die ∷ [] = take_more_set fronts played step room ∙ ap (λ (s : FromTo). take played fronts ++ s ∷ []) is_step in
      is ∙ ap (λ xs. items ++ xs)
      (ap (λ front. behind front (next (after r step.from step.to))) longer
      ∙ (ap (λ (s : FromTo). behind (take played fronts ++ step_of from die ∷ []) (next (after r s.from s.to))) is_step
      ∙ (sym (behind-begin (take played fronts) (step_of from die) (next (after r from (from - die))))
      ∙ ap (λ xs. behind (take played fronts) xs) (sym begins))))

-- two parts make the lists at a point
pub two_parts : (front : List FromTo) (a b : List (List FromTo)) (items between items' : List (List FromTo)) → between ≡ items ++ behind front a → items' ≡ between ++ behind front b → items' ≡ items ++ behind front (a ++ b)
two_parts front a b items between items' first second =
    second ∙ (ap (λ xs. xs ++ behind front b) first
    ∙ (append_assoc items (behind front a) (behind front b) ∙ ap (λ xs. items ++ xs) (sym (map-append (λ rest. front ++ rest) a b))))

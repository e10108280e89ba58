-- A run goes on by one event.
use Rattle.std.proofs.Common.{◌≡◌, ℕ, ◌+◌, ◌≤◌, Bool, true, false, List, [], ◌∷◌, ◌++◌, refl, sym, ap, subst, ◌∙◌, arith, length-append, cond}
use Rattle.std.specs.Prelude.{count_by}
use Rattle.std.proofs.lemmas.List.Sums.{sum_by-append}
use Rattle.bg_protocol.specs.Worlds.Calls.{Calls}
use Rattle.bg_protocol.specs.Worlds.Views.{WorldView}
use Rattle.bg_protocol.specs.Worlds.WorldRuns.{CallsAll, Reports, is_fault, is_memory}
use Rattle.bg_protocol.specs.declared.events.Event.{Event}
use Rattle.bg_protocol.specs.declared.events.Outcome.{Outcome}
use Rattle.bg_protocol.specs.declared.worlds.runs.RunReport.{RunReport}

-- the calls of one event more
pub calls_more : (link_honest keepers_honest : Type 0) (old : WorldView) (events : List Event) (outcomes : List Outcome)
    (mid : WorldView) (event : Event) (outcome : Outcome) (new : WorldView)
    → CallsAll link_honest keepers_honest old events outcomes mid → Calls link_honest keepers_honest mid event outcome new
    → CallsAll link_honest keepers_honest old (events ++ event ∷ []) (outcomes ++ outcome ∷ []) new
calls_more lh kh old [] [] mid e o new h c = (new, subst (λ (w : WorldView). Calls lh kh w e o new) h c, refl)
calls_more lh kh old [] (x ∷ os) mid e o new h c = absurd h
calls_more lh kh old (y ∷ es) [] mid e o new h c = absurd h
calls_more lh kh old (y ∷ es) (x ∷ os) mid e o new h c = (h.0, h.1, calls_more lh kh h.0 es os mid e o new h.2 c)

count_by-append : (p : Outcome → Bool) (xs ys : List Outcome) → count_by p (xs ++ ys) ≡ count_by p xs + count_by p ys
count_by-append p xs ys = sum_by-append (λ x. cond (p x) 1 0) xs ys

-- the report of one outcome more
pub reports_more : (before after : RunReport) (events : List Event) (outcomes : List Outcome) (event : Event) (outcome : Outcome)
    → Reports before events outcomes → after.done ≡ before.done + 1
    → after.memory ≡ before.memory + count_by is_memory (outcome ∷ [])
    → after.faults ≡ before.faults + count_by is_fault (outcome ∷ [])
    → Reports after (events ++ event ∷ []) (outcomes ++ outcome ∷ [])
reports_more before after events outcomes event outcome r done memory faults = record {
  done = omega (arith, r.done, done, length-append events (event ∷ []));
  memory = memory ∙ ap (λ (n : ℕ). n + count_by is_memory (outcome ∷ [])) r.memory ∙ sym (count_by-append is_memory outcomes (outcome ∷ []));
  faults = faults ∙ ap (λ (n : ℕ). n + count_by is_fault (outcome ∷ [])) r.faults ∙ sym (count_by-append is_fault outcomes (outcome ∷ []));
}

-- one outcome counts at most once
pub at_most_one : (p : Outcome → Bool) (outcome : Outcome) → count_by p (outcome ∷ []) ≤ 1
at_most_one p outcome = go (p outcome)
  where
    go : (b : Bool) → 0 + cond b 1 0 ≤ 1
    go true = omega arith
    go false = omega arith

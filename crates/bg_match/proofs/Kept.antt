-- What a record keeps.
use Rattle.std.proofs.Common.{◌≡◌, ℕ, zero, suc, ◌-◌, ◌<◌, ◌≤◌, Option, Some, option_map, map, sub-one, List, [], ◌∷◌, ◌++◌, length, length-append, take, slice_get, refl, sym, subst, ◌∙◌, arith, inl, inr, ◌⊎◌}
use Rattle.std.proofs.lemmas.List.{take-append-le, length-map, map-append, take-map, take-take, length-take-le}
use Rattle.std.proofs.lemmas.Option.{slice_get-map}
use Rattle.std.proofs.Math.Seq.{take-append_seam}
use Rattle.bg_match.specs.Terms.{Terms, match_length}
use Rattle.bg_board.specs.declared.players.Player.{Player}
use Rattle.bg_match.specs.Limits.{most_entries, shortest_match, longest_match}
use Rattle.bg_match.specs.declared.entries.Entry.{Entry}
use Rattle.bg_match.specs.declared.made.Made.{Made}
use Rattle.bg_match.specs.Actor.{actor_of, seat_of}
use Rattle.bg_match.specs.State.{State, start_of}
use Rattle.bg_match.specs.Follows.{Follows}
use Rattle.bg_match.specs.Match.{Leads, StandsAt, LeadsWithScores, scores_then, IsMarkedByScores, SeatAfter, IsKept, IsLog, at_number}
use Rattle.bg_match.proofs.Crawford.{marks_crawford}
use Rattle.bg_match.proofs.Runs.{Leads-push}

-- the scores before the games, as the entries go
with_scores : (s : State) (scores : List ℕ) (entries : List Entry) (t : State) → Leads s entries t → (all : List ℕ) × LeadsWithScores s scores entries t all
with_scores s scores [] t h = (scores, (h, refl))
with_scores s scores (e ∷ rest) t h =
    let r = with_scores h.0 (scores_then s h.0 scores) rest t h.2 in
    (r.0, (h.0, h.1, r.1))

pub marked_by_scores : (terms : Terms) (entries : List Entry) (t : State) → StandsAt terms entries t → IsMarkedByScores terms entries t
marked_by_scores terms entries t h =
    let r = with_scores (start_of terms) (0 ∷ []) entries t h in
    (r.0, r.1, marks_crawford terms entries t r.0 r.1)

-- a match with no entry
pub IsKept-empty : (terms : Terms) → shortest_match ≤ match_length terms → match_length terms ≤ longest_match → IsKept terms [] [] (start_of terms)
IsKept-empty terms shortest longest = record {
  shortest = shortest;
  longest = longest;
  few = omega arith;
  stands = refl;
  marked = marked_by_scores terms [] (start_of terms) refl;
  made = λ i seat h. cc;
}

-- what is kept is a legal match
pub kept_log : (id spare : ℕ) (terms : Terms) (entries : List Entry) (seats : List (Option Player)) (t : State)
    → IsKept terms entries seats t → IsLog (record { id = id; terms = terms; entries = entries; spare = spare })
kept_log id spare terms entries seats t kept = record { points = (kept.shortest, kept.longest); legal = (kept.few, (t, kept.stands)) }

-- a list that is kept part by part, under a number
pub at_number-map : {X Y : Type 0} (f : X → Y) (xs : List X) (n : ℕ) → at_number (map f xs) n ≡ option_map f (at_number xs n)
at_number-map f xs zero = refl
at_number-map f xs (suc i) = slice_get-map f xs i

-- the seat that is kept under a number
pub SeatAfter-at_number : (terms : Terms) (entries : List Entry) (seats : List (Option Player)) (t : State) → IsKept terms entries seats t
    → (n : ℕ) (seat : Option Player) → at_number seats n ≡ Some seat → SeatAfter terms (take (n - 1) entries) seat
SeatAfter-at_number terms entries seats t kept zero seat h = absurd (cc)
SeatAfter-at_number terms entries seats t kept (suc i) seat h = rw sub-one (kept.made i seat h)

-- an element of a list with one more is that one, or stood there before
slice_get-push : {X : Type 0} (xs : List X) (x : X) (i : ℕ) (y : X) → slice_get (xs ++ x ∷ []) i ≡ Some y
    → ((i < length xs) × (slice_get xs i ≡ Some y)) ⊎ ((i ≡ length xs) × (y ≡ x))
slice_get-push [] x zero y h = inr (refl, cc)
slice_get-push [] x (suc i) y h = absurd (cc)
slice_get-push (w ∷ xs) x zero y h = inl (omega arith, h)
slice_get-push (w ∷ xs) x (suc i) y h = elim (slice_get-push xs x i y h) [
  | inl before ↦ inl (omega (arith, before.0), before.1)
  | inr last ↦ inr (omega (arith, last.0), last.1)
]

-- one more entry, made by the seat that acts
pub IsKept-push : (terms : Terms) (entries : List Entry) (seats : List (Option Player)) (s : State) (e : Entry) (t : State)
    → IsKept terms entries seats s → length seats ≡ length entries → length entries < most_entries
    → StandsAt terms (entries ++ e ∷ []) t
    → IsKept terms (entries ++ e ∷ []) (seats ++ seat_of (actor_of s) ∷ []) t
IsKept-push terms entries seats s e t kept same few stands = record {
  shortest = kept.shortest;
  longest = kept.longest;
  few = omega (arith, length-append entries (e ∷ []));
  stands = stands;
  marked = marked_by_scores terms (entries ++ e ∷ []) t stands;
  made = λ i seat h. elim (slice_get-push seats (seat_of (actor_of s)) i seat h) [
    | inl before ↦
        let within : i ≤ length entries = omega (arith, before.0) in
        rw (take-append-le i entries (e ∷ []) within) (kept.made i seat before.1)
    | inr last ↦
        let all : take i (entries ++ e ∷ []) ≡ entries = rw (last.0 ∙ same) (take-append_seam entries (e ∷ [])) in
        rw all (s, kept.stands, last.1)
  ];
}

-- one more entry that may follow, with the seat that acts
pub IsKept-made : (terms : Terms) (made : List Made) (m : Made) (s t : State)
    → IsKept terms (map (λ k. k.entry) made) (map (λ k. k.seat) made) s → length made < most_entries
    → m.seat ≡ seat_of (actor_of s) → Follows s m.entry t
    → IsKept terms (map (λ k. k.entry) (made ++ m ∷ [])) (map (λ k. k.seat) (made ++ m ∷ [])) t
IsKept-made terms made m s t kept few seat follows =
    let entries = map (λ (k : Made). k.entry) made in
    let seats = map (λ (k : Made). k.seat) made in
    let same : length seats ≡ length entries = length-map made (λ k. k.seat) ∙ sym (length-map made (λ k. k.entry)) in
    let stands = Leads-push (start_of terms) entries m.entry s t kept.stands follows in
    rw (map-append (λ (k : Made). k.entry), map-append (λ (k : Made). k.seat), seat)
    (IsKept-push terms entries seats s m.entry t kept same (rw length-map few) stands)

-- an element of a front is one of the list
slice_get-front : {X : Type 0} (n : ℕ) (xs : List X) (i : ℕ) (y : X) → slice_get (take n xs) i ≡ Some y
    → (i < n) × (slice_get xs i ≡ Some y)
slice_get-front zero xs i y h = absurd (cc)
slice_get-front (suc n) [] i y h = absurd (cc)
slice_get-front (suc n) (x ∷ xs) zero y h = (omega arith, h)
slice_get-front (suc n) (x ∷ xs) (suc i) y h =
    let r = slice_get-front n xs i y h in (omega (arith, r.0), r.1)

-- the first entries alone, where they lead to t
pub IsKept-front : (terms : Terms) (made : List Made) (n : ℕ) (s t : State)
    → IsKept terms (map (λ k. k.entry) made) (map (λ k. k.seat) made) s
    → n ≤ length (map (λ (k : Made). k.entry) made)
    → StandsAt terms (take n (map (λ k. k.entry) made)) t
    → IsKept terms (map (λ k. k.entry) (take n made)) (map (λ k. k.seat) (take n made)) t
IsKept-front terms made n s t kept within stands =
    let entries = map (λ (k : Made). k.entry) made in
    let seats = map (λ (k : Made). k.seat) made in
    let many : length (take n entries) ≡ n = length-take-le n entries within in
    subst (λ (l : List Entry). IsKept terms l (map (λ k. k.seat) (take n made)) t)
    (take-map (λ (k : Made). k.entry) n made)
    (subst (λ (l : List (Option Player)). IsKept terms (take n entries) l t) (take-map (λ (k : Made). k.seat) n made)
    (record {
      shortest = kept.shortest;
      longest = kept.longest;
      few = omega (arith, kept.few);
      stands = stands;
      marked = marked_by_scores terms (take n entries) t stands;
      made = λ i seat h.
          let at = slice_get-front n seats i seat h in
          let less : i ≤ n = omega (arith, at.0) in
          subst (λ (l : List Entry). SeatAfter terms l seat) (sym (take-take i n entries less))
          (kept.made i seat at.1);
    }))

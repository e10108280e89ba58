-- Parts are played one after the other.
use Rattle.std.proofs.Common.{◌≡◌, ℕ, zero, suc, ◌+◌, ◌<◌, ◌-◌, List, [], ◌∷◌, ◌++◌, length, take, drop, get_or}
use Rattle.std.proofs.Common.{append_assoc, refl, sym, subst, ap, ◌∙◌, arith}
use Rattle.std.proofs.Math.Seq.{drop-cons}
use Rattle.std.proofs.lemmas.List.{append-nil, take-append-drop, take_more}
use Rattle.bg_auto.specs.Rounds.{Moment, PlaysPart, PlaysParts, StopsAt, StopsIn, match_parts, round_parts}
use Rattle.bg_auto.specs.declared.loop_faults.LoopFault.{LoopFault}
use Rattle.bg_auto.specs.declared.round_schedule.Part.{Part}

module _ (lh kh : Type 0) where
  -- parts behind parts
  pub plays_both : (old : Moment) (xs ys : List Part) (mid new : Moment)
      → PlaysParts lh kh old xs mid → PlaysParts lh kh mid ys new → PlaysParts lh kh old (xs ++ ys) new
  plays_both old [] ys mid new first then = subst (λ (m : Moment). PlaysParts lh kh m ys new) first then
  plays_both old (x ∷ xs) ys mid new first then = (first.0, first.1, plays_both first.0 xs ys mid new first.2 then)

  -- one part more of a list
  pub plays_more : (old : Moment) (parts : List Part) (i : ℕ) (d : Part) (mid new : Moment) → i < length parts
      → PlaysParts lh kh old (take i parts) mid → PlaysPart lh kh mid (get_or parts i d) new
      → PlaysParts lh kh old (take (i + 1) parts) new
  plays_more old parts i d mid new below first last =
      let part = get_or parts i d in
      let one : PlaysParts lh kh mid (part ∷ []) new = (new, last, refl) in
      subst (λ (xs : List Part). PlaysParts lh kh old xs new) (sym (take_more parts i d below))
      (plays_both old (take i parts) (part ∷ []) mid new first one)

  -- the part of this index stops the match
  pub stops_here : (old : Moment) (parts : List Part) (i : ℕ) (d : Part) (mid : Moment) (why : LoopFault)
      → i < length parts → PlaysParts lh kh old (take i parts) mid → StopsAt lh kh mid (get_or parts i d) why
      → StopsIn lh kh old parts why
  stops_here old parts i d mid why below first stops = record {
    before = take i parts;
    at = get_or parts i d;
    behind = drop (suc i) parts;
    split = sym (take-append-drop i parts) ∙ ap (λ (xs : List Part). take i parts ++ xs) (drop-cons parts i d below);
    mid = mid;
    played = first;
    stops = stops;
  }

  -- the first parts are played, and the next ones stop the match
  pub stops_later : (old mid : Moment) (all xs ys zs : List Part) (why : LoopFault) → all ≡ xs ++ ys ++ zs
      → PlaysParts lh kh old xs mid → StopsIn lh kh mid ys why → StopsIn lh kh old all why
  stops_later old mid all xs ys zs why split first stops = record {
    before = xs ++ stops.before;
    at = stops.at;
    behind = stops.behind ++ zs;
    split = split ∙ ap (λ (l : List Part). xs ++ l ++ zs) stops.split ∙ joined xs stops.before stops.at stops.behind zs;
    mid = stops.mid;
    played = plays_both old xs stops.before mid stops.mid first stops.played;
    stops = stops.stops;
  } where
    joined : (xs bs : List Part) (at : Part) (cs zs : List Part)
        → xs ++ (bs ++ at ∷ cs) ++ zs ≡ (xs ++ bs) ++ at ∷ (cs ++ zs)
    joined xs bs at cs zs =
        append_assoc xs (bs ++ at ∷ cs) zs ∙ ap (λ (l : List Part). xs ++ l) (append_assoc bs (at ∷ cs) zs)
        ∙ sym (append_assoc xs bs (at ∷ cs ++ zs))

-- the parts of fewer rounds come first
pub fewer_first : (k more n : ℕ) → n ≡ more + k → (rest : List Part) × (match_parts n ≡ match_parts k ++ rest)
fewer_first k zero n is =
    let same : n ≡ k = omega (arith, is) in
    ([], ap match_parts same ∙ sym (append-nil (match_parts k)))
fewer_first k (suc more) n is =
    let before = fewer_first k more (more + k) refl in
    let last : n ≡ suc (more + k) = omega (arith, is) in (
      before.0 ++ round_parts,
      ap match_parts last ∙ ap (λ (l : List Part). l ++ round_parts) before.1
          ∙ append_assoc (match_parts k) before.0 round_parts,
    )

module _ (lh kh : Type 0) where
  -- the match stops before the first round
  pub stops_first : (old : Moment) (rounds : ℕ) (why : LoopFault) → StopsIn lh kh old (match_parts 0) why
      → StopsIn lh kh old (match_parts rounds) why
  stops_first old rounds why stops =
      let rest = fewer_first 0 rounds rounds (omega arith) in
      stops_later lh kh old old (match_parts rounds) [] (match_parts 0) rest.0 why rest.1 refl stops

  -- so many rounds are played, and the next one stops the match
  pub stops_in_round : (old mid : Moment) (done rounds : ℕ) (why : LoopFault) → done < rounds
      → PlaysParts lh kh old (match_parts done) mid → StopsIn lh kh mid round_parts why
      → StopsIn lh kh old (match_parts rounds) why
  stops_in_round old mid done rounds why below first stops =
      let rest = fewer_first (suc done) (rounds - suc done) rounds (omega arith) in
      stops_later lh kh old mid (match_parts rounds) (match_parts done) round_parts rest.0 why rest.1 first stops

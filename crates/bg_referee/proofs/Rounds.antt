-- Who is behind, once round the parties.
use Rattle.std.proofs.Common.{◌≡◌, ℕ, zero, suc, ◌+◌, ◌<◌, ◌≤◌, nat_lt, Bool, true, false, Option, Some, None, List, [], ◌∷◌, ◌++◌, length, take, if◌then◌else◌, refl, sym, ◌∙◌, ap, arith, append_assoc}
use Rattle.std.specs.Prelude.{All}
use Rattle.std.specs.List.{AllZip}
use Rattle.std.proofs.lemmas.Bool.Decides.{nat_tests}
use Rattle.std.proofs.lemmas.List.{length-take}
use Rattle.bg_wire.specs.declared.packets.Packet.{Packet}
use Rattle.bg_referee.specs.Referee.{RefereeView}
use Rattle.bg_referee.specs.Ticks.{IsPush, RefereeTicks}
use Rattle.bg_referee.specs.Sessions.{SessionsView, parties_from, behind, before_if_behind, told_to, pushed, all_behind}

-- as many as there is room for
pub take_again : {X : Type 0} (n : ℕ) (xs ys : List X) → take n (take n xs ++ ys) ≡ take n (xs ++ ys)
take_again zero xs ys = refl
take_again (suc n) [] ys = refl
take_again {X} (suc n) (x ∷ xs) ys = ap (λ (l : List X). x ∷ l) (take_again n xs ys)

pub take_full : {X : Type 0} (n : ℕ) (xs ys : List X) → length xs ≡ n → take n (xs ++ ys) ≡ xs
take_full zero [] ys h = refl
take_full zero (x ∷ xs) ys h = absurd (omega arith)
take_full (suc n) [] ys h = absurd (omega arith)
take_full {X} (suc n) (x ∷ xs) ys h = ap (λ (l : List X). x ∷ l) (take_full n xs ys (omega arith))

pub take_short : {X : Type 0} (n : ℕ) (xs : List X) → length xs ≤ n → take n xs ≡ xs
take_short zero [] h = refl
take_short zero (x ∷ xs) h = absurd (omega arith)
take_short (suc n) [] h = refl
take_short {X} (suc n) (x ∷ xs) h = ap (λ (l : List X). x ∷ l) (take_short n xs (omega arith))

first_append : (saved party : ℕ) (told : Option ℕ) (xs ys : List (ℕ × ℕ)) → before_if_behind saved party told (xs ++ ys) ≡ before_if_behind saved party told xs ++ ys
first_append saved party None xs ys = refl
first_append saved party (Some n) xs ys = by_test (nat_lt n saved)
  where
    by_test : (b : Bool) → (if b then (party, n) ∷ (xs ++ ys) else xs ++ ys) ≡ (if b then (party, n) ∷ xs else xs) ++ ys
    by_test true = refl
    by_test false = refl

pub behind_append : (s : SessionsView) (saved : ℕ) (xs ys : List ℕ) → behind s saved (xs ++ ys) ≡ behind s saved xs ++ behind s saved ys
behind_append s saved [] ys = refl
behind_append s saved (p ∷ xs) ys =
    ap (before_if_behind saved p (told_to s p)) (behind_append s saved xs ys) ∙ first_append saved p (told_to s p) (behind s saved xs) (behind s saved ys)

parties_more : (first n : ℕ) → parties_from first (suc n) ≡ parties_from first n ++ (first + n) ∷ []
parties_more first zero = let same : first + 0 ≡ first = omega arith in rw same refl
parties_more first (suc n) =
    let same : first + suc n ≡ first + 1 + n = omega arith in
    rw same (ap (λ (l : List ℕ). first ∷ l) (parties_more (first + 1) n))

-- one more party
pub round_more : (s : SessionsView) (saved : ℕ) (front found new : List (ℕ × ℕ)) (first n m party : ℕ) → party ≡ first + n → m ≡ n + 1
    → found ≡ take 2 (front ++ behind s saved (parties_from first n)) → new ≡ take 2 (found ++ behind s saved (party ∷ []))
    → new ≡ take 2 (front ++ behind s saved (parties_from first m))
round_more s saved front found new first n m party at next so_far add =
    let steps : m ≡ suc n = omega arith in
    let all = behind s saved (parties_from first n) in
    add ∙ ap (λ (l : List (ℕ × ℕ)). take 2 (l ++ behind s saved (party ∷ []))) so_far
    ∙ take_again 2 (front ++ all) (behind s saved (party ∷ []))
    ∙ ap (take 2) (append_assoc front all (behind s saved (party ∷ []))
    ∙ ap (λ (l : List (ℕ × ℕ)). front ++ l) (sym (behind_append s saved (parties_from first n) (party ∷ []))
    ∙ ap (λ (p : ℕ). behind s saved (parties_from first n ++ p ∷ [])) at
    ∙ ap (behind s saved) (sym (parties_more first n) ∙ ap (parties_from first) (sym steps))))

all_none : {X : Type 0} (P : X → Type 0) → All P []
all_none P k d less = absurd (omega arith)

all_more : {X : Type 0} (P : X → Type 0) (x : X) (xs : List X) → P x → All P xs → All P (x ∷ xs)
all_more P x xs one all zero d less = one
all_more P x xs one all (suc k) d less = all k d (omega arith)

all_rest : {X : Type 0} (P : X → Type 0) (x : X) (xs : List X) → All P (x ∷ xs) → All P xs
all_rest P x xs all k d less = all (suc k) d (omega arith)

all_append : {X : Type 0} (P : X → Type 0) (xs ys : List X) → All P xs → All P ys → All P (xs ++ ys)
all_append P [] ys all also = also
all_append P (x ∷ xs) ys all also = all_more P x (xs ++ ys) (all 0 x (omega arith)) (all_append P xs ys (all_rest P x xs all) also)

all_taken : {X : Type 0} (P : X → Type 0) (n : ℕ) (xs : List X) → All P xs → All P (take n xs)
all_taken P zero xs all = all_none P
all_taken P (suc n) [] all = all_none P
all_taken P (suc n) (x ∷ xs) all = all_more P x (take n xs) (all 0 x (omega arith)) (all_taken P n xs (all_rest P x xs all))

first_below : (saved party : ℕ) (told : Option ℕ) (rest : List (ℕ × ℕ)) → All (λ (one : ℕ × ℕ). one.1 < saved) rest
    → All (λ (one : ℕ × ℕ). one.1 < saved) (before_if_behind saved party told rest)
first_below saved party None rest all = all
first_below saved party (Some n) rest all = by_test (nat_lt n saved) refl
  where
    by_test : (b : Bool) → nat_lt n saved ≡ b → All (λ (one : ℕ × ℕ). one.1 < saved) (if b then (party, n) ∷ rest else rest)
    by_test true test = all_more (λ (one : ℕ × ℕ). one.1 < saved) (party, n) rest (grind (arith, nat_tests)) all
    by_test false test = all

behind_below : (s : SessionsView) (saved : ℕ) (parties : List ℕ) → All (λ (one : ℕ × ℕ). one.1 < saved) (behind s saved parties)
behind_below s saved [] = all_none (λ (one : ℕ × ℕ). one.1 < saved)
behind_below s saved (p ∷ rest) = first_below saved p (told_to s p) (behind s saved rest) (behind_below s saved rest)

-- a tick sends two packets at most
zipped : {A B : Type 0} (R : A → B → Type 0) (xs : List A) (ys : List B) → AllZip R xs ys → length ys ≡ length xs
zipped R [] [] all = refl
zipped R [] (y ∷ ys) all = absurd all
zipped R (x ∷ xs) [] all = absurd all
zipped R (x ∷ xs) (y ∷ ys) all = ap suc (zipped R xs ys all.1)

pub few_sent : (old new : RefereeView) (sent : List (ℕ × Packet)) → RefereeTicks old sent new → length sent ≤ 2
few_sent old new sent h =
    let many = zipped (IsPush old) (pushed old.sessions old.saved) sent h.pushes in
    let taken = length-take 2 (all_behind old.sessions old.saved) in
    omega (many, taken, arith)

-- whoever is sent entries lacks some
pub pushed_below : (s : SessionsView) (saved : ℕ) (ps qs : List ℕ) → All (λ (one : ℕ × ℕ). one.1 < saved) (take 2 (behind s saved ps ++ behind s saved qs))
pushed_below s saved ps qs =
    let P = λ (one : ℕ × ℕ). one.1 < saved in
    all_taken P 2 (behind s saved ps ++ behind s saved qs) (all_append P (behind s saved ps) (behind s saved qs) (behind_below s saved ps) (behind_below s saved qs))

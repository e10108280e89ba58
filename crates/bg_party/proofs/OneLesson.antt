-- A packet teaches a follower one thing, want of memory aside.
use Rattle.std.proofs.Common.{◌≡◌, ◌≢◌, ◌⊎◌, inl, inr, ℕ, zero, suc, ◌+◌, ◌-◌, ◌<◌, ◌≤◌, Some, List, [], ◌∷◌, ◌++◌}
use Rattle.std.proofs.Common.{take, drop, refl, sym, ◌∙◌, ap, subst, arith, append_assoc}
use Rattle.std.proofs.lemmas.List.{append-nil, take-append-drop}
use Rattle.bg_match.specs.Terms.{Terms, rules_of}
use Rattle.bg_match.specs.declared.entries.Entry.{Entry}
use Rattle.bg_match.specs.Match.{IsLegalRecord, IsFirstIllegal, at_number}
use Rattle.bg_match.proofs.Legal.{legal_fronts}
use Rattle.bg_wire.specs.Packets.PacketText.{IsOfMatch}
use Rattle.bg_wire.specs.declared.packets.Packet.{Packet}
use Rattle.bg_wire.specs.declared.packets.Packet.TheVariants as packet
use Rattle.bg_wire.proofs.Numbers.{get_take}
use Rattle.bg_party.specs.declared.outcomes.Learned.{Learned}
use Rattle.bg_party.specs.declared.outcomes.Learned.TheVariants as learned
use Rattle.bg_party.specs.Views.{FollowerView}
use Rattle.bg_party.specs.Learns.{Agrees, IsConflict, FollowsFor, Teaches, TeachesWithin, Learns, TeachesOneThing, coming, new_entries}

nat_order : (a b : ℕ) → (a < b) ⊎ (a ≡ b) ⊎ (b < a)
nat_order zero zero = inr (inl refl)
nat_order zero (suc b) = inl (omega arith)
nat_order (suc a) zero = inr (inr (omega arith))
nat_order (suc a) (suc b) =
    elim (nat_order a b) [
      | inl p ↦ inl
          (omega arith)
      | inr q ↦ elim q [ inl p ↦ inr (inl (ap suc p)) | inr p ↦ inr (inr (omega arith)) ]
    ]

take_take : (n k : ℕ) (xs : List Entry) → n ≤ k → take n (take k xs) ≡ take n xs
take_take zero k xs within = refl
take_take (suc n) zero xs within = absurd (omega arith)
take_take (suc n) (suc k) [] within = refl
take_take (suc n) (suc k) (x ∷ xs) within = ap (λ (l : List Entry). x ∷ l) (take_take n k xs (omega arith))

-- a front part of a legal record is legal
front_legal : (m : Terms) (n k : ℕ) (xs : List Entry) → n ≤ k → IsLegalRecord m (take k xs) → IsLegalRecord m (take n xs)
front_legal m n k xs within legal =
    subst (IsLegalRecord m) (take_take n k xs within)
    (legal_fronts m (take n (take k xs)) (drop n (take k xs))
    (subst (IsLegalRecord m) (sym (take-append-drop n (take k xs))) legal))

-- one entry is the first that does not follow
no_earlier : (m : Terms) (n k : ℕ) (xs : List Entry) → IsFirstIllegal m xs n → IsFirstIllegal m xs k → n < k → ⊥
no_earlier m n k xs h j less = h.illegal (front_legal m n (k - 1) xs (let first = j.first in omega arith) j.before)

one_illegal : (m : Terms) (n k : ℕ) (xs : List Entry) → IsFirstIllegal m xs n → IsFirstIllegal m xs k → n ≡ k
one_illegal m n k xs h j = elim (nat_order n k) [
  | inl less ↦ absurd (no_earlier m n k xs h j less)
  | inr rest ↦ elim rest [ inl same ↦ same | inr more ↦ absurd (no_earlier m k n xs j h more) ]
]

-- where one entry does not follow, not all do
not_all : (m : Terms) (n : ℕ) (xs : List Entry) → IsFirstIllegal m xs n → IsLegalRecord m xs → ⊥
not_all m n xs h legal =
    h.illegal (legal_fronts m (take n xs) (drop n xs) (subst (IsLegalRecord m) (sym (take-append-drop n xs)) legal))

-- what agrees has no conflict
no_conflict : (entries : List Entry) (start n : ℕ) (list : List Entry) → IsConflict entries start list n
    → Agrees entries start list → ⊥
no_conflict entries start n list h agrees =
    h.5 (subst (λ (m : ℕ). at_number entries m ≡ Some h.1) (sym h.2) (agrees h.0 h.1 h.4 (omega (arith, h.2, h.3))))

no_earlier_conflict : (entries : List Entry) (start n k : ℕ) (list : List Entry) (h : IsConflict entries start list n)
    (j : IsConflict entries start list k) → h.0 < j.0 → ⊥
no_earlier_conflict entries start n k list h j less =
    let at = j.6 h.0 h.1 (get_take j.0 list h.0 less ∙ h.4) (omega (arith, h.2, h.3)) in
    h.5 (subst (λ (m : ℕ). at_number entries m ≡ Some h.1) (sym h.2) at)

one_conflict : (entries : List Entry) (start n k : ℕ) (list : List Entry) → IsConflict entries start list n
    → IsConflict entries start list k → n ≡ k
one_conflict entries start n k list h j = elim (nat_order h.0 j.0) [
  | inl less ↦ absurd (no_earlier_conflict entries start n k list h j less)
  | inr rest ↦ elim rest [
    | inl same ↦ h.2 ∙ ap (λ (i : ℕ). start + i) same
        ∙ sym j.2
    | inr more ↦ absurd (no_earlier_conflict entries start k n list j h more)
  ]
]

-- the record with no new entries is the record
none_follow : (m : Terms) (entries new : List Entry) → IsLegalRecord m entries → new ≡ [] → IsLegalRecord m (entries ++ new)
none_follow m entries new legal none =
    subst (λ (l : List Entry). IsLegalRecord m (entries ++ l)) (sym none)
    (subst (IsLegalRecord m) (sym (append-nil entries)) legal)

-- so many follow, and one number is how many
no_more_follow : (m : Terms) (entries list : List Entry) (n k : ℕ) → FollowsFor m entries list n
    → FollowsFor m entries list k → n < k → ⊥
no_more_follow m entries list n k h j less =
    let front = entries ++ take (n + 1) list in
    let rest = drop (n + 1) (take k list) in
    let parts : entries ++ take k list ≡ front ++ rest =
    ap (λ (l : List Entry). entries ++ l) (sym (take-append-drop (n + 1) (take k list))
    ∙ ap (λ (l : List Entry). l ++ rest) (take_take (n + 1) k list (omega arith)))
    ∙ sym (append_assoc entries (take (n + 1) list) rest) in
    h.no_more (let within = j.within in omega arith) (legal_fronts m front rest (subst (IsLegalRecord m) parts j.legal))

one_count : (m : Terms) (entries list : List Entry) (n k : ℕ) → FollowsFor m entries list n → FollowsFor m entries list k
    → n ≡ k
one_count m entries list n k h j = elim (nat_order n k) [
  | inl less ↦ absurd (no_more_follow m entries list n k h j less)
  | inr rest ↦ elim rest [ inl same ↦ same | inr more ↦ absurd (no_more_follow m entries list k n j h more) ]
]

module _ (f : FollowerView) (start : ℕ) (list : List Entry) (is : IsLegalRecord f.log.terms f.log.entries) where
  -- the answers are tried in this order, so one of them excludes the later ones
  apart : (a b : Learned) → Teaches f start list a → Teaches f start list b → a ≢ learned.Memory → b ≢ learned.Memory
      → a ≡ b
  apart learned.OtherMatch b h k x y = absurd h
  apart a learned.OtherMatch h k x y = absurd k
  apart learned.Memory b h k x y = absurd (x refl)
  apart a learned.Memory h k x y = absurd (y refl)
  apart (learned.Conflict n) (learned.Conflict m) h k x y =
      ap learned.Conflict (one_conflict f.log.entries start n m list h k)
  apart (learned.Conflict n) learned.Gap h k x y = absurd (no_conflict f.log.entries start n list h k.0)
  apart (learned.Conflict n) learned.Nothing h k x y = absurd (no_conflict f.log.entries start n list h k.0.0)
  apart (learned.Conflict n) (learned.Illegal m) h k x y = absurd (no_conflict f.log.entries start n list h k.0.0)
  apart (learned.Conflict n) (learned.Grew m) h k x y = absurd (no_conflict f.log.entries start n list h k.0.0.0)
  apart learned.Gap (learned.Conflict m) h k x y = absurd (no_conflict f.log.entries start m list k h.0)
  apart learned.Gap learned.Gap h k x y = refl
  apart learned.Gap learned.Nothing h k x y = absurd (omega (arith, h.1, k.0.1))
  apart learned.Gap (learned.Illegal m) h k x y = absurd (omega (arith, h.1, k.0.1))
  apart learned.Gap (learned.Grew m) h k x y = absurd (omega (arith, h.1, k.0.0.1))
  apart learned.Nothing (learned.Conflict m) h k x y = absurd (no_conflict f.log.entries start m list k h.0.0)
  apart learned.Nothing learned.Gap h k x y = absurd (omega (arith, k.1, h.0.1))
  apart learned.Nothing learned.Nothing h k x y = refl
  apart learned.Nothing (learned.Illegal m) h k x y =
      absurd (not_all f.log.terms m (f.log.entries ++ new_entries f.log.entries start list) k.1
      (none_follow f.log.terms f.log.entries (new_entries f.log.entries start list) is h.1))
  apart learned.Nothing (learned.Grew m) h k x y = absurd (k.0.1 h.1)
  apart (learned.Illegal n) (learned.Conflict m) h k x y = absurd (no_conflict f.log.entries start m list k h.0.0)
  apart (learned.Illegal n) learned.Gap h k x y = absurd (omega (arith, k.1, h.0.1))
  apart (learned.Illegal n) learned.Nothing h k x y =
      absurd (not_all f.log.terms n (f.log.entries ++ new_entries f.log.entries start list) h.1
      (none_follow f.log.terms f.log.entries (new_entries f.log.entries start list) is k.1))
  apart (learned.Illegal n) (learned.Illegal m) h k x y =
      ap learned.Illegal (one_illegal f.log.terms n m (f.log.entries ++ new_entries f.log.entries start list) h.1 k.1)
  apart (learned.Illegal n) (learned.Grew m) h k x y =
      absurd (not_all f.log.terms n (f.log.entries ++ new_entries f.log.entries start list) h.1 k.0.2)
  apart (learned.Grew n) (learned.Conflict m) h k x y = absurd (no_conflict f.log.entries start m list k h.0.0.0)
  apart (learned.Grew n) learned.Gap h k x y = absurd (omega (arith, k.1, h.0.0.1))
  apart (learned.Grew n) learned.Nothing h k x y = absurd (h.0.1 k.1)
  apart (learned.Grew n) (learned.Illegal m) h k x y =
      absurd (not_all f.log.terms m (f.log.entries ++ new_entries f.log.entries start list) k.1 h.0.2)
  apart (learned.Grew n) (learned.Grew m) h k x y =
      ap learned.Grew (one_count f.log.terms f.log.entries (coming f start list) n m h.1 k.1)

-- a packet is of another match, or of this one, and teaches what it says
of_match : (f : FollowerView) (p : Packet) (l : Learned) → Learns f p l
    → ((l ≡ learned.OtherMatch) × (IsOfMatch f.log.id (rules_of f.log.terms) p → ⊥))
    ⊎ (IsOfMatch f.log.id (rules_of f.log.terms) p × TeachesWithin f p l)
of_match f p learned.OtherMatch h = inl (refl, h)
of_match f p learned.Nothing h = inr h
of_match f p (learned.Conflict n) h = inr h
of_match f p learned.Gap h = inr h
of_match f p (learned.Illegal n) h = inr h
of_match f p learned.Memory h = inr h
of_match f p (learned.Grew k) h = inr h

-- within this match a packet teaches one thing
one_thing : (f : FollowerView) (p : Packet) (a b : Learned) → IsLegalRecord f.log.terms f.log.entries
    → TeachesWithin f p a → TeachesWithin f p b → a ≢ learned.Memory → b ≢ learned.Memory → a ≡ b
one_thing f (packet.Want id rules sender held) a b is h k x y = h ∙ sym k
one_thing f (packet.Claim id rules sender number action) a b is h k x y = h ∙ sym k
one_thing f (packet.Entries id rules start list) a b is h k x y = apart f start list is a b h k x y

pub teaches_one_thing : TeachesOneThing
teaches_one_thing f p a b is h k x y = elim (of_match f p a h) [
  | inl other ↦ elim (of_match f p b k) [
    | inl also ↦ other.0 ∙ sym also.0
    | inr this ↦ absurd (other.1 this.0)
  ]
  | inr this ↦ elim (of_match f p b k) [
    | inl other ↦ absurd (other.1 this.0)
    | inr also ↦ one_thing f p a b is this.1 also.1 x y
  ]
]

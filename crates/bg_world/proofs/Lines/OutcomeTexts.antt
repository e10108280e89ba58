-- Which outcomes have one line.
use Rattle.std.proofs.Common.{◌≡◌, ℕ, true, false, inl, inr, List, [], ◌++◌, Option, Some, None, Ok, Err, refl, sym, ◌∙◌, ap, subst}
use Rattle.std.specs.Prelude.{◌⊎◌}
use Rattle.std.specs.Fmt.{decimal}
use Rattle.std.proofs.lemmas.Fmt.{decimal_injective}
use Rattle.std.proofs.lemmas.List.{append-nil, append_assoc}
use Rattle.bg_wire.specs.declared.packets.Packet.{Packet}
use Rattle.bg_referee.specs.declared.outcomes.DueFault.TheVariants as due_fault
use Rattle.bg_referee.specs.declared.outcomes.TakeOutcome.TheVariants as take
use Rattle.bg_party.specs.declared.outcomes.Learned.TheVariants as learn
use Rattle.bg_world.specs.Texts.OutcomeText.{AreAnswersAlike, HasNumbers, IsNothing, FitsIn64Bits, IsOtherMatch, OutcomeTextsDiffer, ShareLine, answer_text, entries_told, outcome_text, told_part}
use Rattle.bg_protocol.specs.Worlds.WorldRuns.{is_memory}
use Rattle.bg_protocol.specs.declared.events.Outcome.{Outcome}
use Rattle.bg_protocol.specs.declared.events.Outcome.TheVariants as outcome
use Rattle.bg_world.proofs.Lines.LineParts.{are_digits, begins_otherwise, cut_digits, from_digit, from_number, same, words}
use Rattle.bg_world.proofs.Lines.OutcomeReads.{HasRange, no_words, outcome_read, plain, read, told_words}

-- ---- answers

same_pair : (a b c d : ℕ) → a ≡ c → b ≡ d
    → ◌≡◌ {A = Option (ℕ × ℕ)} (Some (a, b)) (Some (c, d))
same_pair a b c d e f = cc

-- two numbers, each before what no digit begins, are the same where the texts are
same_numbers : (n m : ℕ) (rest other : List ℕ) → FitsIn64Bits n → FitsIn64Bits m → decimal n ++ rest ≡ decimal m ++ other
    → begins_otherwise rest ≡ true → begins_otherwise other ≡ true → (n ≡ m) × (rest ≡ other)
same_numbers n m rest other h k e hr ho =
    let both = cut_digits (decimal n) (decimal m) rest other (are_digits n h) (are_digits m k) hr ho e in
    (decimal_injective n m h k both.0, both.1)

-- and so are two numbers that end their texts, where these are the same from the first digit on
same_last : (n m : ℕ) → FitsIn64Bits n → FitsIn64Bits m → from_digit (decimal n) ≡ from_digit (decimal m) → n ≡ m
same_last n m h k e =
    let texts : from_digit (decimal n ++ []) ≡ from_digit (decimal m ++ []) =
    ap from_digit (append-nil (decimal n)) ∙ (e ∙ sym (ap from_digit (append-nil (decimal m)))) in
    (same_numbers n m [] [] h k (sym (from_number n [] h) ∙ (texts ∙ from_number m [] k)) refl refl).0

-- that there are no entries is not told as some are
some_or_none : (range : ℕ × ℕ) → HasRange (Some range) → told_part None ≡ told_part (Some range) → ⊥
some_or_none range h e =
    let words_same = simp no_words at (ap words e ∙ told_words (Some range) h) in
    let wrong : true ≡ false = ap (same (words (told_part None))) words_same in
    absurd (cc (wrong))

same_told : (x y : Option (ℕ × ℕ)) → HasRange x → HasRange y → told_part x ≡ told_part y → x ≡ y
same_told None None h k e = refl
same_told None (Some y) h k e = absurd (some_or_none y k e)
same_told (Some x) None h k e = absurd (some_or_none x h (sym e))
same_told (Some x) (Some y) h k e =
    let low : FitsIn64Bits x.0 = h.0 in
    let low_other : FitsIn64Bits y.0 = k.0 in
    let texts = rw (append_assoc (decimal x.0), append_assoc (decimal y.0), from_number x.0, from_number y.0) at (ap from_digit e) in
    let first = same_numbers x.0 y.0 _ _ low low_other texts refl refl in
    let last = same_last x.1 y.1 h.1 k.1 (ap from_digit first.1) in
    same_pair x.0 x.1 y.0 y.1 first.0 last

told_begins : (told : Option (ℕ × ℕ)) → begins_otherwise (told_part told) ≡ true
told_begins None = refl
told_begins (Some range) = refl

same_answer : (to other : ℕ) (x y : Option (ℕ × ℕ)) → FitsIn64Bits to → FitsIn64Bits other → HasRange x → HasRange y
    → answer_text to x ≡ answer_text other y → (to ≡ other) × (x ≡ y)
same_answer to other x y a b h k e =
    let texts : decimal to ++ told_part x ≡ decimal other ++ told_part y =
    sym (from_number to (told_part x) a) ∙ (ap from_digit e ∙ from_number other (told_part y) b) in
    let both = same_numbers to other (told_part x) (told_part y) a b texts (told_begins x) (told_begins y) in
    (both.0, same_told x y h k both.1)

-- ---- outcomes that share a line

abbrev IsAnswer : Outcome → Type 0
IsAnswer o = (to : ℕ) × (p : Packet) × (o ≡ outcome.Took (take.Answer to p))

-- the outcome has the line that stands for several
abbrev Stands : Outcome → Outcome → Type 0
Stands outcome.Memory o = is_memory o ≡ true
Stands (outcome.Learned learn.OtherMatch) o = IsOtherMatch o
Stands (outcome.Learned learn.Nothing) o = IsNothing o
Stands (outcome.Took (take.Answer to p)) o = IsAnswer o
Stands _ o = ⊥

stands : (o : Outcome) → (plain o ≡ o) ⊎ Stands (plain o) o
stands (outcome.Due (Ok n)) = inl refl
stands (outcome.Due (Err due_fault.NothingDue)) = inl refl
stands (outcome.Due (Err due_fault.WordRefused)) = inl refl
stands (outcome.Due (Err due_fault.EqualOpening)) = inl refl
stands (outcome.Due (Err due_fault.RecordFull)) = inl refl
stands (outcome.Due (Err due_fault.Memory)) = inr refl
stands (outcome.Took take.OtherMatch) = inr (inl refl)
stands (outcome.Took take.Nothing) = inr (inl refl)
stands (outcome.Took (take.Answer to p)) = inr (to, p, refl)
stands (outcome.Took take.Ahead) = inl refl
stands (outcome.Took take.NotYourTurn) = inl refl
stands (outcome.Took take.WordRefused) = inl refl
stands (outcome.Took (take.Illegal why)) = inl refl
stands (outcome.Took take.Memory) = inr refl
stands (outcome.Took (take.Accepted n)) = inl refl
stands (outcome.Learned learn.OtherMatch) = inl refl
stands (outcome.Learned learn.Nothing) = inl refl
stands (outcome.Learned (learn.Conflict n)) = inl refl
stands (outcome.Learned learn.Gap) = inl refl
stands (outcome.Learned (learn.Illegal n)) = inl refl
stands (outcome.Learned learn.Memory) = inr refl
stands (outcome.Learned (learn.Grew n)) = inl refl
stands (outcome.Chose result) = inl refl
stands (outcome.Saved n) = inl refl
stands outcome.SavesSpent = inl refl
stands (outcome.Sent n) = inl refl
stands outcome.Restarted = inl refl
stands outcome.NoDatagram = inl refl
stands (outcome.NotAPacket why) = inl refl
stands outcome.Down = inl refl
stands outcome.NoSuchParty = inl refl
stands outcome.LinkFault = inl refl
stands outcome.SaveFault = inl refl
stands (outcome.RestoreFault why) = inl refl
stands outcome.Memory = inl refl

-- what stands for others stands for itself
itself : (p o : Outcome) → Stands p o → Stands p p
itself outcome.Memory o h = refl
itself (outcome.Learned learn.OtherMatch) o h = inr refl
itself (outcome.Learned learn.Nothing) o h = inr refl
itself (outcome.Took (take.Answer to p)) o h = (to, p, refl)
itself _ o h = absurd h

answers_alike : (a b : Outcome) → IsAnswer a → IsAnswer b → HasNumbers a → HasNumbers b
    → outcome_text a ≡ outcome_text b → AreAnswersAlike a b
answers_alike a b (to, p, first) (other, q, second) h k e =
    let ha : HasNumbers (outcome.Took (take.Answer to p)) = subst HasNumbers first h in
    let kb : HasNumbers (outcome.Took (take.Answer other q)) = subst HasNumbers second k in
    let lines : answer_text to (entries_told p) ≡ answer_text other (entries_told q) =
    ap outcome_text (sym first) ∙ (e ∙ ap outcome_text second) in
    let both = same_answer to other (entries_told p) (entries_told q) ha.0 kb.0 ha.1 kb.1 lines in
    record {
      party = to;
      one = p;
      other = q;
      first = first;
      second = second ∙ ap (λ (n : ℕ). outcome.Took (take.Answer n q)) (sym both.0);
      same = both.1;
    }

share : (p a b : Outcome) → Stands p a → Stands p b → HasNumbers a → HasNumbers b → outcome_text a ≡ outcome_text b
    → ShareLine a b
share outcome.Memory a b s t h k e = inl (s, t)
share (outcome.Learned learn.OtherMatch) a b s t h k e = inr (inl (s, t))
share (outcome.Learned learn.Nothing) a b s t h k e = inr (inr (inl (s, t)))
share (outcome.Took (take.Answer to p)) a b s t h k e = inr (inr (inr (answers_alike a b s t h k e)))
share _ a b s t h k e = absurd s

told_apart : (a b : Outcome) → HasNumbers a → HasNumbers b → outcome_text a ≡ outcome_text b → (a ≡ b) ⊎ ShareLine a b
told_apart a b h k e = by_cases (stands a) (stands b)
  where
    same : plain a ≡ plain b
    same = sym (outcome_read a h) ∙ (ap read e ∙ outcome_read b k)

    by_cases : (plain a ≡ a) ⊎ Stands (plain a) a → (plain b ≡ b) ⊎ Stands (plain b) b → (a ≡ b) ⊎ ShareLine a b
    by_cases (inl x) (inl y) = inl (sym x ∙ (same ∙ y))
    by_cases (inl x) (inr t) =
        inr (share (plain b) a b (subst (Stands (plain b)) (sym same ∙ x) (itself (plain b) b t)) t h k e)
    by_cases (inr s) (inl y) =
        inr (share (plain a) a b s (subst (Stands (plain a)) (same ∙ y) (itself (plain a) a s)) h k e)
    by_cases (inr s) (inr t) = inr (share (plain b) a b (subst (λ (p : Outcome). Stands p a) same s) t h k e)

-- ---- those lines are the same

memory_text : (o : Outcome) → is_memory o ≡ true → outcome_text o ≡ outcome_text outcome.Memory
memory_text (outcome.Due (Ok n)) h = absurd cc
memory_text (outcome.Due (Err due_fault.NothingDue)) h = absurd cc
memory_text (outcome.Due (Err due_fault.WordRefused)) h = absurd cc
memory_text (outcome.Due (Err due_fault.EqualOpening)) h = absurd cc
memory_text (outcome.Due (Err due_fault.RecordFull)) h = absurd cc
memory_text (outcome.Due (Err due_fault.Memory)) h = refl
memory_text (outcome.Took take.OtherMatch) h = absurd cc
memory_text (outcome.Took take.Nothing) h = absurd cc
memory_text (outcome.Took (take.Answer to p)) h = absurd cc
memory_text (outcome.Took take.Ahead) h = absurd cc
memory_text (outcome.Took take.NotYourTurn) h = absurd cc
memory_text (outcome.Took take.WordRefused) h = absurd cc
memory_text (outcome.Took (take.Illegal why)) h = absurd cc
memory_text (outcome.Took take.Memory) h = refl
memory_text (outcome.Took (take.Accepted n)) h = absurd cc
memory_text (outcome.Learned learn.OtherMatch) h = absurd cc
memory_text (outcome.Learned learn.Nothing) h = absurd cc
memory_text (outcome.Learned (learn.Conflict n)) h = absurd cc
memory_text (outcome.Learned learn.Gap) h = absurd cc
memory_text (outcome.Learned (learn.Illegal n)) h = absurd cc
memory_text (outcome.Learned learn.Memory) h = refl
memory_text (outcome.Learned (learn.Grew n)) h = absurd cc
memory_text (outcome.Chose result) h = absurd cc
memory_text (outcome.Saved n) h = absurd cc
memory_text outcome.SavesSpent h = absurd cc
memory_text (outcome.Sent n) h = absurd cc
memory_text outcome.Restarted h = absurd cc
memory_text outcome.NoDatagram h = absurd cc
memory_text (outcome.NotAPacket why) h = absurd cc
memory_text outcome.Down h = absurd cc
memory_text outcome.NoSuchParty h = absurd cc
memory_text outcome.LinkFault h = absurd cc
memory_text outcome.SaveFault h = absurd cc
memory_text (outcome.RestoreFault why) h = absurd cc
memory_text outcome.Memory h = refl

nothing_text : (o : Outcome) → IsNothing o → outcome_text o ≡ outcome_text (outcome.Learned learn.Nothing)
nothing_text o (inl is) = ap outcome_text is
nothing_text o (inr is) = ap outcome_text is

other_text : (o : Outcome) → IsOtherMatch o → outcome_text o ≡ outcome_text (outcome.Learned learn.OtherMatch)
other_text o (inl is) = ap outcome_text is
other_text o (inr is) = ap outcome_text is

told_alike : (a b : Outcome) → (a ≡ b) ⊎ ShareLine a b → outcome_text a ≡ outcome_text b
told_alike a b (inl e) = ap outcome_text e
told_alike a b (inr (inl h)) = memory_text a h.0 ∙ sym (memory_text b h.1)
told_alike a b (inr (inr (inl h))) = other_text a h.0 ∙ sym (other_text b h.1)
told_alike a b (inr (inr (inr (inl h)))) = nothing_text a h.0 ∙ sym (nothing_text b h.1)
told_alike a b (inr (inr (inr (inr h)))) =
    ap outcome_text h.first ∙ (ap (answer_text h.party) h.same ∙ sym (ap outcome_text h.second))

pub texts_differ : OutcomeTextsDiffer
texts_differ a b h k = (told_apart a b h k, told_alike a b)

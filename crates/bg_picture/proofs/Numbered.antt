-- Each entry of a page has an item of its number.
use Rattle.std.proofs.Common.{◌≡◌, ℕ, zero, suc, ◌+◌, ◌<◌, List, [], ◌∷◌, ◌++◌, length, Option, Some, None, ap, subst, sym, ◌∙◌, arith, append_assoc}
use Rattle.bg_match.specs.Actor.{actor_of, seat_of}
use Rattle.bg_match.specs.State.{State}
use Rattle.bg_match.specs.declared.entries.Entry.{Entry}
use Rattle.bg_text.specs.Entries.EntryText.{entry_text}
use Rattle.bg_picture.specs.Items.{AreItemsOf, entry_item, entry_items, item_end, item_start, items_by, next_start, result_item}
use Rattle.bg_picture.specs.Laws.{HasItem}
use Rattle.bg_picture.specs.Wins.{end_of, win_of}
use Rattle.bg_picture.specs.declared.anchors.Anchor.TheVariants as anchor
use Rattle.bg_picture.specs.declared.captions.Caption.{Caption}
use Rattle.bg_picture.specs.declared.captions.Caption.TheVariants.{Next, Won}
use Rattle.bg_picture.specs.declared.wins.Win.{Win}

one_item : (number : ℕ) (s : State) (e : Entry) (t : State) (caption : Caption) (rest : List ℕ)
    → HasItem (entry_item number s e t caption ++ rest) (anchor.Entry number)
unfolding entry_item
one_item number s e t caption rest =
    let start = item_start (anchor.Entry number) t caption in
    let words = entry_text (seat_of (actor_of s)) e in
    ([], t, caption, words ++ (item_end ++ rest), three start words item_end rest)
  where
    three : (a b c d : List ℕ) → a ++ b ++ c ++ d ≡ [] ++ a ++ (b ++ (c ++ d))
    three a b c d = simp append_assoc

by_win : (number : ℕ) (s : State) (e : Entry) (next end : State) (win : Option Win) (rest : List ℕ)
    → HasItem (items_by number s e next end win ++ rest) (anchor.Entry number)
unfolding items_by
by_win number s e next end None rest = one_item number s e next Next rest
by_win number s e next end (Some win) rest =
    let item = entry_item number s e end (Won win) in
    let more = next_start number next next.phase in
    subst (λ (text : List ℕ). HasItem text (anchor.Entry number)) (sym (three item (result_item win end) more rest))
    (one_item number s e end (Won win) (result_item win end ++ (more ++ rest)))
  where
    three : (a b c d : List ℕ) → a ++ b ++ c ++ d ≡ a ++ (b ++ (c ++ d))
    three a b c d = simp append_assoc

pub numbered : (first : ℕ) (s : State) (entries : List Entry) (text : List ℕ) (t : State) → AreItemsOf first s entries text t
    → (i number : ℕ) → i < length entries → number ≡ first + i → HasItem text (anchor.Entry number)
unfolding entry_items
numbered first s [] text t h i number within is = absurd (omega (arith, within))
numbered first s (e ∷ entries) text t h zero number within is =
    let same : number ≡ first = omega (arith, is) in
    let here = by_win first s e h.0 (end_of s e h.0) (win_of s e) h.1 in
    subst (λ (n : ℕ). HasItem text (anchor.Entry n)) (sym same)
    (subst (λ (x : List ℕ). HasItem x (anchor.Entry first)) (sym h.3) here)
numbered first s (e ∷ entries) text t h (suc i) number within is =
    let rest = numbered (first + 1) h.0 entries h.1 t h.4 i number (omega (arith, within)) (omega (arith, is)) in
    let front = entry_items first s e h.0 in
    (front ++ rest.0, rest.1, rest.2, rest.3, h.3 ∙ (ap (λ x. front ++ x) rest.4 ∙ four front rest.0 (item_start (anchor.Entry number) rest.1 rest.2) rest.3))
  where
    four : (a b c d : List ℕ) → a ++ (b ++ c ++ d) ≡ a ++ b ++ c ++ d
    four a b c d = simp append_assoc

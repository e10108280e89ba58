-- The items of an entry, part by part.
use Rattle.std.proofs.Common.{◌≡◌, ℕ, List, ◌++◌, Some, None, refl, append_assoc}
use Rattle.bg_match.specs.State.{State}
use Rattle.bg_match.specs.declared.entries.Entry.{Entry}
use Rattle.bg_picture.specs.Items.{entry_item, entry_items, items_by, next_start, result_item}
use Rattle.bg_picture.specs.Wins.{end_of, win_of}
use Rattle.bg_picture.specs.declared.captions.Caption.TheVariants.{Next, Won}
use Rattle.bg_picture.specs.declared.wins.Win.{Win}

-- an entry that ends no game
pub goes_on : (number : ℕ) (s : State) (e : Entry) (next : State) (o p : List ℕ)
    → win_of s e ≡ None → p ≡ o ++ entry_item number s e next Next → p ≡ o ++ entry_items number s e next
unfolding entry_items items_by
goes_on number s e next o p none h1 = rw (h1, none) refl

-- an entry that ends one
pub ends : (number : ℕ) (s : State) (e : Entry) (next : State) (win : Win) (end : State) (o p q r : List ℕ)
    → win_of s e ≡ Some win → end ≡ end_of s e next → p ≡ o ++ entry_item number s e end (Won win)
    → q ≡ p ++ result_item win end → r ≡ q ++ next_start number next next.phase → r ≡ o ++ entry_items number s e next
unfolding entry_items items_by
ends number s e next win end o p q r won at h1 h2 h3 = rw (h3, h2, h1, at, won) (simp append_assoc)

-- How far the lines of games are read.
use Rattle.std.specs.Prelude.{◌≡◌, ℕ, ◌+◌, List, [], ◌∷◌, ◌++◌, length, Bool}
use Rattle.std.proofs.Common.{append_assoc, length-append, refl, sym, ◌∙◌, ap, subst, inl, inr, arith}
use Rattle.bg_mat.specs.Files.{TellsAwaited, TellsLine, TellsLines, numbered, is_within_game}
use Rattle.bg_mat.specs.Rows.Headings.{IsFiller}
use Rattle.bg_text.specs.Judge.Judging.{lines_of}
use Rattle.bg_mat.specs.Replaying.{Closes, GoesOnBy, IsReplay, pending_items, place_of}
use Rattle.bg_mat.specs.Reading.{EndsGames, ReadsGames}
use Rattle.bg_mat.specs.Telling.{AreTold, Item, Told}
use Rattle.bg_mat.specs.declared.awaiting.Awaited.{Awaited}
use Rattle.bg_mat.specs.declared.awaiting.Awaited.TheVariants as awaited
use Rattle.bg_mat.specs.declared.playing.Replay.{Replay}
use Rattle.bg_mat.proofs.OfReading.Replays.{goes_on_twice, nothing_more, stays}

-- the lines before the rest are read, from a replay on
pub record IsReadUpTo (from : Replay) (first : ℕ) (input : List ℕ) (now : Replay) (here : Awaited) (n : ℕ) (rest : List ℕ) : Type 0 where
  pub before : List (List ℕ)
  pub cut : lines_of input ≡ before ++ lines_of rest
  pub number_is : n ≡ first + length before
  pub told : List Told
  pub goes : GoesOnBy from now told
  pub file : TellsLines awaited.Game first before told here

pub reading_begins : (from : Replay) (first : ℕ) (input : List ℕ) → IsReplay from
    → IsReadUpTo from first input from awaited.Game first input
reading_begins from first input kept = record {
  before = [];
  cut = refl;
  number_is = omega arith;
  told = [];
  goes = stays from kept;
  file = (refl, refl);
}

-- one more line
tells_more : (start : Awaited) (first : ℕ) (before : List (List ℕ)) (line : List ℕ) (told : List Told) (here next : Awaited) (items : List Item)
    → TellsLines start first before told here → TellsLine here line items next
    → TellsLines start first (before ++ line ∷ []) (told ++ numbered (first + length before) items) next
tells_more start first [] line told here next items file tells =
    let same : first + length {A = List ℕ} [] ≡ first = omega arith in (
      items,
      [],
      next,
      subst (λ (a : Awaited). TellsLine a line items next) file.1 tells,
      (refl, refl),
      rw (file.0, same) (sym (nothing_more (numbered first items))),
    )
tells_more start first (l ∷ before) line told here next items (own, more, middle, tl, file, e) tells =
    let same : (first + 1) + length before ≡ first + length (l ∷ before) = omega arith in
    let behind = tells_more middle (first + 1) before line more here next items file tells in (
      own,
      more ++ numbered (first + length (l ∷ before)) items,
      middle,
      tl,
      subst (λ (n : ℕ). TellsLines middle (first + 1) (before ++ line ∷ []) (more ++ numbered n items) next) same behind,
      ap (λ (xs : List Told). xs ++ numbered (first + length (l ∷ before)) items) e
          ∙ append_assoc (numbered first own) more (numbered (first + length (l ∷ before)) items),
    )

cut_more : (input : List ℕ) (before : List (List ℕ)) (rest line after : List ℕ) → lines_of input ≡ before ++ lines_of rest
    → lines_of rest ≡ line ∷ lines_of after → lines_of input ≡ (before ++ line ∷ []) ++ lines_of after
cut_more input before rest line after e split =
    e ∙ (ap (λ (ls : List (List ℕ)). before ++ ls) split ∙ sym (append_assoc before (line ∷ []) (lines_of after)))

one_later : (n first : ℕ) (before : List (List ℕ)) (line : List ℕ) → n ≡ first + length before
    → n + 1 ≡ first + length (before ++ line ∷ [])
one_later n first before line e = omega (arith, e, length-append before (line ∷ []))

-- a line that tells nothing
pub filler_read : (from : Replay) (first : ℕ) (input : List ℕ) (now : Replay) (here : Awaited) (n : ℕ) (rest line after : List ℕ)
    → IsReadUpTo from first input now here n rest → lines_of rest ≡ line ∷ lines_of after → IsFiller line
    → IsReadUpTo from first input now here (n + 1) after
filler_read from first input now here n rest line after r split filler = record {
  before = r.before ++ line ∷ [];
  cut = cut_more input r.before rest line after r.cut split;
  number_is = one_later n first r.before line r.number_is;
  told = r.told;
  goes = r.goes;
  file = subst (λ (told : List Told). TellsLines awaited.Game first (r.before ++ line ∷ []) told here) (nothing_more r.told)
      (tells_more awaited.Game first r.before line r.told here here [] r.file (inl (filler, refl, refl)));
}

-- a line that tells items
pub line_read : (from : Replay) (first : ℕ) (input : List ℕ) (now then : Replay) (here next : Awaited) (n : ℕ) (rest line after : List ℕ) (items : List Item)
    → IsReadUpTo from first input now here n rest → lines_of rest ≡ line ∷ lines_of after
    → (IsFiller line → ⊥) → TellsAwaited here line items next → GoesOnBy now then (numbered n items)
    → IsReadUpTo from first input then next (n + 1) after
line_read from first input now then here next n rest line after items r split none tells goes = record {
  before = r.before ++ line ∷ [];
  cut = cut_more input r.before rest line after r.cut split;
  number_is = one_later n first r.before line r.number_is;
  told = r.told ++ numbered n items;
  goes = goes_on_twice from now then r.told (numbered n items) r.goes goes;
  file = rw r.number_is (tells_more awaited.Game first r.before line r.told here next items r.file (inr (none, tells)));
}

-- nothing is left
pub all_before : (from : Replay) (first : ℕ) (input : List ℕ) (now : Replay) (here : Awaited) (n : ℕ) (rest : List ℕ)
    → (r : IsReadUpTo from first input now here n rest) → rest ≡ [] → TellsLines awaited.Game first (lines_of input) r.told here
all_before from first input now here n rest r none =
    let left : lines_of rest ≡ [] = rw none refl in
    let all : lines_of input ≡ r.before =
    r.cut ∙ (ap (λ (ls : List (List ℕ)). r.before ++ ls) left ∙ nothing_more r.before) in
    subst (λ (ls : List (List ℕ)). TellsLines awaited.Game first ls r.told here) (sym all) r.file

pub all_read : (from : Replay) (first : ℕ) (input : List ℕ) (now closed : Replay) (here : Awaited) (n : ℕ) (rest : List ℕ)
    → IsReadUpTo from first input now here n rest → rest ≡ [] → Closes now closed
    → ReadsGames from first (lines_of input) closed.log closed.lines.items
all_read from first input now closed here n rest r none (goes, empty) =
    let all = goes_on_twice from now closed r.told [] r.goes goes in
    let same : r.told ++ [] ≡ r.told = nothing_more r.told in
    record {
      told = r.told ++ [];
      entries = all.entries;
      own = all.lines;
      there = here;
      place = place_of closed;
      file = rw same (all_before from first input now here n rest r none);
      leads = subst (λ (told : List Told). AreTold (place_of from) told all.entries all.lines (place_of closed))
          (sym (all.same ∙ (ap (λ (xs : List Told). all.told ++ xs) (ap pending_items empty) ∙ nothing_more all.told))) all.leads;
      grown = all.log;
      numbered = all.numbered;
      legal = all.replay.log;
    }

-- whether all lines end within a game
pub all_end : (from : Replay) (first : ℕ) (input : List ℕ) (now : Replay) (here : Awaited) (n : ℕ) (rest : List ℕ) (within : Bool)
    → IsReadUpTo from first input now here n rest → rest ≡ [] → within ≡ is_within_game here
    → EndsGames first (lines_of input) within
all_end from first input now here n rest within r none is = (r.told, here, all_before from first input now here n rest r none, is)

numbered_both : (n : ℕ) (a b : List Item) → numbered n a ++ numbered n b ≡ numbered n (a ++ b)
numbered_both n [] b = refl
numbered_both n (x ∷ a) b = ap (λ (told : List Told). record { line = n; item = x } ∷ told) (numbered_both n a b)

-- the items of both cells of a row
pub both_cells : (old middle new : Replay) (n : ℕ) (a b : List Item) → GoesOnBy old middle (numbered n a)
    → GoesOnBy middle new (numbered n b) → GoesOnBy old new (numbered n (a ++ b))
both_cells old middle new n a b g h =
    subst (λ (told : List Told). GoesOnBy old new told) (numbered_both n a b)
    (goes_on_twice old middle new (numbered n a) (numbered n b) g h)

-- What is told of a record, as far as its entries are read.
use Rattle.std.specs.Prelude.{◌≡◌, ℕ, zero, suc, ◌+◌, ◌*◌, ◌<◌, nat_lt, Bool, true, false, Option, Some, None, List, [], ◌∷◌, ◌++◌, length, take, drop, slice_get}
use Rattle.std.proofs.Common.{add-one, append_assoc, append-nil, refl, ◌∙◌, ap, subst}
use Rattle.std.proofs.Common.{Bor, rules}
use Rattle.std.specs.Option.{IsSome, option_copied}
use Rattle.std.proofs.lemmas.Option.{slice_get-get_or}
use Rattle.bg_match.specs.Follows.{CanFollow, Follows, after_level, phase_back}
use Rattle.bg_match.specs.Match.{IsLegalRecord, Leads, Log, StandsAt, at_number}
use Rattle.bg_match.specs.State.{State, after_win, greater_score, score_of, scored, start_of}
use Rattle.bg_match.specs.Level.{level_of, multiple}
use Rattle.bg_board.specs.Position.{opponent}
use Rattle.bg_turns.specs.Turn.{after_steps}
use Rattle.bg_match.specs.Terms.{Terms, match_length}
use Rattle.bg_match.specs.declared.levels.Level.{Level}
use Rattle.bg_match.specs.declared.phases.Phase.{Phase}
use Rattle.bg_match.specs.declared.phases.Phase.TheVariants as phase
use Rattle.bg_match.specs.declared.entries.Entry.{Entry}
use Rattle.bg_match.specs.declared.entries.Entry.TheVariants as entry
use Rattle.bg_match.proofs.Legal.{one_standing}
use Rattle.bg_match.proofs.Runs.{Leads-push}
use Rattle.bg_turns.specs.declared.throws.Dice.{Dice}
use Rattle.bg_board.specs.declared.players.Player.{Player}
use Rattle.bg_mat.specs.Files.{kept_behind, kept_entries}
use Rattle.bg_mat.specs.Retelling.{AddsEntry, TellsRecord}
use Rattle.bg_mat.specs.Telling.{Place}
use Rattle.bg_mat.specs.Tellings.{TellsDice, with_telling}
use Rattle.bg_mat.specs.declared.awaiting.Awaited.{Awaited}
use Rattle.bg_mat.specs.declared.awaiting.Awaited.TheVariants as awaited
use Rattle.bg_mat.specs.declared.tellings.Telling.{Telling}
use Rattle.bg_mat.proofs.OfWriting.Retold.{IsTold, Retold, nothing_told}
use Rattle.bg_mat.proofs.OfWriting.RetoldWins.{is_won_state, won_state}
use Rattle.bg_mat.proofs.OfWriting.RetoldSteps.{dice_told, rejection_told}
use Rattle.bg_mat.proofs.OfWriting.RetoldEntries.{entry_told, kept_more, offer_of}

back_offer : (player : Player) (back : Option Dice) → offer_of (phase_back player back) ≡ None
back_offer player None = refl
back_offer player (Some dice) = refl

won_offer : (b : Bool) (s : State) (w : Player) (n g : ℕ) → offer_of (won_state b s w n g).phase ≡ None
won_offer true s w n g = refl
won_offer false s w n g = refl

-- a win leaves no offer
after_win-offer : (s : State) (w : Player) (n : ℕ) → offer_of (after_win s w n).phase ≡ None
after_win-offer s w n =
    let b = nat_lt (score_of (scored s w n) w) (match_length s.terms) in
    rw (is_won_state s w n (greater_score s) b (after_win s w n) refl) (won_offer b s w n (greater_score s))

after_level-offer : (s : State) (player : Player) (l : Option Level) → offer_of (after_level s player l).phase ≡ None
after_level-offer s player None = refl
after_level-offer s player (Some level) = after_win-offer s player (multiple level * s.cube.value)

-- the entries that are kept, one entry on
pub kept_next : (s : State) (e : Entry) (t : State) (rest : List Entry) → Follows s e t
    → kept_behind (offer_of s.phase) (e ∷ rest) ≡ kept_more e s.phase ++ kept_behind (offer_of t.phase) rest
kept_next s (entry.Opening x o) t rest (ph, other, is) = rw is refl
kept_next s (entry.Rolled dice) t rest (player, ph, is) = rw is refl
kept_next s entry.Doubled t rest (player, ph, may, is) = rw is refl
kept_next s entry.Taken t rest (player, ph, is) = rw is refl
kept_next s entry.Dropped t rest (player, ph, is) =
    rw (is, after_win-offer s (opponent player) s.cube.value) refl
kept_next s (entry.Moved turn) t rest (player, dice, ph, on, legal, is) =
    let board = after_steps s.board player turn in
    rw (is, after_level-offer (record s { board = board }) player (level_of board player)) refl
kept_next s (entry.Resigned level) t rest (player, back, ph, on, is) = rw is refl
kept_next s entry.Accepted t rest (player, level, back, ph, is) =
    rw (ph, is, after_win-offer s (opponent player) (multiple level * s.cube.value)) refl
kept_next s entry.Rejected t rest (player, level, back, ph, is) = rw (is, back_offer player back) refl
kept_next s entry.Passed t rest (player, dice, ph, on, is) = rw is refl

-- an entry of a list that leads somewhere follows what is before it, and stands before what is
-- behind it
pub entry_at : (s : State) (entries : List Entry) (t : State) (i : ℕ) (e : Entry) → Leads s entries t → slice_get entries i ≡ Some e
    → (m u : State) × Leads s (take i entries) m × Follows m e u × (take (suc i) entries ≡ take i entries ++ e ∷ [])
    × (drop i entries ≡ e ∷ drop (suc i) entries)
entry_at s [] t i e h at = absurd cc
entry_at s (f ∷ entries) t zero e h at =
    let same : f ≡ e = cc in (
      s,
      h.0,
      refl,
      subst (λ (x : Entry). Follows s x h.0) same h.1,
      ap (λ (x : Entry). x ∷ []) same,
      ap (λ (x : Entry). x ∷ entries) same,
    )
entry_at s (f ∷ entries) t (suc i) e h at =
    let rest = entry_at h.0 entries t i e h.2 at in
    (rest.0, rest.1, (h.0, h.1, rest.2), rest.3, ap (λ (xs : List Entry). f ∷ xs) rest.4, rest.5)

-- the first entries are told, and the match stands at s
pub record IsPartTold (log : Log) (read : ℕ) (s : State) (tellings : List Telling) : Type 0 where
  pub kept : List Entry
  pub stands : StandsAt log.terms (take read log.entries) s
  pub is_told : IsTold log.terms kept s tellings
  pub rest : kept_entries log.entries ≡ kept ++ kept_behind (offer_of s.phase) (drop read log.entries)

pub none_told : (log : Log) → IsPartTold log 0 (start_of log.terms) []
none_told log = record { kept = []; stands = refl; is_told = nothing_told log.terms; rest = refl }

-- the next entry may follow
pub next_follows : (log : Log) (read : ℕ) (s : State) (tellings : List Telling) (e : Entry) → IsLegalRecord log.terms log.entries
    → at_number log.entries (read + 1) ≡ Some e → IsPartTold log read s tellings → CanFollow s e
next_follows log read s tellings e legal at part =
    let here = entry_at (start_of log.terms) log.entries legal.1.0 read e legal.1.1 (rw add-one at at) in
    let same = one_standing log.terms (take read log.entries) here.0 s here.2 part.stands in
    (here.1, subst (λ (x : State). Follows x e here.1) same here.3)

-- one more entry is told
pub one_told : (log : Log) (read : ℕ) (s t : State) (e : Entry) (old new : List Telling) → IsLegalRecord log.terms log.entries
    → at_number log.entries (read + 1) ≡ Some e → IsPartTold log read s old → Follows s e t → AddsEntry s e t old new
    → IsPartTold log (read + 1) t new
one_told log read s t e old new legal at part follows (told, won, tells, wins, is) =
    let here = entry_at (start_of log.terms) log.entries legal.1.0 read e legal.1.1 (rw add-one at at) in
    record {
      kept = part.kept ++ kept_more e s.phase;
      stands = rw (add-one read, here.4) (Leads-push (start_of log.terms) (take read log.entries) e s t part.stands follows);
      is_told = rw is (entry_told log.terms part.kept s e t old told won follows part.is_told tells wins);
      rest = rw (add-one read, append_assoc)
          (part.rest ∙ ap (λ (xs : List Entry). part.kept ++ xs)
          (ap (kept_behind (offer_of s.phase)) here.5 ∙ kept_next s e t (drop (suc read) log.entries) follows));
    }

drop_all : (xs : List Entry) → drop (length xs) xs ≡ []
drop_all [] = refl
drop_all (x ∷ xs) = drop_all xs

none_kept : (offer : Option Level) → kept_behind offer [] ≡ []
none_kept None = refl
none_kept (Some level) = refl

-- the dice that are left are told too
last_told : (terms : Terms) (kept : List Entry) (s : State) (ph : Phase) (tellings : List Telling) (told : Option Telling)
    → s.phase ≡ ph → IsTold terms kept (record s { phase = ph }) tellings → TellsDice ph told
    → (p : Place) × (there : Awaited) × (told_entries : List Entry) × (kept ≡ told_entries)
    × Retold terms (with_telling tellings told) told_entries p there
last_told terms kept s phase.Opening tellings told ph h is = (h.place, h.there, h.told, h.at.0, rw is h.retold)
last_told terms kept s (phase.ToAct player) tellings told ph h is = (h.place, h.there, h.told, h.at.0, rw is h.retold)
last_told terms kept s (phase.Doubled player) tellings told ph h is = (h.place, h.there, h.told, h.at.0, rw is h.retold)
last_told terms kept s (phase.Over winner) tellings told ph h is = (h.place, h.there, h.told, h.at.0, rw is h.retold)
last_told terms kept s (phase.ToMove player dice) tellings told ph h is =
    let k = dice_told terms kept s player dice tellings h in
    (k.place, awaited.Row, k.told, k.all, rw is k.retold)
last_told terms kept s (phase.Resigned player level None) tellings told ph h is =
    (h.place, h.there, h.told, h.at.0, rw is h.retold)
last_told terms kept s (phase.Resigned player level (Some dice)) tellings told ph h is =
    let k = dice_told terms kept s player dice tellings (rejection_told terms kept s player (Some dice) level tellings h) in
    (k.place, awaited.Row, k.told, k.all, rw is k.retold)

-- all entries are told
pub all_told : (log : Log) (read : ℕ) (s : State) (old new : List Telling) (told : Option Telling)
    → read ≡ length log.entries → IsPartTold log read s old → TellsDice s.phase told → new ≡ with_telling old told
    → TellsRecord log new
all_told log read s old new told end part dice is =
    let (p, there, entries, all, retold) = last_told log.terms part.kept s s.phase old told refl part.is_told dice in
    let none : drop read log.entries ≡ [] = rw end (drop_all log.entries) in
    let kept : kept_entries log.entries ≡ entries =
    part.rest ∙ (ap (λ (xs : List Entry). part.kept ++ kept_behind (offer_of s.phase) xs) none
    ∙ (rw (none_kept (offer_of s.phase), append-nil part.kept) all)) in
    record {
      place = p;
      there = there;
      leads = rw (is, kept) retold.items;
      order = rw is retold.order;
    }

-- each of so many entries is there
pub there_is : (xs : List Entry) (i : ℕ) (r : Option (Bor Entry)) → i < length xs
    → option_copied r ≡ at_number xs (i + 1) → IsSome r
there_is xs i None within h =
    let e = slice_get-get_or xs i entry.Doubled within in
    absurd (cc (rw (add-one i) at h, e))
there_is xs i (Some x) within h = search rules

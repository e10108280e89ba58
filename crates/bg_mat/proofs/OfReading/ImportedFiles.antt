-- A file whose lines are read.
use Rattle.std.specs.Prelude.{◌≡◌, ◌↔◌, ℕ, ◌+◌, ◌<◌, ◌≤◌, Bool, true, false, IsTrue, List, [], ◌∷◌, ◌++◌}
use Rattle.std.proofs.Common.{refl, ◌∙◌, ap, subst, inl, inr, arith}
use Rattle.std.proofs.lemmas.Bool.{cases_lt}
use Rattle.bg_match.specs.Match.{Log, empty_log}
use Rattle.bg_match.specs.Terms.{Terms, terms_of}
use Rattle.bg_match.specs.declared.limits.Rules.{Rules}
use Rattle.bg_match.specs.declared.entries.Entry.{Entry}
use Rattle.bg_mat.specs.Files.{EndsFile, HasCrawford, ReadsFile, TellsFile, start_place}
use Rattle.bg_mat.specs.Rows.Headings.{IsHeader, IsLengthLine, SaysNoCrawford}
use Rattle.bg_text.specs.Judge.Judging.{lines_of}
use Rattle.bg_mat.specs.Reading.{EndsGames, ReadsGames}
use Rattle.bg_mat.specs.Replaying.{Begins, pending_items, place_of}
use Rattle.bg_mat.specs.Telling.{AreTold, Place, Told}
use Rattle.bg_mat.specs.declared.awaiting.Awaited.{Awaited}
use Rattle.bg_mat.specs.declared.playing.Replay.{Replay}
use Rattle.bg_mat.proofs.OfReading.ToldLines.{length_told}

-- a replay that begins stands where its match starts
begins_at : (begun : Log) (r : Replay) (terms : Terms) → begun.terms ≡ terms → Begins begun r
    → place_of r ≡ start_place terms
begins_at begun r terms is b = rw (b.standing, b.game, b.before, is) refl

pub file_imported : (id : ℕ) (rules : Rules) (input : List (List ℕ)) (rest line after : List ℕ) (n points : ℕ) (begun : Log) (r : Replay) (log : Log) (lines : List ℕ)
    → ((p : ℕ) (told : List Told) (there : Awaited) → TellsFile n (lines_of rest) p told there → TellsFile 1 input p told there)
    → lines_of rest ≡ line ∷ lines_of after → IsLengthLine line points → begun ≡ empty_log id (terms_of points rules)
    → Begins begun r → ReadsGames r (n + 1) (lines_of after) log lines → ReadsFile id rules input log lines
file_imported id rules input rest line after n points begun r log lines from split is begins b g =
    let terms : begun.terms ≡ terms_of points rules = ap (λ (l : Log). l.terms) begins in
    let grown_terms : log.terms ≡ r.log.terms = ap (λ (l : Log). l.terms) g.grown in
    let grown_id : log.id ≡ r.log.id = ap (λ (l : Log). l.id) g.grown in
    let none : r.log.entries ≡ [] = ap (λ (l : Log). l.entries) (b.same ∙ begins) in
    let entries : log.entries ≡ g.entries =
    ap (λ (l : Log). l.entries) g.grown ∙ ap (λ (xs : List Entry). xs ++ g.entries) none in
    let numbers : lines ≡ g.own = g.numbered ∙ ap (λ (xs : List ℕ). xs ++ g.own) b.lines in
    let items : pending_items r.pending ++ g.told ≡ g.told = ap (λ p. pending_items p ++ g.told) b.pending in
    let leads : AreTold (place_of r) g.told g.entries g.own g.place =
    subst (λ (told : List Told). AreTold (place_of r) told g.entries g.own g.place) items g.leads in
    record {
      points = points;
      told = g.told;
      there = g.there;
      place = g.place;
      file = from points g.told g.there (rw split (inr (is, g.file)));
      leads = rw (entries, numbers)
          (subst (λ (p : Place). AreTold p g.told g.entries g.own g.place) (begins_at begun r (terms_of points rules) terms b) leads);
      terms = grown_terms ∙ (ap (λ (l : Log). l.terms) b.same ∙ terms);
      match_id = grown_id ∙ (ap (λ (l : Log). l.id) b.same ∙ ap (λ (l : Log). l.id) begins);
      legal = g.legal;
    }

-- whether the file ends within a game
pub file_ends : (input : List (List ℕ)) (rest line after : List ℕ) (n points : ℕ) (within : Bool)
    → ((p : ℕ) (told : List Told) (there : Awaited) → TellsFile n (lines_of rest) p told there → TellsFile 1 input p told there)
    → lines_of rest ≡ line ∷ lines_of after → IsLengthLine line points → EndsGames (n + 1) (lines_of after) within
    → EndsFile input within
file_ends input rest line after n points within from split is (told, there, file, e) =
    (points, told, there, from points told there (rw split (inr (is, file))), e)

-- a file of a longer match would have a Crawford game
crawford_told : (n : ℕ) (lines : List (List ℕ)) (points : ℕ) (told : List Told) (there : Awaited) → TellsFile n lines points told there
    → 1 < points → HasCrawford lines
crawford_told n [] points told there h long = absurd h
crawford_told n (line ∷ lines) points told there (inl (header, says, h)) long =
    inl (header, crawford_told (n + 1) lines points told there h long)
crawford_told n (line ∷ lines) points told there (inr (is, h)) long = inr (length_told line points is, (points, is, long))

-- behind a header that takes no Crawford game away
pub crawford_behind : (rest line : List ℕ) (lines : List (List ℕ)) (counts : Bool) → lines_of rest ≡ line ∷ lines → IsHeader line
    → IsTrue counts ↔ HasCrawford (lines_of rest) → IsTrue counts ↔ HasCrawford lines
crawford_behind rest line lines counts split header h = (
  λ t. at (subst (λ (ls : List (List ℕ)). HasCrawford ls) split (h.0 t)),
  λ more. h.1 (rw split (inl (header, more))),
) where
  at : HasCrawford (line ∷ lines) → HasCrawford lines
  at (inl (is, more)) = more
  at (inr (none, more)) = absurd (none header)

few_points : (n : ℕ) (line : List ℕ) (lines : List (List ℕ)) (counts taken : Bool) (points : ℕ) (told : List Told) (there : Awaited)
    → IsTrue counts ↔ HasCrawford lines → IsTrue taken ↔ ((counts ≡ true) × SaysNoCrawford line) → taken ≡ false
    → TellsFile n lines points told there → SaysNoCrawford line → points ≤ 1
few_points n line lines counts taken points told there has takes not h says = elim (cases_lt 1 points) [
  | inl long ↦ let c : counts ≡ true = has.1 (crawford_told n lines points told there h long) in
      let t : taken ≡ true = takes.1 (c, says) in
      absurd (cc (t, not))
  | inr short ↦ omega (arith, short)
]

pub header_told : (rest line after : List ℕ) (n : ℕ) (counts taken : Bool) → lines_of rest ≡ line ∷ lines_of after → IsHeader line
    → IsTrue counts ↔ HasCrawford (lines_of after) → IsTrue taken ↔ ((counts ≡ true) × SaysNoCrawford line) → taken ≡ false
    → (points : ℕ) (told : List Told) (there : Awaited) → TellsFile (n + 1) (lines_of after) points told there
    → TellsFile n (lines_of rest) points told there
header_told rest line after n counts taken split header has takes not points told there h =
    rw split (inl (header, few_points (n + 1) line (lines_of after) counts taken points told there has takes not h, h))

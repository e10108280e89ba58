-- What the first entries of a record come to, one by one.
use Rattle.std.proofs.Common.{◌≡◌, ℕ, suc, ◌+◌, ◌-◌, List, ◌∷◌, [], ◌++◌, length, take, Some, min, ◌∙◌, ap, subst, sym, arith}
use Rattle.std.specs.Prelude.{slice_get}
use Rattle.std.proofs.lemmas.List.{take_min}
use Rattle.bg_match.specs.Follows.{Follows, CanFollow}
use Rattle.bg_match.specs.Match.{Log, StandsAt, IsLegalRecord, at_number}
use Rattle.bg_match.specs.State.{State, start_of}
use Rattle.bg_match.specs.declared.entries.Entry.{Entry}
use Rattle.bg_match.proofs.Legal.{one_standing}
use Rattle.bg_match.proofs.Runs.{Leads-push}
use Rattle.bg_text.specs.Boards.Transcript.{AreLinesOf, IsTranscript}
use Rattle.bg_text.specs.Judge.Reading.{IsPartWritten}
use Rattle.bg_text.proofs.Judged.WrittenLines.{entry_at}

-- an entry of a legal record follows where those before it lead
pub follows_here : (log : Log) (i : ℕ) (s : State) (e : Entry) → IsLegalRecord log.terms log.entries
    → StandsAt log.terms (take i log.entries) s → at_number log.entries (i + 1) ≡ Some e → CanFollow s e
follows_here log i s e legal stands at =
    let behind : i + 1 ≡ suc i = omega arith in
    let read : slice_get log.entries i ≡ Some e = subst (λ (n : ℕ). at_number log.entries n ≡ Some e) behind at in
    let here = entry_at (start_of log.terms) log.entries legal.1.0 i e legal.1.1 read in
    let same = one_standing log.terms (take i log.entries) here.0 s here.2 stands in
    (here.1, subst (λ (x : State). Follows x e here.1) same here.3)

-- where it leads is where they lead with it
pub leads_on : (log : Log) (i : ℕ) (s : State) (e : Entry) (next : State) → IsLegalRecord log.terms log.entries
    → StandsAt log.terms (take i log.entries) s → at_number log.entries (i + 1) ≡ Some e → Follows s e next
    → StandsAt log.terms (take (i + 1) log.entries) next
leads_on log i s e next legal stands at follows =
    let behind : i + 1 ≡ suc i = omega arith in
    let read : slice_get log.entries i ≡ Some e = subst (λ (n : ℕ). at_number log.entries n ≡ Some e) behind at in
    let here = entry_at (start_of log.terms) log.entries legal.1.0 i e legal.1.1 read in
    let taken : take (i + 1) log.entries ≡ take i log.entries ++ e ∷ [] =
    ap (λ (n : ℕ). take n log.entries) behind ∙ here.4 in
    subst (λ (xs : List Entry). StandsAt log.terms xs next) (sym taken)
    (Leads-push (start_of log.terms) (take i log.entries) e s next stands follows)

-- as many as there are, and not more than so many, are the first ones
pub as_many : (entries : List Entry) (count done : ℕ) → done ≡ min count (length entries)
    → take done entries ≡ take count entries
as_many entries count done most = ap (λ (n : ℕ). take n entries) most ∙ take_min count entries

-- what is written of them is their transcript
pub first_written : (log : Log) (count done : ℕ) (text : List ℕ) → done ≡ min count (length log.entries)
    → IsPartWritten log (done + 1) text → IsTranscript log.terms (take count log.entries) text
first_written log count done text most part =
    let back : done + 1 - 1 ≡ done = omega arith in
    let all : take (done + 1 - 1) log.entries ≡ take count log.entries =
    ap (λ (n : ℕ). take n log.entries) back ∙ as_many log.entries count done most in (
      part.lines,
      part.state,
      subst (λ (xs : List Entry). AreLinesOf (start_of log.terms) xs part.lines part.state) all part.each,
      part.written,
    )

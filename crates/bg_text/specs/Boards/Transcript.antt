-- The transcript of a match: its length and rules, and a line for each entry.
use Rattle.std.specs.Prelude.{◌≡◌, ℕ, List, [], ◌∷◌}
use Rattle.bg_match.specs.Terms.{Terms}
use Rattle.bg_match.specs.State.{State, start_of}
use Rattle.bg_match.specs.Actor.{actor_of, seat_of}
use Rattle.bg_match.specs.Follows.{Follows}
use Rattle.bg_match.specs.declared.entries.Entry.{Entry}
use Rattle.bg_text.specs.Boards.BoardText.{lines_text}
use Rattle.bg_text.specs.Entries.EntryText.{entry_text}
use Rattle.bg_text.specs.Boards.TermsText.{terms_text}

abbrev pub length_line : Terms → List ℕ
length_line terms = terms_text terms

-- each line is that of its entry, by the seat that acts or the referee, and the entries lead from s
-- to t
abbrev pub AreLinesOf : State → List Entry → List (List ℕ) → State → Type 0
AreLinesOf s [] [] t = t ≡ s
AreLinesOf s (e ∷ entries) (line ∷ lines) t =
    (line ≡ entry_text (seat_of (actor_of s)) e) × (next : State) × Follows s e next
    × AreLinesOf next entries lines t
AreLinesOf s [] (line ∷ lines) t = ⊥
AreLinesOf s (e ∷ entries) [] t = ⊥

-- the text is the transcript of a match of these terms with these entries
abbrev pub IsTranscript : Terms → List Entry → List ℕ → Type 0
IsTranscript terms entries text =
    (lines : List (List ℕ)) × (t : State) × AreLinesOf (start_of terms) entries lines t
    × (text ≡ lines_text (length_line terms ∷ lines))

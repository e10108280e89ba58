-- The bytes of a transcript that come part by part.
use Rattle.std.proofs.Common.{◌≡◌, ◌≢◌, ℕ, suc, ◌-◌, ◌<◌, List, [], ◌∷◌, ◌++◌, length, nat_eq, false, true, Option, None, Some, refl, sym, ◌∙◌, ap, arith, length-append, append-nil, append_assoc, inl, inr}
use Rattle.std.specs.Io.KnownBytes.{Consumes}
use Rattle.std.specs.Prelude.{is_some, Result, Ok, Err, IfOk}
use Rattle.std.proofs.lemmas.Bool.Decides.{nat_tests}
use Rattle.std.proofs.lemmas.Bool.{cases_lt}
use Rattle.std.proofs.Math.Seq.{get_or-append_right}
use Rattle.std.proofs.lemmas.List.{get_or_append_left}
use Rattle.bg_text.specs.Judge.Hearing.{AreAll, Begins, HasHeard, IsHeardOf, IsUnended, Keeps}
use Rattle.bg_text.specs.Judge.Judging.{IsAnswerTo, IsJudgement, IsTooLong, lines_of}
use Rattle.bg_text.specs.declared.faults.LineFault.{LineFault}
use Rattle.bg_text.specs.declared.judging.courses.Heard.{Heard}
use Rattle.bg_text.specs.declared.judging.hearing.Judge.{Judge}
use Rattle.bg_text.specs.declared.judging.judgements.Judgement.{Judgement}
use Rattle.bg_text.specs.declared.judging.verdicts.Verdict.{Verdict}
use Rattle.bg_text.proofs.Judged.InputLines.{lines_of-last}

-- no byte is a line feed where there is none
pub none_unended : IsUnended []
none_unended i within = absurd (omega (arith, within))

-- two parts of a line
unended_append : (xs ys : List ℕ) → IsUnended xs → IsUnended ys → IsUnended (xs ++ ys)
unended_append xs ys left right i within = elim (cases_lt i (length xs)) [
  | inl before ↦ λ same. left i before (sym (get_or_append_left xs ys 0 i before) ∙ same)
  | inr behind ↦ λ same.
      right (i - length xs) (omega (arith, within, behind, length-append xs ys)) (sym (get_or-append_right xs ys i 0 behind) ∙ same)
]

-- a line feed ends a line
ended_line : (xs more : List ℕ) → IsUnended xs → lines_of (xs ++ 10 ∷ more) ≡ xs ∷ lines_of more
ended_line [] more none = refl
ended_line (x ∷ xs) more none =
    let other : nat_eq x 10 ≡ false = grind (arith, nat_tests, none 0 (omega arith)) in
    let rest = ended_line xs more (λ k below. none (suc k) (omega (arith, below))) in
    rw (other, rest) refl

-- where a line has just ended
begins_at_end : (refusal : Option LineFault) (bytes : List ℕ) (lines : List (List ℕ)) → ((more : List ℕ) → lines_of (bytes ++ more) ≡ lines ++ lines_of more)
    → Begins refusal bytes [] lines
begins_at_end None bytes lines are = (none_unended, are)
begins_at_end (Some why) bytes lines are = λ more. (lines_of more, are more)

-- once a line is refused, what comes behind it changes nothing
begins_still : (refusal : Option LineFault) (told unended : List ℕ) (lines : List (List ℕ)) (bytes : List ℕ) → Begins refusal told unended lines → refusal ≢ None
    → Begins refusal (told ++ bytes) unended lines
begins_still None told unended lines bytes begins some = absurd (some refl)
begins_still (Some why) told unended lines bytes begins some =
    λ more. ((begins (bytes ++ more)).0, ap lines_of (append_assoc told bytes more) ∙ (begins (bytes ++ more)).1)

module _ (told : List ℕ) (old : Heard) (unended : List ℕ) (heard : HasHeard told old unended) where
  -- the end of a line has come
  pub line_heard : (bytes : List ℕ) (new : Heard) → old.refusal ≡ None → IsUnended bytes
      → ((lines : List (List ℕ)) → Keeps old.course None lines → Keeps new.course new.refusal (lines ++ (unended ++ bytes) ∷ []))
      → HasHeard (told ++ bytes ++ 10 ∷ []) new []
  line_heard bytes new none whole hears =
      let begins = rw none at heard.begins in
      let keeps = rw none at heard.keeps in
      let line = unended_append unended bytes begins.0 whole in
      let are : (more : List ℕ) → lines_of ((told ++ bytes ++ 10 ∷ []) ++ more) ≡ (heard.lines ++ (unended ++ bytes) ∷ []) ++ lines_of more = λ more.
      let one : (told ++ bytes ++ 10 ∷ []) ++ more ≡ told ++ (bytes ++ 10 ∷ more) = simp append_assoc in
      let two : unended ++ (bytes ++ 10 ∷ more) ≡ (unended ++ bytes) ++ 10 ∷ more = simp append_assoc in
      let three : heard.lines ++ ((unended ++ bytes) ∷ lines_of more) ≡ (heard.lines ++ (unended ++ bytes) ∷ []) ++ lines_of more = simp append_assoc in
      ap lines_of one ∙ begins.1 (bytes ++ 10 ∷ more) ∙ ap (λ xs. heard.lines ++ lines_of xs) two
      ∙ ap (λ ls. heard.lines ++ ls) (ended_line (unended ++ bytes) more line) ∙ three in
      record {
        lines = heard.lines ++ (unended ++ bytes) ∷ [];
        begins = begins_at_end new.refusal (told ++ bytes ++ 10 ∷ []) (heard.lines ++ (unended ++ bytes) ∷ []) are;
        keeps = hears heard.lines keeps;
      }

  -- bytes of a line have come, and not its end
  pub part_heard : (bytes : List ℕ) → old.refusal ≡ None → IsUnended bytes → HasHeard (told ++ bytes) old (unended ++ bytes)
  part_heard bytes none whole =
      let begins = rw none at heard.begins in
      let more_begins : Begins None (told ++ bytes) (unended ++ bytes) heard.lines = (
        unended_append unended bytes begins.0 whole,
        λ more.
            let one : (told ++ bytes) ++ more ≡ told ++ (bytes ++ more) = append_assoc told bytes more in
            let two : unended ++ (bytes ++ more) ≡ (unended ++ bytes) ++ more = sym (append_assoc unended bytes more) in
            ap lines_of one ∙ begins.1 (bytes ++ more) ∙ ap (λ xs. heard.lines ++ lines_of xs) two,
      ) in
      record { lines = heard.lines; begins = rw none more_begins; keeps = heard.keeps }

  -- what comes behind a line that is refused
  pub rest_unheard : (bytes : List ℕ) → old.refusal ≢ None → HasHeard (told ++ bytes) old unended
  rest_unheard bytes some = record { lines = heard.lines; begins = begins_still old.refusal told unended heard.lines bytes heard.begins some; keeps = heard.keeps }

-- all lines, where none is left open or one was refused
pub all_heard : (refusal : Option LineFault) (told unended : List ℕ) (lines : List (List ℕ)) → Begins refusal told unended lines → (refusal ≡ None → unended ≡ [])
    → AreAll refusal lines (lines_of told)
all_heard None told unended lines begins ended =
    ap lines_of (sym (append-nil told)) ∙ begins.1 [] ∙ ap (λ xs. lines ++ lines_of (xs ++ [])) (ended refl) ∙ append-nil lines
all_heard (Some why) told unended lines begins ended =
    ((begins []).0, ap lines_of (sym (append-nil told)) ∙ (begins []).1)

-- a list of lines is all of them, whether the last one is refused or not
are_all : (refusal : Option LineFault) (lines all : List (List ℕ)) → all ≡ lines → AreAll refusal lines all
are_all None lines all same = same
are_all (Some why) lines all same = ([], same ∙ sym (append-nil lines))

-- all lines, where the last one has no end
pub last_heard : (refusal : Option LineFault) (told unended : List ℕ) (lines : List (List ℕ)) → Begins None told unended lines → 0 < length unended
    → AreAll refusal (lines ++ unended ∷ []) (lines_of told)
last_heard refusal told unended lines begins some =
    are_all refusal (lines ++ unended ∷ []) (lines_of told)
    (ap lines_of (sym (append-nil told)) ∙ begins.1 [] ∙ ap (λ xs. lines ++ lines_of xs) (append-nil unended)
    ∙ ap (λ ls. lines ++ ls) (lines_of-last unended some begins.0))

-- no line is refused
pub none_of : (refusal : Option LineFault) → is_some refusal ≡ false → refusal ≡ None
none_of None is = refl
none_of (Some why) is = absurd cc

-- a line is refused
pub some_of : (refusal : Option LineFault) → is_some refusal ≡ true → refusal ≢ None
some_of None is none = absurd cc
some_of (Some why) is none = absurd cc

-- the judgement on all that was told
abbrev pub Answers : {E : Type 0} → Result Judgement E → Heard → Type 0
Answers r heard = IfOk r (λ j. (lines all : List (List ℕ)) → Keeps heard.course heard.refusal lines → AreAll heard.refusal lines all
    → IsAnswerTo all j.text.items j.verdict)

pub all_answered : {E : Type 0} (r : Result Judgement E) (heard : Heard) (unended : List ℕ) → (heard.refusal ≡ None → unended ≡ []) → Answers r heard
    → IfOk r (λ j. (told : List ℕ) → HasHeard told heard unended → IsAnswerTo (lines_of told) j.text.items j.verdict)
all_answered (Ok j) heard unended ended answers =
    λ told has. answers has.lines (lines_of told) has.keeps (all_heard heard.refusal told unended has.lines has.begins ended)
all_answered (Err e) heard unended ended answers = tt

pub last_answered : {E : Type 0} (r : Result Judgement E) (old new : Heard) (unended : List ℕ) → old.refusal ≡ None → 0 < length unended
    → ((lines : List (List ℕ)) → Keeps old.course None lines → Keeps new.course new.refusal (lines ++ unended ∷ [])) → Answers r new
    → IfOk r (λ j. (told : List ℕ) → HasHeard told old unended → IsAnswerTo (lines_of told) j.text.items j.verdict)
last_answered (Ok j) old new unended none some hears answers =
    λ told has.
    let begins = rw none at has.begins in
    let keeps = rw none at has.keeps in
    answers (has.lines ++ unended ∷ []) (lines_of told) (hears has.lines keeps) (last_heard new.refusal told unended has.lines begins some)
last_answered (Err e) old new unended none some hears answers = tt

-- known bytes that were read in two parts
pub consumes_on : (u v w : Option (List ℕ)) (first second : List ℕ) → Consumes u v first → Consumes v w second → Consumes u w (first ++ second)
consumes_on None v w first second front behind = tt
consumes_on (Some xs) None w first second front behind = absurd front
consumes_on (Some xs) (Some ys) None first second front behind = absurd behind
consumes_on (Some xs) (Some ys) (Some zs) first second front behind =
    front ∙ ap (λ rest. first ++ rest) behind ∙ sym (append_assoc first second zs)

-- what is said at the end of who was told an input, or of nobody
abbrev pub IsSaid : Option Judge → List ℕ → Verdict → Type 0
IsSaid None text verdict = IsTooLong text verdict
IsSaid (Some judge) text verdict = (told : List ℕ) → HasHeard told judge.heard judge.unended.items → IsAnswerTo (lines_of told) text verdict

-- is the judgement on the input
pub said_of_input : (judge : Option Judge) (input text : List ℕ) (verdict : Verdict) → IsHeardOf judge input → IsSaid judge text verdict → IsJudgement input text verdict
said_of_input None input text verdict heard said = inl (heard, said)
said_of_input (Some judge) input text verdict heard said = inr (heard.0, said input heard.1)

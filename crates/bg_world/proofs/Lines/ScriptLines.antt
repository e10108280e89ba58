-- A script, line by line.
use Rattle.std.proofs.Common.{◌≡◌, ℕ, ◌+◌, ◌<◌, ◌≤◌, List, [], ◌∷◌, ◌++◌, length, Option, Some, None, refl, sym, ◌∙◌, ap, subst, arith, inl, inr, append_assoc, length-append, length-take}
use Rattle.std.specs.Prelude.{◌⊎◌, map, take, IfSome}
use Rattle.std.specs.List.{AllByRecursion}
use Rattle.std.proofs.lemmas.Grind.{flat_map-append}
use Rattle.std.proofs.lemmas.List.{append-nil, map-append, take_all}
use Rattle.bg_streams.specs.Transfers.{IsReadOf}
use Rattle.bg_text.specs.Boards.BoardText.{line_text, lines_text}
use Rattle.bg_text.specs.Judge.Judging.{lines_of}
use Rattle.bg_text.specs.Limits.{most_bytes}
use Rattle.bg_text.specs.declared.faults.TextFault.{TextFault}
use Rattle.bg_text.specs.declared.judging.verdicts.Verdict.{Verdict}
use Rattle.bg_text.specs.declared.judging.verdicts.Verdict.TheVariants.{Fine}
use Rattle.bg_protocol.specs.Worlds.Calls.{Calls}
use Rattle.bg_world.specs.Texts.EventText.{IsEvent, IsEventTextFault, event_text}
use Rattle.bg_world.specs.Texts.FinalText.{IsFinalText}
use Rattle.bg_world.specs.Texts.OutcomeText.{outcome_text}
use Rattle.bg_world.specs.Texts.ScriptText.{IsPlayed, IsRefused, IsRefusedAt, IsScriptText, IsTextFrom}
use Rattle.bg_world.specs.Texts.Scripts.{IsPartPlayed, PlaysLines}
use Rattle.bg_protocol.specs.Worlds.Simulations.{start_in_memory}
use Rattle.bg_protocol.specs.Worlds.Views.{WorldView}
use Rattle.bg_protocol.specs.declared.worlds.setups.Setup.{Setup}
use Rattle.bg_protocol.specs.Worlds.WorldRuns.{CallsAll}
use Rattle.bg_protocol.specs.declared.events.Event.{Event}
use Rattle.bg_protocol.specs.declared.events.Outcome.{Outcome}
use Rattle.bg_protocol.proofs.ReachedWorlds.Running.{calls_more}

-- ---- events

good_more : (events : List Event) (e : Event) → AllByRecursion IsEvent events → IsEvent e
    → AllByRecursion IsEvent (events ++ e ∷ [])
good_more [] e h k = (k, tt)
good_more (x ∷ events) e h k = (h.0, good_more events e h.1 k)

-- one line more is that of one event more
split_more : (lines : List (List ℕ)) (events : List Event) (rest after line : List ℕ) (e : Event)
    → lines ≡ map event_text events ++ lines_of rest → lines_of rest ≡ line ∷ lines_of after → line ≡ event_text e
    → lines ≡ map event_text (events ++ e ∷ []) ++ lines_of after
split_more lines events rest after line e split first is =
    split ∙ ap (λ (t : List (List ℕ)). map event_text events ++ t) first
    ∙ ap (λ (t : List ℕ). map event_text events ++ t ∷ lines_of after) is
    ∙ sym (append_assoc (map event_text events) (event_text e ∷ []) (lines_of after))
    ∙ ap (λ (t : List (List ℕ)). t ++ lines_of after) (sym (map-append event_text events (e ∷ [])))

-- no line is left
all_lines : (lines : List (List ℕ)) (events : List Event) (rest : List ℕ) → rest ≡ []
    → lines ≡ map event_text events ++ lines_of rest → lines ≡ map event_text events
all_lines lines events rest none split =
    split ∙ ap (λ (t : List ℕ). map event_text events ++ lines_of t) none ∙ append-nil (map event_text events)

-- ---- what happens

pub played_start : (lh kh : Type 0) (old new : WorldView) (input before after rest : List ℕ)
    → rest ≡ input → after ≡ before → new ≡ old → IsPartPlayed lh kh old input before after new 0 rest
played_start lh kh old new input before after rest same text world = record {
  events = [];
  outcomes = [];
  split = ap lines_of (sym same);
  good = tt;
  calls = world;
  added = text ∙ sym (append-nil before);
  counted = refl;
  few = omega (arith, ap length same);
}

pub played_more : (lh kh : Type 0) (old mid new : WorldView) (input before so_far now : List ℕ) (count next : ℕ)
    (rest after line : List ℕ) (e : Event) (outcome : Outcome)
    → IsPartPlayed lh kh old input before so_far mid count rest → lines_of rest ≡ line ∷ lines_of after
    → length after < length rest → IsEvent e → line ≡ event_text e → Calls lh kh mid e outcome new
    → now ≡ so_far ++ line_text (outcome_text outcome) → next ≡ count + 1
    → IsPartPlayed lh kh old input before now new next after
played_more lh kh old mid new input before so_far now count next rest after line e outcome h first shorter range is calls grown more = record {
  events = h.events ++ e ∷ [];
  outcomes = h.outcomes ++ outcome ∷ [];
  split = split_more (lines_of input) h.events rest after line e h.split first is;
  good = good_more h.events e h.good range;
  calls = calls_more lh kh old h.events h.outcomes mid e outcome new h.calls calls;
  added =
      grown ∙ ap (λ (t : List ℕ). t ++ line_text (outcome_text outcome)) h.added
      ∙ append_assoc before (lines_text (map outcome_text h.outcomes)) (line_text (outcome_text outcome))
      ∙ ap (λ (t : List ℕ). before ++ t) (sym (told_more h.outcomes outcome));
  counted = omega (arith, more, h.counted, length-append h.events (e ∷ []));
  few = omega (arith, more, h.few, shorter);
}
  where
    told_more : (outcomes : List Outcome) (o : Outcome)
        → lines_text (map outcome_text (outcomes ++ o ∷ []))
        ≡ lines_text (map outcome_text outcomes) ++ line_text (outcome_text o)
    told_more outcomes o =
        ap lines_text (map-append outcome_text outcomes (o ∷ []))
        ∙ flat_map-append line_text (map outcome_text outcomes) (outcome_text o ∷ [])
        ∙ ap (λ (t : List ℕ). lines_text (map outcome_text outcomes) ++ t) (append-nil (line_text (outcome_text o)))

pub played_all : (lh kh : Type 0) (old new : WorldView) (input before after : List ℕ) (count : ℕ) (rest : List ℕ)
    → IsPartPlayed lh kh old input before after new count rest → rest ≡ []
    → PlaysLines lh kh old (lines_of input) before after new count
played_all lh kh old new input before after count rest h none = record {
  events = h.events;
  outcomes = h.outcomes;
  good = (all_lines (lines_of input) h.events rest none h.split, h.good);
  calls = h.calls;
  added = h.added;
  counted = h.counted;
}

pub refused_at : (lh kh : Type 0) (old new : WorldView) (input before so_far : List ℕ) (count number : ℕ)
    (rest after line : List ℕ) (why : TextFault)
    → IsPartPlayed lh kh old input before so_far new count rest → lines_of rest ≡ line ∷ lines_of after
    → IsEventTextFault why line → number ≡ count + 1 → IsRefusedAt (lines_of input) number why
refused_at lh kh old new input before so_far count number rest after line why h first fault is = record {
  events = h.events;
  bad = line;
  behind = lines_of after;
  split = h.split ∙ ap (λ (t : List (List ℕ)). map event_text h.events ++ t) first;
  good = h.good;
  counted = omega (arith, is, h.counted);
  fault = fault;
}

-- ---- the text

pub is_played : (lh kh : Type 0) (old new : WorldView) (lines : List (List ℕ)) (count : ℕ)
    (before told slice end text : List ℕ)
    → PlaysLines lh kh old lines before told new count → before ≡ [] → IsFinalText new end
    → text ≡ told ++ slice → slice ≡ end → IsPlayed lh kh old lines text (Fine count)
is_played lh kh old new lines count before told slice end text plays empty ended printed same = record {
  events = plays.events;
  outcomes = plays.outcomes;
  new = new;
  end = end;
  good = plays.good;
  calls = plays.calls;
  ended = ended;
  printed =
      printed ∙ ap (λ (t : List ℕ). told ++ t) same
      ∙ ap (λ (t : List ℕ). t ++ end) (plays.added
      ∙ ap (λ (t : List ℕ). t ++ lines_text (map outcome_text plays.outcomes)) empty);
  fine = ap Fine plays.counted;
}

pub none_happen : (lh kh : Type 0) (old new : WorldView) (outcomes : List Outcome)
    → CallsAll lh kh old [] outcomes new → new ≡ old
none_happen lh kh old new [] h = h
none_happen lh kh old new (o ∷ outcomes) h = absurd h

-- ---- what is printed of what is read is printed of the bytes

text_whole : (lh kh : Type 0) (old : WorldView) (bytes input text : List ℕ) (verdict : Verdict) → IsReadOf most_bytes input bytes
    → IsTextFrom lh kh old input text verdict → IsTextFrom lh kh old bytes text verdict
text_whole lh kh old bytes input text verdict read from =
    let long : length input ≡ length (take (most_bytes + 1) bytes) = ap length read in
    let front = length-take (most_bytes + 1) bytes in
    elim from [
      | inl long_input ↦ inl (omega (arith, long_input.0, long, front), long_input.1)
      | inr answer ↦
          let few : length bytes ≤ most_bytes = omega (arith, answer.0, long, front) in
          let same : input ≡ bytes = read ∙ take_all (most_bytes + 1) bytes (omega (arith, few)) in
          inr (
            few,
            subst (λ (t : List ℕ). IsPlayed lh kh old (lines_of t) text verdict ⊎ IsRefused (lines_of t) text verdict)
                same answer.1,
          )
    ]

pub script_known : (setup : Setup) (u : Option (List ℕ)) (input text : List ℕ) (verdict : Verdict)
    → IfSome u (IsReadOf most_bytes input) → IsScriptText setup input text verdict
    → IfSome u (λ bytes. IsScriptText setup bytes text verdict)
script_known setup None input text verdict read h = tt
script_known setup (Some bytes) input text verdict read (plan, empty, from) =
    (plan, empty, text_whole (Unit {0}) (Unit {0}) (start_in_memory setup plan) bytes input text verdict read from)

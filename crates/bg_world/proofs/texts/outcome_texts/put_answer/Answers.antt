use Rattle.std.proofs.Common.{◌≡◌, Some, sym, ap, append_assoc}
use Rattle.bg_world.specs.Texts.OutcomeText.{entries_told, told_part}
use Rattle.bg_world.proofs.texts.outcome_texts.put_answer.Goals as goal

pub returns-in-Some : goal.returns-in-Some
returns-in-Some c =
    let told : told_part (entries_told c.args.packet.now) ≡ told_part (Some (c.in-Some.first, c.in-Some.last)) =
    ap told_part (sym c.in-Some.ensures) in
    simp (
      c.push_str-in-Some-4.ensures.bytes,
      c.push_str-in-Some-3.ensures.bytes,
      c.push_str-in-Some-2.ensures.bytes,
      c.push_str-in-Some.ensures.bytes,
      c.push_str.ensures.bytes,
      c.push_str-2.ensures.bytes,
      c.requires.empty,
      c.format.ensures.text,
      c.format-in-Some.ensures.text,
      c.format-in-Some-2.ensures.text,
      told,
      append_assoc,
    )

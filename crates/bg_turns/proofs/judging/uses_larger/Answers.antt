use Rattle.std.proofs.Common.{◌≡◌, ◌∙◌, sym, refl}
use Rattle.bg_turns.proofs.Parts.{single}
use Rattle.bg_turns.proofs.judging.uses_larger.Goals as goal

pub returns : goal.returns
returns c =
    let one = single _ _ c.in-len1.len_at_least c.in-len1.len_below c.step-item.is in
    let other = rw c.larger-larger.ensures at (c.if-not-can_step.ensures.0 refl) in (
      λ yes step is _ _.
          let same : c.step-item.result ≡ step = cc in
          let legal = rw c.larger-larger.ensures at (c.play_step.ensures.ok.0 (sym c.is_ok.ensures.value ∙ yes)) in
          rw same at legal,
      λ uses.
          let legal = uses c.step-item.result one (λ same. let wrong = c.if-is_double.ensures.1 same in cc) other in
          c.is_ok.ensures.value ∙ c.play_step.ensures.ok.1 (rw c.larger-larger.ensures legal),
    )

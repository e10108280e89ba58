use Rattle.std.proofs.Common.{◌∙◌, sym}
use Rattle.std.proofs.lemmas.Bool.{eqb-true, eq-eqb}
use Rattle.std.proofs.lemmas.Nat.Bits.{shr_and_one}
use Rattle.bg_turns.proofs.masks.holds.Goals as goal

pub returns : goal.returns
returns c =
    let bit = shr_and_one c.args.places c.args.place in (
      λ yes. sym bit ∙ eqb-true _ _ yes,
      λ on. eq-eqb _ _ (bit ∙ on),
    )

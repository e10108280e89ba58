use Rattle.std.proofs.Common.{◌≡◌, suc, ◌+◌, ◌-◌, ◌<◌, ◌++◌, ◌∷◌, length, get_or, take, drop, refl, sym, ◌∙◌, ap, arith, length-drop, length-take, add-one}
use Rattle.std.proofs.lemmas.Bool.Decides.{nat_tests}
use Rattle.std.proofs.lemmas.List.{take_all, get_or-take}
use Rattle.std.proofs.Math.Seq.{split_at}
use Rattle.bg_text.proofs.inputs.split_ended_line.Goals as goal

pub returns-clause-line : goal.returns-clause-line
returns-clause-line c =
    let first = c.in_ok-end.ensures in
    let bytes = c.args.bytes.now in
    let end = c.in_ok-end.end in
    let here : get_or bytes end 0 ≡ 10 = grind (arith, nat_tests, first.1) in
    let rest : take (length bytes - (end + 1)) (drop (end + 1) bytes) ≡ drop (end + 1) bytes = take_all _ _ (simp length-drop (omega arith)) in (
      λ i within same.
          let below : i < end = omega (arith, within, length-take end bytes) in
          first.0.before i (omega arith) below (rw (sym (get_or-take end bytes i 0 below) ∙ same) refl),
      rw (rest, add-one) (split_at bytes end 0 first.0.high ∙ ap (λ byte. take end bytes ++ byte ∷ drop (suc end) bytes) here),
    )

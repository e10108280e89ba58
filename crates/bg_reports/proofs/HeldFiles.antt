-- What a file holds.
use Rattle.std.proofs.Common.{◌≡◌, ◌≢◌, ℕ, List, Result, Ok, Err, IsOk, IfOk, sym, subst, ◌∙◌}
use Rattle.bg_wire.specs.Saved.Restoring.{LoadsAs}
use Rattle.bg_wire.specs.Saved.SavedText.{SavedParts, IsSavedText, parts_of}
use Rattle.bg_wire.specs.declared.faults.LoadFault.{LoadFault}
use Rattle.bg_wire.specs.declared.faults.LoadFault.TheVariants.{Memory}
use Rattle.bg_wire.specs.declared.saves.Saved.{Saved}
use Rattle.bg_reports.specs.Show.{loaded_of}

not_ok : (why : LoadFault) → IsOk {T = Saved} {E = LoadFault} (Err why) → ⊥
not_ok why ok = absurd cc

-- what was loaded is all that the bytes load as, unless memory was wanted
pub loads_as : (bytes : List ℕ) (held result : Result Saved LoadFault) → held ≡ result
    → IfOk result (λ saved. IsSavedText (parts_of saved) bytes)
    → ((p : SavedParts) → IsSavedText p bytes → result ≢ Err Memory
    → IsOk result × IfOk result (λ saved. parts_of saved ≡ p))
    → held ≢ Err Memory → LoadsAs bytes (loaded_of held)
loads_as bytes (Ok saved) result same found only other =
    subst (λ (r : Result Saved LoadFault). IfOk r (λ saved. IsSavedText (parts_of saved) bytes)) (sym same) found
loads_as bytes (Err why) result same found only other =
    λ p h. not_ok why (subst (λ (r : Result Saved LoadFault). IsOk r) (sym same) (only p h (λ e. other (same ∙ e))).0)

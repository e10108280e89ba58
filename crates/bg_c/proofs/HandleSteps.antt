-- The machine value of a handle: a pointer that may be null, and the allocator's handle. Assumes
-- `Logic`.
use Rattle.std.proofs.Common.{◌≡◌, List, [], ◌∷◌, ◌++◌, refl, subst}
use seplogic.Ra.Ura.{Ura}
use mir.Syntax.{impl, tnil, dnil}
use mir.Val.{Val, vstruct, of_list}
use types.Logic.{Logic}
use types.Kit.{Item, Goal, Seq, Step, step, ‵, ◌$◌, move, drop, fsplit, fjoin, fpick, fpack, feq_i, feq_l}
use denote.RattleType.{RattleType, Valss}
use denote.Builtin.{RawPtr}
use denote.RawPtr.{Ptr, ptr_val}
use denote.Steps.{nothing}
use denote.Param.{layout}
use denote.Param.Laws.{Laws}
use denote.Struct.Struct.{within}
use denote.Struct.Owning.{shape, to}
use Rattle.std.proofs.alloc.Calls.{Al, handle_tells}
use Rattle.std.proofs.cell.Inside.{Good}
use Rattle.std.specs.declared.alloc.Global.{Global}
use Rattle.std.specs.contracts.alloc.Global as Heap
use Rattle.std.specs.contracts.impls.GlobalAllocator.TheImpl.{ghosts, dict}
use Rattle.std.proofs.alloc.Global.TheLaws as heap
use Rattle.bg_parties.specs.contracts.party.Party as Party
use Rattle.bg_c.specs.Handle.{Kept, handle_owns}
use Rattle.bg_c.specs.contracts.handle.Handle as Handle
use Rattle.bg_c.specs.contracts.loose.Loose as Loose
use Rattle.bg_c.proofs.Values.{both}

abbrev pub R : RattleType
R = Party.the_row

abbrev pub Z : RattleType
Z = Heap.the_row

abbrev pub LZ : Laws Z
LZ = heap.the_row_laws

abbrev pub Held : RattleType
Held = Handle.the_row

abbrev pub Open : RattleType
Open = Loose.the_row R Z ghosts

abbrev pub al : Al
al = record { row = Z; laws = LZ; g = ghosts; d = dict; drops = impl [] tnil dnil }

module _ {M : Type 1} {𝓤 : Ura M} {𝓛 : Logic 𝓤} {K : Type 0} {Γ : List (Item 𝓤)} {G : Goal 𝓤 𝓛.H} where
  pub handle_out : K → (d : Held.Denot) (vs : List Val)
      → ((h : Val) → vs ≡ both (ptr_val d.at) h ∷ [] → Good (layout Z) h → Seq K 𝓛 (‵ (handle_owns d.alloc d.at d.value) ∷ ‵ (Z.own_val d.alloc (h ∷ [])) ∷ Γ) G)
      → Seq K 𝓛 (‵ (Held.own_val d vs) ∷ Γ) G
  handle_out t d vs k =
      fsplit t $ fpick t (λ vss. fsplit t $ feq_l t (λ ev. fsplit t $ feq_l t (λ ep. fsplit t $ handle_tells al t d.alloc vss.1.0 (λ h ea fits. move t (1 ∷ []) $ drop t $ move t (1 ∷ []) $
      k h (subst (λ (ws : List Val). vs ≡ vstruct (of_list (ptr_val d.at ∷ (ws ++ []))) ∷ []) ea (subst (λ (ps : List Val). vs ≡ vstruct (of_list (ps ++ (vss.1.0 ++ []))) ∷ []) ep ev)) fits))))

  pub handle_in : K → (p : Ptr) (h : Val) (a : Global) (x : Kept)
      → Step K 𝓛 (‵ (Held.own_val (record { at = p; alloc = a; value = x }) (both (ptr_val p) h ∷ [])) ∷ Γ) G (‵ (handle_owns a p x) ∷ ‵ (Z.own_val a (h ∷ [])) ∷ Γ) G
  handle_in t p h a x = step (λ s. let v : Val = both (ptr_val p) h in
      nothing t $ move t (2 ∷ 0 ∷ []) $ fjoin t $ feq_i t (List Val) (ptr_val p ∷ []) (ptr_val p ∷ []) refl $ fjoin t $ feq_i t (List Val) (v ∷ []) (v ∷ []) refl $ fjoin t $
      fpack t (Valss (RawPtr ∷ Z ∷ [])) (within (shape Handle.the_type) (to Handle.the_type (record { at = p; alloc = a; value = x })) (v ∷ [])) (ptr_val p ∷ [], (h ∷ [], tt)) $ fjoin t $ s)

-- The machine values of a `Handle`. Assumes `Logic`.
use Rattle.std.proofs.Common.{◌≡◌, List, [], ◌∷◌, ◌++◌, refl, subst}
use Rattle.std.specs.Prelude.{Bool}
use seplogic.Ra.Ura.{Ura}
use mir.Val.{Val, vbool, vstruct, of_list}
use types.Logic.{Logic}
use types.Kit.{Item, Goal, Seq, Step, step, ‵, ◌$◌, drop, fsplit, fjoin, fpick, fpack, feq_i, feq_l}
use denote.RattleType.{Valss}
use denote.Builtin.{RawPtr, bool}
use denote.RawPtr.{Ptr, ptr_val}
use denote.Steps.{nothing}
use denote.Param.Laws.{Laws}
use denote.Struct.Struct.{within}
use denote.Struct.Owning.{shape}
use Rattle.std.specs.contracts.alloc.Global.{the_row as Z}
use Rattle.std.proofs.alloc.Global.TheLaws as heap
use Rattle.call_flag.specs.Owning.{kept_at}
use Rattle.call_flag.specs.contracts.owner.Owner.{the_row as R}
use Rattle.call_flag.specs.contracts.handle.FlagHandle as handle

abbrev pub LZ : Laws Z
LZ = heap.the_row_laws

abbrev pub word : Ptr → Bool → Val
word p y = vstruct (of_list (ptr_val p ∷ vbool y ∷ []))

module _ {M : Type 1} {𝓤 : Ura M} {𝓛 : Logic 𝓤} {K : Type 0} {Γ : List (Item 𝓤)} {G : Goal 𝓤 𝓛.H} where
  pub handle_in : K → (p : Ptr) (y : Bool) (x : R.Denot)
      → Step K 𝓛 (‵ (handle.the_row.own_val (record { at = p; there = y; kept = x }) (word p y ∷ [])) ∷ Γ) G (‵ (kept_at p y x) ∷ Γ) G
  handle_in t p y x = step (λ s.
      nothing t $ feq_i t (List Val) (vbool y ∷ []) (vbool y ∷ []) refl $ fjoin t $ feq_i t (List Val) (ptr_val p ∷ []) (ptr_val p ∷ []) refl $ fjoin t $ feq_i t (List Val) (word p y ∷ []) (word p y ∷ []) refl $ fjoin t $
      fpack t (Valss (RawPtr ∷ bool ∷ [])) (within (shape handle.the_type) (p, (y, tt)) (word p y ∷ [])) (ptr_val p ∷ [], (vbool y ∷ [], tt)) $ fjoin t $ s)

  pub handle_out : K → (d : handle.the_row.Denot) (vs : List Val)
      → (vs ≡ word d.at d.there ∷ [] → Seq K 𝓛 (‵ (kept_at d.at d.there d.kept) ∷ Γ) G)
      → Seq K 𝓛 (‵ (handle.the_row.own_val d vs) ∷ Γ) G
  handle_out t d vs k =
      fsplit t $ fpick t (λ vss. fsplit t $ feq_l t (λ ev. fsplit t $ feq_l t (λ ep. fsplit t $ feq_l t (λ ey. drop t $ k
      (subst (λ (ys : List Val). vs ≡ vstruct (of_list (ptr_val d.at ∷ (ys ++ []))) ∷ []) ey (subst (λ (ps : List Val). vs ≡ vstruct (of_list (ps ++ (vss.1.0 ++ []))) ∷ []) ep ev))))))

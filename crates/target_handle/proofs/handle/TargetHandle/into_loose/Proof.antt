-- `into_loose` gives the pointer its type again.
use Rattle.std.proofs.Common.{◌≡◌, List, [], ◌∷◌, ◌++◌, refl, sym, subst}
use Rattle.std.specs.Prelude.{Bool, true}
use mir.Raw.{raw as bare}
use mir.Val.{Val, vptr}
use base.Logic.{SProp, ent, emp, id⊢, never, fst∗}
use prog.Wp.{WpFn}
use contract.Monad.{fact, fact_i}
use contract.Running.{tables}
use types.Logic.{sem}
use types.Kit.{‵, raw, ◌⊛◌, ◌$◌, ◌∵◌, !, qed, by, move, keep, split, fsplit, fjoin, suffices, use0, rewrite}
use types.Run.{stop, fld, of_opd, no_more, and_then, returns, enter}
use types.ByLocal.{alloc_all, pass_all, free_all, look_at, get, get_in, sets}
use types.Part.{agg, sub, whole}
use denote.Exit.{yes}
use denote.Memory.{lone}
use denote.RattleType.{owns}
use denote.Signature.{types_at, plain}
use denote.RawPtr.{Ptr, block_ptr, null_ptr, in_a_block}
use denote.Steps.{nothing, heard}
use denote.Triple.Entry.{alive}
use denote.Triple.Walked.{Stays, stay_dropped, walk_of, Goes-dropped}
use Rattle.std.proofs.alloc.Calls.{handle_tells}
use Rattle.std.proofs.raw_atomic.Walks.{proved_at, leaves}
use Rattle.std.specs.contracts.alloc.Global.{the_row as Z}
use Rattle.std.specs.contracts.impls.GlobalAllocator.TheImpl.{ghosts}
use Rattle.target_handle.specs.Owning.{kept_at}
use Rattle.target_handle.specs.contracts.open_target.Kept.{the_row as R}
use Rattle.target_handle.specs.contracts.handle.TargetHandle.{the_row as Handle}
use Rattle.loose_box.proofs.Values.{al, both, loose_good, loose_in}
use Rattle.target_handle.proofs.HandleValues.{LZ, word, handle_out}
use Rattle.target_handle.specs.contracts.handle.TargetHandle.into_loose.{ended, clauses}
use Rattle.target_handle.specs.contracts.handle.TargetHandle.into_loose.Key.{name as #self}
use Rattle.target_handle.proofs.handle.TargetHandle.into_loose.Statement.{statement}
use Rattle.target_handle.proofs.handle.TargetHandle.into_loose.Code as code

pub into_loose_spec : {M : Type 1} → statement M
into_loose_spec 𝓤 𝓛 𝓜 𝓡 wired =
    let H = 𝓛.H in let 𝓣 = tables 𝓤 H 𝓜 𝓡 𝓡.env in let c = clauses 𝓛 𝓜.mem 𝓡.returns in let fn = code.function in
    let hs : Stays ended.signature.params ended.kept = (stay_dropped (plain (λ _. Handle)) yes, (stay_dropped (plain (λ _. Z)) yes, tt)) in
    proved_at 𝓛 ended hs c 𝓜 𝓡 (Goes-dropped 𝓛 0 (plain (λ _. Handle)) yes (λ κs x f. refl), (Goes-dropped 𝓛 0 (plain (λ _. Z)) yes (λ κs x f. refl), tt)) #self fn (code.unfolded 𝓤 H 𝓜 𝓡 wired) (λ z are.
    let v = z.0.3.0 in let a = z.0.3.1.0 in let Post : Val → SProp 𝓤 = (walk_of 𝓛 ended hs c).post z in let Run : List Val → SProp 𝓤 = λ ws. WpFn 𝓤 H 𝓣.C 𝓣.Λ fn ws Post in
    qed 𝓛 ((raw (alive 𝓛 ended.signature z.0.0 z.0.1) ⊛ ‵ (owns (types_at ended.signature.params z.0.0) z.0.3 z.0.4)) ∷ raw (fact 𝓤 (v.there ≡ true)) ∷ []) ∵ move ! (1 ∷ []) $ heard ! (v.there ≡ true) (λ open'. split ! $ move ! (1 ∷ []) $ fsplit ! $ handle_out ! v z.0.4.0 (λ ws.
    rewrite ! 0 (λ (y : Bool). ‵ (kept_at v.at y v.kept)) open' refl $
    in_a_block ! v.at (λ p. kept_at p true v.kept) (fst∗ 𝓤 (never 𝓤) (sem 𝓛 (ghosts.dealloc_token a (bare (lone R.mir)) null_ptr))) (λ b o e.
    -- [the box; the allocator and nothing; the tokens]
    move ! (1 ∷ []) $ fsplit ! $ handle_tells (al R Z LZ ghosts) ! a z.0.4.1.0 (λ h eh fits.
    let typed = loose_good R Z LZ ghosts b o h fits in
    let is : z.0.4.0 ≡ word (block_ptr b o) true ∷ [] = subst (λ (y : Bool). z.0.4.0 ≡ word (block_ptr b o) y ∷ []) open' (subst (λ (p : Ptr). z.0.4.0 ≡ word p v.there ∷ []) e ws) in
    let args : List Val = word (block_ptr b o) true ∷ h ∷ [] in
    suffices ! (Run args) (subst (λ (us : List Val). ent 𝓤 (Run args) (Run us)) (sym (λ i. is i ++ (eh i ++ []))) (id⊢ 𝓤 _)) $
    enter ! 𝓣.C 𝓣.Λ fn args Post $ alloc_all ! (λ l. pass_all ! refl ((tt, (tt, (tt, tt))), (fits, tt)) $
    sets ! (of_opd ! (get_in ! (fld ! refl (stop !)) (sub ! 0 refl (whole !)))) refl (tt, tt) $ sets ! (of_opd ! (get ! refl)) refl (tt, tt) $
    sets ! (agg ! (and_then ! (get ! refl) (and_then ! (get ! refl) (no_more !)))) refl typed $
    returns ! (look_at ! 0 refl) $ free_all ! refl $
    move ! (2 ∷ 0 ∷ []) $ loose_in R Z LZ ghosts ! b o h a v.kept $
    use0 𝓛 (raw (fact 𝓤 (v.kept ≡ v.kept))) (fact_i 𝓤 (v.kept ≡ v.kept) (emp 𝓤) refl) $ nothing ! $ nothing ! $ fjoin ! $ nothing ! $ fjoin ! $
    -- [nothing of the parameters; the fact; the box; nothing; the tokens]
    keep ! (4 ∷ 0 ∷ 2 ∷ 1 ∷ []) $ by ! (leaves 𝓛 ended hs c z (both (vptr b o) h) (record { at = block_ptr b o; alloc = a; value = v.kept }) (tt, (tt, tt)) (tt, (tt, tt)))))))))

-- `closed` makes a handle that owns nothing.
use Rattle.std.proofs.Common.{◌≡◌, [], ◌∷◌, refl, lit<}
use Rattle.std.specs.Prelude.{false}
use mir.Val.{Val}
use base.Logic.{SProp, emp}
use contract.Monad.{fact, fact_i}
use contract.Running.{tables}
use types.Kit.{‵, raw, ◌⊛◌, ◌$◌, ◌∵◌, !, qed, by, keep, split, use0}
use types.Run.{lit, no_more, and_then, returns, enter, false_lit}
use types.ByLocal.{alloc_all, pass_all, free_all, look_at, sets}
use types.Part.{agg}
use base.Fml.{ftrue}
use denote.RattleType.{owns}
use denote.Signature.{types_at}
use denote.RawPtr.{null_ptr}
use denote.Steps.{nothing}
use denote.Triple.Entry.{alive}
use denote.Triple.Walked.{Stays, walk_of}
use Rattle.std.proofs.raw_atomic.Walks.{proved_at, leaves}
use Rattle.call_flag.specs.Owning.{nothing_kept}
use Rattle.call_flag.proofs.HandleValues.{word, handle_in}
use Rattle.call_flag.specs.contracts.handle.FlagHandle.closed.{ended, clauses}
use Rattle.call_flag.specs.contracts.handle.FlagHandle.closed.Key.{name as #self}
use Rattle.call_flag.proofs.handle.FlagHandle.closed.Statement.{statement}
use Rattle.call_flag.proofs.handle.FlagHandle.closed.Code as code

pub closed_spec : {M : Type 1} → statement M
closed_spec 𝓤 𝓛 𝓜 𝓡 wired =
    let H = 𝓛.H in let 𝓣 = tables 𝓤 H 𝓜 𝓡 𝓡.env in let c = clauses 𝓛 𝓜.mem 𝓡.returns in let fn = code.function in
    let hs : Stays ended.signature.params ended.kept = tt in
    proved_at 𝓛 ended hs c 𝓜 𝓡 tt #self fn (code.unfolded 𝓤 H 𝓜 𝓡 wired) (λ z are.
    let Post : Val → SProp 𝓤 = (walk_of 𝓛 ended hs c).post z in
    qed 𝓛 ((raw (alive 𝓛 ended.signature z.0.0 z.0.1) ⊛ ‵ (owns (types_at ended.signature.params z.0.0) z.0.3 z.0.4)) ∷ ‵ ftrue ∷ []) ∵ split ! $
    enter ! 𝓣.C 𝓣.Λ fn [] Post $ alloc_all ! (λ l. pass_all ! refl tt $
    sets ! (agg ! (and_then ! (lit ! tt) (and_then ! (false_lit !) (no_more !)))) refl (tt, (record { fits = lit< tt }, (tt, tt))) $
    returns ! (look_at ! 0 refl) $ free_all ! refl $ nothing ! $ handle_in ! null_ptr false nothing_kept $
    use0 𝓛 (raw (fact 𝓤 (false ≡ false))) (fact_i 𝓤 (false ≡ false) (emp 𝓤) refl) $ nothing ! $
    keep ! (3 ∷ 0 ∷ 2 ∷ 1 ∷ []) $ by ! (leaves 𝓛 ended hs c z (word null_ptr false) (record { at = null_ptr; there = false; kept = nothing_kept }) tt tt)))

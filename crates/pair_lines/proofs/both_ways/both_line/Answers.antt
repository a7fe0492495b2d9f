use Rattle.std.proofs.Common.{◌≡◌, true, ◌∙◌, Ok, refl, subst, sym, ℕ, List, ap, ◌∷◌, []}
use Rattle.std.proofs.lemmas.Result.{err_from_is_err_and}
use Rattle.graph_theory.specs.Embedding.{Problem, is_injective}
use Rattle.log_theory.specs.declared.step.Ref.{Ref}
use Rattle.log_theory.specs.declared.step.Ref.TheVariants.{Made}
use Rattle.pair_line_theory.specs.Laws.{IsPlace}
use Rattle.pair_lines.specs.Choices.{IsWithin}
use Rattle.pair_line_theory.specs.Rows.{at_least_line, consistent_clause}
use Rattle.log_growth.specs.Frames.{Frame, IsFrameOf, IsNamed, IsKept, Goes}
use Rattle.log_growth.proofs.Going.{goes_stay, goes_as, goes_then}
use Rattle.pair_lines.specs.Claims.{AreBothLines, IsRowLine}
use Rattle.pair_lines.proofs.Joining.{clause_line, clause_goes}
use Rattle.pair_lines.proofs.Failing.{if_ok_failed}
use Rattle.journals.proofs.Rests.{rest_same, rest_then}
use Rattle.pair_lines.proofs.both_ways.both_line.Goals as goal

pub returns-in_err-lits-clause-goes : goal.returns-in_err-lits-clause-goes
returns-in_err-lits-clause-goes g c = λ f frame.
    rw (err_from_is_err_and c.from_residual.result c.from_residual.ensures.1).1
    (goes_stay f (g.K.Keeper.kept c.args.keeper.now) (g.K.Keeper.kept c.args.keeper.now) (AreBothLines f c.args.q.now c.args.pair.p c.args.pair.t c.args.pair.r c.args.lines.0 c.args.lines.1) (λ forms. Unit {0}) refl (λ forms h. tt))

pub returns-in_err-refs-clause-goes : goal.returns-in_err-refs-clause-goes
returns-in_err-refs-clause-goes g c = λ f frame.
    rw (err_from_is_err_and c.from_residual-in_err-refs.result c.from_residual-in_err-refs.ensures.1).1
    (goes_stay f (g.K.Keeper.kept c.args.keeper.now) (g.K.Keeper.kept c.args.keeper.now) (AreBothLines f c.args.q.now c.args.pair.p c.args.pair.t c.args.pair.r c.args.lines.0 c.args.lines.1) (λ forms. Unit {0}) refl (λ forms h. tt))

pub keep-requires : goal.keep-requires
keep-requires g c =
    clause_line c.args.q.now (subst (λ (x : Problem). IsWithin x) c.requires.same c.in_limits.ensures) c.args.pair.p c.args.pair.t c.args.pair.r c.requires.placed
    c.args.lines.0 c.args.lines.1 (record { owner = 0; number = 0 }) c.in_ok-lits.lits c.in_ok-refs.refs c.requires.first c.requires.second c.in_ok-lits.ensures
    (c.in_ok-refs.ensures ∙ ap (λ (x : Problem). let rs : List Ref = Made c.args.lines.0 ∷ Made c.args.lines.1 ∷ at_least_line x c.args.pair.r ∷ [] in rs) c.requires.same)

pub returns-in_err-clause-clause-goes : goal.returns-in_err-clause-clause-goes
returns-in_err-clause-clause-goes g c = λ f frame.
    rw (err_from_is_err_and c.from_residual-in_err-clause.result c.from_residual-in_err-clause.ensures.1).1
    (goes_as f (g.K.Keeper.kept c.args.keeper.now) (g.K.Keeper.kept c.keep.new.self) (AreBothLines f c.args.q.now c.args.pair.p c.args.pair.t c.args.pair.r c.args.lines.0 c.args.lines.1)
    (IsKept f c.keep.result (consistent_clause c.args.q.now c.args.pair.p c.args.pair.t c.args.pair.r)) (AreBothLines f c.args.q.now c.args.pair.p c.args.pair.t c.args.pair.r c.args.lines.0 c.args.lines.1) (λ forms. Unit {0})
    (λ forms h. h) (λ forms k. tt)
    (clause_goes c.args.q.now (subst (λ (x : Problem). IsWithin x) c.requires.same c.in_limits.ensures) c.args.pair.p c.args.pair.t c.args.pair.r c.requires.placed
    (g.K.Keeper.owner c.args.keeper.now) f c.args.lines.0 c.args.lines.1 (record { owner = 0; number = 0 }) c.in_ok-lits.lits c.in_ok-refs.refs c.keep.result (g.K.Keeper.kept c.args.keeper.now) (g.K.Keeper.kept c.keep.new.self)
    frame c.requires.first c.requires.second c.in_ok-lits.ensures
    (c.in_ok-refs.ensures ∙ ap (λ (x : Problem). let rs : List Ref = Made c.args.lines.0 ∷ Made c.args.lines.1 ∷ at_least_line x c.args.pair.r ∷ [] in rs) c.requires.same) c.keep.ensures.kept))

pub returns-clause-goes : goal.returns-clause-goes
returns-clause-goes g c = λ f frame.
    goes_then f (g.K.Keeper.kept c.args.keeper.now) (g.K.Keeper.kept c.keep.new.self) (g.K.Keeper.kept c.keep_of_clause.new.keeper) (AreBothLines f c.args.q.now c.args.pair.p c.args.pair.t c.args.pair.r c.args.lines.0 c.args.lines.1)
    (IsKept f (Ok c.in_ok-clause.clause) (consistent_clause c.args.q.now c.args.pair.p c.args.pair.t c.args.pair.r)) (IsRowLine f c.args.q.now c.args.pair.p c.args.pair.t c.args.pair.r c.keep_of_clause.result)
    (clause_goes c.args.q.now (subst (λ (x : Problem). IsWithin x) c.requires.same c.in_limits.ensures) c.args.pair.p c.args.pair.t c.args.pair.r c.requires.placed
    (g.K.Keeper.owner c.args.keeper.now) f c.args.lines.0 c.args.lines.1 (record { owner = 0; number = 0 }) c.in_ok-lits.lits c.in_ok-refs.refs (Ok c.in_ok-clause.clause) (g.K.Keeper.kept c.args.keeper.now) (g.K.Keeper.kept c.keep.new.self)
    frame c.requires.first c.requires.second c.in_ok-lits.ensures
    (c.in_ok-refs.ensures ∙ ap (λ (x : Problem). let rs : List Ref = Made c.args.lines.0 ∷ Made c.args.lines.1 ∷ at_least_line x c.args.pair.r ∷ [] in rs) c.requires.same) c.in_ok-clause.ensures.kept)
    (subst (λ (x : Problem). (w : Frame) → IsFrameOf x (g.K.Keeper.owner c.keep.new.self) w
    → Goes w (g.K.Keeper.kept c.keep.new.self) (g.K.Keeper.kept c.keep_of_clause.new.keeper) (λ forms. IsNamed w forms (Made c.in_ok-clause.clause) (consistent_clause x c.args.pair.p c.args.pair.t c.args.pair.r)) (IsRowLine w x c.args.pair.p c.args.pair.t c.args.pair.r c.keep_of_clause.result))
    c.requires.same c.keep_of_clause.ensures.goes f (subst (λ (o : ℕ). IsFrameOf c.args.q.now o f) (sym c.in_ok-clause.ensures.rest.owner) frame))

pub returns-in_err-lits-clause-rest : goal.returns-in_err-lits-clause-rest
returns-in_err-lits-clause-rest g c = rest_same

pub returns-in_err-lits-clause-name : goal.returns-in_err-lits-clause-name
returns-in_err-lits-clause-name g c = if_ok_failed c.from_residual.result _ _ c.from_residual.ensures.1

pub returns-in_err-refs-clause-rest : goal.returns-in_err-refs-clause-rest
returns-in_err-refs-clause-rest g c = rest_same

pub returns-in_err-refs-clause-name : goal.returns-in_err-refs-clause-name
returns-in_err-refs-clause-name g c = if_ok_failed c.from_residual-in_err-refs.result _ _ c.from_residual-in_err-refs.ensures.1

pub returns-in_err-clause-clause-rest : goal.returns-in_err-clause-clause-rest
returns-in_err-clause-clause-rest g c = c.keep.ensures.rest

pub returns-in_err-clause-clause-name : goal.returns-in_err-clause-clause-name
returns-in_err-clause-clause-name g c = if_ok_failed c.from_residual-in_err-clause.result _ _ c.from_residual-in_err-clause.ensures.1

pub returns-clause-rest : goal.returns-clause-rest
returns-clause-rest g c = rest_then c.keep.ensures.rest c.keep_of_clause.ensures.rest

pub returns-clause-name : goal.returns-clause-name
returns-clause-name g c = c.keep_of_clause.ensures.name

pub places-requires-clause-same : goal.places-requires-clause-same
places-requires-clause-same g c = c.requires.same

pub places-requires-clause-placed : goal.places-requires-clause-placed
places-requires-clause-placed g c = c.requires.placed

pub keep_of_clause-requires-clause-clause : goal.keep_of_clause-requires-clause-clause
keep_of_clause-requires-clause-clause g c = c.in_ok-clause.ensures.name

pub keep_of_clause-requires-clause-placed : goal.keep_of_clause-requires-clause-placed
keep_of_clause-requires-clause-placed g c = subst (λ (x : Problem). IsPlace x c.args.pair.p c.args.pair.t c.args.pair.r) (sym c.requires.same) c.requires.placed

pub places-requires-clause-injective : goal.places-requires-clause-injective
places-requires-clause-injective g c = c.requires.injective

pub keep_of_clause-requires-clause-injective : goal.keep_of_clause-requires-clause-injective
keep_of_clause-requires-clause-injective g c = subst (λ (x : Problem). is_injective x.maps ≡ true) (sym c.requires.same) c.requires.injective

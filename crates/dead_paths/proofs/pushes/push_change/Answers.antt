use Rattle.std.proofs.Common.{◌≡◌, ◌∷◌, [], ℕ, ap, ◌∙◌, subst, sym, arith}
use Rattle.std.proofs.lemmas.Option.{slice_get_within}
use Rattle.std.proofs.lemmas.Result.{err_from_is_err_and}
use Rattle.log_theory.specs.declared.step.Ref.{Ref}
use Rattle.log_theory.specs.declared.step.Ref.TheVariants.{Line}
use Rattle.log_theory.specs.LogText.{IsRef, AreRefs}
use Rattle.nogood_book.specs.Places.{IsNogoodRow}
use Rattle.recorder.specs.declared.change.Cause.{Cause}
use Rattle.recorder.specs.declared.change.Cause.TheVariants as cause
use Rattle.recorder.specs.declared.change.What.{What}
use Rattle.recorder.specs.declared.change.What.TheVariants.{One}
use Rattle.recorder.specs.Recording.{change_by}
use Rattle.dead_theory.specs.Changes.{shown_of, IsInProblem}
use Rattle.dead_paths.specs.Choosing.{AreAt, IsOfRow, chosen_of}
use Rattle.dead_paths.specs.Lines.{at_most_ref, edge_ref}
use Rattle.dead_paths.proofs.LineRefs.{refs_behind, at_most_fits, joins_pair, edge_fits, order_fits}
use Rattle.dead_paths.proofs.Causes.{first_goes, row_goes, guess_goes, edge_goes, order_goes, nogood_goes, none_goes}
use Rattle.dead_paths.proofs.HeldPairs.{ok_still}
use Rattle.dead_paths.proofs.pushes.push_change.Goals as goal

pub returns-in_err-push-in-Guess-clause-goes : goal.returns-in_err-push-in-Guess-clause-goes
returns-in_err-push-in-Guess-clause-goes g c = λ w known here frame.
    let err = err_from_is_err_and c.from_residual-in_err-push-in-Guess.result c.from_residual-in_err-push-in-Guess.ensures.1 in
    rw err.1 (none_goes c.args.basis.now.lines.now c.args.basis.now.rows.now known w (g.N.RowNames.names c.args.basis.now.names.now) (g.M.LineMaker.knows c.args.maker.now c.args.basis.now.lines.now w) (g.K.Keeper.kept c.args.keeper.now) c.args.basis.now.numbers.now c.args.chosen.now.entry.what c.args.chosen.now.entry.from c.args.chosen.now.by_edges (chosen_of c.args.basis.now.numbers.now c.args.chosen.now) c.args.refs.now.items c.push-in-Guess.new.self.items err.0)

pub push_decided-requires-clause-vertex : goal.push_decided-requires-clause-vertex
push_decided-requires-clause-vertex g c =
    let at : c.args.chosen.now.entry.what ≡ One c.in-One.r (cause.Vertex c.in-Vertex.p c.in-Vertex.t) = c.in-One.is ∙ ap (λ (y : Cause). let x : What = One c.in-One.r y in x) c.in-Vertex.is in
    let inside = subst (λ (x : What). IsInProblem c.args.basis.now.lines.now (change_by c.args.basis.now.numbers.now x c.args.chosen.now.entry.from)) at c.requires.in_problem in
    inside.0

pub push_decided-requires-clause-long : goal.push_decided-requires-clause-long
push_decided-requires-clause-long g c =
    let at : c.args.chosen.now.entry.what ≡ One c.in-One.r (cause.Vertex c.in-Vertex.p c.in-Vertex.t) = c.in-One.is ∙ ap (λ (y : Cause). let x : What = One c.in-One.r y in x) c.in-Vertex.is in
    let inside = subst (λ (x : What). IsInProblem c.args.basis.now.lines.now (change_by c.args.basis.now.numbers.now x c.args.chosen.now.entry.from)) at c.requires.in_problem in
    omega (arith, inside.0, c.requires.long)

pub returns-in_err-push_decided-in-Vertex-clause-goes : goal.returns-in_err-push_decided-in-Vertex-clause-goes
returns-in_err-push_decided-in-Vertex-clause-goes g c = λ w known here frame.
    let err = err_from_is_err_and c.from_residual-in_err-push_decided-in-Vertex.result c.from_residual-in_err-push_decided-in-Vertex.ensures.1 in
    rw err.1 (none_goes c.args.basis.now.lines.now c.args.basis.now.rows.now known w (g.N.RowNames.names c.args.basis.now.names.now) (g.M.LineMaker.knows c.args.maker.now c.args.basis.now.lines.now w) (g.K.Keeper.kept c.args.keeper.now) c.args.basis.now.numbers.now c.args.chosen.now.entry.what c.args.chosen.now.entry.from c.args.chosen.now.by_edges (chosen_of c.args.basis.now.numbers.now c.args.chosen.now) c.args.refs.now.items c.push_decided.new.refs.items err.0)

pub returns-in_ok-push-in-First-clause-goes : goal.returns-in_ok-push-in-First-clause-goes
returns-in_ok-push-in-First-clause-goes g c = λ w known here frame.
    first_goes c.args.basis.now.lines.now c.args.basis.now.rows.now known w (g.N.RowNames.names c.args.basis.now.names.now) (g.M.LineMaker.knows c.args.maker.now c.args.basis.now.lines.now w) (g.M.LineMaker.knows c.first.new.self c.args.basis.now.lines.now w) (g.K.Keeper.kept c.args.keeper.now) (g.K.Keeper.kept c.first.new.keeper) c.args.basis.now.numbers.now c.args.chosen.now.entry.what c.args.chosen.now.entry.from c.args.chosen.now.by_edges
    c.in-One.r c.in-One.cause c.args.refs.now.items c.push.new.self.items c.in_ok-line-in-First.line c.in-One.is c.in-First.is c.in_ok-push-in-First.ensures.items (c.in_ok-line-in-First.ensures.goes w frame)

pub returns-in_ok-push-in-First-clause-fits : goal.returns-in_ok-push-in-First-clause-fits
returns-in_ok-push-in-First-clause-fits g c = subst AreRefs (sym c.in_ok-push-in-First.ensures.items) (refs_behind c.args.refs.now.items (c.in_ok-line-in-First.line ∷ []) c.requires.fits (c.in_ok-line-in-First.ensures.fits, tt))

pub returns-in_ok-push-in-Guess-clause-goes : goal.returns-in_ok-push-in-Guess-clause-goes
returns-in_ok-push-in-Guess-clause-goes g c = λ w known here frame.
    let at : c.args.chosen.now.entry.what ≡ One c.in-One.r (cause.Guess c.in-Guess.field-0) = c.in-One.is ∙ ap (λ (y : Cause). let x : What = One c.in-One.r y in x) c.in-Guess.is in
    let inside = subst (λ (x : What). IsInProblem c.args.basis.now.lines.now (change_by c.args.basis.now.numbers.now x c.args.chosen.now.entry.from)) at c.requires.in_problem in
    guess_goes c.args.basis.now.lines.now c.args.basis.now.rows.now known w (g.N.RowNames.names c.args.basis.now.names.now) (g.M.LineMaker.knows c.args.maker.now c.args.basis.now.lines.now w) (g.K.Keeper.kept c.args.keeper.now) c.args.basis.now.numbers.now c.args.chosen.now.entry.what c.args.chosen.now.entry.from c.args.chosen.now.by_edges (g.K.Keeper.owner c.args.keeper.now) c.in-Guess.field-0 c.in-One.r c.in-One.cause c.args.refs.now.items c.push-in-Guess.new.self.items (Line c.at_most.result) frame inside.0 c.in-One.is c.in-Guess.is
    (ap (λ (n : ℕ). let r : Ref = Line n in r) c.at_most.ensures.line) c.in_ok-push-in-Guess.ensures.items

pub returns-in_ok-push-in-Guess-clause-fits : goal.returns-in_ok-push-in-Guess-clause-fits
returns-in_ok-push-in-Guess-clause-fits g c =
    let at : c.args.chosen.now.entry.what ≡ One c.in-One.r (cause.Guess c.in-Guess.field-0) = c.in-One.is ∙ ap (λ (y : Cause). let x : What = One c.in-One.r y in x) c.in-Guess.is in
    let inside = subst (λ (x : What). IsInProblem c.args.basis.now.lines.now (change_by c.args.basis.now.numbers.now x c.args.chosen.now.entry.from)) at c.requires.in_problem in
    let is : Line c.at_most.result ≡ at_most_ref c.args.basis.now.lines.now c.in-One.r = ap (λ (n : ℕ). let r : Ref = Line n in r) c.at_most.ensures.line in
    subst AreRefs (sym c.in_ok-push-in-Guess.ensures.items) (refs_behind c.args.refs.now.items (Line c.at_most.result ∷ []) c.requires.fits
    (subst (λ (r : Ref). AreRefs (r ∷ [])) (sym is) (at_most_fits c.args.basis.now.lines.now c.in-One.r c.requires.limited inside.0, tt)))

pub returns-in_ok-push-in-Vertex-clause-goes : goal.returns-in_ok-push-in-Vertex-clause-goes
returns-in_ok-push-in-Vertex-clause-goes g c = λ w known here frame.
    let at : c.args.chosen.now.entry.what ≡ One c.in-One.r (cause.Vertex c.in-Vertex.p c.in-Vertex.t) = c.in-One.is ∙ ap (λ (y : Cause). let x : What = One c.in-One.r y in x) c.in-Vertex.is in
    let inside = subst (λ (x : What). IsInProblem c.args.basis.now.lines.now (change_by c.args.basis.now.numbers.now x c.args.chosen.now.entry.from)) at c.requires.in_problem in
    row_goes c.args.basis.now.lines.now c.args.basis.now.rows.now known w (g.N.RowNames.names c.args.basis.now.names.now) (g.M.LineMaker.knows c.args.maker.now c.args.basis.now.lines.now w) (g.M.LineMaker.knows c.row.new.self c.args.basis.now.lines.now w) (g.K.Keeper.kept c.args.keeper.now) (g.K.Keeper.kept c.row.new.keeper) c.args.basis.now.numbers.now c.args.chosen.now.entry.what c.args.chosen.now.entry.from c.args.chosen.now.by_edges
    (g.K.Keeper.owner c.args.keeper.now) c.in-Vertex.p c.in-Vertex.t c.in-One.r c.in-One.cause c.args.refs.now.items c.push_decided.new.refs.items c.push-in-Vertex.new.self.items c.in_ok-line-in-Vertex.line frame inside.0
    c.in-One.is c.in-Vertex.is (c.in_ok-push_decided-in-Vertex.ensures.added known here)
    c.in_ok-push-in-Vertex.ensures.items (c.in_ok-line-in-Vertex.ensures.goes w frame)

pub returns-in_ok-push-in-Vertex-clause-shown : goal.returns-in_ok-push-in-Vertex-clause-shown
returns-in_ok-push-in-Vertex-clause-shown g c = λ known here.
    let at : c.args.chosen.now.entry.what ≡ One c.in-One.r (cause.Vertex c.in-Vertex.p c.in-Vertex.t) = c.in-One.is ∙ ap (λ (y : Cause). let x : What = One c.in-One.r y in x) c.in-Vertex.is in
    subst (λ (x : What). AreAt c.push_decided.new.at (shown_of (change_by c.args.basis.now.numbers.now x c.args.chosen.now.entry.from) known)) (sym at) (c.in_ok-push_decided-in-Vertex.ensures.known known here)

pub returns-in_ok-push-in-Vertex-clause-fits : goal.returns-in_ok-push-in-Vertex-clause-fits
returns-in_ok-push-in-Vertex-clause-fits g c =
    subst AreRefs (sym c.in_ok-push-in-Vertex.ensures.items) (refs_behind c.push_decided.new.refs.items (c.in_ok-line-in-Vertex.line ∷ []) c.in_ok-push_decided-in-Vertex.ensures.fits (c.in_ok-line-in-Vertex.ensures.fits, tt))

pub returns-in_ok-push-in-First-clause-shown : goal.returns-in_ok-push-in-First-clause-shown
returns-in_ok-push-in-First-clause-shown g c = λ known here.
    let at : c.args.chosen.now.entry.what ≡ One c.in-One.r cause.First = c.in-One.is ∙ ap (λ (y : Cause). let x : What = One c.in-One.r y in x) c.in-First.is in
    subst (λ (x : What). AreAt c.args.at.now (shown_of (change_by c.args.basis.now.numbers.now x c.args.chosen.now.entry.from) known)) (sym at) here

pub returns-in_ok-push-in-Guess-clause-shown : goal.returns-in_ok-push-in-Guess-clause-shown
returns-in_ok-push-in-Guess-clause-shown g c = λ known here.
    let at : c.args.chosen.now.entry.what ≡ One c.in-One.r (cause.Guess c.in-Guess.field-0) = c.in-One.is ∙ ap (λ (y : Cause). let x : What = One c.in-One.r y in x) c.in-Guess.is in
    subst (λ (x : What). AreAt c.args.at.now (shown_of (change_by c.args.basis.now.numbers.now x c.args.chosen.now.entry.from) known)) (sym at) here

pub returns-in-Nogood-clause-shown : goal.returns-in-Nogood-clause-shown
returns-in-Nogood-clause-shown g c = λ known here.
    let at : c.args.chosen.now.entry.what ≡ One c.in-One.r (cause.Nogood c.in-Nogood.name) = c.in-One.is ∙ ap (λ (y : Cause). let x : What = One c.in-One.r y in x) c.in-Nogood.is in
    ok_still c.push_nogood.result (subst (λ (x : What). AreAt c.args.at.now (shown_of (change_by c.args.basis.now.numbers.now x c.args.chosen.now.entry.from) known)) (sym at) here)

pub returns-in-Others-clause-shown : goal.returns-in-Others-clause-shown
returns-in-Others-clause-shown g c = λ known here.
    ok_still c.push_set.result (subst (λ (x : What). AreAt c.args.at.now (shown_of (change_by c.args.basis.now.numbers.now x c.args.chosen.now.entry.from) known)) (sym c.in-Others.is) here)

pub returns-in-Over-clause-shown : goal.returns-in-Over-clause-shown
returns-in-Over-clause-shown g c = λ known here.
    ok_still c.push_crowd.result (subst (λ (x : What). AreAt c.args.at.now (shown_of (change_by c.args.basis.now.numbers.now x c.args.chosen.now.entry.from) known)) (sym c.in-Over.is) here)

pub returns-in-Nogood-clause-goes : goal.returns-in-Nogood-clause-goes
returns-in-Nogood-clause-goes g c = λ w known here frame.
    let at : c.args.chosen.now.entry.what ≡ One c.in-One.r (cause.Nogood c.in-Nogood.name) = c.in-One.is ∙ ap (λ (y : Cause). let x : What = One c.in-One.r y in x) c.in-Nogood.is in
    let nogood : IsNogoodRow c.args.basis.now.rows.now c.in-Nogood.name = subst (λ (x : What). IsOfRow c.args.basis.now.rows.now (change_by c.args.basis.now.numbers.now x c.args.chosen.now.entry.from)) at c.requires.of_row in
    nogood_goes c.args.basis.now.lines.now c.args.basis.now.rows.now known w (g.N.RowNames.names c.args.basis.now.names.now) (g.M.LineMaker.knows c.args.maker.now c.args.basis.now.lines.now w) (g.K.Keeper.kept c.args.keeper.now) c.args.basis.now.numbers.now c.args.chosen.now.entry.what c.args.chosen.now.entry.from c.args.chosen.now.by_edges (g.K.Keeper.owner c.args.keeper.now) c.in-Nogood.name c.in-One.r c.in-One.cause c.args.refs.now.items c.push_nogood.new.refs.items c.push_nogood.result frame nogood
    c.in-One.is c.in-Nogood.is (c.push_nogood.ensures.pushed known here)

pub edge-requires-clause-p_in : goal.edge-requires-clause-p_in
edge-requires-clause-p_in g c =
    let at : c.args.chosen.now.entry.what ≡ One c.in-One.r (cause.Edge c.in-Edge.p c.in-Edge.u c.in-Edge.field-2) = c.in-One.is ∙ ap (λ (y : Cause). let x : What = One c.in-One.r y in x) c.in-Edge.is in
    let inside = subst (λ (x : What). IsInProblem c.args.basis.now.lines.now (change_by c.args.basis.now.numbers.now x c.args.chosen.now.entry.from)) at c.requires.in_problem in
    inside.0.other_in

pub edge-requires-clause-r_in : goal.edge-requires-clause-r_in
edge-requires-clause-r_in g c =
    let at : c.args.chosen.now.entry.what ≡ One c.in-One.r (cause.Edge c.in-Edge.p c.in-Edge.u c.in-Edge.field-2) = c.in-One.is ∙ ap (λ (y : Cause). let x : What = One c.in-One.r y in x) c.in-Edge.is in
    let inside = subst (λ (x : What). IsInProblem c.args.basis.now.lines.now (change_by c.args.basis.now.numbers.now x c.args.chosen.now.entry.from)) at c.requires.in_problem in
    inside.0.vertex_in

pub edge-requires-clause-t_in : goal.edge-requires-clause-t_in
edge-requires-clause-t_in g c =
    let at : c.args.chosen.now.entry.what ≡ One c.in-One.r (cause.Edge c.in-Edge.p c.in-Edge.u c.in-Edge.field-2) = c.in-One.is ∙ ap (λ (y : Cause). let x : What = One c.in-One.r y in x) c.in-Edge.is in
    let inside = subst (λ (x : What). IsInProblem c.args.basis.now.lines.now (change_by c.args.basis.now.numbers.now x c.args.chosen.now.entry.from)) at c.requires.in_problem in
    inside.1

pub edge-requires-clause-exists : goal.edge-requires-clause-exists
edge-requires-clause-exists g c =
    let at : c.args.chosen.now.entry.what ≡ One c.in-One.r (cause.Edge c.in-Edge.p c.in-Edge.u c.in-Edge.field-2) = c.in-One.is ∙ ap (λ (y : Cause). let x : What = One c.in-One.r y in x) c.in-Edge.is in
    let inside = subst (λ (x : What). IsInProblem c.args.basis.now.lines.now (change_by c.args.basis.now.numbers.now x c.args.chosen.now.entry.from)) at c.requires.in_problem in
    joins_pair c.args.basis.now.lines.now c.in-Edge.field-2 c.in-Edge.p c.in-One.r inside.0

pub returns-in_err-push-in-Edge-clause-goes : goal.returns-in_err-push-in-Edge-clause-goes
returns-in_err-push-in-Edge-clause-goes g c = λ w known here frame.
    let err = err_from_is_err_and c.from_residual-in_err-push-in-Edge.result c.from_residual-in_err-push-in-Edge.ensures.1 in
    rw err.1 (none_goes c.args.basis.now.lines.now c.args.basis.now.rows.now known w (g.N.RowNames.names c.args.basis.now.names.now) (g.M.LineMaker.knows c.args.maker.now c.args.basis.now.lines.now w) (g.K.Keeper.kept c.args.keeper.now) c.args.basis.now.numbers.now c.args.chosen.now.entry.what c.args.chosen.now.entry.from c.args.chosen.now.by_edges (chosen_of c.args.basis.now.numbers.now c.args.chosen.now) c.args.refs.now.items c.push-in-Edge.new.self.items err.0)

pub returns-in_ok-push-in-Edge-clause-goes : goal.returns-in_ok-push-in-Edge-clause-goes
returns-in_ok-push-in-Edge-clause-goes g c = λ w known here frame.
    let at : c.args.chosen.now.entry.what ≡ One c.in-One.r (cause.Edge c.in-Edge.p c.in-Edge.u c.in-Edge.field-2) = c.in-One.is ∙ ap (λ (y : Cause). let x : What = One c.in-One.r y in x) c.in-Edge.is in
    let inside = subst (λ (x : What). IsInProblem c.args.basis.now.lines.now (change_by c.args.basis.now.numbers.now x c.args.chosen.now.entry.from)) at c.requires.in_problem in
    edge_goes c.args.basis.now.lines.now c.args.basis.now.rows.now known w (g.N.RowNames.names c.args.basis.now.names.now) (g.M.LineMaker.knows c.args.maker.now c.args.basis.now.lines.now w) (g.K.Keeper.kept c.args.keeper.now) c.args.basis.now.numbers.now c.args.chosen.now.entry.what c.args.chosen.now.entry.from c.args.chosen.now.by_edges (g.K.Keeper.owner c.args.keeper.now) c.in-Edge.p c.in-Edge.u c.in-One.r c.in-Edge.field-2 c.in-One.cause c.args.refs.now.items c.push-in-Edge.new.self.items (Line c.edge.result) frame inside.0 inside.1 c.in-One.is c.in-Edge.is
    (ap (λ (n : ℕ). let r : Ref = Line n in r) c.edge.ensures.line) c.in_ok-push-in-Edge.ensures.items

pub returns-in_ok-push-in-Edge-clause-fits : goal.returns-in_ok-push-in-Edge-clause-fits
returns-in_ok-push-in-Edge-clause-fits g c =
    let at : c.args.chosen.now.entry.what ≡ One c.in-One.r (cause.Edge c.in-Edge.p c.in-Edge.u c.in-Edge.field-2) = c.in-One.is ∙ ap (λ (y : Cause). let x : What = One c.in-One.r y in x) c.in-Edge.is in
    let inside = subst (λ (x : What). IsInProblem c.args.basis.now.lines.now (change_by c.args.basis.now.numbers.now x c.args.chosen.now.entry.from)) at c.requires.in_problem in
    let is : Line c.edge.result ≡ edge_ref c.args.basis.now.lines.now c.in-One.r c.in-Edge.p c.in-Edge.u = ap (λ (n : ℕ). let r : Ref = Line n in r) c.edge.ensures.line in
    subst AreRefs (sym c.in_ok-push-in-Edge.ensures.items) (refs_behind c.args.refs.now.items (Line c.edge.result ∷ []) c.requires.fits
    (subst (λ (r : Ref). AreRefs (r ∷ [])) (sym is)
    (edge_fits c.args.basis.now.lines.now c.in-One.r c.in-Edge.p c.in-Edge.u c.requires.limited inside.0.other_in inside.0.vertex_in inside.1 (joins_pair c.args.basis.now.lines.now c.in-Edge.field-2 c.in-Edge.p c.in-One.r inside.0), tt)))

pub returns-in_ok-push-in-Edge-clause-shown : goal.returns-in_ok-push-in-Edge-clause-shown
returns-in_ok-push-in-Edge-clause-shown g c = λ known here.
    let at : c.args.chosen.now.entry.what ≡ One c.in-One.r (cause.Edge c.in-Edge.p c.in-Edge.u c.in-Edge.field-2) = c.in-One.is ∙ ap (λ (y : Cause). let x : What = One c.in-One.r y in x) c.in-Edge.is in
    subst (λ (x : What). AreAt c.args.at.now (shown_of (change_by c.args.basis.now.numbers.now x c.args.chosen.now.entry.from) known)) (sym at) here

-- a pair that is to be in order

pub order-requires-clause-k_in : goal.order-requires-clause-k_in
order-requires-clause-k_in g c =
    let at : c.args.chosen.now.entry.what ≡ One c.in-One.r (cause.Order c.in-Order.k c.in-Order.u c.in-Order.side) = c.in-One.is ∙ ap (λ (y : Cause). let x : What = One c.in-One.r y in x) c.in-Order.is in
    let inside = subst (λ (x : What). IsInProblem c.args.basis.now.lines.now (change_by c.args.basis.now.numbers.now x c.args.chosen.now.entry.from)) at c.requires.in_problem in
    slice_get_within c.args.basis.now.lines.now.less c.in-Order.k inside.0.pair inside.0.pair_is

pub order-requires-clause-t_in : goal.order-requires-clause-t_in
order-requires-clause-t_in g c =
    let at : c.args.chosen.now.entry.what ≡ One c.in-One.r (cause.Order c.in-Order.k c.in-Order.u c.in-Order.side) = c.in-One.is ∙ ap (λ (y : Cause). let x : What = One c.in-One.r y in x) c.in-Order.is in
    let inside = subst (λ (x : What). IsInProblem c.args.basis.now.lines.now (change_by c.args.basis.now.numbers.now x c.args.chosen.now.entry.from)) at c.requires.in_problem in
    inside.1

pub returns-in_err-push-in-Order-clause-goes : goal.returns-in_err-push-in-Order-clause-goes
returns-in_err-push-in-Order-clause-goes g c = λ w known here frame.
    let err = err_from_is_err_and c.from_residual-in_err-push-in-Order.result c.from_residual-in_err-push-in-Order.ensures.1 in
    rw err.1 (none_goes c.args.basis.now.lines.now c.args.basis.now.rows.now known w (g.N.RowNames.names c.args.basis.now.names.now) (g.M.LineMaker.knows c.args.maker.now c.args.basis.now.lines.now w) (g.K.Keeper.kept c.args.keeper.now) c.args.basis.now.numbers.now c.args.chosen.now.entry.what c.args.chosen.now.entry.from c.args.chosen.now.by_edges (chosen_of c.args.basis.now.numbers.now c.args.chosen.now) c.args.refs.now.items c.push-in-Order.new.self.items err.0)

pub returns-in_ok-push-in-Order-clause-goes : goal.returns-in_ok-push-in-Order-clause-goes
returns-in_ok-push-in-Order-clause-goes g c = λ w known here frame.
    let at : c.args.chosen.now.entry.what ≡ One c.in-One.r (cause.Order c.in-Order.k c.in-Order.u c.in-Order.side) = c.in-One.is ∙ ap (λ (y : Cause). let x : What = One c.in-One.r y in x) c.in-Order.is in
    let inside = subst (λ (x : What). IsInProblem c.args.basis.now.lines.now (change_by c.args.basis.now.numbers.now x c.args.chosen.now.entry.from)) at c.requires.in_problem in
    order_goes c.args.basis.now.lines.now c.args.basis.now.rows.now known w (g.N.RowNames.names c.args.basis.now.names.now) (g.M.LineMaker.knows c.args.maker.now c.args.basis.now.lines.now w) (g.K.Keeper.kept c.args.keeper.now) c.args.basis.now.numbers.now c.args.chosen.now.entry.what c.args.chosen.now.entry.from c.args.chosen.now.by_edges (g.K.Keeper.owner c.args.keeper.now) c.in-Order.k c.in-Order.u c.in-One.r c.in-Order.side c.in-One.cause c.args.refs.now.items c.push-in-Order.new.self.items c.order.result frame c.requires.limited inside.0 inside.1 c.in-One.is c.in-Order.is
    c.order.ensures.line c.in_ok-push-in-Order.ensures.items

pub returns-in_ok-push-in-Order-clause-fits : goal.returns-in_ok-push-in-Order-clause-fits
returns-in_ok-push-in-Order-clause-fits g c =
    let at : c.args.chosen.now.entry.what ≡ One c.in-One.r (cause.Order c.in-Order.k c.in-Order.u c.in-Order.side) = c.in-One.is ∙ ap (λ (y : Cause). let x : What = One c.in-One.r y in x) c.in-Order.is in
    let inside = subst (λ (x : What). IsInProblem c.args.basis.now.lines.now (change_by c.args.basis.now.numbers.now x c.args.chosen.now.entry.from)) at c.requires.in_problem in
    subst AreRefs (sym c.in_ok-push-in-Order.ensures.items) (refs_behind c.args.refs.now.items (c.order.result ∷ []) c.requires.fits
    (subst IsRef (sym (c.order.ensures.line inside.0.pair inside.0.pair_is)) (order_fits c.args.basis.now.lines.now c.in-Order.k c.in-Order.u inside.0.pair c.in-Order.side c.requires.limited inside.0.pair_is inside.1), tt))

pub returns-in_ok-push-in-Order-clause-shown : goal.returns-in_ok-push-in-Order-clause-shown
returns-in_ok-push-in-Order-clause-shown g c = λ known here.
    let at : c.args.chosen.now.entry.what ≡ One c.in-One.r (cause.Order c.in-Order.k c.in-Order.u c.in-Order.side) = c.in-One.is ∙ ap (λ (y : Cause). let x : What = One c.in-One.r y in x) c.in-Order.is in
    subst (λ (x : What). AreAt c.args.at.now (shown_of (change_by c.args.basis.now.numbers.now x c.args.chosen.now.entry.from) known)) (sym at) here

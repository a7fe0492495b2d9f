use Rattle.std.proofs.Common.{◌≡◌, ◌<◌, ℕ, Bool, length, refl, sym, subst, arith}
use Rattle.graph_theory.specs.Graph.{size}
use Rattle.graph_theory.specs.Embedding.{Problem}
use Rattle.bit_rows.specs.BitRows.{words_for}
use Rattle.needed_values.specs.Needed.{AreRows}
use Rattle.needed_values.specs.Consistent.{AllGo, AllConsistent}
use Rattle.recorder.specs.declared.change.Cause.TheVariants as cause
use Rattle.dead_paths.proofs.Resting.{pass_one, pass_vertex, kept_needs, kept_below}
use Rattle.dead_paths.proofs.takes.by_vertex.Goals as goal

pub needed_row-requires-clause-held : goal.needed_row-requires-clause-held
needed_row-requires-clause-held c = subst (λ (k : ℕ). AreRows k c.args.marked.now c.args.needed.now) (sym c.count_values.ensures.is) c.requires.held

pub are_all_consistent-requires-clause-p_in : goal.are_all_consistent-requires-clause-p_in
are_all_consistent-requires-clause-p_in c = subst (λ (x : Problem). c.args.beside.p < size x.pattern) (sym c.requires.sharers) c.requires.p_in

pub are_all_consistent-requires-clause-t_in : goal.are_all_consistent-requires-clause-t_in
are_all_consistent-requires-clause-t_in c = subst (λ (x : Problem). c.args.beside.t < size x.target) (sym c.requires.sharers) c.requires.t_in

pub are_all_consistent-requires-clause-r_in : goal.are_all_consistent-requires-clause-r_in
are_all_consistent-requires-clause-r_in c = subst (λ (x : Problem). c.args.beside.r < size x.pattern) (sym c.requires.sharers) c.requires.r_in

pub are_all_consistent-requires-clause-long : goal.are_all_consistent-requires-clause-long
are_all_consistent-requires-clause-long c = subst (λ (x : Problem). length c.part_compatible-same.new.left ≡ words_for (size x.target)) (sym c.requires.sharers) (omega (arith, c.requires.spare, c.part_compatible-same.auto.left))

pub are_all_consistent-requires-clause-within : goal.are_all_consistent-requires-clause-within
are_all_consistent-requires-clause-within c = λ u h. subst (λ (x : Problem). u < size x.target) (sym c.requires.sharers) (kept_below (size c.args.walk.now.q.now.target) c.in-Some.row.now c.part_compatible-same.new.other c.part_compatible-same.ensures.bits u (c.part_compatible-same.ensures.goes.kept u h))

pub are_all_consistent-requires-clause-go : goal.are_all_consistent-requires-clause-go
are_all_consistent-requires-clause-go c = subst (λ (x : Problem). AllGo x c.args.beside.p c.args.beside.t c.args.beside.r c.part_compatible-same.new.left) (sym c.requires.sharers) c.part_compatible-same.ensures.all

pub take_by_edges-requires-clause-bits : goal.take_by_edges-requires-clause-bits
take_by_edges-requires-clause-bits c = kept_needs (size c.args.walk.now.q.now.target) c.count_values.result c.args.beside.r c.args.marked.now c.args.needed.now c.in-Some.row.now c.part_compatible-same.new.other c.count_values.ensures.is c.in-Some.ensures.bits c.part_compatible-same.ensures.bits

pub take_by_edges-requires-clause-all : goal.take_by_edges-requires-clause-all
take_by_edges-requires-clause-all c =
    subst (λ (b : Bool). AllConsistent b c.args.walk.now.q.now c.args.beside.p c.args.beside.t c.args.beside.r c.part_compatible-same.new.left) c.if-all-2.true (subst (λ (x : Problem). AllConsistent c.in_ok-all.all x c.args.beside.p c.args.beside.t c.args.beside.r c.part_compatible-same.new.left) c.requires.sharers c.in_ok-all.ensures)

pub take_all-requires-clause-within : goal.take_all-requires-clause-within
take_all-requires-clause-within c = λ u h. kept_below (size c.args.walk.now.q.now.target) c.in-Some.row.now c.part_compatible-same.new.other c.part_compatible-same.ensures.bits u (c.part_compatible-same.ensures.goes.kept u h)

pub take_all-requires-clause-bits : goal.take_all-requires-clause-bits
take_all-requires-clause-bits c = kept_needs (size c.args.walk.now.q.now.target) c.count_values.result c.args.beside.r c.args.marked.now c.args.needed.now c.in-Some.row.now c.part_compatible-same.new.other c.count_values.ensures.is c.in-Some.ensures.bits c.part_compatible-same.ensures.bits

pub returns-in-None : goal.returns-in-None
returns-in-None c = λ path from here.
    pass_one c.args.walk.now.q.now c.args.walk.now.rows.now path (size c.args.walk.now.q.now.target) c.count_values.result c.args.marked.now c.args.needed.now c.args.beside.r (cause.Vertex c.args.beside.p c.args.beside.t) from refl c.count_values.ensures.is c.in-None.ensures.none

pub returns-then-same : goal.returns-then-same
returns-then-same c = λ path from here.
    pass_vertex c.args.walk.now.q.now c.args.walk.now.rows.now path (size c.args.walk.now.q.now.target) c.args.marked.now c.args.needed.now c.args.beside.p c.args.beside.t c.args.beside.r from c.part_compatible-same.new.other c.part_compatible-same.new.left refl (kept_needs (size c.args.walk.now.q.now.target) c.count_values.result c.args.beside.r c.args.marked.now c.args.needed.now c.in-Some.row.now c.part_compatible-same.new.other c.count_values.ensures.is c.in-Some.ensures.bits c.part_compatible-same.ensures.bits)
    (subst (λ (b : Bool). AllConsistent b c.args.walk.now.q.now c.args.beside.p c.args.beside.t c.args.beside.r c.part_compatible-same.new.left) c.if-all.true (subst (λ (x : Problem). AllConsistent c.in_ok-all.all x c.args.beside.p c.args.beside.t c.args.beside.r c.part_compatible-same.new.left) c.requires.sharers c.in_ok-all.ensures))
    (c.part_compatible-same.ensures.same c.if-same.true)

use Rattle.std.proofs.Common.{◌≡◌, ℕ, ◌+◌, List, length, sym, subst, ◌∙◌, arith}
use Rattle.graph_rows.specs.Held.{AreLoops}
use Rattle.graph_rows.proofs.Places.{row_narrow, vertex_in_row, vertices_in_words}
use Rattle.graph_rows.proofs.Looping.{loops_none, loops_more, loops_same}
use Rattle.graph_rows.proofs.marks.gather_loops.Goals as goal
use Rattle.graph_rows.proofs.marks.gather_loops.Goals.{then-is_marked, else-is_marked}

pub loop-a-init : goal.loop-a-init
loop-a-init c = loops_none c.args.width c.args.words.now c.args.loops.now c.requires.long c.requires.empty

pub is_marked-requires-clause-from : goal.is_marked-requires-clause-from
is_marked-requires-clause-from c = omega (arith, c.loop-a-test.true, c.requires.few)

pub is_marked-requires-clause-to : goal.is_marked-requires-clause-to
is_marked-requires-clause-to c = omega (arith, c.loop-a-test.true, c.requires.few)

pub is_marked-requires-clause-narrow : goal.is_marked-requires-clause-narrow
is_marked-requires-clause-narrow c = row_narrow c.args.size c.args.width c.requires.few c.requires.width_is

pub is_marked-requires-clause-within : goal.is_marked-requires-clause-within
is_marked-requires-clause-within c =
    vertices_in_words c.args.size c.args.width c.loop-a.a c.loop-a.a (length c.args.words.now) c.requires.width_is c.requires.words_are c.loop-a-test.true c.loop-a-test.true

pub set_bit-requires : goal.set_bit-requires
set_bit-requires c = vertex_in_row c.args.size c.args.width c.loop-a.a (length c.loop-a.loops) c.requires.width_is c.loop-a.invariant.long c.loop-a-test.true

pub loop-a-preserved : goal.loop-a-preserved
loop-a-preserved c =
    (elim c.if-is_marked.branch [
      | then-is_marked w ↦ subst (λ (ls : List ℕ). AreLoops (c.loop-a.a + 1) c.args.width c.args.words.now ls) (sym w.loops-is)
          (loops_more c.loop-a.a c.args.width c.args.words.now c.loop-a.loops w.set_bit.new.row c.loop-a.invariant w.set_bit.auto.row (sym c.is_marked.ensures ∙ w.if-is_marked.true) w.set_bit.ensures)
      | else-is_marked w ↦ subst (λ (ls : List ℕ). AreLoops (c.loop-a.a + 1) c.args.width c.args.words.now ls) (sym w.loops-is)
          (loops_same c.loop-a.a c.args.width c.args.words.now c.loop-a.loops c.loop-a.invariant (sym c.is_marked.ensures ∙ w.if-is_marked.false))
    ])

pub returns : goal.returns
returns c = subst (λ (a : ℕ). AreLoops a c.args.width c.args.words.now c.loop-a.loops) (let e : c.loop-a.a ≡ c.args.size = omega (arith, c.loop-a.auto.a-end, c.loop-a-test.false) in e) c.loop-a.invariant

use Rattle.std.proofs.Common.{◌<◌, ℕ, length, subst}
use Rattle.graph_theory.specs.Graph.{size}
use Rattle.dead_paths.proofs.HeldPairs.{literal_at, bearing_none, bearing_fewer}
use Rattle.dead_paths.proofs.known.push_bearing_all.Goals as goal

pub loop-x-init : goal.loop-x-init
loop-x-init c = record { borne = λ known here. bearing_none c.args.lines.now known c.args.but c.args.pairs.now c.args.refs.now.items; fits = c.requires.fits }

pub push_bearing-requires-clause-vertex : goal.push_bearing-requires-clause-vertex
push_bearing-requires-clause-vertex c =
    subst (λ (x : ℕ × ℕ). x.0 < size c.args.lines.now.pattern) (literal_at c.args.pairs.now c.loop-x.x-index _ c.loop-x-test.true) (c.requires.vertices c.loop-x.x-index c.loop-x-test.true)

pub loop-x-preserved : goal.loop-x-preserved
loop-x-preserved c = record {
  borne = λ known here.
      c.in_ok-push_bearing.ensures.borne known c.args.pairs.now c.loop-x.x-index c.args.refs.now.items here (literal_at c.args.pairs.now c.loop-x.x-index _ c.loop-x-test.true) (c.loop-x.invariant.borne known here);
  fits = c.in_ok-push_bearing.ensures.fits;
}

pub returns-clause-borne : goal.returns-clause-borne
returns-clause-borne c = λ known here.
    bearing_fewer c.args.lines.now known c.args.but c.args.pairs.now c.loop-x.x-index (length c.args.pairs.now) c.args.refs.now.items c.loop-x.refs.items c.loop-x-test.false (c.loop-x.invariant.borne known here)

use Rattle.std.proofs.Common.{◌<◌, sym, subst}
use Rattle.graph_theory.specs.Graph.{size}
use Rattle.graph_theory.specs.Embedding.{Problem}
use Rattle.log_growth.specs.Frames.{Frame, IsFrameOf, Goes}
use Rattle.dead_paths.specs.Making.{GivesRow}
use Rattle.pair_lines.specs.Claims.{Knows, IsKnownRow}
use Rattle.line_cache.specs.Made.{IsMade}
use Rattle.line_cache.proofs.Giving.{goes_more, row_given}
use Rattle.line_cache.proofs.maker.LineCacheLineMaker.row.Goals as goal

pub row-requires-clause-placed : goal.row-requires-clause-placed
row-requires-clause-placed g c = record {
  first = subst (λ (x : Problem). c.args.beside.p < size x.pattern) (sym c.problem-q.ensures) c.requires.p_in;
  place = subst (λ (x : Problem). c.args.beside.t < size x.target) (sym c.problem-q.ensures) c.requires.t_in;
  second = subst (λ (x : Problem). c.args.beside.r < size x.pattern) (sym c.problem-q.ensures) c.requires.r_in;
  others = c.requires.apart;
}

pub returns-clause-goes : goal.returns-clause-goes
returns-clause-goes g c = λ w frame.
    let j = c.args.self.now in
    let q = c.args.lines.now in
    let goes : (v : Frame) → IsFrameOf q (g.K.Keeper.owner c.args.keeper.now) v → Goes v (g.K.Keeper.kept c.args.keeper.now) (g.K.Keeper.kept c.row.new.keeper) (Knows v q j.rows) (IsKnownRow c.args.by_edges v q c.args.beside.p c.args.beside.t c.args.beside.r c.row.new.self c.row.result) =
    subst (λ (x : Problem). (v : Frame) → IsFrameOf x (g.K.Keeper.owner c.args.keeper.now) v → Goes v (g.K.Keeper.kept c.args.keeper.now) (g.K.Keeper.kept c.row.new.keeper) (Knows v x j.rows) (IsKnownRow c.args.by_edges v x c.args.beside.p c.args.beside.t c.args.beside.r c.row.new.self c.row.result)) c.problem-q.ensures c.row.ensures.goes in
    goes_more w (g.K.Keeper.kept c.args.keeper.now) (g.K.Keeper.kept c.row.new.keeper) (Knows w q j.rows) (IsKnownRow c.args.by_edges w q c.args.beside.p c.args.beside.t c.args.beside.r c.row.new.self c.row.result)
    (IsMade q j.problem.now w j.units j.firsts j.rows j.sets) (GivesRow c.args.by_edges q w c.args.beside.p c.args.beside.t c.args.beside.r c.row.result (IsMade q j.problem.now w j.units j.firsts c.row.new.self j.sets))
    (goes w frame) (λ forms h. h.rows_are)
    (λ forms more h known. row_given c.args.by_edges q j.problem.now w j.units j.firsts j.rows c.row.new.self j.sets c.args.beside.p c.args.beside.t c.args.beside.r c.row.result forms more h known)

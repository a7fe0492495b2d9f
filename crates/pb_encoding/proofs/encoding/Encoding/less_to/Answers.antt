use Rattle.std.proofs.Common.{◌-◌, arith}
use Rattle.encoding_theory.specs.Encoding.{less_to}
use Rattle.encoding_theory.specs.Places.{less_to_place}
use Rattle.encoding_theory.proofs.PlaceProofs.{place_laws}
use Rattle.pb_encoding.proofs.Counts.{inside_of}
use Rattle.pb_encoding.proofs.LineNumbers.{to_line, form_at, kept, order_seen}
use Rattle.pb_encoding.proofs.encoding.Encoding.less_to.Goals as goal

pub returns-clause-line : goal.returns-clause-line
returns-clause-line c x is =
    let k = kept _ _ _ _ _ _ _ _ c.self.view_is c.self.invariant in
    let order = order_seen _ _ _ c.self.view_is c.less-less.ensures.pairs c.less-less.ensures.order in
    rw (c.order_lines.ensures.lines, c.from.ensures, c.from-2.ensures, c.from-3.ensures)
    (to_line c.args.self.now c.less_start.result c.self.inside.targets c.args.t (c.args.k - 1) x order (omega arith) c.less_start.ensures.start k.targets_are)

pub returns-clause-form : goal.returns-clause-form
returns-clause-form c x is =
    let order = order_seen _ _ _ c.self.view_is c.less-less.ensures.pairs c.less-less.ensures.order in
    form_at c.args.self.now (less_to_place c.args.self.now (c.args.k - 1) x c.args.t) _ (less_to c.args.self.now x c.args.t) (returns-clause-line c x is)
    ((place_laws c.args.self.now).less_to (c.args.k - 1) x c.args.t (omega arith) is (inside_of c.args.self.now order (c.args.k - 1) x is) c.requires.t_in)

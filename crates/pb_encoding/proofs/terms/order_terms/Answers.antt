use Rattle.std.proofs.Common.{arith, negsuc}
use Rattle.encoding_theory.specs.Variables.{variable}
use Rattle.pb_encoding.specs.Lines.{is_beyond}
use Rattle.pb_encoding.proofs.TermLists.{few-led}
use Rattle.pb_encoding.proofs.terms.order_terms.Goals as goal

pub returns-clause-few : goal.returns-clause-few
returns-clause-few c =
    few-led (variable c.args.q.now c.args.p c.args.t, negsuc 0) (is_beyond c.args.above c.args.t) (variable c.args.q.now c.args.r) c.loop-u.u c.loop-u.out.items c.loop-u.invariant (omega arith) (omega arith)

use Rattle.std.proofs.Common.{◌≡◌}
use Rattle.encoding_theory.specs.Variables.{variable}
use Rattle.encoding_theory.specs.Encoding.{every, terms_where}
use Rattle.pb_encoding.proofs.terms.vertex_terms.Given as goal

abbrev pub invariant-loop-t : goal.invariant-loop-t
invariant-loop-t l = l.out.items ≡ terms_where l.coefficient every (variable l.q l.p) l.t

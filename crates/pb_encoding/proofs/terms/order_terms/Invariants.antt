use Rattle.std.proofs.Common.{◌≡◌, ◌∷◌, pos, negsuc}
use Rattle.encoding_theory.specs.Variables.{variable}
use Rattle.encoding_theory.specs.Encoding.{terms_where}
use Rattle.pb_encoding.specs.Lines.{is_beyond}
use Rattle.pb_encoding.proofs.terms.order_terms.Given as goal

abbrev pub invariant-loop-u : goal.invariant-loop-u
invariant-loop-u l = l.out.items ≡ (variable l.q l.p l.t, negsuc 0) ∷ terms_where (pos 1) (is_beyond l.above l.t) (variable l.q l.r) l.u

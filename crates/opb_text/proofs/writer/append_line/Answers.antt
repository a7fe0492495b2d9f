use Rattle.std.proofs.Common.{ℤ, FitsSigned, List, ℕ, ap, ◌∙◌, ◌++◌, ◌≡◌, OnOk, subst, rules}
use Rattle.std.specs.Int.{w128}
use Rattle.std.specs.List.{flat_map}
use Rattle.std.proofs.lemmas.Int.{to_z-of_z}
use Rattle.opb_text.specs.Pieces.{term_text, end_text}
use Rattle.opb_text.proofs.LinePieces.{line_pieces}
use Rattle.opb_text.proofs.Appending.{appended-then}
use Rattle.opb_text.proofs.writer.append_line.Goals as goal

pub returns : goal.returns
returns c =
    let f = c.args.constraint.now in
    let terms = c.in_ok-append_terms.ensures ∙ ap (λ (ts : List (ℕ × ℤ)). c.args.text.now.items ++ flat_map term_text ts) c.terms.ensures.exact in
    let fits : FitsSigned w128 c.bound.result = search rules in
    let end = rw (to_z-of_z w128 c.bound.result fits) at c.append_end.ensures in
    appended-then c.append_end.result c.args.text.now.items c.append_terms.new.text.items c.append_end.new.text.items (flat_map term_text f.terms) (end_text f.bound) _
    terms (line_pieces f.terms f.bound) (rw (← c.bound.ensures) end)

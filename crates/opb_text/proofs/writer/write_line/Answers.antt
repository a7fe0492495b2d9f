use Rattle.std.proofs.Common.{ℕ, ℤ, FitsSigned, List, ap, ◌∙◌, subst, rules}
use Rattle.std.specs.Int.{w128}
use Rattle.std.specs.List.{flat_map}
use Rattle.std.proofs.lemmas.Int.{to_z-of_z}
use Rattle.std.specs.Io.KnownBytes.{append_known}
use Rattle.std.proofs.lemmas.Result.{err_from_is_err_and}
use Rattle.outer_io.specs.KnownText.{Wrote, StopsIn}
use Rattle.outer_io.specs.Sinks.{Spot}
use Rattle.outer_io.proofs.KnownTexts.{StopsIn-first}
use Rattle.opb_text.specs.Pieces.{term_text, end_text}
use Rattle.opb_text.proofs.LinePieces.{line_pieces}
use Rattle.opb_text.proofs.Putting.{Wrote-then}
use Rattle.opb_text.proofs.writer.write_line.Goals as goal

pub returns-in_err-write_terms-clause-text : goal.returns-in_err-write_terms-clause-text
returns-in_err-write_terms-clause-text g c =
    let f = c.args.constraint.now in
    let p = err_from_is_err_and c.from_residual.result c.from_residual.ensures.1 in
    let stop = subst (λ (ts : List (ℕ × ℤ)). StopsIn (g.S.Sink.spot c.args.sink.now).steady (g.S.Sink.contents c.args.sink.now) (g.S.Sink.contents c.write_terms.new.sink) (flat_map term_text ts)) c.terms.ensures.exact c.in_err-write_terms.ensures.text in
    rw p.1 (subst (λ (t : List ℕ). StopsIn (g.S.Sink.spot c.args.sink.now).steady (g.S.Sink.contents c.args.sink.now) (g.S.Sink.contents c.write_terms.new.sink) t)
    (line_pieces f.terms f.bound) (StopsIn-first _ _ _ (flat_map term_text f.terms) (end_text f.bound) stop))

pub returns-clause-text : goal.returns-clause-text
returns-clause-text g c =
    let f = c.args.constraint.now in
    let terms = c.in_ok-write_terms.ensures.text ∙ ap (λ (ts : List (ℕ × ℤ)). append_known (g.S.Sink.contents c.args.sink.now) (flat_map term_text ts)) c.terms.ensures.exact in
    let fits : FitsSigned w128 c.bound.result = search rules in
    let end = rw (to_z-of_z w128 c.bound.result fits) at c.write_end.ensures.text in
    let put = Wrote-then (g.S.Sink.spot c.args.sink.now).steady (g.S.Sink.spot c.write_terms.new.sink).steady (ap (λ (s : Spot). s.steady) c.write_terms.ensures.cause.same)
    (g.S.Sink.contents c.args.sink.now) (g.S.Sink.contents c.write_terms.new.sink) (g.S.Sink.contents c.write_end.new.sink) c.write_end.result (flat_map term_text f.terms) (end_text f.bound) terms (rw (← c.bound.ensures) end) in
    subst (λ (t : List ℕ). Wrote (g.S.Sink.spot c.args.sink.now).steady (g.S.Sink.contents c.args.sink.now) (g.S.Sink.contents c.write_end.new.sink) c.write_end.result t) (line_pieces f.terms f.bound) put

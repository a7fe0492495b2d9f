use Rattle.std.proofs.Common.{◌≡◌, ℕ, List, subst, rules}
use Rattle.std.specs.Fmt.{decimal}
use Rattle.outer_io.specs.KnownText.{Wrote}
use Rattle.opb_text.proofs.LinePieces.{head_pieces}
use Rattle.opb_text.proofs.writer.write_head.Goals as goal

pub returns-clause-text : goal.returns-clause-text
returns-clause-text g c =
    let a : c.as_bytes.result.now ≡ decimal c.args.variables = search rules in
    let b : c.as_bytes-2.result.now ≡ decimal c.args.count = search rules in
    subst (λ (t : List ℕ). Wrote (g.S.Sink.spot c.args.sink.now).steady (g.S.Sink.contents c.args.sink.now) (g.S.Sink.contents c.put_all.new.sink) c.put_all.result t)
    (head_pieces c.args.variables c.args.count _ _ a b) c.put_all.ensures.text

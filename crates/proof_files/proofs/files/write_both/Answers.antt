-- Where writing stopped, and what the files hold then.
use Rattle.std.proofs.Common.{◌≡◌, Some, subst, sym}
use Rattle.std.specs.Prelude.{IsTrue}
use Rattle.std.proofs.lemmas.Result.{err_from_is_err_and}
use Rattle.graph_theory.specs.Embedding.{Problem}
use Rattle.pb_encoding.specs.Writing.{encoding_text}
use Rattle.proof_files.specs.OneFile.{IsCutShort}
use Rattle.proof_files.specs.TwoFiles.{two_files}
use Rattle.proof_files.specs.Parts.{part_texts}
use Rattle.proof_files.proofs.Stopping.{quiet_at_ok, stops_in_encoding, stops_in_log}
use Rattle.proof_files.proofs.files.write_both.Goals as goal

pub returns-in_err-put_encoding-clause-says : goal.returns-in_err-put_encoding-clause-says
returns-in_err-put_encoding-clause-says g c =
    let p = err_from_is_err_and c.from_residual.result c.from_residual.ensures.1 in
    let name = c.args.order.now.encoding.now in
    let content = g.F.Files.content in
    let d = two_files g.F.Files.tells content g.F.Files.faults g.F.Files.fault_at name c.args.order.now.log.now c.args.files.now c.put_encoding.new.files in
    rw (p.1, p.2) (stops_in_encoding c.in_err-put_encoding.field-0.0 d (part_texts c.args.order.now.profile c.args.q.now c.args.parts) (λ e. c.requires.apart (sym e))
    (subst (λ (q : Problem). IsTrue d.tells → IsCutShort (content c.args.files.now name) (content c.put_encoding.new.files name) (encoding_text q)) c.requires.same c.in_err-put_encoding.ensures.cut)
    c.in_err-put_encoding.ensures.fault c.put_encoding.ensures.files.others)

pub returns-in_err-put_log-clause-says : goal.returns-in_err-put_log-clause-says
returns-in_err-put_log-clause-says g c =
    let p = err_from_is_err_and c.from_residual-in_err-put_log.result c.from_residual-in_err-put_log.ensures.1 in
    let name = c.args.order.now.log.now in
    let content = g.F.Files.content in
    let between = content c.put_encoding.new.files in
    let d = two_files g.F.Files.tells content g.F.Files.faults g.F.Files.fault_at c.args.order.now.encoding.now name c.args.files.now c.put_log.new.files in
    let told : IsTrue d.tells → IsTrue (g.F.Files.tells c.put_encoding.new.files) = subst (λ t. IsTrue t) (sym c.put_encoding.ensures.files.told) in
    rw (p.1, p.2) (stops_in_log d (part_texts c.args.order.now.profile c.args.q.now c.args.parts) between (g.F.Files.faults c.put_encoding.new.files) c.requires.apart
    (subst (λ (q : Problem). IsTrue d.tells → between c.args.order.now.encoding.now ≡ Some (encoding_text q)) c.requires.same c.in_ok-put_encoding.ensures.whole)
    (λ t. c.in_err-put_log.ensures.cut (told t))
    c.in_err-put_log.ensures.fault (quiet_at_ok _ c.in_ok-put_encoding.ensures.quiet) c.put_encoding.ensures.files.others c.put_log.ensures.files.others)

use Rattle.std.proofs.Common.{ℕ, ◌≡◌, [], subst, sym}
use Rattle.log_growth.proofs.Rows.{frame_is}
use Rattle.proof_logger.specs.Logging.{IsNogoodBy}
use Rattle.search_journal.specs.Lines.{log_rows, row_clause, row_frame}
use Rattle.search_theory.specs.Account.{fresh}
use Rattle.search_journal.specs.Entries.{Writes}
use Rattle.search_journal.proofs.Writing.{writes_begun}
use Rattle.search_journal.proofs.keeping.SearchJournal.new.Goals as goal

pub returns-clause-writes : goal.returns-clause-writes
returns-clause-writes g c = λ rows pattern target budget none.
    let owner : c.new.result.owner ≡ c.args.owner = c.new.ensures.owner in
    let known = c.requires.knows (row_frame c.args.lines.now rows c.args.owner) (frame_is c.args.lines.now (log_rows rows) (row_clause c.args.lines.now rows) [] c.args.owner) in
    rw (c.new-2.ensures.owner, c.new-2.ensures.notes, c.new-3.ensures.items) (subst (λ (o : ℕ). Writes (g.M.LineMaker.knows c.args.maker) c.args.lines.now c.new.result o [] [] c.args.lines.now rows (fresh pattern target budget)) owner
    (writes_begun (g.M.LineMaker.knows c.args.maker) c.new.result c.args.lines.now rows pattern target budget c.new.ensures.steps c.new.ensures.notes
    (subst (λ (o : ℕ). g.M.LineMaker.knows c.args.maker c.args.lines.now (row_frame c.args.lines.now rows o) []) (sym owner) known)
    (λ k own. none k (subst (λ (o : ℕ). IsNogoodBy o rows k) owner own))))

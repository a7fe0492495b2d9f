use Rattle.search_journal.proofs.Writing.{writes_deepened, writes_grown, steps_grown, refutes_grown, steps_without, refutes_without}
use Rattle.search_journal.proofs.keeping.SearchJournalProofLogger.stays.Goals as goal

pub returns-clause-guess : goal.returns-clause-guess
returns-clause-guess g c = λ q rows a p t at w. let j = c.args.self.now in
    writes_deepened (g.M.LineMaker.knows j.maker) j.lines.now j.journal j.numbers.owner j.numbers.notes j.entries.items q rows a p t at w

pub returns-clause-grown : goal.returns-clause-grown
returns-clause-grown g c = λ q rows more a grows w. let j = c.args.self.now in
    writes_grown (g.M.LineMaker.knows j.maker) (g.met.M.LineMaker.wider j.maker) j.lines.now j.journal j.numbers.owner j.numbers.notes j.entries.items q rows more a grows w

pub returns-clause-steps_grown : goal.returns-clause-steps_grown
returns-clause-steps_grown g c = λ q rows more grows s. steps_grown c.args.self.now.lines.now c.args.self.now.journal q rows more grows s

pub returns-clause-refutes_grown : goal.returns-clause-refutes_grown
returns-clause-refutes_grown g c = λ q rows more grows r. refutes_grown c.args.self.now.lines.now c.args.self.now.journal q rows more grows r

pub returns-clause-steps_without_own : goal.returns-clause-steps_without_own
returns-clause-steps_without_own g c = λ q rows whole ends s. steps_without c.args.self.now.lines.now c.args.self.now.journal q rows whole ends s

pub returns-clause-refutes_without_own : goal.returns-clause-refutes_without_own
returns-clause-refutes_without_own g c = λ q rows whole ends r. refutes_without c.args.self.now.lines.now c.args.self.now.journal q rows whole ends r

use Rattle.std.proofs.Common.{ℕ, ◌≡◌, ◌≤◌, List, length, Some, subst, sym, ap, ◌∙◌, arith}
use Rattle.std.specs.Prelude.{slice_get}
use Rattle.log_theory.specs.declared.step.Step.{Step}
use Rattle.search_journal.specs.declared.refuted.Refuted.{Refuted}
use Rattle.search_journal.specs.Numbers.{RowsBelow}
use Rattle.search_journal.specs.Entries.{HasEntry, Writes}
use Rattle.search_journal.proofs.Lists.{entries_at}
use Rattle.search_journal.proofs.Numbers.{below_more}
use Rattle.search_journal.proofs.Writing.{writes_noted}
use Rattle.search_journal.proofs.keeping.SearchJournalProofLogger.note.Goals as goal

some_steps : (xs ys : List Step) → Some xs ≡ Some ys → xs ≡ ys
some_steps xs ys e = cc

pub returns-clause-noted : goal.returns-clause-noted
returns-clause-noted g c = λ q rows more w p.
    let j = c.args.self.now in
    let a = c.args._account.now in
    let e = c.in-Some.entry in
    let place = c.in-Some.ensures.among in
    let here = c.in-Some.ensures.some in
    let at = subst (λ (es : List Refuted). slice_get es place.0 ≡ Some e) c.deref.ensures.value place.1 in
    let behind : length rows ≤ c.args.row = p.behind in
    let below : RowsBelow c.args.row j.numbers.notes = subst (RowsBelow c.args.row) (sym w.numbers_are) (below_more (length rows) c.args.row j.journal.notes behind w.in_rows) in
    let noted = writes_noted (g.M.LineMaker.knows j.maker) (g.met.M.LineMaker.wider j.maker) j.lines.now j.journal c.note.new.self j.numbers.owner j.numbers.notes j.entries.items q rows more a
    c.args.level c.args.value c.args.row e p c.note.ensures.owner (some_steps c.note.new.self.steps j.journal.steps c.note.ensures.kept) c.note.ensures.noted w
    (entries_at q a w.forms j.entries.items place.0 e w.entries_are at) (here.0 ∙ c.from.ensures) here.1 in
    subst (λ (o : ℕ). Writes (g.M.LineMaker.knows j.maker) j.lines.now c.note.new.self o c.push.new.self.notes j.entries.items q more a) (sym c.push.ensures.owner)
    (subst (λ (ns : List (ℕ × ℕ)). Writes (g.M.LineMaker.knows j.maker) j.lines.now c.note.new.self j.numbers.owner ns j.entries.items q more a) (sym (c.push.ensures.pushed below)) noted)

pub returns-in-None-clause-noted : goal.returns-in-None-clause-noted
returns-in-None-clause-noted g c = λ q rows more w p.
    let j = c.args.self.now in
    let has : HasEntry j.entries.items c.args.level c.args.value = w.covered c.args.level p.vertex c.args.value p.vertex_is p.refuted in
    let none = c.in-None.ensures.none in
    absurd (none (subst (λ (n : ℕ). HasEntry c.deref.result.now n c.args.value) (sym c.from.ensures) (subst (λ (es : List Refuted). HasEntry es c.args.level c.args.value) (sym c.deref.ensures.value) has)))

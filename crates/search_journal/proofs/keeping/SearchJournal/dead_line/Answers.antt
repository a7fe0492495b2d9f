use Rattle.std.proofs.Common.{ℕ, List, [], subst, sym}
use Rattle.recorder.specs.Recording.{changes_of, set_at}
use Rattle.nogood_book.specs.Rows.{AreInRange}
use Rattle.search_journal.proofs.Closing.{told_in_problem, told_end_in, path_in_range, lined}
use Rattle.search_journal.proofs.keeping.SearchJournal.dead_line.Goals as goal

pub explain-requires-clause-in_problem : goal.explain-requires-clause-in_problem
explain-requires-clause-in_problem g c =
    told_in_problem c.args.self.now.lines.now c.args.rows.now (changes_of c.args.ended.1.numbers.now c.args.ended.1.entries.now) (set_at c.args.ended.1.numbers.now c.args.ended.1.short) c.args.account.now c.args.ended.0 c.requires.ends

pub explain-requires-clause-path : goal.explain-requires-clause-path
explain-requires-clause-path g c =
    subst (λ (xs : List (ℕ × ℕ)). AreInRange c.args.self.now.lines.now xs) (sym c.path.ensures.is)
    (path_in_range c.args.self.now.lines.now c.args.account.now c.requires.honest.pattern_is c.requires.honest.target_is c.path.ensures.in_range)

pub explain-requires-clause-end : goal.explain-requires-clause-end
explain-requires-clause-end g c =
    told_end_in c.args.self.now.lines.now c.args.rows.now (changes_of c.args.ended.1.numbers.now c.args.ended.1.entries.now) (set_at c.args.ended.1.numbers.now c.args.ended.1.short) c.args.account.now c.args.ended.0 c.requires.ends

pub returns-clause-lined : goal.returns-clause-lined
returns-clause-lined g c =
    let j = c.args.self.now in
    lined (g.M.LineMaker.knows j.maker) (g.M.LineMaker.knows c.explain.new.maker) j.lines.now j.journal c.explain.new.keeper j.numbers.owner j.numbers.notes j.entries.items c.args.self.now.lines.now c.args.rows.now c.args.account.now
    c.args.above c.explain.result (changes_of c.args.ended.1.numbers.now c.args.ended.1.entries.now) (set_at c.args.ended.1.numbers.now c.args.ended.1.short) c.args.ended.0 c.path.result.now c.args.refuted.now
    c.path.ensures.is c.requires.refuted c.requires.ends c.requires.sound c.path.ensures.vertices
    (path_in_range c.args.self.now.lines.now c.args.account.now c.requires.honest.pattern_is c.requires.honest.target_is c.path.ensures.in_range)
    c.explain.ensures.goes

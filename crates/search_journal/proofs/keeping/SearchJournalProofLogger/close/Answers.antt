use Rattle.std.proofs.Common.{ℕ, ◌≡◌, ◌+◌, ◌-◌, ◌<◌, List, length, take, Some, refl, subst, sym, ap, ◌∙◌, arith}
use Rattle.std.specs.Prelude.{slice_get}
use Rattle.search_theory.specs.Account.{path}
use Rattle.proof_logger.specs.Logging.{Closed}
use Rattle.search_journal.specs.declared.refuted.Refuted.{Refuted}
use Rattle.search_journal.specs.Lines.{Refutes}
use Rattle.search_journal.specs.Entries.{Writes}
use Rattle.search_journal.proofs.Closing.{counted_steps, named, closed_empty, closed_failed, closed_same}
use Rattle.search_journal.proofs.keeping.SearchJournalProofLogger.close.Goals as goal

pub returns-in_err-answer-clause-steps : goal.returns-in_err-answer-clause-steps
returns-in_err-answer-clause-steps g c =
    let j = c.args.self.now in
    rw c.dead_line.ensures.same (counted_steps (g.M.LineMaker.knows j.maker) (g.M.LineMaker.knows c.dead_line.new.self.maker) j.lines.now j.journal c.dead_line.new.self.journal j.numbers.owner j.numbers.notes j.entries.items c.reserve.new.self.items
    c.deref.result.now c.args.q.now c.args.rows.now c.args.account.now c.count_above-above.result c.path-length.result.now c.dead_line.result c.in_ok-reserve.ensures.items c.deref.ensures.value c.path-length.ensures.is c.requires.writes
    c.count_above-above.ensures.from c.count_above-above.ensures.below c.dead_line.ensures.owner c.dead_line.ensures.notes c.dead_line.ensures.lined)

pub returns-in-None-answer-clause-steps : goal.returns-in-None-answer-clause-steps
returns-in-None-answer-clause-steps g c =
    let j = c.args.self.now in
    rw c.dead_line.ensures.same (counted_steps (g.M.LineMaker.knows j.maker) (g.M.LineMaker.knows c.dead_line.new.self.maker) j.lines.now j.journal c.dead_line.new.self.journal j.numbers.owner j.numbers.notes j.entries.items c.reserve.new.self.items
    c.deref.result.now c.args.q.now c.args.rows.now c.args.account.now c.count_above-above.result c.path-length.result.now c.dead_line.result c.in_ok-reserve.ensures.items c.deref.ensures.value c.path-length.ensures.is c.requires.writes
    c.count_above-above.ensures.from c.count_above-above.ensures.below c.dead_line.ensures.owner c.dead_line.ensures.notes c.dead_line.ensures.lined)

pub returns-in-None-last_pair-clause-steps : goal.returns-in-None-last_pair-clause-steps
returns-in-None-last_pair-clause-steps g c =
    let j = c.args.self.now in
    rw c.dead_line.ensures.same (counted_steps (g.M.LineMaker.knows j.maker) (g.M.LineMaker.knows c.dead_line.new.self.maker) j.lines.now j.journal c.dead_line.new.self.journal j.numbers.owner j.numbers.notes j.entries.items c.reserve.new.self.items
    c.deref.result.now c.args.q.now c.args.rows.now c.args.account.now c.count_above-above.result c.path-length.result.now c.dead_line.result c.in_ok-reserve.ensures.items c.deref.ensures.value c.path-length.ensures.is c.requires.writes
    c.count_above-above.ensures.from c.count_above-above.ensures.below c.dead_line.ensures.owner c.dead_line.ensures.notes c.dead_line.ensures.lined)

pub returns-clause-steps : goal.returns-clause-steps
returns-clause-steps g c =
    let j = c.args.self.now in
    rw c.dead_line.ensures.same (counted_steps (g.M.LineMaker.knows j.maker) (g.M.LineMaker.knows c.dead_line.new.self.maker) j.lines.now j.journal c.dead_line.new.self.journal j.numbers.owner j.numbers.notes j.entries.items c.reserve.new.self.items
    c.deref.result.now c.args.q.now c.args.rows.now c.args.account.now c.count_above-above.result c.path-length.result.now c.dead_line.result c.in_ok-reserve.ensures.items c.deref.ensures.value c.path-length.ensures.is c.requires.writes
    c.count_above-above.ensures.from c.count_above-above.ensures.below c.dead_line.ensures.owner c.dead_line.ensures.notes c.dead_line.ensures.lined)

pub returns-in-None-last_pair-clause-closed : goal.returns-in-None-last_pair-clause-closed
returns-in-None-last_pair-clause-closed g c =
    let j = c.args.self.now in
    let knows = g.M.LineMaker.knows j.maker in
    let later = g.M.LineMaker.knows c.dead_line.new.self.maker in
    let es = c.reserve.new.self.items in
    let q = c.args.q.now in
    let rows = c.args.rows.now in
    let a = c.args.account.now in
    let k = c.count_above-above.result in
    let made = named knows later j.lines.now j.journal c.dead_line.new.self.journal j.numbers.owner j.numbers.notes j.entries.items es c.deref.result.now q rows a k c.path-length.result.now c.in_ok-answer.answer c.in-Some-answer.name c.in-Some-answer.is
    c.in_ok-reserve.ensures.items c.deref.ensures.value c.path-length.ensures.is c.requires.writes c.count_above-above.ensures.from c.count_above-above.ensures.below c.in_ok-answer.ensures.lined c.in_ok-answer.ensures.last in
    let none : length (path a) ≡ 0 = ap (λ (xs : List (ℕ × ℕ)). length xs) (sym c.path.ensures.is) ∙ c.in-None-last_pair.ensures.none in
    closed_same later j.lines.now c.dead_line.new.self.lines.now c.dead_line.new.self.journal j.numbers.owner c.dead_line.new.self.numbers.owner j.numbers.notes c.dead_line.new.self.numbers.notes c.dead_line.new.self.entries.items q rows a
    c.dead_line.ensures.same (ap (λ n. n.owner) c.dead_line.ensures.numbers) (ap (λ n. n.notes) c.dead_line.ensures.numbers) (closed_empty knows later j.lines.now j.journal c.dead_line.new.self.journal j.numbers.owner j.numbers.notes es c.dead_line.new.self.entries.items q rows a
    c.in-Some-answer.name made.count.writes c.dead_line.ensures.owner c.dead_line.ensures.notes made.line made.last none)

pub returns-clause-closed : goal.returns-clause-closed
returns-clause-closed g c =
    let j = c.args.self.now in
    let knows = g.M.LineMaker.knows j.maker in
    let later = g.M.LineMaker.knows c.dead_line.new.self.maker in
    let es = c.reserve.new.self.items in
    let q = c.args.q.now in
    let rows = c.args.rows.now in
    let a = c.args.account.now in
    let k = c.count_above-above.result in
    let made = named knows later j.lines.now j.journal c.dead_line.new.self.journal j.numbers.owner j.numbers.notes j.entries.items es c.deref.result.now q rows a k c.path-length.result.now c.in_ok-answer.answer c.in-Some-answer.name c.in-Some-answer.is
    c.in_ok-reserve.ensures.items c.deref.ensures.value c.path-length.ensures.is c.requires.writes c.count_above-above.ensures.from c.count_above-above.ensures.below c.in_ok-answer.ensures.lined c.in_ok-answer.ensures.last in
    let some = c.in-Some-last_pair.ensures.some in
    let long : length c.path-length.result.now ≡ length (path a) = ap (λ (xs : List (ℕ × ℕ)). length xs) c.path-length.ensures.is in
    let here : length c.path.result.now ≡ length (path a) = ap (λ (xs : List (ℕ × ℕ)). length xs) c.path.ensures.is in
    let at : slice_get (path a) (length c.path-length.result.now - 1) ≡ Some c.in-Some-last_pair.last =
    subst (λ (n : ℕ). slice_get (path a) (n - 1) ≡ Some c.in-Some-last_pair.last) (here ∙ sym long) (subst (λ (xs : List (ℕ × ℕ)). slice_get xs (length c.path.result.now - 1) ≡ Some c.in-Some-last_pair.last) c.path.ensures.is some.1) in
    let positive : 0 < length c.path.result.now = some.0 in
    let level : length c.path-length.result.now - 1 + 1 ≡ length (path a) = omega (arith, positive, here, long) in
    let front : c.truncate.new.self.items ≡ take k es = c.truncate.ensures.items ∙ ap (λ v. take k v.items) c.dead_line.ensures.entries in
    closed_same later j.lines.now c.dead_line.new.self.lines.now c.dead_line.new.self.journal j.numbers.owner c.dead_line.new.self.numbers.owner j.numbers.notes c.dead_line.new.self.numbers.notes c.push_reserved.new.self.items q rows a
    c.dead_line.ensures.same (ap (λ n. n.owner) c.dead_line.ensures.numbers) (ap (λ n. n.notes) c.dead_line.ensures.numbers) (subst (λ (xs : List Refuted). Closed (λ b. Writes later j.lines.now c.dead_line.new.self.journal j.numbers.owner j.numbers.notes xs q rows b) (Refutes j.lines.now c.dead_line.new.self.journal q rows) a)
    (sym c.push_reserved.ensures.items)
    (closed_failed knows later j.lines.now j.journal c.dead_line.new.self.journal j.numbers.owner j.numbers.notes es q rows a c.in-Some-answer.name k c.truncate.new.self.items _ c.in-Some-last_pair.last front made.count.writes
    c.dead_line.ensures.owner c.dead_line.ensures.notes made.line made.last made.count.from made.count.below refl level at refl))

use Rattle.std.proofs.Common.{ℕ, ◌++◌, ◌∷◌, [], sym, subst, ap, ◌∙◌}
use Rattle.search_theory.specs.Account.{Account}
use Rattle.nogood_book.specs.Seats.{SeatName, IsSeatOf}
use Rattle.restart_search.specs.Searching.{Ends}
use Rattle.parallel_solve.specs.Gathering.{TookIn}
use Rattle.parallel_solve.specs.Teaming.{refuted_by}
use Rattle.parallel_solve.proofs.tally.take_one.Goals as goal

pub take_in-requires-clause-seat : goal.take_in-requires-clause-seat
take_in-requires-clause-seat g c = subst (λ (s : SeatName). IsSeatOf c.args.book.now s) (sym c.into_parts-account.ensures.seat) c.requires.ran.seat_of

pub hear-requires-clause-ends : goal.hear-requires-clause-ends
hear-requires-clause-ends g c = subst (λ (a : Account). Ends c.args.one.outcome c.args.q.now a) (sym c.into_parts-account.ensures.account) c.requires.ran.ends

pub hear-requires-clause-budget : goal.hear-requires-clause-budget
hear-requires-clause-budget g c = ap (λ (a : Account). a.budget) c.into_parts-account.ensures.account ∙ c.requires.ran.budget_is

pub returns-clause-refuted : goal.returns-clause-refuted
returns-clause-refuted g c = c.hear.ensures.refuted ∙ ap (λ (n : ℕ). refuted_by c.args.tally.now.refuted n c.args.one.outcome) c.number-number.ensures

pub returns-clause-logs : goal.returns-clause-logs
returns-clause-logs g c = c.push_reserved.ensures.items ∙ ap (λ (l : g.row.L.Denot). c.args.logs.now.items ++ l ∷ []) c.into_parts-account.ensures.log

pub returns-clause-taken : goal.returns-clause-taken
returns-clause-taken g c = subst (λ (s : SeatName). TookIn s c.take_in.new.first) c.into_parts-account.ensures.seat c.take_in.ensures.taken

-- A word that is missing or bad leaves no solve.

use Rattle.command_line.proofs.Missing.{if_some_none, no_pattern, no_target, no_question, no_threads, no_seed, no_budget, no_book, no_prove}
use Rattle.command_line.proofs.reading.solve_words.Goals as goal

pub returns-in_err-pattern-clause-words : goal.returns-in_err-pattern-clause-words
returns-in_err-pattern-clause-words c = no_pattern c.from_residual.result _ _ _ _ _ _ _ _ c.from_residual.ensures c.in_err-pattern.ensures

pub returns-in_err-pattern-clause-ranges : goal.returns-in_err-pattern-clause-ranges
returns-in_err-pattern-clause-ranges c = if_some_none c.from_residual.result _ c.from_residual.ensures

pub returns-in_err-target-clause-words : goal.returns-in_err-target-clause-words
returns-in_err-target-clause-words c = no_target c.from_residual-in_err-target.result _ _ _ _ _ _ _ _ c.from_residual-in_err-target.ensures c.in_err-target.ensures

pub returns-in_err-target-clause-ranges : goal.returns-in_err-target-clause-ranges
returns-in_err-target-clause-ranges c = if_some_none c.from_residual-in_err-target.result _ c.from_residual-in_err-target.ensures

pub returns-in_err-ask-clause-words : goal.returns-in_err-ask-clause-words
returns-in_err-ask-clause-words c = no_question c.from_residual-in_err-ask.result _ _ _ _ _ _ _ _ c.from_residual-in_err-ask.ensures c.in_err-ask.ensures

pub returns-in_err-ask-clause-ranges : goal.returns-in_err-ask-clause-ranges
returns-in_err-ask-clause-ranges c = if_some_none c.from_residual-in_err-ask.result _ c.from_residual-in_err-ask.ensures

pub returns-in_err-threads-clause-words : goal.returns-in_err-threads-clause-words
returns-in_err-threads-clause-words c = no_threads c.from_residual-in_err-threads.result _ _ _ _ _ _ _ _ c.from_residual-in_err-threads.ensures c.in_err-threads.ensures.value

pub returns-in_err-threads-clause-ranges : goal.returns-in_err-threads-clause-ranges
returns-in_err-threads-clause-ranges c = if_some_none c.from_residual-in_err-threads.result _ c.from_residual-in_err-threads.ensures

pub returns-in_err-seed-clause-words : goal.returns-in_err-seed-clause-words
returns-in_err-seed-clause-words c = no_seed c.from_residual-in_err-seed.result _ _ _ _ _ _ _ _ c.from_residual-in_err-seed.ensures c.in_err-seed.ensures

pub returns-in_err-seed-clause-ranges : goal.returns-in_err-seed-clause-ranges
returns-in_err-seed-clause-ranges c = if_some_none c.from_residual-in_err-seed.result _ c.from_residual-in_err-seed.ensures

pub returns-in_err-budget-clause-words : goal.returns-in_err-budget-clause-words
returns-in_err-budget-clause-words c = no_budget c.from_residual-in_err-budget.result _ _ _ _ _ _ _ _ c.from_residual-in_err-budget.ensures c.in_err-budget.ensures.value

pub returns-in_err-budget-clause-ranges : goal.returns-in_err-budget-clause-ranges
returns-in_err-budget-clause-ranges c = if_some_none c.from_residual-in_err-budget.result _ c.from_residual-in_err-budget.ensures

pub returns-in_err-book-clause-words : goal.returns-in_err-book-clause-words
returns-in_err-book-clause-words c = no_book c.from_residual-in_err-book.result _ _ _ _ _ _ _ _ c.from_residual-in_err-book.ensures c.in_err-book.ensures.value

pub returns-in_err-book-clause-ranges : goal.returns-in_err-book-clause-ranges
returns-in_err-book-clause-ranges c = if_some_none c.from_residual-in_err-book.result _ c.from_residual-in_err-book.ensures

pub returns-in_err-prove-clause-words : goal.returns-in_err-prove-clause-words
returns-in_err-prove-clause-words c = no_prove c.from_residual-in_err-prove.result _ _ _ _ _ _ _ _ c.from_residual-in_err-prove.ensures c.in_err-prove.ensures

pub returns-in_err-prove-clause-ranges : goal.returns-in_err-prove-clause-ranges
returns-in_err-prove-clause-ranges c = if_some_none c.from_residual-in_err-prove.result _ c.from_residual-in_err-prove.ensures

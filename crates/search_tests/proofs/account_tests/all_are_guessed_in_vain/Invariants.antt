use Rattle.std.proofs.Common.{◌≡◌}
use Rattle.search_theory.specs.Account.{Honest}
use Rattle.fail_account.specs.Examples.{after_guesses}
use Rattle.search_tests.proofs.account_tests.all_are_guessed_in_vain.Given as goal

abbrev pub invariant-loop-t : goal.invariant-loop-t
invariant-loop-t l = record { honest : Honest l.q l.account; is : l.account ≡ after_guesses 4 l.t }

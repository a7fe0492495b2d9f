use Rattle.std.proofs.Common.{ap}
use Rattle.search_theory.specs.Account.{Account, path}
use Rattle.propagation.specs.Learning.{Filtering}
use Rattle.restart_search.proofs.Logging.{told_fresh}
use Rattle.restart_search.proofs.worker.Equipment.new.Goals as goal

pub invariant_of-result : goal.invariant_of-result
invariant_of-result g c = (
  record {
    some = c.requires.some;
    few = c.requires.few;
    walk = record {
      problem = ap (λ (f : Filtering). f.problem) c.requires.filters;
      long = c.in_ok-account.ensures.long;
      words = c.in_ok-account.ensures.words;
      degrees = c.in_ok-account.ensures.degrees;
      room = c.in_ok-account.ensures.room;
    };
  },
  record {
    at_root = record {
      is_of = c.requires.is_of;
      honest = c.in_ok-account.ensures.honest;
      no_path = ap path c.in_ok-account.ensures.account;
      no_marks = c.in_ok-account.ensures.none;
      now = c.present-root.ensures;
      rest = c.requires.rest;
      left = c.in_ok-account.ensures.left;
    };
    none = ap (λ (f : Filtering). f.nogoods) c.requires.filters;
    first = ap (λ (a : Account). a.run) c.in_ok-account.ensures.account;
  },
  told_fresh c.args.q.now _ c.args.domains _ _ _ (ap (λ (f : Filtering). f.nogoods) c.requires.filters) c.requires.told,
)

-- What was told of the root's domains, for each worker and where the root is refuted.
use Rattle.std.proofs.Common.{◌≡◌, ℕ, List, [], Option, Some, None, sym, subst, inl, inr}
use Rattle.std.specs.Prelude.{slice_get}
use Rattle.std.proofs.lemmas.Option.{none-some}
use Rattle.graph_theory.specs.Embedding.{Problem}
use Rattle.search_theory.specs.Account.{Account}
use Rattle.domain_bits.specs.Removals.{State}
use Rattle.nogood_book.specs.declared.row.Row.{Row}
use Rattle.recorder.specs.declared.change.Failure.{Failure}
use Rattle.recorder.specs.Recording.{Change, CountedSet, KeepsSame}
use Rattle.propagation.proofs.Holding.{holds_none}
use Rattle.recorder.specs.declared.change.DeadEnd.TheVariants.{Failed}
use Rattle.proof_logger.specs.Logging.{EndsPath, IsNogoodBy}
use Rattle.restart_search.specs.Logging.{IsTold}
use Rattle.restart_search.specs.Searching.{RootFails}

-- a copy of what was told is true
pub told_copied : (q : Problem) (d : State) (old new : Option (List Change)) → KeepsSame old new → IsTold q None d [] [] old → IsTold q None d [] [] new
told_copied q d old new (inl same) t = subst (λ (cs : Option (List Change)). IsTold q None d [] [] cs) (sym same) t
told_copied q d old new (inr none) t = subst (λ (cs : Option (List Change)). IsTold q None d [] [] cs) (sym none) (record { told = tt; guesses = λ p u from h. absurd h })

-- where the root failed, so did the empty path
pub root_ends : (q : Problem) (a : Account) (changes : Option (List Change)) (short : Option CountedSet) (failure : Failure) → RootFails q changes short failure
    → EndsPath q [] changes short a (Failed failure)
root_ends q a changes short failure r = record {
  domains = r.domains;
  nogoods = None;
  is_of = r.is_of;
  holds = holds_none;
  told = r.told.told;
  guesses = λ p t from h. absurd (r.told.guesses p t from h);
  ends = r.fails;
}

-- no row is anybody's where there is none
pub none_by : (owner : ℕ) (rows : List Row) → rows ≡ [] → (k : ℕ) → IsNogoodBy owner rows k → ⊥
none_by owner rows none k by = none-some by.row (subst (λ (rs : List Row). slice_get rs k ≡ Some by.row) none by.row_is)

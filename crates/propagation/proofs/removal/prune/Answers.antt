use Rattle.std.proofs.Common.{ℕ, true, false, Ok, Err, List, sym, ap, length, ◌∙◌, subst, arith}
use Rattle.domain_bits.specs.Removals.{State}
use Rattle.all_different.specs.declared.Pruned.{Pruned}
use Rattle.all_different.specs.declared.Pruned.TheVariants as pruned
use Rattle.all_different.specs.Pruning.{Prunes}
use Rattle.recorder.specs.declared.change.Failure.TheVariants as failure
use Rattle.recorder.proofs.Telling.{told_more}
use Rattle.recorder.proofs.Guesses.{guesses_took, guesses_kept}
use Rattle.propagation.proofs.BlockCounts.{counted_all}
use Rattle.propagation.proofs.Reasons.{leaves_counted, failed_inside, short_shown}
use Rattle.propagation.proofs.removal.prune.Goals as goal
use Rattle.std.specs.Prelude.{◌≡◌}

-- the same of the set and the row as they are given out
given_out : (answer : Pruned) (old new : State) (set set_now row row_now : List ℕ) → set_now ≡ set → row_now ≡ row → Prunes answer old new set row → Prunes answer old new set_now row_now
given_out answer old new set set_now row row_now s r p =
    subst (λ (xs : List ℕ). Prunes answer old new xs row_now) (sym s) (subst (λ (ys : List ℕ). Prunes answer old new set ys) (sym r) p)

pub returns-in-Hall-clause-told : goal.returns-in-Hall-clause-told
returns-in-Hall-clause-told g c s t =
    told_more c.args.q.now s c.args.d.now c.prune_undecided.new.d _ _ _
    (leaves_counted c.args.q.now s c.args.d.now c.prune_undecided.new.d c.set.result.now c.values.result.now c.mark-from.result c.requires.injective c.requires.is_of
    (given_out pruned.Hall c.args.d.now c.prune_undecided.new.d _ _ _ _ c.set.ensures c.values.ensures.union c.in-Hall.ensures.prunes) c.mark-from.ensures.length)
    (omega (arith, c.mark-from.ensures.length, c.in-Hall.ensures.says.1)) c.counted.ensures t

pub tell_short-requires-clause-inside : goal.tell_short-requires-clause-inside
tell_short-requires-clause-inside g c = failed_inside c.args.d.now c.prune_undecided.new.d c.prune_undecided.new.s.set c.prune_undecided.new.s.union c.in-Fail.ensures.prunes

pub returns-in-Fail-clause-fails : goal.returns-in-Fail-clause-fails
returns-in-Fail-clause-fails g c s =
    short_shown c.args.q.now c.args.d.now c.prune_undecided.new.d c.prune_undecided.new.s.set c.prune_undecided.new.s.union _ _ _ c.requires.injective c.requires.is_of c.in-Fail.ensures.prunes c.tell_short.ensures.kept
    (ap length (c.set-in-Fail.ensures ∙ c.tell_short.ensures.set))

pub returns-in-Hall-clause-guesses : goal.returns-in-Hall-clause-guesses
returns-in-Hall-clause-guesses g c = guesses_took _ _ _ (λ is. is) c.counted.ensures

pub returns-in-Fail-clause-guesses : goal.returns-in-Fail-clause-guesses
returns-in-Fail-clause-guesses g c = guesses_kept _ _ c.tell_short.ensures.same

pub returns-in-Quiet-clause-counts : goal.returns-in-Quiet-clause-counts
returns-in-Quiet-clause-counts g c = counted_all (Ok false) c.args.q.now c.args.d.now c.prune_undecided.new.d c.requires.is_of c.requires.injective c.in-Quiet.ensures.says

pub returns-in-Hall-clause-counts : goal.returns-in-Hall-clause-counts
returns-in-Hall-clause-counts g c = counted_all (Ok true) c.args.q.now c.args.d.now c.prune_undecided.new.d c.requires.is_of c.requires.injective c.in-Hall.ensures.says

pub returns-in-Fail-clause-counts : goal.returns-in-Fail-clause-counts
returns-in-Fail-clause-counts g c = counted_all (Err (failure.Short 0)) c.args.q.now c.args.d.now c.prune_undecided.new.d c.requires.is_of c.requires.injective c.in-Fail.ensures.says

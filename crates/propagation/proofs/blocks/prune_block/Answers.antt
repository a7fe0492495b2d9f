use Rattle.std.proofs.Common.{◌≡◌, ◌≤◌, ℕ, true, false, Ok, Err, List, sym, ap, length, ◌∙◌, subst, arith}
use Rattle.domain_bits.specs.Removals.{State}
use Rattle.all_different.specs.declared.Pruned.{Pruned}
use Rattle.all_different.specs.declared.Pruned.TheVariants as pruned
use Rattle.all_different.specs.Members.{PrunesOf}
use Rattle.recorder.specs.declared.change.Failure.TheVariants as failure
use Rattle.recorder.proofs.Telling.{told_more}
use Rattle.recorder.proofs.Guesses.{guesses_took, guesses_kept}
use Rattle.propagation.proofs.BlockCounts.{is_block, near_members, counted_block, leaves_block, block_inside, block_few, block_shown}
use Rattle.propagation.proofs.blocks.prune_block.Goals as goal

-- the same of the set and the row as they are given out
given_out : (ms : List ℕ) (answer : Pruned) (old new : State) (set set_now row row_now : List ℕ) → set_now ≡ set → row_now ≡ row → PrunesOf ms answer old new set row → PrunesOf ms answer old new set_now row_now
given_out ms answer old new set set_now row row_now s r p =
    subst (λ (xs : List ℕ). PrunesOf ms answer old new xs row_now) (sym s) (subst (λ (ys : List ℕ). PrunesOf ms answer old new set ys) (sym r) p)

pub prune_of-requires-clause-are_members : goal.prune_of-requires-clause-are_members
prune_of-requires-clause-are_members g c = near_members c.args.q.now c.args.d.now c.args.c c.args.members.now c.requires.is_of c.requires.members

pub returns-in-Quiet-clause-counts : goal.returns-in-Quiet-clause-counts
returns-in-Quiet-clause-counts g c =
    counted_block (Ok false) c.args.q.now c.args.d.now c.prune_of.new.d c.args.c c.args.members.now c.prune_of.new.s.set c.prune_of.new.s.union
    (is_block c.args.q.now c.args.d.now c.args.c c.args.members.now c.requires.is_of c.requires.block c.requires.members) c.in-Quiet.ensures.prunes

pub returns-in-Hall-clause-counts : goal.returns-in-Hall-clause-counts
returns-in-Hall-clause-counts g c =
    counted_block (Ok true) c.args.q.now c.args.d.now c.prune_of.new.d c.args.c c.args.members.now c.prune_of.new.s.set c.prune_of.new.s.union
    (is_block c.args.q.now c.args.d.now c.args.c c.args.members.now c.requires.is_of c.requires.block c.requires.members) c.in-Hall.ensures.prunes

pub returns-in-Fail-clause-counts : goal.returns-in-Fail-clause-counts
returns-in-Fail-clause-counts g c =
    counted_block (Err (failure.Short 0)) c.args.q.now c.args.d.now c.prune_of.new.d c.args.c c.args.members.now c.prune_of.new.s.set c.prune_of.new.s.union
    (is_block c.args.q.now c.args.d.now c.args.c c.args.members.now c.requires.is_of c.requires.block c.requires.members) c.in-Fail.ensures.prunes

pub returns-in-Hall-clause-told : goal.returns-in-Hall-clause-told
returns-in-Hall-clause-told g c s t =
    told_more c.args.q.now s c.args.d.now c.prune_of.new.d _ _ _
    (leaves_block c.args.q.now s c.args.d.now c.prune_of.new.d c.args.c c.args.members.now c.set.result.now c.values.result.now c.mark-from.result
    (is_block c.args.q.now c.args.d.now c.args.c c.args.members.now c.requires.is_of c.requires.block c.requires.members)
    (given_out c.args.members.now pruned.Hall c.args.d.now c.prune_of.new.d _ _ _ _ c.set.ensures c.values.ensures.union c.in-Hall.ensures.prunes) c.mark-from.ensures.length)
    (let counts = counted_block (Ok true) c.args.q.now c.args.d.now c.prune_of.new.d c.args.c c.args.members.now c.prune_of.new.s.set c.prune_of.new.s.union
    (is_block c.args.q.now c.args.d.now c.args.c c.args.members.now c.requires.is_of c.requires.block c.requires.members) c.in-Hall.ensures.prunes in
    omega (arith, c.mark-from.ensures.length, counts.1)) c.counted.ensures t

pub tell_short-requires-clause-inside : goal.tell_short-requires-clause-inside
tell_short-requires-clause-inside g c =
    block_inside c.args.d.now c.prune_of.new.d c.args.members.now c.prune_of.new.s.set c.prune_of.new.s.union
    (near_members c.args.q.now c.args.d.now c.args.c c.args.members.now c.requires.is_of c.requires.members) c.in-Fail.ensures.prunes

pub returns-in-Fail-clause-fails : goal.returns-in-Fail-clause-fails
returns-in-Fail-clause-fails g c s =
    block_shown c.args.q.now c.args.d.now c.prune_of.new.d c.args.c c.args.members.now c.prune_of.new.s.set c.prune_of.new.s.union _ _ _
    (is_block c.args.q.now c.args.d.now c.args.c c.args.members.now c.requires.is_of c.requires.block c.requires.members) c.in-Fail.ensures.prunes c.tell_short.ensures.kept
    (ap length (c.set-in-Fail.ensures ∙ c.tell_short.ensures.set))

pub returns-in-Hall-clause-guesses : goal.returns-in-Hall-clause-guesses
returns-in-Hall-clause-guesses g c = guesses_took _ _ _ (λ is. is) c.counted.ensures

pub returns-in-Fail-clause-guesses : goal.returns-in-Fail-clause-guesses
returns-in-Fail-clause-guesses g c = guesses_kept _ _ c.tell_short.ensures.same

pub overflow_cast-result : goal.overflow_cast-result
overflow_cast-result g c =
    let few : length c.prune_of.new.s.set ≤ c.args.d.now.vertices = block_few c.args.d.now c.prune_of.new.d c.args.members.now c.prune_of.new.s.set c.prune_of.new.s.union
    (near_members c.args.q.now c.args.d.now c.args.c c.args.members.now c.requires.is_of c.requires.members) c.in-Fail.ensures.prunes in
    let same : length c.set-in-Fail.result.now ≡ length c.prune_of.new.s.set = ap length (c.set-in-Fail.ensures ∙ c.tell_short.ensures.set) in
    omega (arith, few, same, c.vertices-vertices.ensures, c.vertices-vertices.type_inv)

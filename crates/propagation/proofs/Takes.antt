-- What a filter takes, one look after another, and what it then answers.

use Rattle.std.proofs.Common.{◌≡◌, ℕ, ◌*◌, ◌==◌, ◌≤◌, ltb, not, Bool, true, false, List, length, Option, Result, Ok, Err, IsErrAnd, ◌∙◌, sym, subst, arith}
use Rattle.std.specs.Result.{is_ok}
use Rattle.std.proofs.lemmas.Result.{err_from_is_err_and}
use Rattle.graph_theory.specs.Embedding.{Problem}
use Rattle.search_theory.specs.Claims.{Quiet}
use Rattle.domain_bits.specs.Changes.{Keeps}
use Rattle.domain_bits.specs.Removals.{State, in_domain}
use Rattle.recorder.specs.declared.change.Failure.{Failure}
use Rattle.recorder.specs.declared.change.Failure.TheVariants as failure
use Rattle.recorder.specs.Recording.{Change, CountedSet, NoNewGuess}
use Rattle.recorder.specs.Telling.{TellsOn}
use Rattle.recorder.proofs.Guesses.{guesses_more}
use Rattle.recorder.proofs.Telling.{fails_emptied}
use Rattle.propagation.specs.Learning.{IsUnused}
use Rattle.propagation.specs.Propagation.{NotesTaken, PrunesFor}
use Rattle.propagation.specs.Taking.{AreFlagged, Takes, Prunes}
use Rattle.propagation.proofs.Forcing.{shrinks_taken, none_taken, emptied_taken}
use Rattle.propagation.proofs.Supporting.{forces_more, narrows_same, supported_prunes}
use Rattle.propagation.proofs.Waiting.{shrinks_none}

-- What has been taken where nothing has failed.
abbrev pub HaveTaken : Problem → State → List Bool → Option (List Change) → State → List Bool → Option (List Change) → Type 0
HaveTaken q old before told new after tells = Takes {A = Unit {0}} (Ok tt) q old before told new after tells

-- nothing is taken
pub takes_none : {A : Type 0} (a : A) (q : Problem) (d : State) (waiting : List Bool) (told : Option (List Change)) → AreFlagged q d waiting → Takes (Ok a) q d waiting told d waiting told
takes_none a q d waiting told flagged = record {
  forces = shrinks_none q d waiting flagged.bounded;
  none = tt;
  told_on = λ s t. t;
  guesses = λ p t from h. h;
}

-- whatever the answer is, where it is no failure
pub takes_as : {A B : Type 0} (a : A) (b : B) (q : Problem) (old new : State) (before after : List Bool) (told tells : Option (List Change)) → Takes (Ok a) q old before told new after tells
    → Takes (Ok b) q old before told new after tells
takes_as a b q old new before after told tells took = record { forces = took.forces; none = tt; told_on = took.told_on; guesses = took.guesses }

-- one look after another
pub takes_more : {A B : Type 0} (a : A) (answer : Result B Failure) (q : Problem) (old mid new : State) (before between after : List Bool) (told tells more : Option (List Change))
    → Takes (Ok a) q old before told mid between tells → Takes answer q mid between tells new after more → Takes answer q old before told new after more
takes_more a answer q old mid new before between after told tells more first next = record {
  forces = forces_more (is_ok answer) q old mid new before between after first.forces next.forces;
  none = next.none;
  told_on = λ s t. next.told_on s (first.told_on s t);
  guesses = guesses_more told tells more first.guesses next.guesses;
}

-- a look that has failed, after others
pub takes_failed : {A B C : Type 0} (a : A) (failure : Failure) (answer : Result C Failure) (q : Problem) (old mid new : State) (before between after : List Bool) (told tells more : Option (List Change))
    → IsErrAnd answer (λ y. y ≡ failure) → Takes (Ok a) q old before told mid between tells → Takes {A = B} (Err failure) q mid between tells new after more
    → Takes answer q old before told new after more
takes_failed a failure answer q old mid new before between after told tells more is first next =
    let p = err_from_is_err_and answer is in
    let all = takes_more a (Err failure) q old mid new before between after told tells more first next in
    rw (p.1, p.2) (record { forces = all.forces; none = all.none; told_on = all.told_on; guesses = all.guesses })

-- flags go on
pub flagged_on : {A : Type 0} (a : A) (q : Problem) (old new : State) (before after : List Bool) (told tells : Option (List Change)) → AreFlagged q old before
    → Takes (Ok a) q old before told new after tells → AreFlagged q new after
flagged_on a q old new before after told tells flagged took = record {
  is_of = record {
    vertices_is = took.forces.narrows.vertices_same ∙ flagged.is_of.vertices_is;
    values_is = took.forces.narrows.values_same ∙ flagged.is_of.values_is;
  };
  long = took.forces.long ∙ flagged.long;
  bounded = took.forces.bounded;
}

-- ---- one value

took_value : (q : Problem) (old new : State) (before after : List Bool) (told tells : Option (List Change)) (r u : ℕ) → AreFlagged q old before → IsUnused q old (r, u, 0)
    → Keeps old new r (λ v. not (v == u)) → length new.removed ≤ new.vertices * new.values → TellsOn q old told new tells → NoNewGuess told tells → NotesTaken true old before new after r u
    → HaveTaken q old before told new after tells
took_value q old new before after told tells r u flagged unused keeps bounded on guesses notes = record {
  forces = shrinks_taken q old new before after (r, u, 0) unused keeps (omega (arith, flagged.long, unused.vertex_in)) bounded notes;
  none = tt;
  told_on = on;
  guesses = guesses;
}

emptied_value : (q : Problem) (old new : State) (before after : List Bool) (told tells : Option (List Change)) (r u : ℕ) → IsUnused q old (r, u, 0)
    → Keeps old new r (λ v. not (v == u)) → TellsOn q old told new tells → NoNewGuess told tells → NotesTaken false old before new after r u
    → Takes {A = Unit {0}} (Err (failure.Empty r)) q old before told new after tells
emptied_value q old new before after told tells r u unused keeps on guesses notes = record {
  forces = none_taken q old new before after (r, u, 0) unused keeps notes;
  none = (unused.vertex_in, emptied_taken old new before after r u notes);
  told_on = on;
  guesses = guesses;
}

-- The answer where a value is taken, by whether any is left for its vertex.
abbrev pub answer_of : Bool → ℕ → Result (Unit {0}) Failure
answer_of true r = Ok tt
answer_of false r = Err (failure.Empty r)

-- the value of a vertex is taken, after others
pub takes_value : (some : Bool) (q : Problem) (old mid new : State) (before between after : List Bool) (told tells more : Option (List Change)) (r u : ℕ) → AreFlagged q old before
    → HaveTaken q old before told mid between tells → IsUnused q mid (r, u, 0) → Keeps mid new r (λ v. not (v == u)) → NotesTaken some mid between new after r u
    → length new.removed ≤ new.vertices * new.values → TellsOn q mid tells new more → NoNewGuess tells more → Takes (answer_of some r) q old before told new after more
takes_value true q old mid new before between after told tells more r u flagged first unused keeps notes bounded on guesses =
    takes_more tt (Ok tt) q old mid new before between after told tells more first
    (took_value q mid new between after tells more r u (flagged_on tt q old mid before between told tells flagged first) unused keeps bounded on guesses notes)
takes_value false q old mid new before between after told tells more r u flagged first unused keeps notes bounded on guesses =
    takes_more tt (Err (failure.Empty r)) q old mid new before between after told tells more first (emptied_value q mid new between after tells more r u unused keeps on guesses notes)

-- ---- answers

-- what held of the domains holds where nothing has left
pub has_still : {A : Type 0} (Has : State → Type 0) (a : A) (q : Problem) (old new : State) (before after : List Bool) (told tells : Option (List Change)) → Has old
    → Takes (Ok a) q old before told new after tells → length new.removed ≤ length old.removed → Has new
has_still Has a q old new before after told tells has took few = subst Has (sym (narrows_same q old new took.forces.narrows few)) has

-- of domains at rest
pub prunes_taken : {A : Type 0} (a : A) (Has : State → Type 0) (some : Bool) (q : Problem) (old new : State) (before after : List Bool) (told tells : Option (List Change)) (short : Option CountedSet)
    → Quiet q (in_domain old) → (length new.removed ≤ length old.removed → Has new) → AreFlagged q old before → Takes (Ok a) q old before told new after tells
    → some ≡ ltb (length old.removed) (length new.removed) → Prunes Has (Ok some) q old told new after tells short
prunes_taken a Has some q old new before after told tells short quiet has flagged took is = record {
  pruned = supported_prunes Has some q old new before after quiet has flagged.long took.forces is;
  fails = λ s. tt;
  told_on = took.told_on;
  guesses = took.guesses;
}

pub prunes_failed : {A : Type 0} (Has : State → Type 0) (failure : Failure) (answer : Result Bool Failure) (q : Problem) (old new : State) (before after : List Bool) (told tells : Option (List Change)) (short : Option CountedSet)
    → IsErrAnd answer (λ y. y ≡ failure) → Takes {A = A} (Err failure) q old before told new after tells → Prunes Has answer q old told new after tells short
prunes_failed Has failure answer q old new before after told tells short is took =
    let p = err_from_is_err_and answer is in
    rw (p.1, p.2) (record { pruned = took.forces; fails = λ s. fails_emptied q s new tells short failure took.none; told_on = took.told_on; guesses = took.guesses })

-- of what filters answer one after another, where the first has found nothing
pruned_then : (First Next Both : State → Type 0) → ((d : State) → First d → Next d → Both d) → (answer : Result Bool Failure) (q : Problem) (old mid new : State) (after : List Bool)
    → (mid ≡ old) × First mid → PrunesFor Next answer q mid new after → PrunesFor Both answer q old new after
pruned_then First Next Both both (Ok false) q old mid new after first next = (next.0 ∙ first.0, both new (subst First (sym next.0) first.1) next.1)
pruned_then First Next Both both (Ok true) q old mid new after first next = subst (λ (d : State). PrunesFor Both (Ok true) q d new after) first.0 next
pruned_then First Next Both both (Err failure) q old mid new after first next = subst (λ (d : State). PrunesFor Both (Err failure) q d new after) first.0 next

pub prunes_then : (First Next Both : State → Type 0) → ((d : State) → First d → Next d → Both d) → (answer : Result Bool Failure) (q : Problem) (old mid new : State) (between after : List Bool)
    (told tells more : Option (List Change)) (before short : Option CountedSet)
    → Prunes First (Ok false) q old told mid between tells before → Prunes Next answer q mid tells new after more short → Prunes Both answer q old told new after more short
prunes_then First Next Both both answer q old mid new between after told tells more before short first next = record {
  pruned = pruned_then First Next Both both answer q old mid new after first.pruned next.pruned;
  fails = next.fails;
  told_on = λ s t. next.told_on s (first.told_on s t);
  guesses = guesses_more told tells more first.guesses next.guesses;
}

-- what a filter that has failed answers, as another one's answer
pub prunes_returned : (Has More : State → Type 0) (failure : Failure) (answer : Result Bool Failure) (q : Problem) (old new : State) (after : List Bool) (told tells : Option (List Change)) (short : Option CountedSet)
    → IsErrAnd answer (λ y. y ≡ failure) → Prunes Has (Err failure) q old told new after tells short → Prunes More answer q old told new after tells short
prunes_returned Has More failure answer q old new after told tells short is prunes =
    let p = err_from_is_err_and answer is in
    rw (p.1, p.2) (record { pruned = prunes.pruned; fails = prunes.fails; told_on = prunes.told_on; guesses = prunes.guesses })

-- where values have left, whatever was looked for
pub prunes_some : (Has More : State → Type 0) (q : Problem) (old new : State) (after : List Bool) (told tells : Option (List Change)) (short : Option CountedSet)
    → Prunes Has (Ok true) q old told new after tells short → Prunes More (Ok true) q old told new after tells short
prunes_some Has More q old new after told tells short prunes = record { pruned = prunes.pruned; fails = prunes.fails; told_on = prunes.told_on; guesses = prunes.guesses }

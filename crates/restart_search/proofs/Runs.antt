-- What a worker has learned over its runs: at each restart what its position had refuted.

use Rattle.std.proofs.Common.{◌≡◌, ℕ, ◌<◌, ◌≤◌, List, [], ◌∷◌, ◌++◌, length, refl, sym, ap, ◌∙◌, subst, arith, append_assoc, length-append, ◌⊎◌, inl, inr}
use Rattle.std.proofs.lemmas.List.{append-nil}
use Rattle.graph_theory.specs.Embedding.{Problem}
use Rattle.graph_theory.specs.Path.{Dead}
use Rattle.search_theory.specs.Bounds.{cutoff}
use Rattle.search_theory.specs.Account.{Account, Event, Deepen, Fail, Leads, MayGuess, FailsTo, path, deepened, restarted}
use Rattle.nogood_book.specs.declared.row.Row.{Row}
use Rattle.nogood_book.specs.Rows.{Pairs}
use Rattle.nogood_book.specs.Places.{StartsWith}
use Rattle.nogood_book.specs.Facts.{Facts, Grew, HasEnded}
use Rattle.nogood_book.proofs.Lists.{starts_length}
use Rattle.restart_search.specs.declared.outcome.Outcome.{Outcome}
use Rattle.restart_search.specs.declared.outcome.Outcome.TheVariants.{Found, Refuted, Spent, Stopped, Interrupted, NoMemory}
use Rattle.restart_search.specs.Searching.{IfMemory}
use Rattle.restart_search.specs.Sharing.{learned_by, refuted_in, refuted_in_all, LearnsFirst, Learns, HasLearned, GoesWithinRun, RestartsAt, LearnedInRuns, LearnedPart}
use Rattle.restart_search.proofs.Publishing.{ended_on}
use Rattle.restart_search.proofs.Learning.{first_all, first_more}

-- ---- the events of a run

leads_on : (q : Problem) (a b c : Account) (es fs : List Event) → Leads q a es b → Leads q b fs c → Leads q a (fs ++ es) c
leads_on q a b c es [] h k = subst (λ (x : Account). Leads q a es x) (sym k) h
leads_on q a b c es (f ∷ fs) h k = (k.0, leads_on q a b k.0 es fs h k.1, k.2)

pub within_same : (q : Problem) (a : Account) → GoesWithinRun q a a
within_same q a = record { events = []; lead = refl; run = refl }

pub within_on : (q : Problem) (a b c : Account) → GoesWithinRun q a b → GoesWithinRun q b c → GoesWithinRun q a c
within_on q a b c h k = record { events = k.events ++ h.events; lead = leads_on q a b c h.events k.events h.lead k.lead; run = k.run ∙ h.run }

-- a guess
pub within_guess : (q : Problem) (a b : Account) (p t : ℕ) → a.all < a.budget → a.count < cutoff a.run → MayGuess q a p t → b ≡ deepened a p t → GoesWithinRun q a b
within_guess q a b p t unspent before may is = record { events = Deepen p t ∷ []; lead = (a, refl, (unspent, before, may, is)); run = ap (λ (x : Account). x.run) is }

-- a fail
pub within_fail : (q : Problem) (a b : Account) → Dead q (path a) → FailsTo a b → GoesWithinRun q a b
within_fail q a b dead fails = record { events = Fail ∷ []; lead = (a, refl, (dead, fails)); run = ap (λ (x : Account). x.run) fails.new_is }

-- ---- restarts

pub restarts_on : (q : Problem) (a b c : Account) (ends : List Account) → RestartsAt q a ends b → GoesWithinRun q b c → RestartsAt q a ends c
restarts_on q a b c [] h k = within_on q a b c h k
restarts_on q a b c (d ∷ ds) h k = (h.0, h.1, restarts_on q (restarted d) b c ds h.2 k)

-- one more
restarts_again : (q : Problem) (a b : Account) (ends : List Account) → RestartsAt q a ends b → b.count ≡ cutoff b.run → RestartsAt q a (ends ++ b ∷ []) (restarted b)
restarts_again q a b [] h due = (h, due, within_same q (restarted b))
restarts_again q a b (d ∷ ds) h due = (h.0, h.1, restarts_again q (restarted d) b ds h.2 due)

all_again : (ends : List Account) (a : Account) → refuted_in_all (ends ++ a ∷ []) ≡ refuted_in_all ends ++ refuted_in a
all_again [] a = append-nil (refuted_in a)
all_again (d ∷ ds) a = ap (λ (zs : List Pairs). refuted_in d ++ zs) (all_again ds a) ∙ sym (append_assoc (refuted_in d) (refuted_in_all ds) (refuted_in a))

-- ---- what is learned

-- after some, the first ones of others; a seat that takes no further row has no more
learns_first : (s t u : Facts) (xs ys : List Pairs) → Learns s t xs → LearnsFirst s.owner t.seen u.seen ys → Grew t u → LearnsFirst s.owner s.seen u.seen (xs ++ ys)
learns_first s t u xs ys (inl is) next grew = first_more s.owner s.seen t.seen u.seen xs ys [] (xs ++ ys) is next (sym (append-nil (xs ++ ys)))
learns_first s t u xs ys (inr h) next grew = (
  part.0 ++ ys,
  sym (append_assoc (A s.seen) xs ys) ∙ (ap (λ (zs : List Pairs). zs ++ ys) part.1 ∙ (append_assoc (A t.seen) part.0 ys ∙ ap (λ (zs : List Row). A zs ++ (part.0 ++ ys)) (sym rows))),
)
  where
    A : List Row → List Pairs
    A zs = learned_by s.owner zs

    part : LearnsFirst s.owner s.seen t.seen xs
    part = h.1

    rows : u.seen ≡ t.seen
    rows = (grew.over h.0.ended).1

-- one after the other
learns_on : (s t u : Facts) (xs ys : List Pairs) → Learns s t xs → Learns t u ys → t.owner ≡ s.owner → Grew t u → Learns s u (xs ++ ys)
learns_on s t u xs ys h k owner grew = by h mine
  where
    A : List Row → List Pairs
    A rows = learned_by s.owner rows

    Then : Type 0
    Then = (A u.seen ≡ A t.seen ++ ys) ⊎ (HasEnded u × LearnsFirst s.owner t.seen u.seen ys)

    mine : Then
    mine = subst (λ (o : ℕ). (learned_by o u.seen ≡ learned_by o t.seen ++ ys) ⊎ (HasEnded u × LearnsFirst o t.seen u.seen ys)) owner k

    first_of : Then → LearnsFirst s.owner t.seen u.seen ys
    first_of (inl is) = first_all s.owner t.seen u.seen ys is
    first_of (inr part) = part.1

    by : Learns s t xs → Then → Learns s u (xs ++ ys)
    by (inl is) (inl next) = inl (next ∙ (ap (λ (zs : List Pairs). zs ++ ys) is ∙ append_assoc (A s.seen) xs ys))
    by (inl is) (inr part) = inr (part.0, learns_first s t u xs ys (inl is) part.1 grew)
    by (inr full) next = inr (ended_on t u full.0 grew, learns_first s t u xs ys (inr full) (first_of next) grew)

-- ---- over runs

-- before the first restart
pub learned_none : (q : Problem) (old new : Account) (s t : Facts) (o : ℕ) → new ≡ old → s.owner ≡ o → learned_by o t.seen ≡ learned_by o s.seen → LearnedInRuns q old new s t
learned_none q old new s t o is owner same = record {
  ends = [];
  restarts = subst (λ (a : Account). GoesWithinRun q old a) (sym is) (within_same q old);
  run = omega (arith, ap (λ (a : Account). a.run) is);
  learned = inl (subst (λ (n : ℕ). learned_by n t.seen ≡ learned_by n s.seen) (sym owner) same ∙ sym (append-nil (learned_by s.owner s.seen)));
}

-- within a run
pub learned_on : (q : Problem) (old mid new : Account) (s t : Facts) → LearnedInRuns q old mid s t → GoesWithinRun q mid new → LearnedInRuns q old new s t
learned_on q old mid new s t h k = record {
  ends = h.ends;
  restarts = restarts_on q old mid new h.ends h.restarts k;
  run = k.run ∙ h.run;
  learned = h.learned;
}

-- with one restart more
pub learned_again : (q : Problem) (old mid new : Account) (s t u : Facts) → LearnedInRuns q old mid s t → mid.count ≡ cutoff mid.run → new ≡ restarted mid → HasLearned mid t u
    → t.owner ≡ s.owner → Grew t u → LearnedInRuns q old new s u
learned_again q old mid new s t u h due is learned owner grew = record {
  ends = h.ends ++ mid ∷ [];
  restarts = subst (λ (a : Account). RestartsAt q old (h.ends ++ mid ∷ []) a) (sym is) (restarts_again q old mid h.ends h.restarts due);
  run = omega (arith, ap (λ (a : Account). a.run) is, h.run, length-append h.ends (mid ∷ []));
  learned = subst (λ (xs : List Pairs). Learns s u xs) (sym (all_again h.ends mid)) (learns_on s t u (refuted_in_all h.ends) (refuted_in mid) h.learned learned owner grew);
}

-- where memory is refused at a restart, before it or after
pub part_again : (q : Problem) (old mid new : Account) (s t u : Facts) (o : ℕ) → LearnedInRuns q old mid s t → mid.count ≡ cutoff mid.run → (new ≡ mid) ⊎ (new ≡ restarted mid) → LearnsFirst o t.seen u.seen (refuted_in mid)
    → s.owner ≡ o → Grew t u → LearnedPart q old new s u
part_again q old mid new s t u o h due is first owner grew = by is
  where
    firsts : LearnsFirst s.owner s.seen u.seen (refuted_in_all (h.ends ++ mid ∷ []))
    firsts = subst (λ (xs : List Pairs). LearnsFirst s.owner s.seen u.seen xs) (sym (all_again h.ends mid))
        (learns_first s t u (refuted_in_all h.ends) (refuted_in mid) h.learned (subst (λ (n : ℕ). LearnsFirst n t.seen u.seen (refuted_in mid)) (sym owner) first) grew)

    before : LearnedPart q old mid s u
    before = record { ends = h.ends; restarts = h.restarts; run = h.run; learned = inr (due, firsts) }

    by : (new ≡ mid) ⊎ (new ≡ restarted mid) → LearnedPart q old new s u
    by (inl same) = subst (λ (a : Account). LearnedPart q old a s u) (sym same) before
    by (inr next) = record {
      ends = h.ends ++ mid ∷ [];
      restarts = subst (λ (a : Account). RestartsAt q old (h.ends ++ mid ∷ []) a) (sym next) (restarts_again q old mid h.ends h.restarts due);
      run = omega (arith, ap (λ (a : Account). a.run) next, h.run, length-append h.ends (mid ∷ []));
      learned = inl firsts;
    }

-- and where it is refused elsewhere
pub part_of : (q : Problem) (old new : Account) (s t : Facts) → LearnedInRuns q old new s t → LearnedPart q old new s t
part_of q old new s t h = record { ends = h.ends; restarts = h.restarts; run = h.run; learned = inl (by h.learned) }
  where
    by : Learns s t (refuted_in_all h.ends) → LearnsFirst s.owner s.seen t.seen (refuted_in_all h.ends)
    by (inl is) = first_all s.owner s.seen t.seen (refuted_in_all h.ends) is
    by (inr full) = full.1

-- ---- endings

pub memory_of : (o : Outcome) (P Q : Type 0) → P → (P → Q) → IfMemory o P Q
memory_of (Found m) P Q p f = p
memory_of Refuted P Q p f = p
memory_of Spent P Q p f = p
memory_of (Stopped n) P Q p f = p
memory_of Interrupted P Q p f = p
memory_of NoMemory P Q p f = f p

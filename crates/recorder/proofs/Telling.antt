-- What is told is true, and stays so where domains are undone, and where nogoods keep their names.

use Rattle.std.proofs.Common.{◌≡◌, ℕ, ◌<◌, ◌≤◌, Bool, true, false, ltb, List, [], ◌∷◌, ◌++◌, length, take, drop, cond, Result, Ok, Err, Option, Some, None, refl, sym, ap, ◌∙◌, subst, arith, length-append, ◌⊎◌, inl, inr}
use Rattle.std.proofs.lemmas.Bool.{cases_lt, lt-ltb, ltb-true, true≢false}
use Rattle.std.proofs.lemmas.List.{append-nil, take-append-le, take-append-drop, take-take, take_all, length-take-le}
use Rattle.std.specs.Result.{IfErr}
use Rattle.graph_theory.specs.Embedding.{Problem}
use Rattle.domain_bits.specs.Removals.{State, in_domain, full, undone}
use Rattle.domain_bits.proofs.Undoing.{undone_grows}
use Rattle.nogood_watch.specs.Nogoods as watched
use Rattle.recorder.specs.declared.change.Cause.TheVariants as cause
use Rattle.recorder.specs.declared.change.Failure.{Failure}
use Rattle.recorder.specs.declared.change.Failure.TheVariants as failure
use Rattle.recorder.specs.Recording.{Change, LeftOne, LeftOthers, LeftOver, from_of, CountedSet, cut, cut_at, Took, KeepsSame}
use Rattle.recorder.specs.Telling.{KeepsNames, IsForbidden, Refuses, Leaves, Changed, Told, begins, goes_on, Tells, TellsOn, IsEmptied, Fails, TellingLaws}

-- ---- one change

-- a state whose trail has not grown is the same
pub same_trail : (old new : State) → new.vertices ≡ old.vertices → new.values ≡ old.values → new.removed ≡ old.removed → new ≡ old
same_trail old new v w r = ap with_vertices v ∙ (ap with_values w ∙ ap with_removed r)
  where
    with_vertices : ℕ → State
    with_vertices n = record { vertices = n; values = new.values; removed = new.removed }

    with_values : ℕ → State
    with_values n = record { vertices = old.vertices; values = n; removed = new.removed }

    with_removed : List (ℕ × ℕ) → State
    with_removed xs = record { vertices = old.vertices; values = old.values; removed = xs }

-- nothing has left where the trail is no longer
same_state : (q : Problem) (s : Option watched.State) (old new : State) (c : Change) → Leaves q s old new c → length new.removed ≤ from_of c → new ≡ old
same_state q s old new c l le = by l.rest l.front
  where
    by : (rest : List (ℕ × ℕ)) → new.removed ≡ old.removed ++ rest → new ≡ old
    by [] front = same_trail old new l.vertices_same l.values_same (front ∙ append-nil old.removed)
    by (x ∷ xs) front = absurd (omega (arith, ap length front, length-append old.removed (x ∷ xs), le, l.from_is))

-- where nothing has left, what is told is true still
pub told_same : (q : Problem) (s : Option watched.State) (old new : State) (c : Change) (b : Option (List Change)) → Leaves q s old new c → length new.removed ≤ from_of c
    → Tells q s old b → Tells q s new b
told_same q s old new c b l le t = subst (λ (d : State). Tells q s d b) (sym (same_state q s old new c l le)) t

-- and where it was told
pub told_more : (q : Problem) (s : Option watched.State) (old new : State) (c : Change) (b a : Option (List Change)) → Leaves q s old new c → from_of c < length new.removed
    → Took b a c → Tells q s old b → Tells q s new a
told_more q s old new c b a l grown (inr none) t = subst (Tells q s new) (sym none) tt
told_more q s old new c None a l grown (inl kept) t = subst (Tells q s new) (sym kept) tt
told_more q s old new c (Some cs) a l grown (inl kept) t =
    subst (Tells q s new) (sym kept) (goes_on old new cs c t (record { leaves = l; some = omega (arith, grown, l.from_is) }))

-- the test of the marks decides
pub told_tested : (q : Problem) (s : Option watched.State) (old new : State) (c : Change) (b : Option (List Change)) → Leaves q s old new c → ltb (from_of c) (length new.removed) ≡ false
    → Tells q s old b → Tells q s new b
told_tested q s old new c b l test t = told_same q s old new c b l (by (cases_lt (from_of c) (length new.removed))) t
  where
    by : (from_of c < length new.removed) ⊎ (length new.removed ≤ from_of c) → length new.removed ≤ from_of c
    by (inl lt) = absurd (true≢false (sym (lt-ltb (from_of c) (length new.removed) lt) ∙ test))
    by (inr le) = le

-- what is kept as it was, or not at all
pub told_kept : (q : Problem) (s : Option watched.State) (d : State) (b a : Option (List Change)) → KeepsSame b a → Tells q s d b → Tells q s d a
told_kept q s d b a (inl same) t = subst (Tells q s d) (sym same) t
told_kept q s d b a (inr none) t = subst (Tells q s d) (sym none) tt

-- of the same problem
pub tells_of : (q r : Problem) (s : Option watched.State) (d : State) (told : Option (List Change)) → r ≡ q → Tells q s d told → Tells r s d told
tells_of q r s d told is t = subst (λ (x : Problem). Tells x s d told) (sym is) t

pub tells_on_of : (q r : Problem) (old : State) (before : Option (List Change)) (new : State) (after : Option (List Change)) → r ≡ q → TellsOn r old before new after → TellsOn q old before new after
tells_on_of q r old before new after is on s t = tells_of r q s new after (sym is) (on s (tells_of q r s old before is t))

-- ---- names

-- names that are kept forbid what they forbade
forbidden_named : (old new : Option watched.State) (d : State) (name r u : ℕ) → KeepsNames old new → IsForbidden old d name r u → IsForbidden new d name r u
forbidden_named old new d name r u keeps f = record {
  pairs = f.pairs;
  named = keeps name f.pairs f.named;
  place = f.place;
  within = f.within;
  here = f.here;
  rest = f.rest;
}

refuses_named : (q : Problem) (s r : Option watched.State) (old : State) (c : Change) (p u : ℕ) → KeepsNames s r → Refuses c q s old p u → Refuses c q r old p u
refuses_named q s r old (LeftOne v cause.First from) p u keeps h = h
refuses_named q s r old (LeftOne v (cause.Guess t) from) p u keeps h = h
refuses_named q s r old (LeftOne v (cause.Vertex w t) from) p u keeps h = h
refuses_named q s r old (LeftOne v (cause.Nogood name) from) p u keeps h = (h.0, forbidden_named s r old name v u keeps h.1)
refuses_named q s r old (LeftOne v (cause.Edge w t direction) from) p u keeps h = h
refuses_named q s r old (LeftOne v (cause.Order k t side) from) p u keeps h = h
refuses_named q s r old (LeftOthers centre vertices values from) p u keeps h = h
refuses_named q s r old (LeftOver v t direction vertices values from) p u keeps h = h

leaves_named : (q : Problem) (s r : Option watched.State) (old new : State) (c : Change) → KeepsNames s r → Leaves q s old new c → Leaves q r old new c
leaves_named q s r old new c keeps l = record {
  vertices_same = l.vertices_same;
  values_same = l.values_same;
  rest = l.rest;
  front = l.front;
  from_is = l.from_is;
  stands = l.stands;
  refused = λ p u here gone. refuses_named q s r old c p u keeps (l.refused p u here gone);
}

told_named : (q : Problem) (s r : Option watched.State) (d : State) (cs : List Change) → KeepsNames s r → Told q s d cs → Told q r d cs
told_named q s r _ _ keeps (begins vertices values) = begins vertices values
told_named q s r _ _ keeps (goes_on old new cs c t changed) =
    goes_on old new cs c (told_named q s r old cs keeps t) (record { leaves = leaves_named q s r old new c keeps changed.leaves; some = changed.some })

-- what is told stays true while names are kept
pub tells_named : (q : Problem) (s r : Option watched.State) (d : State) (told : Option (List Change)) → KeepsNames s r → Tells q s d told → Tells q r d told
tells_named q s r d None keeps t = tt
tells_named q s r d (Some cs) keeps t = told_named q s r d cs keeps t

-- ---- undoing

-- undone to a mark before it, a change has not taken place
undone_before : (old new : State) (k : ℕ) (rest : List (ℕ × ℕ)) → new.vertices ≡ old.vertices → new.values ≡ old.values → new.removed ≡ old.removed ++ rest → k ≤ length old.removed
    → undone new k ≡ undone old k
undone_before old new k rest vs ws front le = same_trail (undone old k) (undone new k) vs ws (ap (take k) front ∙ take-append-le k old.removed rest le)

-- undone to a mark within it, a part of it has
undone_within : (q : Problem) (s : Option watched.State) (old new : State) (c : Change) (k : ℕ) → length old.removed < k → Changed q s old new c → Changed q s old (undone new k) c
undone_within q s old new c k lt changed = record {
  leaves = record {
    vertices_same = changed.leaves.vertices_same;
    values_same = changed.leaves.values_same;
    rest = drop (length old.removed) (take k new.removed);
    front = sym (take-append-drop (length old.removed) (take k new.removed)) ∙ ap (λ (xs : List (ℕ × ℕ)). xs ++ drop (length old.removed) (take k new.removed)) first;
    from_is = changed.leaves.from_is;
    stands = changed.leaves.stands;
    refused = λ r u here gone. changed.leaves.refused r u here (gone_later r u gone);
  };
  some = longer (cases_lt k (length new.removed));
}
  where
    first : take (length old.removed) (take k new.removed) ≡ old.removed
    first =
        take-take (length old.removed) k new.removed (omega (arith, lt)) ∙ ap (take (length old.removed)) changed.leaves.front
        ∙ take-append-le (length old.removed) old.removed changed.leaves.rest (omega arith) ∙ take_all (length old.removed) old.removed (omega arith)

    gone_later : (r u : ℕ) → in_domain (undone new k) r u ≡ false → in_domain new r u ≡ false
    gone_later r u gone = by (in_domain new r u) refl
      where
        by : (b : Bool) → in_domain new r u ≡ b → in_domain new r u ≡ false
        by true here = absurd (true≢false (sym ((undone_grows new k).more r u here) ∙ gone))
        by false out = out

    longer : (k < length new.removed) ⊎ (length new.removed ≤ k) → length old.removed < length (take k new.removed)
    longer (inl within) = omega (arith, length-take-le k new.removed (omega (arith, within)), lt)
    longer (inr past) = subst (λ (xs : List (ℕ × ℕ)). length old.removed < length xs) (sym (take_all k new.removed past)) changed.some

told_undone : (q : Problem) (s : Option watched.State) (d : State) (cs : List Change) (k : ℕ) → Told q s d cs → Told q s (undone d k) (cut k cs)
told_undone q s _ _ k (begins vertices values) = subst (λ (d : State). Told q s d []) (sym (same_trail (full vertices values) (undone (full vertices values) k) refl refl (take_all k [] (omega arith)))) (begins vertices values)
told_undone q s _ _ k (goes_on old new cs c t changed) = by (ltb (from_of c) k) refl (told_undone q s old cs k t)
  where
    by : (b : Bool) → ltb (from_of c) k ≡ b → Told q s (undone old k) (cut k cs) → Told q s (undone new k) (cond b (c ∷ cs) (cut k cs))
    by true test before = goes_on old (undone new k) cs c t (undone_within q s old new c k (omega (arith, ltb-true (from_of c) k test, changed.leaves.from_is)) changed)
    by false test before = subst (λ (d : State). Told q s d (cut k cs))
        (sym (undone_before old new k changed.leaves.rest changed.leaves.vertices_same changed.leaves.values_same changed.leaves.front (not_less (cases_lt (from_of c) k))))
        before
      where
        not_less : (from_of c < k) ⊎ (k ≤ from_of c) → k ≤ length old.removed
        not_less (inl lt) = absurd (true≢false (sym (lt-ltb (from_of c) k lt) ∙ test))
        not_less (inr le) = omega (arith, le, changed.leaves.from_is)

pub tells_undone : (q : Problem) (s : Option watched.State) (d : State) (told : Option (List Change)) (k : ℕ) → Tells q s d told → Tells q s (undone d k) (cut_at k told)
tells_undone q s d None k t = tt
tells_undone q s d (Some cs) k t = told_undone q s d cs k t

pub telling_laws_hold : TellingLaws
telling_laws_hold = record {
  undone = tells_undone;
  named = tells_named;
}

-- ---- failures

-- an empty domain is one, whatever is named or kept
pub fails_emptied : (q : Problem) (s : Option watched.State) (d : State) (cs : Option (List Change)) (short : Option CountedSet) (f : Failure) → IsEmptied q d f → Fails q s d cs short f
fails_emptied q s d cs short (failure.Empty p) h = h
fails_emptied q s d cs short (failure.Whole name) h = absurd h
fails_emptied q s d cs short (failure.Short n) h = absurd h

pub emptied_fails : (q : Problem) (s : Option watched.State) (d : State) (cs : Option (List Change)) (short : Option CountedSet) (r : Result (Unit {0}) Failure) → IfErr r (IsEmptied q d) → IfErr r (Fails q s d cs short)
emptied_fails q s d cs short (Ok u) h = tt
emptied_fails q s d cs short (Err f) h = fails_emptied q s d cs short f h

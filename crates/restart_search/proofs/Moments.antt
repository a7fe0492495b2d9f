-- The moments of a search at which nothing was left to follow.

use Rattle.std.proofs.Common.{◌≡◌, ℕ, zero, suc, ◌≤◌, Bool, List, [], ◌∷◌, ◌++◌, take, length, Option, Some, None, IfSome, append_assoc, refl, sym, ap, ◌∙◌, subst, arith, ◌⊎◌, inl, inr}
use Rattle.std.proofs.lemmas.Bool.{cases_lt}
use Rattle.std.proofs.lemmas.List.{append-nil}
use Rattle.graph_theory.specs.Embedding.{Problem}
use Rattle.domain_bits.specs.Removals.{State, undone}
use Rattle.domain_bits.proofs.Undoing.{undone_grows}
use Rattle.sparse_set.specs.Removals as sparse
use Rattle.domain_bits.specs.Changes.{Keeps}
use Rattle.nogood_watch.specs.Nogoods as watched
use Rattle.nogood_watch.specs.InForce.{InForce}
use Rattle.restart_search.specs.declared.position.Moment.{Moment}
use Rattle.restart_search.specs.Searching.{Levels}
use Rattle.propagation.specs.Learning.{Filtering, unlearned}
use Rattle.propagation.specs.Acting.{IsPart, HaveMoved, AreActedOn}
use Rattle.restart_search.specs.Acting.{AtMoments, WereActedOn, Acting}
use Rattle.recorder.proofs.Telling.{same_trail}
use Rattle.propagation.specs.Propagation.{Narrows}
use Rattle.restart_search.proofs.Levels.{undone_all, undone_further, undone_later, low_within}
use Rattle.propagation.proofs.Acting.{acted_wider, acted_after, units_on}

-- ---- undoing

undone_part : (d : State) (k : ℕ) → IsPart d (undone d k)
undone_part d k p t h = (undone_grows d k).more p t h

undone_now : (d : State) (k : ℕ) → k ≡ length d.removed → undone d k ≡ d
undone_now d k now = ap (undone d) now ∙ undone_all d d [] refl refl (sym (append-nil d.removed))

take_past : (j k : ℕ) (xs : List (ℕ × ℕ)) → k ≤ j → take j (take k xs) ≡ take k xs
take_past zero zero xs le = refl
take_past (suc j) zero xs le = refl
take_past zero (suc k) xs le = absurd (omega (arith, le))
take_past (suc j) (suc k) [] le = refl
take_past (suc j) (suc k) (x ∷ xs) le = ap (λ (ys : List (ℕ × ℕ)). x ∷ ys) (take_past j k xs (omega (arith, le)))

-- what held at two moments holds at the earlier one
acted_further : (d : State) (j k : ℕ) (n : Option watched.State) → AreActedOn (undone d j) n → AreActedOn (undone d k) n → AreActedOn (undone (undone d k) j) n
acted_further d j k n at_j at_k = by (cases_lt k j)
  where
    by : (suc k ≤ j) ⊎ (j ≤ k) → AreActedOn (undone (undone d k) j) n
    by (inl past) = subst (λ (e : State). AreActedOn e n) (sym (same_trail (undone d k) (undone (undone d k) j) refl refl (take_past j k d.removed (omega (arith, past))))) at_k
    by (inr le) = subst (λ (e : State). AreActedOn e n) (sym (undone_further d j k le)) at_j

-- ---- one moment more, and one less

-- no moment is later than the present
abbrev AllBeen : State → List Moment → Type 0
AllBeen d [] = Unit {0}
AllBeen d (k ∷ ks) = (k.domains ≤ length d.removed) × AllBeen d ks

been_levels : (q : Problem) (d : State) (s : sparse.State) (low : Moment) (above xs : List (ℕ × ℕ)) (ks : List Moment) → Levels q d s low above xs ks → AllBeen d ks
been_levels q d s low above [] [] h = tt
been_levels q d s low above (x ∷ xs) (k ∷ ks) h = ((low_within q d s k (above ++ x ∷ []) xs ks h.2).domains, been_levels q d s k (above ++ x ∷ []) xs ks h.2)
been_levels q d s low above [] (k ∷ ks) h = absurd h
been_levels q d s low above (x ∷ xs) [] h = absurd h

been_push : (d : State) (ks : List Moment) (k : Moment) → k.domains ≡ length d.removed → AllBeen d ks → AllBeen d (ks ++ k ∷ [])
been_push d [] k now h = (omega (arith, now), tt)
been_push d (j ∷ js) k now h = (h.0, been_push d js k now h.1)

moments_push : (d : State) (n : Option watched.State) (ks : List Moment) (k : Moment) → k.domains ≡ length d.removed → AreActedOn d n → AtMoments d n ks → AtMoments d n (ks ++ k ∷ [])
moments_push d n [] k now a h = (subst (λ (e : State). AreActedOn e n) (sym (undone_now d k.domains now)) a, tt)
moments_push d n (j ∷ js) k now a h = (h.0, moments_push d n js k now a h.1)

last_moment : (d : State) (n : Option watched.State) (ks : List Moment) (k : Moment) → AtMoments d n (ks ++ k ∷ []) → AreActedOn (undone d k.domains) n
last_moment d n [] k h = h.0
last_moment d n (j ∷ js) k h = last_moment d n js k h.1

moments_pop : (d : State) (n : Option watched.State) (ks : List Moment) (k : Moment) → AreActedOn (undone d k.domains) n → AtMoments d n (ks ++ k ∷ []) → AtMoments (undone d k.domains) n ks
moments_pop d n [] k last h = tt
moments_pop d n (j ∷ js) k last h = (acted_further d j.domains k.domains n h.0 last, moments_pop d n js k last h.1)

-- ---- while more is removed and watches move

-- what was removed from d, of which mid is a part, on the way to e
record Removed (d mid e : State) : Type 0 where
  pub vertices_same : e.vertices ≡ d.vertices
  pub values_same : e.values ≡ d.values
  pub rest : List (ℕ × ℕ)
  pub front : e.removed ≡ d.removed ++ rest
  pub part : IsPart mid d

moment_moved : (d mid e : State) (n m : Option watched.State) (k : ℕ) → Removed d mid e → HaveMoved mid n m → k ≤ length d.removed → AreActedOn (undone d k) n → AreActedOn (undone e k) m
moment_moved d mid e n m k r moved been a =
    subst (λ (x : State). AreActedOn x m) (sym (undone_later d e r.rest k r.vertices_same r.values_same r.front been))
    (acted_wider mid (undone d k) n m (λ p t h. undone_part d k p t (r.part p t h)) moved a)

moments_moved : (d mid e : State) (n m : Option watched.State) (ks : List Moment) → Removed d mid e → HaveMoved mid n m → AllBeen d ks → AtMoments d n ks → AtMoments e m ks
moments_moved d mid e n m [] r moved been h = tt
moments_moved d mid e n m (k ∷ ks) r moved been h = (moment_moved d mid e n m k.domains r moved been.0 h.0, moments_moved d mid e n m ks r moved been.1 h.1)

-- ---- the steps of a search

-- after a guess, whatever propagation finds
pub were_guessed : (q : Problem) (d mid e : State) (s : sparse.State) (xs : List (ℕ × ℕ)) (marks : List Moment) (root k : Moment) (p : ℕ) (keeps : ℕ → Bool) (n m : Option watched.State)
    → Levels q d s root [] xs marks → k.domains ≡ length d.removed → Keeps d mid p keeps → Narrows q mid e → HaveMoved mid n m → Acting d n marks root
    → WereActedOn e m (marks ++ k ∷ []) root
were_guessed q d mid e s xs marks root k p keeps n m levels now kept narrows moved a = record {
  at_root = moment_moved d mid e n m root.domains removed moved (low_within q d s root [] xs marks levels).domains a.past.at_root;
  at_levels = moments_moved d mid e n m (marks ++ k ∷ []) removed moved (been_push d marks k now (been_levels q d s root [] xs marks levels)) (moments_push d n marks k now a.here a.past.at_levels);
}
  where
    removed : Removed d mid e
    removed = record {
      vertices_same = narrows.vertices_same ∙ kept.shrinks.vertices_same;
      values_same = narrows.values_same ∙ kept.shrinks.values_same;
      rest = kept.shrinks.rest ++ narrows.rest;
      front = narrows.front ∙ ap (λ (ys : List (ℕ × ℕ)). ys ++ narrows.rest) kept.shrinks.front ∙ append_assoc d.removed kept.shrinks.rest narrows.rest;
      part = kept.shrinks.less;
    }

-- and where it finds domains at rest
pub acting_guessed : (q : Problem) (d mid e : State) (s : sparse.State) (xs : List (ℕ × ℕ)) (marks : List Moment) (root k : Moment) (p : ℕ) (keeps : ℕ → Bool) (n m : Option watched.State)
    → Levels q d s root [] xs marks → k.domains ≡ length d.removed → Keeps d mid p keeps → Narrows q mid e → HaveMoved mid n m → Acting d n marks root
    → IfSome m (λ r. InForce e r.watches) → Acting e m (marks ++ k ∷ []) root
acting_guessed q d mid e s xs marks root k p keeps n m levels now kept narrows moved a force = record {
  past = were_guessed q d mid e s xs marks root k p keeps n m levels now kept narrows moved a;
  here = acted_after mid e n m narrows.less moved (units_on d mid n kept.shrinks.less a.here) force;
}

-- a guess is taken back
pub acting_closed : (d : State) (n : Option watched.State) (marks : List Moment) (k root : Moment) → WereActedOn d n (marks ++ k ∷ []) root → Acting (undone d k.domains) n marks root
acting_closed d n marks k root w =
    let last = last_moment d n marks k w.at_levels in
    record {
      past = record { at_root = acted_further d root.domains k.domains n w.at_root last; at_levels = moments_pop d n marks k last w.at_levels };
      here = last;
    }

-- a run begins
pub acting_fresh : (d : State) (n : Option watched.State) (k : Moment) → k.domains ≡ length d.removed → AreActedOn d n → Acting d n [] k
acting_fresh d n k now a = record {
  past = record { at_root = subst (λ (e : State). AreActedOn e n) (sym (undone_now d k.domains now)) a; at_levels = tt };
  here = a;
}

-- where no nogoods are kept, nothing follows from them
pub acting_none : (d : State) (n : Option watched.State) (marks : List Moment) (root : Moment) → n ≡ None → Acting d n marks root
acting_none d n marks root none = subst (λ (o : Option watched.State). Acting d o marks root) (sym none) (record { past = record { at_root = tt; at_levels = each marks }; here = tt })
  where
    each : (ks : List Moment) → AtMoments d None ks
    each [] = tt
    each (k ∷ ks) = (tt, each ks)

-- where none were kept, none are after watches have moved
none_moved : (d : State) (a b : Option watched.State) → a ≡ None → HaveMoved d a b → b ≡ None
none_moved d None None none moved = refl
none_moved d None (Some r) none moved = absurd moved
none_moved d (Some s) b none moved = cc

same_filters : (f : Filtering) (q : Problem) → f.problem ≡ q → f.nogoods ≡ None → f ≡ unlearned q
same_filters f q problem none = ap with_problem problem ∙ ap with_nogoods none
  where
    with_problem : Problem → Filtering
    with_problem p = record { problem = p; nogoods = f.nogoods }

    with_nogoods : Option watched.State → Filtering
    with_nogoods n = record { problem = q; nogoods = n }

pub still_unlearned : (d : State) (old new : Filtering) (q : Problem) → old ≡ unlearned q → new.problem ≡ q → HaveMoved d old.nogoods new.nogoods → new ≡ unlearned q
still_unlearned d old new q is problem moved =
    same_filters new q problem (none_moved d old.nogoods new.nogoods (ap (λ (f : Filtering). f.nogoods) is) moved)

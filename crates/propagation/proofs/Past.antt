-- Vertices that are past, and the set of those that are not.

use Rattle.std.proofs.Common.{◌≡◌, ℕ, ◌<◌, Bool, true, false, not, eqb, ltb, List, [], ◌∷◌, ◌++◌, refl, sym, ap, ◌∙◌, subst, append_assoc, ◌⊎◌, inl, inr, if◌then◌else◌}
use Rattle.std.proofs.lemmas.Bool.{eqb-true, lt-ltb, ltb-true, and_parts, or_cases}
use Rattle.std.proofs.lemmas.List.{append-nil}
use Rattle.graph_theory.specs.Graph.{size}
use Rattle.graph_theory.specs.Embedding.{Problem}
use Rattle.search_theory.specs.Claims.{Single, Quiet}
use Rattle.search_theory.proofs.Pairs.{consistent_other}
use Rattle.domain_bits.specs.Removals.{State, in_domain, size_of}
use Rattle.domain_bits.proofs.Sizes.{single_size}
use Rattle.sparse_set.specs.Removals as sparse
use Rattle.propagation.specs.Propagation.{IsPast, LeavesPast, Fewer, Rests, Swept, Settles}
use Rattle.propagation.specs.Learning.{Forces}
use Rattle.propagation.proofs.Sweeping.{rests_settled}

-- ---- one vertex

-- a vertex that is past stays so while values leave
pub past_on : (q : Problem) (old new : State) (p : ℕ) → ((r u : ℕ) → in_domain new r u ≡ true → in_domain old r u ≡ true) → IsPast q old p → IsPast q new p
past_on q old new p less past = record {
  one = λ t u h k. past.one t u (less p t h) (less p u k);
  settled = λ t h. record { goes = λ r u r_in other here. (past.settled t (less p t h)).goes r u r_in other (less r u here) };
}

-- one that had a single value and rests is past
pub past_rests : (q : Problem) (old new : State) (p t : ℕ) → ((r u : ℕ) → in_domain new r u ≡ true → in_domain old r u ≡ true) → Single (in_domain old) p t
    → Rests q new p → IsPast q new p
past_rests q old new p t less s rests = record {
  one = λ u v h k. same u v h k;
  settled = λ u h. rests.settled u (record { here = h; only = λ v k. same v u k h });
}
  where
    same : (u v : ℕ) → in_domain new p u ≡ true → in_domain new p v ≡ true → u ≡ v
    same u v h k = s.only u (less p u h) ∙ sym (s.only v (less p v k))

-- one that has a single value in domains at rest is past
pub past_quiet : (q : Problem) (d : State) (p t : ℕ) → Quiet q (in_domain d) → p < size q.pattern → Single (in_domain d) p t → IsPast q d p
past_quiet q d p t quiet p_in s = past_rests q d d p t (λ r u h. h) s (record { some = quiet.some p p_in; settled = λ u o. quiet.settled p u p_in o })

-- one whose value was taken from all others, after which nogoods were looked at, is past
pub past_visited : (q r : Problem) (old mid new : State) (before between after : List Bool) (p t : ℕ) → r ≡ q → Single (in_domain old) p t
    → Settles true r old before mid between p t → Forces true r mid between new after → IsPast q new p
past_visited q r old mid new before between after p t is s g f =
    past_on q mid new p f.narrows.less
    (past_rests q old mid p t g.shrinks.narrows.less s
    (rests_settled q old mid before between p t s (subst (λ (x : Problem). Settles true x old before mid between p t) is g)))

-- the values of one that is past are consistent with those of any other
pub past_swept : (q : Problem) (d : State) (p t s : ℕ) → p < size q.pattern → in_domain d p t ≡ true → IsPast q d s → Swept true q d p t s
past_swept q d p t s p_in here past = λ u other h. consistent_other q s u p t ((past.settled u h).goes p t p_in (λ same. other (sym same)) here)

-- one that is past and has a value is decided
pub past_single : (q : Problem) (d : State) (p : ℕ) → IsPast q d p → (t : ℕ) × (in_domain d p t ≡ true) → (t : ℕ) × Single (in_domain d) p t
past_single q d p past some = (some.0, record { here = some.1; only = λ u h. past.one u some.0 h some.1 })

-- ---- the set

-- those that have left the set stay past while values leave
pub leaves_on : (q : Problem) (old new : State) (s : sparse.State) → ((r u : ℕ) → in_domain new r u ≡ true → in_domain old r u ≡ true)
    → LeavesPast q old s → LeavesPast q new s
leaves_on q old new s less left = record { count_is = left.count_is; past = λ p gone. past_on q old new p less (left.past p gone) }

-- the whole set has lost none
pub leaves_none : (q : Problem) (d : State) (n : ℕ) → n ≡ size q.pattern → LeavesPast q d (sparse.whole n)
leaves_none q d n is = record { count_is = is; past = λ p gone. cc }

-- a vertex that is past may leave
pub leaves_one : (q : Problem) (d : State) (old new : sparse.State) (b : Bool) (p : ℕ) → LeavesPast q d old → IsPast q d p
    → new ≡ (if b then sparse.without old p else old) → LeavesPast q d new
leaves_one q d old new true p left past is = subst (λ (s : sparse.State). LeavesPast q d s) (sym is) (record {
  count_is = left.count_is;
  past = λ r gone. by_last r (among_push old.removed p r gone);
})
  where
    among_push : (xs : List ℕ) (y r : ℕ) → sparse.among (xs ++ y ∷ []) r ≡ true → (sparse.among xs r ≡ true) ⊎ (r ≡ y)
    among_push [] y r h = first (or_cases (eqb y r) false h)
      where
        first : (eqb y r ≡ true) ⊎ (false ≡ true) → (false ≡ true) ⊎ (r ≡ y)
        first (inl e) = inr (sym (eqb-true y r e))
        first (inr e) = inl e
    among_push (x ∷ xs) y r h = later (eqb x r) refl (among_push xs y r)
      where
        later : (c : Bool) → eqb x r ≡ c → (sparse.among (xs ++ y ∷ []) r ≡ true → (sparse.among xs r ≡ true) ⊎ (r ≡ y))
            → (sparse.among (x ∷ xs) r ≡ true) ⊎ (r ≡ y)
        later true e rest = inl (rw e refl)
        later false e rest = put (rest (rw e at h))
          where
            put : (sparse.among xs r ≡ true) ⊎ (r ≡ y) → (sparse.among (x ∷ xs) r ≡ true) ⊎ (r ≡ y)
            put (inl there) = inl (rw e there)
            put (inr same) = inr same

    by_last : (r : ℕ) → (sparse.among old.removed r ≡ true) ⊎ (r ≡ p) → IsPast q d r
    by_last r (inl there) = left.past r there
    by_last r (inr same) = subst (λ (v : ℕ). IsPast q d v) (sym same) past
leaves_one q d old new false p left past is = subst (λ (s : sparse.State). LeavesPast q d s) (sym is) left

-- who is no member is past
pub no_member_past : (q : Problem) (d : State) (s : sparse.State) (p : ℕ) → LeavesPast q d s → p < size q.pattern → sparse.has s p ≡ false → IsPast q d p
no_member_past q d s p left p_in out = left.past p (by (sparse.among s.removed p) refl)
  where
    within : ltb p s.count ≡ true
    within = lt-ltb p s.count (subst (λ (n : ℕ). p < n) (sym left.count_is) p_in)

    by : (b : Bool) → sparse.among s.removed p ≡ b → sparse.among s.removed p ≡ true
    by true e = e
    by false e = let h = rw (within, e) at out in absurd (true_is_not h)
      where
        true_is_not : true ≡ false → ⊥
        true_is_not h = cc

-- ---- more have left

pub fewer_none : (s : sparse.State) → Fewer s s
fewer_none s = record { count_same = refl; rest = []; front = sym (append-nil s.removed) }

pub fewer_more : (a b c : sparse.State) → Fewer a b → Fewer b c → Fewer a c
fewer_more a b c f g = record {
  count_same = g.count_same ∙ f.count_same;
  rest = f.rest ++ g.rest;
  front = g.front ∙ (ap (λ (xs : List ℕ). xs ++ g.rest) f.front ∙ append_assoc a.removed f.rest g.rest);
}

pub fewer_one : (old new : sparse.State) (b : Bool) (p : ℕ) → new ≡ (if b then sparse.without old p else old) → Fewer old new
fewer_one old new true p is = record {
  count_same = ap (λ (s : sparse.State). s.count) is;
  rest = p ∷ [];
  front = ap (λ (s : sparse.State). s.removed) is;
}
fewer_one old new false p is = subst (λ (s : sparse.State). Fewer old s) (sym is) (fewer_none old)

-- a member is a vertex
pub member_below : (s : sparse.State) (p : ℕ) → sparse.has s p ≡ true → p < s.count
member_below s p here = ltb-true p s.count (and_parts (ltb p s.count) (not (sparse.among s.removed p)) here).0

pub member_in : (q : Problem) (d : State) (s : sparse.State) (p : ℕ) → LeavesPast q d s → sparse.has s p ≡ true → p < size q.pattern
member_in q d s p left here = subst (λ (n : ℕ). p < n) left.count_is (member_below s p here)

-- in domains at rest, who is no member has one value
pub no_member_size : (q : Problem) (d : State) (s : sparse.State) (p : ℕ) → Quiet q (in_domain d) → LeavesPast q d s → p < size q.pattern → sparse.has s p ≡ false → size_of d p ≡ 1
no_member_size q d s p quiet left p_in out =
    let one = past_single q d p (no_member_past q d s p left p_in out) (quiet.some p p_in) in
    single_size d p one.0 (record { here = one.1.here; only = one.1.only })

-- Levels of a search: one more, one less, and what stands at their moments.

use Rattle.std.proofs.Common.{◌≡◌, ℕ, ◌≤◌, List, [], ◌∷◌, ◌++◌, length, take, refl, sym, ap, ◌∙◌, subst, arith, append_assoc, length-append}
use Rattle.std.proofs.lemmas.List.{append-nil, take-append-le, take-take, length-take-le}
use Rattle.std.proofs.Math.Seq.{take-length}
use Rattle.graph_theory.specs.Embedding.{Problem}
use Rattle.domain_bits.specs.Removals.{State, undone}
use Rattle.sparse_set.specs.Removals as sparse
use Rattle.restart_search.specs.declared.position.Moment.{Moment}
use Rattle.recorder.proofs.Telling.{same_trail}
use Rattle.propagation.specs.Propagation.{Fewer, LeavesPast}
use Rattle.restart_search.specs.Searching.{AtRest, IsNow, IsEarlier, HasBeen, RestedAt, Levels}

-- ---- domains and their trail

-- undoing to a mark forgets what was removed after a later one
pub undone-more : (d : State) (rest : List (ℕ × ℕ)) (removed : List (ℕ × ℕ)) (k : ℕ) → removed ≡ d.removed ++ rest → k ≤ length d.removed
    → take k removed ≡ take k d.removed
undone-more d rest removed k front le = ap (take k) front ∙ take-append-le k d.removed rest le

-- undoing to the end changes nothing
pub undone_all : (d e : State) (rest : List (ℕ × ℕ)) → e.vertices ≡ d.vertices → e.values ≡ d.values → e.removed ≡ d.removed ++ rest → undone e (length d.removed) ≡ d
undone_all d e rest v w front = same_trail d (undone e (length d.removed)) v w
    (ap (take (length d.removed)) front ∙ take-append-le (length d.removed) d.removed rest (omega arith) ∙ take-length d.removed)

-- undoing further
pub undone_further : (d : State) (j k : ℕ) → j ≤ k → undone (undone d k) j ≡ undone d j
undone_further d j k le = same_trail (undone d j) (undone (undone d k) j) refl refl (take-take j k d.removed le)

-- undoing what was removed later, too
pub undone_later : (d e : State) (rest : List (ℕ × ℕ)) (k : ℕ) → e.vertices ≡ d.vertices → e.values ≡ d.values → e.removed ≡ d.removed ++ rest
    → k ≤ length d.removed → undone e k ≡ undone d k
undone_later d e rest k v w front le = same_trail (undone d k) (undone e k) v w (undone-more d rest e.removed k front le)

-- ---- the set of the vertices that are not past

-- a set is known by its count and by those that have left it
same_set : (r s : sparse.State) → r.count ≡ s.count → r.removed ≡ s.removed → r ≡ s
same_set r s c x = ap with_count c ∙ ap with_removed x
  where
    with_count : ℕ → sparse.State
    with_count n = record { count = n; removed = r.removed }

    with_removed : List ℕ → sparse.State
    with_removed xs = record { count = s.count; removed = xs }

-- undoing further
set_further : (s : sparse.State) (j k : ℕ) → j ≤ k → sparse.undone (sparse.undone s k) j ≡ sparse.undone s j
set_further s j k le = same_set (sparse.undone (sparse.undone s k) j) (sparse.undone s j) refl (take-take j k s.removed le)

-- undoing what left later, too
set_later : (s r : sparse.State) (k : ℕ) → Fewer s r → k ≤ length s.removed → sparse.undone r k ≡ sparse.undone s k
set_later s r k f le = same_set (sparse.undone r k) (sparse.undone s k) f.count_same (ap (take k) f.front ∙ take-append-le k s.removed f.rest le)

-- undoing to the end changes nothing
set_all : (s : sparse.State) → sparse.undone s (length s.removed) ≡ s
set_all s = same_set (sparse.undone s (length s.removed)) s refl (take-length s.removed)

-- ---- moments

-- what was removed later from the domains d and the set s
pub record Later (d e : State) (s r : sparse.State) : Type 0 where
  pub vertices_same : e.vertices ≡ d.vertices
  pub values_same : e.values ≡ d.values
  pub rest : List (ℕ × ℕ)
  pub front : e.removed ≡ d.removed ++ rest
  pub fewer : Fewer s r

pub earlier_more : (i j k : Moment) → IsEarlier i j → IsEarlier j k → IsEarlier i k
earlier_more i j k a b = record { domains = omega (arith, a.domains, b.domains); past = omega (arith, a.past, b.past) }

pub been_earlier : (d : State) (s : sparse.State) (j k : Moment) → IsEarlier j k → HasBeen d s k → HasBeen d s j
been_earlier d s j k a b = record { domains = omega (arith, a.domains, b.domains); past = omega (arith, a.past, b.past) }

pub been_later : (d e : State) (s r : sparse.State) (k : Moment) → Later d e s r → HasBeen d s k → HasBeen e r k
been_later d e s r k l b = record {
  domains = omega (arith, ap length l.front, length-append d.removed l.rest, b.domains);
  past = omega (arith, ap length l.fewer.front, length-append s.removed l.fewer.rest, b.past);
}

-- what is undone to a moment has been there
pub been_undone : (d : State) (s : sparse.State) (j k : Moment) → IsEarlier j k → HasBeen d s k → HasBeen (undone d k.domains) (sparse.undone s k.past) j
been_undone d s j k a b = record {
  domains = omega (arith, a.domains, length-take-le k.domains d.removed b.domains);
  past = omega (arith, a.past, length-take-le k.past s.removed b.past);
}

-- and what has been there after it came before
pub earlier_undone : (d : State) (s : sparse.State) (j k : Moment) → HasBeen d s k → HasBeen (undone d k.domains) (sparse.undone s k.past) j → IsEarlier j k
earlier_undone d s j k b u = record {
  domains = omega (arith, u.domains, length-take-le k.domains d.removed b.domains);
  past = omega (arith, u.past, length-take-le k.past s.removed b.past);
}

-- what stood at a moment still stands there when more is removed
pub rested_later : (q : Problem) (path : List (ℕ × ℕ)) (d e : State) (s r : sparse.State) (k : Moment) → Later d e s r → HasBeen d s k → RestedAt q path d s k → RestedAt q path e r k
rested_later q path d e s r k l b h = record {
  rest = subst (λ (x : State). AtRest q path x) (sym domains) h.rest;
  left = subst (λ (x : State). LeavesPast q x (sparse.undone r k.past)) (sym domains)
      (subst (λ (x : sparse.State). LeavesPast q (undone d k.domains) x) (sym (set_later s r k.past l.fewer b.past)) h.left);
}
  where
    domains : undone e k.domains ≡ undone d k.domains
    domains = undone_later d e l.rest k.domains l.vertices_same l.values_same l.front b.domains

-- and when what came after a later one is undone
pub rested_further : (q : Problem) (path : List (ℕ × ℕ)) (d : State) (s : sparse.State) (j k : Moment) → IsEarlier j k → RestedAt q path d s j
    → RestedAt q path (undone d k.domains) (sparse.undone s k.past) j
rested_further q path d s j k a h = record {
  rest = subst (λ (x : State). AtRest q path x) (sym domains) h.rest;
  left = subst (λ (x : State). LeavesPast q x (sparse.undone (sparse.undone s k.past) j.past)) (sym domains)
      (subst (λ (x : sparse.State). LeavesPast q (undone d j.domains) x) (sym (set_further s j.past k.past a.past)) h.left);
}
  where
    domains : undone (undone d k.domains) j.domains ≡ undone d j.domains
    domains = undone_further d j.domains k.domains a.domains

-- what stands now stands at the present moment
pub rested_now : (q : Problem) (path : List (ℕ × ℕ)) (d : State) (s : sparse.State) (k : Moment) → IsNow d s k → AtRest q path d → LeavesPast q d s → RestedAt q path d s k
rested_now q path d s k now rest left = record {
  rest = subst (λ (x : State). AtRest q path x) (sym domains) rest;
  left = subst (λ (x : State). LeavesPast q x (sparse.undone s k.past)) (sym domains)
      (subst (λ (x : sparse.State). LeavesPast q d x) (sym (ap (sparse.undone s) now.past_is ∙ set_all s)) left);
}
  where
    domains : undone d k.domains ≡ d
    domains = ap (undone d) now.domains_is ∙ undone_all d d [] refl refl (sym (append-nil d.removed))

pub been_now : (d : State) (s : sparse.State) (k : Moment) → IsNow d s k → HasBeen d s k
been_now d s k now = record { domains = omega (arith, now.domains_is); past = omega (arith, now.past_is) }

-- whatever has been is no later than now
pub earlier_now : (d : State) (s : sparse.State) (j k : Moment) → IsNow d s k → HasBeen d s j → IsEarlier j k
earlier_now d s j k now b = record { domains = omega (arith, b.domains, now.domains_is); past = omega (arith, b.past, now.past_is) }

-- ---- levels

-- the lowest moment has been
pub low_within : (q : Problem) (d : State) (s : sparse.State) (low : Moment) (above xs : List (ℕ × ℕ)) (ks : List Moment) → Levels q d s low above xs ks → HasBeen d s low
low_within q d s low above [] [] h = h
low_within q d s low above (x ∷ xs) (k ∷ ks) h = been_earlier d s low k h.0 (low_within q d s k (above ++ x ∷ []) xs ks h.2)
low_within q d s low above [] (k ∷ ks) h = absurd h
low_within q d s low above (x ∷ xs) [] h = absurd h

-- levels stay while more is removed
pub levels_more : (q : Problem) (d e : State) (s r : sparse.State) (low : Moment) (above xs : List (ℕ × ℕ)) (ks : List Moment)
    → Later d e s r → Levels q d s low above xs ks → Levels q e r low above xs ks
levels_more q d e s r low above [] [] l h = been_later d e s r low l h
levels_more q d e s r low above (x ∷ xs) (k ∷ ks) l h = (
  h.0,
  rested_later q above d e s r k l (low_within q d s k (above ++ x ∷ []) xs ks h.2) h.1,
  levels_more q d e s r k (above ++ x ∷ []) xs ks l h.2,
)
levels_more q d e s r low above [] (k ∷ ks) l h = absurd h
levels_more q d e s r low above (x ∷ xs) [] l h = absurd h

-- one more level at the end, whose moment is the present
pub levels_push : (q : Problem) (d : State) (s : sparse.State) (low : Moment) (above xs : List (ℕ × ℕ)) (ks : List Moment) (x : ℕ × ℕ) (k : Moment) → IsNow d s k
    → Levels q d s low above xs ks → RestedAt q (above ++ xs) d s k → Levels q d s low above (xs ++ x ∷ []) (ks ++ k ∷ [])
levels_push q d s low above [] [] x k now h rest = (
  earlier_now d s low k now h,
  subst (λ (ps : List (ℕ × ℕ)). RestedAt q ps d s k) (append-nil above) rest,
  been_now d s k now,
)
levels_push q d s low above (y ∷ ys) (j ∷ js) x k now h rest = (
  h.0,
  h.1,
  levels_push q d s j (above ++ y ∷ []) ys js x k now h.2
      (subst (λ (ps : List (ℕ × ℕ)). RestedAt q ps d s k) (sym (append_assoc above (y ∷ []) ys)) rest),
)
levels_push q d s low above [] (j ∷ js) x k now h rest = absurd h
levels_push q d s low above (y ∷ ys) [] x k now h rest = absurd h

-- moments without levels, and levels without moments
no_marks : (q : Problem) (d : State) (s : sparse.State) (low : Moment) (above : List (ℕ × ℕ)) (ks : List Moment) (k : Moment) → Levels q d s low above [] (ks ++ k ∷ []) → ⊥
no_marks q d s low above [] k h = h
no_marks q d s low above (j ∷ js) k h = h

no_levels : (q : Problem) (d : State) (s : sparse.State) (low : Moment) (above xs : List (ℕ × ℕ)) (x : ℕ × ℕ) → Levels q d s low above (xs ++ x ∷ []) [] → ⊥
no_levels q d s low above [] x h = h
no_levels q d s low above (y ∷ ys) x h = h

-- what stands at the last moment
pub levels_pop_rest : (q : Problem) (d : State) (s : sparse.State) (low : Moment) (above xs : List (ℕ × ℕ)) (ks : List Moment) (x : ℕ × ℕ) (k : Moment)
    → Levels q d s low above (xs ++ x ∷ []) (ks ++ k ∷ []) → RestedAt q (above ++ xs) d s k
levels_pop_rest q d s low above [] [] x k h = subst (λ (ps : List (ℕ × ℕ)). RestedAt q ps d s k) (sym (append-nil above)) h.1
levels_pop_rest q d s low above (y ∷ ys) (j ∷ js) x k h =
    subst (λ (ps : List (ℕ × ℕ)). RestedAt q ps d s k) (append_assoc above (y ∷ []) ys) (levels_pop_rest q d s j (above ++ y ∷ []) ys js x k h.2)
levels_pop_rest q d s low above [] (j ∷ js) x k h = absurd (no_marks q d s j (above ++ x ∷ []) js k h.2)
levels_pop_rest q d s low above (y ∷ ys) [] x k h = absurd (no_levels q d s k (above ++ y ∷ []) ys x h.2)

-- and the levels above it, once that is undone to
pub levels_pop : (q : Problem) (d : State) (s : sparse.State) (low : Moment) (above xs : List (ℕ × ℕ)) (ks : List Moment) (x : ℕ × ℕ) (k : Moment)
    → Levels q d s low above (xs ++ x ∷ []) (ks ++ k ∷ []) → HasBeen d s k × Levels q (undone d k.domains) (sparse.undone s k.past) low above xs ks
levels_pop q d s low above [] [] x k h = (h.2, been_undone d s low k h.0 h.2)
levels_pop q d s low above (y ∷ ys) (j ∷ js) x k h =
    let rest = levels_pop q d s j (above ++ y ∷ []) ys js x k h.2 in
    let within = low_within q (undone d k.domains) (sparse.undone s k.past) j (above ++ y ∷ []) ys js rest.1 in
    let le = earlier_undone d s j k rest.0 within in
    (rest.0, (h.0, rested_further q above d s j k le h.1, rest.1))
levels_pop q d s low above [] (j ∷ js) x k h = absurd (no_marks q d s j (above ++ x ∷ []) js k h.2)
levels_pop q d s low above (y ∷ ys) [] x k h = absurd (no_levels q d s k (above ++ y ∷ []) ys x h.2)

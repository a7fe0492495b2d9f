-- Looking at one prefix after another.
use Rattle.std.proofs.Common.{◌≡◌, ℕ, ◌+◌, ◌-◌, ◌*◌, ◌<◌, ◌≤◌, suc, Bool, true, false, ◌&&◌, ◌||◌, ltb, List, length, get_or, refl, sym, ap, ◌∙◌, subst, arith, inl, inr, ◌⊎◌}
use Rattle.std.proofs.lemmas.Bool.{cases_lt, cases_eq, and_parts, lt-ltb, le-ltb, false≢true, false_from_ne_true}
use Rattle.graph_theory.specs.Neighbours.{count}
use Rattle.bit_rows.specs.BitRows.{has, words_for}
use Rattle.domain_bits.specs.Removals.{State, in_domain, size_of}
use Rattle.bit_rows.proofs.Passing.{count_same, count_le}
use Rattle.domain_bits.proofs.Removed.{count_bounds}
use Rattle.domain_bits.proofs.Sizes.{in_below}
use Rattle.all_different.specs.Ranks.{before, rank}
use Rattle.all_different.specs.Prefixes.{in_prefix, in_union, union_size, Short, Tight}
use Rattle.all_different.specs.Steps.{Meets, MissesAt, Ordered, Shares}
use Rattle.all_different.proofs.Ranking.{rank_less, rank_onto, before_either}
use Rattle.all_different.proofs.Unions.{any_gives, prefix_none, union_more, size_below}
use Rattle.all_different.proofs.Choosing.{union_has}

-- what is after the last vertex of a prefix
pub prefix_before : (d : State) (last p : ℕ) → last < d.vertices → p < d.vertices → before (size_of d) last p ≡ true → in_prefix d (rank (size_of d) d.vertices last + 1) p ≡ false
prefix_before d last p ll lp b =
    rw (le-ltb (rank (size_of d) d.vertices p) (rank (size_of d) d.vertices last + 1) (omega (arith, rank_less (size_of d) d.vertices last p ll b))) (none (ltb p d.vertices))
  where
    none : (c : Bool) → (c && false) ≡ false
    none true = refl
    none false = refl

pub prefix_not_before : (d : State) (last p : ℕ) → last < d.vertices → p < d.vertices → before (size_of d) last p ≡ false → in_prefix d (rank (size_of d) d.vertices last + 1) p ≡ true
prefix_not_before d last p ll lp b = rw (lt-ltb p d.vertices lp) (by (cases_eq last p))
  where
    first : (before (size_of d) last p ≡ true) ⊎ (before (size_of d) p last ≡ true) → rank (size_of d) d.vertices p < rank (size_of d) d.vertices last
    first (inl h) = absurd (false≢true (sym b ∙ h))
    first (inr h) = rank_less (size_of d) d.vertices p last lp h

    by : (last ≡ p) ⊎ (last ≡ p → ⊥) → (true && ltb (rank (size_of d) d.vertices p) (rank (size_of d) d.vertices last + 1)) ≡ true
    by (inl e) = rw e (lt-ltb (rank (size_of d) d.vertices p) (rank (size_of d) d.vertices p + 1) (omega arith))
    by (inr ne) = lt-ltb (rank (size_of d) d.vertices p) (rank (size_of d) d.vertices last + 1) (omega (arith, first (before_either (size_of d) last p ne)))

pub misses_first : (d : State) (last p : ℕ) → last < d.vertices → p < d.vertices → before (size_of d) last p ≡ false → MissesAt d (rank (size_of d) d.vertices last + 1) p
misses_first d last p ll lp b t later shared met = false≢true (sym later ∙ prefix_not_before d last p ll lp b)

pub meets_at : (d : State) (last p : ℕ) (union row : List ℕ) → last < d.vertices → p < d.vertices → before (size_of d) last p ≡ true
    → ((t : ℕ) → has union t ≡ in_union d (rank (size_of d) d.vertices last + 1) t) → ((t : ℕ) → has row t ≡ in_domain d p t) → Shares union row
    → Meets d (rank (size_of d) d.vertices last + 1)
meets_at d last p union row ll lp b u r s = record {
  vertex = p;
  value = s.value;
  vertex_in = lp;
  later = prefix_before d last p ll lp b;
  shared = sym (u s.value) ∙ s.here;
  met = sym (r s.value) ∙ s.there;
}

pub misses_at : (d : State) (n p : ℕ) (union row : List ℕ) → ((t : ℕ) → has union t ≡ in_union d n t) → ((t : ℕ) → has row t ≡ in_domain d p t)
    → ((t : ℕ) → has union t ≡ true → has row t ≡ true → ⊥) → MissesAt d n p
misses_at d n p union row u r never t later shared met = never t (u t ∙ shared) (r t ∙ met)

pub tight_meets : (d : State) (n : ℕ) → Tight d n → Meets d n
tight_meets d n t = record { vertex = t.vertex; value = t.value; vertex_in = t.vertex_in; later = t.later; shared = t.shared; met = t.met }

pub meets_tight : (d : State) (n : ℕ) → n ≤ d.vertices → union_size d n ≡ n → Meets d n → Tight d n
meets_tight d n l e m = record { within = l; full = e; vertex = m.vertex; value = m.value; vertex_in = m.vertex_in; later = m.later; shared = m.shared; met = m.met }

pub union_none : (d : State) (t : ℕ) → in_union d 0 t ≡ false
union_none d t = false_from_ne_true (in_union d 0 t) (λ e.
    let g = any_gives (λ p. in_prefix d 0 p && in_domain d p t) d.vertices e in
    false≢true (sym (prefix_none d g.0) ∙ (and_parts (in_prefix d 0 g.0) (in_domain d g.0 t) g.2).0))

pub union_below : (d : State) (n t : ℕ) → in_union d n t ≡ true → t < d.values
union_below d n t e =
    let g = any_gives (λ p. in_prefix d n p && in_domain d p t) d.vertices e in
    in_below d g.0 t (and_parts (in_prefix d n g.0) (in_domain d g.0 t) g.2).1

-- the row of a union has as many bits as the union has values
pub union_count : (d : State) (n : ℕ) (row : List ℕ) → length row ≡ words_for d.values → ((t : ℕ) → has row t ≡ in_union d n t) → count (has row) (64 * length row) ≡ union_size d n
union_count d n row long bits =
    count_same (has row) (in_union d n) (64 * length row) (λ i l. bits i)
    ∙ count_bounds (in_union d n) (64 * length row) d.values (λ u e. omega (arith, union_below d n u e, long)) (union_below d n)

-- each domain from the place few on has more values than its place, counted from 1
abbrev pub Ample : State → ℕ → Type 0
Ample d few = (p : ℕ) → p < d.vertices → few ≤ rank (size_of d) d.vertices p → rank (size_of d) d.vertices p + 1 < size_of d p

-- a prefix past the first few has more values than members
pub beyond : (d : State) (few n : ℕ) → Ample d few → few < n → n ≤ d.vertices → n < union_size d n
beyond d few n ample past within = by (rank_onto (size_of d) d.vertices (d.values + 1) (n - 1) (λ q h. size_below d q) (omega arith))
  where
    by : (q : ℕ) × (q < d.vertices) × (rank (size_of d) d.vertices q ≡ n - 1) → n < union_size d n
    by f =
        let q = f.0 in
        let big = ample q f.1 (omega (arith, f.2, past)) in
        let inside : in_prefix d n q ≡ true = rw (lt-ltb q d.vertices f.1) (lt-ltb (rank (size_of d) d.vertices q) n (omega (arith, f.2, past))) in
        omega (arith, f.2, past, big, count_le (in_domain d q) (in_union d n) d.values d.values (omega arith) (λ t e. union_has d n q t f.1 inside e))

pub none_short : (d : State) (few : ℕ) → Ample d few → ((m : ℕ) → m ≤ few → Short d m → ⊥) → (n : ℕ) → Short d n → ⊥
none_short d few ample upto n s = by (cases_lt few n)
  where
    by : (few < n) ⊎ (n ≤ few) → ⊥
    by (inl l) = omega (arith, beyond d few n ample l s.within, s.few, s.within)
    by (inr l) = upto n l s

pub none_tight : (d : State) (few : ℕ) → Ample d few → ((m : ℕ) → m ≤ few → Tight d m → ⊥) → (n : ℕ) → Tight d n → ⊥
none_tight d few ample upto n s = by (cases_lt few n)
  where
    by : (few < n) ⊎ (n ≤ few) → ⊥
    by (inl l) = omega (arith, beyond d few n ample l s.within, s.full, s.within)
    by (inr l) = upto n l s

pub upto_more : (P : ℕ → Type 0) (k : ℕ) → ((m : ℕ) → m ≤ k → P m → ⊥) → (P (k + 1) → ⊥) → (m : ℕ) → m ≤ k + 1 → P m → ⊥
upto_more P k before last m l h = by (cases_lt k m)
  where
    by : (k < m) ⊎ (m ≤ k) → ⊥
    by (inl g) = let e : m ≡ k + 1 = omega arith in last (subst P e h)
    by (inr g) = before m g h

-- the union with the domain at the next place
pub union_next : (d : State) (order old new : List ℕ) (k : ℕ) → Ordered d order → k < length order → ((t : ℕ) → has old t ≡ in_union d k t)
    → ((t : ℕ) → has new t ≡ (has old t || in_domain d (get_or order k 0) t)) → (t : ℕ) → has new t ≡ in_union d (k + 1) t
union_next d order old new k o l u e t =
    let s : k + 1 ≡ suc k = omega arith in
    e t ∙ rw (u t) (sym (union_more d k (get_or order k 0) (o.vertex k l) (o.rank_is k l) t)) ∙ ap (λ n. in_union d n t) (sym s)

pub row_more : (d : State) (order old new row : List ℕ) (k : ℕ) → Ordered d order → k < length order → ((t : ℕ) → has old t ≡ in_union d k t)
    → ((t : ℕ) → has row t ≡ in_domain d (get_or order k 0) t) → ((t : ℕ) → has new t ≡ (has old t || has row t)) → (t : ℕ) → has new t ≡ in_union d (k + 1) t
row_more d order old new row k o l u r e = union_next d order old new k o l u (λ t. e t ∙ ap (λ (b : Bool). has old t || b) (r t))

pub no_tight : (d : State) (m : ℕ) → m ≤ 0 → Tight d m → ⊥
no_tight d m l t = let e : m ≡ 0 = omega arith in false≢true (sym (union_none d t.value) ∙ ap (λ n. in_union d n t.value) (sym e) ∙ t.shared)

-- The set and the row that an answer shows.
use Rattle.std.proofs.Common.{◌≡◌, ℕ, ◌+◌, ◌-◌, ◌<◌, ◌≤◌, zero, suc, Bool, true, false, ◌&&◌, ◌||◌, not, eqb, ltb, List, [], ◌∷◌, ◌++◌, length, get_or, set, take, length-append, refl, sym, ap, ◌∙◌, subst, arith, inl, inr, ◌⊎◌}
use Rattle.std.proofs.lemmas.List.{take_more, length-take-le, get_or-take, get_or_append_left}
use Rattle.std.proofs.lemmas.Bool.{cases_eq, and_parts, and_from, or_cases, or_left, or_right, eq-eqb, eqb-true, ne_eqb, ltb-true, false≢true}
use Rattle.bit_rows.specs.BitRows.{has}
use Rattle.domain_bits.specs.Removals.{State, in_domain, size_of}
use Rattle.all_different.specs.Ranks.{rank}
use Rattle.all_different.specs.Prefixes.{in_prefix, in_union, Tight}
use Rattle.all_different.specs.Pruning.{among, in_one_of, Lists, Shows, Prunes, PruneSays}
use Rattle.all_different.specs.Steps.{Begins, Finds, Ordered}
use Rattle.all_different.specs.declared.finding.Found.{Found}
use Rattle.all_different.specs.declared.finding.Found.TheVariants as found
use Rattle.all_different.specs.declared.Pruned.{Pruned}
use Rattle.all_different.specs.declared.Pruned.TheVariants.{Quiet, Hall, Fail}
use Rattle.all_different.proofs.Scanning.{no_tight}
use Rattle.all_different.proofs.Unions.{any_gives, any_from, same_tests, prefix_none, prefix_more}
use Rattle.all_different.proofs.Choosing.{short_refutes}
use Rattle.all_different.proofs.Cleared.{hall_keeps, hall_removes, cleared_follows}

pub same-eqb : (a b : ℕ) → eqb a b ≡ eqb b a
same-eqb a b = by (cases_eq a b)
  where
    by : (a ≡ b) ⊎ (a ≡ b → ⊥) → eqb a b ≡ eqb b a
    by (inl e) = eq-eqb a b e ∙ sym (eq-eqb b a (sym e))
    by (inr ne) = ne_eqb a b ne ∙ sym (ne_eqb b a (λ e. ne (sym e)))

among-append : (xs ys : List ℕ) (p : ℕ) → among (xs ++ ys) p ≡ (among xs p || among ys p)
among-append [] ys p = refl
among-append (x ∷ xs) ys p = rw (among-append xs ys p) (by (eqb x p) (among xs p) (among ys p))
  where
    by : (a b c : Bool) → (a || (b || c)) ≡ ((a || b) || c)
    by true b c = refl
    by false b c = refl

among_prefix : (d : State) (order : List ℕ) (n : ℕ) → Begins d n order → (m : ℕ) → m ≤ n → (p : ℕ) → among (take m order) p ≡ in_prefix d m p
among_prefix d order n b zero l p = sym (prefix_none d p)
among_prefix d order n b (suc k) l p =
    let s : k + 1 ≡ suc k = omega arith in
    let h : k < length order = omega (arith, b.within) in
    let q = get_or order k 0 in
    ap (λ m. among (take m order) p) (sym s) ∙ ap (λ xs. among xs p) (take_more order k 0 h) ∙ among-append (take k order) (q ∷ []) p
    ∙ rw (among_prefix d order n b k (omega arith) p, same-eqb q p) (or-false (in_prefix d k p) (eqb p q)) ∙ sym (prefix_more d k q (b.vertex k l) (b.rank_is k l) p)
  where
    or-false : (a b : Bool) → (a || (b || false)) ≡ (a || b)
    or-false true b = refl
    or-false false true = refl
    or-false false false = refl

pub lists_prefix : (d : State) (order : List ℕ) (n : ℕ) → Begins d n order → Lists d n (take n order)
lists_prefix d order n b = record { size = length-take-le n order b.within; vertices = among_prefix d order n b n (omega arith) }

pub shows_prefix : (d : State) (order : List ℕ) (n : ℕ) (row : List ℕ) → Begins d n order → ((t : ℕ) → has row t ≡ in_union d n t) → Shows d n (take n order) row
shows_prefix d order n row b bits =
    let l = lists_prefix d order n b in
    record { size = l.size; vertices = l.vertices; values = bits }

-- ---- the first places of an order

pub begins_ordered : (d : State) (order : List ℕ) (n : ℕ) → Ordered d order → n ≤ length order → Begins d n order
begins_ordered d order n o within = record { within = within; vertex = λ k l. o.vertex k (omega (arith, l, within)); rank_is = λ k l. o.rank_is k (omega (arith, l, within)) }

-- a list that agrees with it on all of its places begins as it does
begins_same : (d : State) (n : ℕ) (order more : List ℕ) → length order ≤ length more → ((k : ℕ) → k < length order → get_or more k 0 ≡ get_or order k 0) → Begins d n order → Begins d n more
begins_same d n order more long same b = record {
  within = omega (arith, long, b.within);
  vertex = λ k l. rw (same k (omega (arith, l, b.within))) (b.vertex k l);
  rank_is = λ k l. rw (same k (omega (arith, l, b.within))) (b.rank_is k l);
}

finds_same : (f : Found) (d : State) (order more union : List ℕ) → length order ≤ length more → ((k : ℕ) → k < length order → get_or more k 0 ≡ get_or order k 0)
    → Finds f d order union → Finds f d more union
finds_same found.Nothing d order more union long same h = h
finds_same (found.Short n) d order more union long same h = (h.0, begins_same d n order more long same h.1)
finds_same (found.Tight n) d order more union long same h = (h.0, h.1, begins_same d n order more long same h.2, h.3)

-- what the front of an order shows the whole order shows
pub finds_taken : (f : Found) (d : State) (few : ℕ) (order union : List ℕ) → few ≤ length order → Finds f d (take few order) union → Finds f d order union
finds_taken f d few order union within =
    finds_same f d (take few order) order union (omega (arith, length-take-le few order within))
    (λ k l. sym (get_or-take few order k 0 (omega (arith, l, length-take-le few order within))))

pub finds_front : (f : Found) (d : State) (order rest union : List ℕ) → Finds f d order union → Finds f d (order ++ rest) union
finds_front f d order rest union = finds_same f d order (order ++ rest) union (omega (arith, length-append order rest)) (λ k l. get_or_append_left order rest 0 k l)

-- the place after the last of the first vertices is how many they are
pub begins_last : (d : State) (n : ℕ) (order : List ℕ) → Begins d n order → 0 < n → rank (size_of d) d.vertices (get_or order (n - 1) 0) + 1 ≡ n
begins_last d n order b some = omega (arith, some, b.rank_is (n - 1) (omega (arith, some)))

-- what stands in the list is a vertex
pub listed_among : (xs : List ℕ) (k : ℕ) → k < length xs → among xs (get_or xs k 0) ≡ true
listed_among [] k l = absurd (omega arith)
listed_among (x ∷ xs) zero l = or_left (eqb x x) (among xs x) (eq-eqb x x refl)
listed_among (x ∷ xs) (suc k) l = or_right (eqb x (get_or xs k 0)) (among xs (get_or xs k 0)) (listed_among xs k (omega arith))

pub lists_inside : (d : State) (n : ℕ) (set : List ℕ) → Lists d n set → (k : ℕ) → k < length set → get_or set k 0 < d.vertices
lists_inside d n set l k within =
    let p = get_or set k 0 in
    ltb-true p d.vertices (and_parts (ltb p d.vertices) (ltb (rank (size_of d) d.vertices p) n) (sym (l.vertices p) ∙ listed_among set k within)).0

-- the union of a list of the first ones
pub one_of_gives : (d : State) (xs : List ℕ) (t : ℕ) → in_one_of d xs t ≡ true → (p : ℕ) × (among xs p ≡ true) × (in_domain d p t ≡ true)
one_of_gives d [] t e = absurd (false≢true e)
one_of_gives d (x ∷ xs) t e = by (or_cases (in_domain d x t) (in_one_of d xs t) e) (one_of_gives d xs t)
  where
    by : (in_domain d x t ≡ true) ⊎ (in_one_of d xs t ≡ true) → (in_one_of d xs t ≡ true → (p : ℕ) × (among xs p ≡ true) × (in_domain d p t ≡ true))
        → (p : ℕ) × ((eqb x p || among xs p) ≡ true) × (in_domain d p t ≡ true)
    by (inl here) more = (x, or_left (eqb x x) (among xs x) (eq-eqb x x refl), here)
    by (inr there) more = let r = more there in (r.0, or_right (eqb x r.0) (among xs r.0) r.1, r.2)

pub one_of_from : (d : State) (xs : List ℕ) (p t : ℕ) → among xs p ≡ true → in_domain d p t ≡ true → in_one_of d xs t ≡ true
one_of_from d [] p t e met = absurd (false≢true e)
one_of_from d (x ∷ xs) p t e met = by (or_cases (eqb x p) (among xs p) e) (λ there. one_of_from d xs p t there met)
  where
    by : (eqb x p ≡ true) ⊎ (among xs p ≡ true) → (among xs p ≡ true → in_one_of d xs t ≡ true) → (in_domain d x t || in_one_of d xs t) ≡ true
    by (inl same) more = or_left (in_domain d x t) (in_one_of d xs t) (subst (λ (q : ℕ). in_domain d q t ≡ true) (sym (eqb-true x p same)) met)
    by (inr there) more = or_right (in_domain d x t) (in_one_of d xs t) (more there)

pub shows_united : (d : State) (n : ℕ) (set row : List ℕ) → Lists d n set → ((t : ℕ) → has row t ≡ in_one_of d set t) → Shows d n set row
shows_united d n set row l bits = record {
  size = l.size;
  vertices = l.vertices;
  values = λ t. bits t ∙ same_tests (in_one_of d set t) (in_union d n t) (there t) (back t);
}
  where
    there : (t : ℕ) → in_one_of d set t ≡ true → in_union d n t ≡ true
    there t h =
        let g = one_of_gives d set t h in
        let inside : in_prefix d n g.0 ≡ true = sym (l.vertices g.0) ∙ g.1 in
        any_from (λ p. in_prefix d n p && in_domain d p t) d.vertices g.0 (ltb-true g.0 d.vertices (and_parts (ltb g.0 d.vertices) (ltb (rank (size_of d) d.vertices g.0) n) inside).0)
        (and_from (in_prefix d n g.0) (in_domain d g.0 t) inside g.2)

    back : (t : ℕ) → in_union d n t ≡ true → in_one_of d set t ≡ true
    back t h =
        let g = any_gives (λ p. in_prefix d n p && in_domain d p t) d.vertices h in
        let parts = and_parts (in_prefix d n g.0) (in_domain d g.0 t) g.2 in
        one_of_from d set g.0 t (l.vertices g.0 ∙ parts.0) parts.1

-- the place after the last vertex of a prefix is the prefix's size
pub last_place : (d : State) (order : List ℕ) (n : ℕ) → Ordered d order → n ≤ length order → (n ≡ 0 → ⊥) → rank (size_of d) d.vertices (get_or order (n - 1) 0) + 1 ≡ n
last_place d order n o within some = omega (arith, some, o.rank_is (n - 1) (omega (arith, some, within)))

-- what the answers mean for a search
pub prunes_says : (answer : Pruned) (old new : State) (set row : List ℕ) → Prunes answer old new set row → PruneSays answer old new
prunes_says Quiet old new set row h = (h.1, h.0)
prunes_says Hall old new set row h = rw h.4 (hall_keeps old h.0 h.2.here, hall_removes old h.0 h.2.here)
prunes_says Fail old new set row h = (h.3, short_refutes old h.0 h.1.here)

pub tight_some : (d : State) (n : ℕ) → Tight d n → 0 < n
tight_some d zero t = absurd (no_tight d 0 (omega arith) t)
tight_some d (suc n) t = omega arith

pub prunes_sizes : (answer : Pruned) (old new : State) (set row : List ℕ) → Prunes answer old new set row → (new.vertices ≡ old.vertices) × (new.values ≡ old.values)
prunes_sizes Quiet old new set row h = (ap (λ d. d.vertices) h.1, ap (λ d. d.values) h.1)
prunes_sizes Hall old new set row h =
    let f = cleared_follows old (λ p. not (in_prefix old h.0 p)) (in_union old h.0) old.vertices in
    (ap (λ d. d.vertices) h.4 ∙ f.vertices_same, ap (λ d. d.values) h.4 ∙ f.values_same)
prunes_sizes Fail old new set row h = (ap (λ d. d.vertices) h.3, ap (λ d. d.values) h.3)

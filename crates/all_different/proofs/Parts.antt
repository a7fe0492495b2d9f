-- The domains of some vertices, seen as a family of their own.
use Rattle.std.proofs.Common.{◌≡◌, ℕ, ◌+◌, ◌<◌, ◌≤◌, zero, suc, Bool, true, false, cond, eqb, ltb, ◌&&◌, ◌||◌, not, List, [], ◌∷◌, ◌++◌, length, get_or, map, take, refl, sym, ap, ◌∙◌, subst, arith, inl, inr, ◌⊎◌, append_assoc}
use Rattle.std.proofs.lemmas.List.{append-nil, map-append, length-take-le, take-append-le, take_all}
use Rattle.std.proofs.lemmas.Bool.{cases_eq, and_parts, and_from, or_cases, lt-ltb, ltb-true, eqb-true, eq-eqb, ne_eqb, false≢true}
use Rattle.graph_theory.specs.Neighbours.{members}
use Rattle.bit_rows.specs.BitRows.{has}
use Rattle.bit_rows.proofs.Passing.{count_same, members_same}
use Rattle.domain_bits.specs.Removals.{State, times, in_domain, size_of, at_vertex, filtered, intersected}
use Rattle.domain_bits.specs.Changes.{Single}
use Rattle.domain_bits.proofs.Keeping.{filtered_other, filtered_keeps}
use Rattle.all_different.specs.Ranks.{before, rank}
use Rattle.all_different.specs.Prefixes.{in_prefix, in_union}
use Rattle.all_different.specs.Choices.{Chooses}
use Rattle.all_different.specs.Pruning.{among, cleared, in_one_of, without_union, Lists, PruneSays}
use Rattle.all_different.specs.Members.{place_of, part, AreMembers, cleared_at, without_union_of, ListsOf, ShowsOf, PrunesOf}
use Rattle.all_different.specs.Steps.{Begins}
use Rattle.all_different.specs.declared.Pruned.{Pruned}
use Rattle.all_different.specs.declared.Pruned.TheVariants.{Quiet, Hall, Fail}
use Rattle.all_different.proofs.Unions.{any_gives, any_from, same_tests}
use Rattle.all_different.proofs.Choosing.{short_refutes}
use Rattle.all_different.proofs.Cleared.{Follows, cleared_domain, cleared_order, intersected_filtered, hall_keeps, hall_removes}
use Rattle.all_different.proofs.Showing.{listed_among, lists_inside, lists_prefix, one_of_gives, one_of_from}

-- ---- places

-- each number stands after lesser ones
abbrev pub Rising : List ℕ → Type 0
Rising ms = (i j : ℕ) → i < j → j < length ms → get_or ms i 0 < get_or ms j 0

rising_tail : (x : ℕ) (xs : List ℕ) → Rising (x ∷ xs) → Rising xs
rising_tail x xs r i j l h = r (suc i) (suc j) (omega arith) (omega arith)

-- there are no more members than vertices
pub few_members : (v : ℕ) (ms : List ℕ) → AreMembers v ms → length ms ≤ v
few_members v ms a = by (length ms) refl
  where
    large : (i : ℕ) → i < length ms → i ≤ get_or ms i 0
    large zero l = omega arith
    large (suc i) l = omega (arith, large i (omega arith), a.rising i (suc i) (omega arith) l)

    by : (n : ℕ) → length ms ≡ n → length ms ≤ v
    by zero e = omega (arith, e)
    by (suc n) e = omega (arith, e, large n (omega (arith, e)), a.inside n (omega (arith, e)))

-- a member stands at its place
pub place_is : (ms : List ℕ) → Rising ms → (i : ℕ) → i < length ms → place_of ms (get_or ms i 0) ≡ i
place_is [] r i l = absurd (omega arith)
place_is (x ∷ xs) r zero l = rw (eq-eqb x x refl) refl
place_is (x ∷ xs) r (suc i) l =
    rw (ne_eqb x (get_or xs i 0) (λ e. omega (arith, e, r 0 (suc i) (omega arith) l)))
    (ap (λ (n : ℕ). suc n) (place_is xs (rising_tail x xs r) i (omega arith)))

pub place_gives : (ms : List ℕ) (p : ℕ) → place_of ms p < length ms → get_or ms (place_of ms p) 0 ≡ p
place_gives [] p l = absurd (omega arith)
place_gives (x ∷ xs) p l = by (eqb x p) refl l (place_gives xs p)
  where
    by : (b : Bool) → eqb x p ≡ b → cond b 0 (suc (place_of xs p)) < suc (length xs) → (place_of xs p < length xs → get_or xs (place_of xs p) 0 ≡ p)
        → get_or (x ∷ xs) (cond b 0 (suc (place_of xs p))) 0 ≡ p
    by true e h more = eqb-true x p e
    by false e h more = more (omega (arith, h))

-- what isn't there has the place past the last
pub place_past : (ms : List ℕ) (p : ℕ) → among ms p ≡ false → place_of ms p ≡ length ms
place_past [] p e = refl
place_past (x ∷ xs) p e = by (eqb x p) (among xs p) e (place_past xs p)
  where
    by : (a b : Bool) → (a || b) ≡ false → (b ≡ false → place_of xs p ≡ length xs) → cond a 0 (suc (place_of xs p)) ≡ suc (length xs)
    by true b e more = absurd (false≢true (sym e))
    by false b e more = ap (λ (n : ℕ). suc n) (more e)

pub listed_place : (xs : List ℕ) (p : ℕ) → among xs p ≡ true → (k : ℕ) × (k < length xs) × (get_or xs k 0 ≡ p)
listed_place [] p e = absurd (false≢true e)
listed_place (x ∷ xs) p e = by (or_cases (eqb x p) (among xs p) e) (listed_place xs p)
  where
    by : (eqb x p ≡ true) ⊎ (among xs p ≡ true) → (among xs p ≡ true → (k : ℕ) × (k < length xs) × (get_or xs k 0 ≡ p))
        → (k : ℕ) × (k < suc (length xs)) × (get_or (x ∷ xs) k 0 ≡ p)
    by (inl here) more = (0, omega arith, eqb-true x p here)
    by (inr there) more = let r = more there in (suc r.0, omega (arith, r.1), r.2)

-- what is there has a place
pub listed_member : (ms : List ℕ) → Rising ms → (p : ℕ) → among ms p ≡ true → (place_of ms p < length ms) × (get_or ms (place_of ms p) 0 ≡ p)
listed_member ms r p e =
    let k = listed_place ms p e in
    let here : place_of ms p ≡ k.0 = ap (place_of ms) (sym k.2) ∙ place_is ms r k.0 k.1 in
    let within : place_of ms p < length ms = omega (arith, here, k.1) in
    (within, place_gives ms p within)

-- a vertex has a member's place where it is the member
place_test : (ms : List ℕ) → Rising ms → (i : ℕ) → i < length ms → (q : ℕ) → eqb (place_of ms q) i ≡ eqb q (get_or ms i 0)
place_test ms r i l q = by (cases_eq q (get_or ms i 0))
  where
    by : (q ≡ get_or ms i 0) ⊎ (q ≡ get_or ms i 0 → ⊥) → eqb (place_of ms q) i ≡ eqb q (get_or ms i 0)
    by (inl e) = eq-eqb (place_of ms q) i (ap (place_of ms) e ∙ place_is ms r i l) ∙ sym (eq-eqb q (get_or ms i 0) e)
    by (inr ne) = ne_eqb (place_of ms q) i (λ e. ne (sym (place_gives ms q (omega (arith, e, l))) ∙ ap (λ (k : ℕ). get_or ms k 0) e)) ∙ sym (ne_eqb q (get_or ms i 0) ne)

-- ---- domains

abbrev pub renamed : List ℕ → List (ℕ × ℕ) → List (ℕ × ℕ)
renamed ms xs = map (λ x. (place_of ms x.0, x.1)) xs

part_times : (ms : List ℕ) → Rising ms → (i : ℕ) → i < length ms → (xs : List (ℕ × ℕ)) (t : ℕ) → times (renamed ms xs) i t ≡ times xs (get_or ms i 0) t
part_times ms r i l [] t = refl
part_times ms r i l (x ∷ xs) t = rw (place_test ms r i l x.0, part_times ms r i l xs t) refl

-- the domain at a place is that of the member
pub part_domain : (d : State) (ms : List ℕ) → Rising ms → (i : ℕ) → i < length ms → (t : ℕ) → in_domain (part d ms) i t ≡ in_domain d (get_or ms i 0) t
part_domain d ms r i l t = ap (λ (n : ℕ). ltb t d.values && eqb n 0) (part_times ms r i l d.removed t)

pub part_size : (d : State) (ms : List ℕ) → Rising ms → (i : ℕ) → i < length ms → size_of (part d ms) i ≡ size_of d (get_or ms i 0)
part_size d ms r i l = count_same (in_domain (part d ms) i) (in_domain d (get_or ms i 0)) d.values (λ t h. part_domain d ms r i l t)

pub part_single : (d : State) (ms : List ℕ) → Rising ms → (i : ℕ) → i < length ms → (t : ℕ) → Single d (get_or ms i 0) t → Single (part d ms) i t
part_single d ms r i l t s = record { here = part_domain d ms r i l t ∙ s.here; only = λ u h. s.only u (sym (part_domain d ms r i l u) ∙ h) }

pub single_part : (d : State) (ms : List ℕ) → Rising ms → (i : ℕ) → i < length ms → (t : ℕ) → Single (part d ms) i t → Single d (get_or ms i 0) t
single_part d ms r i l t s = record { here = sym (part_domain d ms r i l t) ∙ s.here; only = λ u h. s.only u (part_domain d ms r i l u ∙ h) }

renamed_vertex : (ms : List ℕ) (p : ℕ) (us : List ℕ) → renamed ms (at_vertex p us) ≡ at_vertex (place_of ms p) us
renamed_vertex ms p [] = refl
renamed_vertex ms p (u ∷ us) = ap (λ xs. (place_of ms p, u) ∷ xs) (renamed_vertex ms p us)

-- what leaves the domain of a member leaves that at its place
pub part_filtered : (d : State) (ms : List ℕ) → Rising ms → (i : ℕ) → i < length ms → (keeps : ℕ → Bool)
    → part (filtered d (get_or ms i 0) keeps) ms ≡ filtered (part d ms) i keeps
part_filtered d ms r i l keeps =
    ap (λ xs. record { vertices = length ms; values = d.values; removed = xs })
    (map-append (λ x. (place_of ms x.0, x.1)) d.removed (at_vertex (get_or ms i 0) gone)
    ∙ ap (λ xs. renamed ms d.removed ++ xs)
    (renamed_vertex ms (get_or ms i 0) gone ∙ ap (λ (k : ℕ). at_vertex k gone) (place_is ms r i l) ∙ ap (at_vertex i) same))
  where
    gone : List ℕ
    gone = members (λ u. in_domain d (get_or ms i 0) u && not (keeps u)) d.values

    same : gone ≡ members (λ u. in_domain (part d ms) i u && not (keeps u)) d.values
    same = members_same (λ u. in_domain d (get_or ms i 0) u && not (keeps u)) (λ u. in_domain (part d ms) i u && not (keeps u)) d.values
        (λ u h. ap (λ b. b && not (keeps u)) (sym (part_domain d ms r i l u)))

-- ---- clearing

pub part_cleared : (d : State) (ms : List ℕ) → Rising ms → (from gone : ℕ → Bool) (n : ℕ) → n ≤ length ms → part (cleared_at d ms from gone n) ms ≡ cleared (part d ms) from gone n
part_cleared d ms r from gone zero l = refl
part_cleared d ms r from gone (suc n) l = by (from n) (part_cleared d ms r from gone n (omega arith))
  where
    by : (b : Bool) → part (cleared_at d ms from gone n) ms ≡ cleared (part d ms) from gone n
        → part (cond b (filtered (cleared_at d ms from gone n) (get_or ms n 0) (λ u. not (gone u))) (cleared_at d ms from gone n)) ms
        ≡ cond b (filtered (cleared (part d ms) from gone n) n (λ u. not (gone u))) (cleared (part d ms) from gone n)
    by false e = e
    by true e = part_filtered (cleared_at d ms from gone n) ms r n (omega arith) (λ u. not (gone u)) ∙ ap (λ s. filtered s n (λ u. not (gone u))) e

pub part_without : (d : State) (ms : List ℕ) → Rising ms → (n : ℕ) → part (without_union_of d ms n) ms ≡ without_union (part d ms) n
part_without d ms r n = part_cleared d ms r (λ i. not (in_prefix (part d ms) n i)) (in_union (part d ms) n) (length ms) (omega arith)

pub cleared_at_follows : (d : State) (ms : List ℕ) (from gone : ℕ → Bool) (n : ℕ) → Follows d (cleared_at d ms from gone n)
cleared_at_follows d ms from gone zero = record { vertices_same = refl; values_same = refl; rest = []; front = sym (append-nil d.removed) }
cleared_at_follows d ms from gone (suc n) = by (from n) (cleared_at_follows d ms from gone n)
  where
    by : (b : Bool) → Follows d (cleared_at d ms from gone n)
        → Follows d (cond b (filtered (cleared_at d ms from gone n) (get_or ms n 0) (λ u. not (gone u))) (cleared_at d ms from gone n))
    by false f = f
    by true f = let k = filtered_keeps (cleared_at d ms from gone n) (get_or ms n 0) (λ u. not (gone u)) in record {
      vertices_same = f.vertices_same;
      values_same = f.values_same;
      rest = f.rest ++ k.shrinks.rest;
      front = k.shrinks.front ∙ ap (λ xs. xs ++ k.shrinks.rest) f.front ∙ append_assoc d.removed f.rest k.shrinks.rest;
    }

-- no other vertex loses a value
pub cleared_at_other : (d : State) (ms : List ℕ) (from gone : ℕ → Bool) (n p t : ℕ) → n ≤ length ms → among ms p ≡ false
    → in_domain (cleared_at d ms from gone n) p t ≡ in_domain d p t
cleared_at_other d ms from gone zero p t l out = refl
cleared_at_other d ms from gone (suc n) p t l out = by (from n) (cleared_at_other d ms from gone n p t (omega arith) out)
  where
    other : p ≡ get_or ms n 0 → ⊥
    other e = false≢true (sym out ∙ ap (among ms) e ∙ listed_among ms n (omega arith))

    by : (b : Bool) → in_domain (cleared_at d ms from gone n) p t ≡ in_domain d p t
        → in_domain (cond b (filtered (cleared_at d ms from gone n) (get_or ms n 0) (λ u. not (gone u))) (cleared_at d ms from gone n)) p t ≡ in_domain d p t
    by false e = e
    by true e = filtered_other (cleared_at d ms from gone n) (get_or ms n 0) (λ u. not (gone u)) p t other ∙ e

-- one member more is cleared
pub cleared_at_more : (d now later : State) (ms row : List ℕ) (last n i : ℕ) → Rising ms → last < length ms → i < length ms
    → n ≡ rank (size_of (part d ms)) (length ms) last + 1
    → now ≡ cleared_at d ms (λ k. not (in_prefix (part d ms) n k)) (in_union (part d ms) n) i
    → ((t : ℕ) → t < d.values → has row t ≡ not (in_union (part d ms) n t))
    → later ≡ cond (before (size_of (part now ms)) last i) (intersected now (get_or ms i 0) row) now
    → later ≡ cleared_at d ms (λ k. not (in_prefix (part d ms) n k)) (in_union (part d ms) n) (suc i)
cleared_at_more d now later ms row last n i r ll li n-is now-is keep later-is =
    later-is ∙ ap (λ b. cond b (intersected now (get_or ms i 0) row) now) (cleared_order (part d ms) (part now ms) last n i ll li n-is after)
    ∙ rw now-is (by (not (in_prefix (part d ms) n i)))
  where
    D : State
    D = cleared_at d ms (λ k. not (in_prefix (part d ms) n k)) (in_union (part d ms) n) i

    after : part now ms ≡ cleared (part d ms) (λ k. not (in_prefix (part d ms) n k)) (in_union (part d ms) n) i
    after = ap (λ s. part s ms) now-is ∙ part_cleared d ms r (λ k. not (in_prefix (part d ms) n k)) (in_union (part d ms) n) i (omega arith)

    inside : (t : ℕ) → t < D.values → has row t ≡ not (in_union (part d ms) n t)
    inside t l = keep t (subst (λ v. t < v) (cleared_at_follows d ms (λ k. not (in_prefix (part d ms) n k)) (in_union (part d ms) n) i).values_same l)

    by : (b : Bool) → cond b (intersected D (get_or ms i 0) row) D ≡ cond b (filtered D (get_or ms i 0) (λ u. not (in_union (part d ms) n u))) D
    by true = intersected_filtered D (get_or ms i 0) row (λ u. not (in_union (part d ms) n u)) inside
    by false = refl

-- what is left of any domain
pub without_union_of_domain : (d : State) (ms : List ℕ) → Rising ms → (n p t : ℕ)
    → in_domain (without_union_of d ms n) p t ≡ (in_domain d p t && not (among ms p && (not (in_prefix (part d ms) n (place_of ms p)) && in_union (part d ms) n t)))
without_union_of_domain d ms r n p t = by (among ms p) refl
  where
    P : State
    P = part d ms

    W : State
    W = without_union_of d ms n

    kept : (b : Bool) → b ≡ (b && true)
    kept true = refl
    kept false = refl

    by : (b : Bool) → among ms p ≡ b → in_domain W p t ≡ (in_domain d p t && not (b && (not (in_prefix P n (place_of ms p)) && in_union P n t)))
    by false e = cleared_at_other d ms (λ i. not (in_prefix P n i)) (in_union P n) (length ms) p t (omega arith) e ∙ kept (in_domain d p t)
    by true e =
        let m = listed_member ms r p e in
        let i = place_of ms p in
        let own : in_domain P i t ≡ in_domain d p t = part_domain d ms r i m.0 t ∙ ap (λ (q : ℕ). in_domain d q t) m.1 in
        ap (λ (q : ℕ). in_domain W q t) (sym m.1) ∙ sym (part_domain W ms r i m.0 t) ∙ ap (λ s. in_domain s i t) (part_without d ms r n)
        ∙ cleared_domain P (λ q. not (in_prefix P n q)) (in_union P n) (length ms) i t ∙ rw (own, lt-ltb i (length ms) m.0) refl

-- ---- what is told

-- a list of places, with each place's member in its stead
pub told_lists : (d : State) (ms : List ℕ) → Rising ms → (n : ℕ) (places set : List ℕ) → Lists (part d ms) n places → length set ≡ n
    → ((k : ℕ) → k < n → get_or set k 0 ≡ get_or ms (get_or places k 0) 0) → ListsOf d ms n set
told_lists d ms r n places set l long named = record { size = long; vertices = λ p. same_tests (among set p) (in_prefix (part d ms) n (place_of ms p)) (there p) (back p) }
  where
    there : (p : ℕ) → among set p ≡ true → in_prefix (part d ms) n (place_of ms p) ≡ true
    there p e =
        let k = listed_place set p e in
        let within : k.0 < length places = omega (arith, k.1, long, l.size) in
        let i = get_or places k.0 0 in
        let here : place_of ms p ≡ i = ap (place_of ms) (sym k.2 ∙ named k.0 (omega (arith, k.1, long))) ∙ place_is ms r i (lists_inside (part d ms) n places l k.0 within) in
        ap (in_prefix (part d ms) n) here ∙ sym (l.vertices i) ∙ listed_among places k.0 within

    back : (p : ℕ) → in_prefix (part d ms) n (place_of ms p) ≡ true → among set p ≡ true
    back p e =
        let k = listed_place places (place_of ms p) (l.vertices (place_of ms p) ∙ e) in
        let within : k.0 < length set = omega (arith, k.1, long, l.size) in
        let inside : place_of ms p < length ms = ltb-true (place_of ms p) (length ms) (and_parts (ltb (place_of ms p) (length ms)) _ e).0 in
        let here : get_or set k.0 0 ≡ p = named k.0 (omega (arith, within, long)) ∙ ap (λ (i : ℕ). get_or ms i 0) k.2 ∙ place_gives ms p inside in
        ap (among set) (sym here) ∙ listed_among set k.0 within

-- the first members, from the first places of an order, for each of which its member was written
pub lists_named : (d : State) (ms : List ℕ) → Rising ms → (n : ℕ) (order named rest : List ℕ) → Begins (part d ms) n order → length named ≡ length (take n order)
    → ((k : ℕ) → k < length (take n order) → get_or named k 0 ≡ get_or ms (get_or (take n order) k 0) 0) → ListsOf d ms n (take n (named ++ rest))
lists_named d ms r n order named rest b long are =
    let size : length (take n order) ≡ n = length-take-le n order b.within in
    let front : take n (named ++ rest) ≡ named = take-append-le n named rest (omega (arith, long, size)) ∙ take_all n named (omega (arith, long, size)) in
    rw front (told_lists d ms r n (take n order) named (lists_prefix (part d ms) order n b) (long ∙ size) (λ k l. are k (omega (arith, l, size))))

pub shows_named : (d : State) (ms : List ℕ) → Rising ms → (n : ℕ) (order named rest row : List ℕ) → Begins (part d ms) n order → length named ≡ length (take n order)
    → ((k : ℕ) → k < length (take n order) → get_or named k 0 ≡ get_or ms (get_or (take n order) k 0) 0) → ((t : ℕ) → has row t ≡ in_union (part d ms) n t)
    → ShowsOf d ms n (take n (named ++ rest)) row
shows_named d ms r n order named rest row b long are bits =
    let l = lists_named d ms r n order named rest b long are in
    record { size = l.size; vertices = l.vertices; values = bits }

-- what the list holds are vertices
pub lists_of_inside : (d : State) (ms : List ℕ) (n : ℕ) (set : List ℕ) → AreMembers d.vertices ms → ListsOf d ms n set → (k : ℕ) → k < length set → get_or set k 0 < d.vertices
lists_of_inside d ms n set a l k within =
    let p = get_or set k 0 in
    let inside : place_of ms p < length ms = ltb-true (place_of ms p) (length ms) (and_parts (ltb (place_of ms p) (length ms)) _ (sym (l.vertices p) ∙ listed_among set k within)).0 in
    omega (arith, place_gives ms p inside, a.inside (place_of ms p) inside)

-- the union of a list of the first members
pub shows_of_united : (d : State) (ms : List ℕ) → Rising ms → (n : ℕ) (set row : List ℕ) → ListsOf d ms n set → ((t : ℕ) → has row t ≡ in_one_of d set t) → ShowsOf d ms n set row
shows_of_united d ms r n set row l bits = record {
  size = l.size;
  vertices = l.vertices;
  values = λ t. bits t ∙ same_tests (in_one_of d set t) (in_union (part d ms) n t) (there t) (back t);
}
  where
    there : (t : ℕ) → in_one_of d set t ≡ true → in_union (part d ms) n t ≡ true
    there t h =
        let g = one_of_gives d set t h in
        let i = place_of ms g.0 in
        let first : in_prefix (part d ms) n i ≡ true = sym (l.vertices g.0) ∙ g.1 in
        let inside : i < length ms = ltb-true i (length ms) (and_parts (ltb i (length ms)) _ first).0 in
        any_from (λ k. in_prefix (part d ms) n k && in_domain (part d ms) k t) (length ms) i inside
        (and_from (in_prefix (part d ms) n i) (in_domain (part d ms) i t) first (part_domain d ms r i inside t ∙ ap (λ (q : ℕ). in_domain d q t) (place_gives ms g.0 inside) ∙ g.2))

    back : (t : ℕ) → in_union (part d ms) n t ≡ true → in_one_of d set t ≡ true
    back t h =
        let g = any_gives (λ k. in_prefix (part d ms) n k && in_domain (part d ms) k t) (length ms) h in
        let parts = and_parts (in_prefix (part d ms) n g.0) (in_domain (part d ms) g.0 t) g.2 in
        one_of_from d set (get_or ms g.0 0) t (l.vertices (get_or ms g.0 0) ∙ ap (in_prefix (part d ms) n) (place_is ms r g.0 g.1) ∙ parts.0) (sym (part_domain d ms r g.0 g.1 t) ∙ parts.1)

-- ---- what the answers mean

pub prunes_of_says : (answer : Pruned) (old new : State) (ms : List ℕ) → Rising ms → (set row : List ℕ) → PrunesOf ms answer old new set row → PruneSays answer (part old ms) (part new ms)
prunes_of_says Quiet old new ms r set row h = (ap (λ d. part d ms) h.1, h.0)
prunes_of_says Hall old new ms r set row h =
    subst (PruneSays Hall (part old ms)) (sym (ap (λ d. part d ms) h.4 ∙ part_without old ms r h.0)) (hall_keeps (part old ms) h.0 h.2.here, hall_removes (part old ms) h.0 h.2.here)
prunes_of_says Fail old new ms r set row h = (ap (λ d. part d ms) h.3, short_refutes (part old ms) h.0 h.1.here)

pub prunes_of_others : (answer : Pruned) (old new : State) (ms set row : List ℕ) → PrunesOf ms answer old new set row
    → (p t : ℕ) → among ms p ≡ false → in_domain new p t ≡ in_domain old p t
prunes_of_others Quiet old new ms set row h p t out = ap (λ d. in_domain d p t) h.1
prunes_of_others Hall old new ms set row h p t out =
    ap (λ d. in_domain d p t) h.4
    ∙ cleared_at_other old ms (λ i. not (in_prefix (part old ms) h.0 i)) (in_union (part old ms) h.0) (length ms) p t (omega arith) out
prunes_of_others Fail old new ms set row h p t out = ap (λ d. in_domain d p t) h.3

pub prunes_of_sizes : (answer : Pruned) (old new : State) (ms set row : List ℕ) → PrunesOf ms answer old new set row → (new.vertices ≡ old.vertices) × (new.values ≡ old.values)
prunes_of_sizes Quiet old new ms set row h = (ap (λ d. d.vertices) h.1, ap (λ d. d.values) h.1)
prunes_of_sizes Hall old new ms set row h =
    let f = cleared_at_follows old ms (λ i. not (in_prefix (part old ms) h.0 i)) (in_union (part old ms) h.0) (length ms) in
    (ap (λ d. d.vertices) h.4 ∙ f.vertices_same, ap (λ d. d.values) h.4 ∙ f.values_same)
prunes_of_sizes Fail old new ms set row h = (ap (λ d. d.vertices) h.3, ap (λ d. d.values) h.3)

-- a choice that is apart on the members chooses from their part
pub part_chooses : (d : State) (ms : List ℕ) (m : ℕ → ℕ) → Rising ms → ((p : ℕ) → among ms p ≡ true → in_domain d p (m p) ≡ true)
    → ((p q : ℕ) → among ms p ≡ true → among ms q ≡ true → m p ≡ m q → p ≡ q) → Chooses (part d ms) (λ i. m (get_or ms i 0))
part_chooses d ms m r inside apart = record {
  inside = λ i l. part_domain d ms r i l (m (get_or ms i 0)) ∙ inside (get_or ms i 0) (listed_among ms i l);
  distinct = λ i j li lj e.
      sym (place_is ms r i li) ∙ ap (place_of ms) (apart (get_or ms i 0) (get_or ms j 0) (listed_among ms i li) (listed_among ms j lj) e) ∙ place_is ms r j lj;
}

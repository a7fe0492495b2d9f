-- What the lines force: each refused value would make the sum too small.
use Rattle.std.proofs.Common.{◌≡◌, ℕ, ◌+◌, ◌*◌, ◌≤◌, ◌<◌, ◌==◌, Bool, true, false, ◌&&◌, ◌||◌, not, is_some, Option, Some, None, refl, sym, ap, subst, ◌∙◌, arith, inl, inr, ◌⊎◌}
use Rattle.std.proofs.lemmas.Int.{ints}
use Rattle.std.proofs.lemmas.Bool.{cases_lt, cases_eq, eqb-true, not_from_false, ne_eqb, and_from, or_parts}
use native.Mathlib.Nat.{add-mul, mul-add, mul-le-mul_right}
use Rattle.std.proofs.Math.Nat.{mul_comm}
use Rattle.graph_theory.specs.Graph.{size, edge}
use Rattle.graph_theory.specs.Embedding.{Problem, is_injective, differ_in, differ, Compatible}
use Rattle.graph_theory.specs.Asked.{asked_shared}
use Rattle.graph_theory.specs.Blocks.{in_block}
use Rattle.graph_theory.specs.declared.embedding.Maps.{Maps}
use Rattle.graph_theory.specs.declared.embedding.Maps.TheVariants.{Injective, Local, Any}
use Rattle.graph_theory.specs.Neighbours.{is_neighbour, degree, common}
use Rattle.proof_theory.specs.Forms.{Form, Holds, Rises}
use Rattle.proof_theory.specs.Rules.{sum_of, times_of}
use Rattle.proof_theory.specs.Slack.{Setting, conflict, after}
use Rattle.proof_theory.proofs.Sorting.{Rises-sorted}
use Rattle.pb_terms.proofs.Ruled.{Rises-scaled}
use Rattle.encoding_theory.specs.Variables.{variable}
use Rattle.encoding_theory.specs.Pairs.{is_match, is_open, is_compatible, is_linked}
use Rattle.encoding_theory.specs.Encoding.{every, at_most, at_most_in, at_most_target, pair_form}
use Rattle.encoding_theory.proofs.PairTests.{open_all, compatible_from, compatible_injective}
use Rattle.encoding_theory.proofs.Counting.{count_some, count_one}
use Rattle.forcing_theory.specs.Units.{Follows}
use Rattle.forcing_theory.proofs.Uniting.{unit}
use Rattle.explanation_theory.specs.Reasons.{ForcesByEdges}
use Rattle.pair_line_theory.specs.Rows.{is_paired, is_shared, beside_form, needs_block, near_form, spread_form, weight, joined_form, apart_form}
use Rattle.pair_line_theory.specs.Laws.{IsPlace, HasBoth, AreFree, Shares, ForcesShared, RowForces, EdgeForces}
use Rattle.pair_line_theory.proofs.Totals.{one_if, count_both_le, count_but_one}
use Rattle.pair_line_theory.proofs.Values.{IsWorth, worth_sum, worth_times, scaled, rises_where, worth_at_most, worth_block, worth_target, worth_pair, values_of, values_where, held_at, held_where}
use Rattle.pair_line_theory.proofs.AskedShares.{asked_laws}
use Rattle.pair_line_theory.proofs.Around.{times_around, around_says, around_at_most, around_few}

-- What does not share enough with p at t, or is not compatible, by injective maps.
refused_by : (q : Problem) (p t r u : ℕ) → is_injective q.maps ≡ true → (Shares q p t r u → ⊥) → (is_compatible q p t r u ≡ false) ⊎ (common q.target t u < common q.pattern p r)
refused_by q p t r u inj refused = by (is_compatible q p t r u) refl (cases_lt (common q.target t u) (common q.pattern p r))
  where
    by : (b : Bool) → is_compatible q p t r u ≡ b → (common q.target t u < common q.pattern p r) ⊎ (common q.pattern p r ≤ common q.target t u)
        → (is_compatible q p t r u ≡ false) ⊎ (common q.target t u < common q.pattern p r)
    by false e shared = inl e
    by true e (inl few) = inr few
    by true e (inr enough) = absurd (refused (record {
      pair = compatible_injective q p t r u inj e;
      shared = subst (λ (n : ℕ). n ≤ common q.target t u) (sym ((asked_laws q).counted p r inj)) enough;
    }))

-- What does not go together does not pass the test, or it is the same place.
refused_how : (q : Problem) (p t r u : ℕ) → (Compatible q p t r u → ⊥) → (is_compatible q p t r u ≡ false) ⊎ (u ≡ t)
refused_how q p t r u refused = by (is_compatible q p t r u) refl (cases_eq u t)
  where
    by : (b : Bool) → is_compatible q p t r u ≡ b → (u ≡ t) ⊎ (u ≡ t → ⊥) → (is_compatible q p t r u ≡ false) ⊎ (u ≡ t)
    by false e place = inl e
    by true e (inl same) = inr same
    by true e (inr other) = absurd (refused (compatible_from q p t r u e (λ _ same. other (sym same))))

-- Where no block is needed it does not pass the test.
incompatible : (q : Problem) (p t r u : ℕ) → needs_block q p r ≡ false → (Compatible q p t r u → ⊥) → is_compatible q p t r u ≡ false
incompatible q p t r u unneeded refused = by (is_compatible q p t r u) refl (is_injective q.maps) refl
  where
    by : (b : Bool) → is_compatible q p t r u ≡ b → (i : Bool) → is_injective q.maps ≡ i → is_compatible q p t r u ≡ false
    by false e i is = e
    by true e true is = absurd (refused (compatible_injective q p t r u is e))
    by true e false is =
        let meet : differ q p r ≡ false = sym (ap (λ (i : Bool). not i && differ q p r) is) ∙ unneeded in
        absurd (refused (compatible_from q p t r u e (λ two. clash (differ q p r) two meet)))
      where
        clash : (b : Bool) → b ≡ true → b ≡ false → t ≡ u → ⊥
        clash b e f same = let bad : true ≡ false = sym e ∙ f in cc

-- A form that holds only where the value is not taken forces this.
pub forces_out : (s : Setting) (f : Form) (v : ℕ) → Rises 0 f.terms → ((a : ℕ → Bool) → Follows s a → Holds f a → a v ≡ true → ⊥) → (conflict s f ≡ true) ⊎ (after s f v ≡ Some false)
forces_out s f v rises never = unit s f v false (record { rises = rises; there = λ a follows holds. by a follows holds (a v) refl })
  where
    by : (a : ℕ → Bool) → Follows s a → Holds f a → (b : Bool) → a v ≡ b → a v ≡ false
    by a follows holds true e = absurd (never a follows holds e)
    by a follows holds false e = e

-- ---- no shared neighbours asked for

beside_never : (q : Problem) (a : ℕ → Bool) (p t r u : ℕ) → u < size q.target → is_compatible q p t r u ≡ false → a (variable q p t) ≡ true → Holds (beside_form q p t r) a → a (variable q r u) ≡ true → ⊥
beside_never q a p t r u u_in refused here holds is =
    let w = (worth_sum a (pair_form q p r t) (at_most q r) (one_if (a (variable q p t))) (values_where q a (is_compatible q p t r) r) (values_of q a r) 0 (worth_pair q a p r t) (worth_at_most q a r)).worth in
    let one : one_if (a (variable q p t)) ≡ 1 = ap one_if here in
    let less = count_but_one (is_compatible q p t r) (λ i. a (variable q r i)) (size q.target) u u_in is in
    let none : one_if (is_compatible q p t r u) ≡ 0 = ap one_if refused in
    let reached = holds.reached in
    omega (arith, ints)

edges_beside : (q : Problem) (p t r : ℕ) → IsPlace q p t r → needs_block q p r ≡ false → ForcesByEdges q (beside_form q p t r) p t r
edges_beside q p t r place unneeded s here u u_in refused = forces_out s (beside_form q p t r) (variable q r u) (Rises-sorted _)
    (λ a follows holds is. beside_never q a p t r u u_in (incompatible q p t r u unneeded refused) (follows.same (variable q p t) true here) holds is)

-- What edges refuse is all that is refused where no shared neighbour is asked for.
no_share : (q : Problem) (p t r u : ℕ) → asked_shared q p r ≡ 0 → (Shares q p t r u → ⊥) → Compatible q p t r u → ⊥
no_share q p t r u none refused pair = refused (record { pair = pair; shared = omega (arith, none) })

forces_beside : (q : Problem) (p t r : ℕ) → IsPlace q p t r → asked_shared q p r ≡ 0 → needs_block q p r ≡ false → ForcesShared q (beside_form q p t r) p t r
forces_beside q p t r place none unneeded s here u u_in refused = edges_beside q p t r place unneeded s here u u_in (no_share q p t r u none refused)

-- ---- with the line of a block

-- Two vertices of the block at one place are counted there.
two_held : (q : Problem) (b : Option ℕ) (a : ℕ → Bool) (p t r : ℕ) → IsPlace q p t r → HasBoth q b p r → a (variable q p t) ≡ true → a (variable q r t) ≡ true
    → 2 ≤ held_where q a (in_block q b) t
two_held q b a p t r place both here is = by (cases_lt 1 (held_where q a (in_block q b) t))
  where
    by : (1 < held_where q a (in_block q b) t) ⊎ (held_where q a (in_block q b) t ≤ 1) → 2 ≤ held_where q a (in_block q b) t
    by (inl more) = omega (arith, more)
    by (inr most) = absurd (place.others (count_one (λ v. in_block q b v && a (variable q v t)) (size q.pattern) p r most place.first place.second
        (and_from (in_block q b p) (a (variable q p t)) both.first here) (and_from (in_block q b r) (a (variable q r t)) both.second is)))

near_never : (q : Problem) (b : Option ℕ) (a : ℕ → Bool) (p t r u : ℕ) → IsPlace q p t r → HasBoth q b p r → u < size q.target
    → (is_compatible q p t r u ≡ false) ⊎ (u ≡ t) → a (variable q p t) ≡ true → Holds (near_form q b p t r) a → a (variable q r u) ≡ true → ⊥
near_never q b a p t r u place both u_in refused here holds is = by refused
  where
    -- R + H <= G + 1
    says : values_of q a r + held_where q a (in_block q b) t ≤ values_where q a (is_compatible q p t r) r + 1
    says =
        let beside = worth_sum a (pair_form q p r t) (at_most q r) (one_if (a (variable q p t))) (values_where q a (is_compatible q p t r) r) (values_of q a r) 0 (worth_pair q a p r t) (worth_at_most q a r) in
        let w = (worth_sum a (beside_form q p t r) (at_most_in q b t) (one_if (a (variable q p t)) + values_of q a r) (values_where q a (is_compatible q p t r) r + 0) (held_where q a (in_block q b) t) 0 beside (worth_block q b a t)).worth in
        let one : one_if (a (variable q p t)) ≡ 1 = ap one_if here in
        let reached = holds.reached in
        omega (arith, ints)

    by : (is_compatible q p t r u ≡ false) ⊎ (u ≡ t) → ⊥
    by (inl e) =
        let less = count_but_one (is_compatible q p t r) (λ i. a (variable q r i)) (size q.target) u u_in is in
        let none : one_if (is_compatible q p t r u) ≡ 0 = ap one_if e in
        let held = count_some (λ v. in_block q b v && a (variable q v t)) (size q.pattern) p place.first (and_from (in_block q b p) (a (variable q p t)) both.first here) in
        let h = says in
        omega (arith, h, less, none, held)
    by (inr same) =
        let less = count_both_le (is_compatible q p t r) (λ i. a (variable q r i)) (size q.target) in
        let held = two_held q b a p t r place both here (ap (λ (w : ℕ). a (variable q r w)) (sym same) ∙ is) in
        let h = says in
        omega (arith, h, less, held)

edges_near : (q : Problem) (b : Option ℕ) (p t r : ℕ) → IsPlace q p t r → HasBoth q b p r → ForcesByEdges q (near_form q b p t r) p t r
edges_near q b p t r place both s here u u_in refused = forces_out s (near_form q b p t r) (variable q r u) (Rises-sorted _)
    (λ a follows holds is. near_never q b a p t r u place both u_in (refused_how q p t r u refused) (follows.same (variable q p t) true here) holds is)

forces_near : (q : Problem) (b : Option ℕ) (p t r : ℕ) → IsPlace q p t r → asked_shared q p r ≡ 0 → HasBoth q b p r → ForcesShared q (near_form q b p t r) p t r
forces_near q b p t r place none both s here u u_in refused = edges_near q b p t r place both s here u u_in (no_share q p t r u none refused)

-- ---- no line of their own

-- Vertices without lines of their own refuse nothing but the place itself.
no_edge : (e : Option ℕ) → is_some e ≡ false → e ≡ None
no_edge None h = refl
no_edge (Some l) h = absurd cc

unasked : (i l : Bool) → (l || (i && not l)) ≡ false → (i ≡ false) × (l ≡ false)
unasked true true e = absurd cc
unasked true false e = absurd cc
unasked false true e = absurd cc
unasked false false e = (refl, refl)

-- Two vertices without lines of their own go together at two open places.
free_passes : (q : Problem) (p t r u : ℕ) → (q.induced ≡ false) × (is_linked q.pattern p r ≡ false) → is_open q t u ≡ true → is_compatible q p t r u ≡ true
free_passes q p t r u parts opens =
    and_from (is_open q t u) (is_match q.induced (edge q.pattern p r) (edge q.target t u) && is_match q.induced (edge q.pattern r p) (edge q.target u t)) opens free
  where
    edges : (edge q.pattern p r ≡ None) × (edge q.pattern r p ≡ None)
    edges = let o = or_parts (is_some (edge q.pattern p r)) (is_some (edge q.pattern r p)) parts.1 in (no_edge (edge q.pattern p r) o.0, no_edge (edge q.pattern r p) o.1)

    free : (is_match q.induced (edge q.pattern p r) (edge q.target t u) && is_match q.induced (edge q.pattern r p) (edge q.target u t)) ≡ true
    free =
        ap (λ (b : Bool). is_match b (edge q.pattern p r) (edge q.target t u) && is_match b (edge q.pattern r p) (edge q.target u t)) parts.0
        ∙ ap (λ (e : Option ℕ). is_match false e (edge q.target t u) && is_match false (edge q.pattern r p) (edge q.target u t)) edges.0
        ∙ ap (λ (e : Option ℕ). is_match false None (edge q.target t u) && is_match false e (edge q.target u t)) edges.1

free_parts : (q : Problem) (p r : ℕ) → (p ≡ r → ⊥) → is_paired q p r ≡ false → (q.induced ≡ false) × (is_linked q.pattern p r ≡ false)
free_parts q p r others unpaired =
    unasked q.induced (is_linked q.pattern p r) (sym (ap (λ (b : Bool). (not b && is_linked q.pattern p r) || (q.induced && (not b && not (is_linked q.pattern p r)))) (ne_eqb p r others)) ∙ unpaired)

same_place : (q : Problem) (p t r u : ℕ) → (p ≡ r → ⊥) → is_paired q p r ≡ false → is_compatible q p t r u ≡ false → u ≡ t
same_place q p t r u others unpaired refused = by (t == u) refl
  where
    unpaired_parts : (q.induced ≡ false) × (is_linked q.pattern p r ≡ false)
    unpaired_parts = free_parts q p r others unpaired

    by : (b : Bool) → (t == u) ≡ b → u ≡ t
    by true e = sym (eqb-true t u e)
    by false e =
        let opens : is_open q t u ≡ true = ap (λ (b : Bool). not (is_injective q.maps && b)) e ∙ never (is_injective q.maps) in
        absurd (clash (free_passes q p t r u unpaired_parts opens))
      where
        never : (i : Bool) → not (i && false) ≡ true
        never true = refl
        never false = refl

        clash : is_compatible q p t r u ≡ true → ⊥
        clash h = let bad : true ≡ false = sym h ∙ refused in cc

-- So what is refused of two in one block is the place itself.
refused_place : (q : Problem) (p t r u : ℕ) → (p ≡ r → ⊥) → is_paired q p r ≡ false → (Compatible q p t r u → ⊥) → u ≡ t
refused_place q p t r u others unpaired refused = by (refused_how q p t r u refused)
  where
    by : (is_compatible q p t r u ≡ false) ⊎ (u ≡ t) → u ≡ t
    by (inl e) = same_place q p t r u others unpaired e
    by (inr same) = same

block_never : (q : Problem) (b : Option ℕ) (a : ℕ → Bool) (p t r : ℕ) → IsPlace q p t r → HasBoth q b p r → a (variable q p t) ≡ true → Holds (at_most_in q b t) a → a (variable q r t) ≡ true → ⊥
block_never q b a p t r place both here holds is =
    let w = (worth_block q b a t).worth in
    let reached = holds.reached in
    let two = two_held q b a p t r place both here is in
    omega (arith, ints)

edges_alone : (q : Problem) (b : Option ℕ) (p t r : ℕ) → IsPlace q p t r → HasBoth q b p r → is_paired q p r ≡ false → ForcesByEdges q (at_most_in q b t) p t r
edges_alone q b p t r place both unpaired s here u u_in refused = forces_out s (at_most_in q b t) (variable q r u) (Rises-sorted _)
    (λ a follows holds is. block_never q b a p t r place both (follows.same (variable q p t) true here) holds
    (ap (λ (w : ℕ). a (variable q r w)) (sym (refused_place q p t r u place.others unpaired refused)) ∙ is))

forces_alone : (q : Problem) (b : Option ℕ) (p t r : ℕ) → IsPlace q p t r → asked_shared q p r ≡ 0 → HasBoth q b p r → is_paired q p r ≡ false → ForcesShared q (at_most_in q b t) p t r
forces_alone q b p t r place none both unpaired s here u u_in refused = edges_alone q b p t r place both unpaired s here u u_in (no_share q p t r u none refused)

-- Where the two may meet nothing is refused.
meet_open : (k : Maps) (q : Problem) (p r t u : ℕ) → q.maps ≡ k → differ_in k q.pattern p r ≡ false → is_open q t u ≡ true
meet_open Injective q p r t u is meet = absurd cc
meet_open Local q p r t u is meet = open_all q t u (ap is_injective is)
meet_open Any q p r t u is meet = open_all q t u (ap is_injective is)

free_goes : (q : Problem) (p t r u : ℕ) → (p ≡ r → ⊥) → AreFree q p r → Compatible q p t r u
free_goes q p t r u others free =
    compatible_from q p t r u (free_passes q p t r u (free_parts q p r others free.unpaired) (meet_open q.maps q p r t u refl free.may_meet))
    (λ two same. clash (differ q p r) two free.may_meet)
  where
    clash : (b : Bool) → b ≡ true → b ≡ false → ⊥
    clash b e f = let bad : true ≡ false = sym e ∙ f in cc

edges_free : (q : Problem) (line : Form) (p t r : ℕ) → IsPlace q p t r → AreFree q p r → ForcesByEdges q line p t r
edges_free q line p t r place free s here u u_in refused = absurd (refused (free_goes q p t r u place.others free))

forces_free : (q : Problem) (line : Form) (p t r : ℕ) → IsPlace q p t r → asked_shared q p r ≡ 0 → AreFree q p r → ForcesShared q line p t r
forces_free q line p t r place none free s here u u_in refused = edges_free q line p t r place free s here u u_in (no_share q p t r u none refused)

-- ---- shared neighbours asked for

-- Products of the weight, one more than n.
more_times : (x n : ℕ) → x * (n + 1) ≡ n * x + x
more_times x n = let e = mul-add x n 1 in let c = mul_comm x n in omega (arith, e, c)

double_more : (x one k : ℕ) → one ≡ 1 → (x * 2 + one) * k ≡ x * k + x * k + k
double_more x one k is =
    let s : x * 2 + one ≡ x + x + 1 = omega (arith, is) in
    let e = add-mul (x + x) 1 k in
    let d = add-mul x x k in
    ap (λ (m : ℕ). m * k) s ∙ (let z : (x + x + 1) * k ≡ x * k + x * k + k = omega (arith, e, d) in z)

less_times : (g x k : ℕ) → g + 1 ≤ x → g * k + k ≤ x * k
less_times g x k h = let e = add-mul g 1 k in let l = mul-le-mul_right {m = g + 1} {n = x} k h in omega (arith, e, l)

joined_never : (q : Problem) (a : ℕ → Bool) (p t r u : ℕ) → is_injective q.maps ≡ true → u < size q.target → 0 < common q.pattern p r → (is_compatible q p t r u ≡ false) ⊎ (common q.target t u < common q.pattern p r)
    → a (variable q p t) ≡ true → Holds (joined_form q p t r) a → a (variable q r u) ≡ true → ⊥
joined_never q a p t r u inj u_in some refused here holds is = by refused
  where
    doubled : IsWorth a (sum_of (times_of 2 (at_most q r)) (pair_form q p r t)) (values_of q a r * 2 + one_if (a (variable q p t))) (0 * 2 + values_where q a (is_compatible q p t r) r)
    doubled = worth_sum a (times_of 2 (at_most q r)) (pair_form q p r t) (values_of q a r * 2) (0 * 2) (one_if (a (variable q p t))) (values_where q a (is_compatible q p t r) r)
        (worth_times a (at_most q r) 2 (values_of q a r) 0 (worth_at_most q a r)) (worth_pair q a p r t)

    -- c + 2 R k + k <= 2 k + G k + B
    says : common q.pattern p r + (values_of q a r * weight q t + values_of q a r * weight q t) ≤ weight q t + (values_where q a (is_compatible q p t r) r * weight q t + times_around q a p t r)
    says =
        let base : Form = times_of (weight q t) (sum_of (times_of 2 (at_most q r)) (pair_form q p r t)) in
        let h = around_says q a p t r base ((values_of q a r * 2 + one_if (a (variable q p t))) * weight q t) ((0 * 2 + values_where q a (is_compatible q p t r) r) * weight q t) inj here
        (worth_times a (sum_of (times_of 2 (at_most q r)) (pair_form q p r t)) (weight q t) (values_of q a r * 2 + one_if (a (variable q p t))) (0 * 2 + values_where q a (is_compatible q p t r) r) doubled) holds in
        let bound = scaled (sum_of (times_of 2 (at_most q r)) (pair_form q p r t)).bound 2 0 (weight q t) refl in
        let product = double_more (values_of q a r) (one_if (a (variable q p t))) (weight q t) (ap one_if here) in
        let given : (0 * 2 + values_where q a (is_compatible q p t r) r) * weight q t ≡ values_where q a (is_compatible q p t r) r * weight q t =
        ap (λ (m : ℕ). m * weight q t) (let z : 0 * 2 + values_where q a (is_compatible q p t r) r ≡ values_where q a (is_compatible q p t r) r = omega arith in z) in
        omega (arith, ints)

    by : (is_compatible q p t r u ≡ false) ⊎ (common q.target t u < common q.pattern p r) → ⊥
    by (inl e) =
        let less = count_but_one (is_compatible q p t r) (λ i. a (variable q r i)) (size q.target) u u_in is in
        let none : one_if (is_compatible q p t r u) ≡ 0 = ap one_if e in
        let times = less_times (values_where q a (is_compatible q p t r) r) (values_of q a r) (weight q t) (omega (arith, less, none)) in
        let b = around_at_most q a p t r in
        let k = more_times (values_of q a r) (degree q.target t) in
        let h = says in
        omega (arith, h, times, b, k, some)
    by (inr few) =
        let less = count_both_le (is_compatible q p t r) (λ i. a (variable q r i)) (size q.target) in
        let times = mul-le-mul_right {m = values_where q a (is_compatible q p t r) r} {n = values_of q a r} (weight q t) less in
        let b = around_few q a p t r u inj u_in is in
        let k = more_times (values_of q a r) (degree q.target t) in
        let one = count_some (λ i. every i && a (variable q r i)) (size q.target) u u_in is in
        let h = says in
        omega (arith, h, times, b, k, few, one)

-- Some are shared where some are asked for.
some_shared : (q : Problem) (p r : ℕ) → 0 < asked_shared q p r → 0 < common q.pattern p r
some_shared q p r some = subst (λ (n : ℕ). 0 < n) ((asked_laws q).counted p r ((asked_laws q).injective p r some)) some

forces_joined : (q : Problem) (p t r : ℕ) → IsPlace q p t r → 0 < asked_shared q p r → ForcesShared q (joined_form q p t r) p t r
forces_joined q p t r place asked s here u u_in refused = forces_out s (joined_form q p t r) (variable q r u)
    (rises_where (is_neighbour q.target t) (spread_form q p r) _ (size q.target) (rises_where (is_shared q.pattern p r) (λ m. pair_form q p m t) _ (size q.pattern) (Rises-scaled (weight q t) _ (omega arith) (Rises-sorted _))))
    (λ a follows holds is. joined_never q a p t r u ((asked_laws q).injective p r asked) u_in (some_shared q p r asked)
    (refused_by q p t r u ((asked_laws q).injective p r asked) refused) (follows.same (variable q p t) true here) holds is)

apart_never : (q : Problem) (a : ℕ → Bool) (p t r u : ℕ) → is_injective q.maps ≡ true → IsPlace q p t r → u < size q.target → 0 < common q.pattern p r → (u ≡ t) ⊎ (common q.target t u < common q.pattern p r)
    → a (variable q p t) ≡ true → Holds (apart_form q p t r) a → a (variable q r u) ≡ true → ⊥
apart_never q a p t r u inj place u_in some refused here holds is = by refused
  where
    says : common q.pattern p r + (values_of q a r * weight q t + held_at q a t * weight q t) ≤ 2 * weight q t + times_around q a p t r
    says =
        let base : Form = times_of (weight q t) (sum_of (at_most q r) (at_most_target q t)) in
        let both = worth_sum a (at_most q r) (at_most_target q t) (values_of q a r) 0 (held_at q a t) 0 (worth_at_most q a r) (worth_target q a t) in
        let h = around_says q a p t r base ((values_of q a r + held_at q a t) * weight q t) (0 * weight q t) inj here
        (worth_times a (sum_of (at_most q r) (at_most_target q t)) (weight q t) (values_of q a r + held_at q a t) 0 both) holds in
        let bound = scaled (sum_of (at_most q r) (at_most_target q t)).bound 2 0 (weight q t) refl in
        let product = add-mul (values_of q a r) (held_at q a t) (weight q t) in
        omega (arith, ints)

    by : (u ≡ t) ⊎ (common q.target t u < common q.pattern p r) → ⊥
    by (inl same) =
        let two : 2 ≤ held_at q a t = two_there (cases_lt 1 (held_at q a t)) in
        let held = mul-le-mul_right {m = 2} {n = held_at q a t} (weight q t) two in
        let b = around_at_most q a p t r in
        let k = more_times (values_of q a r) (degree q.target t) in
        let h = says in
        omega (arith, h, held, b, k, some)
      where
        two_there : (1 < held_at q a t) ⊎ (held_at q a t ≤ 1) → 2 ≤ held_at q a t
        two_there (inl more) = omega (arith, more)
        two_there (inr most) = absurd (place.others (count_one (λ v. every v && a (variable q v t)) (size q.pattern) p r most place.first place.second here (ap (λ (w : ℕ). a (variable q r w)) (sym same) ∙ is)))
    by (inr few) =
        let held = mul-le-mul_right {m = 1} {n = held_at q a t} (weight q t) (count_some (λ v. every v && a (variable q v t)) (size q.pattern) p place.first here) in
        let b = around_few q a p t r u inj u_in is in
        let k = more_times (values_of q a r) (degree q.target t) in
        let one = count_some (λ i. every i && a (variable q r i)) (size q.target) u u_in is in
        let h = says in
        omega (arith, h, held, b, k, few, one)

forces_apart : (q : Problem) (p t r : ℕ) → IsPlace q p t r → 0 < asked_shared q p r → is_paired q p r ≡ false → ForcesShared q (apart_form q p t r) p t r
forces_apart q p t r place asked unpaired s here u u_in refused = forces_out s (apart_form q p t r) (variable q r u)
    (rises_where (is_neighbour q.target t) (spread_form q p r) _ (size q.target) (rises_where (is_shared q.pattern p r) (λ m. pair_form q p m t) _ (size q.pattern) (Rises-scaled (weight q t) _ (omega arith) (Rises-sorted _))))
    (λ a follows holds is. apart_never q a p t r u ((asked_laws q).injective p r asked) place u_in (some_shared q p r asked) (by (refused_by q p t r u ((asked_laws q).injective p r asked) refused)) (follows.same (variable q p t) true here) holds is)
  where
    by : (is_compatible q p t r u ≡ false) ⊎ (common q.target t u < common q.pattern p r) → (u ≡ t) ⊎ (common q.target t u < common q.pattern p r)
    by (inl e) = inl (same_place q p t r u place.others unpaired e)
    by (inr few) = inr few

pub row_forces : (q : Problem) → RowForces q
row_forces q = record {
  beside = λ p t r place none unneeded. forces_beside q p t r place none unneeded;
  near = λ b p t r place none both. forces_near q b p t r place none both;
  alone = λ b p t r place none both unpaired. forces_alone q b p t r place none both unpaired;
  free = λ line p t r place none free. forces_free q line p t r place none free;
  joined = λ p t r place some. forces_joined q p t r place some;
  apart = λ p t r place some unpaired. forces_apart q p t r place some unpaired;
}

pub edge_forces : (q : Problem) → EdgeForces q
edge_forces q = record {
  beside = λ p t r place unneeded. edges_beside q p t r place unneeded;
  near = λ b p t r place both. edges_near q b p t r place both;
  alone = λ b p t r place both unpaired. edges_alone q b p t r place both unpaired;
  free = λ line p t r place free. edges_free q line p t r place free;
}

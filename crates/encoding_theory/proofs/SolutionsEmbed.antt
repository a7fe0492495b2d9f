-- An assignment that satisfies the encoding shows a map, and the map embeds.

use Rattle.std.proofs.Common.{◌≡◌, ℕ, zero, suc, ◌<◌, nat_lt, Bool, true, false, ◌==◌, ◌&&◌, not, is_some, List, [], ◌∷◌, ◌++◌, length, slice_index, slice_get, Option, Some, None, refl, sym, subst, ap, ◌∙◌, arith}
use Rattle.std.proofs.lemmas.Bool.Decides.{nat_tests}
use Rattle.std.proofs.lemmas.Bool.{eq-eqb, ne_eqb, and_parts, and_from, or_parts, not_from_false}
use Rattle.std.proofs.lemmas.List.FromFn.{get_or-map-range_with_len, length-map-range_with_len}
use Rattle.graph_theory.specs.Graph.{size, edge, tabulate}
use Rattle.graph_theory.specs.Embedding.{Problem, differ, InOrder, Matches, Embeds, Allowed, Compatible}
use Rattle.graph_theory.specs.Blocks.{in_block, has_near, has_block_in, has_block}
use Rattle.graph_theory.specs.declared.embedding.Maps.{Maps}
use Rattle.graph_theory.specs.declared.embedding.Maps.TheVariants.{Injective, Local, Any}
use Rattle.graph_theory.proofs.BlockProofs.{near_in, together_of_differ}
use Rattle.graph_theory.proofs.Orders.{order_of}
use Rattle.proof_theory.specs.Forms.{Holds, Satisfies}
use Rattle.encoding_theory.specs.Variables.{variable, collect}
use Rattle.encoding_theory.specs.Pairs.{is_allowed, is_compatible, is_linked, is_edge_pair, is_non_edge_pair}
use Rattle.encoding_theory.specs.Encoding.{every, vertex_forms, vertex_group, at_most_in, block_at, block_forms, near_forms, target_group_in, target_group, is_refused, refusal, refused_at, refused_of, refused_group, pair_form, pair_at, pair_forms, pairs_at, pairs_of, pair_group, edge_group, non_edge_group, less_from, less_from_at, less_to_at, less_forms, is_inside, less_of, less_at, less_group, encoding}
use Rattle.graph_theory.proofs.ByPairs.{embeds-from_pairs}
use Rattle.encoding_theory.proofs.PairTests.{allowed_from, compatible_from}
use Rattle.encoding_theory.proofs.Counting.{count_one, some_passes, pick, pick_passes}
use Rattle.encoding_theory.proofs.Collected.{satisfies_left, satisfies_right, satisfies_at, satisfies_where}
use Rattle.encoding_theory.proofs.FormMeanings.{some_true, one_true, follows, refused_false}

-- The assignment shows the map: the variable of p and t is true exactly where p goes to t.
pub record Shows (q : Problem) (a : ℕ → Bool) (m : List ℕ) : Type 0 where
  pub shown : (p t : ℕ) → p < size q.pattern → t < size q.target → a (variable q p t) ≡ (slice_index m p == t)

-- The place of p in an assignment.
abbrev pub image : Problem → (ℕ → Bool) → ℕ → ℕ
image q a p = pick (λ t. a (variable q p t)) (size q.target)

-- The places of all.
abbrev pub images : Problem → (ℕ → Bool) → List ℕ
images q a = tabulate (size q.pattern) (image q a)

images_at : (q : Problem) (a : ℕ → Bool) (p : ℕ) → p < size q.pattern → slice_index (images q a) p ≡ image q a p
images_at q a p p_in = get_or-map-range_with_len (image q a) 0 (size q.pattern) p p 0 p_in (omega arith)

-- tests of order, and what they say
pub told_less : (a b : ℕ) → a < b → nat_lt a b ≡ true
told_less a b h = grind (arith, nat_tests)

pub less_told : (a b : ℕ) → nat_lt a b ≡ true → a < b
less_told a b h = grind (arith, nat_tests)

-- a place at which something stands is in the list
inside_list : {X : Type 0} (xs : List X) (k : ℕ) (x : X) → slice_get xs k ≡ Some x → k < length xs
inside_list [] k x is = absurd cc
inside_list (y ∷ ys) zero x is = omega arith
inside_list (y ∷ ys) (suc k) x is = let h = inside_list ys k x is in omega arith

-- ---- each group by itself

vertex_holds : (q : Problem) (a : ℕ → Bool) (p : ℕ) → Satisfies (encoding q) a → p < size q.pattern → Satisfies (vertex_forms q p) a
vertex_holds q a p s p_in = satisfies_at (vertex_forms q) (size q.pattern) p a (satisfies_left (vertex_group q) _ a s) p_in

after_vertices : (q : Problem) (a : ℕ → Bool) → Satisfies (encoding q) a → Satisfies (target_group q ++ (refused_group q ++ (edge_group q ++ (non_edge_group q ++ less_group q)))) a
after_vertices q a s = satisfies_right (vertex_group q) _ a s

block_in : (k : Maps) (q : Problem) (a : ℕ → Bool) (b : Option ℕ) (t : ℕ) → Satisfies (target_group_in k q) a → has_block_in k q.pattern b ≡ true → t < size q.target
    → Holds (at_most_in q b t) a
block_in Injective q a None t s there t_in = (satisfies_at (block_at q None) (size q.target) t a s t_in).0
block_in Injective q a (Some c) t s there t_in = absurd cc
block_in Local q a None t s there t_in = absurd cc
block_in Local q a (Some c) t s there t_in =
    (satisfies_at (block_at q (Some c)) (size q.target) t a
    (satisfies_where (has_near q.pattern c) (block_forms q (Some c)) a there (satisfies_at (near_forms q) (size q.pattern) c a s (near_in q.pattern c there))) t_in).0
block_in Any q a b t s there t_in = absurd cc

block_holds : (q : Problem) (a : ℕ → Bool) (b : Option ℕ) (t : ℕ) → Satisfies (encoding q) a → has_block q b ≡ true → t < size q.target → Holds (at_most_in q b t) a
block_holds q a b t s there t_in = block_in q.maps q a b t (satisfies_left (target_group q) _ a (after_vertices q a s)) there t_in

after_targets : (q : Problem) (a : ℕ → Bool) → Satisfies (encoding q) a → Satisfies (refused_group q ++ (edge_group q ++ (non_edge_group q ++ less_group q))) a
after_targets q a s = satisfies_right (target_group q) _ a (after_vertices q a s)

refusal_holds : (q : Problem) (a : ℕ → Bool) (p t : ℕ) → Satisfies (encoding q) a → p < size q.pattern → t < size q.target → is_refused q p t ≡ true → Holds (refusal q p t) a
refusal_holds q a p t s p_in t_in r =
    let row = satisfies_at (refused_of q) (size q.pattern) p a (satisfies_left (refused_group q) _ a (after_targets q a s)) p_in in
    (satisfies_where (is_refused q p t) (refusal q p t ∷ []) a r (satisfies_at (refused_at q p) (size q.target) t a row t_in)).0

pair_holds : (test : ℕ → ℕ → Bool) (q : Problem) (a : ℕ → Bool) (p r t : ℕ) → Satisfies (pair_group test q) a
    → p < size q.pattern → r < size q.pattern → t < size q.target → test p r ≡ true → Holds (pair_form q p r t) a
pair_holds test q a p r t s p_in r_in t_in e =
    let row = satisfies_at (pairs_of test q) (size q.pattern) p a s p_in in
    let forms = satisfies_where (test p r) (pair_forms q p r) a e (satisfies_at (pairs_at test q p) (size q.pattern) r a row r_in) in
    (satisfies_at (pair_at q p r) (size q.target) t a forms t_in).0

after_refused : (q : Problem) (a : ℕ → Bool) → Satisfies (encoding q) a → Satisfies (edge_group q ++ (non_edge_group q ++ less_group q)) a
after_refused q a s = satisfies_right (refused_group q) _ a (after_targets q a s)

edges_hold : (q : Problem) (a : ℕ → Bool) → Satisfies (encoding q) a → Satisfies (edge_group q) a
edges_hold q a s = satisfies_left (edge_group q) _ a (after_refused q a s)

after_edges : (q : Problem) (a : ℕ → Bool) → Satisfies (encoding q) a → Satisfies (non_edge_group q ++ less_group q) a
after_edges q a s = satisfies_right (edge_group q) _ a (after_refused q a s)

non_edges_hold : (q : Problem) (a : ℕ → Bool) → Satisfies (encoding q) a → Satisfies (non_edge_group q) a
non_edges_hold q a s = satisfies_left (non_edge_group q) (less_group q) a (after_edges q a s)

-- the forms of a pair whose images are to be in order
less_holds : (q : Problem) (a : ℕ → Bool) (k : ℕ) (x : ℕ × ℕ) (t : ℕ) → Satisfies (encoding q) a → k < length q.less → slice_get q.less k ≡ Some x → is_inside q x ≡ true
    → t < size q.target → Holds (less_from q x t) a
less_holds q a k x t s k_in is inside t_in =
    let there = satisfies_at (less_at q) (length q.less) k a (satisfies_right (non_edge_group q) (less_group q) a (after_edges q a s)) k_in in
    let forms = satisfies_where (is_inside q x) (less_forms q x) a inside (subst (λ (o : Option (ℕ × ℕ)). Satisfies (less_of q o) a) is there) in
    (satisfies_at (less_from_at q x) (size q.target) t a
    (satisfies_left (collect (less_from_at q x) (size q.target)) (collect (less_to_at q x) (size q.target)) a forms) t_in).0

-- ---- the map

-- the place of p is in range, and its variable is true
image_is : (q : Problem) (a : ℕ → Bool) (p : ℕ) → Satisfies (encoding q) a → p < size q.pattern
    → (image q a p < size q.target) × (a (variable q p (image q a p)) ≡ true)
image_is q a p s p_in =
    pick_passes (λ t. a (variable q p t)) (size q.target) (some_true a every (variable q p) (size q.target) (vertex_holds q a p s p_in).0)

-- no other variable of p is true
image_alone : (q : Problem) (a : ℕ → Bool) (p t : ℕ) → Satisfies (encoding q) a → p < size q.pattern → t < size q.target
    → a (variable q p t) ≡ true → image q a p ≡ t
image_alone q a p t s p_in t_in e =
    let w = image_is q a p s p_in in
    count_one (λ u. a (variable q p u)) (size q.target) (image q a p) t
    (one_true a every (variable q p) (size q.target) (vertex_holds q a p s p_in).1.0) w.0 t_in w.1 e

-- a solution shows its map
pub shows_images : (q : Problem) (a : ℕ → Bool) → Satisfies (encoding q) a → Shows q a (images q a)
shows_images q a s = record { shown = λ p t p_in t_in. by-cases p t p_in t_in (a (variable q p t)) refl }
  where
    by-cases : (p t : ℕ) → p < size q.pattern → t < size q.target → (b : Bool) → a (variable q p t) ≡ b → a (variable q p t) ≡ (slice_index (images q a) p == t)
    by-cases p t p_in t_in true e =
        e ∙ sym (eq-eqb (slice_index (images q a) p) t (images_at q a p p_in ∙ image_alone q a p t s p_in t_in e))
    by-cases p t p_in t_in false e =
        let other : slice_index (images q a) p ≡ t → ⊥ = λ (same : slice_index (images q a) p ≡ t).
        let w = (image_is q a p s p_in).1 in
        let i : image q a p ≡ t = sym (images_at q a p p_in) ∙ same in
        let k : a (variable q p t) ≡ true = subst (λ (u : ℕ). a (variable q p u) ≡ true) i w in cc in
        e ∙ sym (ne_eqb (slice_index (images q a) p) t other)

-- two vertices of a block at one place are the same
images_in : (q : Problem) (a : ℕ → Bool) (b : Option ℕ) (p r : ℕ) → Satisfies (encoding q) a → p < size q.pattern → r < size q.pattern
    → has_block q b ≡ true → in_block q b p ≡ true → in_block q b r ≡ true → image q a p ≡ image q a r → p ≡ r
images_in q a b p r s p_in r_in there first second same =
    let w = image_is q a p s p_in in
    let v = image_is q a r s r_in in
    count_one (λ x. in_block q b x && a (variable q x (image q a p))) (size q.pattern) p r
    (one_true a (in_block q b) (λ x. variable q x (image q a p)) (size q.pattern) (block_holds q a b (image q a p) s there w.0)) p_in r_in
    (and_from (in_block q b p) (a (variable q p (image q a p))) first w.1)
    (and_from (in_block q b r) (a (variable q r (image q a p))) second (subst (λ (u : ℕ). a (variable q r u) ≡ true) (sym same) v.1))

-- so two that have to be apart are
images_apart : (q : Problem) (a : ℕ → Bool) (p r : ℕ) → Satisfies (encoding q) a → p < size q.pattern → r < size q.pattern → (p ≡ r → ⊥)
    → differ q p r ≡ true → image q a p ≡ image q a r → ⊥
images_apart q a p r s p_in r_in other two same =
    let w = together_of_differ q p r p_in r_in other two in
    other (images_in q a w.block p r s p_in r_in w.is_there w.first w.second same)

-- each place is allowed
images_allowed : (q : Problem) (a : ℕ → Bool) (p : ℕ) → Satisfies (encoding q) a → p < size q.pattern → Allowed q p (image q a p)
images_allowed q a p s p_in = allowed_from q p (image q a p) (by-cases (is_allowed q p (image q a p)) refl)
  where
    by-cases : (b : Bool) → is_allowed q p (image q a p) ≡ b → is_allowed q p (image q a p) ≡ true
    by-cases true e = e
    by-cases false e =
        let w = image_is q a p s p_in in
        absurd (refused_false a (variable q p (image q a p)) (refusal_holds q a p (image q a p) s p_in w.0 (not_from_false _ e)) w.1)

-- the form of a pair makes its places compatible
pair_compatible : (q : Problem) (a : ℕ → Bool) (p r : ℕ) → Satisfies (encoding q) a → p < size q.pattern → r < size q.pattern → (p ≡ r → ⊥)
    → Holds (pair_form q p r (image q a p)) a → Compatible q p (image q a p) r (image q a r)
pair_compatible q a p r s p_in r_in other h =
    let w = image_is q a p s p_in in
    let v = some_passes (λ u. is_compatible q p (image q a p) r u && a (variable q r u)) (size q.target)
    (follows a (variable q p (image q a p)) (is_compatible q p (image q a p) r) (variable q r) (size q.target) h w.1) in
    let both = and_parts (is_compatible q p (image q a p) r v.number) (a (variable q r v.number)) v.passes in
    let same = image_alone q a r v.number s r_in v.below both.1 in
    compatible_from q p (image q a p) r (image q a r) (subst (λ (u : ℕ). is_compatible q p (image q a p) r u ≡ true) (sym same) both.0)
    (images_apart q a p r s p_in r_in other)

free_match : (b : Bool) (e f : Option ℕ) → b ≡ false → e ≡ None → Matches b e f
free_match b e f i n = rw (i, n) tt

no_edge : (e : Option ℕ) → is_some e ≡ false → e ≡ None
no_edge None h = refl
no_edge (Some l) h = absurd cc

-- any two places are compatible
images_compatible : (q : Problem) (a : ℕ → Bool) (p r : ℕ) → Satisfies (encoding q) a → p < size q.pattern → r < size q.pattern
    → (p ≡ r → ⊥) → Compatible q p (image q a p) r (image q a r)
images_compatible q a p r s p_in r_in other = by-cases (is_linked q.pattern p r) refl q.induced refl
  where
    here : image q a p < size q.target
    here = (image_is q a p s p_in).0

    apart : not (p == r) ≡ true
    apart = not_from_false (p == r) (ne_eqb p r other)

    by-cases : (b : Bool) → is_linked q.pattern p r ≡ b → (i : Bool) → q.induced ≡ i → Compatible q p (image q a p) r (image q a r)
    by-cases true e i d =
        pair_compatible q a p r s p_in r_in other
        (pair_holds (is_edge_pair q) q a p r (image q a p) (edges_hold q a s) p_in r_in here
        (and_from (not (p == r)) (is_linked q.pattern p r) apart e))
    by-cases false e true d =
        pair_compatible q a p r s p_in r_in other
        (pair_holds (is_non_edge_pair q) q a p r (image q a p) (non_edges_hold q a s) p_in r_in here
        (and_from q.induced (not (p == r) && not (is_linked q.pattern p r)) d
        (and_from (not (p == r)) (not (is_linked q.pattern p r)) apart (not_from_false (is_linked q.pattern p r) e))))
    by-cases false e false d =
        let none = or_parts (is_some (edge q.pattern p r)) (is_some (edge q.pattern r p)) e in
        record {
          apart = images_apart q a p r s p_in r_in other;
          out = free_match q.induced (edge q.pattern p r) _ d (no_edge (edge q.pattern p r) none.0);
          back = free_match q.induced (edge q.pattern r p) _ d (no_edge (edge q.pattern r p) none.1);
        }

-- the images of a pair that is to be in order are so
images_rise : (q : Problem) (a : ℕ → Bool) (k : ℕ) (x : ℕ × ℕ) → Satisfies (encoding q) a → k < length q.less → slice_get q.less k ≡ Some x
    → x.0 < size q.pattern → x.1 < size q.pattern → image q a x.0 < image q a x.1
images_rise q a k x s k_in is a_in b_in =
    let w = image_is q a x.0 s a_in in
    let inside : is_inside q x ≡ true = and_from (nat_lt x.0 (size q.pattern)) (nat_lt x.1 (size q.pattern)) (told_less x.0 (size q.pattern) a_in) (told_less x.1 (size q.pattern) b_in) in
    let v = some_passes (λ u. nat_lt (image q a x.0) u && a (variable q x.1 u)) (size q.target)
    (follows a (variable q x.0 (image q a x.0)) (λ u. nat_lt (image q a x.0) u) (variable q x.1) (size q.target)
    (less_holds q a k x (image q a x.0) s k_in is inside w.0) w.1) in
    let both = and_parts (nat_lt (image q a x.0) v.number) (a (variable q x.1 v.number)) v.passes in
    let same = image_alone q a x.1 v.number s b_in v.below both.1 in
    subst (λ (u : ℕ). image q a x.0 < u) (sym same) (less_told (image q a x.0) v.number both.0)

images_order : (q : Problem) (a : ℕ → Bool) → Satisfies (encoding q) a → InOrder q.less (images q a)
images_order q a s = order_of q.less (images q a) (λ k x is a_in b_in. by k x is (rw (← long) a_in) (rw (← long) b_in))
  where
    long : length (images q a) ≡ size q.pattern
    long = length-map-range_with_len (image q a) 0 (size q.pattern)

    by : (k : ℕ) (x : ℕ × ℕ) → slice_get q.less k ≡ Some x → x.0 < size q.pattern → x.1 < size q.pattern
        → slice_index (images q a) x.0 < slice_index (images q a) x.1
    by k x is a_in b_in =
        subst (λ (t : ℕ). t < slice_index (images q a) x.1) (sym (images_at q a x.0 a_in))
        (subst (λ (u : ℕ). image q a x.0 < u) (sym (images_at q a x.1 b_in)) (images_rise q a k x s (inside_list q.less k x is) is a_in b_in))

-- the map that a solution shows embeds
pub images_embed : (q : Problem) (a : ℕ → Bool) → Satisfies (encoding q) a → Embeds q (images q a)
images_embed q a s = embeds-from_pairs q (images q a) (record {
  size_is = length-map-range_with_len (image q a) 0 (size q.pattern);
  values = λ p p_in. subst (λ (t : ℕ). t < size q.target) (sym (images_at q a p p_in)) (image_is q a p s p_in).0;
  alone = λ p p_in. subst (λ (t : ℕ). Allowed q p t) (sym (images_at q a p p_in)) (images_allowed q a p s p_in);
  pairs = λ p r p_in r_in other.
      subst (λ (t : ℕ). Compatible q p t r (slice_index (images q a) r)) (sym (images_at q a p p_in))
      (subst (λ (u : ℕ). Compatible q p (image q a p) r u) (sym (images_at q a r r_in)) (images_compatible q a p r s p_in r_in other));
  order = images_order q a s;
})

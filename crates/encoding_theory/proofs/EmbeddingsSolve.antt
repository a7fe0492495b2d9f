-- An assignment that shows a map that embeds satisfies the encoding.

use Rattle.std.proofs.Common.{◌≡◌, ℕ, ◌<◌, nat_lt, Bool, true, false, ◌==◌, ◌&&◌, not, List, [], ◌∷◌, length, Option, Some, None, slice_index, slice_get, refl, sym, subst, ap, ◌∙◌, arith}
use Rattle.std.proofs.lemmas.Bool.{eqb-true, eqb-false, eq-eqb, and_parts, and_from, not-true, false_from_ne_true}
use Rattle.graph_theory.specs.Graph.{size}
use Rattle.graph_theory.specs.Embedding.{Problem, Embeds, Allowed, Compatible}
use Rattle.graph_theory.specs.Blocks.{in_block, has_near, has_block_in, has_block}
use Rattle.graph_theory.specs.declared.embedding.Maps.{Maps}
use Rattle.graph_theory.specs.declared.embedding.Maps.TheVariants.{Injective, Local, Any}
use Rattle.graph_theory.proofs.BlockProofs.{differ_of_together}
use Rattle.graph_theory.proofs.Orders.{rises_at}
use Rattle.proof_theory.specs.Forms.{Holds, Satisfies}
use Rattle.encoding_theory.specs.Variables.{variable, collect}
use Rattle.encoding_theory.specs.Pairs.{is_allowed, is_compatible, is_linked, is_edge_pair, is_non_edge_pair}
use Rattle.encoding_theory.specs.Encoding.{every, vertex_forms, vertex_group, at_most_in, block_at, block_forms, near_forms, target_group_in, target_group, is_refused, refusal, refused_at, refused_of, refused_group, leads_form, pair_form, pair_at, pair_forms, pairs_at, pairs_of, pair_group, edge_group, non_edge_group, less_from, less_to, less_from_at, less_to_at, less_forms, is_inside, less_of, less_at, less_group, encoding}
use Rattle.encoding_theory.proofs.PairTests.{allowed_to, compatible_to}
use Rattle.encoding_theory.proofs.Counting.{count_some, count_unique}
use Rattle.encoding_theory.proofs.Collected.{satisfies_both, satisfies_all, satisfies_when}
use Rattle.encoding_theory.proofs.FormMeanings.{true_some, true_one, following, false_refused}
use Rattle.encoding_theory.proofs.SolutionsEmbed.{Shows, told_less, less_told}

-- the variable of p at its image is true
true_there : (q : Problem) (a : ℕ → Bool) (m : List ℕ) (p : ℕ) → Embeds q m → Shows q a m → p < size q.pattern → a (variable q p (slice_index m p)) ≡ true
true_there q a m p e s p_in =
    s.shown p (slice_index m p) p_in (e.values p p_in) ∙ eq-eqb (slice_index m p) (slice_index m p) refl

-- and no other
true_alone : (q : Problem) (a : ℕ → Bool) (m : List ℕ) (p t : ℕ) → Shows q a m → p < size q.pattern → t < size q.target → a (variable q p t) ≡ true → slice_index m p ≡ t
true_alone q a m p t s p_in t_in h = eqb-true (slice_index m p) t (sym (s.shown p t p_in t_in) ∙ h)

solves_vertex : (q : Problem) (a : ℕ → Bool) (m : List ℕ) (p : ℕ) → Embeds q m → Shows q a m → p < size q.pattern → Satisfies (vertex_forms q p) a
solves_vertex q a m p e s p_in = (
  true_some a every (variable q p) (size q.target)
      (count_some (λ t. a (variable q p t)) (size q.target) (slice_index m p) (e.values p p_in) (true_there q a m p e s p_in)),
  (
    true_one a every (variable q p) (size q.target)
        (count_unique (λ t. a (variable q p t)) (size q.target)
        (λ t u t_in u_in h k. sym (true_alone q a m p t s p_in t_in h) ∙ true_alone q a m p u s p_in u_in k)),
    tt,
  ),
)

-- of the vertices of a block one at most is at t
solves_block : (q : Problem) (a : ℕ → Bool) (m : List ℕ) (b : Option ℕ) (t : ℕ) → Embeds q m → Shows q a m → has_block q b ≡ true → t < size q.target
    → Satisfies (block_at q b t) a
solves_block q a m b t e s there t_in = (
  true_one a (in_block q b) (λ p. variable q p t) (size q.pattern)
      (count_unique (λ p. in_block q b p && a (variable q p t)) (size q.pattern) (λ p r p_in r_in h k. same p r p_in r_in h k)),
  tt,
)
  where
    same : (p r : ℕ) → p < size q.pattern → r < size q.pattern → (in_block q b p && a (variable q p t)) ≡ true
        → (in_block q b r && a (variable q r t)) ≡ true → p ≡ r
    same p r p_in r_in h k =
        let x = and_parts (in_block q b p) (a (variable q p t)) h in
        let y = and_parts (in_block q b r) (a (variable q r t)) k in
        e.distinct p r p_in r_in (differ_of_together q p r (record { block = b; is_there = there; first = x.0; second = y.0 }))
        (true_alone q a m p t s p_in t_in x.1 ∙ sym (true_alone q a m r t s r_in t_in y.1))

solves_targets_in : (k : Maps) (q : Problem) (a : ℕ → Bool) (m : List ℕ) → q.maps ≡ k → Embeds q m → Shows q a m → Satisfies (target_group_in k q) a
solves_targets_in Injective q a m is e s =
    let there : has_block q None ≡ true = ap (λ (k : Maps). has_block_in k q.pattern None) is in
    satisfies_all (block_at q None) (size q.target) a (λ t t_in. solves_block q a m None t e s there t_in)
solves_targets_in Local q a m is e s =
    satisfies_all (near_forms q) (size q.pattern) a (λ c _.
    satisfies_when (has_near q.pattern c) (block_forms q (Some c)) a (λ near.
    let there : has_block q (Some c) ≡ true = subst (λ (k : Maps). has_block_in k q.pattern (Some c) ≡ true) (sym is) near in
    satisfies_all (block_at q (Some c)) (size q.target) a (λ t t_in. solves_block q a m (Some c) t e s there t_in)))
solves_targets_in Any q a m is e s = tt

solves_targets : (q : Problem) (a : ℕ → Bool) (m : List ℕ) → Embeds q m → Shows q a m → Satisfies (target_group q) a
solves_targets q a m e s = solves_targets_in q.maps q a m refl e s

image_allowed : (q : Problem) (m : List ℕ) (p : ℕ) → Embeds q m → p < size q.pattern → Allowed q p (slice_index m p)
image_allowed q m p e p_in = record { label_is = e.labels p p_in; loop_is = e.edges p p p_in p_in }

solves_refusal : (q : Problem) (a : ℕ → Bool) (m : List ℕ) (p t : ℕ) → Embeds q m → Shows q a m → p < size q.pattern → t < size q.target → Satisfies (refused_at q p t) a
solves_refusal q a m p t e s p_in t_in =
    satisfies_when (is_refused q p t) (refusal q p t ∷ []) a
    (λ refused. (
      false_refused a (variable q p t) (false_from_ne_true (a (variable q p t))
          (λ h.
          let there : slice_index m p ≡ t = true_alone q a m p t s p_in t_in h in
          let fine : is_allowed q p t ≡ true = allowed_to q p t (subst (λ (u : ℕ). Allowed q p u) there (image_allowed q m p e p_in)) in
          let not_fine : is_allowed q p t ≡ false = not-true (is_allowed q p t) refused in
          cc)),
      tt,
    ))

images_compatible : (q : Problem) (m : List ℕ) (p r : ℕ) → Embeds q m → p < size q.pattern → r < size q.pattern → (p ≡ r → ⊥) → Compatible q p (slice_index m p) r (slice_index m r)
images_compatible q m p r e p_in r_in other = record {
  apart = λ two same. other (e.distinct p r p_in r_in two same);
  out = e.edges p r p_in r_in;
  back = e.edges r p r_in p_in;
}

solves_pair : (q : Problem) (a : ℕ → Bool) (m : List ℕ) (p r t : ℕ) → Embeds q m → Shows q a m → p < size q.pattern → r < size q.pattern → t < size q.target
    → (p ≡ r → ⊥) → Holds (pair_form q p r t) a
solves_pair q a m p r t e s p_in r_in t_in other =
    following a (variable q p t) (is_compatible q p t r) (variable q r) (size q.target)
    (λ h.
    let there : slice_index m p ≡ t = true_alone q a m p t s p_in t_in h in
    let fine : is_compatible q p t r (slice_index m r) ≡ true = compatible_to q p t r (slice_index m r)
    (subst (λ (u : ℕ). Compatible q p u r (slice_index m r)) there (images_compatible q m p r e p_in r_in other)) in
    count_some (λ u. is_compatible q p t r u && a (variable q r u)) (size q.target) (slice_index m r) (e.values r r_in)
    (and_from (is_compatible q p t r (slice_index m r)) (a (variable q r (slice_index m r))) fine (true_there q a m r e s r_in)))

-- a group of pairs of different vertices
solves_pairs : (test : ℕ → ℕ → Bool) (q : Problem) (a : ℕ → Bool) (m : List ℕ) → Embeds q m → Shows q a m
    → ((p r : ℕ) → test p r ≡ true → p ≡ r → ⊥) → Satisfies (pair_group test q) a
solves_pairs test q a m e s apart =
    satisfies_all (pairs_of test q) (size q.pattern) a (λ p p_in.
    satisfies_all (pairs_at test q p) (size q.pattern) a (λ r r_in.
    satisfies_when (test p r) (pair_forms q p r) a (λ passed.
    satisfies_all (pair_at q p r) (size q.target) a (λ t t_in.
    (solves_pair q a m p r t e s p_in r_in t_in (apart p r passed), tt)))))

-- a pair whose images are in order
solves_lead : (q : Problem) (a : ℕ → Bool) (m : List ℕ) (p r t : ℕ) (test : ℕ → Bool) → Embeds q m → Shows q a m → p < size q.pattern → r < size q.pattern → t < size q.target
    → (slice_index m p ≡ t → test (slice_index m r) ≡ true) → Holds (leads_form q p t r test) a
solves_lead q a m p r t test e s p_in r_in t_in passes =
    following a (variable q p t) test (variable q r) (size q.target)
    (λ h.
    count_some (λ u. test u && a (variable q r u)) (size q.target) (slice_index m r) (e.values r r_in)
    (and_from (test (slice_index m r)) (a (variable q r (slice_index m r))) (passes (true_alone q a m p t s p_in t_in h)) (true_there q a m r e s r_in)))

solves_less : (q : Problem) (a : ℕ → Bool) (m : List ℕ) (x : ℕ × ℕ) → Embeds q m → Shows q a m → x.0 < size q.pattern → x.1 < size q.pattern
    → slice_index m x.0 < slice_index m x.1 → Satisfies (less_forms q x) a
solves_less q a m x e s a_in b_in rise =
    satisfies_both (collect (less_from_at q x) (size q.target)) (collect (less_to_at q x) (size q.target)) a
    (satisfies_all (less_from_at q x) (size q.target) a (λ t t_in.
    (solves_lead q a m x.0 x.1 t (λ u. nat_lt t u) e s a_in b_in t_in (λ there. told_less t (slice_index m x.1) (subst (λ (v : ℕ). v < slice_index m x.1) there rise)), tt)))
    (satisfies_all (less_to_at q x) (size q.target) a (λ t t_in.
    (solves_lead q a m x.1 x.0 t (λ u. nat_lt u t) e s b_in a_in t_in (λ there. told_less (slice_index m x.0) t (subst (λ (v : ℕ). slice_index m x.0 < v) there rise)), tt)))

solves_order : (q : Problem) (a : ℕ → Bool) (m : List ℕ) → Embeds q m → Shows q a m → Satisfies (less_group q) a
solves_order q a m e s = satisfies_all (less_at q) (length q.less) a (λ k _. by k (slice_get q.less k) refl)
  where
    by : (k : ℕ) (o : Option (ℕ × ℕ)) → slice_get q.less k ≡ o → Satisfies (less_of q o) a
    by k None is = tt
    by k (Some x) is =
        satisfies_when (is_inside q x) (less_forms q x) a (λ inside.
        let both = and_parts (nat_lt x.0 (size q.pattern)) (nat_lt x.1 (size q.pattern)) inside in
        let a_in : x.0 < size q.pattern = less_told x.0 (size q.pattern) both.0 in
        let b_in : x.1 < size q.pattern = less_told x.1 (size q.pattern) both.1 in
        solves_less q a m x e s a_in b_in (rises_at q.less m k x e.order is (omega (arith, a_in, e.size_is)) (omega (arith, b_in, e.size_is))))

-- the whole
pub embedding_solves : (q : Problem) (a : ℕ → Bool) (m : List ℕ) → Embeds q m → Shows q a m → Satisfies (encoding q) a
embedding_solves q a m e s =
    satisfies_both (vertex_group q) _ a (satisfies_all (vertex_forms q) (size q.pattern) a (λ p p_in. solves_vertex q a m p e s p_in))
    (satisfies_both (target_group q) _ a (solves_targets q a m e s)
    (satisfies_both (refused_group q) _ a
    (satisfies_all (refused_of q) (size q.pattern) a (λ p p_in.
    satisfies_all (refused_at q p) (size q.target) a (λ t t_in. solves_refusal q a m p t e s p_in t_in)))
    (satisfies_both (edge_group q) _ a
    (solves_pairs (is_edge_pair q) q a m e s (λ p r passed.
    eqb-false p r (not-true (p == r) (and_parts (not (p == r)) (is_linked q.pattern p r) passed).0)))
    (satisfies_both (non_edge_group q) (less_group q) a
    (solves_pairs (is_non_edge_pair q) q a m e s (λ p r passed.
    let x = and_parts q.induced (not (p == r) && not (is_linked q.pattern p r)) passed in
    eqb-false p r (not-true (p == r) (and_parts (not (p == r)) (not (is_linked q.pattern p r)) x.1).0)))
    (solves_order q a m e s)))))

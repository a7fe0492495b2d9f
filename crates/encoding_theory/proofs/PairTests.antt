-- The tests of single vertices and of pairs say what their words say, and on plain graphs speak of neighbours.

use Rattle.std.proofs.Common.{◌≡◌, ℕ, ◌==◌, Bool, true, false, ◌&&◌, ◌||◌, not, is_some, Option, Some, None, refl, subst, ap, ◌∙◌}
use Rattle.std.proofs.lemmas.Bool.{eqb-true, eqb-false, eq-eqb, ne_eqb, and_parts, and_from, or_parts, not-true, not_from_false}
use Rattle.graph_theory.specs.Graph.{label, edge}
use Rattle.graph_theory.specs.Embedding.{Problem, is_injective, differ_in, differ, KeepsEdge, Matches, Allowed, Compatible}
use Rattle.graph_theory.specs.declared.embedding.Maps.{Maps}
use Rattle.graph_theory.specs.declared.embedding.Maps.TheVariants.{Injective, Local, Any}
use Rattle.encoding_theory.specs.Pairs.{is_kept, is_match, is_allowed, is_open, is_compatible, is_linked, keeps_loop, TestLaws, PlainLaws}
use Rattle.graph_theory.specs.Plain.{IsPlain}

kept_from : (e f : Option ℕ) → is_kept e f ≡ true → KeepsEdge e f
kept_from None f h = tt
kept_from (Some l) None h = absurd cc
kept_from (Some l) (Some k) h = ap Some (eqb-true k l h)

kept_to : (e f : Option ℕ) → KeepsEdge e f → is_kept e f ≡ true
kept_to None f h = refl
kept_to (Some l) f h = rw h (eq-eqb l l refl)

match_from : (b : Bool) (e f : Option ℕ) → is_match b e f ≡ true → Matches b e f
match_from false e f h = kept_from e f h
match_from true e f h = let p = and_parts (is_kept e f) (is_kept f e) h in (kept_from e f p.0, kept_from f e p.1)

match_to : (b : Bool) (e f : Option ℕ) → Matches b e f → is_match b e f ≡ true
match_to false e f h = kept_to e f h
match_to true e f h = and_from (is_kept e f) (is_kept f e) (kept_to e f h.0) (kept_to f e h.1)

-- a pair that passes the test is allowed
pub allowed_from : (q : Problem) (p t : ℕ) → is_allowed q p t ≡ true → Allowed q p t
allowed_from q p t h =
    let x = and_parts (label q.target t == label q.pattern p) (is_match q.induced (edge q.pattern p p) (edge q.target t t)) h in
    record { label_is = eqb-true (label q.target t) (label q.pattern p) x.0; loop_is = match_from q.induced (edge q.pattern p p) (edge q.target t t) x.1 }

-- and one that is allowed passes it
pub allowed_to : (q : Problem) (p t : ℕ) → Allowed q p t → is_allowed q p t ≡ true
allowed_to q p t h =
    and_from (label q.target t == label q.pattern p) (is_match q.induced (edge q.pattern p p) (edge q.target t t))
    (eq-eqb (label q.target t) (label q.pattern p) h.label_is) (match_to q.induced (edge q.pattern p p) (edge q.target t t) h.loop_is)

-- two places that are apart are open
pub open_apart : (q : Problem) (t u : ℕ) → (t ≡ u → ⊥) → is_open q t u ≡ true
open_apart q t u apart = rw (ne_eqb t u apart) (never (is_injective q.maps))
  where
    never : (a : Bool) → not (a && false) ≡ true
    never true = refl
    never false = refl

-- where the maps are injective open places are apart
pub apart_open : (q : Problem) (t u : ℕ) → is_injective q.maps ≡ true → is_open q t u ≡ true → t ≡ u → ⊥
apart_open q t u is h = eqb-false t u (not-true (t == u) (subst (λ (a : Bool). not (a && (t == u)) ≡ true) is h))

-- where they are not, all are open
pub open_all : (q : Problem) (t u : ℕ) → is_injective q.maps ≡ false → is_open q t u ≡ true
open_all q t u is = ap (λ (a : Bool). not (a && (t == u))) is

-- two pairs that pass the test go together, where their places are two or need not be
pub compatible_from : (q : Problem) (p t r u : ℕ) → is_compatible q p t r u ≡ true → (differ q p r ≡ true → t ≡ u → ⊥) → Compatible q p t r u
compatible_from q p t r u h apart =
    let out : Bool = is_match q.induced (edge q.pattern p r) (edge q.target t u) in
    let back : Bool = is_match q.induced (edge q.pattern r p) (edge q.target u t) in
    let x = and_parts (is_open q t u) (out && back) h in
    let y = and_parts out back x.1 in
    record {
      apart = apart;
      out = match_from q.induced (edge q.pattern p r) (edge q.target t u) y.0;
      back = match_from q.induced (edge q.pattern r p) (edge q.target u t) y.1;
    }

-- where the maps are injective those that pass it do
pub compatible_injective : (q : Problem) (p t r u : ℕ) → is_injective q.maps ≡ true → is_compatible q p t r u ≡ true → Compatible q p t r u
compatible_injective q p t r u is h =
    let out : Bool = is_match q.induced (edge q.pattern p r) (edge q.target t u) in
    let back : Bool = is_match q.induced (edge q.pattern r p) (edge q.target u t) in
    let x = and_parts (is_open q t u) (out && back) h in
    compatible_from q p t r u h (λ _. apart_open q t u is x.0)

-- and two that go together pass it
open_to : (k : Maps) (q : Problem) (p t r u : ℕ) → q.maps ≡ k → (differ_in k q.pattern p r ≡ true → t ≡ u → ⊥) → is_open q t u ≡ true
open_to Injective q p t r u is apart = open_apart q t u (apart refl)
open_to Local q p t r u is apart = open_all q t u (ap is_injective is)
open_to Any q p t r u is apart = open_all q t u (ap is_injective is)

pub compatible_to : (q : Problem) (p t r u : ℕ) → Compatible q p t r u → is_compatible q p t r u ≡ true
compatible_to q p t r u h =
    let out : Bool = is_match q.induced (edge q.pattern p r) (edge q.target t u) in
    let back : Bool = is_match q.induced (edge q.pattern r p) (edge q.target u t) in
    and_from (is_open q t u) (out && back) (open_to q.maps q p t r u refl h.apart)
    (and_from out back (match_to q.induced (edge q.pattern p r) (edge q.target t u) h.out) (match_to q.induced (edge q.pattern r p) (edge q.target u t) h.back))

pub test_laws : TestLaws
test_laws = record {
  allowed = λ q p t. (allowed_from q p t, allowed_to q p t);
  passes = compatible_to;
  compatible = compatible_from;
}

-- ---- plain graphs

or_same : (x : Bool) → (x || x) ≡ x
or_same true = refl
or_same false = refl

-- an edge of label 0 is met by any edge of a plain graph, both ways
plain_match : (b : Bool) (f : Option ℕ) → ((l : ℕ) → f ≡ Some l → l ≡ 0) → (is_match b (Some 0) f && is_match b (Some 0) f) ≡ is_some f
plain_match false None z = refl
plain_match true None z = refl
plain_match false (Some k) z = let e : k ≡ 0 = z k refl in rw e refl
plain_match true (Some k) z = let e : k ≡ 0 = z k refl in rw e refl

-- no edge is met by no edge alone
missing_match : (f : Option ℕ) → (is_match true None f && is_match true None f) ≡ not (is_some f)
missing_match None = refl
missing_match (Some k) = refl

no_edge : (e : Option ℕ) → is_some e ≡ false → e ≡ None
no_edge None h = refl
no_edge (Some l) h = absurd cc

some_edge : (e : Option ℕ) → is_some e ≡ true → ((l : ℕ) → e ≡ Some l → l ≡ 0) → e ≡ Some 0
some_edge None h z = absurd cc
some_edge (Some l) h z = ap Some (z l refl)

both_match : (b : Bool) (e d f g : Option ℕ) → e ≡ d → f ≡ g → (is_match b e f && is_match b d g) ≡ (is_match b e f && is_match b e f)
both_match b e d f g s t = rw (← s, ← t) refl

-- loops of plain graphs agree wherever they are there or not
loop_match : (b : Bool) (e f : Option ℕ) → ((l : ℕ) → e ≡ Some l → l ≡ 0) → ((l : ℕ) → f ≡ Some l → l ≡ 0) → is_match b e f ≡ keeps_loop b (is_some e) (is_some f)
loop_match false None None y z = refl
loop_match false None (Some k) y z = refl
loop_match false (Some l) None y z = refl
loop_match false (Some l) (Some k) y z = let d : l ≡ 0 = y l refl in let e : k ≡ 0 = z k refl in rw (d, e) refl
loop_match true None None y z = refl
loop_match true None (Some k) y z = refl
loop_match true (Some l) None y z = refl
loop_match true (Some l) (Some k) y z = let d : l ≡ 0 = y l refl in let e : k ≡ 0 = z k refl in rw (d, e) refl

pub plain_laws : (q : Problem) → IsPlain q.pattern → IsPlain q.target → PlainLaws q
plain_laws q h k = record {
  alone = λ p t. ap (λ (x : Bool). (label q.target t == label q.pattern p) && x)
      (loop_match q.induced (edge q.pattern p p) (edge q.target t t) (h.zeros p p) (k.zeros t t));
  pair = λ p r. ap (λ (x : Bool). not (p == r) && x)
      (ap (λ (e : Option ℕ). is_some (edge q.pattern p r) || is_some e) (h.both r p) ∙ or_same (is_some (edge q.pattern p r)));
  edge_kept = λ p r t u n.
      let s = and_parts (not (p == r)) (is_some (edge q.pattern p r)) n in
      let e = some_edge (edge q.pattern p r) s.1 (h.zeros p r) in
      ap (λ (x : Bool). is_open q t u && x)
      (both_match q.induced (edge q.pattern p r) (edge q.pattern r p) (edge q.target t u) (edge q.target u t) (h.both p r) (k.both t u)
      ∙ ap (λ (d : Option ℕ). is_match q.induced d (edge q.target t u) && is_match q.induced d (edge q.target t u)) e
      ∙ plain_match q.induced (edge q.target t u) (k.zeros t u));
  non_edge_kept = λ p r t u n.
      let i = and_parts q.induced (not (p == r) && not (is_linked q.pattern p r)) n in
      let s = and_parts (not (p == r)) (not (is_linked q.pattern p r)) i.1 in
      let o = or_parts (is_some (edge q.pattern p r)) (is_some (edge q.pattern r p)) (not-true (is_linked q.pattern p r) s.1) in
      let e = no_edge (edge q.pattern p r) o.0 in
      ap (λ (x : Bool). is_open q t u && x)
      (both_match q.induced (edge q.pattern p r) (edge q.pattern r p) (edge q.target t u) (edge q.target u t) (h.both p r) (k.both t u)
      ∙ ap (λ (b : Bool). is_match b (edge q.pattern p r) (edge q.target t u) && is_match b (edge q.pattern p r) (edge q.target t u)) i.0
      ∙ ap (λ (d : Option ℕ). is_match true d (edge q.target t u) && is_match true d (edge q.target t u)) e
      ∙ missing_match (edge q.target t u));
}

-- A triangle into a four-cycle: no embedding exists, and the first guesses of a search may be taken and fail.

use Rattle.std.proofs.Common.{◌≡◌, ℕ, zero, suc, ◌+◌, ◌%◌, ◌<◌, ◌≤◌, ◌==◌, Bool, true, false, not, ◌&&◌, nat_lt, if◌then◌else◌, List, [], ◌∷◌, ◌++◌, length, slice_index, Some, None, refl, sym, ap, subst, ◌∙◌, arith}
use Rattle.std.proofs.lemmas.Bool.Decides.{nat_tests}
use Rattle.graph_theory.specs.Graph.{edge}
use Rattle.graph_theory.specs.Neighbours.{members, IsKeptBy}
use Rattle.graph_theory.specs.Embedding.{Problem, HasNone}
use Rattle.graph_theory.specs.Path.{Dead}
use Rattle.search_theory.specs.Consistency.{IsFirstValue}
use Rattle.search_theory.specs.Account.{Step, Account, IsAt, NotAmong, MayGuess, deepened, failed, FailsTo}
use Rattle.fail_account.specs.Examples.{four_cycle, triangle_into_four_cycle, after_guesses}

-- neighbours in the four-cycle: one is even, the other odd
odd_sum : (a b : ℕ) → a < 4 → b < 4 → edge four_cycle a b ≡ Some 0 → (a + b) % 2 ≡ 1
odd_sum zero zero _ _ h = absurd (cc)
odd_sum zero (suc zero) _ _ h = refl
odd_sum zero (suc (suc zero)) _ _ h = absurd (cc)
odd_sum zero (suc (suc (suc zero))) _ _ h = refl
odd_sum (suc zero) zero _ _ h = refl
odd_sum (suc zero) (suc zero) _ _ h = absurd (cc)
odd_sum (suc zero) (suc (suc zero)) _ _ h = refl
odd_sum (suc zero) (suc (suc (suc zero))) _ _ h = absurd (cc)
odd_sum (suc (suc zero)) zero _ _ h = absurd (cc)
odd_sum (suc (suc zero)) (suc zero) _ _ h = refl
odd_sum (suc (suc zero)) (suc (suc zero)) _ _ h = absurd (cc)
odd_sum (suc (suc zero)) (suc (suc (suc zero))) _ _ h = refl
odd_sum (suc (suc (suc zero))) zero _ _ h = refl
odd_sum (suc (suc (suc zero))) (suc zero) _ _ h = absurd (cc)
odd_sum (suc (suc (suc zero))) (suc (suc zero)) _ _ h = refl
odd_sum (suc (suc (suc zero))) (suc (suc (suc zero))) _ _ h = absurd (cc)
odd_sum a (suc (suc (suc (suc b)))) a_in b_in h = absurd (omega arith)
odd_sum (suc (suc (suc (suc a)))) b a_in b_in h = absurd (omega arith)

three_odd : (a b c : ℕ) → (a + b) % 2 ≡ 1 → (b + c) % 2 ≡ 1 → (a + c) % 2 ≡ 1 → ⊥
three_odd a b c x y z = omega arith

-- so three of them are not neighbours of each other
pub none_embeds : HasNone triangle_into_four_cycle
none_embeds m e =
    let zero_in : 0 < 3 = omega arith in
    let one_in : 1 < 3 = omega arith in
    let two_in : 2 < 3 = omega arith in
    three_odd (slice_index m 0) (slice_index m 1) (slice_index m 2)
    (odd_sum (slice_index m 0) (slice_index m 1) (e.values 0 zero_in) (e.values 1 one_in) (e.edges 0 1 zero_in one_in))
    (odd_sum (slice_index m 1) (slice_index m 2) (e.values 1 one_in) (e.values 2 two_in) (e.edges 1 2 one_in two_in))
    (odd_sum (slice_index m 0) (slice_index m 2) (e.values 0 zero_in) (e.values 2 two_in) (e.edges 0 2 zero_in two_in))

-- and each path is dead
pub all_dead : (path : List (ℕ × ℕ)) → Dead triangle_into_four_cycle path
all_dead path = λ m e h. none_embeds m e

-- a sequence is kept by itself
kept_by_itself : (ps : List ℕ) → IsKeptBy ps ps
kept_by_itself ps i = by_test (nat_lt i (length ps)) (nat_lt (slice_index ps i) (slice_index ps i)) (not_less (slice_index ps i))
  where
    not_less : (n : ℕ) → nat_lt n n ≡ false
    not_less n = grind (arith, nat_tests)

    by_test : (a b : Bool) → b ≡ false → (a && not (a && not b)) ≡ false
    by_test true false e = refl
    by_test false false e = refl
    by_test a true e = absurd (cc)

-- each vertex of the four-cycle may be the image of one of the triangle
first_value : (t : ℕ) → t < 4 → IsFirstValue triangle_into_four_cycle 0 t
first_value zero h = record { alone = record { label_is = refl; loop_is = tt }; in_degree = omega arith; degree = omega arith; in_sequence = kept_by_itself (2 ∷ 2 ∷ []); sequence = kept_by_itself (2 ∷ 2 ∷ []) }
first_value (suc zero) h = record { alone = record { label_is = refl; loop_is = tt }; in_degree = omega arith; degree = omega arith; in_sequence = kept_by_itself (2 ∷ 2 ∷ []); sequence = kept_by_itself (2 ∷ 2 ∷ []) }
first_value (suc (suc zero)) h = record { alone = record { label_is = refl; loop_is = tt }; in_degree = omega arith; degree = omega arith; in_sequence = kept_by_itself (2 ∷ 2 ∷ []); sequence = kept_by_itself (2 ∷ 2 ∷ []) }
first_value (suc (suc (suc zero))) h = record { alone = record { label_is = refl; loop_is = tt }; in_degree = omega arith; degree = omega arith; in_sequence = kept_by_itself (2 ∷ 2 ∷ []); sequence = kept_by_itself (2 ∷ 2 ∷ []) }
first_value (suc (suc (suc (suc t)))) h = absurd (omega arith)

-- a value above those that were tried is none of them
above_tried : (n t : ℕ) → n ≤ t → NotAmong (members (λ (u : ℕ). true) n) t
above_tried n t h = off_members_from n t h
  where
    push : (us : List ℕ) (u t : ℕ) → NotAmong us t → (u ≡ t → ⊥) → NotAmong (us ++ u ∷ []) t
    push [] u t off ne = (ne, tt)
    push (v ∷ vs) u t off ne = (off.0, push vs u t off.1 ne)

    off_members_from : (n t : ℕ) → n ≤ t → NotAmong (members (λ (u : ℕ). true) n) t
    off_members_from zero t h = tt
    off_members_from (suc n) t h = push (members (λ (u : ℕ). true) n) n t (off_members_from n t (omega arith)) (λ e. omega arith)

-- the next value may be guessed
pub may_guess_next : (q : Problem) (old : Account) (budget t : ℕ) → q ≡ triangle_into_four_cycle → old ≡ after_guesses budget t → t < 4 → MayGuess q old 0 t
may_guess_next q old budget t q_is old_is t_in =
    subst (λ (p : Problem). MayGuess p old 0 t) (sym q_is) (subst (λ (a : Account). MayGuess triangle_into_four_cycle a 0 t) (sym old_is) (record {
      vertex_in = omega arith;
      value_in = t_in;
      level = at_zero (t == 0);
      new_vertex = tt;
      untried = above_tried t t (omega arith);
      fits = record { alone = first_value t t_in; pairs = tt; order = tt };
    }))
  where
    at_zero : (b : Bool) → IsAt (if b then None else Some 0) 0
    at_zero true = tt
    at_zero false = refl

-- a list of one level ends in it
one_level : (ss : List Step) (x y : Step) → x ∷ [] ≡ ss ++ y ∷ [] → (ss ≡ []) × (y ≡ x)
one_level [] x y e = (refl, sym (ap (head x) e))
  where
    head : Step → List Step → Step
    head d [] = d
    head d (z ∷ zs) = z
one_level (s ∷ []) x y e = absurd (omega (arith, ap length e))
one_level (s ∷ r ∷ rs) x y e = absurd (omega (arith, ap length e))

-- and when the guess has failed one value more is refuted
pub after_next : (old new : Account) (budget t : ℕ) → old ≡ after_guesses budget t → t < 4 → t < budget → FailsTo (deepened old 0 t) new → new ≡ after_guesses budget (t + 1)
after_next old new budget t old_is t_in unspent f =
    by_fail (subst (λ (a : Account). FailsTo (deepened a 0 t) new) old_is f)
  where
    test : (n m : ℕ) → n < m → nat_lt n m ≡ true
    test n m h = grind (arith, nat_tests)

    counted : (t : ℕ) → t < 4 → nat_lt t budget ≡ true
        → failed (deepened (after_guesses budget t) 0 t) [] (record { vertex = 0; value = t; refuted = members (λ (u : ℕ). true) t }) ≡ after_guesses budget (t + 1)
    counted zero _ e = rw e refl
    counted (suc zero) _ e = rw e refl
    counted (suc (suc zero)) _ e = rw e refl
    counted (suc (suc (suc zero))) _ e = rw e refl
    counted (suc (suc (suc (suc t)))) h e = absurd (omega arith)

    by_fail : FailsTo (deepened (after_guesses budget t) 0 t) new → new ≡ after_guesses budget (t + 1)
    by_fail g =
        let parts = one_level g.above (record { vertex = 0; value = t; refuted = members (λ (u : ℕ). true) t }) g.last g.steps_are in
        g.new_is
        ∙ ap (λ (ss : List Step). failed (deepened (after_guesses budget t) 0 t) ss g.last) parts.0
        ∙ ap (λ (s : Step). failed (deepened (after_guesses budget t) 0 t) [] s) parts.1
        ∙ counted t t_in (test t budget unspent)

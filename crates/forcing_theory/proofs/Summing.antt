-- Sums of tight forms, and the operations that make them.
use Rattle.std.proofs.Common.{◌≡◌, ℕ, suc, ◌+◌, ◌*◌, ◌^◌, ◌≤◌, ◌<◌, nat_le, Bool, true, false, ◌&&◌, List, [], ◌∷◌, ◌++◌, length, ℤ, pos, negsuc, ◌+ℤ◌, ◌≤ℤ◌, unsigned_abs, refl, sym, ap, subst, ◌∙◌, arith, Option, Some, None, Result, Ok, Err, inl, inr, ◌⊎◌}
use Rattle.std.proofs.lemmas.Int.{ints}
use Rattle.std.proofs.lemmas.Bool.{le-leb, and_from}
use native.Mathlib.Nat.{mul-le-mul_right, suc-mul}
use Rattle.proof_theory.specs.Forms.{Form, Holds, Satisfies, Rises, value, size, total, sorted}
use Rattle.proof_theory.specs.Rules.{sum_of}
use Rattle.proof_theory.specs.Slack.{Setting, conflict, after}
use Rattle.proof_theory.proofs.Sorting.{value-sorted, value-append, Rises-sorted}
use Rattle.pb_terms.proofs.Ruled.{size-sorted}
use Rattle.log_theory.specs.declared.step.Name.{Name}
use Rattle.log_theory.specs.declared.step.Ref.{Ref}
use Rattle.log_theory.specs.declared.step.Op.{Op}
use Rattle.log_theory.specs.declared.step.Op.TheVariants.{Push, Add}
use Rattle.log_theory.specs.declared.step.Step.TheVariants.{P}
use Rattle.log_theory.specs.declared.step.Cause.{Cause}
use Rattle.log_theory.specs.declared.step.Cause.TheVariants.{NoSuchName, Wide}
use Rattle.log_theory.specs.Steps.{◌>>=◌, unless, or_fault}
use Rattle.log_theory.specs.Lookups.{Lookup, narrow, on_two, operate, evaluate, only_one, find_all, makes}
use Rattle.forcing_theory.specs.Units.{Follows, Implies}
use Rattle.forcing_theory.specs.Sums.{sum_from, adding, summing, IsSmall, AreSmall, IsTight, AreTight, SumLaws}
use Rattle.forcing_theory.proofs.Uniting.{unit}

-- ---- tight forms

value_sum : (f g : Form) (a : ℕ → Bool) → value a (sum_of f g).terms ≡ value a f.terms +ℤ value a g.terms
value_sum f g a = value-sorted a (f.terms ++ g.terms) ∙ value-append a f.terms g.terms

tight_sum : (s : Setting) (f g : Form) → IsTight s f → IsTight s g → IsTight s (sum_of f g)
tight_sum s f g tf tg = record {
  rises = Rises-sorted (f.terms ++ g.terms);
  below = λ a follows. let e = value_sum f g a in let l = tf.below a follows in let m = tg.below a follows in omega (arith, ints);
}

tight_from : (s : Setting) (f : Form) (gs : List Form) → IsTight s f → AreTight s gs → IsTight s (sum_from f gs)
tight_from s f [] tf tg = tf
tight_from s f (g ∷ gs) tf tg = tight_from s (sum_of f g) gs (tight_sum s f g tf tg.0) tg.1

both_hold : (s : Setting) (f g : Form) (a : ℕ → Bool) → IsTight s f → IsTight s g → Follows s a → Holds (sum_of f g) a → Holds f a × Holds g a
both_hold s f g a tf tg follows holds =
    let e = value_sum f g a in
    let l = tf.below a follows in
    let m = tg.below a follows in
    let h : (f.bound +ℤ g.bound) ≤ℤ (value a (sum_of f g).terms) = holds.reached in
    (record { reached = omega (arith, ints) }, record { reached = omega (arith, ints) })

each_holds : (s : Setting) (f : Form) (gs : List Form) (a : ℕ → Bool) → IsTight s f → AreTight s gs → Follows s a → Holds (sum_from f gs) a → Holds f a × Satisfies gs a
each_holds s f [] a tf tg follows holds = (holds, tt)
each_holds s f (g ∷ gs) a tf tg follows holds =
    let rest = each_holds s (sum_of f g) gs a (tight_sum s f g tf tg.0) tg.1 follows holds in
    let two = both_hold s f g a tf tg.0 follows rest.0 in
    (two.0, (two.1, rest.1))

forces_all : (s : Setting) (f : Form) (gs : List Form) (v : ℕ) (b : Bool) → IsTight s f → AreTight s gs → ((a : ℕ → Bool) → Follows s a → Holds f a → Satisfies gs a → a v ≡ b)
    → (conflict s (sum_from f gs) ≡ true) ⊎ (after s (sum_from f gs) v ≡ Some b)
forces_all s f gs v b tf tg said =
    unit s (sum_from f gs) v b (record {
      rises = (tight_from s f gs tf tg).rises;
      there = λ a follows holds. let e = each_holds s f gs a tf tg follows holds in said a follows e.0 e.1;
    })

-- ---- the operations

pub size_append : (xs ys : List (ℕ × ℤ)) → size (xs ++ ys) ≡ size xs + size ys
size_append [] ys = omega arith
size_append (x ∷ xs) ys = let h = size_append xs ys in omega (arith, h)

pub abs_sum : (x y : ℤ) → unsigned_abs (x +ℤ y) ≤ unsigned_abs x + unsigned_abs y
abs_sum x y = omega (arith, ints)

-- A sum is no larger than its parts together.
pub small_sum : (m n : ℕ) (f g : Form) → IsSmall m f → IsSmall n g → IsSmall (m + n) (sum_of f g)
small_sum m n f g sf sg = record {
  bound_fits = let l = abs_sum f.bound g.bound in let a = sf.bound_fits in let b = sg.bound_fits in omega (arith, l, a, b);
  sum_fits = let l = size-sorted (f.terms ++ g.terms) in let a = sf.sum_fits in let b = sg.sum_fits in let e = size_append f.terms g.terms in omega (arith, l, e, a, b);
}

pub narrow_small : (n : ℕ) (f : Form) → IsSmall n f → n ≤ 2 ^ 125 → narrow f ≡ Ok f
narrow_small n f small fits =
    let a = small.bound_fits in
    let b = small.sum_fits in
    ap (λ (x : Bool). unless x Wide >>= λ _. Ok f) (and_from (nat_le (unsigned_abs f.bound) (2 ^ 125)) (nat_le (size f.terms) (2 ^ 125)) (le-leb (unsigned_abs f.bound) (2 ^ 125) (omega (arith, a, fits))) (le-leb (size f.terms) (2 ^ 125) (omega (arith, b, fits))))

-- What a lookup that finds all finds first.
record Found (look : Lookup) (r : Ref) (rs : List Ref) (f : Form) (fs : List Form) : Type 0 where
  pub first : look r ≡ Some f
  pub rest : find_all look rs ≡ Ok fs

found_parts : (look : Lookup) (r : Ref) (rs : List Ref) (f : Form) (fs : List Form) → find_all look (r ∷ rs) ≡ Ok (f ∷ fs) → Found look r rs f fs
found_parts look r rs f fs e = by (look r) refl (find_all look rs) refl e
  where
    by : (o : Option Form) → look r ≡ o → (x : Result (List Form) Cause) → find_all look rs ≡ x → (or_fault o NoSuchName >>= λ g. x >>= λ gs. Ok (g ∷ gs)) ≡ Ok (f ∷ fs) → Found look r rs f fs
    by (Some g) is (Ok gs) are h = record { first = is ∙ (let p : g ≡ f = cc in ap (λ (y : Form). let o : Option Form = Some y in o) p); rest = are ∙ (let p : gs ≡ fs = cc in ap (λ (ys : List Form). let x : Result (List Form) Cause = Ok ys in x) p) }
    by None is x are h = absurd cc
    by (Some g) is (Err c) are h = absurd cc

none_found : (look : Lookup) (r : Ref) (rs : List Ref) → find_all look (r ∷ rs) ≡ Ok [] → ⊥
none_found look r rs e = by (look r) (find_all look rs) e
  where
    by : (o : Option Form) (x : Result (List Form) Cause) → (or_fault o NoSuchName >>= λ g. x >>= λ gs. Ok (g ∷ gs)) ≡ Ok [] → ⊥
    by (Some g) (Ok gs) h = absurd cc
    by None x h = absurd cc
    by (Some g) (Err c) h = absurd cc

-- Adding further references to a sum.
adds : (look : Lookup) (rs : List Ref) (gs : List Form) (f : Form) (m n : ℕ) → find_all look rs ≡ Ok gs → IsSmall m f → AreSmall n gs → m + length gs * n ≤ 2 ^ 125
    → evaluate look (f ∷ []) (adding rs) ≡ Ok (sum_from f gs ∷ [])
adds look [] [] f m n found small all fits = refl
adds look [] (g ∷ gs) f m n found small all fits = absurd cc
adds look (r ∷ rs) [] f m n found small all fits = absurd (none_found look r rs found)
adds look (r ∷ rs) (g ∷ gs) f m n found small all fits =
    let parts = found_parts look r rs g gs found in
    let room = suc-mul (length gs) n in
    let next = small_sum m n f g small all.0 in
    ap (λ (o : Option Form). (or_fault o NoSuchName >>= λ h. Ok (h ∷ f ∷ [])) >>= λ stack. evaluate look stack (Add ∷ adding rs)) parts.first
    ∙ ap (λ (x : Result Form Cause). (x >>= λ h. Ok (h ∷ [])) >>= λ stack. evaluate look stack (adding rs)) (narrow_small (m + n) (sum_of f g) next (omega (arith, room, fits)))
    ∙ adds look rs gs (sum_of f g) (m + n) n parts.rest next all.1 (omega (arith, room, fits))

made_sum : (look : Lookup) (name : Name) (r : Ref) (rs : List Ref) (f : Form) (gs : List Form) (n : ℕ) → find_all look (r ∷ rs) ≡ Ok (f ∷ gs) → AreSmall n (f ∷ gs) → length (f ∷ gs) * n ≤ 2 ^ 125
    → makes look (P name (summing r rs)) ≡ Ok (sum_from f gs)
made_sum look name r rs f gs n found small fits =
    let parts = found_parts look r rs f gs found in
    let room = suc-mul (length gs) n in
    ap (λ (o : Option Form). ((or_fault o NoSuchName >>= λ h. Ok (h ∷ [])) >>= λ stack. evaluate look stack (adding rs)) >>= λ stack. only_one stack) parts.first
    ∙ ap (λ (x : Result (List Form) Cause). x >>= λ stack. only_one stack) (adds look rs gs f n n parts.rest small.0 small.1 (omega (arith, room, fits)))

pub sums : SumLaws
sums = record { made = made_sum; tight = tight_from; each = each_holds; forces = forces_all }

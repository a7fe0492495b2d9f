-- A mark that is put in the place of a variable that was unset.

use Rattle.std.proofs.Common.{◌≡◌, ℕ, ◌<◌, ◌≤◌, Bool, true, false, cond, eqb, List, length, get_or, Option, Some, None, refl, sym, ap, ◌∙◌, subst, arith, inl, inr}
use Rattle.std.specs.Prelude.{set}
use Rattle.std.specs.Option.{is_some}
use Rattle.std.proofs.lemmas.Bool.{eq-eqb, ne_eqb, cases_eq}
use Rattle.std.proofs.lemmas.List.{length-set, get_or-set_same, get_or-set_other}
use Rattle.pb_propagation.specs.declared.levels.Mark.{Mark}
use Rattle.pb_propagation.specs.Levels.{TwoLevels, AreStamped, Keeps, SetTo, now, now_of, root_of, unset}

-- What is no value is none.
pub unset_of : (o s : Option Bool) (b : Bool) → o ≡ s → b ≡ is_some o → b ≡ false → s ≡ None
unset_of None s b same is clear = sym same
unset_of (Some x) s b same is clear = let e : true ≡ false = sym is ∙ clear in cc

abbrev marked : ℕ → Bool → Mark
marked k b = record { stamp = k; value = b }

abbrev levels_of : List Mark → ℕ → Bool → TwoLevels
levels_of ms n r = record { marks = ms; line = n; at_root = r }

-- The stamp is the root's or the line's.
pub stamp_root : (r : Bool) (n k : ℕ) → r ≡ true → k ≡ 0 → k ≡ cond r 0 n
stamp_root true n k e is = is
stamp_root false n k e is = absurd (let f : false ≡ true = e in cc)

pub stamp_line : (r : Bool) (n k : ℕ) → r ≡ false → k ≡ n → k ≡ cond r 0 n
stamp_line false n k e is = is
stamp_line true n k e is = absurd (let f : true ≡ false = e in cc)

stamp_low : (r : Bool) (n k : ℕ) → k ≡ cond r 0 n → k ≤ n
stamp_low true n k e = omega arith
stamp_low false n k e = omega arith

either : (x : Bool) (o : Option Bool) → cond x o o ≡ o
either true o = refl
either false o = refl

shown : (r b : Bool) (n k : ℕ) → k ≡ cond r 0 n → now_of n (marked k b) ≡ Some b
shown true b n k e = subst (λ (j : ℕ). now_of n (marked j b) ≡ Some b) (sym e) refl
shown false b n k e = subst (λ (j : ℕ). now_of n (marked j b) ≡ Some b) (sym e) (rw (eq-eqb n n refl) (either (eqb n 0) (Some b)))

no_value : (x : Bool) (o p : Option Bool) → cond x o p ≡ None → cond x o None ≡ None
no_value true o p none = none
no_value false o p none = refl

put_is : (ms : List Mark) (n i k : ℕ) (r b : Bool) (v : ℕ) → i < length ms → k ≡ cond r 0 n → now_of n (get_or (set ms i (marked k b)) v unset) ≡ cond (eqb i v) (Some b) (now_of n (get_or ms v unset))
put_is ms n i k r b v h e = elim (cases_eq v i) [
  | inl s ↦
      let g : get_or (set ms i (marked k b)) v unset ≡ marked k b = ap (λ (j : ℕ). get_or (set ms i (marked k b)) j unset) s ∙ get_or-set_same ms i (marked k b) unset h in
      rw (eq-eqb i v (sym s), g) (shown r b n k e)
  | inr o ↦ rw (ne_eqb i v (λ q. o (sym q)), get_or-set_other ms i v (marked k b) unset o)
]

put_lasts : (ms : List Mark) (n i k : ℕ) (r b : Bool) (v : ℕ) → i < length ms → k ≡ cond r 0 n → r ≡ false → 2 ≤ n → now_of n (get_or ms i unset) ≡ None → root_of (get_or (set ms i (marked k b)) v unset) ≡ root_of (get_or ms v unset)
put_lasts ms n i k r b v h e at_line later none = elim (cases_eq v i) [
  | inl s ↦
      let g : get_or (set ms i (marked k b)) v unset ≡ marked k b = ap (λ (j : ℕ). get_or (set ms i (marked k b)) j unset) s ∙ get_or-set_same ms i (marked k b) unset h in
      let m = get_or ms i unset in
      let is : k ≡ n = e ∙ ap (λ (x : Bool). cond x 0 n) at_line in
      let new : root_of (marked k b) ≡ None = rw (ne_eqb k 0 (λ q. omega arith)) in
      let old : root_of m ≡ None = no_value (eqb m.stamp 0) (Some m.value) _ none in
      ap root_of g ∙ new ∙ sym old ∙ ap (λ (j : ℕ). root_of (get_or ms j unset)) (sym s)
  | inr o ↦ ap root_of (get_or-set_other ms i v (marked k b) unset o)
]

put_stamp : (ms : List Mark) (n i k : ℕ) (b : Bool) (v : ℕ) → i < length ms → k ≤ n → (get_or ms v unset).stamp ≤ n → (get_or (set ms i (marked k b)) v unset).stamp ≤ n
put_stamp ms n i k b v h low was = elim (cases_eq v i) [
  | inl s ↦ rw (s, get_or-set_same ms i (marked k b) unset h) low
  | inr o ↦ rw (get_or-set_other ms i v (marked k b) unset o) was
]

-- The three that are so of the levels where it is put.
pub put_stamped : (ms : List Mark) (n i k : ℕ) (r b : Bool) → i < length ms → k ≡ cond r 0 n → AreStamped n ms → AreStamped n (set ms i (marked k b))
put_stamped ms n i k r b h e are = record { later = are.later; stamps = λ v. put_stamp ms n i k b v h (stamp_low r n k e) (are.stamps v) }

pub put_sets : (a : TwoLevels) (ms : List Mark) (n i k : ℕ) (r b : Bool) → levels_of ms n r ≡ a → i < length a.marks → now a i ≡ None → k ≡ cond r 0 n → SetTo (now a) i b (now (levels_of (set ms i (marked k b)) n r))
put_sets a ms n i k r b is h none e =
    let here = subst (λ (x : TwoLevels). i < length x.marks) (sym is) h in
    subst (λ (x : TwoLevels). SetTo (now x) i b (now (levels_of (set ms i (marked k b)) n r))) is
    (record { was = subst (λ (x : TwoLevels). now x i ≡ None) (sym is) none; is = λ v. put_is ms n i k r b v here e })

pub put_keeps : (a : TwoLevels) (ms : List Mark) (n i k : ℕ) (r b : Bool) → levels_of ms n r ≡ a → i < length a.marks → now a i ≡ None → k ≡ cond r 0 n → AreStamped n ms → Keeps a (levels_of (set ms i (marked k b)) n r)
put_keeps a ms n i k r b is h none e are =
    let here = subst (λ (x : TwoLevels). i < length x.marks) (sym is) h in
    let unset_there = subst (λ (x : TwoLevels). now x i ≡ None) (sym is) none in
    subst (λ (x : TwoLevels). Keeps x (levels_of (set ms i (marked k b)) n r)) is
    (record { long = length-set ms i (marked k b); level = refl; lasts = λ at_line v. put_lasts ms n i k r b v here e at_line are.later unset_there })

-- Each step on the queue keeps the rule, and what it tells.
use Rattle.std.proofs.Common.{◌≡◌, ◌≢◌, ℕ, zero, suc, ◌+◌, ◌-◌, ◌<◌, ◌≤◌, List, [], ◌∷◌, ◌++◌, set, refl, sym, ap, ◌∙◌, subst, ⊎_elim, arith}
use mathlib.Core.Option.{some, some-injective, some-ne-none}
use lib.ListN.{get_elem?}
use Rattle.std.specs.List.{sum_by}
use Rattle.std.proofs.lemmas.List.Sums.{sum_by-append, sum_by-cons}
use Rattle.std.proofs.lemmas.List.{nil_from_length}
use Rattle.crossbeam_queue.specs.Fifo.{Pushes, Pops, Forks, Merges, Learns, Held}
use Rattle.crossbeam_queue.proofs.Lists.{at_set, at_snoc, set_else}
use Rattle.batch_pool.specs.declared.numbers.Hand.{Hand}
use Rattle.batch_pool.specs.Rule.{hand, all_parts, times, once_below, Knows, IsDealt, filled, TookNext, joined, AreBelow, AreOnce, HoldsRest}
use Rattle.batch_pool.proofs.Counts.{one_if, times-append, times-cons, times_push, one_if_same, once_more, once_out, once_from, once_at_most, sum_set, sum_at, sum_alone, length_below}

abbrev taken_of : ℕ → Hand → ℕ
taken_of x h = times x h.taken

abbrev parts_of : Hand → ℕ
parts_of h = h.parts

-- what each pass knows, after a change of one
each_set : (n m : ℕ) (hands : List Hand) (i : ℕ) (w : Hand) → Knows m w
    → ((j : ℕ) (u : Hand) → j ≢ i → get_elem? hands j ≡ some u → Knows n u → Knows m u)
    → ((j : ℕ) (u : Hand) → get_elem? hands j ≡ some u → Knows n u)
    → (j : ℕ) (u : Hand) → get_elem? (set hands i w) j ≡ some u → Knows m u
each_set n m hands i w mine others each j u at =
    ⊎_elim (λ (x : (j ≡ i) × (w ≡ u)). subst (λ (y : Hand). Knows m y) x.1 mine)
    (λ (x : (j ≢ i) × (get_elem? hands j ≡ some u)). others j u x.0 x.1 (each j u x.1))
    (at_set hands i j w u at)

-- two passes that are not one have no more parts than all
two_parts : (hands : List Hand) (i j : ℕ) (v u : Hand) → j ≢ i → get_elem? hands i ≡ some v → get_elem? hands j ≡ some u → v.parts + u.parts ≤ sum_by parts_of hands
two_parts hands i j v u apart at there =
    let z = hand 0 0 [] in
    let s = sum_set parts_of hands i v z at in
    let m = sum_at parts_of (set hands i z) j u (set_else hands i j z apart ∙ there) in
    omega arith

first_knows : (i : ℕ) (h : Hand) → get_elem? (hand all_parts 0 [] ∷ []) i ≡ some h → Knows 0 h
first_knows zero h at = subst (λ (y : Hand). Knows 0 y) (some-injective (hand all_parts 0 []) h at) (record { idle = λ _. refl; counted = λ _. refl })
first_knows (suc i) h at = absurd (some-ne-none h (sym at))

pub begins : IsDealt [] (hand all_parts 0 [] ∷ [])
begins = record {
  pushed = 0;
  once = λ x. sym (once_out 0 x (omega arith));
  whole = refl;
  each = first_knows;
}

pub pushes : (n port : ℕ) (v : Hand) (x : ℕ) → v.parts ≡ all_parts → x ≡ v.pushed → Pushes IsDealt n port v x (λ w. w ≡ filled v)
pushes n port v x all next items hands room d at =
    let w = filled v in
    let count : v.pushed ≡ d.pushed = (d.each port v at).counted (omega arith) in (
      w,
      record {
        pushed = v.pushed + 1;
        once = λ y.
            let o = d.once y in
            let s = sum_set (taken_of y) hands port v w at in
            let p = times_push y items x in
            let m = once_more v.pushed y in
            let e : one_if x y ≡ one_if v.pushed y = ap (λ k. one_if k y) next in
            let c : once_below v.pushed y ≡ once_below d.pushed y = ap (λ k. once_below k y) count in omega arith;
        whole = let s = sum_set parts_of hands port v w at in let o = d.whole in omega arith;
        each = each_set d.pushed (v.pushed + 1) hands port w
            (record { idle = (d.each port v at).idle; counted = λ _. refl })
            (λ j u apart there knows. record {
              idle = knows.idle;
              counted = λ some_part. let t = two_parts hands port j v u apart at there in let o = d.whole in absurd (omega arith);
            })
            d.each;
      },
      refl,
    )

pub takes : (port : ℕ) (v : Hand) → 0 < v.parts → Pops IsDealt port v (TookNext v)
takes port v part x items hands d at =
    let w = hand v.parts v.pushed (v.taken ++ x ∷ []) in
    let mine = d.each port v at in
    let o = d.once x in
    let p = times-cons x x items in
    let e = one_if_same x x refl in
    let m = sum_at (taken_of x) hands port v at in
    let most = once_at_most d.pushed x in
    let below : x < d.pushed = once_from d.pushed x (omega arith) in (
      w,
      record {
        pushed = d.pushed;
        once = λ y.
            let o = d.once y in
            let s = sum_set (taken_of y) hands port v w at in
            let p = times-cons y x items in
            let q = times_push y v.taken x in omega arith;
        whole = let s = sum_set parts_of hands port v w at in let o = d.whole in omega arith;
        each = each_set d.pushed d.pushed hands port w
            (record { idle = λ none. absurd (omega arith); counted = mine.counted })
            (λ j u apart there knows. knows)
            d.each;
      },
      record { below = let c = mine.counted part in omega arith; fresh = omega arith; after = refl },
    )

pub forks : (port : ℕ) (v : Hand) → 1 < v.parts → Forks IsDealt port v (hand (v.parts - 1) v.pushed v.taken) (hand 1 v.pushed [])
forks port v parts items hands d at =
    let l = hand (v.parts - 1) v.pushed v.taken in
    let r = hand 1 v.pushed [] in
    let vs = set hands port l in
    let mine = d.each port v at in
    let count : v.pushed ≡ d.pushed = mine.counted (omega arith) in
    let kept : (j : ℕ) (u : Hand) → get_elem? vs j ≡ some u → Knows d.pushed u = each_set d.pushed d.pushed hands port l
    (record { idle = λ none. absurd (omega arith); counted = λ _. count })
    (λ j u apart there knows. knows)
    d.each in
    record {
      pushed = d.pushed;
      once = λ y.
          let o = d.once y in
          let s = sum_set (taken_of y) hands port v l at in
          let a = sum_by-append (taken_of y) vs (r ∷ []) in
          let b = sum_by-cons (taken_of y) r [] in omega arith;
      whole =
          let s = sum_set parts_of hands port v l at in
          let a = sum_by-append parts_of vs (r ∷ []) in
          let b = sum_by-cons parts_of r [] in let o = d.whole in omega arith;
      each = λ j u there. ⊎_elim (λ (x : get_elem? vs j ≡ some u). kept j u x)
          (λ (is : r ≡ u). subst (λ (y : Hand). Knows d.pushed y) is (record { idle = λ _. refl; counted = λ _. count }))
          (at_snoc vs r u j there);
    }

pub merges : (port : ℕ) (v : Hand) (other : ℕ) (u : Hand) → 0 < v.parts → Merges IsDealt port v other u (joined v u) (hand 0 0 [])
merges port v other u part items hands d at apart at' =
    let b = joined v u in
    let z = hand 0 0 [] in
    let vs = set hands port b in
    let mine = d.each port v at in
    let kept : (j : ℕ) (h : Hand) → get_elem? vs j ≡ some h → Knows d.pushed h = each_set d.pushed d.pushed hands port b
    (record { idle = λ none. absurd (omega arith); counted = λ _. mine.counted part })
    (λ j h far there knows. knows)
    d.each in
    record {
      pushed = d.pushed;
      once = λ y.
          let o = d.once y in
          let s = sum_set (taken_of y) hands port v b at in
          let t = sum_set (taken_of y) vs other u z at' in
          let a = times-append y v.taken u.taken in omega arith;
      whole =
          let s = sum_set parts_of hands port v b at in
          let t = sum_set parts_of vs other u z at' in let o = d.whole in omega arith;
      each = each_set d.pushed d.pushed vs other z
          (record { idle = λ _. refl; counted = λ some_part. absurd (omega arith) })
          (λ j h far there knows. knows)
          kept;
    }

pub compares : (port : ℕ) (v : Hand) → Learns IsDealt port v (λ items. AreOnce v.taken)
compares port v items hands d at x =
    let o = d.once x in
    let m = sum_at (taken_of x) hands port v at in
    let most = once_at_most d.pushed x in omega arith

pub learns : (port : ℕ) (v : Hand) → Learns IsDealt port v (HoldsRest v)
learns port v items hands d at all x =
    let o = d.once x in
    let count : v.pushed ≡ d.pushed = (d.each port v at).counted (omega arith) in
    let alone = sum_alone parts_of (taken_of x) hands port v at (λ j h there none. ap (times x) ((d.each j h there).idle none)) (d.whole ∙ sym all) in
    let a = times-append x v.taken items in
    let c : once_below v.pushed x ≡ once_below d.pushed x = ap (λ k. once_below k x) count in omega arith

-- a pass that has all parts and took nothing finds no more numbers in the queue than were pushed
pub not_full : (n : ℕ) (v : Hand) → v.parts ≡ all_parts → v.taken ≡ [] → v.pushed < n → Held n (HoldsRest v) → ⊥
not_full n v all nothing room held =
    let rest = held.2 all in
    let none : (x : ℕ) → times x v.taken ≡ 0 = λ x. ap (times x) nothing in
    let most = length_below v.pushed held.0 (λ x. let a = rest x in let b = times-append x v.taken held.0 in let e = none x in omega arith) in
    let e = held.1 in omega arith

-- where the queue is found empty by a pass that has all parts, that pass took each number that was pushed
pub took_all : (n : ℕ) (v : Hand) → v.parts ≡ all_parts → v.pushed ≡ n → Held 0 (HoldsRest v) → AreBelow n v.taken
took_all n v all count held x =
    let rest = held.2 all x in
    let a = times-append x v.taken held.0 in
    let e : times x held.0 ≡ 0 = ap (times x) (nil_from_length held.0 held.1) in
    let c : once_below v.pushed x ≡ once_below n x = ap (λ k. once_below k x) count in omega arith

-- the caller's pass, and that of a worker, after one more was made
pub one_left : (v w : Hand) (k n : ℕ) → v ≡ hand (all_parts - k) n [] → w ≡ hand (v.parts - 1) v.pushed v.taken → w ≡ hand (all_parts - (k + 1)) n []
one_left v w k n was is =
    let e : all_parts - k - 1 ≡ all_parts - (k + 1) = omega arith in
    is ∙ ap (λ (h : Hand). hand (h.parts - 1) h.pushed h.taken) was ∙ ap (λ (m : ℕ). hand m n []) e

pub one_made : (v w : Hand) (k n : ℕ) → v ≡ hand (all_parts - k) n [] → w ≡ hand 1 v.pushed [] → w ≡ hand 1 n []
one_made v w k n was is = is ∙ ap (λ (h : Hand). hand 1 h.pushed []) was

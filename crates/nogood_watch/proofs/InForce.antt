-- Watches that are in force, and how moving them keeps it so.
use Rattle.std.proofs.Common.{◌≡◌, ℕ, ◌*◌, ◌/◌, ◌<◌, Bool, true, false, List, length, refl, sym, ap, ◌∙◌, subst, arith, inl, inr, ◌⊎◌}
use Rattle.domain_bits.specs.Removals as removals
use Rattle.nogood_watch.specs.Nogoods.{Nogood, literal, partner, nogood, AreWatches}
use Rattle.nogood_watch.specs.Watching.{IsAssigned, AllBut, KeepsOrFrees, IsWhole}
use Rattle.nogood_watch.specs.InForce.{InForce, ForceIsEnough, IsWithin, EachStaysInForce, StaysInForce, WatchLaws}
use Rattle.nogood_watch.proofs.Visits.{partner_twice, partner_half, partner_in}
use Rattle.nogood_watch.proofs.Readiness.{watch_in}

-- a watch of nogood i is one of its literals
watch_of : (nogoods : List Nogood) (w : List (ℕ × ℕ)) (i x : ℕ) → AreWatches nogoods w → x < length w → x / 2 ≡ i
    → (k : ℕ) × (k < length (nogood nogoods i).literals) × (literal (nogood nogoods i).literals k ≡ literal w x)
watch_of nogoods w i x a h e =
    subst (λ j. (k : ℕ) × (k < length (nogood nogoods j).literals) × (literal (nogood nogoods j).literals k ≡ literal w x)) e (a.of x h)

-- where all literals but l are assigned, l has left its domain
last_gone : (d : removals.State) (nogoods : List Nogood) (w : List (ℕ × ℕ)) (i : ℕ) (l : ℕ × ℕ) → AreWatches nogoods w → InForce d w → i < length nogoods
    → AllBut d (nogood nogoods i).literals l → removals.in_domain d l.0 l.1 ≡ false
last_gone d nogoods w i l a force h rest = by (at (2 * i) x-in half) (at (partner (2 * i)) y-in (partner_half (2 * i) ∙ half))
  where
    half : 2 * i / 2 ≡ i
    half = omega arith

    x-in : 2 * i < length w
    x-in = omega (arith, h, a.two)

    y-in : partner (2 * i) < length w
    y-in = partner_in (2 * i) (length w) (length nogoods) a.two x-in

    at : (x : ℕ) → x < length w → x / 2 ≡ i → (literal w x ≡ l) ⊎ IsAssigned d (literal w x)
    at x h e = let o = watch_of nogoods w i x a h e in subst (λ k. (k ≡ l) ⊎ IsAssigned d k) o.2 (rest o.0 o.1)

    by : (literal w (2 * i) ≡ l) ⊎ IsAssigned d (literal w (2 * i)) → (literal w (partner (2 * i)) ≡ l) ⊎ IsAssigned d (literal w (partner (2 * i))) → removals.in_domain d l.0 l.1 ≡ false
    by (inl e) (inl f) = absurd (a.apart (2 * i) x-in (ap (λ (k : ℕ × ℕ). k.0) (e ∙ sym f)))
    by (inl e) (inr s) =
        subst (λ (k : ℕ × ℕ). removals.in_domain d k.0 k.1 ≡ false) (ap (literal w) (partner_twice (2 * i)) ∙ e) (force (partner (2 * i)) y-in s)
    by (inr s) (inl f) = subst (λ (k : ℕ × ℕ). removals.in_domain d k.0 k.1 ≡ false) f (force (2 * i) x-in s)
    by (inr s) (inr t) = absurd (cc (force (2 * i) x-in s, t.here))

none_whole : (d : removals.State) (nogoods : List Nogood) (w : List (ℕ × ℕ)) (name : ℕ) → AreWatches nogoods w → InForce d w → IsWhole d nogoods name → ⊥
none_whole d nogoods w name a force whole =
    let x-in : 2 * whole.place < length w = omega (arith, whole.within, a.two) in
    let o = watch_of nogoods w whole.place (2 * whole.place) a x-in (omega arith) in
    let gone = last_gone d nogoods w whole.place (literal (nogood nogoods whole.place).literals o.0) a force whole.within (λ k h. inr (whole.all k h)) in
    cc (gone, (whole.all o.0 o.1).here)

enough : ForceIsEnough
enough d nogoods w a force = record {
  none_whole = λ name whole. none_whole d nogoods w name a force whole;
  last_gone = λ i l h rest. last_gone d nogoods w i l a force h rest;
}

-- what is assigned in wider domains is assigned
still_assigned : (d e : removals.State) (l : ℕ × ℕ) → IsWithin d e → l.0 < d.vertices → IsAssigned e l → IsAssigned d l
still_assigned d e l w p-in s = record { here = by (removals.in_domain d l.0 l.1) refl; only = λ u h. s.only u (w.less l.0 u h) }
  where
    by : (b : Bool) → removals.in_domain d l.0 l.1 ≡ b → removals.in_domain d l.0 l.1 ≡ true
    by true f = f
    by false f = absurd (w.some l.0 p-in (λ u h. cc (f, subst (λ v. removals.in_domain d l.0 v ≡ true) (s.only u (w.less l.0 u h)) h)))

each_stays : EachStaysInForce
each_stays d e nogoods old new m w x h force s = this (m.moves x x-in)
  where
    x-in : x < length old
    x-in = omega (arith, h, m.before.two, m.after.two)

    other : removals.in_domain e (literal old (partner x)).0 (literal old (partner x)).1 ≡ false → KeepsOrFrees d (literal old (partner x)) (literal new (partner x))
        → removals.in_domain e (literal new (partner x)).0 (literal new (partner x)).1 ≡ false
    other gone (inl same) = rw same gone
    other gone (inr moved) = absurd (cc (gone, w.less (literal old (partner x)).0 (literal old (partner x)).1 moved.0.here))

    this : KeepsOrFrees d (literal old x) (literal new x) → removals.in_domain e (literal new (partner x)).0 (literal new (partner x)).1 ≡ false
    this (inl same) = other (force (subst (IsAssigned e) same s)) (m.moves (partner x) (partner_in x (length old) (length nogoods) m.before.two x-in))
    this (inr moved) = absurd (moved.1 (still_assigned d e (literal new x) w (watch_in d.vertices d.values nogoods new x m.literals_are m.after h).0 s))

stays : StaysInForce
stays d e nogoods old new m w force x h = each_stays d e nogoods old new m w x h (force x (omega (arith, h, m.before.two, m.after.two)))

pub watch_laws_hold : WatchLaws
watch_laws_hold = record { enough = enough; each_stays = each_stays; stays = stays }

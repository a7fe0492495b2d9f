-- A walk, visit by visit.
use Rattle.std.proofs.Common.{◌≡◌, ℕ, ◌+◌, ◌-◌, ◌*◌, ◌/◌, ◌%◌, ◌<◌, ◌≤◌, Bool, true, false, cond, eqb, ltb, List, [], ◌++◌, length, get_or, refl, sym, ap, ◌∙◌, subst, arith, inl, inr, ◌⊎◌, length-append}
use Rattle.std.proofs.lemmas.Bool.{cases_eq, eq-eqb, ne_eqb, eqb-true, ltb-true, ltb-false}
use Rattle.std.proofs.lemmas.List.{get_or_append_left, get_or-append_right, get_or_default}
use Rattle.std.proofs.lemmas.Nat.{div-mul-add, mod-mul-add}
use Rattle.graph_theory.specs.Neighbours.{count}
use Rattle.domain_bits.specs.Removals as removals
use Rattle.domain_bits.proofs.Sizes.{count_some}
use Rattle.nogood_watch.specs.Lists.{no_watch, Chained, moved, renamed}
use Rattle.nogood_watch.specs.declared.watched.WatchAnswer.{WatchAnswer}
use Rattle.nogood_watch.specs.declared.watched.WatchAnswer.TheVariants.{Quiet, Forced, Fail}
use Rattle.nogood_watch.specs.Nogoods.{State, Nogood, literal, partner, nogood, nogood_of, AreLiterals, AreWatches}
use Rattle.nogood_watch.specs.Watching.{IsAssigned, IsGuarded, KeepsOrFrees, Follows, Answers, forced_at}
use Rattle.nogood_watch.specs.declared.watched.Entry.{Entry}
use Rattle.nogood_watch.specs.Inside.{cell, home_of, is_live, Kept}
use Rattle.nogood_watch.specs.Walking.{Visited, Ready, Walking, Walked, Tells, to_visit}
use Rattle.nogood_watch.proofs.Chains.{first_home, no_home, chained_same, moved_at, moved_other}
use Rattle.nogood_watch.proofs.Waiting.{count_less, half_count, visit_count}
use Rattle.nogood_watch.proofs.Visits.{partner_twice, partner_in, half_in, pair_is}
use Rattle.nogood_watch.proofs.Readiness.{cell_below, watch_in}

-- ---- one visit more

not_both : (b : Bool) → b ≡ true → b ≡ false → ⊥
not_both true e f = cc
not_both false e f = cc

-- what is guarded stays so
guarded_more : (d : removals.State) (w w' : List (ℕ × ℕ)) (forced more : List (ℕ × ℕ × ℕ)) (l : ℕ × ℕ) (x : ℕ) → literal w' x ≡ literal w x → literal w' (partner x) ≡ literal w (partner x)
    → IsGuarded d w forced l x → IsGuarded d w' (forced ++ more) l x
guarded_more d w w' forced more l x e f (inl free) = inl (λ s. free (subst (IsAssigned d) e s))
guarded_more d w w' forced more l x e f (inr (inl h)) = inr (inl (record {
  this = e ∙ h.this;
  place = h.place;
  within = rw length-append (omega (arith, h.within));
  vertex = ap (λ (k : ℕ × ℕ × ℕ). k.0) (get_or_append_left forced more (0, 0, 0) h.place h.within) ∙ h.vertex ∙ ap (λ (k : ℕ × ℕ). k.0) (sym f);
  value = ap (λ (k : ℕ × ℕ × ℕ). k.1) (get_or_append_left forced more (0, 0, 0) h.place h.within) ∙ h.value ∙ ap (λ (k : ℕ × ℕ). k.1) (sym f);
}))
guarded_more d w w' forced more l x e f (inr (inr h)) = inr (inr (record { this = e ∙ h.this; other = rw f h.other }))

-- the other watch is at another vertex
other_literal : (nogoods : List Nogood) (w : List (ℕ × ℕ)) (x : ℕ) (l : ℕ × ℕ) → AreWatches nogoods w → x < length w → literal w x ≡ l → literal w (partner x) ≡ l → ⊥
other_literal nogoods w x l a h e f = a.apart x h (ap (λ (k : ℕ × ℕ). k.0) (e ∙ sym f))

-- a watch moves once at most
moves_twice : (d : removals.State) (a b c : ℕ × ℕ) → KeepsOrFrees d a b → KeepsOrFrees d b c → KeepsOrFrees d a c
moves_twice d a b c (inl e) (inl f) = inl (f ∙ e)
moves_twice d a b c (inl e) (inr n) = inr (subst (IsAssigned d) e n.0, n.1)
moves_twice d a b c (inr m) (inl f) = inr (m.0, λ s. m.1 (subst (IsAssigned d) f s))
moves_twice d a b c (inr m) (inr n) = absurd (m.1 n.0)

pub walking_more : (d : removals.State) (nogoods : List Nogood) (live : List Bool) (start : List (ℕ × ℕ)) (l : ℕ × ℕ) (w w' : List (ℕ × ℕ)) (heads heads' next next' : List ℕ) (forced forced' : List (ℕ × ℕ × ℕ)) (x : ℕ)
    → ((i : ℕ) → i < length nogoods → AreLiterals d.vertices d.values (nogood nogoods i).literals) → AreWatches nogoods start
    → (a : Walking d nogoods live start l w heads next forced) → x < length w → a.home x ≡ d.vertices * d.values
    → Visited d nogoods w w' forced forced' x
    → ((home : ℕ → ℕ) → Chained home heads next → home x ≡ d.vertices * d.values → Chained (moved home x (cell d.values (literal w' x))) heads' next')
    → length heads' ≡ length heads → length next' ≡ length next → Walking d nogoods live start l w' heads' next' forced' × (to_visit heads' next' < to_visit heads next)
walking_more d nogoods live start l w w' heads heads' next next' forced forced' x are st a x-in at-hand v homes hl nl = (
  record {
    heads_long = hl ∙ a.heads_long;
    next_long = nl ∙ a.next_long ∙ sym v.long;
    start_long = a.start_long ∙ sym v.long;
    watches_are = v.watches_are;
    home = moved a.home x (cell d.values (literal w' x));
    chained = homes a.home a.chained at-hand;
    waits = λ z z-in e. waits z (rw v.long at z-in) e (cases_eq z x);
    rests = λ z z-in up n. rests z (rw v.long at z-in) up n (cases_eq z x);
    nowhere = λ z z-in down. to-rest z (λ e. not_both (is_live live z) (ap (is_live live) e ∙ x-live) down) ∙ a.nowhere z (rw v.long at z-in) down;
    done = λ z z-in up s n. done z (rw v.long at z-in) up s n (cases_eq z x) (cases_eq z (partner x));
    others = λ z z-in n. others z (rw v.long at z-in) n (cases_eq z x);
    moves = λ z z-in. moves_twice d (literal start z) (literal w z) (literal w' z) (a.moves z z-in) (v.moves z (omega (arith, z-in, a.start_long)));
    follows = λ k k-in. rw v.forces.after (follows k (rw v.forces.after at k-in) (cut (length forced) k));
    room = room;
  },
  omega (
    arith,
    less,
    visit_count a.home heads next (d.vertices * d.values) a.chained a.heads_long,
    subst (λ n. to_visit heads' next' ≡ count (λ z. eqb (to z) (d.vertices * d.values)) n) nl (visit_count to heads' next' (d.vertices * d.values) (homes a.home a.chained at-hand) (hl ∙ a.heads_long)),
  ),
)
  where
    y-in : partner x < length w
    y-in = partner_in x (length w) (length nogoods) a.watches_are.two x-in

    own : literal w x ≡ l
    own = (a.waits x x-in at-hand).0

    first : literal start x ≡ l
    first = (a.waits x x-in at-hand).1

    x-live : is_live live x ≡ true
    x-live = by (is_live live x) refl
      where
        by : (b : Bool) → is_live live x ≡ b → is_live live x ≡ true
        by true e = e
        by false e = absurd (omega (arith, a.nowhere x x-in e, at-hand))

    x-start : x < length start
    x-start = omega (arith, x-in, a.start_long)

    to : ℕ → ℕ
    to = moved a.home x (cell d.values (literal w' x))

    x-in' : x < length w'
    x-in' = omega (arith, x-in, v.long)

    x-away : to x ≡ d.vertices * d.values → ⊥
    x-away e =
        let r = watch_in d.vertices d.values nogoods w' x are v.watches_are x-in' in
        omega (arith, cell_below d.vertices d.values (literal w' x) r.0 r.1, sym (moved_at a.home x (cell d.values (literal w' x))) ∙ e)

    to-rest : (z : ℕ) → (z ≡ x → ⊥) → to z ≡ a.home z
    to-rest z n = moved_other a.home x (cell d.values (literal w' x)) z n

    cut : (n k : ℕ) → (k < n) ⊎ (n ≤ k)
    cut n k = by (ltb k n) refl
      where
        by : (b : Bool) → ltb k n ≡ b → (k < n) ⊎ (n ≤ k)
        by true e = inl (ltb-true k n e)
        by false e = inr (ltb-false k n e)

    waits : (z : ℕ) → z < length w → to z ≡ d.vertices * d.values → (z ≡ x) ⊎ (z ≡ x → ⊥) → (literal w' z ≡ l) × (literal start z ≡ l)
    waits z z-in e (inl f) = absurd (x-away (ap to (sym f) ∙ e))
    waits z z-in e (inr n) = let old = a.waits z z-in (sym (to-rest z n) ∙ e) in (v.others z n ∙ old.0, old.1)

    rests : (z : ℕ) → z < length w → is_live live z ≡ true → (to z ≡ d.vertices * d.values → ⊥) → (z ≡ x) ⊎ (z ≡ x → ⊥) → to z ≡ cell d.values (literal w' z)
    rests z z-in up n (inl f) = ap to f ∙ moved_at a.home x (cell d.values (literal w' x)) ∙ ap (λ k. cell d.values (literal w' k)) (sym f)
    rests z z-in up n (inr i) = to-rest z i ∙ a.rests z z-in up (λ e. n (to-rest z i ∙ e)) ∙ ap (cell d.values) (sym (v.others z i))

    partner-not-x : (z : ℕ) → (z ≡ partner x → ⊥) → partner z ≡ x → ⊥
    partner-not-x z n e = n (sym (partner_twice z) ∙ ap partner e)

    done : (z : ℕ) → z < length w → is_live live z ≡ true → literal start z ≡ l → (to z ≡ d.vertices * d.values → ⊥) → (z ≡ x) ⊎ (z ≡ x → ⊥) → (z ≡ partner x) ⊎ (z ≡ partner x → ⊥) → IsGuarded d w' forced' l z
    done z z-in up s n (inl f) _ = rw f (subst (λ (k : ℕ × ℕ). IsGuarded d w' forced' k x) own v.guarded)
    done z z-in up s n (inr _) (inl f) = absurd (other_literal nogoods start x l st x-start first (ap (literal start) (sym f) ∙ s))
    done z z-in up s n (inr i) (inr j) =
        rw v.forces.after (guarded_more d w w' forced v.forces.more l z (v.others z i) (v.others (partner z) (partner-not-x z j))
        (a.done z z-in up s (λ e. n (to-rest z i ∙ e))))

    others : (z : ℕ) → z < length w → (literal start z ≡ l → ⊥) → (z ≡ x) ⊎ (z ≡ x → ⊥) → literal w' z ≡ literal start z
    others z z-in n (inl f) = absurd (n (ap (literal start) f ∙ first))
    others z z-in n (inr i) = v.others z i ∙ a.others z z-in n

    follows : (k : ℕ) → k < length (forced ++ v.forces.more) → (k < length forced) ⊎ (length forced ≤ k)
        → (f : Follows d nogoods start w' l (forced_at (forced ++ v.forces.more) k)) × (to f.watch ≡ d.vertices * d.values → ⊥) × (is_live live f.watch ≡ true)
    follows k k-in (inl less) =
        let old = a.follows k less in
        let f = old.0 in
        let i : f.watch ≡ x → ⊥ = λ e. old.1 (ap a.home e ∙ at-hand) in
        let j : f.watch ≡ partner x → ⊥ = λ e. other_literal nogoods w x l a.watches_are x-in own (ap (literal w) (sym e) ∙ f.is) in
        rw (get_or_append_left forced v.forces.more (0, 0, 0) k less) (
          record {
            watch = f.watch;
            within = f.within;
            was = f.was;
            is = v.others f.watch i ∙ f.is;
            other = v.others (partner f.watch) (partner-not-x f.watch j) ∙ f.other;
            name = f.name;
            here = f.here;
            rest = f.rest;
          },
          λ e. old.1 (sym (to-rest f.watch i) ∙ e),
          old.2,
        )
    follows k k-in (inr more) =
        let at : k - length forced < length v.forces.more = omega (arith, rw length-append at k-in) in
        let new = v.forces.follows (k - length forced) at in
        let f = new.0 in
        rw (get_or-append_right forced v.forces.more (length forced) k (0, 0, 0) refl more) (
          record {
            watch = f.watch;
            within = omega (arith, f.within, a.start_long);
            was = ap (literal start) new.1 ∙ first;
            is = f.is ∙ own;
            other = f.other;
            name = f.name;
            here = f.here;
            rest = f.rest;
          },
          λ e. x-away (ap to (sym new.1) ∙ e),
          ap (is_live live) new.1 ∙ x-live,
        )

    still : (i : ℕ) → eqb (to i) (d.vertices * d.values) ≡ true → eqb (a.home i) (d.vertices * d.values) ≡ true
    still i e = by (cases_eq i x)
      where
        in-hand : to i ≡ d.vertices * d.values
        in-hand = eqb-true (to i) (d.vertices * d.values) e

        by : (i ≡ x) ⊎ (i ≡ x → ⊥) → eqb (a.home i) (d.vertices * d.values) ≡ true
        by (inl f) = absurd (x-away (ap to (sym f) ∙ in-hand))
        by (inr n) = eq-eqb (a.home i) (d.vertices * d.values) (sym (to-rest i n) ∙ in-hand)

    less : count (λ z. eqb (to z) (d.vertices * d.values)) (length next) + 1 ≤ count (λ z. eqb (a.home z) (d.vertices * d.values)) (length next)
    less = count_less (λ z. eqb (a.home z) (d.vertices * d.values)) (λ z. eqb (to z) (d.vertices * d.values)) (length next) x (omega (arith, x-in, a.next_long))
        (eq-eqb (a.home x) (d.vertices * d.values) at-hand) (ne_eqb (to x) (d.vertices * d.values) x-away) still

    room : length forced' + count (λ z. eqb (to z) (d.vertices * d.values)) (length next') ≤ length nogoods
    room =
        let long : length forced' ≡ length forced + length v.forces.more = ap length v.forces.after ∙ length-append forced v.forces.more in
        rw nl (omega (arith, less, long, v.forces.few, a.room))

-- ---- the beginning

cell_same : (values : ℕ) (a b : ℕ × ℕ) → a.1 < values → b.1 < values → cell values a ≡ cell values b → a ≡ b
cell_same values a b ha hb e = pair_is a b
    (sym (div-mul-add a.0 values a.1 ha) ∙ ap (λ k. k / values) e ∙ div-mul-add b.0 values b.1 hb)
    (sym (mod-mul-add a.0 values a.1 ha) ∙ ap (λ k. k % values) e ∙ mod-mul-add b.0 values b.1 hb)

-- where a watch is at home
pub home_live : (past values : ℕ) (live : List Bool) (w : List (ℕ × ℕ)) (x : ℕ) → is_live live x ≡ true → home_of past values live w x ≡ cell values (literal w x)
home_live past values live w x up = ap (λ (b : Bool). cond b (cell values (literal w x)) past) up

pub home_past : (past values : ℕ) (live : List Bool) (w : List (ℕ × ℕ)) (x : ℕ) → is_live live x ≡ false → home_of past values live w x ≡ past
home_past past values live w x down = ap (λ (b : Bool). cond b (cell values (literal w x)) past) down

-- a watch is in the list of its literal, or in none
is_home : (past values : ℕ) (live : List Bool) (w : List (ℕ × ℕ)) (x : ℕ) → ((is_live live x ≡ true) × (home_of past values live w x ≡ cell values (literal w x)))
    ⊎ ((is_live live x ≡ false) × (home_of past values live w x ≡ past))
is_home past values live w x = by (is_live live x) refl
  where
    by : (b : Bool) → is_live live x ≡ b → ((is_live live x ≡ true) × (home_of past values live w x ≡ cell values (literal w x)))
        ⊎ ((is_live live x ≡ false) × (home_of past values live w x ≡ past))
    by true e = inl (e, home_live past values live w x e)
    by false e = inr (e, home_past past values live w x e)

-- a list that was at one place and is at another
renamed_here : (home : ℕ → ℕ) (j k z : ℕ) → home z ≡ j → renamed home j k z ≡ k
renamed_here home j k z e = rw (eq-eqb (home z) j e) refl

renamed_else : (home : ℕ → ℕ) (j k z : ℕ) → (home z ≡ j → ⊥) → renamed home j k z ≡ home z
renamed_else home j k z n = rw (ne_eqb (home z) j n) refl

pub walking_first : (d : removals.State) (nogoods : List Nogood) (live : List Bool) (w : List (ℕ × ℕ)) (l : ℕ × ℕ) (heads heads' next : List ℕ) (v at hand : ℕ)
    → ((i : ℕ) → i < length nogoods → AreLiterals d.vertices d.values (nogood nogoods i).literals) → AreWatches nogoods w
    → length heads ≡ d.vertices * d.values + 1 → length next ≡ length w → Chained (home_of (d.vertices * d.values + 1) d.values live w) heads next
    → l.0 < d.vertices → l.1 < d.values → at ≡ cell v l → v ≡ d.values → hand ≡ length heads - 1
    → ((home : ℕ → ℕ) (k : List ℕ) → Chained home heads k → Chained (renamed home at hand) heads' k) → length heads' ≡ length heads
    → Walking d nogoods live w l w heads' next []
walking_first d nogoods live w l heads heads' next v at hand are watches heads-long next-long c p-in l-in at-is v-is hand-is taken long = record {
  heads_long = long ∙ heads-long;
  next_long = next-long;
  start_long = refl;
  watches_are = watches;
  home = renamed home at hand;
  chained = taken home next c;
  waits = λ z z-in e. waits z z-in e (cases_eq (home z) at);
  rests = λ z z-in up n. rests z z-in up n (cases_eq (home z) at);
  nowhere = λ z z-in down. nowhere z (home_past (d.vertices * d.values + 1) d.values live w z down);
  done = λ z z-in up s n. absurd (n (renamed_here home at hand z (home_live (d.vertices * d.values + 1) d.values live w z up ∙ ap (cell d.values) s ∙ sym at-cell) ∙ hand-at));
  others = λ z z-in n. refl;
  moves = λ z z-in. inl refl;
  follows = λ k h. absurd (omega arith);
  room = subst (λ n. 0 + count (λ z. eqb (renamed home at hand z) (d.vertices * d.values)) n ≤ length nogoods) (sym (next-long ∙ watches.two)) (omega (arith, half_count (λ z. eqb (renamed home at hand z) (d.vertices * d.values)) (length nogoods) not-both));
}
  where
    home : ℕ → ℕ
    home = home_of (d.vertices * d.values + 1) d.values live w

    hand-at : hand ≡ d.vertices * d.values
    hand-at = omega arith

    at-cell : at ≡ cell d.values l
    at-cell = at-is ∙ ap (λ k. cell k l) v-is

    at-below : at < d.vertices * d.values
    at-below = omega (arith, cell_below d.vertices d.values l p-in l-in, at-cell)

    below : (z : ℕ) → z < length w → cell d.values (literal w z) < d.vertices * d.values
    below z z-in = let r = watch_in d.vertices d.values nogoods w z are watches z-in in cell_below d.vertices d.values (literal w z) r.0 r.1

    waits : (z : ℕ) → z < length w → renamed home at hand z ≡ d.vertices * d.values → (home z ≡ at) ⊎ (home z ≡ at → ⊥) → (literal w z ≡ l) × (literal w z ≡ l)
    waits z z-in e (inl f) = by (is_home (d.vertices * d.values + 1) d.values live w z)
      where
        by : ((is_live live z ≡ true) × (home z ≡ cell d.values (literal w z))) ⊎ ((is_live live z ≡ false) × (home z ≡ d.vertices * d.values + 1)) → (literal w z ≡ l) × (literal w z ≡ l)
        by (inl h) =
            let same = cell_same d.values (literal w z) l (watch_in d.vertices d.values nogoods w z are watches z-in).1 l-in (sym h.1 ∙ f ∙ at-cell) in
            (same, same)
        by (inr h) = absurd (omega (arith, h.1, f, at-below))
    waits z z-in e (inr n) = by (is_home (d.vertices * d.values + 1) d.values live w z)
      where
        stays : home z ≡ d.vertices * d.values
        stays = sym (renamed_else home at hand z n) ∙ e

        by : ((is_live live z ≡ true) × (home z ≡ cell d.values (literal w z))) ⊎ ((is_live live z ≡ false) × (home z ≡ d.vertices * d.values + 1)) → (literal w z ≡ l) × (literal w z ≡ l)
        by (inl h) = absurd (omega (arith, h.1, stays, below z z-in))
        by (inr h) = absurd (omega (arith, h.1, stays))

    not-both : (z : ℕ) → z < 2 * length nogoods → eqb (renamed home at hand z) (d.vertices * d.values) ≡ true
        → eqb (renamed home at hand (partner z)) (d.vertices * d.values) ≡ true → ⊥
    not-both z h e f =
        let z-in : z < length w = omega (arith, h, watches.two) in
        let y-in = partner_in z (length w) (length nogoods) watches.two z-in in
        let this = waits z z-in (eqb-true (renamed home at hand z) (d.vertices * d.values) e) (cases_eq (home z) at) in
        let other = waits (partner z) y-in (eqb-true (renamed home at hand (partner z)) (d.vertices * d.values) f) (cases_eq (home (partner z)) at) in
        other_literal nogoods w z l watches z-in this.0 other.0

    rests : (z : ℕ) → z < length w → is_live live z ≡ true → (renamed home at hand z ≡ d.vertices * d.values → ⊥) → (home z ≡ at) ⊎ (home z ≡ at → ⊥)
        → renamed home at hand z ≡ cell d.values (literal w z)
    rests z z-in up n (inl f) = absurd (n (renamed_here home at hand z f ∙ hand-at))
    rests z z-in up n (inr m) = renamed_else home at hand z m ∙ home_live (d.vertices * d.values + 1) d.values live w z up

    nowhere : (z : ℕ) → home z ≡ d.vertices * d.values + 1 → renamed home at hand z ≡ d.vertices * d.values + 1
    nowhere z e = renamed_else home at hand z (λ f. omega (arith, e, f, at-below)) ∙ e

-- ---- on the way

-- the first watch in hand may be visited
pub walking_ready : (d : removals.State) (nogoods : List Nogood) (live : List Bool) (start : List (ℕ × ℕ)) (l : ℕ × ℕ) (w : List (ℕ × ℕ)) (heads next : List ℕ) (forced : List (ℕ × ℕ × ℕ)) (hand : ℕ)
    → ((i : ℕ) → i < length nogoods → AreLiterals d.vertices d.values (nogood nogoods i).literals) → IsAssigned d l
    → Walking d nogoods live start l w heads next forced → hand ≡ d.vertices * d.values → (get_or heads hand 0 ≡ no_watch → ⊥)
    → Ready d nogoods w heads next (get_or heads hand 0)
walking_ready d nogoods live start l w heads next forced hand are assigned a h some = record {
  heads_long = a.heads_long;
  next_long = a.next_long;
  literals_are = are;
  watches_are = a.watches_are;
  few = a.chained.few;
  x_in = x-in;
  first = ap (λ k. get_or heads k 0) (sym h);
  assigned = subst (IsAssigned d) (sym own) assigned;
}
  where
    first : (get_or heads hand 0 < length next) × (a.home (get_or heads hand 0) ≡ hand)
    first = first_home a.home heads next hand a.chained (omega (arith, a.heads_long)) some

    x-in : get_or heads hand 0 < length w
    x-in = omega (arith, first.0, a.next_long)

    at-hand : a.home (get_or heads hand 0) ≡ d.vertices * d.values
    at-hand = first.1 ∙ h

    own : literal w (get_or heads hand 0) ≡ l
    own = (a.waits (get_or heads hand 0) x-in at-hand).0

pub walking_room : (d : removals.State) (nogoods : List Nogood) (live : List Bool) (start : List (ℕ × ℕ)) (l : ℕ × ℕ) (w : List (ℕ × ℕ)) (heads next : List ℕ) (forced : List (ℕ × ℕ × ℕ)) (hand : ℕ)
    → Walking d nogoods live start l w heads next forced → hand ≡ d.vertices * d.values → (get_or heads hand 0 ≡ no_watch → ⊥) → length forced < length nogoods
walking_room d nogoods live start l w heads next forced hand a h some =
    let first = first_home a.home heads next hand a.chained (omega (arith, a.heads_long)) some in
    omega (arith, a.room, count_some (λ z. eqb (a.home z) (d.vertices * d.values)) (length next) (get_or heads hand 0) first.0 (eq-eqb (a.home (get_or heads hand 0)) (d.vertices * d.values) (first.1 ∙ h)))

-- the visit of the first watch in hand
pub walking_next : (d : removals.State) (nogoods : List Nogood) (live : List Bool) (start : List (ℕ × ℕ)) (l : ℕ × ℕ) (w w' : List (ℕ × ℕ)) (heads heads' next next' : List ℕ) (forced forced' : List (ℕ × ℕ × ℕ)) (hand : ℕ)
    → ((i : ℕ) → i < length nogoods → AreLiterals d.vertices d.values (nogood nogoods i).literals) → AreWatches nogoods start
    → Walking d nogoods live start l w heads next forced → hand ≡ d.vertices * d.values → (get_or heads hand 0 ≡ no_watch → ⊥)
    → Visited d nogoods w w' forced forced' (get_or heads hand 0)
    → ((home : ℕ → ℕ) → Chained home heads next → home (get_or heads hand 0) ≡ d.vertices * d.values → Chained (moved home (get_or heads hand 0) (cell d.values (literal w' (get_or heads hand 0)))) heads' next')
    → length heads' ≡ length heads → length next' ≡ length next → Walking d nogoods live start l w' heads' next' forced' × (to_visit heads' next' < to_visit heads next)
walking_next d nogoods live start l w w' heads heads' next next' forced forced' hand are st a h some v homes hl nl =
    let first = first_home a.home heads next hand a.chained (omega (arith, a.heads_long)) some in
    walking_more d nogoods live start l w w' heads heads' next next' forced forced' (get_or heads hand 0) are st a (omega (arith, first.0, a.next_long)) (first.1 ∙ h) v homes hl nl

-- ---- the end

-- nobody is in hand any more
ended : (d : removals.State) (nogoods : List Nogood) (live : List Bool) (start : List (ℕ × ℕ)) (l : ℕ × ℕ) (w : List (ℕ × ℕ)) (heads next : List ℕ) (forced : List (ℕ × ℕ × ℕ))
    → (a : Walking d nogoods live start l w heads next forced) → get_or heads (d.vertices * d.values) 0 ≡ no_watch → (x : ℕ) → x < length w → a.home x ≡ d.vertices * d.values → ⊥
ended d nogoods live start l w heads next forced a none x x-in = no_home a.home heads next (d.vertices * d.values) x a.chained (omega (arith, a.heads_long)) none (omega (arith, x-in, a.next_long))

pub walking_chained : (d : removals.State) (nogoods : List Nogood) (live : List Bool) (start : List (ℕ × ℕ)) (l : ℕ × ℕ) (w : List (ℕ × ℕ)) (heads next : List ℕ) (forced : List (ℕ × ℕ × ℕ))
    → Walking d nogoods live start l w heads next forced → get_or heads (d.vertices * d.values) 0 ≡ no_watch → Chained (home_of (d.vertices * d.values + 1) d.values live w) heads next
walking_chained d nogoods live start l w heads next forced a none =
    chained_same a.home (home_of (d.vertices * d.values + 1) d.values live w) heads next a.chained (λ y h. same y (omega (arith, h, a.next_long)) (is_home (d.vertices * d.values + 1) d.values live w y))
  where
    same : (y : ℕ) → y < length w → ((is_live live y ≡ true) × (home_of (d.vertices * d.values + 1) d.values live w y ≡ cell d.values (literal w y)))
        ⊎ ((is_live live y ≡ false) × (home_of (d.vertices * d.values + 1) d.values live w y ≡ d.vertices * d.values + 1)) → home_of (d.vertices * d.values + 1) d.values live w y ≡ a.home y
    same y y-in (inl h) = h.1 ∙ sym (a.rests y y-in h.0 (ended d nogoods live start l w heads next forced a none y y-in))
    same y y-in (inr h) = h.1 ∙ sym (a.nowhere y y-in h.0)

pub walking_done : (d : removals.State) (nogoods : List Nogood) (live : List Bool) (start : List (ℕ × ℕ)) (l : ℕ × ℕ) (w : List (ℕ × ℕ)) (heads next : List ℕ) (forced : List (ℕ × ℕ × ℕ))
    → Walking d nogoods live start l w heads next forced → get_or heads (d.vertices * d.values) 0 ≡ no_watch → Walked d nogoods live start w l forced
walking_done d nogoods live start l w heads next forced a none = record {
  guarded = λ x h up e. a.done x (omega (arith, h, a.start_long)) up e (ended d nogoods live start l w heads next forced a none x (omega (arith, h, a.start_long)));
  others = λ x h n. a.others x (omega (arith, h, a.start_long)) n;
  moves = a.moves;
  follows = λ k h. let f = a.follows k h in (f.0, f.2);
}

-- ---- what is forced

-- a forced pair is a vertex and a value
pub forced_in : (d : removals.State) (nogoods : List Nogood) (old new : List (ℕ × ℕ)) (l : ℕ × ℕ) (e : ℕ × ℕ × ℕ) → ((i : ℕ) → i < length nogoods → AreLiterals d.vertices d.values (nogood nogoods i).literals)
    → AreWatches nogoods old → AreWatches nogoods new → Follows d nogoods old new l e → (e.0 < d.vertices) × (e.1 < d.values)
forced_in d nogoods old new l e are a b f =
    let y-in = partner_in f.watch (length new) (length nogoods) b.two (omega (arith, f.within, a.two, b.two)) in
    let r = watch_in d.vertices d.values nogoods new (partner f.watch) are b y-in in
    (subst (λ (k : ℕ × ℕ). k.0 < d.vertices) f.other r.0, subst (λ (k : ℕ × ℕ). k.1 < d.values) f.other r.1)

-- the answers say so of the nogoods
pub answers_are : (r : WatchAnswer) (d : removals.State) (s : State) (old new : List (ℕ × ℕ)) (l : ℕ × ℕ) → AreWatches s.nogoods old
    → ((k : ℕ) → k < length s.forced → Follows d s.nogoods old new l (forced_at s.forced k)) → Tells r d s.forced → Answers r d s
answers_are Quiet d s old new l a follows t = t
answers_are Forced d s old new l a follows t = t
answers_are (Fail name) d s old new l a follows t =
    let f = follows t.0 t.1 in
    record {
      place = f.watch / 2;
      within = half_in f.watch (length old) (length s.nogoods) a.two f.within;
      named = f.name ∙ t.2;
      all = λ j h. pick j (f.rest j h) t.3;
    }
  where
    pick : (j : ℕ) → (literal (nogood_of s.nogoods (follows t.0 t.1).watch).literals j ≡ ((forced_at s.forced t.0).0, (forced_at s.forced t.0).1)) ⊎ IsAssigned d (literal (nogood_of s.nogoods (follows t.0 t.1).watch).literals j)
        → IsAssigned d ((forced_at s.forced t.0).0, (forced_at s.forced t.0).1) → IsAssigned d (literal (nogood_of s.nogoods (follows t.0 t.1).watch).literals j)
    pick j (inl e) here = subst (IsAssigned d) (sym e) here
    pick j (inr h) here = h

-- ---- where no walk is needed

-- where the list of a literal, read as `v`, is empty, no live nogood is watched there
pub none_watched : (vertices values : ℕ) (literals : List (ℕ × ℕ)) (entries : List Entry) (live : List Bool) (watches : List (ℕ × ℕ)) (heads next : List ℕ) (capacity : ℕ) (l : ℕ × ℕ) (at v : ℕ)
    → Kept vertices values literals entries live watches heads next capacity → l.0 < vertices → l.1 < values → at ≡ cell values l → v ≡ get_or heads at v → v ≡ no_watch
    → (x : ℕ) → x < length watches → is_live live x ≡ true → literal watches x ≡ l → ⊥
none_watched vertices values literals entries live watches heads next capacity l at v k p_in t_in e read none x x-in up here =
    let inside : at < length heads = omega (arith, e, cell_below vertices values l p_in t_in, k.heads_long) in
    no_home (home_of (vertices * values + 1) values live watches) heads next at x k.chained inside (get_or_default heads at 0 v inside ∙ sym read ∙ none) (omega (arith, k.next_long, x-in))
    (home_live (vertices * values + 1) values live watches x up ∙ ap (cell values) here ∙ sym e)

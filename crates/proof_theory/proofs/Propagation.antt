-- What unit propagation forces stays forced in a wider setting and with more forms, so the order in which it goes does not matter.
use Rattle.std.proofs.Common.{◌≡◌, ℕ, zero, suc, ◌+◌, ◌≤◌, Bool, true, false, cond, not, ◌==◌, ◌||◌, List, [], ◌∷◌, ℤ, pos, negsuc, ◌<ℤ◌, unsigned_abs, int_lt, refl, sym, ap, ◌∙◌, subst, arith, Option, Some, None, inl, inr, ◌⊎◌}
use Rattle.std.proofs.lemmas.Int.{ints}
use Rattle.std.proofs.lemmas.Bool.{eqb-true, eq-eqb, or_cases, cases_Bool}
use Rattle.proof_theory.specs.declared.literal.Literal.{Literal}
use Rattle.proof_theory.specs.Forms.{Form, Holds, Satisfies, total}
use Rattle.proof_theory.specs.Rules.{degree}
use Rattle.proof_theory.specs.Slack.{Setting, open_at, open_sum, slack, conflict, Forces, wanted, forced_by, forced_at, or_else, after, refutes, negations, clause_holds}
use Rattle.proof_theory.specs.Propagation.{IsAmong, Value, with_value, ForcesValue, IsForced, HasConflict, EndsInConflict, Extends, Closes, any_conflict, unless_set, first_above, or_next, first_forced, unset_one, unset_places, passes, closes_within, closes}
use Rattle.proof_theory.proofs.Refutation.{Agrees, no_conflict, negations_agree, unwanted_weight, forced_term, some_same}

-- ---- settings that are wider

cond_below : (b : Bool) (n : ℕ) → cond b n 0 ≤ n
cond_below true n = omega arith
cond_below false n = omega arith

open_term : (o p : Option Bool) (c : ℤ) → ((b : Bool) → o ≡ Some b → p ≡ Some b) → cond (open_at p c) (unsigned_abs c) 0 ≤ cond (open_at o c) (unsigned_abs c) 0
open_term None p c h = cond_below (open_at p c) (unsigned_abs c)
open_term (Some b) p c h = let e : p ≡ Some b = h b refl in rw e (omega arith)

-- What is open in a wider setting is open.
open_less : (s t : Setting) (ts : List (ℕ × ℤ)) → Extends t s → open_sum t ts ≤ open_sum s ts
open_less s t [] h = omega arith
open_less s t (u ∷ us) h =
    let k = open_less s t us h in
    let e = open_term (s u.0) (t u.0) u.1 (h.kept u.0) in
    omega arith

-- A term whose literal became false is open no more.
open_lost : (s t : Setting) (ts : List (ℕ × ℤ)) (u : ℕ × ℤ) → Extends t s → IsAmong u ts → s u.0 ≡ None → t u.0 ≡ Some (not (wanted u.1)) → open_sum t ts + unsigned_abs u.1 ≤ open_sum s ts
open_lost s t [] u h i unset lost = absurd i
open_lost s t (w ∷ ws) u h (inl e) unset lost =
    let m = open_less s t ws h in
    let z : cond (open_at (t u.0) u.1) (unsigned_abs u.1) 0 ≡ 0 = ap (λ (q : Option Bool). cond (open_at q u.1) (unsigned_abs u.1) 0) lost ∙ unwanted_weight u.1 (not (wanted u.1)) refl in
    let o : cond (open_at (s u.0) u.1) (unsigned_abs u.1) 0 ≡ unsigned_abs u.1 = ap (λ (q : Option Bool). cond (open_at q u.1) (unsigned_abs u.1) 0) unset in
    subst (λ (x : ℕ × ℤ). open_sum t (x ∷ ws) + unsigned_abs u.1 ≤ open_sum s (x ∷ ws)) e (omega arith)
open_lost s t (w ∷ ws) u h (inr i) unset lost =
    let m = open_lost s t ws u h i unset lost in
    let e = open_term (s w.0) (t w.0) w.1 (h.kept w.0) in
    omega arith

-- A conflict stays one.
pub conflict_wider : (s t : Setting) (f : Form) → Extends t s → conflict s f ≡ true → conflict t f ≡ true
conflict_wider s t f h c =
    let m = open_less s t f.terms h in
    let k : slack s f <ℤ pos 0 = grind (arith, ints) in
    let j : slack t f <ℤ pos 0 = omega (arith, ints) in
    grind (arith, ints)

-- A conflict of a term whose literal was forced and is false.
conflict_lost : (s t : Setting) (f : Form) (u : ℕ × ℤ) → Extends t s → IsAmong u f.terms → Forces s f u → t u.0 ≡ Some (not (wanted u.1)) → conflict t f ≡ true
conflict_lost s t f u h i p lost =
    let m = open_lost s t f.terms u h i p.unset lost in
    let q : slack s f <ℤ pos (unsigned_abs u.1) = p.exceeds in
    let j : slack t f <ℤ pos 0 = omega (arith, ints) in
    grind (arith, ints)

either : (x b : Bool) → (x ≡ b) ⊎ (x ≡ not b)
either true true = inl refl
either false false = inl refl
either true false = inr refl
either false true = inr refl

-- What is forced is forced in a wider setting, or true there, or its form is in conflict there.
pub forces_wider : (s t : Setting) (f : Form) (l : Value) → Extends t s → ForcesValue s f l → ForcesValue t f l ⊎ ((t l.0 ≡ Some l.1) ⊎ (conflict t f ≡ true))
forces_wider s t f l h p = by-value (t p.term.0) refl
  where
    by-value : (o : Option Bool) → t p.term.0 ≡ o → ForcesValue t f l ⊎ ((t l.0 ≡ Some l.1) ⊎ (conflict t f ≡ true))
    by-value None e =
        let m = open_less s t f.terms h in
        let q : slack s f <ℤ pos (unsigned_abs p.term.1) = p.forces.exceeds in
        let j : slack t f <ℤ pos (unsigned_abs p.term.1) = omega (arith, ints) in
        inl (record { term = p.term; among = p.among; forces = record { unset = e; exceeds = j }; is = p.is })
    by-value (Some b) e = by-truth (either b (wanted p.term.1))
      where
        by-truth : (b ≡ wanted p.term.1) ⊎ (b ≡ not (wanted p.term.1)) → ForcesValue t f l ⊎ ((t l.0 ≡ Some l.1) ⊎ (conflict t f ≡ true))
        by-truth (inl g) = inr (inl (subst (λ (x : Value). t x.0 ≡ Some x.1) (sym p.is) (e ∙ ap (λ (x : Bool). Some x) g)))
        by-truth (inr g) = inr (inr (conflict_lost s t f p.term h p.among p.forces (e ∙ ap (λ (x : Bool). Some x) g)))

extends_both : (s t : Setting) (l : Value) → Extends t s → Extends (with_value t l) (with_value s l)
extends_both s t l h = record { kept = λ v b e. at v b (l.0 == v) e }
  where
    at : (v : ℕ) (b x : Bool) → cond x (Some l.1) (s v) ≡ Some b → cond x (Some l.1) (t v) ≡ Some b
    at v b true e = e
    at v b false e = h.kept v b e

extends_with : (s t : Setting) (l : Value) → Extends t s → t l.0 ≡ Some l.1 → Extends t (with_value s l)
extends_with s t l h i = record { kept = λ v b e. at v b (l.0 == v) refl e }
  where
    at : (v : ℕ) (b x : Bool) → (l.0 == v) ≡ x → cond x (Some l.1) (s v) ≡ Some b → t v ≡ Some b
    at v b true g e = ap t (sym (eqb-true l.0 v g)) ∙ i ∙ e
    at v b false g e = h.kept v b e

pub extends_more : (s : Setting) (l : Value) → s l.0 ≡ None → Extends (with_value s l) s
extends_more s l unset = record { kept = λ v b e. at v b (l.0 == v) refl e }
  where
    at : (v : ℕ) (b x : Bool) → (l.0 == v) ≡ x → s v ≡ Some b → cond x (Some l.1) (s v) ≡ Some b
    at v b true g e = let n : s v ≡ None = ap s (sym (eqb-true l.0 v g)) ∙ unset in absurd cc
    at v b false g e = e

pub extends_itself : (s : Setting) → Extends s s
extends_itself s = record { kept = λ v b e. e }

pub extends_on : (s t u : Setting) → Extends t s → Extends u t → Extends u s
extends_on s t u h k = record { kept = λ v b e. k.kept v b (h.kept v b e) }

value_unset : (s : Setting) (f : Form) (l : Value) → ForcesValue s f l → s l.0 ≡ None
value_unset s f l p = subst (λ (x : Value). s x.0 ≡ None) (sym p.is) p.forces.unset

-- Literals that lead to a conflict do so from a wider setting, without those that are true there.
widen : (s t : Setting) (fs : List Form) (ls : List Value) → Extends t s → EndsInConflict s fs ls → Closes t fs
widen s t fs [] h c = record { literals = []; ends = record { form = c.form; among = c.among; conflicts = conflict_wider s t c.form h c.conflicts } }
widen s t fs (l ∷ ls) h e =
    by-case (λ k. widen (with_value s l) (with_value t l) fs ls k e.1) (λ k. widen (with_value s l) t fs ls k e.1) (forces_wider s t e.0.form l h e.0.forces)
  where
    by-case : (Extends (with_value t l) (with_value s l) → Closes (with_value t l) fs) → (Extends t (with_value s l) → Closes t fs) → ForcesValue t e.0.form l ⊎ ((t l.0 ≡ Some l.1) ⊎ (conflict t e.0.form ≡ true)) → Closes t fs
    by-case more same (inl g) =
        let r = more (extends_both s t l h) in
        record { literals = l ∷ r.literals; ends = (record { form = e.0.form; among = e.0.among; forces = g }, r.ends) }
    by-case more same (inr (inl g)) = same (extends_with s t l h g)
    by-case more same (inr (inr g)) = record { literals = []; ends = record { form = e.0.form; among = e.0.among; conflicts = g } }

pub closes_wider : (s t : Setting) (fs : List Form) → Extends t s → Closes s fs → Closes t fs
closes_wider s t fs h c = widen s t fs c.literals h c.ends

ends_more : (s : Setting) (fs gs : List Form) (ls : List Value) → ((f : Form) → IsAmong f fs → IsAmong f gs) → EndsInConflict s fs ls → EndsInConflict s gs ls
ends_more s fs gs [] h e = record { form = e.form; among = h e.form e.among; conflicts = e.conflicts }
ends_more s fs gs (l ∷ ls) h e = (record { form = e.0.form; among = h e.0.form e.0.among; forces = e.0.forces }, ends_more (with_value s l) fs gs ls h e.1)

-- More forms close what fewer close.
pub closes_more : (s : Setting) (fs gs : List Form) → ((f : Form) → IsAmong f fs → IsAmong f gs) → Closes s fs → Closes s gs
closes_more s fs gs h c = record { literals = c.literals; ends = ends_more s fs gs c.literals h c.ends }

-- ---- the computed form

or_left : (a b : Bool) → a ≡ true → (a || b) ≡ true
or_left true b e = refl
or_left false b e = absurd cc

or_right : (a b : Bool) → b ≡ true → (a || b) ≡ true
or_right true b e = refl
or_right false b e = e

pub conflict_found : (s : Setting) (fs : List Form) → any_conflict s fs ≡ true → HasConflict s fs
conflict_found s [] e = absurd cc
conflict_found s (f ∷ fs) e = by-cases (λ g. conflict_found s fs g) (or_cases (conflict s f) (any_conflict s fs) e)
  where
    by-cases : (any_conflict s fs ≡ true → HasConflict s fs) → (conflict s f ≡ true) ⊎ (any_conflict s fs ≡ true) → HasConflict s (f ∷ fs)
    by-cases ih (inl c) = record { form = f; among = inl refl; conflicts = c }
    by-cases ih (inr r) = let k = ih r in record { form = k.form; among = inr k.among; conflicts = k.conflicts }

conflict_at : (s : Setting) (f : Form) (fs : List Form) → IsAmong f fs → conflict s f ≡ true → any_conflict s fs ≡ true
conflict_at s f [] i c = absurd i
conflict_at s f (g ∷ gs) (inl e) c = or_left (conflict s g) (any_conflict s gs) (subst (λ (x : Form). conflict s x ≡ true) e c)
conflict_at s f (g ∷ gs) (inr i) c = or_right (conflict s g) (any_conflict s gs) (conflict_at s f gs i c)

pub conflict_there : (s : Setting) (fs : List Form) → HasConflict s fs → any_conflict s fs ≡ true
conflict_there s fs c = conflict_at s c.form fs c.among c.conflicts

-- A term of a list that a slack forces.
record Above (s : Setting) (k : ℤ) (ts : List (ℕ × ℤ)) (l : Value) : Type 0 where
  term : ℕ × ℤ
  among : IsAmong term ts
  unset : s term.0 ≡ None
  exceeds : k <ℤ pos (unsigned_abs term.1)
  is : l ≡ (term.0, wanted term.1)

first_is_above : (s : Setting) (k : ℤ) (ts : List (ℕ × ℤ)) (l : Value) → first_above s k ts ≡ Some l → Above s k ts l
first_is_above s k [] l e = absurd cc
first_is_above s k (t ∷ ts) l e = by-cases (first_is_above s k ts l) (s t.0) refl (int_lt k (pos (unsigned_abs t.1))) refl e
  where
    further : Above s k ts l → Above s k (t ∷ ts) l
    further a = record { term = a.term; among = inr a.among; unset = a.unset; exceeds = a.exceeds; is = a.is }

    by-cases : (first_above s k ts ≡ Some l → Above s k ts l) → (o : Option Bool) → s t.0 ≡ o → (x : Bool) → int_lt k (pos (unsigned_abs t.1)) ≡ x → unless_set o x (t.0, wanted t.1) (first_above s k ts) ≡ Some l → Above s k (t ∷ ts) l
    by-cases ih None g true h i = record { term = t; among = inl refl; unset = g; exceeds = grind (arith, ints); is = cc }
    by-cases ih None g false h i = further (ih i)
    by-cases ih (Some b) g x h i = further (ih i)

none_above : (s : Setting) (k : ℤ) (ts : List (ℕ × ℤ)) (t : ℕ × ℤ) → first_above s k ts ≡ None → IsAmong t ts → s t.0 ≡ None → k <ℤ pos (unsigned_abs t.1) → ⊥
none_above s k [] t e i unset above = i
none_above s k (u ∷ us) t e (inl g) unset above =
    let n : s u.0 ≡ None = subst (λ (x : ℕ × ℤ). s x.0 ≡ None) g unset in
    let a : k <ℤ pos (unsigned_abs u.1) = subst (λ (x : ℕ × ℤ). k <ℤ pos (unsigned_abs x.1)) g above in
    let b : int_lt k (pos (unsigned_abs u.1)) ≡ true = grind (arith, ints) in
    let f : unless_set None true (u.0, wanted u.1) (first_above s k us) ≡ None =
    subst (λ (x : Bool). unless_set None x (u.0, wanted u.1) (first_above s k us) ≡ None) b (subst (λ (o : Option Bool). unless_set o (int_lt k (pos (unsigned_abs u.1))) (u.0, wanted u.1) (first_above s k us) ≡ None) n e) in
    absurd cc
none_above s k (u ∷ us) t e (inr i) unset above = by-cases (λ g. none_above s k us t g i unset above) (s u.0) (int_lt k (pos (unsigned_abs u.1))) e
  where
    by-cases : (first_above s k us ≡ None → ⊥) → (o : Option Bool) (x : Bool) → unless_set o x (u.0, wanted u.1) (first_above s k us) ≡ None → ⊥
    by-cases ih None true g = absurd cc
    by-cases ih None false g = ih g
    by-cases ih (Some b) x g = ih g

-- The first literal that is forced is forced.
pub first_is_forced : (s : Setting) (fs : List Form) (l : Value) → first_forced s fs ≡ Some l → IsForced s fs l
first_is_forced s [] l e = absurd cc
first_is_forced s (f ∷ fs) l e = by-first (first_is_forced s fs l) (first_above s (slack s f) f.terms) refl e
  where
    by-first : (first_forced s fs ≡ Some l → IsForced s fs l) → (o : Option Value) → first_above s (slack s f) f.terms ≡ o → or_next o (first_forced s fs) ≡ Some l → IsForced s (f ∷ fs) l
    by-first ih None g h = let k = ih h in record { form = k.form; among = inr k.among; forces = k.forces }
    by-first ih (Some m) g h =
        let a = first_is_above s (slack s f) f.terms l (g ∙ h) in
        record { form = f; among = inl refl; forces = record { term = a.term; among = a.among; forces = record { unset = a.unset; exceeds = a.exceeds }; is = a.is } }

none_forced_by : (s : Setting) (f : Form) (fs : List Form) (l : Value) → first_forced s fs ≡ None → IsAmong f fs → ForcesValue s f l → ⊥
none_forced_by s f [] l e i p = i
none_forced_by s f (g ∷ gs) l e i p = by-first (λ h j. none_forced_by s f gs l h j p) (first_above s (slack s g) g.terms) refl e i
  where
    by-first : (first_forced s gs ≡ None → IsAmong f gs → ⊥) → (o : Option Value) → first_above s (slack s g) g.terms ≡ o → or_next o (first_forced s gs) ≡ None → (f ≡ g) ⊎ IsAmong f gs → ⊥
    by-first ih None h k (inl j) = none_above s (slack s f) f.terms p.term (subst (λ (x : Form). first_above s (slack s x) x.terms ≡ None) (sym j) h) p.among p.forces.unset p.forces.exceeds
    by-first ih None h k (inr j) = ih k j
    by-first ih (Some m) h k j = absurd cc

-- Where there is no first literal, none is forced.
pub none_forced : (s : Setting) (fs : List Form) (l : Value) → first_forced s fs ≡ None → IsForced s fs l → ⊥
none_forced s fs l e p = none_forced_by s p.form fs l e p.among p.forces

-- ---- one more literal leaves fewer places

unset_less : (s : Setting) (l : Value) (v : ℕ) → unset_one (with_value s l v) ≤ unset_one (s v)
unset_less s l v = by-test (l.0 == v)
  where
    by-test : (x : Bool) → unset_one (cond x (Some l.1) (s v)) ≤ unset_one (s v)
    by-test true = omega arith
    by-test false = omega arith

terms_less : (s : Setting) (l : Value) (ts : List (ℕ × ℤ)) → total (λ t. unset_one (with_value s l t.0)) ts ≤ total (λ t. unset_one (s t.0)) ts
terms_less s l [] = omega arith
terms_less s l (t ∷ ts) = let k = terms_less s l ts in let e = unset_less s l t.0 in omega arith

terms_fewer : (s : Setting) (l : Value) (ts : List (ℕ × ℤ)) (t : ℕ × ℤ) → IsAmong t ts → s t.0 ≡ None → l ≡ (t.0, wanted t.1) → total (λ u. unset_one (with_value s l u.0)) ts + 1 ≤ total (λ u. unset_one (s u.0)) ts
terms_fewer s l [] t i unset is = absurd i
terms_fewer s l (u ∷ us) t (inl e) unset is =
    let k = terms_less s l us in
    let a : l.0 ≡ u.0 = ap (λ (x : Value). x.0) is ∙ ap (λ (x : ℕ × ℤ). x.0) e in
    let b : unset_one (with_value s l u.0) ≡ 0 = ap (λ (x : Bool). unset_one (cond x (Some l.1) (s u.0))) (eq-eqb l.0 u.0 a) in
    let c : unset_one (s u.0) ≡ 1 = ap (λ (o : Option Bool). unset_one o) (subst (λ (x : ℕ × ℤ). s x.0 ≡ None) e unset) in
    omega arith
terms_fewer s l (u ∷ us) t (inr i) unset is = let k = terms_fewer s l us t i unset is in let e = unset_less s l u.0 in omega arith

places_less : (s : Setting) (l : Value) (fs : List Form) → unset_places (with_value s l) fs ≤ unset_places s fs
places_less s l [] = omega arith
places_less s l (f ∷ fs) = let k = places_less s l fs in let e = terms_less s l f.terms in omega arith

places_fewer_by : (s : Setting) (l : Value) (f : Form) (fs : List Form) → IsAmong f fs → ForcesValue s f l → unset_places (with_value s l) fs + 1 ≤ unset_places s fs
places_fewer_by s l f [] i p = absurd i
places_fewer_by s l f (g ∷ gs) (inl e) p =
    let k = places_less s l gs in
    let m : total (λ u. unset_one (with_value s l u.0)) g.terms + 1 ≤ total (λ u. unset_one (s u.0)) g.terms =
    subst (λ (x : Form). total (λ u. unset_one (with_value s l u.0)) x.terms + 1 ≤ total (λ u. unset_one (s u.0)) x.terms) e (terms_fewer s l f.terms p.term p.among p.forces.unset p.is) in
    omega arith
places_fewer_by s l f (g ∷ gs) (inr i) p = let k = places_fewer_by s l f gs i p in let e = terms_less s l g.terms in omega arith

places_fewer : (s : Setting) (l : Value) (fs : List Form) → IsForced s fs l → unset_places (with_value s l) fs + 1 ≤ unset_places s fs
places_fewer s l fs p = places_fewer_by s l p.form fs p.among p.forces

-- ---- the computed form and the relation

one_more : (s : Setting) (fs : List Form) (l : Value) → IsForced s fs l → Closes (with_value s l) fs → Closes s fs
one_more s fs l p c = record { literals = l ∷ c.literals; ends = (p, c.ends) }

at_conflict : (s : Setting) (fs : List Form) → HasConflict s fs → Closes s fs
at_conflict s fs c = record { literals = []; ends = c }

within_found : (k : ℕ) (s : Setting) (fs : List Form) → closes_within k s fs ≡ true → Closes s fs
within_found zero s fs e = at_conflict s fs (conflict_found s fs e)
within_found (suc k) s fs e =
    by-cases (λ l g. within_found k (with_value s l) fs g) (first_forced s fs) refl (or_cases (any_conflict s fs) (passes (λ l. closes_within k (with_value s l) fs) (first_forced s fs)) e)
  where
    by-cases : ((l : Value) → closes_within k (with_value s l) fs ≡ true → Closes (with_value s l) fs) → (o : Option Value) → first_forced s fs ≡ o → (any_conflict s fs ≡ true) ⊎ (passes (λ l. closes_within k (with_value s l) fs) o ≡ true) → Closes s fs
    by-cases ih o g (inl c) = at_conflict s fs (conflict_found s fs c)
    by-cases ih None g (inr c) = absurd cc
    by-cases ih (Some l) g (inr c) = one_more s fs l (first_is_forced s fs l g) (ih l c)

-- Where nothing is forced, a conflict is there at once.
pub at_rest : (s : Setting) (fs : List Form) → ((l : Value) → IsForced s fs l → ⊥) → Closes s fs → HasConflict s fs
at_rest s fs h c = by-list c.literals c.ends
  where
    by-list : (ls : List Value) → EndsInConflict s fs ls → HasConflict s fs
    by-list [] e = e
    by-list (l ∷ ls) e = absurd (h l e.0)

within_there : (k : ℕ) (s : Setting) (fs : List Form) → unset_places s fs ≤ k → Closes s fs → closes_within k s fs ≡ true
within_there zero s fs h c = conflict_there s fs (at_rest s fs (λ l p. let m = places_fewer s l fs p in absurd (omega arith)) c)
within_there (suc k) s fs h c = by-first (λ t g d. within_there k t fs g d) (first_forced s fs) refl
  where
    by-first : ((t : Setting) → unset_places t fs ≤ k → Closes t fs → closes_within k t fs ≡ true) → (o : Option Value) → first_forced s fs ≡ o → (any_conflict s fs || passes (λ l. closes_within k (with_value s l) fs) o) ≡ true
    by-first ih None g = or_left (any_conflict s fs) false (conflict_there s fs (at_rest s fs (λ l p. none_forced s fs l g p) c))
    by-first ih (Some l) g =
        let p = first_is_forced s fs l g in
        let m = places_fewer s l fs p in
        or_right (any_conflict s fs) (closes_within k (with_value s l) fs) (ih (with_value s l) (omega arith) (closes_wider s (with_value s l) fs (extends_more s l (value_unset s p.form l p.forces)) c))

pub closes_found : (s : Setting) (fs : List Form) → closes s fs ≡ true → Closes s fs
closes_found s fs e = within_found (unset_places s fs) s fs e

pub closes_there : (s : Setting) (fs : List Form) → Closes s fs → closes s fs ≡ true
closes_there s fs c = within_there (unset_places s fs) s fs (omega arith) c

same_truth : (a b : Bool) → (a ≡ true → b ≡ true) → (b ≡ true → a ≡ true) → a ≡ b
same_truth true b h k = sym (h refl)
same_truth false true h k = k refl
same_truth false false h k = refl

-- A forced literal changes nothing.
pub closes_step : (s : Setting) (fs : List Form) (l : Value) → IsForced s fs l → closes (with_value s l) fs ≡ closes s fs
closes_step s fs l p =
    same_truth (closes (with_value s l) fs) (closes s fs)
    (λ e. closes_there s fs (one_more s fs l p (closes_found (with_value s l) fs e)))
    (λ e. closes_there (with_value s l) fs (closes_wider s (with_value s l) fs (extends_more s l (value_unset s p.form l p.forces)) (closes_found s fs e)))

pub closes_at_conflict : (s : Setting) (fs : List Form) → HasConflict s fs → closes s fs ≡ true
closes_at_conflict s fs c = closes_there s fs (at_conflict s fs c)

false_unless : (b : Bool) → (b ≡ true → ⊥) → b ≡ false
false_unless true h = absurd (h refl)
false_unless false h = refl

-- Where nothing is forced and no form is in conflict, propagation has come to its end without one.
pub closes_not : (s : Setting) (fs : List Form) → ((l : Value) → IsForced s fs l → ⊥) → (HasConflict s fs → ⊥) → closes s fs ≡ false
closes_not s fs h k = false_unless (closes s fs) (λ e. k (at_rest s fs h (closes_found s fs e)))

extends_same : (s t : Setting) → ((v : ℕ) → s v ≡ t v) → Extends t s
extends_same s t h = record { kept = λ v b e. sym (h v) ∙ e }

pub closes_same : (s t : Setting) (fs gs : List Form) → ((v : ℕ) → s v ≡ t v) → ((f : Form) → IsAmong f fs → IsAmong f gs) → ((f : Form) → IsAmong f gs → IsAmong f fs) → closes s fs ≡ closes t gs
closes_same s t fs gs h m n =
    same_truth (closes s fs) (closes t gs)
    (λ e. closes_there t gs (closes_more t fs gs m (closes_wider s t fs (extends_same s t h) (closes_found s fs e))))
    (λ e. closes_there s fs (closes_more s gs fs n (closes_wider t s gs (extends_same t s (λ v. sym (h v))) (closes_found t gs e))))

-- ---- forms that refute close

record Term (k : ℤ) (ts : List (ℕ × ℤ)) (v : ℕ) (b : Bool) : Type 0 where
  term : ℕ × ℤ
  among : IsAmong term ts
  variable : term.0 ≡ v
  exceeds : k <ℤ pos (unsigned_abs term.1)
  value : wanted term.1 ≡ b

forced_among : (k : ℤ) (ts : List (ℕ × ℤ)) (v : ℕ) (b : Bool) → forced_at k ts v ≡ Some b → Term k ts v b
forced_among k [] v b e = absurd cc
forced_among k (t ∷ ts) v b e = by-test (forced_among k ts v b) (t.0 == v) refl e
  where
    by-test : (forced_at k ts v ≡ Some b → Term k ts v b) → (x : Bool) → (t.0 == v) ≡ x → cond x (forced_by k t.1) (forced_at k ts v) ≡ Some b → Term k (t ∷ ts) v b
    by-test ih true g h =
        let p = forced_term k t.1 b h in
        record { term = t; among = inl refl; variable = eqb-true t.0 v g; exceeds = p.0; value = p.1 }
    by-test ih false g h = let k = ih h in record { term = k.term; among = inr k.among; variable = k.variable; exceeds = k.exceeds; value = k.value }

-- At rest, all that a form forces under a narrower setting is true, unless it is in conflict.
after_within : (s t : Setting) (f : Form) (gs : List Form) → IsAmong f gs → ((l : Value) → IsForced t gs l → ⊥) → conflict t f ≡ false → Extends t s → Extends t (after s f)
after_within s t f gs i rest calm h = record { kept = λ v b e. by-setting v b (s v) refl e }
  where
    by-forced : (v : ℕ) (b : Bool) (u : Term (slack s f) f.terms v b) → ForcesValue t f (u.term.0, wanted u.term.1) ⊎ ((t u.term.0 ≡ Some (wanted u.term.1)) ⊎ (conflict t f ≡ true)) → t v ≡ Some b
    by-forced v b u (inl p) = absurd (rest (u.term.0, wanted u.term.1) (record { form = f; among = i; forces = p }))
    by-forced v b u (inr (inl p)) = ap t (sym u.variable) ∙ p ∙ ap (λ (x : Bool). Some x) u.value
    by-forced v b u (inr (inr p)) = absurd cc

    by-setting : (v : ℕ) (b : Bool) (o : Option Bool) → s v ≡ o → or_else o (forced_at (slack s f) f.terms v) ≡ Some b → t v ≡ Some b
    by-setting v b None unset e =
        let u = forced_among (slack s f) f.terms v b e in
        by-forced v b u (forces_wider s t f (u.term.0, wanted u.term.1) h (record { term = u.term; among = u.among; forces = record { unset = ap s u.variable ∙ unset; exceeds = u.exceeds }; is = refl }))
    by-setting v b (Some d) is e = h.kept v b (is ∙ e)

pub extends_after : (s : Setting) (f : Form) → Extends (after s f) s
extends_after s f = record { kept = λ v b e. ap (λ (o : Option Bool). or_else o (forced_at (slack s f) f.terms v)) e }

-- What closes with all that a form of the list forces closes at rest.
rest_after : (s t : Setting) (f : Form) (fs : List Form) → IsAmong f fs → ((l : Value) → IsForced t fs l → ⊥) → Extends t s → Closes (after s f) fs → Closes t fs
rest_after s t f fs i rest h c = by-conflict (conflict t f) refl
  where
    by-conflict : (x : Bool) → conflict t f ≡ x → Closes t fs
    by-conflict true g = at_conflict t fs (record { form = f; among = i; conflicts = g })
    by-conflict false g = closes_wider (after s f) t fs (after_within s t f fs i rest g h) c

closes_before : (k : ℕ) (s t : Setting) (f : Form) (fs : List Form) → unset_places t fs ≤ k → IsAmong f fs → Extends t s → Closes (after s f) fs → Closes t fs
closes_before zero s t f fs n i h c = rest_after s t f fs i (λ l p. let q = places_fewer t l fs p in absurd (omega arith)) h c
closes_before (suc k) s t f fs n i h c = by-first (λ u g e. closes_before k s u f fs g i e c) (first_forced t fs) refl
  where
    by-first : ((u : Setting) → unset_places u fs ≤ k → Extends u s → Closes u fs) → (o : Option Value) → first_forced t fs ≡ o → Closes t fs
    by-first ih None g = rest_after s t f fs i (λ l p. none_forced t fs l g p) h c
    by-first ih (Some l) g =
        let p = first_is_forced t fs l g in
        let q = places_fewer t l fs p in
        one_more t fs l p (ih (with_value t l) (omega arith) (extends_on s t (with_value t l) h (extends_more t l (value_unset t p.form l p.forces))))

-- All that a form of the list forces changes nothing.
pub closes_after : (s : Setting) (f : Form) (fs : List Form) → IsAmong f fs → closes (after s f) fs ≡ closes s fs
closes_after s f fs i =
    same_truth (closes (after s f) fs) (closes s fs)
    (λ e. closes_there s fs (closes_before (unset_places s fs) s s f fs (omega arith) i (extends_itself s) (closes_found (after s f) fs e)))
    (λ e. closes_there (after s f) fs (closes_wider s (after s f) fs (extends_after s f) (closes_found s fs e)))

refuted_at_rest : (s t : Setting) (fs gs : List Form) → ((f : Form) → IsAmong f fs → IsAmong f gs) → ((l : Value) → IsForced t gs l → ⊥) → Extends t s → refutes s fs ≡ true → HasConflict t gs
refuted_at_rest s t [] gs m rest h e = absurd cc
refuted_at_rest s t (f ∷ fs) gs m rest h e =
    by-cases (λ k g. refuted_at_rest (after s f) t fs gs (λ x i. m x (inr i)) rest k g) (conflict t f) refl (or_cases (conflict s f) (refutes (after s f) fs) e)
  where
    by-cases : (Extends t (after s f) → refutes (after s f) fs ≡ true → HasConflict t gs) → (x : Bool) → conflict t f ≡ x → (conflict s f ≡ true) ⊎ (refutes (after s f) fs ≡ true) → HasConflict t gs
    by-cases ih true g q = record { form = f; among = m f (inl refl); conflicts = g }
    by-cases ih false g (inl q) = let c = conflict_wider s t f h q in absurd cc
    by-cases ih false g (inr q) = ih (after_within s t f gs (m f (inl refl)) rest g h) q

refuted_within : (k : ℕ) (s t : Setting) (fs gs : List Form) → unset_places t gs ≤ k → ((f : Form) → IsAmong f fs → IsAmong f gs) → Extends t s → refutes s fs ≡ true → Closes t gs
refuted_within zero s t fs gs n m h e = at_conflict t gs (refuted_at_rest s t fs gs m (λ l p. let q = places_fewer t l gs p in absurd (omega arith)) h e)
refuted_within (suc k) s t fs gs n m h e = by-first (λ u g i. refuted_within k s u fs gs g m i e) (first_forced t gs) refl
  where
    by-first : ((u : Setting) → unset_places u gs ≤ k → Extends u s → Closes u gs) → (o : Option Value) → first_forced t gs ≡ o → Closes t gs
    by-first ih None g = at_conflict t gs (refuted_at_rest s t fs gs m (λ l p. none_forced t gs l g p) h e)
    by-first ih (Some l) g =
        let p = first_is_forced t gs l g in
        let q = places_fewer t l gs p in
        one_more t gs l p (ih (with_value t l) (omega arith) (extends_on s t (with_value t l) h (extends_more t l (value_unset t p.form l p.forces))))

-- Where forms refute a setting in their order, unit propagation over them and others closes it.
pub refuted_closes : (s : Setting) (fs gs : List Form) → ((f : Form) → IsAmong f fs → IsAmong f gs) → refutes s fs ≡ true → Closes s gs
refuted_closes s fs gs m e = refuted_within (unset_places s gs) s s fs gs (omega arith) m (extends_itself s) e

-- ---- soundness

satisfied_at : (f : Form) (fs : List Form) (a : ℕ → Bool) → IsAmong f fs → Satisfies fs a → Holds f a
satisfied_at f [] a i sat = absurd i
satisfied_at f (g ∷ gs) a (inl e) sat = subst (λ (x : Form). Holds x a) (sym e) sat.0
satisfied_at f (g ∷ gs) a (inr i) sat = satisfied_at f gs a i sat.1

-- Forms that all hold close no setting that agrees.
not_closed : (s : Setting) (a : ℕ → Bool) (fs : List Form) → Agrees s a → Satisfies fs a → Closes s fs → ⊥
not_closed s a fs h sat c =
    let k = at_rest whole fs (λ l p. let n = value_unset whole p.form l p.forces in absurd cc) (closes_wider s whole fs (record { kept = λ v b e. ap (λ (x : Bool). Some x) (h.same v b e) }) c) in
    no_conflict whole a k.form (record { same = λ v b e. some_same (a v) b e }) (satisfied_at k.form fs a k.among sat) k.conflicts
  where
    whole : Setting
    whole v = Some (a v)

-- A clause whose negations close over forms that hold has a true literal.
pub closed_clause : (ls : List Literal) (fs : List Form) → Closes (negations ls) fs → (a : ℕ → Bool) → Satisfies fs a → clause_holds a ls ≡ true
closed_clause ls fs c a sat = by-cases (cases_Bool (clause_holds a ls))
  where
    by-cases : (clause_holds a ls ≡ true) ⊎ (clause_holds a ls ≡ false) → clause_holds a ls ≡ true
    by-cases (inl h) = h
    by-cases (inr h) = absurd (not_closed (negations ls) a fs (negations_agree ls a h) sat c)

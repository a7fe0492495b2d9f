-- How what assumptions lead to grows by one literal at a time, and what a conflict there shows of the assumptions.
use Rattle.std.proofs.Common.{◌≡◌, ◌⊎◌, inl, inr, ℕ, zero, suc, ◌<◌, ◌∷◌, [], ℤ, ◌<ℤ◌, ◌-ℤ◌, pos, unsigned_abs, int_lt, length, get_or, arith, Bool, true, false, cond, ◌==◌, List, Option, Some, None, refl, sym, ap, ◌∙◌, subst}
use Rattle.std.proofs.lemmas.Bool.{eq-eqb, eqb-true}
use Rattle.std.specs.Bool.{OnTrue}
use Rattle.log_theory.specs.Lookups.{are_distinct, variables_of}
use Rattle.proof_theory.specs.declared.literal.Literal.{Literal}
use Rattle.proof_theory.specs.Forms.{Form}
use Rattle.proof_theory.specs.Slack.{Setting, negations, open_sum, conflict, slack, wanted}
use Rattle.proof_theory.specs.Rules.{negatives}
use Rattle.std.proofs.lemmas.Int.{ints}
use Rattle.proof_theory.specs.Propagation.{IsAmong, Value, with_value, ForcesValue, Extends, closes}
use Rattle.proof_theory.proofs.Propagation.{extends_itself, extends_on, extends_more, forces_wider, conflict_wider, closes_step, closes_same, closes_at_conflict, closes_there, closes_found, closes_more, closes_wider}
use Rattle.pb_propagation.specs.Led.{nothing, Widens, Led, Comes}
use Rattle.pb_propagation.specs.Levels.{SetTo, MaySet, TwoLevels, Keeps, now, root}

-- ---- settings

pub extends_same : (s t u : Setting) → ((v : ℕ) → u v ≡ t v) → Extends s t → Extends s u
extends_same s t u e h = record { kept = λ v b g. h.kept v b (sym (e v) ∙ g) }

pub extends_as : (s t : Setting) → ((v : ℕ) → t v ≡ s v) → Extends t s
extends_as s t e = record { kept = λ v b g. e v ∙ g }

some_same : (a b : Bool) → let x : Option Bool = Some a in let y : Option Bool = Some b in x ≡ y → a ≡ b
some_same a b e = cc

some_none : (b : Bool) → let x : Option Bool = Some b in let y : Option Bool = None in x ≡ y → ⊥
some_none b e = cc

-- A setting that has a literal extends one that this literal was added to.
extends_set : (w t u : Setting) (v : ℕ) (b : Bool) → Extends w t → w v ≡ Some b → SetTo t v b u → Extends w u
extends_set w t u v b h e p = record { kept = λ x d g. at x d (v == x) refl (sym (p.is x) ∙ g) }
  where
    at : (x : ℕ) (d y : Bool) → (v == x) ≡ y → cond y (Some b) (t x) ≡ Some d → w x ≡ Some d
    at x d true i g = ap w (sym (eqb-true v x i)) ∙ e ∙ g
    at x d false i g = h.kept x d g

-- ---- growing

pub led_nothing : (s : Setting) (fs : List Form) (t : Setting) → ((v : ℕ) → t v ≡ None) → Led s fs t
led_nothing s fs t e = record { widens = λ gs m u h c. record { wide = u; from = extends_itself u; has = record { kept = λ v b g. absurd (some_none b (sym g ∙ e v)) }; calm = c } }

-- With more assumptions, over more forms, and of less.
pub led_wider : (s r : Setting) (fs : List Form) (t : Setting) → Extends r s → Led s fs t → Led r fs t
led_wider s r fs t h p = record { widens = λ gs m u k c. p.widens gs m u (extends_on s r u h k) c }

pub led_more : (s : Setting) (fs gs : List Form) (t : Setting) → ((f : Form) → IsAmong f fs → IsAmong f gs) → Led s fs t → Led s gs t
led_more s fs gs t m p = record { widens = λ hs n u k c. p.widens hs (λ f i. n f (m f i)) u k c }

pub led_less : (s : Setting) (fs : List Form) (t u : Setting) → Extends t u → Led s fs t → Led s fs u
led_less s fs t u h p = record { widens = λ gs m v k c. let w = p.widens gs m v k c in record { wide = w.wide; from = w.from; has = extends_on u t w.wide h w.has; calm = w.calm } }

pub led_same : (s : Setting) (fs : List Form) (t u : Setting) → ((v : ℕ) → u v ≡ t v) → Led s fs t → Led s fs u
led_same s fs t u e p = led_less s fs t u (extends_same t t u e (extends_itself t)) p

-- One more literal that a form forces.
pub led_forced : (s : Setting) (fs : List Form) (t0 t u : Setting) (f : Form) (l : Value) → IsAmong f fs → ForcesValue t0 f l → Extends t t0 → SetTo t l.0 l.1 u → Led s fs t → Led s fs u
led_forced s fs t0 t u f l i q h p d = record { widens = λ gs m v k c. on gs (m f i) v (d.widens gs m v k c) }
  where
    on : (gs : List Form) → IsAmong f gs → (v : Setting) → Widens v gs t → Widens v gs u
    on gs j v w = by (forces_wider t0 w.wide f l (extends_on t0 t w.wide h w.has) q)
      where
        by : ForcesValue w.wide f l ⊎ ((w.wide l.0 ≡ Some l.1) ⊎ (conflict w.wide f ≡ true)) → Widens v gs u
        by (inl g) =
            let unset : w.wide l.0 ≡ None = subst (λ (x : Value). w.wide x.0 ≡ None) (sym g.is) g.forces.unset in
            let more = extends_more w.wide l unset in
            let here : with_value w.wide l l.0 ≡ Some l.1 = ap (λ (x : Bool). cond x (Some l.1) (w.wide l.0)) (eq-eqb l.0 l.0 refl) in
            record {
              wide = with_value w.wide l;
              from = extends_on v w.wide (with_value w.wide l) w.from more;
              has = extends_set (with_value w.wide l) t u l.0 l.1 (extends_on t w.wide (with_value w.wide l) w.has more) here p;
              calm = closes_step w.wide gs l (record { form = f; among = j; forces = g }) ∙ w.calm;
            }
        by (inr (inl g)) = record { wide = w.wide; from = w.from; has = extends_set w.wide t u l.0 l.1 w.has g p; calm = w.calm }
        by (inr (inr g)) = let c = closes_at_conflict w.wide gs (record { form = f; among = j; conflicts = g }) in let d = w.calm in absurd cc

-- One more literal of the assumptions.
pub led_assumed : (s : Setting) (fs : List Form) (t u : Setting) (v : ℕ) (b : Bool) → s v ≡ Some b → SetTo t v b u → Led s fs t → Led s fs u
led_assumed s fs t u v b e p d = record { widens = λ gs m w k c. on gs w k (d.widens gs m w k c) }
  where
    on : (gs : List Form) (w : Setting) → Extends w s → Widens w gs t → Widens w gs u
    on gs w k x = record { wide = x.wide; from = x.from; has = extends_set x.wide t u v b x.has (x.from.kept v b (k.kept v b e)) p; calm = x.calm }

-- ---- conflicts

true_unless : (b : Bool) → (b ≡ false → ⊥) → b ≡ true
true_unless true h = refl
true_unless false h = absurd (h refl)

-- Where a form is in conflict, the assumptions close.
pub led_conflict : (s : Setting) (fs : List Form) (t : Setting) (f : Form) → IsAmong f fs → conflict t f ≡ true → Led s fs t → closes s fs ≡ true
led_conflict s fs t f i c p = true_unless (closes s fs) (λ e. no (p.widens fs (λ g j. j) s (extends_itself s) e))
  where
    no : Widens s fs t → ⊥
    no w = let a = closes_at_conflict w.wide fs (record { form = f; among = i; conflicts = conflict_wider t w.wide f w.has c }) in let b = w.calm in absurd cc

-- Where a literal is false that is assumed, the assumptions close.
pub led_clash : (s : Setting) (fs : List Form) (t : Setting) (v : ℕ) (b d : Bool) → s v ≡ Some b → t v ≡ Some d → (b ≡ d → ⊥) → Led s fs t → closes s fs ≡ true
led_clash s fs t v b d e g n p = true_unless (closes s fs) (λ c. no (p.widens fs (λ f j. j) s (extends_itself s) c))
  where
    no : Widens s fs t → ⊥
    no w = n (some_same b d (sym (w.from.kept v b e) ∙ w.has.kept v d g))

-- What closes without assumptions closes with them.
pub comes_same : (s r : Setting) (fs : List Form) → ((v : ℕ) → s v ≡ r v) → closes s fs ≡ true → closes r fs ≡ true
comes_same s r fs e c = sym (closes_same s r fs fs e (λ f i. i) (λ f i. i)) ∙ c

-- ---- what one constraint forces

pub among_at : {A : Type 0} (xs : List A) (i : ℕ) (d : A) → i < length xs → IsAmong (get_or xs i d) xs
among_at [] i d h = absurd (omega arith)
among_at (x ∷ xs) zero d h = inl refl
among_at (x ∷ xs) (suc i) d h = inr (among_at xs i d (omega arith))

-- What holds of forcing the constraint's literals under its slack at the beginning.
pub record Forcing (f : Form) (start now : Setting) : Type 0 where
  pub led : (s : Setting) (fs : List Form) → IsAmong f fs → Led s fs start → Led s fs now
  pub wider : Extends now start

pub forcing_none : (f : Form) (t : Setting) → Forcing f t t
forcing_none f t = record { led = λ s fs i d. d; wider = extends_itself t }

pub forcing_more : (f : Form) (start t u : Setting) (k : ℤ) (v : ℕ) (c : ℤ) → k ≡ slack start f → (let x : ℕ × ℤ = (v, c) in IsAmong x f.terms) → MaySet t k v c u → Forcing f start t → Forcing f start u
forcing_more f start t u k v c e i (inl same) p =
    record { led = λ s fs j d. led_same s fs t u same (p.led s fs j d); wider = record { kept = λ w b g. same w ∙ p.wider.kept w b g } }
forcing_more f start t u k v c e i (inr m) p = record { led = λ s fs j d. led_forced s fs start t u f (v, wanted c) j forces p.wider m.0 (p.led s fs j d); wider = extends_on start t u p.wider more }
  where
    unset : start v ≡ None
    unset = by (start v) refl
      where
        by : (o : Option Bool) → start v ≡ o → start v ≡ None
        by None g = g
        by (Some b) g = absurd (some_none b (sym (p.wider.kept v b g) ∙ m.0.was))

    more : Extends u t
    more = record { kept = λ w b g. at w b (v == w) refl g }
      where
        at : (w : ℕ) (b x : Bool) → (v == w) ≡ x → t w ≡ Some b → u w ≡ Some b
        at w b true h g = absurd (some_none b (sym g ∙ ap t (sym (eqb-true v w h)) ∙ m.0.was))
        at w b false h g = m.0.is w ∙ ap (λ (x : Bool). cond x (Some (wanted c)) (t w)) h ∙ g

    forces : ForcesValue start f (v, wanted c)
    forces = record { term = (v, c); among = i; forces = record { unset = unset; exceeds = subst (λ (z : ℤ). z <ℤ pos (unsigned_abs c)) e m.1 }; is = refl }

-- The slack by the greatest sum of terms.
pub slack_as : (s : Setting) (f : Form) (ts : List (ℕ × ℤ)) (z : ℤ) → ts ≡ f.terms → z ≡ pos (open_sum s ts) -ℤ pos (negatives ts) → z -ℤ f.bound ≡ slack s f
slack_as s f ts z e h =
    let k : z ≡ pos (open_sum s f.terms) -ℤ pos (negatives f.terms) = h ∙ ap (λ (us : List (ℕ × ℤ)). pos (open_sum s us) -ℤ pos (negatives us)) e in
    omega (arith, ints)

-- A greatest sum below the bound is a conflict.
pub conflict_as : (s : Setting) (f : Form) (z b : ℤ) → b ≡ f.bound → z -ℤ f.bound ≡ slack s f → int_lt z b ≡ true → conflict s f ≡ true
conflict_as s f z b e k h =
    let m : z <ℤ b = grind (arith, ints) in
    let n : slack s f <ℤ pos 0 = omega (arith, ints) in
    grind (arith, ints)

-- ---- the two levels

pub keeps_itself : (a : TwoLevels) → Keeps a a
keeps_itself a = record { long = refl; level = refl; lasts = λ e v. refl }

pub keeps_on : (a b c : TwoLevels) → Keeps a b → Keeps b c → Keeps a c
keeps_on a b c p q = record { long = q.long ∙ p.long; level = q.level ∙ p.level; lasts = λ e v. q.lasts (p.level ∙ e) v ∙ p.lasts e v }

-- ---- what lasts

-- What closes leads to anything.
pub led_closed : (s : Setting) (fs : List Form) (t : Setting) → closes s fs ≡ true → Led s fs t
led_closed s fs t e = record { widens = λ gs m u h c. absurd (no gs m u h c) }
  where
    no : (gs : List Form) → ((f : Form) → IsAmong f fs → IsAmong f gs) → (u : Setting) → Extends u s → closes u gs ≡ false → ⊥
    no gs m u h c =
        let d = closes_there u gs (closes_more u fs gs m (closes_wider s u fs h (closes_found s fs e))) in
        absurd cc

pub comes_led : (b : Bool) (s : Setting) (fs : List Form) (t : Setting) → Comes b s fs t → Led s fs t
comes_led true s fs t e = led_closed s fs t e
comes_led false s fs t d = d

-- What closes without assumptions closes with them.
pub closes_with : (s : Setting) (fs : List Form) → closes nothing fs ≡ true → closes s fs ≡ true
closes_with s fs e = closes_there s fs (closes_wider nothing s fs (record { kept = λ v b g. absurd (some_none b (sym g)) }) (closes_found nothing fs e))

pub led_with : (s : Setting) (fs : List Form) (t : Setting) → Led nothing fs t → Led s fs t
led_with s fs t d = led_wider nothing s fs t (record { kept = λ v b g. absurd (some_none b (sym g)) }) d

-- The next line begins with what lasts, in more room.
pub begun : (fs : List Form) (a b c : TwoLevels) → Led nothing fs (root a) → Extends (root a) (root b) → ((v : ℕ) → now b v ≡ root b v) → ((v : ℕ) → now c v ≡ now b v) → Led nothing fs (now c)
begun fs a b c d h e g = led_same nothing fs (root b) (now c) (λ v. g v ∙ e v) (led_less nothing fs (root a) (root b) h d)

pub comes_closed : (b : Bool) (s : Setting) (fs : List Form) (t : Setting) → Comes b s fs t → OnTrue b (closes s fs ≡ true)
comes_closed true s fs t e = e
comes_closed false s fs t d = tt

pub on_closed : (b : Bool) (s : Setting) (ls : List Literal) (fs : List Form) → are_distinct (variables_of ls) ≡ true → ((v : ℕ) → s v ≡ negations ls v) → OnTrue b (closes s fs ≡ true)
    → OnTrue b ((are_distinct (variables_of ls) ≡ true) × (closes (negations ls) fs ≡ true))
on_closed true s ls fs d e c = (d, comes_same s (negations ls) fs e c)
on_closed false s ls fs d e c = tt

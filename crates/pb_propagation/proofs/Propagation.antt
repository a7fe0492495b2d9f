-- The steps of unit propagation along references, and of the walk that sets the negations of a clause's literals.
use Rattle.std.proofs.Common.{inl, inr, ◌⊎◌, not, ◌≡◌, ℕ, zero, suc, ◌+◌, ◌<◌, ◌≤◌, Bool, true, false, cond, ◌&&◌, ◌||◌, List, [], ◌∷◌, length, get_or, drop, Option, Some, None, is_some, MatchOption, Result, Ok, Err, ℤ, pos, ◌-ℤ◌, ◌==◌, unsigned_abs, int_lt, refl, sym, ap, ◌∙◌, arith, subst}
use Rattle.std.proofs.lemmas.Bool.{ne_eqb, eq-eqb}
use Rattle.std.proofs.lemmas.Bool.{cases_eq}
use Rattle.std.proofs.lemmas.List.{drop_more}
use Rattle.proof_theory.specs.declared.literal.Literal.{Literal}
use Rattle.proof_theory.specs.Forms.{Form, Rises}
use Rattle.proof_theory.specs.Rules.{degree}
use Rattle.proof_theory.specs.Slack.{Setting, open_at, open_sum, slack, conflict, forced_by, forced_at, or_else, after, refutes, negations, clause_form}
use Rattle.log_theory.specs.declared.step.Ref.{Ref}
use Rattle.log_theory.specs.declared.step.Ref.TheVariants.{Line}
use Rattle.log_theory.specs.declared.step.Cause.{Cause}
use Rattle.log_theory.specs.declared.step.Cause.TheVariants.{NoSuchName, NoConflict}
use Rattle.log_theory.specs.declared.step.Name.{Name}
use Rattle.log_theory.specs.declared.step.Step.TheVariants.{U}
use Rattle.log_theory.specs.Steps.{◌>>=◌, or_fault}
use Rattle.log_theory.specs.Lookups.{Lookup, makes, find_all, is_among, are_distinct, variables_of}
use Rattle.pb_terms.proofs.Combining.{none}
use Rattle.pb_terms.proofs.Fronts.{Rises-at}
use Rattle.pb_propagation.specs.Reach.{Reaches, AllReach, LiteralsReach, AllNamed, found_first, forms_of, NegatesOne}

-- ---- which variables are reached

pub reaches_at : (n : ℕ) (ts : List (ℕ × ℤ)) (i : ℕ) → Reaches n ts → i < length ts → (get_or ts i none).0 < n
reaches_at n [] i h k = absurd (omega arith)
reaches_at n (t ∷ ts) zero h k = h.0
reaches_at n (t ∷ ts) (suc i) h k = reaches_at n ts i h.1 (omega arith)

pub reaches_wider : (n m : ℕ) (ts : List (ℕ × ℤ)) → n ≤ m → Reaches n ts → Reaches m ts
reaches_wider n m [] l h = tt
reaches_wider n m (t ∷ ts) l h = let a = h.0 in (omega arith, reaches_wider n m ts l h.1)

first_above : (low : ℕ) (ts : List (ℕ × ℤ)) (i : ℕ) → Rises low ts → i < length ts → low ≤ (get_or ts i none).0
first_above low [] i h k = absurd (omega arith)
first_above low (t ∷ ts) zero h k = h.0
first_above low (t ∷ ts) (suc i) h k = let a = h.0 in let b = first_above (t.0 + 1) ts i h.2 (omega arith) in omega arith

-- The last of terms that rise is above all others.
pub reaches_last : (low : ℕ) (ts : List (ℕ × ℤ)) (n : ℕ) → Rises low ts → length ts ≡ n + 1 → Reaches ((get_or ts n none).0 + 1) ts
reaches_last low [] n h l = tt
reaches_last low (t ∷ []) zero h l = (omega arith, tt)
reaches_last low (t ∷ []) (suc n) h l = absurd (omega arith)
reaches_last low (t ∷ (u ∷ us)) zero h l = absurd (omega arith)
reaches_last low (t ∷ (u ∷ us)) (suc n) h l =
    let a = first_above (t.0 + 1) (u ∷ us) n h.2 (omega arith) in
    (omega arith, reaches_last (t.0 + 1) (u ∷ us) n h.2 (omega arith))

pub named_wider : (look : Lookup) (n m : ℕ) (rs : List Ref) → n ≤ m → AllNamed look n rs → AllNamed look m rs
named_wider look n m [] l h = tt
named_wider look n m (r ∷ rs) l h = (wider (look r) h.0, named_wider look n m rs l h.1)
  where
    wider : (o : Option Form) → MatchOption o ⊥ (λ f. Reaches n f.terms) → MatchOption o ⊥ (λ f. Reaches m f.terms)
    wider None k = k
    wider (Some f) k = reaches_wider n m f.terms l k

-- All references are named: their forms are found, and reach no further.
pub named_found : (look : Lookup) (n : ℕ) (rs : List Ref) → AllNamed look n rs → (find_all look rs ≡ Ok (forms_of look rs)) × AllReach n (forms_of look rs)
named_found look n [] h = (refl, tt)
named_found look n (r ∷ rs) h = found (look r) h.0 (named_found look n rs h.1)
  where
    found : (o : Option Form) → MatchOption o ⊥ (λ f. Reaches n f.terms) → (find_all look rs ≡ Ok (forms_of look rs)) × AllReach n (forms_of look rs)
        → ((or_fault o NoSuchName >>= λ f. find_all look rs >>= λ fs. Ok (f ∷ fs)) ≡ Ok (found_first o (forms_of look rs))) × AllReach n (found_first o (forms_of look rs))
    found None k rest = absurd k
    found (Some f) k rest = (ap (λ (x : Result (List Form) Cause). x >>= λ fs. Ok (f ∷ fs)) rest.0, (k, rest.1))

-- Some reference names nothing.
pub unnamed : (look : Lookup) (rs : List Ref) (i : ℕ) → i < length rs → look (get_or rs i (Line 0)) ≡ None → find_all look rs ≡ Err NoSuchName
unnamed look [] i h e = absurd (omega arith)
unnamed look (r ∷ rs) zero h e = ap (λ (o : Option Form). or_fault o NoSuchName >>= λ f. find_all look rs >>= λ fs. Ok (f ∷ fs)) e
unnamed look (r ∷ rs) (suc i) h e = lost (look r) (unnamed look rs i (omega arith) e)
  where
    lost : (o : Option Form) → find_all look rs ≡ Err NoSuchName → (or_fault o NoSuchName >>= λ f. find_all look rs >>= λ fs. Ok (f ∷ fs)) ≡ Err NoSuchName
    lost None rest = refl
    lost (Some f) rest = ap (λ (x : Result (List Form) Cause). x >>= λ fs. Ok (f ∷ fs)) rest

-- ---- what terms force

or_none : (o : Option Bool) → or_else o None ≡ o
or_none None = refl
or_none (Some b) = refl

-- Terms that rise force no variable below the first.
forced_none : (k : ℤ) (v low : ℕ) (ts : List (ℕ × ℤ)) → Rises low ts → v < low → forced_at k ts v ≡ None
forced_none k v low [] h l = refl
forced_none k v low (t ∷ ts) h l =
    let a = h.0 in
    ap (λ (b : Bool). cond b (forced_by k t.1) (forced_at k ts v)) (ne_eqb t.0 v (λ e. absurd (omega arith)))
    ∙ forced_none k v (t.0 + 1) ts h.2 (omega arith)

-- The first term's literal is set, and the others are still to be.
pub forced_more : (s u : Setting) (k : ℤ) (t : ℕ × ℤ) (ts : List (ℕ × ℤ)) → Rises (t.0 + 1) ts → ((v : ℕ) → u v ≡ or_else (s v) (cond (t.0 == v) (forced_by k t.1) None))
    → (v : ℕ) → or_else (u v) (forced_at k ts v) ≡ or_else (s v) (forced_at k (t ∷ ts) v)
forced_more s u k t ts h f v = ap (λ (o : Option Bool). or_else o (forced_at k ts v)) (f v) ∙ by (cases_eq t.0 v)
  where
    by : (t.0 ≡ v) ⊎ (t.0 ≡ v → ⊥) → or_else (or_else (s v) (cond (t.0 == v) (forced_by k t.1) None)) (forced_at k ts v) ≡ or_else (s v) (forced_at k (t ∷ ts) v)
    by (inl e) =
        ap (λ (o : Option Bool). or_else (or_else (s v) (cond (t.0 == v) (forced_by k t.1) None)) o) (forced_none k v (t.0 + 1) ts h (omega arith))
        ∙ or_none _
        ∙ ap (λ (b : Bool). or_else (s v) (cond b (forced_by k t.1) None)) (eq-eqb t.0 v e)
        ∙ sym (ap (λ (b : Bool). or_else (s v) (cond b (forced_by k t.1) (forced_at k ts v))) (eq-eqb t.0 v e))
    by (inr n) =
        ap (λ (b : Bool). or_else (or_else (s v) (cond b (forced_by k t.1) None)) (forced_at k ts v)) (ne_eqb t.0 v n)
        ∙ ap (λ (o : Option Bool). or_else o (forced_at k ts v)) (or_none (s v))
        ∙ sym (ap (λ (b : Bool). or_else (s v) (cond b (forced_by k t.1) (forced_at k ts v))) (ne_eqb t.0 v n))

-- What terms from a place on force beside what is set is what all of them force beside what was set.
abbrev pub ForcesOn : Setting → Setting → ℤ → List (ℕ × ℤ) → ℕ → Type 0
ForcesOn s t k ts i = (v : ℕ) → or_else (t v) (forced_at k (drop i ts) v) ≡ or_else (s v) (forced_at k ts v)

-- So it is from the next place on, once the literal of the term there is set, if that is forced.
pub forced_onward : (s t u : Setting) (k c : ℤ) (ts : List (ℕ × ℤ)) (i : ℕ) → Rises 0 ts → i < length ts → c ≡ (get_or ts i none).1
    → ((v : ℕ) → u v ≡ or_else (t v) (cond ((get_or ts i none).0 == v) (forced_by k c) None)) → ForcesOn s t k ts i → ForcesOn s u k ts (i + 1)
forced_onward s t u k c ts i rises h e set on v =
    forced_more t u k (get_or ts i none) (drop (i + 1) ts) (Rises-at i ts none rises h).2
    (λ w. set w ∙ ap (λ (z : ℤ). or_else (t w) (cond ((get_or ts i none).0 == w) (forced_by k z) None)) e) v
    ∙ sym (ap (λ (us : List (ℕ × ℤ)). or_else (t v) (forced_at k us v)) (drop_more ts i none h))
    ∙ on v

-- ---- settings that say the same refute the same

same_open : (s t : Setting) (ts : List (ℕ × ℤ)) → ((v : ℕ) → s v ≡ t v) → open_sum s ts ≡ open_sum t ts
same_open s t [] e = refl
same_open s t (u ∷ us) e =
    ap (λ (o : Option Bool). cond (open_at o u.1) (unsigned_abs u.1) 0 + open_sum s us) (e u.0)
    ∙ ap (λ (n : ℕ). cond (open_at (t u.0) u.1) (unsigned_abs u.1) 0 + n) (same_open s t us e)

same_slack : (s t : Setting) (f : Form) → ((v : ℕ) → s v ≡ t v) → slack s f ≡ slack t f
same_slack s t f e = ap (λ (n : ℕ). pos n -ℤ degree f) (same_open s t f.terms e)

same_after : (s t : Setting) (f : Form) → ((v : ℕ) → s v ≡ t v) → (v : ℕ) → after s f v ≡ after t f v
same_after s t f e v =
    ap (λ (o : Option Bool). or_else o (forced_at (slack s f) f.terms v)) (e v)
    ∙ ap (λ (k : ℤ). or_else (t v) (forced_at k f.terms v)) (same_slack s t f e)

pub same_refutes : (s t : Setting) (fs : List Form) → ((v : ℕ) → s v ≡ t v) → refutes s fs ≡ refutes t fs
same_refutes s t [] e = refl
same_refutes s t (f ∷ fs) e =
    ap (λ (k : ℤ). int_lt k (pos 0) || refutes (after s f) fs) (same_slack s t f e)
    ∙ ap (λ (b : Bool). conflict t f || b) (same_refutes (after s f) (after t f) fs (same_after s t f e))

-- A form that is no conflict: what it forces is set for those behind it.
pub refutes_more : (s t : Setting) (f : Form) (fs : List Form) → conflict s f ≡ false → ((v : ℕ) → t v ≡ after s f v) → refutes t fs ≡ refutes s (f ∷ fs)
refutes_more s t f fs e g = same_refutes t (after s f) fs g ∙ sym (ap (λ (b : Bool). b || refutes (after s f) fs) e)

-- ---- the negations of literals

pub literal_at : (n : ℕ) (ls : List Literal) (i : ℕ) → LiteralsReach n ls → i < length ls → (get_or ls i (record { variable = 0; negated = false })).variable < n
literal_at n [] i h k = absurd (omega arith)
literal_at n (l ∷ ls) zero h k = h.0
literal_at n (l ∷ ls) (suc i) h k = literal_at n ls i h.1 (omega arith)

-- A variable that is negated is among those of the literals.
among : (v : ℕ) (ls : List Literal) → is_some (negations ls v) ≡ is_among v (variables_of ls)
among v [] = refl
among v (l ∷ ls) = by (l.variable == v) (among v ls)
  where
    by : (b : Bool) → is_some (negations ls v) ≡ is_among v (variables_of ls) → is_some (cond b (Some l.negated) (negations ls v)) ≡ (b || is_among v (variables_of ls))
    by true rest = refl
    by false rest = rest

-- A literal whose variable was unset is negated besides.
pub negated_more : (s u : Setting) (l : Literal) (ls : List Literal) → ((v : ℕ) → s v ≡ negations ls v) → are_distinct (variables_of ls) ≡ true → NegatesOne true s l u
    → ((v : ℕ) → u v ≡ negations (l ∷ ls) v) × (are_distinct (variables_of (l ∷ ls)) ≡ true)
negated_more s u l ls e d h = (
  λ v. h.1 v ∙ ap (λ (o : Option Bool). cond (l.variable == v) (Some l.negated) o) (e v),
  ap (λ (b : Bool). not b && are_distinct (variables_of ls)) (sym (among l.variable ls) ∙ ap is_some (sym (e l.variable) ∙ h.0)) ∙ d,
)

-- A literal whose variable was set stands twice.
pub negated_twice : (s : Setting) (l : Literal) (ls : List Literal) → ((v : ℕ) → s v ≡ negations ls v) → is_some (s l.variable) ≡ true → are_distinct (variables_of (l ∷ ls)) ≡ false
negated_twice s l ls e h =
    ap (λ (b : Bool). not b && are_distinct (variables_of ls)) (sym (among l.variable ls) ∙ ap is_some (sym (e l.variable)) ∙ h)

-- What stands twice at the end stands twice in the whole.
pub twice_behind : (i : ℕ) (ls : List Literal) → are_distinct (variables_of (drop i ls)) ≡ false → are_distinct (variables_of ls) ≡ false
twice_behind zero ls h = h
twice_behind (suc i) [] h = h
twice_behind (suc i) (l ∷ ls) h = ap (λ (b : Bool). not (is_among l.variable (variables_of ls)) && b) (twice_behind i ls h) ∙ and_false (not (is_among l.variable (variables_of ls)))
  where
    and_false : (b : Bool) → (b && false) ≡ false
    and_false true = refl
    and_false false = refl

-- What reaches below n does so below a greater number.
pub literals_wider : (n m : ℕ) (ls : List Literal) → n ≤ m → LiteralsReach n ls → LiteralsReach m ls
literals_wider n m [] l h = tt
literals_wider n m (x ∷ xs) l h = let a = h.0 in (omega arith, literals_wider n m xs l h.1)

pub forms_wider : (n m : ℕ) (fs : List Form) → n ≤ m → AllReach n fs → AllReach m fs
forms_wider n m [] l h = tt
forms_wider n m (f ∷ fs) l h = (reaches_wider n m f.terms l h.0, forms_wider n m fs l h.1)

-- ---- what a line of literals and references makes

pub derived : (look : Lookup) (name : Name) (ls : List Literal) (rs : List Ref) (fs : List Form) → are_distinct (variables_of ls) ≡ true → find_all look rs ≡ Ok fs → refutes (negations ls) fs ≡ true
    → makes look (U name ls rs) ≡ Ok (clause_form ls)
derived look name ls rs fs d f r = rw (d, f, r)

pub not_derived : (look : Lookup) (name : Name) (ls : List Literal) (rs : List Ref) (fs : List Form) → are_distinct (variables_of ls) ≡ true → find_all look rs ≡ Ok fs → refutes (negations ls) fs ≡ false
    → makes look (U name ls rs) ≡ Err NoConflict
not_derived look name ls rs fs d f r = rw (d, f, r)

-- One more reference in front of those that are named.
pub named_more : (look : Lookup) (n m : ℕ) (rs : List Ref) (j i : ℕ) (f : Form) → i ≡ j + 1 → j < length rs → n ≤ m → look (get_or rs j (Line 0)) ≡ Some f → Reaches m f.terms → AllNamed look n (drop i rs) → AllNamed look m (drop j rs)
named_more look n m rs j i f e h l s r a =
    subst (λ (ts : List Ref). AllNamed look m ts) (sym (drop_more rs j (Line 0) h))
    (subst (λ (o : Option Form). MatchOption o ⊥ (λ g. Reaches m g.terms)) (sym s) r, subst (λ (k : ℕ). AllNamed look m (drop k rs)) e (named_wider look n m (drop i rs) l a))

-- The next reference's form comes next, if it names one.
pub forms_next : (look : Lookup) (rs : List Ref) (i : ℕ) (f : Form) → i < length rs → look (get_or rs i (Line 0)) ≡ Some f → forms_of look (drop i rs) ≡ f ∷ forms_of look (drop (i + 1) rs)
forms_next look rs i f h e = ap (forms_of look) (drop_more rs i (Line 0) h) ∙ ap (λ (o : Option Form). found_first o (forms_of look (drop (i + 1) rs))) e

pub forms_skip : (look : Lookup) (rs : List Ref) (i : ℕ) → i < length rs → look (get_or rs i (Line 0)) ≡ None → forms_of look (drop i rs) ≡ forms_of look (drop (i + 1) rs)
forms_skip look rs i h e = ap (forms_of look) (drop_more rs i (Line 0) h) ∙ ap (λ (o : Option Form). found_first o (forms_of look (drop (i + 1) rs))) e

-- Lists of entries, as they are searched, cut and grow.
use Rattle.std.proofs.Common.{inl, inr, ◌≡◌, ℕ, zero, suc, ◌+◌, ◌<◌, ◌≤◌, List, [], ◌∷◌, ◌++◌, take, drop, Some, refl, sym, ap, subst, ◌∙◌, arith}
use Rattle.std.specs.Prelude.{slice_get}
use Rattle.graph_theory.specs.Embedding.{Problem}
use Rattle.search_theory.specs.Account.{Account}
use Rattle.proof_theory.specs.Forms.{Form}
use Rattle.log_theory.specs.declared.step.Ref.{Ref}
use Rattle.log_theory.specs.LogText.{IsRef, AreRefs}
use Rattle.search_journal.specs.declared.refuted.Refuted.{Refuted}
use Rattle.search_journal.specs.Entries.{AreFrom, AreBelow, AreRising, IsEntry, AreEntries, HasEntry, entry_ref, entry_refs}

-- ---- levels

from_weaker : (a b : ℕ) (es : List Refuted) → a ≤ b → AreFrom b es → AreFrom a es
from_weaker a b [] l h = tt
from_weaker a b (e ∷ es) l h = let m = h.0 in (omega (arith, l, m), from_weaker a b es l h.1)

from_at : (level : ℕ) (es : List Refuted) (k : ℕ) (e : Refuted) → AreFrom level es → slice_get es k ≡ Some e → level ≤ e.level
from_at level [] k e from at = absurd cc
from_at level (x ∷ es) zero e from at = let l = from.0 in let same : x ≡ e = cc in subst (λ (y : Refuted). level ≤ y.level) same l
from_at level (x ∷ es) (suc k) e from at = from_at level es k e from.1 at

below_upto : (es : List Refuted) (k level : ℕ) (e : Refuted) → AreRising es → slice_get es k ≡ Some e → e.level < level → AreBelow level (take (suc k) es)
below_upto [] k level e rising at less = absurd cc
below_upto (x ∷ es) zero level e rising at less = let same : x ≡ e = cc in (subst (λ (y : Refuted). y.level < level) (sym same) less, tt)
below_upto (x ∷ es) (suc k) level e rising at less = let l = from_at x.level es k e rising.0 at in (omega (arith, l, less), below_upto es k level e rising.1 at less)

-- Those up to an entry of an earlier level than this are of earlier levels too.
pub rising_below : (es : List Refuted) (k level : ℕ) (e : Refuted) → AreRising es → slice_get es k ≡ Some e → e.level < level → AreBelow level (take (k + 1) es)
rising_below es k level e rising at less = let s : k + 1 ≡ suc k = omega arith in subst (λ (n : ℕ). AreBelow level (take n es)) (sym s) (below_upto es k level e rising at less)

pub rising_take : (k : ℕ) (es : List Refuted) → AreRising es → AreRising (take k es)
rising_take zero es h = tt
rising_take (suc k) [] h = tt
rising_take (suc k) (e ∷ es) h = (from_take k e.level es h.0, rising_take k es h.1)
  where
    from_take : (k level : ℕ) (es : List Refuted) → AreFrom level es → AreFrom level (take k es)
    from_take zero level es h = tt
    from_take (suc k) level [] h = tt
    from_take (suc k) level (x ∷ es) h = (h.0, from_take k level es h.1)

from_snoc : (level : ℕ) (es : List Refuted) (x : Refuted) → AreFrom level es → level ≤ x.level → AreFrom level (es ++ x ∷ [])
from_snoc level [] x h l = (l, tt)
from_snoc level (e ∷ es) x h l = (h.0, from_snoc level es x h.1 l)

-- An entry that is of no earlier level than those before it stands behind them.
pub rising_snoc : (es : List Refuted) (x : Refuted) → AreRising es → AreBelow (x.level + 1) es → AreRising (es ++ x ∷ [])
rising_snoc [] x h b = (tt, tt)
rising_snoc (e ∷ es) x h b = let l = b.0 in (from_snoc e.level es x h.0 (omega (arith, l)), rising_snoc es x h.1 b.1)

-- ---- entries of an account

pub entries_as : (q : Problem) (a b : Account) (forms more : List Form) (es : List Refuted) → ((e : Refuted) → IsEntry q a forms e → IsEntry q b more e) → AreEntries q a forms es → AreEntries q b more es
entries_as q a b forms more [] f h = tt
entries_as q a b forms more (e ∷ es) f h = (f e h.0, entries_as q a b forms more es f h.1)

pub entries_below : (q : Problem) (a b : Account) (forms more : List Form) (level : ℕ) (es : List Refuted) → AreBelow level es
    → ((e : Refuted) → e.level < level → IsEntry q a forms e → IsEntry q b more e) → AreEntries q a forms es → AreEntries q b more es
entries_below q a b forms more level [] below f h = tt
entries_below q a b forms more level (e ∷ es) below f h = (f e below.0 h.0, entries_below q a b forms more level es below.1 f h.1)

pub entries_take : (q : Problem) (a : Account) (forms : List Form) (k : ℕ) (es : List Refuted) → AreEntries q a forms es → AreEntries q a forms (take k es)
entries_take q a forms zero es h = tt
entries_take q a forms (suc k) [] h = tt
entries_take q a forms (suc k) (e ∷ es) h = (h.0, entries_take q a forms k es h.1)

pub entries_drop : (q : Problem) (a : Account) (forms : List Form) (k : ℕ) (es : List Refuted) → AreEntries q a forms es → AreEntries q a forms (drop k es)
entries_drop q a forms zero es h = h
entries_drop q a forms (suc k) [] h = tt
entries_drop q a forms (suc k) (e ∷ es) h = entries_drop q a forms k es h.1

pub entries_snoc : (q : Problem) (a : Account) (forms : List Form) (es : List Refuted) (x : Refuted) → AreEntries q a forms es → IsEntry q a forms x → AreEntries q a forms (es ++ x ∷ [])
entries_snoc q a forms [] x h i = (i, tt)
entries_snoc q a forms (e ∷ es) x h i = (h.0, entries_snoc q a forms es x h.1 i)

pub entries_at : (q : Problem) (a : Account) (forms : List Form) (es : List Refuted) (k : ℕ) (e : Refuted) → AreEntries q a forms es → slice_get es k ≡ Some e → IsEntry q a forms e
entries_at q a forms [] k e h at = absurd cc
entries_at q a forms (x ∷ es) zero e h at = let same : x ≡ e = cc in subst (λ (y : Refuted). IsEntry q a forms y) same h.0
entries_at q a forms (x ∷ es) (suc k) e h at = entries_at q a forms es k e h.1 at

-- ---- an entry of a level and value

pub has_front : (es fs : List Refuted) (level value : ℕ) → HasEntry es level value → HasEntry (es ++ fs) level value
has_front [] fs level value h = absurd h
has_front (e ∷ es) fs level value (inl h) = inl h
has_front (e ∷ es) fs level value (inr h) = inr (has_front es fs level value h)

pub has_last : (es : List Refuted) (x : Refuted) → HasEntry (es ++ x ∷ []) x.level x.value
has_last [] x = inl (refl, refl)
has_last (e ∷ es) x = inr (has_last es x)

-- One of an earlier level is not among those from the level on; one of a later level is not among the earlier ones.
pub has_take : (es : List Refuted) (k level low value : ℕ) → AreFrom level (drop k es) → low < level → HasEntry es low value → HasEntry (take k es) low value
has_take es zero level low value from less h = absurd (none es from h)
  where
    none : (es : List Refuted) → AreFrom level es → HasEntry es low value → ⊥
    none [] f h = h
    none (e ∷ es) f (inl h) = let l = f.0 in let s = h.0 in omega (arith, l, s, less)
    none (e ∷ es) f (inr h) = none es f.1 h
has_take [] (suc k) level low value from less h = absurd h
has_take (e ∷ es) (suc k) level low value from less (inl h) = inl h
has_take (e ∷ es) (suc k) level low value from less (inr h) = inr (has_take es k level low value from less h)

pub has_drop : (es : List Refuted) (k level value : ℕ) → AreBelow level (take k es) → HasEntry es level value → HasEntry (drop k es) level value
has_drop es zero level value below h = h
has_drop [] (suc k) level value below h = absurd h
has_drop (e ∷ es) (suc k) level value below (inl h) = let l = below.0 in let s = h.0 in absurd (omega (arith, l, s))
has_drop (e ∷ es) (suc k) level value below (inr h) = has_drop es k level value below.1 h

-- ---- one step back

pub from_earlier : (es : List Refuted) (k level : ℕ) (e : Refuted) → slice_get es k ≡ Some e → level ≤ e.level → AreFrom level (drop (k + 1) es) → AreFrom level (drop k es)
from_earlier es k level e at l from = by es k at (let s : k + 1 ≡ suc k = omega arith in subst (λ (n : ℕ). AreFrom level (drop n es)) s from)
  where
    by : (es : List Refuted) (k : ℕ) → slice_get es k ≡ Some e → AreFrom level (drop (suc k) es) → AreFrom level (drop k es)
    by [] k at from = absurd cc
    by (x ∷ es) zero at from = let same : x ≡ e = cc in (subst (λ (y : Refuted). level ≤ y.level) (sym same) l, from)
    by (x ∷ es) (suc k) at from = by es k at from

pub has_earlier : (es : List Refuted) (k level value : ℕ) (e : Refuted) → slice_get es k ≡ Some e → (e.level ≡ level → e.value ≡ value → ⊥)
    → (HasEntry (drop (k + 1) es) level value → ⊥) → HasEntry (drop k es) level value → ⊥
has_earlier es k level value e at other none = by es k at (let s : k + 1 ≡ suc k = omega arith in subst (λ (n : ℕ). HasEntry (drop n es) level value → ⊥) s none)
  where
    by : (es : List Refuted) (k : ℕ) → slice_get es k ≡ Some e → (HasEntry (drop (suc k) es) level value → ⊥) → HasEntry (drop k es) level value → ⊥
    by [] k at none h = absurd cc
    by (x ∷ es) zero at none (inl h) = let same : x ≡ e = cc in other (ap (λ (y : Refuted). y.level) (sym same) ∙ h.0) (ap (λ (y : Refuted). y.value) (sym same) ∙ h.1)
    by (x ∷ es) zero at none (inr h) = none h
    by (x ∷ es) (suc k) at none h = by es k at none h

-- ---- names

pub refs_snoc : (rs : List Ref) (r : Ref) → AreRefs rs → IsRef r → AreRefs (rs ++ r ∷ [])
refs_snoc [] r h i = (i, tt)
refs_snoc (x ∷ rs) r h i = (h.0, refs_snoc rs r h.1 i)

pub entry_refs_next : (owner : ℕ) (es : List Refuted) (k : ℕ) (e : Refuted) → slice_get es k ≡ Some e → entry_refs owner (take (k + 1) es) ≡ entry_refs owner (take k es) ++ entry_ref owner e ∷ []
entry_refs_next owner es k e at = let s : k + 1 ≡ suc k = omega arith in ap (λ (n : ℕ). entry_refs owner (take n es)) s ∙ by es k at
  where
    by : (es : List Refuted) (k : ℕ) → slice_get es k ≡ Some e → entry_refs owner (take (suc k) es) ≡ entry_refs owner (take k es) ++ entry_ref owner e ∷ []
    by [] k at = absurd cc
    by (x ∷ es) zero at = let same : x ≡ e = cc in ap (λ (y : Refuted). entry_ref owner y ∷ []) same
    by (x ∷ es) (suc k) at = ap (λ (rs : List Ref). entry_ref owner x ∷ rs) (by es k at)

-- What quiet domains show: an embedding, a dead path, a value that fits.

use Rattle.std.proofs.Common.{◌≡◌, ℕ, zero, suc, ◌<◌, Bool, true, List, [], ◌∷◌, length, Some, slice_get, slice_index, refl, sym, subst, ap, arith}
use Rattle.graph_theory.specs.Graph.{size}
use Rattle.graph_theory.specs.Embedding.{Problem, Embeds}
use Rattle.graph_theory.specs.Path.{NotOn, Extends}
use Rattle.graph_theory.proofs.DeadPaths.{extends_more}
use Rattle.search_theory.specs.Fits.{GoesWith, Obeys, GoesInOrder}
use Rattle.search_theory.specs.Claims.{Single, Pins, Quiet, Rising, Ordered}
use Rattle.search_theory.specs.Account.{AllDead, NotAmong}
use Rattle.search_theory.specs.Laws.{SinglesEmbed, AllRefutedIsDead, DomainValuesFit, DomainLaws}
use Rattle.graph_theory.proofs.ByPairs.{embeds-from_pairs}
use Rattle.graph_theory.proofs.Orders.{Rises, order_of}

-- where one domain rises to another, single values do
singles_rise : (D : ℕ → ℕ → Bool) (a b s t : ℕ) → Rising D a b → Single D a s → Single D b t → s < t
singles_rise D a b s t rising first second =
    let w = rising.lesser t second.here in
    subst (λ (v : ℕ). v < t) (first.only w.0 w.1) w.2

-- quiet domains in order, of one value each, are an embedding
pub singles_embed : SinglesEmbed
singles_embed q D m quiet ordered size_is single = embeds-from_pairs q m (record {
  size_is = size_is;
  values = λ p p_in. quiet.first.values p (slice_index m p) p_in (single p p_in).here;
  alone = λ p p_in. (quiet.first.alone p (slice_index m p) p_in (single p p_in).here).alone;
  pairs = λ p r p_in r_in apart. ((quiet.settled p (slice_index m p) p_in (single p p_in)).goes r (slice_index m r) r_in apart (single r r_in).here).pair;
  order = order_of q.less m (λ k x is a_in b_in. rises k x is (omega (arith, a_in, size_is)) (omega (arith, b_in, size_is)));
})
  where
    rises : (k : ℕ) (x : ℕ × ℕ) → slice_get q.less k ≡ Some x → x.0 < size q.pattern → x.1 < size q.pattern → slice_index m x.0 < slice_index m x.1
    rises k x is a_in b_in =
        singles_rise D x.0 x.1 (slice_index m x.0) (slice_index m x.1) (ordered.rising k x is a_in b_in) (single x.0 a_in) (single x.1 b_in)

-- an embedding that extends the path sends p to none of the values that are dead after it
pub not_among_dead : (q : Problem) (path : List (ℕ × ℕ)) (p : ℕ) (us : List ℕ) (m : List ℕ) → p < size q.pattern → AllDead q path p us → Embeds q m → Extends path m → NotAmong us (slice_index m p)
not_among_dead q path p [] m p_in dead e h = tt
not_among_dead q path p (u ∷ us) m p_in dead e h =
    (λ is. dead.0 m e (extends_more path p u m h (subst (λ (n : ℕ). p < n) (sym e.size_is) p_in) (sym is)), not_among_dead q path p us m p_in dead.1 e h)

-- where each value of a vertex's domain is refuted, the path is dead
pub all_refuted_is_dead : AllRefutedIsDead
all_refuted_is_dead q D path p us stands p_in dead all = λ m e h. all (slice_index m p) (stands m e h p p_in) (not_among_dead q path p us m p_in dead e h)

-- a value of a quiet domain goes with each pair that the domains are pinned to
goes_with_pins : (q : Problem) (D : ℕ → ℕ → Bool) (path : List (ℕ × ℕ)) (p t : ℕ) → Quiet q D → Pins q path D → NotOn path p → p < size q.pattern → D p t ≡ true
    → GoesWith q path p t
goes_with_pins q D [] p t quiet pins off p_in here = tt
goes_with_pins q D (x ∷ xs) p t quiet pins off p_in here =
    ((quiet.settled x.0 x.1 pins.0 pins.1).goes p t p_in off.0 here, goes_with_pins q D xs p t quiet pins.2 off.1 p_in here)

-- a value beside a single one obeys each pair to which domains rise
obeys_single : (n : ℕ) (D : ℕ → ℕ → Bool) (xs : List (ℕ × ℕ)) (p t r u : ℕ)
    → ((k : ℕ) (x : ℕ × ℕ) → slice_get xs k ≡ Some x → x.0 < n → x.1 < n → Rising D x.0 x.1)
    → p < n → Single D p t → r < n → D r u ≡ true → Obeys xs p t r u
obeys_single n D [] p t r u rising p_in single r_in here = tt
obeys_single n D (x ∷ xs) p t r u rising p_in single r_in here = (
  λ first second. above first second (rising zero x refl (subst (λ (v : ℕ). v < n) (sym first) p_in) (subst (λ (v : ℕ). v < n) (sym second) r_in)),
  λ first second. below first second (rising zero x refl (subst (λ (v : ℕ). v < n) (sym first) r_in) (subst (λ (v : ℕ). v < n) (sym second) p_in)),
  obeys_single n D xs p t r u (λ k y is. rising (suc k) y is) p_in single r_in here,
)
  where
    above : x.0 ≡ p → x.1 ≡ r → Rising D x.0 x.1 → t < u
    above first second rise =
        let w = rise.lesser u (subst (λ (v : ℕ). D v u ≡ true) (sym second) here) in
        subst (λ (v : ℕ). v < u) (single.only w.0 (subst (λ (v : ℕ). D v w.0 ≡ true) first w.1)) w.2

    below : x.0 ≡ r → x.1 ≡ p → Rising D x.0 x.1 → u < t
    below first second rise =
        let w = rise.greater u (subst (λ (v : ℕ). D v u ≡ true) (sym first) here) in
        subst (λ (v : ℕ). u < v) (single.only w.0 (subst (λ (v : ℕ). D v w.0 ≡ true) second w.1)) w.2

goes_in_order : (q : Problem) (D : ℕ → ℕ → Bool) (path : List (ℕ × ℕ)) (p t : ℕ) → Ordered q D → Pins q path D → p < size q.pattern → D p t ≡ true
    → GoesInOrder q path p t
goes_in_order q D [] p t ordered pins p_in here = tt
goes_in_order q D (x ∷ xs) p t ordered pins p_in here =
    (obeys_single (size q.pattern) D q.less x.0 x.1 p t ordered.rising pins.0 pins.1 p_in here, goes_in_order q D xs p t ordered pins.2 p_in here)

-- and fits the path
pub domain_values_fit : DomainValuesFit
domain_values_fit q D path p t quiet ordered pins off p_in here = record {
  alone = quiet.first.alone p t p_in here;
  pairs = goes_with_pins q D path p t quiet pins off p_in here;
  order = goes_in_order q D path p t ordered pins p_in here;
}

pub domain_laws_hold : DomainLaws
domain_laws_hold = record { found = singles_embed; closed = all_refuted_is_dead; fits = domain_values_fit }

-- Values taken from one domain, one after another.

use Rattle.std.proofs.Common.{◌≡◌, ℕ, zero, suc, ◌+◌, ◌<◌, ◌≤◌, ◌↔◌, Bool, true, false, ◌==◌, ◌&&◌, ◌||◌, not, List, [], ◌∷◌, ◌++◌, length, take, get_or, refl, sym, ap, ◌∙◌, append_assoc, arith, inl, inr, ◌⊎◌}
use Rattle.std.proofs.lemmas.Bool.{cases_eq, eq-eqb, ne_eqb}
use Rattle.std.proofs.lemmas.List.{take_all}
use Rattle.search_theory.specs.Consistency.{AreConsistent}
use Rattle.graph_theory.specs.Embedding.{Problem}
use Rattle.graph_theory.specs.Graph.{size}
use Rattle.graph_rows.specs.Held.{stands_in}
use Rattle.graph_rows.proofs.Marking.{stands_in-take}
use Rattle.domain_bits.specs.Removals.{State, in_domain}
use Rattle.domain_bits.specs.Changes.{Shrinks, Keeps}

-- neither t nor in the list
abbrev pub is_left : ℕ → List ℕ → ℕ → Bool
is_left t near v = not (v == t) && not (stands_in near v)

shrinks_both : (a b c : State) (r : ℕ) → Shrinks a b r → Shrinks b c r → Shrinks a c r
shrinks_both a b c r f s = record {
  vertices_same = s.vertices_same ∙ f.vertices_same;
  values_same = s.values_same ∙ f.values_same;
  rest = f.rest ++ s.rest;
  front = s.front ∙ ap (λ (xs : List (ℕ × ℕ)). xs ++ s.rest) f.front ∙ append_assoc a.removed f.rest s.rest;
  others = λ q t ne. s.others q t ne ∙ f.others q t ne;
  less = λ q t h. f.less q t (s.less q t h);
}

-- t alone
pub left_first : (old new : State) (r t : ℕ) (near : List ℕ) → Keeps old new r (λ v. not (v == t)) → Keeps old new r (is_left t (take 0 near))
left_first old new r t near k = record { shrinks = k.shrinks; kept = λ v. k.kept v ∙ by (in_domain old r v) (not (v == t)) }
  where
    by : (a b : Bool) → (a && b) ≡ (a && (b && true))
    by true true = refl
    by true false = refl
    by false b = refl

-- one of the list more
pub left_more : (old mid new : State) (r t i u : ℕ) (near : List ℕ) → Keeps old mid r (is_left t (take i near)) → Keeps mid new r (λ v. not (v == u)) → i < length near
    → u ≡ get_or near i 0 → Keeps old new r (is_left t (take (i + 1) near))
left_more old mid new r t i u near f s i_in is = record {
  shrinks = shrinks_both old mid new r f.shrinks s.shrinks;
  kept = λ v.
      s.kept v ∙ ap (λ (b : Bool). b && not (v == u)) (f.kept v)
      ∙ by (in_domain old r v) (not (v == t)) (stands_in (take i near) v) (v == u)
      ∙ ap (λ (b : Bool). in_domain old r v && (not (v == t) && not (stands_in (take i near) v || b))) (turned v ∙ ap (λ (n : ℕ). n == v) is)
      ∙ ap (λ (b : Bool). in_domain old r v && (not (v == t) && not b)) (sym (stands_in-take near i v i_in));
}
  where
    by : (a b c e : Bool) → ((a && (b && not c)) && not e) ≡ (a && (b && not (c || e)))
    by true true true e = refl
    by true true false e = refl
    by true false c e = refl
    by false b c e = refl

    turned : (v : ℕ) → (v == u) ≡ (u == v)
    turned v = cases (cases_eq v u)
      where
        cases : (v ≡ u) ⊎ (v ≡ u → ⊥) → (v == u) ≡ (u == v)
        cases (inl e) = eq-eqb v u e ∙ sym (eq-eqb u v (sym e))
        cases (inr ne) = ne_eqb v u ne ∙ sym (ne_eqb u v (λ e. ne (sym e)))

-- all of it
pub left_all : (old new : State) (r t i : ℕ) (near : List ℕ) → Keeps old new r (is_left t (take i near)) → length near ≤ i → Keeps old new r (is_left t near)
left_all old new r t i near k all = record {
  shrinks = k.shrinks;
  kept = λ v. k.kept v ∙ ap (λ (xs : List ℕ). in_domain old r v && is_left t xs v) (take_all i near all);
}

-- a number of the list stands in it
pub stands_at : (near : List ℕ) (i : ℕ) → i < length near → stands_in near (get_or near i 0) ≡ true
stands_at [] i i_in = absurd (omega arith)
stands_at (u ∷ us) zero i_in = ap (λ (b : Bool). b || stands_in us u) (eq-eqb u u refl)
stands_at (u ∷ us) (suc i) i_in = ap (λ (b : Bool). (u == get_or us i 0) || b) (stands_at us i (omega arith)) ∙ second (u == get_or us i 0)
  where
    second : (a : Bool) → (a || true) ≡ true
    second true = refl
    second false = refl

-- what is left is what goes together with p at t
pub left_right : (q : Problem) (p t r : ℕ) (near : List ℕ) → ((u : ℕ) → u < size q.target → AreConsistent q p t r u ↔ ((t ≡ u → ⊥) × (stands_in near u ≡ false)))
    → (u : ℕ) → u < size q.target → is_left t near u ≡ true → AreConsistent q p t r u
left_right q p t r near asked u u_in h = (asked u u_in).1 (λ e. first (u == t) (not (stands_in near u)) h (eq-eqb u t (sym e)), second (not (u == t)) (stands_in near u) h)
  where
    first : (a b : Bool) → (not a && b) ≡ true → a ≡ true → ⊥
    first true b h e = cc
    first false b h e = cc

    second : (a b : Bool) → (a && not b) ≡ true → b ≡ false
    second true true h = cc
    second true false h = refl
    second false b h = cc

pub left_complete : (q : Problem) (p t r : ℕ) (near : List ℕ) → ((u : ℕ) → u < size q.target → AreConsistent q p t r u ↔ ((t ≡ u → ⊥) × (stands_in near u ≡ false)))
    → (u : ℕ) → AreConsistent q p t r u → u < size q.target → is_left t near u ≡ true
left_complete q p t r near asked u consistent u_in =
    let both = (asked u u_in).0 consistent in
    ap (λ (b : Bool). not b && not (stands_in near u)) (ne_eqb u t (λ e. both.0 (sym e))) ∙ ap not both.1

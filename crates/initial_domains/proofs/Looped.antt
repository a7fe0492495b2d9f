-- What the loops of two vertices ask.

use Rattle.std.proofs.Common.{◌≡◌, ℕ, Bool, true, false, not, ◌&&◌, List, Option, Some, None, is_some, refl, sym, ◌∙◌, subst}
use Rattle.graph_theory.specs.Graph.{label, edge}
use Rattle.graph_theory.specs.Embedding.{Problem, Allowed, Matches}
use Rattle.bit_rows.specs.BitRows.{has}

-- two edges that are not there match
none_match : (induced : Bool) (e f : Option ℕ) → is_some e ≡ false → is_some f ≡ false → Matches induced e f
none_match true None None a b = (tt, tt)
none_match false None None a b = tt
none_match i (Some l) f a b = cc
none_match i None (Some l) a b = cc

-- in the induced kind none is there where none was
match_none : (e f : Option ℕ) → is_some e ≡ false → Matches true e f → is_some f ≡ false
match_none None None a m = refl
match_none None (Some l) a m = let x = m.1 in cc
match_none (Some l) f a m = cc

-- outside it any may be
none_matches : (e f : Option ℕ) → is_some e ≡ false → Matches false e f
none_matches None f a = tt
none_matches (Some l) f a = cc

-- a vertex without a loop is allowed where the label is its own, outside the induced kind
pub allowed_plain : (q : Problem) (p t : ℕ) → q.induced ≡ false → is_some (edge q.pattern p p) ≡ false → label q.target t ≡ label q.pattern p → Allowed q p t
allowed_plain q p t kind none same = record {
  label_is = same;
  loop_is = rw kind (none_matches (edge q.pattern p p) (edge q.target t t) none);
}

both_of : (a b : Bool) → (a && not b) ≡ true → (a ≡ true) × (b ≡ false)
both_of true false h = (refl, refl)
both_of true true h = cc
both_of false b h = cc

to_both : (a b : Bool) → a ≡ true → b ≡ false → (a && not b) ≡ true
to_both true false x y = refl
to_both true true x y = cc
to_both false b x y = cc

-- in it the vertices with loops are taken out
pub loops_out : (q : Problem) (p : ℕ) (old new loops : List ℕ) → q.induced ≡ true → is_some (edge q.pattern p p) ≡ false
    → ((t : ℕ) → has old t ≡ true → label q.target t ≡ label q.pattern p) → ((t : ℕ) → has loops t ≡ is_some (edge q.target t t))
    → ((t : ℕ) → has new t ≡ (has old t && not (has loops t))) → (t : ℕ) → has new t ≡ true → (has old t ≡ true) × Allowed q p t
loops_out q p old new loops kind none labels loop cut t h =
    let both = both_of (has old t) (has loops t) (sym (cut t) ∙ h) in (
      both.0,
      record {
        label_is = labels t both.0;
        loop_is = none_match q.induced (edge q.pattern p p) (edge q.target t t) none (sym (loop t) ∙ both.1);
      },
    )

pub loops_in : (q : Problem) (p : ℕ) (old new loops : List ℕ) → q.induced ≡ true → is_some (edge q.pattern p p) ≡ false
    → ((t : ℕ) → has loops t ≡ is_some (edge q.target t t))
    → ((t : ℕ) → has new t ≡ (has old t && not (has loops t))) → (t : ℕ) → has old t ≡ true → Allowed q p t → has new t ≡ true
loops_in q p old new loops kind none loop cut t h allowed =
    cut t ∙ to_both (has old t) (has loops t) h
    (loop t ∙ match_none (edge q.pattern p p) (edge q.target t t) none (subst (λ (i : Bool). Matches i (edge q.pattern p p) (edge q.target t t)) kind allowed.loop_is))

-- The vertices of parts with labels of edges, and the labels that a vertex gave its neighbours.

use Rattle.std.specs.Prelude.{◌≡◌, ℕ, ◌<◌, ◌≤◌, List, [], ◌∷◌, ◌++◌, length, Option, Some, None, if◌then◌else◌, slice_index, refl}
use Rattle.std.proofs.Common.{ap, sym, eqb, ◌∙◌, inl, inr, ◌⊎◌, arith}
use Rattle.std.proofs.Math.ListN.{set}
use Rattle.std.proofs.lemmas.Bool.{cases_eq, eq-eqb, ne_eqb}
use Rattle.std.proofs.lemmas.List.{get_or-set_same, get_or-set_other}
use Rattle.graph_theory.specs.Lad.{Vertex, AreEach, AreVertices, listed_label}
use Rattle.graph_theory.specs.LadFault.{clash}
use Rattle.graph_theory.specs.declared.lad_text.LadKind.{LadKind}
use Rattle.graph_theory.specs.declared.lad_text.LadCause.TheVariants.{LabelClash}
use Rattle.lad_reader.specs.Parts.{with_labels, labelled_from, AreBelow, AllBelow}
use Rattle.lad_reader.specs.Given.{given_label, AreGiven}

-- One neighbour more, with its label.
pub with_labels-push : (bs es : List ℕ) (b e : ℕ) → length bs ≡ length es → with_labels (bs ++ b ∷ []) (es ++ e ∷ []) ≡ with_labels bs es ++ (b, e) ∷ []
with_labels-push [] [] b e h = refl
with_labels-push [] (f ∷ es) b e h = absurd (omega arith)
with_labels-push (c ∷ bs) [] b e h = absurd (omega arith)
with_labels-push (c ∷ bs) (f ∷ es) b e h = let p : ℕ × ℕ = (c, f) in ap (λ (v : List (ℕ × ℕ)). p ∷ v) (with_labels-push bs es b e (omega arith))

-- One vertex more.
pub labelled_from-push : (ls : List ℕ) (bss ess : List (List ℕ)) (l : ℕ) (bs es : List ℕ) → length ls ≡ length bss → length ls ≡ length ess
    → labelled_from (ls ++ l ∷ []) (bss ++ bs ∷ []) (ess ++ es ∷ []) ≡ labelled_from ls bss ess ++ (record { label = l; listed = with_labels bs es }) ∷ []
labelled_from-push [] [] [] l bs es h k = refl
labelled_from-push [] [] (fs ∷ ess) l bs es h k = absurd (omega arith)
labelled_from-push [] (cs ∷ bss) ess l bs es h k = absurd (omega arith)
labelled_from-push (m ∷ ls) [] ess l bs es h k = absurd (omega arith)
labelled_from-push (m ∷ ls) (cs ∷ bss) [] l bs es h k = absurd (omega arith)
labelled_from-push (m ∷ ls) (cs ∷ bss) (fs ∷ ess) l bs es h k =
    ap (λ (vs : List Vertex). (record { label = m; listed = with_labels cs fs }) ∷ vs) (labelled_from-push ls bss ess l bs es (omega arith) (omega arith))

-- There is a vertex for each label.
pub length-labelled_from : (ls : List ℕ) (bss ess : List (List ℕ)) → length ls ≡ length bss → length (labelled_from ls bss ess) ≡ length ls
length-labelled_from [] bss ess h = refl
length-labelled_from (l ∷ ls) [] ess h = absurd (omega arith)
length-labelled_from (l ∷ ls) (bs ∷ bss) [] h = let k = length-labelled_from ls bss [] (omega arith) in omega arith
length-labelled_from (l ∷ ls) (bs ∷ bss) (es ∷ ess) h = let k = length-labelled_from ls bss ess (omega arith) in omega arith

-- Neighbours that may be listed in a text of n are below n.
AreBelow-with_labels : (kind : LadKind) (n : ℕ) (bs es : List ℕ) → AreEach kind n (with_labels bs es) → AreBelow n bs
AreBelow-with_labels kind n [] es h = tt
AreBelow-with_labels kind n (b ∷ bs) [] h = (h.0, AreBelow-with_labels kind n bs [] h.2)
AreBelow-with_labels kind n (b ∷ bs) (e ∷ es) h = (h.0, AreBelow-with_labels kind n bs es h.2)

-- The neighbours of vertices that may stand in a text of n are below n.
pub AllBelow-labelled : (kind : LadKind) (n : ℕ) (ls : List ℕ) (bss ess : List (List ℕ)) → length ls ≡ length bss → AreVertices kind n (labelled_from ls bss ess) → AllBelow n bss
AllBelow-labelled kind n ls [] ess e h = tt
AllBelow-labelled kind n [] (bs ∷ bss) ess e h = absurd (omega arith)
AllBelow-labelled kind n (l ∷ ls) (bs ∷ bss) [] e h = (AreBelow-with_labels kind n bs [] h.0.listed.each, AllBelow-labelled kind n ls bss [] (omega arith) h.1)
AllBelow-labelled kind n (l ∷ ls) (bs ∷ bss) (es ∷ ess) e h = (AreBelow-with_labels kind n bs es h.0.listed.each, AllBelow-labelled kind n ls bss ess (omega arith) h.1)

-- ---- the labels that a vertex gave

-- A neighbour that is listed once more has the label that it has there, where it is no clash.
listed_label-same : (es : List (ℕ × ℕ)) (b l : ℕ) → clash (listed_label es b) l ≡ None → listed_label (es ++ (b, l) ∷ []) b ≡ Some l
listed_label-same [] b l h = rw (eq-eqb b b refl) refl
listed_label-same (e ∷ es) b l h = by (cases_eq e.0 b) (listed_label-same es b l)
  where
    given : (m : ℕ) → clash (Some m) l ≡ None → Some m ≡ Some l
    given m k = of (cases_eq m l)
      where
        of : (m ≡ l) ⊎ (m ≡ l → ⊥) → Some m ≡ Some l
        of (inl same) = ap (λ (v : ℕ). Some v) same
        of (inr apart) = let other : Some LabelClash ≡ None = rw (ne_eqb m l apart) at k in cc

    by : (e.0 ≡ b) ⊎ (e.0 ≡ b → ⊥) → (clash (listed_label es b) l ≡ None → listed_label (es ++ (b, l) ∷ []) b ≡ Some l)
        → (if eqb e.0 b then Some e.1 else listed_label (es ++ (b, l) ∷ []) b) ≡ Some l
    by (inl same) rest = let own : clash (Some e.1) l ≡ None = rw (eq-eqb e.0 b same) at h in rw (eq-eqb e.0 b same) (given e.1 own)
    by (inr apart) rest = let own : clash (listed_label es b) l ≡ None = rw (ne_eqb e.0 b apart) at h in rw (ne_eqb e.0 b apart) (rest own)

-- Another has the label that it had.
listed_label-other : (es : List (ℕ × ℕ)) (b l c : ℕ) → (b ≡ c → ⊥) → listed_label (es ++ (b, l) ∷ []) c ≡ listed_label es c
listed_label-other [] b l c apart = rw (ne_eqb b c apart) refl
listed_label-other (e ∷ es) b l c apart = ap (λ (o : Option ℕ). if eqb e.0 c then Some e.1 else o) (listed_label-other es b l c apart)

-- Where all stamps are older nothing was given.
pub given_none : (size stamp : ℕ) (stamps labels : List ℕ) → ((b : ℕ) → slice_index stamps b < stamp) → AreGiven size stamp stamps labels []
given_none size stamp stamps labels older = record {
  each = λ b b_in. rw (ne_eqb (slice_index stamps b) stamp (λ e. omega (arith, older b))) refl;
  known = λ b. omega (arith, older b);
}

-- One neighbour more was given a label.
pub given_more : (size stamp : ℕ) (stamps labels : List ℕ) (es : List (ℕ × ℕ)) (b l : ℕ) → length stamps ≡ size → length labels ≡ size → b < size
    → AreGiven size stamp stamps labels es → clash (listed_label es b) l ≡ None → AreGiven size stamp (set stamps b stamp) (set labels b l) (es ++ (b, l) ∷ [])
given_more size stamp stamps labels es b l stamps_long labels_long b_in h none = record {
  each = λ c c_in. by c c_in (cases_eq c b);
  known = λ c. known_at c (cases_eq c b);
}
  where
    by : (c : ℕ) → c < size → (c ≡ b) ⊎ (c ≡ b → ⊥) → given_label (set stamps b stamp) (set labels b l) stamp c ≡ listed_label (es ++ (b, l) ∷ []) c
    by c c_in (inl e) =
        rw (e, get_or-set_same stamps b stamp 0 (omega arith), get_or-set_same labels b l 0 (omega arith), eq-eqb stamp stamp refl) (sym (listed_label-same es b l none))
    by c c_in (inr ne) =
        rw (get_or-set_other stamps b c stamp 0 ne, get_or-set_other labels b c l 0 ne)
        (h.each c c_in ∙ sym (listed_label-other es b l c (λ e. ne (sym e))))

    known_at : (c : ℕ) → (c ≡ b) ⊎ (c ≡ b → ⊥) → slice_index (set stamps b stamp) c ≤ stamp
    known_at c (inl e) = rw (e, get_or-set_same stamps b stamp 0 (omega arith)) (omega arith)
    known_at c (inr ne) = rw (get_or-set_other stamps b c stamp 0 ne) (h.known c)

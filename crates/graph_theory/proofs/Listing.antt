-- Lists of neighbours: one neighbour more, and labels that agree.

use Rattle.std.specs.Prelude.{◌≡◌, ℕ, ◌<◌, List, [], ◌∷◌, ◌++◌, Some, None, if◌then◌else◌, refl}
use Rattle.std.proofs.Common.{sym, ap, ◌⊎◌, inl, inr, ◌∙◌, append_assoc, eqb}
use Rattle.std.proofs.lemmas.Bool.{cases_eq, eq-eqb, ne_eqb}
use Rattle.std.proofs.lemmas.List.{append-nil}
use Rattle.graph_theory.specs.Lad.{edge_label_numbers, listed_numbers, HasEdgeLabel, AreEach, AgreesWith, Agree, AreListed, listed_label}
use Rattle.graph_theory.specs.LadFault.{clash}
use Rattle.graph_theory.specs.Progress.{MayFollow}
use Rattle.graph_theory.specs.declared.lad_text.LadCause.TheVariants.{LabelClash}
use Rattle.graph_theory.specs.declared.lad_text.LadKind.{LadKind}
use Rattle.graph_theory.specs.declared.lad_text.LadKind.TheVariants.{Lad, VertexLabelledLad, DirectedLad, LabelledLad}

-- A label that was given before is no clash.
pub no_clash : (m l : ℕ) → l ≡ m → clash (Some m) l ≡ None
no_clash m l e = rw (eq-eqb m l (sym e)) refl

-- A label that is no clash was given before.
clash_same : (m l : ℕ) → clash (Some m) l ≡ None → l ≡ m
clash_same m l h = by (cases_eq m l)
  where
    by : (m ≡ l) ⊎ (m ≡ l → ⊥) → l ≡ m
    by (inl e) = sym e
    by (inr apart) = let other : Some LabelClash ≡ None = rw (ne_eqb m l apart) at h in cc

-- In a list in which each neighbour keeps its label the one in the middle agrees with the first.
middle_agrees : (e f : ℕ × ℕ) (es fs : List (ℕ × ℕ)) → AgreesWith e (es ++ f ∷ fs) → f.0 ≡ e.0 → f.1 ≡ e.1
middle_agrees e f [] fs h = h.0
middle_agrees e f (x ∷ es) fs h = middle_agrees e f es fs h.1

-- So the label of the one in the middle is no clash with those before it.
pub clash-agree : (f : ℕ × ℕ) (es fs : List (ℕ × ℕ)) → Agree (es ++ f ∷ fs) → clash (listed_label es f.0) f.1 ≡ None
clash-agree f [] fs h = refl
clash-agree f (e ∷ es) fs h = by (cases_eq e.0 f.0) (clash-agree f es fs h.1)
  where
    by : (e.0 ≡ f.0) ⊎ (e.0 ≡ f.0 → ⊥) → clash (listed_label es f.0) f.1 ≡ None → clash (if eqb e.0 f.0 then Some e.1 else listed_label es f.0) f.1 ≡ None
    by (inl same) rest = rw (eq-eqb e.0 f.0 same) (no_clash e.1 f.1 (middle_agrees e f es fs h.0 (sym same)))
    by (inr apart) rest = rw (ne_eqb e.0 f.0 apart) rest

-- The label of the first is no clash with those that agree with it.
clash_after : (e : ℕ × ℕ) (es : List (ℕ × ℕ)) (b l : ℕ) → AgreesWith e es → e.0 ≡ b → l ≡ e.1 → clash (listed_label es b) l ≡ None
clash_after e [] b l h same is = refl
clash_after e (f ∷ es) b l h same is = by (cases_eq f.0 b) (clash_after e es b l h.1 same is)
  where
    by : (f.0 ≡ b) ⊎ (f.0 ≡ b → ⊥) → clash (listed_label es b) l ≡ None → clash (if eqb f.0 b then Some f.1 else listed_label es b) l ≡ None
    by (inl e_is) rest = rw (eq-eqb f.0 b e_is) (no_clash f.1 l (is ∙ sym (h.0 (e_is ∙ sym same))))
    by (inr apart) rest = rw (ne_eqb f.0 b apart) rest

AgreesWith-push : (e f : ℕ × ℕ) (es : List (ℕ × ℕ)) → AgreesWith e es → (f.0 ≡ e.0 → f.1 ≡ e.1) → AgreesWith e (es ++ f ∷ [])
AgreesWith-push e f [] h k = (k, tt)
AgreesWith-push e f (x ∷ es) h k = (h.0, AgreesWith-push e f es h.1 k)

-- One neighbour more agrees where its label is no clash.
Agree-push : (es : List (ℕ × ℕ)) (f : ℕ × ℕ) → Agree es → clash (listed_label es f.0) f.1 ≡ None → Agree (es ++ f ∷ [])
Agree-push [] f h c = (tt, tt)
Agree-push (e ∷ es) f h c = by (cases_eq e.0 f.0) (Agree-push es f h.1)
  where
    by : (e.0 ≡ f.0) ⊎ (e.0 ≡ f.0 → ⊥) → (clash (listed_label es f.0) f.1 ≡ None → Agree (es ++ f ∷ [])) → AgreesWith e (es ++ f ∷ []) × Agree (es ++ f ∷ [])
    by (inl same) rest =
        let own : clash (Some e.1) f.1 ≡ None = rw (eq-eqb e.0 f.0 same) at c in
        let label : f.1 ≡ e.1 = clash_same e.1 f.1 own in (
          AgreesWith-push e f es h.0 (λ _. label),
          rest (clash_after e es f.0 f.1 h.0 same label),
        )
    by (inr apart) rest =
        let own : clash (listed_label es f.0) f.1 ≡ None = rw (ne_eqb e.0 f.0 apart) at c in (
          AgreesWith-push e f es h.0 (λ same. absurd (apart (sym same))),
          rest own,
        )

AreEach-push : (kind : LadKind) (n : ℕ) (es : List (ℕ × ℕ)) (e : ℕ × ℕ) → AreEach kind n es → e.0 < n → HasEdgeLabel kind e.1 → AreEach kind n (es ++ e ∷ [])
AreEach-push kind n [] e h b l = (b, l, tt)
AreEach-push kind n (f ∷ es) e h b l = (h.0, h.1, AreEach-push kind n es e h.2 b l)

-- A label that may follow is one that the format can give.
follows_label : (kind : LadKind) (es : List (ℕ × ℕ)) (b l : ℕ) → MayFollow kind es b l → HasEdgeLabel kind l
follows_label Lad es b l h = h
follows_label VertexLabelledLad es b l h = h
follows_label DirectedLad es b l h = h
follows_label LabelledLad es b l h = tt

-- Where each label is 0 none clashes.
zeros_agree : (kind : LadKind) (n : ℕ) (es : List (ℕ × ℕ)) (b l : ℕ) → ((k : ℕ) → HasEdgeLabel kind k → k ≡ 0) → AreEach kind n es → l ≡ 0
    → clash (listed_label es b) l ≡ None
zeros_agree kind n [] b l zero h e = refl
zeros_agree kind n (f ∷ es) b l zero h e = by (cases_eq f.0 b) (zeros_agree kind n es b l zero h.2 e)
  where
    by : (f.0 ≡ b) ⊎ (f.0 ≡ b → ⊥) → clash (listed_label es b) l ≡ None → clash (if eqb f.0 b then Some f.1 else listed_label es b) l ≡ None
    by (inl same) rest = rw (eq-eqb f.0 b same) (no_clash f.1 l (e ∙ sym (zero f.1 h.1)))
    by (inr apart) rest = rw (ne_eqb f.0 b apart) rest

-- A label that may follow is no clash.
follows_agree : (kind : LadKind) (n : ℕ) (es : List (ℕ × ℕ)) (b l : ℕ) → AreEach kind n es → MayFollow kind es b l → clash (listed_label es b) l ≡ None
follows_agree Lad n es b l h m = zeros_agree Lad n es b l (λ k e. e) h m
follows_agree VertexLabelledLad n es b l h m = zeros_agree VertexLabelledLad n es b l (λ k e. e) h m
follows_agree DirectedLad n es b l h m = zeros_agree DirectedLad n es b l (λ k e. e) h m
follows_agree LabelledLad n es b l h m = m

-- No neighbour may be listed.
pub AreListed-none : (kind : LadKind) (n : ℕ) → AreListed kind n []
AreListed-none kind n = record { each = tt; agree = tt }

-- One neighbour more may be listed.
pub AreListed-push : (kind : LadKind) (n : ℕ) (es : List (ℕ × ℕ)) (e : ℕ × ℕ) → AreListed kind n es → e.0 < n → MayFollow kind es e.0 e.1 → AreListed kind n (es ++ e ∷ [])
AreListed-push kind n es e h b m = record {
  each = AreEach-push kind n es e h.each b (follows_label kind es e.0 e.1 m);
  agree = Agree-push es e h.agree (follows_agree kind n es e.0 e.1 h.each m);
}

-- The numbers of one neighbour more.
pub listed_numbers-push : (kind : LadKind) (es : List (ℕ × ℕ)) (e : ℕ × ℕ)
    → listed_numbers kind (es ++ e ∷ []) ≡ listed_numbers kind es ++ (e.0 ∷ edge_label_numbers kind e.1)
listed_numbers-push kind [] e = ap (λ (v : List ℕ). e.0 ∷ v) (append-nil (edge_label_numbers kind e.1))
listed_numbers-push kind (f ∷ es) e =
    ap (λ (v : List ℕ). f.0 ∷ (edge_label_numbers kind f.1 ++ v)) (listed_numbers-push kind es e)
    ∙ ap (λ (v : List ℕ). f.0 ∷ v) (sym (append_assoc (edge_label_numbers kind f.1) (listed_numbers kind es) (e.0 ∷ edge_label_numbers kind e.1)))

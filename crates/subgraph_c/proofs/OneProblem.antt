-- A call asks at most one problem, and none where a text or the pairs are faulty.

use Rattle.std.specs.Prelude.{◌≡◌, ℕ, Bool, List, [], ◌∷◌, slice_get, Some, None}
use Rattle.std.specs.List.{All}
use Rattle.std.proofs.Common.{zero, suc, sym, ap, subst, ◌∙◌}
use Rattle.std.proofs.lemmas.List.Elements.{All-head, All-tail}
use Rattle.graph_theory.specs.Text.{words}
use Rattle.graph_theory.specs.Graph.{Graph}
use Rattle.graph_theory.specs.GraphText.{ReadsGraph, text_graph}
use Rattle.graph_theory.specs.LadFault.{TextLaws}
use Rattle.graph_theory.specs.Embedding.{Problem}
use Rattle.graph_theory.specs.declared.embedding.Maps.{Maps}
use Rattle.graph_theory.specs.declared.lad_text.LadKind.{LadKind}
use Rattle.subgraph_c.specs.Asking.{Call, Asks, HasBoth, HaveVertices, IsFaulty, LacksVertex, format_of}
use Rattle.subgraph_c.specs.declared.passed.Pair.{Pair}
use Rattle.subgraph_c.specs.declared.refusal.Refusal.{Refusal}
use Rattle.subgraph_c.specs.declared.refusal.Refusal.TheVariants.{Number, Pattern, Target, Vertex, NoMemory}

-- A text is that of one graph.
pub one_graph : TextLaws → (ws : List (List ℕ)) (kind : LadKind) (most : ℕ) (g h : Graph) → ReadsGraph ws kind most g → ReadsGraph ws kind most h → g ≡ h
one_graph laws ws kind most g h x y =
    x.graph_is ∙ (ap (text_graph kind) (laws.one_reading ws kind most _ _ x.reads y.reads) ∙ sym y.graph_is)

-- A problem of five parts.
abbrev made : Graph → Graph → Bool → Maps → List (ℕ × ℕ) → Problem
made pattern target induced maps less = record { pattern = pattern; target = target; induced = induced; maps = maps; less = less }

-- Problems of equal parts are equal.
problem_same : (q r : Problem) → q.pattern ≡ r.pattern → q.target ≡ r.target → q.induced ≡ r.induced → q.maps ≡ r.maps → q.less ≡ r.less → q ≡ r
problem_same q r e f h i j =
    ap (λ (g : Graph). made g q.target q.induced q.maps q.less) e ∙ (ap (λ (g : Graph). made r.pattern g q.induced q.maps q.less) f
    ∙ (ap (λ (b : Bool). made r.pattern r.target b q.maps q.less) h ∙ (ap (λ (m : Maps). made r.pattern r.target r.induced m q.less) i
    ∙ ap (made r.pattern r.target r.induced r.maps) j)))

-- A call asks one problem.
pub one_problem : TextLaws → (c : Call) (q r : Problem) → Asks c q → Asks c r → q ≡ r
one_problem laws c q r x y =
    problem_same q r (one_graph laws (words c.pattern) (format_of c.options.format) 1024 _ _ x.pattern_is y.pattern_is)
    (one_graph laws (words c.target) (format_of c.options.format) 8192 _ _ x.target_is y.target_is)
    (x.induced_is ∙ sym y.induced_is) (x.maps_are ∙ sym y.maps_are) (x.less_is ∙ sym y.less_is)

-- What is so of each element is so of the one at this place.
all_at : {A : Type 0} (P : A → Type 0) (xs : List A) (i : ℕ) (x : A) → slice_get xs i ≡ Some x → All P xs → P x
all_at P [] i x there all = let no : None ≡ Some x = there in cc
all_at P (y ∷ ys) zero x there all = let same : y ≡ x = cc in subst P same (All-head P y ys all)
all_at P (y ∷ ys) (suc i) x there all = all_at P ys i x there (All-tail P y ys all)

-- Where the graph has the vertices of each pair, none is lacking.
none_lacks : (g : Graph) (less : List Pair) (n : ℕ) → HaveVertices g less → LacksVertex g less n → ⊥
none_lacks g less n have lacks = lacks.lacks (all_at (HasBoth g) less lacks.place lacks.pair lacks.at have)

-- A call that asks a problem is not faulty.
pub asks_not_faulty : TextLaws → (c : Call) (q : Problem) (refusal : Refusal) → Asks c q → IsFaulty c refusal → ⊥
asks_not_faulty laws c q (Pattern word cause) x y =
    laws.no_fault (words c.pattern) (format_of c.options.format) 1024 _ word cause x.pattern_is.reads y
asks_not_faulty laws c q (Vertex number) x y =
    let same = one_graph laws (words c.pattern) (format_of c.options.format) 1024 q.pattern y.graph x.pattern_is y.pattern_is in
    none_lacks y.graph c.less number (subst (λ (g : Graph). HaveVertices g c.less) same x.vertices) y.lacks
asks_not_faulty laws c q (Target word cause) x y =
    laws.no_fault (words c.target) (format_of c.options.format) 8192 _ word cause x.target_is.reads y.fault
asks_not_faulty laws c q (Number n) x y = y
asks_not_faulty laws c q NoMemory x y = y

-- Files ask at most one problem, hold at most one mapping, and neither where one of them is refused.

use Rattle.std.specs.Prelude.{◌≡◌, ℕ, ◌<◌, ◌≤◌, Bool, List, [], ◌∷◌, length, slice_get, Option, Some, None}
use Rattle.std.specs.List.{All}
use Rattle.std.proofs.lemmas.List.Elements.{All-head, All-tail}
use Rattle.std.proofs.Common.{zero, suc, sym, ap, subst, ◌∙◌, arith}
use Rattle.graph_theory.specs.Text.{words}
use Rattle.graph_theory.specs.Graph.{Graph}
use Rattle.graph_theory.specs.GraphText.{ReadsGraph, text_graph}
use Rattle.graph_theory.specs.LadFault.{TextLaws, Fault}
use Rattle.graph_theory.specs.Mapping.{MappingLaws, IsMapping, FaultyLine}
use Rattle.graph_theory.specs.Embedding.{Problem}
use Rattle.graph_theory.specs.declared.embedding.Maps.{Maps}
use Rattle.graph_theory.specs.declared.lad_text.LadKind.{LadKind}
use Rattle.command_line.specs.Questions.{Question}
use Rattle.command_line.specs.declared.commands.VerifyWords.{VerifyWords}
use Rattle.subgraph_cli.specs.declared.stop.Role.{Role}
use Rattle.subgraph_cli.specs.declared.stop.Role.TheVariants.{Pattern, Less, Target, Mapping}
use Rattle.subgraph_cli.specs.declared.stop.TextFault.{TextFault}
use Rattle.subgraph_cli.specs.declared.stop.TextFault.TheVariants.{TooLong, Word, Pair, Line}
use Rattle.subgraph_cli.specs.Questions.{HoldsGraph, HoldsNoGraph, HasBoth, HaveVertices, IsPairFault, Asks, IsFirstRefused}
use Rattle.subgraph_cli.specs.Verifying.{HoldsMapping, HoldsNoMapping, AsksOf, IsFirstOfThree}

-- A content has one list of bytes.
bytes_same : (content : Option (List ℕ)) (a b : List ℕ) → content ≡ Some a → content ≡ Some b → a ≡ b
bytes_same content a b e f = cc

-- A content is the text of one graph.
pub one_graph : TextLaws → (content : Option (List ℕ)) (kind : LadKind) (most : ℕ) (g h : Graph)
    → HoldsGraph content kind most g → HoldsGraph content kind most h → g ≡ h
one_graph laws content kind most g h x y =
    let same = bytes_same content y.bytes x.bytes y.there x.there in
    let again : ReadsGraph (words x.bytes) kind most h = subst (λ (b : List ℕ). ReadsGraph (words b) kind most h) same y.is.reads in
    x.is.reads.graph_is
    ∙ (ap (text_graph kind) (laws.one_reading _ kind most _ _ x.is.reads.reads again.reads) ∙ sym again.graph_is)

-- The content of a good file is not refused.
pub not_refused : TextLaws → (content : Option (List ℕ)) (kind : LadKind) (most : ℕ) (g : Graph) (fault : TextFault)
    → HoldsGraph content kind most g → HoldsNoGraph content kind most fault → ⊥
not_refused laws content kind most g TooLong x y =
    let same = bytes_same content y.bytes x.bytes y.there x.there in
    let long : 67108864 < length x.bytes = subst (λ (b : List ℕ). 67108864 < length b) same y.is in
    let short : length x.bytes ≤ 67108864 = x.is.short in
    omega arith
not_refused laws content kind most g (Word w cause) x y =
    let same = bytes_same content y.bytes x.bytes y.there x.there in
    let fault : Fault (words x.bytes) kind most w cause = subst (λ (b : List ℕ). Fault (words b) kind most w cause) same y.is.1 in
    laws.no_fault _ kind most _ w cause x.is.reads.reads fault
not_refused laws content kind most g _ x y = y.is

-- A problem of five parts.
abbrev made : Graph → Graph → Bool → Maps → List (ℕ × ℕ) → Problem
made pattern target induced maps less = record { pattern = pattern; target = target; induced = induced; maps = maps; less = less }

-- Problems of equal parts are equal.
problem_same : (q r : Problem) → q.pattern ≡ r.pattern → q.target ≡ r.target → q.induced ≡ r.induced → q.maps ≡ r.maps → q.less ≡ r.less → q ≡ r
problem_same q r e f h i j =
    ap (λ (g : Graph). made g q.target q.induced q.maps q.less) e ∙ (ap (λ (g : Graph). made r.pattern g q.induced q.maps q.less) f
    ∙ (ap (λ (b : Bool). made r.pattern r.target b q.maps q.less) h ∙ (ap (λ (m : Maps). made r.pattern r.target r.induced m q.less) i
    ∙ ap (made r.pattern r.target r.induced r.maps) j)))

-- Two files ask one problem.
pub one_problem : TextLaws → (pattern target : Option (List ℕ)) (ask : Question) (q r : Problem)
    → Asks pattern target ask q → Asks pattern target ask r → q ≡ r
one_problem laws pattern target ask q r x y =
    problem_same q r (one_graph laws pattern ask.format 1024 _ _ x.pattern_is y.pattern_is)
    (one_graph laws target ask.format 8192 _ _ x.target_is y.target_is) (x.induced_is ∙ sym y.induced_is) (x.maps_are ∙ sym y.maps_are) (x.less_is ∙ sym y.less_is)

-- What is so of each element is so of the one at this place.
pub all_at : {A : Type 0} (P : A → Type 0) (xs : List A) (i : ℕ) (x : A) → slice_get xs i ≡ Some x → All P xs → P x
all_at P [] i x there all = let no : None ≡ Some x = there in cc
all_at P (y ∷ ys) zero x there all = let same : y ≡ x = cc in subst P same (All-head P y ys all)
all_at P (y ∷ ys) (suc i) x there all = all_at P ys i x there (All-tail P y ys all)

-- Where the graph has the vertices of each pair, none is refused.
pub pairs_not_refused : (g : Graph) (less : List (ℕ × ℕ)) (fault : TextFault) → HaveVertices g less → IsPairFault g less fault → ⊥
pairs_not_refused g less (Pair n) have lacks = lacks.lacks (all_at (HasBoth g) less lacks.place lacks.pair lacks.at have)
pairs_not_refused g less _ have lacks = lacks

-- Files that ask a problem are not refused.
pub asks_not_refused : TextLaws → (pattern target : Option (List ℕ)) (ask : Question) (q : Problem) (role : Role) (fault : TextFault)
    → Asks pattern target ask q → IsFirstRefused pattern target ask role fault → ⊥
asks_not_refused laws pattern target ask q Pattern fault x y = not_refused laws pattern ask.format 1024 q.pattern fault x.pattern_is y
asks_not_refused laws pattern target ask q Less fault x y =
    let same = one_graph laws pattern ask.format 1024 q.pattern y.graph x.pattern_is y.pattern_is in
    let have = subst (λ (less : List (ℕ × ℕ)). HaveVertices q.pattern less) x.less_is x.vertices in
    pairs_not_refused y.graph ask.less fault (subst (λ (g : Graph). HaveVertices g ask.less) same have) y.is
asks_not_refused laws pattern target ask q Target fault x y = not_refused laws target ask.format 8192 q.target fault x.target_is y.target_is
asks_not_refused laws pattern target ask q _ fault x y = y

-- A content is the text of one mapping.
pub one_mapping : MappingLaws → (content : Option (List ℕ)) (m n : List ℕ) → HoldsMapping content m → HoldsMapping content n → m ≡ n
one_mapping laws content m n x y =
    let same = bytes_same content y.bytes x.bytes y.there x.there in
    laws.one_mapping x.bytes m n x.is (subst (λ (b : List ℕ). IsMapping b n) same y.is)

-- The content of a mapping's file is not refused.
pub mapping_not_refused : MappingLaws → (content : Option (List ℕ)) (m : List ℕ) (fault : TextFault)
    → HoldsMapping content m → HoldsNoMapping content fault → ⊥
mapping_not_refused laws content m TooLong x y =
    let same = bytes_same content y.bytes x.bytes y.there x.there in
    let long : 67108864 < length x.bytes = subst (λ (b : List ℕ). 67108864 < length b) same y.is in
    let short : length x.bytes ≤ 67108864 = x.short in
    omega arith
mapping_not_refused laws content m (Line n) x y =
    let same = bytes_same content y.bytes x.bytes y.there x.there in
    laws.no_fault x.bytes m n x.is (subst (λ (b : List ℕ). FaultyLine b n) same y.is.1)
mapping_not_refused laws content m _ x y = y.is

-- Files that ask a problem and hold a mapping are not refused.
pub asked_not_refused : TextLaws → MappingLaws → (w : VerifyWords) (pattern target mapping : Option (List ℕ)) (q : Problem) (m : List ℕ) (role : Role) (fault : TextFault)
    → AsksOf w pattern target mapping q m → IsFirstOfThree w pattern target mapping role fault → ⊥
asked_not_refused texts maps w pattern target mapping q m Pattern fault x y =
    asks_not_refused texts pattern target w.ask q Pattern fault x.problem_is y
asked_not_refused texts maps w pattern target mapping q m Less fault x y =
    asks_not_refused texts pattern target w.ask q Less fault x.problem_is y
asked_not_refused texts maps w pattern target mapping q m Target fault x y =
    asks_not_refused texts pattern target w.ask q Target fault x.problem_is y
asked_not_refused texts maps w pattern target mapping q m Mapping fault x y =
    mapping_not_refused maps mapping m fault x.mapping_is y.is
asked_not_refused texts maps w pattern target mapping q m _ fault x y = y

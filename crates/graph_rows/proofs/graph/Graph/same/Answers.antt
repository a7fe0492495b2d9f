use Rattle.std.proofs.Common.{refl}
use Rattle.std.proofs.lemmas.Bool.{false≢true}
use Rattle.graph_rows.proofs.SameGraphs.{other_lists, same_by_edges}
use Rattle.graph_rows.proofs.graph.Graph.same.Goals as goal

pub returns-then-not-same_lists : goal.returns-then-not-same_lists
returns-then-not-same_lists c = (
  λ no. absurd (false≢true no),
  λ e. absurd (other_lists c.self.inside.labels.items c.other.inside.labels.items c.self.inside.words.items c.other.inside.words.items _ _ c.self.inside.degrees.items c.other.inside.degrees.items _ _ _ _ _ _ _ _
      c.self.view_is c.other.view_is c.self.invariant.0 c.other.invariant.0 c.deref.ensures.value c.deref-2.ensures.value c.deref-3.ensures.value c.deref-4.ensures.value
      c.same_lists.ensures.fit c.same_lists.ensures.others_fit (λ both. false≢true (c.if-not-same_lists.ensures.same.1 both)) e),
)

pub returns : goal.returns
returns c =
    same_by_edges c.self.inside.labels.items c.other.inside.labels.items c.self.inside.words.items c.other.inside.words.items _ _ _ _ _ _ _ _ _
    c.self.view_is c.other.view_is c.deref.ensures.value c.deref-2.ensures.value (c.if-not-same_lists.ensures.same.0 refl).0 c.has_edges_of.ensures

use Rattle.std.proofs.Common.{sym, ◌∙◌}
use Rattle.restart_search.proofs.Steps.{best_may_stand, best_is_first}
use Rattle.restart_search.proofs.vertex_choice.level_vertex.Goals as goal

pub returns-in-None-clause-some : goal.returns-in-None-clause-some
returns-in-None-clause-some g c =
    best_may_stand _ _ _ _ _ c.requires.is_of c.requires.rest (sym c.vertex.ensures.is ∙ c.in-None.is) c.smallest.ensures

pub returns-in-None-clause-fresh : goal.returns-in-None-clause-fresh
returns-in-None-clause-fresh g c = λ none. best_is_first _ _ c.smallest.result _ c.smallest.ensures

-- What the maker of the lines of a log knows.

use Rattle.std.specs.Prelude.{List}
use Rattle.graph_theory.specs.Embedding.{Problem}
use Rattle.proof_theory.specs.Forms.{Form}
use Rattle.log_growth.specs.Frames.{Frame}
use Rattle.line_cache.specs.declared.maker.LineCache.{LineCache}
use Rattle.line_cache.specs.Made.{IsMade}

-- Each name that it remembers is that of the right form.
abbrev pub IsKnown : LineCache → Problem → Frame → List Form → Type 0
IsKnown m q w forms = IsMade q m.problem.now w m.units m.firsts m.rows m.sets forms

-- Which form of the encoding a line is.

use Rattle.std.specs.Prelude.{ℕ, ◌<◌, nat_lt, Bool, true, false, Option, Some, None}
use Rattle.graph_theory.specs.Graph.{size}
use Rattle.graph_theory.specs.Embedding.{Problem}
use Rattle.proof_theory.specs.Forms.{Form}
use Rattle.encoding_theory.specs.Encoding.{at_least, at_most, at_most_in, refusal, pair_form, less_from, less_to}
use Rattle.pb_encoding.specs.declared.line.Line.{Line}
use Rattle.pb_encoding.specs.declared.line.Line.TheVariants.{AtLeast, AtMost, AtMostIn, Refused, Pair, LessFrom, LessTo}

-- The form of a line.
abbrev pub form_on : Problem → Line → Form
form_on q (AtLeast p) = at_least q p
form_on q (AtMost p) = at_most q p
form_on q (AtMostIn b t) = at_most_in q b t
form_on q (Refused p t) = refusal q p t
form_on q (Pair p r t) = pair_form q p r t
form_on q (LessFrom a b t) = less_from q (a, b) t
form_on q (LessTo a b t) = less_to q (a, b) t

-- A pair of a pattern vertex and a target vertex.
pub record PairIsIn (q : Problem) (p t : ℕ) : Type 0 where
  pub vertex : p < size q.pattern
  pub target : t < size q.target

-- The block is that of all vertices, or its centre is one.
abbrev pub IsCentreIn : Problem → Option ℕ → Type 0
IsCentreIn q None = Unit {0}
IsCentreIn q (Some c) = c < size q.pattern

-- The line's vertices are vertices of the problem.
abbrev pub LineIsIn : Problem → Line → Type 0
LineIsIn q (AtLeast p) = p < size q.pattern
LineIsIn q (AtMost p) = p < size q.pattern
LineIsIn q (AtMostIn b t) = (t < size q.target) × IsCentreIn q b
LineIsIn q (Refused p t) = PairIsIn q p t
LineIsIn q (Pair p r t) = PairIsIn q p t × (r < size q.pattern)
LineIsIn q (LessFrom a b t) = PairIsIn q a t × (b < size q.pattern)
LineIsIn q (LessTo a b t) = PairIsIn q b t × (a < size q.pattern)

-- A place is past t, or below it.
abbrev pub is_beyond : Bool → ℕ → ℕ → Bool
is_beyond true t u = nat_lt t u
is_beyond false t u = nat_lt u t

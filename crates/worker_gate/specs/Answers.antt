-- Answers to a problem, and what a note knows of a cell that holds one.

use Rattle.std.specs.Prelude.{ℕ, List, Option, Some, None}
use Rattle.graph_theory.specs.Embedding.{Problem, Embeds, HasNone}
use Rattle.worker_gate.specs.declared.answer.Said.{Said}
use Rattle.worker_gate.specs.declared.answer.Said.TheVariants.{Map, NoEmbedding}

-- An answer as others see it: the problem that it is about, and its map, or none where it says that no embedding exists.
pub record AnswerView : Type 0 where
  pub problem : Problem
  pub map : Option (List ℕ)

-- The map that is said.
abbrev pub map_of : Said → Option (List ℕ)
map_of (Map m) = Some m.items
map_of NoEmbedding = None

-- What is said is true of the problem: the map embeds, or no embedding exists.
abbrev pub IsTrueOf : Problem → Option (List ℕ) → Type 0
IsTrueOf q (Some m) = Embeds q m
IsTrueOf q None = HasNone q

-- A note as others see it: the name of its cell, and the cell's answer once it has been seen.
pub record NoteView : Type 0 where
  pub cell : ℕ
  pub known : Option AnswerView

-- The solutions of the encoding are exactly the lists of the embeddings.

use Rattle.std.proofs.Common.{ℕ, Bool, List, sym, subst}
use Rattle.graph_theory.specs.Embedding.{Problem, Embeds}
use Rattle.proof_theory.specs.Forms.{IsSolution, assignment}
use Rattle.encoding_theory.specs.Variables.{variables, indicator}
use Rattle.encoding_theory.specs.Encoding.{encoding}
use Rattle.encoding_theory.specs.Solutions.{ShowsEmbedding, SolutionLaws}
use Rattle.encoding_theory.proofs.Indicators.{length-indicator, indicator_ones, indicator_alone}
use Rattle.encoding_theory.proofs.SolutionsEmbed.{images, shows_images, images_embed}
use Rattle.encoding_theory.proofs.EmbeddingsSolve.{embedding_solves}

-- a solution is the list of an embedding
pub solution_shows : (q : Problem) (a : List Bool) → IsSolution (variables q) (encoding q) a → ShowsEmbedding q a
solution_shows q a h = record {
  images = images q (assignment a);
  embeds = images_embed q (assignment a) h.satisfied;
  shown = indicator_alone q (images q (assignment a)) a h.places (shows_images q (assignment a) h.satisfied).shown;
}

-- and the list of an embedding is a solution
pub embedding_is_solution : (q : Problem) (m : List ℕ) → Embeds q m → IsSolution (variables q) (encoding q) (indicator q m)
embedding_is_solution q m e = record {
  places = length-indicator q m;
  satisfied = embedding_solves q (assignment (indicator q m)) m e (record { shown = indicator_ones q m });
}

pub solution_laws : SolutionLaws
solution_laws = record {
  solutions = λ q a. (
    solution_shows q a,
    λ h. subst (λ (b : List Bool). IsSolution (variables q) (encoding q) b) (sym h.shown) (embedding_is_solution q h.images h.embeds),
  );
  none = λ q. (λ unsolved m e. unsolved (indicator q m) (embedding_is_solution q m e), λ none a s. let h = solution_shows q a s in none h.images h.embeds);
  indicators = record { places = length-indicator; ones = indicator_ones };
}

-- What `solve`, `verify` and `encode` are asked of two graphs.

use Rattle.std.specs.Prelude.{◌≡◌, ℕ, Bool, true, List, []}
use Rattle.graph_theory.specs.Embedding.{is_injective}
use Rattle.graph_theory.specs.declared.embedding.Maps.{Maps}
use Rattle.graph_theory.specs.declared.embedding.Maps.TheVariants.{Injective}
use Rattle.graph_theory.specs.declared.lad_text.LadKind.{LadKind}
use Rattle.command_line.specs.Pairs.{AreNamed}

-- Whether the copy is to be an induced one, which images have to differ, the pairs of pattern vertices of which the first is to have
-- the lesser image, in the order in which they are named, and the format of both graphs.
pub record Question : Type 0 where
  pub induced : Bool
  pub maps : Maps
  pub less : List (ℕ × ℕ)
  pub format : LadKind

-- The question of injective maps, with no order of images.
abbrev pub plain_question : Bool → LadKind → Question
plain_question induced format = record {
  induced = induced;
  maps = Injective;
  less = [];
  format = format;
}

-- Induced copies are those of injective maps, and the pairs are those that a word may name.
pub record IsQuestion (w : Question) : Type 0 where
  pub kind : w.induced ≡ true → is_injective w.maps ≡ true
  pub less : AreNamed w.less

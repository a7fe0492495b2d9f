use Rattle.trim_theory.proofs.Listing.{deleted_places, hints_refute, nothing_used}
use Rattle.trim_theory.proofs.Marked.{marked_trims}
use Rattle.trim_theory.proofs.code_laws.Goals as goal

pub returns : goal.returns
returns c = record {
  mark = marked_trims;
  deletion = deleted_places;
  hint = hints_refute;
  nothing = nothing_used;
}

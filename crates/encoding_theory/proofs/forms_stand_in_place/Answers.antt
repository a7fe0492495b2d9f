use Rattle.encoding_theory.proofs.PlaceProofs.{place_laws}
use Rattle.encoding_theory.proofs.forms_stand_in_place.Goals as goal

pub returns : goal.returns
returns c = place_laws

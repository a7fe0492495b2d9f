use Rattle.std.proofs.Common.{◌≡◌, ℕ, ℤ, FitsSigned, rules}
use Rattle.std.specs.Int.{w128}
use Rattle.std.proofs.lemmas.Int.{to_z-of_z}
use Rattle.opb_text.specs.Parts.{place_of, place_after}
use Rattle.opb_text.proofs.LineTerms.{place_after-length, terms-more, AreVariables-push}
use Rattle.opb_text.proofs.constraint_line.read_terms.Goals as goal

pub loop-part-preserved : goal.loop-part-preserved
loop-part-preserved c =
    let ts = c.loop-part.terms.items in
    let t : ℕ × ℤ = (c.in-Term.variable, c.in-Term.coefficient) in
    let says = rw c.in-Term.is at c.in_ok-part.ensures.says in
    let items = c.in_ok-push-in-Term.ensures.items in
    let place : place_of c.is_empty.result ≡ place_after ts = place_after-length ts c.is_empty.result (λ e. search rules) (λ e. search rules) in
    let fits : FitsSigned w128 c.in-Term.coefficient = search rules in
    rw (items, to_z-of_z w128 c.in-Term.coefficient fits) record {
      words = terms-more c.args.variables _ ts t (place_of c.is_empty.result) c.loop-part.rest.now c.in_ok-part.more.now place c.loop-part.invariant.words says.0;
      within = AreVariables-push c.args.variables ts t c.loop-part.invariant.within says.1.0 says.1.1;
    }

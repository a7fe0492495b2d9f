use Rattle.encoding_theory.specs.Encoding.{at_least}
use Rattle.encoding_theory.specs.Places.{at_least_place}
use Rattle.encoding_theory.proofs.PlaceProofs.{place_laws}
use Rattle.pb_encoding.proofs.LineNumbers.{at_least_line, form_at}
use Rattle.pb_encoding.proofs.encoding.Encoding.at_least.Goals as goal

pub returns-clause-line : goal.returns-clause-line
returns-clause-line c = rw c.from.ensures (at_least_line c.args.self.now c.args.p)

pub returns-clause-form : goal.returns-clause-form
returns-clause-form c =
    form_at c.args.self.now (at_least_place c.args.self.now c.args.p) _ (at_least c.args.self.now c.args.p)
    (rw c.from.ensures (at_least_line c.args.self.now c.args.p)) ((place_laws c.args.self.now).at_least c.args.p c.requires)

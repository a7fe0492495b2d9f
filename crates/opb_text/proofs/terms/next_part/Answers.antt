use Rattle.std.proofs.Common.{◌≡◌, ◌<◌, ◌^◌, ◌∙◌, ap, sym, unsigned_abs, Err, rules}
use Rattle.log_theory.specs.OpbReading.{Place, constraint_words, Number}
use Rattle.opb_text.specs.Kinds.{shown, kinds}
use Rattle.opb_text.specs.Parts.{place_of}
use Rattle.opb_text.proofs.LineKinds.{kinds-first, coefficient-wide, place-cases}
use Rattle.opb_text.proofs.terms.next_part.Goals as goal

pub returns-then-unsigned_abs-gt-MOST-clause-says : goal.returns-then-unsigned_abs-gt-MOST-clause-says
returns-then-unsigned_abs-gt-MOST-clause-says c =
    let k = kinds-first c.args.line.now c.in-Some.word.now c.in-Some.rest.now (Number c.in-Number.c) c.in-Some.ensures.words (ap shown (sym c.in-Number.is) ∙ c.kind_of.ensures) in
    let wide : 2 ^ 125 < unsigned_abs c.in-Number.c = search rules in
    ap (constraint_words c.args.variables (place_of c.args.first)) k ∙ coefficient-wide c.args.variables c.args.first c.in-Number.c (kinds c.in-Some.rest.now) wide

pub returns-in_default-kind_of-clause-says : goal.returns-in_default-kind_of-clause-says
returns-in_default-kind_of-clause-says c =
    place-cases (λ (p : Place). constraint_words c.args.variables p (kinds c.args.line.now) ≡ Err c.misplaced-in_default-kind_of.result) (search rules) (search rules) c.args.first

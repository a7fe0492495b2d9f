use Rattle.std.proofs.Common.{◌<◌, ◌≤◌, ◌^◌, ◌∙◌, ap, sym, unsigned_abs, FitsSigned, rules}
use Rattle.std.specs.Int.{w128}
use Rattle.std.proofs.lemmas.Int.{to_z-of_z}
use Rattle.log_theory.specs.OpbReading.{bound_words, Ended}
use Rattle.opb_text.specs.Kinds.{shown, kinds}
use Rattle.opb_text.proofs.LineKinds.{kinds-first, ended-wide, ended-end}
use Rattle.opb_text.proofs.bound.read_bound.Goals as goal

pub returns-then-unsigned_abs-gt-MOST-2-clause-says : goal.returns-then-unsigned_abs-gt-MOST-2-clause-says
returns-then-unsigned_abs-gt-MOST-2-clause-says c =
    let k = kinds-first c.args.line.now c.in-Some.word.now c.in-Some.rest.now (Ended c.in-Ended.b) c.in-Some.ensures.words (ap shown (sym c.in-Ended.is) ∙ c.kind_of.ensures) in
    let wide : 2 ^ 125 < unsigned_abs c.in-Ended.b = search rules in
    ap (bound_words c.args.variables) k ∙ ended-wide c.args.variables c.in-Ended.b (kinds c.in-Some.rest.now) wide

pub returns-in-Ok-read_end-clause-says : goal.returns-in-Ok-read_end-clause-says
returns-in-Ok-read_end-clause-says c =
    let k = kinds-first c.args.line.now c.in-Some.word.now c.in-Some.rest.now (Ended c.in-Ended.b) c.in-Some.ensures.words (ap shown (sym c.in-Ended.is) ∙ c.kind_of.ensures) in
    let narrow : unsigned_abs c.in-Ended.b ≤ 2 ^ 125 = search rules in
    let fits : FitsSigned w128 c.in-Ended.b = search rules in
    rw (to_z-of_z w128 c.in-Ended.b fits) (ap (bound_words c.args.variables) k ∙ ended-end c.args.variables c.in-Ended.b (kinds c.in-Some.rest.now) _ narrow (c.in-Ok-read_end.ensures c.in-Ended.b))

pub returns-in-Err-read_end-clause-says : goal.returns-in-Err-read_end-clause-says
returns-in-Err-read_end-clause-says c =
    let k = kinds-first c.args.line.now c.in-Some.word.now c.in-Some.rest.now (Ended c.in-Ended.b) c.in-Some.ensures.words (ap shown (sym c.in-Ended.is) ∙ c.kind_of.ensures) in
    let narrow : unsigned_abs c.in-Ended.b ≤ 2 ^ 125 = search rules in
    ap (bound_words c.args.variables) k ∙ ended-end c.args.variables c.in-Ended.b (kinds c.in-Some.rest.now) _ narrow (c.in-Err-read_end.ensures c.in-Ended.b)

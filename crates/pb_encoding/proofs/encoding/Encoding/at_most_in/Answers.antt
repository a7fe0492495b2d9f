use Rattle.std.proofs.Common.{◌≡◌, ℕ, ◌≤◌, ◌<◌, ◌+◌, length, Option, ap, sym, ◌∙◌, arith}
use Rattle.std.proofs.lemmas.Option.{slice_get_within}
use Rattle.graph_theory.specs.Blocks.{has_block}
use Rattle.encoding_theory.specs.Encoding.{at_most_in}
use Rattle.encoding_theory.specs.Places.{at_most_place_in}
use Rattle.encoding_theory.proofs.PlaceProofs.{place_laws}
use Rattle.pb_encoding.specs.Numbers.{centres}
use Rattle.pb_encoding.proofs.LineNumbers.{whole_line, near_line, centre_contained, centres_rise, form_at, kept, kept_few}
use Rattle.pb_encoding.proofs.encoding.Encoding.at_most_in.Goals as goal

pub returns-in-None-clause-line : goal.returns-in-None-clause-line
returns-in-None-clause-line c =
    c.line_number.ensures ∙ whole_line c.args.self.now c.block_start.result c.self.inside.targets c.args.t c.block_start.ensures.start
    ∙ ap (λ (b : Option ℕ). at_most_place_in c.args.self.now b c.args.t + 1) (sym c.in-None.is)

pub returns-in-None-clause-form : goal.returns-in-None-clause-form
returns-in-None-clause-form c =
    form_at c.args.self.now (at_most_place_in c.args.self.now c.args.block c.args.t) _ (at_most_in c.args.self.now c.args.block c.args.t) (returns-in-None-clause-line c)
    ((place_laws c.args.self.now).at_most_in c.args.block c.args.t c.requires.exists c.requires.t_in)

pub place_in-before-requires-clause-rise : goal.place_in-before-requires-clause-rise
place_in-before-requires-clause-rise c =
    let k = kept _ _ _ _ _ _ _ _ c.self.view_is c.self.invariant in
    centres_rise c.args.self.now c.deref.result.now (c.deref.ensures.value ∙ k.numbered.centres_are)

pub place_in-before-requires-clause-there : goal.place_in-before-requires-clause-there
place_in-before-requires-clause-there c =
    let k = kept _ _ _ _ _ _ _ _ c.self.view_is c.self.invariant in
    centre_contained c.args.self.now c.deref.result.now c.in-Some.centre _ (c.deref.ensures.value ∙ k.numbered.centres_are) (sym (ap (has_block c.args.self.now) c.in-Some.is) ∙ c.requires.exists) c.from.ensures

pub line_number-requires-in-Some-clause-pairs : goal.line_number-requires-in-Some-clause-pairs
line_number-requires-in-Some-clause-pairs c =
    let k = kept _ _ _ _ _ _ _ _ c.self.view_is c.self.invariant in
    let e : length c.deref.result.now ≡ length (centres c.args.self.now) = ap length (c.deref.ensures.value ∙ k.numbered.centres_are) in
    let b : length (centres c.args.self.now) ≤ 1024 = (kept_few _ _ _ _ _ _ _ k).centres_few in
    let w : c.place_in-before.result < length c.deref.result.now = slice_get_within _ _ _ c.place_in-before.ensures in
    omega arith

pub returns-in-Some-clause-line : goal.returns-in-Some-clause-line
returns-in-Some-clause-line c =
    let k = kept _ _ _ _ _ _ _ _ c.self.view_is c.self.invariant in
    c.line_number-in-Some.ensures
    ∙ near_line c.args.self.now c.deref.result.now c.block_start-in-Some.result c.self.inside.targets c.args.t c.in-Some.centre c.place_in-before.result _
    c.block_start-in-Some.ensures.start k.targets_are (c.deref.ensures.value ∙ k.numbered.centres_are) (sym (ap (has_block c.args.self.now) c.in-Some.is) ∙ c.requires.exists) c.from.ensures c.place_in-before.ensures
    ∙ ap (λ (b : Option ℕ). at_most_place_in c.args.self.now b c.args.t + 1) (sym c.in-Some.is)

pub returns-in-Some-clause-form : goal.returns-in-Some-clause-form
returns-in-Some-clause-form c =
    form_at c.args.self.now (at_most_place_in c.args.self.now c.args.block c.args.t) _ (at_most_in c.args.self.now c.args.block c.args.t) (returns-in-Some-clause-line c)
    ((place_laws c.args.self.now).at_most_in c.args.block c.args.t c.requires.exists c.requires.t_in)

use Rattle.std.proofs.Common.{ℕ, ◌+◌, ◌*◌, ap, sym, ◌∙◌}
use Rattle.graph_theory.specs.Graph.{size}
use Rattle.encoding_theory.specs.Encoding.{is_refused, refusal}
use Rattle.encoding_theory.specs.Places.{refused_place}
use Rattle.encoding_theory.proofs.PlaceProofs.{place_laws}
use Rattle.pb_encoding.specs.Numbers.{by_number}
use Rattle.pb_encoding.proofs.LineNumbers.{rises, refused_line, not_refused, form_at, kept}
use Rattle.pb_encoding.proofs.encoding.Encoding.refused.Goals as goal

pub place_of-requires : goal.place_of-requires
place_of-requires c =
    let k = kept _ _ _ _ _ _ _ _ c.self.view_is c.self.invariant in
    rises (by_number (is_refused c.args.self.now) (size c.args.self.now.target)) (size c.args.self.now.pattern * size c.args.self.now.target)
    c.deref.result.now (c.deref.ensures.value ∙ k.numbered.refused_are)

pub returns-in-Some-clause-exists : goal.returns-in-Some-clause-exists
returns-in-Some-clause-exists c =
    let k = kept _ _ _ _ _ _ _ _ c.self.view_is c.self.invariant in
    sym ((refused_line c.args.self.now c.deref.result.now c.self.inside.targets c.args.p c.args.t c.in-Some.place _ k.targets_are
    (c.deref.ensures.value ∙ k.numbered.refused_are) c.requires.t_in (rw (c.from.ensures, c.from-2.ensures)) c.in-Some.ensures.found).1)

pub returns-in-Some-clause-line : goal.returns-in-Some-clause-line
returns-in-Some-clause-line c =
    let k = kept _ _ _ _ _ _ _ _ c.self.view_is c.self.invariant in
    ap (λ (start : ℕ). start + c.in-Some.place + 1) c.refused_start.ensures.start
    ∙ (refused_line c.args.self.now c.deref.result.now c.self.inside.targets c.args.p c.args.t c.in-Some.place _ k.targets_are
    (c.deref.ensures.value ∙ k.numbered.refused_are) c.requires.t_in (rw (c.from.ensures, c.from-2.ensures)) c.in-Some.ensures.found).0

pub returns-in-Some-clause-form : goal.returns-in-Some-clause-form
returns-in-Some-clause-form c =
    let k = kept _ _ _ _ _ _ _ _ c.self.view_is c.self.invariant in
    let r = refused_line c.args.self.now c.deref.result.now c.self.inside.targets c.args.p c.args.t c.in-Some.place _ k.targets_are
    (c.deref.ensures.value ∙ k.numbered.refused_are) c.requires.t_in (rw (c.from.ensures, c.from-2.ensures)) c.in-Some.ensures.found in
    form_at c.args.self.now (refused_place c.args.self.now c.args.p c.args.t) _ (refusal c.args.self.now c.args.p c.args.t)
    (ap (λ (start : ℕ). start + c.in-Some.place + 1) c.refused_start.ensures.start ∙ r.0)
    ((place_laws c.args.self.now).refused c.args.p c.args.t c.requires.p_in c.requires.t_in r.1)

pub returns-in-None-clause-exists : goal.returns-in-None-clause-exists
returns-in-None-clause-exists c =
    let k = kept _ _ _ _ _ _ _ _ c.self.view_is c.self.invariant in
    sym (not_refused c.args.self.now c.deref.result.now c.self.inside.targets c.args.p c.args.t _ k.targets_are
    (c.deref.ensures.value ∙ k.numbered.refused_are) c.requires.p_in c.requires.t_in (rw (c.from.ensures, c.from-2.ensures)) c.in-None.ensures.none)

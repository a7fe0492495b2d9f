use Rattle.std.proofs.Common.{◌≡◌, ◌∙◌, ℕ, get_or, ap, sym}
use Rattle.std.proofs.lemmas.Option.{get_or_from_slice_get}
use Rattle.recorder.specs.declared.change.Side.{Side}
use Rattle.recorder.specs.Telling.{end_beside}
use Rattle.dead_paths.proofs.needs.end_beside_of.Goals as goal

pub returns-in-Lesser : goal.returns-in-Lesser
returns-in-Lesser c = λ x is.
    let at : get_or c.less.result.now c.from.result (0, 0) ≡ x = rw (c.less.ensures.pairs, c.from.ensures) (get_or_from_slice_get c.args.q.now.less c.args.k x (0, 0) is) in
    ap (λ (y : ℕ × ℕ). y.1) at ∙ ap (λ (s : Side). end_beside s x) (sym c.in-Lesser.is)

pub returns-in-Greater : goal.returns-in-Greater
returns-in-Greater c = λ x is.
    let at : get_or c.less.result.now c.from.result (0, 0) ≡ x = rw (c.less.ensures.pairs, c.from.ensures) (get_or_from_slice_get c.args.q.now.less c.args.k x (0, 0) is) in
    ap (λ (y : ℕ × ℕ). y.0) at ∙ ap (λ (s : Side). end_beside s x) (sym c.in-Greater.is)

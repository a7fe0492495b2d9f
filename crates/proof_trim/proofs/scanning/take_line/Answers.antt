use Rattle.std.proofs.Common.{◌++◌, ◌∷◌, [], Bool, cond, length, sym, ap, ◌∙◌, arith}
use Rattle.std.proofs.lemmas.Bool.{lt-ltb, le-ltb}
use Rattle.trim_theory.specs.Marking.{made_lines}
use Rattle.proof_trim.proofs.scanning.take_line.Goals as goal

pub returns-in_ok-push : goal.returns-in_ok-push
returns-in_ok-push c = λ log known counted.
    let w = c.in_ok-next.ensures log known (let m = c.len-count.ensures in let o = c.args.places.now.ok in omega (arith, m, o, counted)) in
    let l = c.len-count.ensures in
    let n = w.counted in
    let o = c.args.places.now.ok in
    let t = c.if-count-next.true in (
      w.index_of,
      c.in_ok-push.ensures.items
          ∙ ap (λ (b : Bool). cond b (c.args.places.now.items ++ c.args.place ∷ []) c.args.places.now.items) (sym (lt-ltb (length (made_lines log)) (length (made_lines (log ++ c.args.step.now ∷ []))) (omega (arith, l, n, o, t, counted)))),
    )

pub returns-else-count-next : goal.returns-else-count-next
returns-else-count-next c = λ log known counted.
    let w = c.in_ok-next.ensures log known (let m = c.len-count.ensures in let o = c.args.places.now.ok in omega (arith, m, o, counted)) in
    let l = c.len-count.ensures in
    let n = w.counted in
    let o = c.args.places.now.ok in
    let t = c.if-count-next.false in (
      w.index_of,
      ap (λ (b : Bool). cond b (c.args.places.now.items ++ c.args.place ∷ []) c.args.places.now.items) (sym (le-ltb (length (made_lines log)) (length (made_lines (log ++ c.args.step.now ∷ []))) (omega (arith, l, n, o, t, counted)))),
    )

use Rattle.std.proofs.Common.{◌≡◌, ◌+◌, ◌-◌, ℕ, slice_get, Some, ap, sym, subst, ◌∙◌, arith}
use Rattle.graph_theory.specs.Embedding.{Problem}
use Rattle.log_theory.specs.declared.step.Ref.{Ref}
use Rattle.log_theory.specs.declared.step.Ref.TheVariants.{Line}
use Rattle.encoding_theory.specs.Places.{less_from_place, less_to_place}
use Rattle.recorder.specs.declared.change.Side.{Side}
use Rattle.dead_paths.specs.Lines.{order_ref}
use Rattle.dead_paths.proofs.ground.Ground.order.Goals as goal

-- What is said of the pair before the one of number k + 1 is said of pair k.
module _ (place : Problem → ℕ → ℕ × ℕ → ℕ → ℕ) where
  line_at : (p q : Problem) (k n t : ℕ) (x : ℕ × ℕ) → p ≡ q → ((y : ℕ × ℕ) → slice_get p.less (k + 1 - 1) ≡ Some y → n ≡ place p (k + 1 - 1) y t + 1) → slice_get q.less k ≡ Some x → n ≡ place q k x t + 1
  line_at p q k n t x same h is =
      let e : k + 1 - 1 ≡ k = omega arith in
      let at = subst (λ (o : Problem). (y : ℕ × ℕ) → slice_get o.less (k + 1 - 1) ≡ Some y → n ≡ place o (k + 1 - 1) y t + 1) same h in
      at x (ap (slice_get q.less) e ∙ is) ∙ ap (λ (j : ℕ). place q j x t + 1) e

pub returns-in-Lesser : goal.returns-in-Lesser
returns-in-Lesser c = record {
  line = λ x is.
      let q = c.args.self.now in
      let line = line_at less_from_place c.self.inside.encoding.now q c.args.k c.less_from.result c.args.t x c.self.view_is c.less_from.ensures.line is in
      ap (λ (n : ℕ). let r : Ref = Line n in r) line ∙ ap (λ (s : Side). order_ref q c.args.k x s c.args.t) (sym c.in-Lesser.is);
}

pub returns-in-Greater : goal.returns-in-Greater
returns-in-Greater c = record {
  line = λ x is.
      let q = c.args.self.now in
      let line = line_at less_to_place c.self.inside.encoding.now q c.args.k c.less_to.result c.args.t x c.self.view_is c.less_to.ensures.line is in
      ap (λ (n : ℕ). let r : Ref = Line n in r) line ∙ ap (λ (s : Side). order_ref q c.args.k x s c.args.t) (sym c.in-Greater.is);
}

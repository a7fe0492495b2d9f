-- A map of three vertices is a list of three.
use Rattle.std.proofs.Common.{◌≡◌, ℕ, ◌<◌, ◌≤◌, List, [], ◌∷◌, length, refl, below_more, ap, ◌∙◌, arith}
use Rattle.graph_theory.specs.Graph.{size}
use Rattle.graph_theory.specs.Embedding.{Problem, Embeds, HasNone}
use Rattle.test_support.proofs.triangle.has_none.Goals as goal

none_of_three : (q : Problem) (n : ℕ) → size q.pattern ≡ 3 → size q.target ≤ n
    → ((a b c : ℕ) → a < n → b < size q.target → c < size q.target → Embeds q (a ∷ b ∷ c ∷ []) → ⊥) → HasNone q
none_of_three q n three all none m e = go m (e.size_is ∙ three) e
  where
    go : (m : List ℕ) → length m ≡ 3 → Embeds q m → ⊥
    go [] l e = absurd (omega arith)
    go (a ∷ []) l e = absurd (omega arith)
    go (a ∷ b ∷ []) l e = absurd (omega arith)
    go (a ∷ b ∷ c ∷ []) l e =
        let at : a < size q.target = e.values 0 (omega (arith, three)) in
        none a b c (omega (arith, all)) (e.values 1 (omega (arith, three))) (e.values 2 (omega (arith, three))) e
    go (a ∷ b ∷ c ∷ d ∷ m) l e = absurd (omega arith)

pub loop-a-preserved : goal.loop-a-preserved
loop-a-preserved c = λ a b k h. below_more (λ a. b < size c.args.q.now.target → k < size c.args.q.now.target → Embeds c.args.q.now (a ∷ b ∷ k ∷ []) → ⊥) _ (λ a h. c.loop-a.invariant a b k h)
    (c.if-not-none_at.ensures refl b k) a h

pub returns : goal.returns
returns c = λ e. none_of_three c.args.q.now c.loop-a.a c.requires (omega (arith, ap size c.target.ensures.target)) c.loop-a.invariant

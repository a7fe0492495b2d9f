use Rattle.std.proofs.Common.{◌≡◌, ℕ, ◌+◌, ◌*◌, ◌^◌, ◌<◌, ◌≤◌, List, [], ◌∷◌, ◌++◌, take, get_or, ap, sym, subst, ◌∙◌, arith}
use Rattle.std.proofs.Math.Nat.{mul-le-mul}
use Rattle.graph_theory.specs.Graph.{Graph, size}
use Rattle.log_theory.specs.LogText.{AreOnes}
use Rattle.encoding_theory.specs.Variables.{variable, variables}
use Rattle.encoding_theory.specs.Encoding.{encoding}
use Rattle.journal_theory.proofs.Placing.{take_all}
use Rattle.merged_log.specs.Answers.{embedding_ones, Solves}
use Rattle.merged_log.proofs.Images.{images_solve, small, targets, rows_fit, ones_more}
use Rattle.merged_log.proofs.ones.ones_of.Goals as goal

pub loop-p-preserved : goal.loop-p-preserved
loop-p-preserved c =
    let q = c.args.q.now in
    let m = c.args.map.now in
    let i = c.loop-p.p in
    let e : 0 + i ≡ i = omega arith in
    c.in_ok-push.ensures.items ∙ ap (λ (vs : List ℕ). vs ++ c.variable.result ∷ []) c.loop-p.invariant
    ∙ ap (λ (v : ℕ). embedding_ones q (take i m) ++ v ∷ []) (c.variable.ensures ∙ ap (λ (k : ℕ). variable q k (get_or m i 0)) (sym e))
    ∙ sym (ones_more q 0 m i c.loop-p-test.true)

pub returns-clause-ranges : goal.returns-clause-ranges
returns-clause-ranges c =
    let q = c.args.q.now in
    let m = c.args.map.now in
    let laws = c.solutions_are_embeddings.ensures in
    let p_few : size q.pattern ≤ 1024 = subst (λ (x : Graph). size x ≤ 1024) c.pattern-pattern.ensures.pattern c.pattern-pattern.ensures.few in
    let t_few : size q.target ≤ 8192 = subst (λ (x : Graph). size x ≤ 8192) c.target-target.ensures.target c.target-target.ensures.few in
    let most : variables q ≤ 1024 * 8192 = mul-le-mul p_few t_few in
    let fits : variables q < 2 ^ 32 = omega (arith, most) in
    let is : c.new.result ≡ embedding_ones q m = c.new.ensures ∙ c.loop-p.invariant ∙ ap (embedding_ones q) (take_all m c.loop-p.p c.loop-p-test.false) in
    subst (λ (vs : List ℕ). AreOnes vs) (sym is) (small q 0 (variables q) m fits (targets laws q m c.requires) (rows_fit laws q m c.requires))

pub returns-clause-solves : goal.returns-clause-solves
returns-clause-solves c =
    let q = c.args.q.now in
    let m = c.args.map.now in
    let is : c.new.result ≡ embedding_ones q m = c.new.ensures ∙ c.loop-p.invariant ∙ ap (embedding_ones q) (take_all m c.loop-p.p c.loop-p-test.false) in
    subst (λ (vs : List ℕ). Solves (variables q) (encoding q) vs) (sym is) (images_solve c.solutions_are_embeddings.ensures q m c.requires)

use Rattle.std.proofs.Common.{◌≡◌, ◌∙◌, ℕ, Bool, true, false, is_some, sym, ap, subst}
use Rattle.graph_theory.specs.Graph.{Graph, size, edge}
use Rattle.bit_rows.specs.BitRows.{has}
use Rattle.needed_values.specs.Consistent.{IsParted}
use Rattle.needed_values.proofs.Parting.{parted_is}
use Rattle.needed_values.proofs.parted.part_at_once.Goals as goal

pub returns-then-same : goal.returns-then-same
returns-then-same c =
    parted_is c.args.q.now c.args.p c.args.t c.args.r c.requires.p_in c.requires.r_in c.requires.t_in c.args.row.now c.row.result.now c.part_words-same.new.other c.part_words-same.new.left c.asked_of-asked.result.joined c.asked_of-asked.result.induced c.from-values.result
    (c.from-values.ensures ∙ c.size.ensures.size ∙ ap (λ (g : Graph). size g) c.target-target.ensures.target) c.asked_of-asked.ensures.joined c.asked_of-asked.ensures.induced (subst (λ (g : Graph). (b : ℕ) → has c.row.result.now b ≡ is_some (edge g c.args.t b)) c.target-target.ensures.target c.row.ensures.neighbours)
    c.part_words-same.ensures.bits c.part_words-same.ensures.left
    c.requires.mutual c.take_apart-itself.new.row c.take_apart-itself.ensures.left true c.take_apart-itself.result (λ _. c.part_words-same.ensures.same c.if-same.true)
    c.take_apart-itself.ensures.taken c.requires.free

pub returns-else-same : goal.returns-else-same
returns-else-same c =
    subst (λ (b : Bool). IsParted c.args.q.now c.args.p c.args.t c.args.r c.args.row.now c.part_words-same.new.other c.take_apart-itself.new.row b) (sym c.if-same.false)
    (parted_is c.args.q.now c.args.p c.args.t c.args.r c.requires.p_in c.requires.r_in c.requires.t_in c.args.row.now c.row.result.now c.part_words-same.new.other c.part_words-same.new.left c.asked_of-asked.result.joined c.asked_of-asked.result.induced c.from-values.result
    (c.from-values.ensures ∙ c.size.ensures.size ∙ ap (λ (g : Graph). size g) c.target-target.ensures.target) c.asked_of-asked.ensures.joined c.asked_of-asked.ensures.induced (subst (λ (g : Graph). (b : ℕ) → has c.row.result.now b ≡ is_some (edge g c.args.t b)) c.target-target.ensures.target c.row.ensures.neighbours)
    c.part_words-same.ensures.bits c.part_words-same.ensures.left
    c.requires.mutual c.take_apart-itself.new.row c.take_apart-itself.ensures.left false c.take_apart-itself.result (λ h. absurd cc)
    c.take_apart-itself.ensures.taken c.requires.free)

use Rattle.std.proofs.Common.{◌≡◌, ℕ, ◌<◌, ◌&&◌, not, Bool, true, List, length, arith, ap, sym, subst, ◌∙◌}
use Rattle.search_theory.specs.Account.{level_at}
use Rattle.bit_rows.specs.BitRows.{has}
use Rattle.domain_bits.specs.Removals.{in_domain}
use Rattle.fail_account.proofs.Distinct.{path_fewer}
use Rattle.restart_search.proofs.Steps.{level_after, untried_of, all_untried}
use Rattle.restart_search.proofs.Beginning.{value_within}
use Rattle.restart_search.proofs.value_choice.fill_untried.Goals as goal

pub overflow_cast-depth : goal.overflow_cast-depth
overflow_cast-depth g c =
    let t_in : c.requires.some.0 < c.args.account.now.target =
    subst (λ (n : ℕ). c.requires.some.0 < n) (sym c.requires.values) (value_within c.args.d.now c.args.p c.requires.some.0 c.requires.some.1) in
    let few = path_fewer _ _ _ c.args.p c.requires.some.0 c.path-depth.ensures.vertices c.path-depth.ensures.in_range c.requires.off_path (subst (λ (n : ℕ). c.args.p < n) (sym c.requires.vertices) c.requires.p_in) t_in in
    let small : length c.path-depth.result.now < 65536 = omega (arith, few, ap length c.path-depth.ensures.is, c.requires.vertices, c.vertices-vertices.ensures, c.vertices-vertices.type_inv) in
    omega (arith, small)

pub level-requires : goal.level-requires
level-requires g c =
    let t_in : c.requires.some.0 < c.args.account.now.target =
    subst (λ (n : ℕ). c.requires.some.0 < n) (sym c.requires.values) (value_within c.args.d.now c.args.p c.requires.some.0 c.requires.some.1) in
    let few = path_fewer _ _ _ c.args.p c.requires.some.0 c.path-depth.ensures.vertices c.path-depth.ensures.in_range c.requires.off_path (subst (λ (n : ℕ). c.args.p < n) (sym c.requires.vertices) c.requires.p_in) t_in in
    omega (arith, few, ap length c.path-depth.ensures.is)

pub returns-clause-untried : goal.returns-clause-untried
returns-clause-untried g c t h =
    let row : has c.row.result.now t ≡ in_domain c.args.d.now c.args.p t = c.row.ensures.bits t in
    let refuted = c.level.ensures.refuted ∙ (ap (λ (ps : List (ℕ × ℕ)). (level_at c.args.account.now (length ps)).refuted) c.path-depth.ensures.is ∙ level_after c.args.account.now) in
    untried_of c.args.account.now.refuted c.level.result.1.now c.args.account.now.target t (in_domain c.args.d.now c.args.p t) refuted
    (subst (λ (b : Bool). (b && not (has c.level.result.1.now t)) ≡ true) row (sym (c.put_without.ensures.members t) ∙ h))

pub returns-clause-all : goal.returns-clause-all
returns-clause-all g c t here off =
    let row : has c.row.result.now t ≡ in_domain c.args.d.now c.args.p t = c.row.ensures.bits t in
    let refuted = c.level.ensures.refuted ∙ (ap (λ (ps : List (ℕ × ℕ)). (level_at c.args.account.now (length ps)).refuted) c.path-depth.ensures.is ∙ level_after c.args.account.now) in
    c.put_without.ensures.members t ∙
    subst (λ (b : Bool). (b && not (has c.level.result.1.now t)) ≡ true) (sym row)
    (all_untried c.args.account.now.refuted c.level.result.1.now c.args.account.now.target t (in_domain c.args.d.now c.args.p t) refuted
    (subst (λ (n : ℕ). t < n) (sym c.requires.values) (value_within c.args.d.now c.args.p t here)) here off)

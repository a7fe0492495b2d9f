use Rattle.std.proofs.Common.{◌≡◌, ◌&&◌, Bool, true, false, sym, ap, ◌∙◌, rules}
use Rattle.graph_theory.specs.Neighbours.{is_near}
use Rattle.pair_lines.proofs.Turned.{near_both_known}
use Rattle.pair_lines.proofs.known.Known.is_near_both.Goals as goal

pub returns-then-near : goal.returns-then-near
returns-then-near c =
    let whole = near_both_known c.self.inside.direction c.args.self.now c.self.inside.q.now (sym c.self.view_is) c.args.c c.args.p c.args.r c.requires.c_in c.requires.p_in c.requires.r_in in
    let near : is_near c.self.inside.q.now.pattern c.args.c c.args.p ≡ true = search rules in
    let other : c.is_near-other.result ≡ is_near c.self.inside.q.now.pattern c.args.c c.args.r = search rules in
    other ∙ (sym (ap (λ (b : Bool). b && is_near c.self.inside.q.now.pattern c.args.c c.args.r) near) ∙ whole)

pub returns-else-near : goal.returns-else-near
returns-else-near c =
    let whole = near_both_known c.self.inside.direction c.args.self.now c.self.inside.q.now (sym c.self.view_is) c.args.c c.args.p c.args.r c.requires.c_in c.requires.p_in c.requires.r_in in
    let near : is_near c.self.inside.q.now.pattern c.args.c c.args.p ≡ false = search rules in
    let off : c.is_near-near.result ≡ false = search rules in
    off ∙ (sym (ap (λ (b : Bool). b && is_near c.self.inside.q.now.pattern c.args.c c.args.r) near) ∙ whole)

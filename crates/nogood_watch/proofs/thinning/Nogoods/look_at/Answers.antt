use Rattle.std.proofs.Common.{◌-◌, ◌<◌, List, ℕ, length, sym, ◌∙◌, subst, arith}
use Rattle.std.proofs.lemmas.List.{length-map}
use Rattle.nogood_watch.specs.Nogoods.{literal}
use Rattle.nogood_watch.specs.Inside.{cell, nogood_at, nogoods_of}
use Rattle.nogood_watch.proofs.Covering.{covered_less}
use Rattle.nogood_watch.proofs.thinning.Nogoods.look_at.Goals as goal

pub returns-then-is_overtaken-clause-covered : goal.returns-then-is_overtaken-clause-covered
returns-then-is_overtaken-clause-covered c =
    covered_less (nogoods_of c.args.self.now.literals.now c.args.self.now.entries.now) c.args.live.now c.args.i
    (c.requires.long ∙ sym (length-map c.args.self.now.entries.now (nogood_at c.args.self.now.literals.now))) c.requires.covered (c.is_overtaken.ensures c.if-is_overtaken.true)

pub link-requires-clause-to_in : goal.link-requires-clause-to_in
link-requires-clause-to_in c =
    let long : 0 < length c.literals_of-literals.result.now = subst (λ (xs : List (ℕ × ℕ)). 0 < length xs) (sym c.literals_of-literals.ensures) c.requires.some in
    rw c.cell_of.ensures (subst (λ (xs : List (ℕ × ℕ)). cell c.args.self.now.values (literal xs (length c.literals_of-literals.result.now - 1)) < length c.args.heads.now) (sym c.literals_of-literals.ensures)
    (c.requires.lists c.args.i (length c.literals_of-literals.result.now - 1) (rw length-map c.requires.i_in)
    (subst (λ (xs : List (ℕ × ℕ)). length c.literals_of-literals.result.now - 1 < length xs) c.literals_of-literals.ensures (omega (arith, long)))))

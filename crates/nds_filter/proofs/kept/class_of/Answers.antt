use Rattle.std.proofs.Common.{◌≡◌, ℕ, ◌<◌, List, [], ◌∷◌, length, get_or, arith, ap, sym, subst}
use Rattle.std.proofs.lemmas.List.{length-append}
use Rattle.packed_lists.proofs.Packing.{closed_with}
use Rattle.nds_filter.specs.Sequences.{sequence_at}
use Rattle.nds_filter.proofs.Keeping.{sequences_long, kept_of_class, firsts_more, rows_more, new_row}
use Rattle.nds_filter.proofs.kept.class_of.Goals as goal

pub find_class-requires-clause-p_in : goal.find_class-requires-clause-p_in
find_class-requires-clause-p_in c = omega (arith, sequences_long c.args.q.now.pattern c.args.ps.now c.requires.pattern, c.requires.p_in)

pub find_class-requires-clause-firsts_in : goal.find_class-requires-clause-firsts_in
find_class-requires-clause-firsts_in c =
    subst (λ (fs : List ℕ). (k : ℕ) → k < length fs → get_or fs k 0 < length c.args.ps.now) (sym c.deref.ensures.value)
    (λ k k_in. omega (arith, c.requires.before.inside k k_in, sequences_long c.args.q.now.pattern c.args.ps.now c.requires.pattern))

pub returns-in-Some-clause-class : goal.returns-in-Some-clause-class
returns-in-Some-clause-class c =
    kept_of_class c.args.q.now c.args.ps.now c.args.firsts.now.items _ c.args.p c.in-Some.class c.requires.before c.requires.pattern c.requires.p_in
    (subst (λ (fs : List ℕ). c.in-Some.class < length fs) c.deref.ensures.value c.in-Some.ensures.inside)
    (subst (λ (fs : List ℕ). sequence_at c.args.ps.now (get_or fs c.in-Some.class 0) ≡ sequence_at c.args.ps.now c.args.p) c.deref.ensures.value c.in-Some.ensures.same)

pub returns-clause-firsts : goal.returns-clause-firsts
returns-clause-firsts c =
    firsts_more _ _ _ _ _ c.args.p c.fill_kept.new.row c.requires.before c.requires.p_in c.fill_kept.ensures c.in_ok-push.ensures.items
    (closed_with c.args.rows.now.lists c.push_all.new.self.lists c.close.new.self.lists c.args.rows.now.rest c.push_all.new.self.rest c.fill_kept.new.row c.in_ok-push_all.ensures.lists c.requires.begun
    c.in_ok-push_all.ensures.rest c.in_ok-close.ensures.lists)

pub returns-clause-stay : goal.returns-clause-stay
returns-clause-stay c =
    rows_more _ _ c.fill_kept.new.row
    (closed_with c.args.rows.now.lists c.push_all.new.self.lists c.close.new.self.lists c.args.rows.now.rest c.push_all.new.self.rest c.fill_kept.new.row c.in_ok-push_all.ensures.lists c.requires.begun
    c.in_ok-push_all.ensures.rest c.in_ok-close.ensures.lists)

pub returns-clause-inside : goal.returns-clause-inside
returns-clause-inside c =
    let rows = closed_with c.args.rows.now.lists c.push_all.new.self.lists c.close.new.self.lists c.args.rows.now.rest c.push_all.new.self.rest c.fill_kept.new.row c.in_ok-push_all.ensures.lists c.requires.begun
    c.in_ok-push_all.ensures.rest c.in_ok-close.ensures.lists in
    omega (arith, ap length rows, length-append c.args.rows.now.lists (c.fill_kept.new.row ∷ []), c.len-class.ensures)

pub returns-clause-class : goal.returns-clause-class
returns-clause-class c =
    new_row c.args.q.now _ _ c.args.p c.len-class.result c.fill_kept.new.row
    (closed_with c.args.rows.now.lists c.push_all.new.self.lists c.close.new.self.lists c.args.rows.now.rest c.push_all.new.self.rest c.fill_kept.new.row c.in_ok-push_all.ensures.lists c.requires.begun
    c.in_ok-push_all.ensures.rest c.in_ok-close.ensures.lists)
    (sym c.len-class.ensures) c.fill_kept.ensures

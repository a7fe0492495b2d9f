use Rattle.std.proofs.Common.{◌≡◌, ◌<◌, length, refl, sym, ap, ◌∙◌, subst}
use Rattle.graph_theory.specs.Graph.{size}
use Rattle.nogood_watch.specs.Nogoods as watched
use Rattle.nogood_book.specs.Rows.{Pairs, path_at}
use Rattle.propagation.proofs.Holding.{path_some}
use Rattle.propagation.proofs.Refuting.{row_is_nogood, nogoods_kept}
use Rattle.propagation.proofs.nogoods.Nogoods.keep.Goals as goal

pub add-requires-clause-some : goal.add-requires-clause-some
add-requires-clause-some c =
    let pairs : c.deref.result.now ≡ path_at c.args.rows.now c.args.k = rw (c.deref.ensures, c.in_ok-push_path.ensures, c.clear.ensures.items) refl in
    subst (λ (xs : Pairs). 0 < length xs) (sym pairs) (path_some c.args.q.now c.args.rows.now c.args.k c.requires.sound c.requires.nogood)

pub add-requires-clause-are : goal.add-requires-clause-are
add-requires-clause-are c =
    let pairs : c.deref.result.now ≡ path_at c.args.rows.now c.args.k = rw (c.deref.ensures, c.in_ok-push_path.ensures, c.clear.ensures.items) refl in
    let vertices : c.self.inside.watched.vertices ≡ size c.args.q.now.pattern = ap (λ (s : watched.State). s.vertices) c.self.view_is ∙ c.requires.nogoods.vertices_is in
    let values : c.self.inside.watched.values ≡ size c.args.q.now.target = ap (λ (s : watched.State). s.values) c.self.view_is ∙ c.requires.nogoods.values_is in
    rw (pairs, vertices, values) ((row_is_nogood c.args.q.now c.args.rows.now c.args.k c.requires.sound c.requires.nogood).literals)

pub returns-clause-nogoods : goal.returns-clause-nogoods
returns-clause-nogoods c =
    let pairs : c.deref.result.now ≡ path_at c.args.rows.now c.args.k = rw (c.deref.ensures, c.in_ok-push_path.ensures, c.clear.ensures.items) refl in
    nogoods_kept c.args.q.now c.args.self.now c.self.inside.watched c.add.new.self c.deref.result.now (path_at c.args.rows.now c.args.k) c.args.k (sym c.self.view_is)
    c.requires.nogoods (row_is_nogood c.args.q.now c.args.rows.now c.args.k c.requires.sound c.requires.nogood) pairs c.in_ok-add.ensures.ok c.in_ok-add.ensures.watches

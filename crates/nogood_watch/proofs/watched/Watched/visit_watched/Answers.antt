use Rattle.std.proofs.Common.{◌≡◌, length, refl, sym, ◌∙◌, arith, take, drop, ◌++◌}
use Rattle.std.specs.Prelude.{vec_capacity}
use Rattle.std.proofs.lemmas.List.{length-map}
use Rattle.nogood_watch.specs.Walking.{Walked}
use Rattle.nogood_watch.specs.Inside.{Kept, nogood_at, nogoods_of, watches_of}
use Rattle.nogood_watch.proofs.Adding.{written_back}
use Rattle.nogood_watch.proofs.Walks.{forced_in, answers_are}
use Rattle.nogood_watch.proofs.Covering.{seen_are}
use Rattle.nogood_watch.proofs.Seeing.{seen_walked}
use Rattle.nogood_watch.proofs.watched.Watched.visit_watched.Goals as goal

-- what the walk has done, in the words of the fields
walked : (g : _) (c : goal.After-deref-4 g) → let f = c.self.inside in Walked c.args.d.now (nogoods_of f.literals.items f.entries.items) f.live.items f.watches.items c.walk.new.watches (c.args.p, c.args.t) c.walk.new.forced.items
walked g c = rw (c.deref.ensures.value, c.deref-2.ensures.value, c.deref-3.ensures.value, c.deref_mut.ensures.value) at c.walk.ensures.walked

kept : (g : _) (c : goal.After-deref-4 g) → let f = c.self.inside in Kept c.args.d.now.vertices c.args.d.now.values f.literals.items f.entries.items f.live.items c.walk.new.watches c.walk.new.heads c.walk.new.next (vec_capacity c.walk.new.forced)
kept g c = rw (c.deref.ensures.value, c.deref-2.ensures.value, c.deref-3.ensures.value) at c.walk.ensures.kept

pub answer_of-requires-clause-vertices : goal.answer_of-requires-clause-vertices
answer_of-requires-clause-vertices g c =
    let f = c.self.inside in
    let w = walked g c in
    let k = kept g c in
    rw c.deref-4.ensures.value (λ i h. (forced_in c.args.d.now (nogoods_of f.literals.items f.entries.items) f.watches.items c.walk.new.watches (c.args.p, c.args.t) _ (λ j l. k.literals_are j (rw length-map at l))
    c.self.invariant.watches_are k.watches_are (w.follows i h).0).0)

pub answer_of-requires-clause-values : goal.answer_of-requires-clause-values
answer_of-requires-clause-values g c =
    let f = c.self.inside in
    let w = walked g c in
    let k = kept g c in
    rw c.deref-4.ensures.value (λ i h. (forced_in c.args.d.now (nogoods_of f.literals.items f.entries.items) f.watches.items c.walk.new.watches (c.args.p, c.args.t) _ (λ j l. k.literals_are j (rw length-map at l))
    c.self.invariant.watches_are k.watches_are (w.follows i h).0).1)

-- the same at the end
done : (g : _) (c : goal.After-answer_of g) → let f = c.self.inside in Walked c.args.d.now (nogoods_of f.literals.items f.entries.items) f.live.items f.watches.items c.walk.new.watches (c.args.p, c.args.t) c.walk.new.forced.items
done g c = rw (c.deref.ensures.value, c.deref-2.ensures.value, c.deref-3.ensures.value, c.deref_mut.ensures.value) at c.walk.ensures.walked

-- the watches written back
back : (g : _) (c : goal.After-answer_of g) → let f = c.self.inside in take f.watches.len (c.walk.new.watches ++ drop (length c.walk.new.watches) f.watches.items) ≡ c.walk.new.watches
back g c =
    let f = c.self.inside in
    let k = rw (c.deref.ensures.value, c.deref-2.ensures.value, c.deref-3.ensures.value) at c.walk.ensures.kept in
    written_back f.watches.len f.watches.items c.walk.new.watches (omega (arith, f.watches.ok)) (k.watches_are.two ∙ sym c.self.invariant.watches_are.two)

pub returns : goal.returns
returns g c =
    let f = c.self.inside in
    let w = done g c in
    let k = rw (c.deref.ensures.value, c.deref-2.ensures.value, c.deref-3.ensures.value) at c.walk.ensures.kept in
    let ns = nogoods_of f.literals.items f.entries.items in
    let long : length f.entries.items ≡ length ns = sym (length-map f.entries.items (nogood_at f.literals.items)) in
    let before = c.self.invariant.watches_are in
    let s = seen_walked c.args.d.now ns f.live.items f.watches.items c.walk.new.watches (length f.entries.items) (c.args.p, c.args.t) c.walk.new.forced.items long before k.watches_are c.self.invariant.covered w in
    rw (← c.self.view_is, back g c) (record {
      guarded = s.guarded;
      others = s.others;
      moves = s.moves;
      forced = s.follows;
      answers = answers_are c.answer_of.result c.args.d.now _ (watches_of f.literals.items f.entries.items f.live.items f.watches.items) (watches_of f.literals.items f.entries.items f.live.items c.walk.new.watches) (c.args.p, c.args.t)
          (seen_are ns f.live.items f.watches.items (length f.entries.items) long before c.self.invariant.covered) s.follows (rw c.deref-4.ensures.value at c.answer_of.ensures);
      watches = seen_are ns f.live.items c.walk.new.watches (length f.entries.items) long k.watches_are c.self.invariant.covered;
      nogoods = refl;
      units = refl;
      vertices = refl;
      values = refl;
    })

use Rattle.std.proofs.Common.{◌≡◌, ap, ◌∙◌, length, slice_get, Some, None, arith}
use Rattle.std.proofs.lemmas.Option.{slice_get_within}
use Rattle.std.proofs.lemmas.Iterator.Adapters.{YieldsList-from_vec}
use Rattle.std.proofs.lemmas.Iterator.Consumers.{YieldsList-turn, YieldsList-so_far}
use Rattle.batch_pool.proofs.Placed.{fresh_next, put_more}
use Rattle.batch_pool.proofs.entries.Entries.place_all.Goals as goal

pub place-requires : goal.place-requires
place-requires g c =
    let all = c.args.taken.items in
    let t = YieldsList-turn (YieldsList-from_vec {s = c.into_iter-one-iterator.result} all c.into_iter-one-iterator.ensures.into_iter_gives.0 (omega (arith, c.into_iter-one-iterator.ensures.into_iter_gives.1, c.args.taken.ok))) c.loop-one.yielded c.loop-one.one-iterator c.loop-one.yielded_by c.next.result c.next.new.self c.in-Some.one c.in-Some.is c.next.ensures.steps in
    let so_far = YieldsList-so_far (YieldsList-from_vec {s = c.into_iter-one-iterator.result} all c.into_iter-one-iterator.ensures.into_iter_gives.0 (omega (arith, c.into_iter-one-iterator.ensures.into_iter_gives.1, c.args.taken.ok))) c.loop-one.yielded c.loop-one.one-iterator c.loop-one.yielded_by in
    let fresh = fresh_next all c.loop-one.yielded c.in-Some.one c.requires.once so_far t.0 t.1 in
    c.loop-one.invariant.kept c.in-Some.one.number fresh ∙ ap (λ y. slice_get c.args.self.now.slots.items y.number) t.1 ∙ c.requires.free (length c.loop-one.yielded) c.in-Some.one t.0

pub loop-one-preserved : goal.loop-one-preserved
loop-one-preserved g c =
    let all = c.args.taken.items in
    let t = YieldsList-turn (YieldsList-from_vec {s = c.into_iter-one-iterator.result} all c.into_iter-one-iterator.ensures.into_iter_gives.0 (omega (arith, c.into_iter-one-iterator.ensures.into_iter_gives.1, c.args.taken.ok))) c.loop-one.yielded c.loop-one.one-iterator c.loop-one.yielded_by c.next.result c.next.new.self c.in-Some.one c.in-Some.is c.next.ensures.steps in
    let so_far = YieldsList-so_far (YieldsList-from_vec {s = c.into_iter-one-iterator.result} all c.into_iter-one-iterator.ensures.into_iter_gives.0 (omega (arith, c.into_iter-one-iterator.ensures.into_iter_gives.1, c.args.taken.ok))) c.loop-one.yielded c.loop-one.one-iterator c.loop-one.yielded_by in
    let fresh = fresh_next all c.loop-one.yielded c.in-Some.one c.requires.once so_far t.0 t.1 in
    let free : slice_get c.loop-one.self.slots.items c.in-Some.one.number ≡ Some None =
    c.loop-one.invariant.kept c.in-Some.one.number fresh ∙ ap (λ y. slice_get c.args.self.now.slots.items y.number) t.1 ∙ c.requires.free (length c.loop-one.yielded) c.in-Some.one t.0 in
    put_more c.args.worker c.loop-one.yielded c.in-Some.one c.args.self.now.slots.items c.loop-one.self.slots.items c.place.new.self.slots.items c.loop-one.invariant fresh
    (slice_get_within _ _ _ free) c.place.ensures

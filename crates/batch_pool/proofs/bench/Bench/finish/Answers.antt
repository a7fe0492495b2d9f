use Rattle.std.proofs.Common.{◌≡◌, ◌+◌, ◌≤◌, ◌∙◌, ℕ, ap, sym, arith, length}
use Rattle.std.proofs.lemmas.List.{length_push}
use Rattle.std.proofs.lemmas.Option.{none-some}
use Rattle.std.proofs.lemmas.Iterator.Adapters.{YieldsList-from_vec}
use Rattle.std.proofs.lemmas.Iterator.Consumers.{YieldsList-turn, YieldsList-end}
use Rattle.batch_pool.proofs.Placed.{slot_at, entry_at, all_pushed, answered_push, done_from}
use Rattle.batch_pool.proofs.bench.Bench.finish.Goals as goal

pub unreachable-requires : goal.unreachable-requires
unreachable-requires g c =
    let slots = c.args.entries.slots.items in
    let t = YieldsList-turn (YieldsList-from_vec {s = c.into_iter-slot-iterator.result} slots c.into_iter-slot-iterator.ensures.into_iter_gives.0 (omega (arith, c.into_iter-slot-iterator.ensures.into_iter_gives.1, c.args.entries.slots.ok))) c.loop-slot.yielded c.loop-slot.slot-iterator c.loop-slot.yielded_by c.next.result c.next.new.self c.in-Some.slot c.in-Some.is c.next.ensures.steps in
    let f = slot_at _ _ _ _ slots (length c.loop-slot.yielded) c.in-Some.slot c.requires.placed c.requires.all t.0 t.1 in
    none-some f.0 (sym c.in_default.is ∙ f.1)

pub out_of-requires-clause-answer : goal.out_of-requires-clause-answer
out_of-requires-clause-answer g c =
    let slots = c.args.entries.slots.items in
    let t = YieldsList-turn (YieldsList-from_vec {s = c.into_iter-slot-iterator.result} slots c.into_iter-slot-iterator.ensures.into_iter_gives.0 (omega (arith, c.into_iter-slot-iterator.ensures.into_iter_gives.1, c.args.entries.slots.ok))) c.loop-slot.yielded c.loop-slot.slot-iterator c.loop-slot.yielded_by c.next.result c.next.new.self c.in-Some.slot c.in-Some.is c.next.ensures.steps in
    let here : c.len.result ≡ length c.loop-slot.yielded = omega (arith, c.len.ensures, c.loop-slot.outs.ok) in
    (entry_at _ _ _ _ slots (length c.loop-slot.yielded) c.len.result c.in-Some.slot c.in-Some-slot.entry c.requires.placed c.requires.all t.0 t.1 c.in-Some-slot.is here).answer

pub loop-slot-preserved : goal.loop-slot-preserved
loop-slot-preserved g c =
    let slots = c.args.entries.slots.items in
    let t = YieldsList-turn (YieldsList-from_vec {s = c.into_iter-slot-iterator.result} slots c.into_iter-slot-iterator.ensures.into_iter_gives.0 (omega (arith, c.into_iter-slot-iterator.ensures.into_iter_gives.1, c.args.entries.slots.ok))) c.loop-slot.yielded c.loop-slot.slot-iterator c.loop-slot.yielded_by c.next.result c.next.new.self c.in-Some.slot c.in-Some.is c.next.ensures.steps in
    let here : c.len.result ≡ length c.loop-slot.outs.items = omega (arith, c.len.ensures, c.loop-slot.outs.ok) in
    let there : c.len.result ≡ length c.loop-slot.yielded = omega arith in
    let e = entry_at _ _ _ _ slots (length c.loop-slot.yielded) c.len.result c.in-Some.slot c.in-Some-slot.entry c.requires.placed c.requires.all t.0 t.1 c.in-Some-slot.is there in
    record {
      outs =
          ap length c.in_ok-push-2.ensures.items
          ∙ length_push c.loop-slot.outs.items c.in_ok-out.out
          ∙ ap (λ (n : ℕ). n + 1) c.loop-slot.invariant.outs
          ∙ sym (length_push c.loop-slot.yielded c.in-Some.slot);
      by =
          ap length c.in_ok-push.ensures.items
          ∙ length_push c.loop-slot.by.items c.in-Some-slot.entry.worker
          ∙ ap (λ (n : ℕ). n + 1) c.loop-slot.invariant.by
          ∙ sym (length_push c.loop-slot.yielded c.in-Some.slot);
      answered = answered_push _ _ c.loop-slot.outs.items c.push-in-loop-slot.new.self.items c.len.result c.in_ok-out.out c.in_ok-push-2.ensures.items here c.loop-slot.invariant.answered c.in_ok-out.ensures;
      few = all_pushed (λ w. w ≤ c.args.self.now.workers) c.loop-slot.by.items c.push.new.self.items c.in-Some-slot.entry.worker c.in_ok-push.ensures.items c.loop-slot.invariant.few e.worker;
    }

pub returns-clause-outs : goal.returns-clause-outs
returns-clause-outs g c =
    let slots = c.args.entries.slots.items in
    let t = YieldsList-end (YieldsList-from_vec {s = c.into_iter-slot-iterator.result} slots c.into_iter-slot-iterator.ensures.into_iter_gives.0 (omega (arith, c.into_iter-slot-iterator.ensures.into_iter_gives.1, c.args.entries.slots.ok))) c.loop-slot.yielded c.loop-slot.slot-iterator c.loop-slot.yielded_by c.next.result c.next.new.self c.in-None.is c.next.ensures.steps in
    done_from _ _ c.loop-slot.outs.items (c.loop-slot.invariant.outs ∙ t.1 ∙ c.requires.placed.count) c.loop-slot.invariant.answered

pub returns-clause-by : goal.returns-clause-by
returns-clause-by g c =
    let slots = c.args.entries.slots.items in
    let t = YieldsList-end (YieldsList-from_vec {s = c.into_iter-slot-iterator.result} slots c.into_iter-slot-iterator.ensures.into_iter_gives.0 (omega (arith, c.into_iter-slot-iterator.ensures.into_iter_gives.1, c.args.entries.slots.ok))) c.loop-slot.yielded c.loop-slot.slot-iterator c.loop-slot.yielded_by c.next.result c.next.new.self c.in-None.is c.next.ensures.steps in
    record { count = c.loop-slot.invariant.by ∙ t.1 ∙ c.requires.placed.count; each = c.loop-slot.invariant.few }

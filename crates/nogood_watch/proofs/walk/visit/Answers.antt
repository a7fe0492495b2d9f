use Rattle.std.proofs.Common.{sym, ◌∙◌}
use Rattle.nogood_watch.specs.Nogoods.{literal}
use Rattle.nogood_watch.proofs.Readiness.{cell_in, literal_in, ready_literals, ready_own, ready_other, ready_left, ready_free, ready_forced}
use Rattle.nogood_watch.proofs.walk.visit.Goals as goal

pub free_literal-requires : goal.free_literal-requires
free_literal-requires g c = ready_literals c.args.d.now c.args.nogoods.now.literals.now c.args.nogoods.now.entries.now c.args.watches.now c.args.heads.now c.args.next.now c.args.x c.requires.ready

pub move_watch-requires-clause-to_in : goal.move_watch-requires-clause-to_in
move_watch-requires-clause-to_in g c =
    let d = c.args.d.now in
    let r = c.requires.ready in
    let f = c.in-Some.ensures.some in
    let are = ready_literals d c.args.nogoods.now.literals.now c.args.nogoods.now.entries.now c.args.watches.now c.args.heads.now c.args.next.now c.args.x r in
    let within = literal_in d.vertices d.values _ f.place c.in-Some.free are f.within f.is in
    cell_in d.vertices d.values c.values.result _ c.in-Some.free c.values.ensures r.heads_long within.0 within.1

pub relink-requires-clause-to_in : goal.relink-requires-clause-to_in
relink-requires-clause-to_in g c =
    let d = c.args.d.now in
    let r = c.requires.ready in
    let within = ready_own d _ c.args.watches.now c.args.heads.now c.args.next.now c.args.x r in
    rw c.cell_of.ensures (cell_in d.vertices d.values c.values-in-None.result _ (literal c.args.watches.now c.args.x) c.values-in-None.ensures r.heads_long within.0 within.1)

pub has-requires-clause-p_in : goal.has-requires-clause-p_in
has-requires-clause-p_in g c = (ready_other c.args.d.now _ c.args.watches.now c.args.heads.now c.args.next.now c.args.x c.partner_of.result c.requires.ready c.partner_of.ensures).0

pub has-requires-clause-t_in : goal.has-requires-clause-t_in
has-requires-clause-t_in g c = (ready_other c.args.d.now _ c.args.watches.now c.args.heads.now c.args.next.now c.args.x c.partner_of.result c.requires.ready c.partner_of.ensures).1

pub returns-then-not-has-clause-visited : goal.returns-then-not-has-clause-visited
returns-then-not-has-clause-visited g c =
    ready_left c.args.d.now _ c.args.watches.now c.args.heads.now c.args.next.now c.args.forced.now.items c.args.x c.partner_of.result
    c.requires.ready c.partner_of.ensures (sym c.has.ensures ∙ c.if-not-has.true)

pub returns-in-Some-clause-visited : goal.returns-in-Some-clause-visited
returns-in-Some-clause-visited g c =
    ready_free c.args.d.now c.args.nogoods.now.literals.now c.args.nogoods.now.entries.now c.args.watches.now c.move_watch.new.watches c.args.heads.now c.args.next.now c.args.forced.now.items c.args.x c.partner_of.result c.in-Some.free
    c.requires.ready c.partner_of.ensures c.move_watch.ensures.watches c.in-Some.ensures.some

pub returns-else-not-has-clause-visited : goal.returns-else-not-has-clause-visited
returns-else-not-has-clause-visited g c =
    ready_forced c.args.d.now c.args.nogoods.now.literals.now c.args.nogoods.now.entries.now c.args.watches.now c.args.heads.now c.args.next.now c.args.forced.now.items c.push_reserved.new.self.items c.args.x c.partner_of.result
    c.requires.ready c.partner_of.ensures (sym c.has.ensures ∙ c.if-not-has.false) c.in-None.ensures.none c.push_reserved.ensures.items

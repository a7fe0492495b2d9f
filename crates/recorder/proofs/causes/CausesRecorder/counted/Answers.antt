use Rattle.std.proofs.Common.{not, ap, ◌∙◌}
use Rattle.std.specs.Result.{is_ok}
use Rattle.recorder.specs.declared.change.What.TheVariants.{Others}
use Rattle.recorder.specs.Recording.{Recorded, LeftOthers, members_of}
use Rattle.recorder.proofs.Entries.{laid_added, laid_maybe, set_laid, set_placed, told_entry}
use Rattle.recorder.proofs.causes.CausesRecorder.counted.Goals as goal

pub invariant_of-self-then-is_err : goal.invariant_of-self-then-is_err
invariant_of-self-then-is_err c =
    laid_maybe c.self.inside.entries.items c.push.new.self.items c.self.inside.numbers.items c.put_set.new.numbers.items (Others c.args.centre c.in-Ok.place) c.args.from (is_ok c.push.result)
    c.self.invariant c.in-Ok.ensures.adds
    (set_laid c.self.inside.entries.items c.self.inside.numbers.items c.put_set.new.numbers.items c.args.vertices.now (members_of c.args.row.now) c.in-Ok.place c.self.invariant
    c.in-Ok.ensures.placed) c.push.ensures.items

pub invariant_of-self-in-Err : goal.invariant_of-self-in-Err
invariant_of-self-in-Err c = laid_added c.self.inside.entries.items c.self.inside.numbers.items c.put_set.new.numbers.items c.self.invariant c.in-Err.ensures.adds

pub returns-else-is_err : goal.returns-else-is_err
returns-else-is_err c =
    told_entry c.args.self.now.changes c.self.inside.whole c.self.inside.entries.items c.push.new.self.items c.self.inside.numbers.items c.put_set.new.numbers.items (Others c.args.centre c.in-Ok.place)
    c.args.from (is_ok c.push.result) (LeftOthers c.args.centre c.args.vertices.now (members_of c.args.row.now) c.args.from) c.if-not-self.false (ap (λ (r : Recorded). r.changes) c.self.view_is)
    c.self.invariant c.in-Ok.ensures.adds
    (set_placed (λ us vs. LeftOthers c.args.centre us vs c.args.from) c.self.inside.numbers.items c.put_set.new.numbers.items c.args.vertices.now (members_of c.args.row.now) c.in-Ok.place
    c.in-Ok.ensures.placed) (c.is_err.ensures.negation ∙ ap not c.if-is_err.false) c.push.ensures.items

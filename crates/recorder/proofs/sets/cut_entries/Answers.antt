use Rattle.std.proofs.Common.{◌≡◌, length, refl, ap, ◌∙◌, arith}
use Rattle.recorder.specs.Recording.{left_by}
use Rattle.recorder.proofs.Entries.{cut_more}
use Rattle.recorder.proofs.sets.cut_entries.Goals as goal

pub loop-entry-init : goal.loop-entry-init
loop-entry-init c = record { laid = c.requires.laid; cut_is = refl }

pub loop-entry-preserved : goal.loop-entry-preserved
loop-entry-preserved c =
    let entries : c.len.result ≡ length c.loop-entry.entries.items = omega (arith, c.len.ensures, c.loop-entry.entries.ok) in
    let numbers : c.len-in-Some.result ≡ length c.loop-entry.numbers.items = omega (arith, c.len-in-Some.ensures, c.loop-entry.numbers.ok) in
    let s = cut_more c.args.mark c.deref.result.now c.loop-entry.entries.items c.truncate.new.self.items c.in-Some.entry c.loop-entry.numbers.items c.truncate-in-Some.new.self.items c.len.result
    c.left_before.result c.in-Some.ensures.some c.deref.ensures.value entries (c.left_before.ensures ∙ ap (left_by c.in-Some.entry.what) numbers) c.truncate.ensures.items
    c.truncate-in-Some.ensures.items c.loop-entry.invariant.laid in
    record { laid = s.0; cut_is = s.1 ∙ c.loop-entry.invariant.cut_is }

use Rattle.std.proofs.Common.{ℕ, ◌+◌, ◌*◌, ◌≤◌, get_or, drop, sym, arith, rules}
use Rattle.std.specs.Char.{digit_value}
use Rattle.std.specs.Str.Parse.{digits_value_after}
use Rattle.std.proofs.lemmas.List.{at_drop_more}
use Rattle.proof_log.proofs.Digits.{digits_value_after-ge, value_below-wide}
use Rattle.proof_log.proofs.items.value_below.Goals as goal

pub returns-then-next-from : goal.returns-then-next-from
returns-then-next-from c =
    let word = c.args.word.now in
    let i = c.loop-b.b-index in
    let v : ℕ = c.loop-b.value * 10 + digit_value (get_or word i 0) in
    let step = at_drop_more (digits_value_after 10 c.loop-b.value) word i 0 (omega arith) in
    let more = digits_value_after-ge v (drop (i + 1) word) in
    let wide : c.args.most ≤ v = search rules in
    sym (value_below-wide c.args.most word (omega (arith, step, more, wide, c.loop-b.invariant.value)))

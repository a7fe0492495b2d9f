use Rattle.std.proofs.Common.{◌≤◌, length, drop, rules, arith, length-drop, length-append, ap, ◌∙◌}
use Rattle.std.proofs.lemmas.Fmt.{length-decimal-le}
use Rattle.std.specs.Fmt.{decimal}
use Rattle.proof_log.proofs.word_buffer.WordBuffer.number.Goals as goal

pub write_digits-self-inside-requires : goal.write_digits-self-inside-requires
write_digits-self-inside-requires c =
    let digits = length-decimal-le 20 c.args.number (omega arith) (omega arith) (omega arith) in
    let old = length-drop c.self.inside.at c.self.inside.bytes in
    let room : length (drop c.self.inside.at c.self.inside.bytes) ≤ 44 = search rules in
    (omega (arith, digits, old, room, c.self.invariant.0, c.self.invariant.1), omega (arith, c.self.invariant.0, c.self.invariant.1))

pub returns-clause-short : goal.returns-clause-short
returns-clause-short c =
    let digits = length-decimal-le 20 c.args.number (omega arith) (omega arith) (omega arith) in
    let whole = ap length c.write_digits-self-inside.ensures.written ∙ length-append (decimal c.args.number) (drop c.self.inside.at c.self.inside.bytes) in
    let old = ap length c.self.view_is in
    omega (arith, digits, whole, old)

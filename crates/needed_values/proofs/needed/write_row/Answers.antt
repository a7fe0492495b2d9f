use Rattle.std.proofs.Common.{◌∙◌, ap, length, arith}
use Rattle.needed_values.proofs.Others.{other_row}
use Rattle.needed_values.proofs.needed.write_row.Goals as goal

pub returns-clause-others : goal.returns-clause-others
returns-clause-others c = λ s u other u_in.
    other_row c.args.values c.words_for-width.result c.args.r s u c.from.result _ c.args.rows.now c.copy_from_slice.new.self c.words_for-width.ensures c.from.ensures (omega arith) other c.requires.room
    (ap length c.copy_from_slice.ensures.after ∙ c.requires.row) u_in

use Rattle.std.proofs.Common.{◌∙◌, [], None, sym, ap, arith}
use Rattle.std.proofs.lemmas.List.Sums.{position_or_len_is}
use Rattle.outer_io.specs.Memory.{is_named}
use Rattle.outer_io.proofs.memory_files.place_of.Goals as goal

pub returns-then-has_name : goal.returns-then-has_name
returns-then-has_name c =
    sym (position_or_len_is (is_named c.args.name.now) c.args.files.now c.loop-place.place c.index-files-place.result (omega arith) (λ k below. c.loop-place.invariant k _ below) (λ within. ap (is_named c.args.name.now) (sym c.index-files-place.is) ∙ sym c.has_name.ensures ∙ c.if-has_name.true))

pub returns : goal.returns
returns c =
    sym (position_or_len_is (is_named c.args.name.now) c.args.files.now _ (record { name = []; bytes = None; room = 0 }) (omega arith) (λ k below. c.loop-place.invariant k _ (omega arith)) (λ within. absurd (omega arith)))

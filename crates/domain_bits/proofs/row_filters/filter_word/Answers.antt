use Rattle.std.proofs.Common.{get_or, set, ap, sym, ◌∙◌, arith, bit_and, w64}
use Rattle.std.specs.Int.{bit_not}
use Rattle.std.proofs.lemmas.List.{append-nil, set-get_or}
use Rattle.std.proofs.lemmas.Nat.{and_le_r}
use Rattle.std.proofs.Math.Facts.{Fits-lt-pow}
use Rattle.domain_bits.proofs.Runs.{nothing_gone}
use Rattle.bit_rows.proofs.WordBits.{word_values-zero, length-word_values}
use Rattle.domain_bits.proofs.row_filters.filter_word.Goals as goal

pub returns-then-gone-eq0-clause-word : goal.returns-then-gone-eq0-clause-word
returns-then-gone-eq0-clause-word g c =
    let xs = c.args.domain.now in
    let i = c.args.place in
    sym (ap (set xs i) (nothing_gone (get_or xs i 0) c.args.keep (Fits-lt-pow (c.type_inv.domain i)) c.ranges.keep.fits c.if-gone-eq0.true) ∙ set-get_or xs i 0)

pub returns-then-gone-eq0-clause-trail : goal.returns-then-gone-eq0-clause-trail
returns-then-gone-eq0-clause-trail g c =
    rw c.if-gone-eq0.true (rw (word_values-zero c.args.place) (sym (append-nil _)))

pub push-requires-clause-room : goal.push-requires-clause-room
push-requires-clause-room g c =
    let word = get_or c.args.domain.now c.args.place 0 in
    let gone = bit_and word (bit_not w64 c.args.keep) in
    omega (arith, length-word_values c.args.place gone (omega (arith, and_le_r word (bit_not w64 c.args.keep))), c.requires.room)

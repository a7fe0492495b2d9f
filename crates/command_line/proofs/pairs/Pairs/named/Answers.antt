use Rattle.std.proofs.Common.{[], sym, ap, ◌∙◌, arith, rules}
use Rattle.std.proofs.lemmas.Str.Pattern.{split_parts}
use Rattle.command_line.specs.Pairs.{pieces}
use Rattle.command_line.proofs.PairTexts.{onto, first_piece, one_piece, next_pair, no_pairs, all_read}
use Rattle.command_line.proofs.pairs.Pairs.named.Goals as goal

pub returns-then-not-add : goal.returns-then-not-add
returns-then-not-add c =
    let l = c.pieces in
    let cut = rw c.in-Some.is at (split_parts 58 l.rest.now c.split_once.result c.split_once.ensures.cases (omega arith)) in
    sym (l.invariant.0 ∙ ap (onto l.pairs) (first_piece l.rest.now _ _ cut.0 cut.1) ∙ no_pairs l.pairs c.in-Some.first.now (pieces c.in-Some.more.now) c.if-not-add.ensures.added)

pub pieces-preserved : goal.pieces-preserved
pieces-preserved c =
    let l = c.pieces in
    let cut = rw c.in-Some.is at (split_parts 58 l.rest.now c.split_once.result c.split_once.ensures.cases (omega arith)) in
    let x = c.if-not-add.ensures.added in
    (l.invariant.0 ∙ ap (onto l.pairs) (first_piece l.rest.now _ _ cut.0 cut.1) ∙ next_pair l.pairs _ c.in-Some.first.now (pieces c.in-Some.more.now) x.0 x.1 x.2, search rules)

pub returns-then-not-add-2 : goal.returns-then-not-add-2
returns-then-not-add-2 c =
    let l = c.pieces in
    let whole = rw c.in_default.is at (split_parts 58 l.rest.now c.split_once.result c.split_once.ensures.cases (omega arith)) in
    sym (l.invariant.0 ∙ ap (onto l.pairs) (one_piece l.rest.now whole) ∙ no_pairs l.pairs l.rest.now [] c.if-not-add-2.ensures.added)

pub returns : goal.returns
returns c =
    let l = c.pieces in
    let whole = rw c.in_default.is at (split_parts 58 l.rest.now c.split_once.result c.split_once.ensures.cases (omega arith)) in
    let x = c.if-not-add-2.ensures.added in
    sym (l.invariant.0 ∙ ap (onto l.pairs) (one_piece l.rest.now whole) ∙ next_pair l.pairs _ l.rest.now [] x.0 x.1 x.2 ∙ all_read c.add-2.new.pairs c.add-2.ensures.few)

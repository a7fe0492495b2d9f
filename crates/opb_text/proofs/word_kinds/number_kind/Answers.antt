use Rattle.std.proofs.Common.{◌≡◌, ◌<◌, ◌∙◌, length, ap, sym, rules}
use Rattle.log_theory.specs.OpbReading.{plain_word, ended_word}
use Rattle.opb_text.proofs.WordKinds.{number_alone, number_ended, number_other}
use Rattle.opb_text.proofs.word_kinds.number_kind.Goals as goal

pub returns-in_default : goal.returns-in_default
returns-in_default c = c.plain.ensures ∙ ap plain_word c.signed_number_in.ensures ∙ sym (number_alone c.args.word.now c.in_default.ensures.first)

pub returns-then-is_empty : goal.returns-then-is_empty
returns-then-is_empty c =
    let empty : length c.in-Some.rest.now ≡ 0 = search rules in
    c.ended.ensures ∙ ap ended_word c.signed_number_in-then-is_empty.ensures
    ∙ sym (number_ended c.args.word.now c.in-Some.front.now c.in-Some.rest.now c.in-Some.ensures.first c.in-Some.ensures.parts empty)

pub returns-else-is_empty : goal.returns-else-is_empty
returns-else-is_empty c =
    let some : 0 < length c.in-Some.rest.now = search rules in
    number_other c.args.word.now c.in-Some.front.now c.in-Some.rest.now c.in-Some.ensures.first c.in-Some.ensures.parts some

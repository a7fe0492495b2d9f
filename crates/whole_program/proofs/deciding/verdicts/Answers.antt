-- One answer more.

use Rattle.std.proofs.Common.{◌≡◌, ◌++◌, ◌∷◌, [], List, map, ap, sym, ◌∙◌, append_assoc}
use Rattle.std.proofs.lemmas.List.{map-append}
use Rattle.search_theory.specs.Account.{Account}
use Rattle.whole_program.specs.Verdicts.{verdict_of, accounts_of}
use Rattle.whole_program.specs.declared.verdict.JobVerdict.{JobVerdict}
use Rattle.whole_program.proofs.Verdicts.{accounts_push}
use Rattle.whole_program.proofs.deciding.verdicts.Goals as goal

pub loop-answer-preserved : goal.loop-answer-preserved
loop-answer-preserved c = record {
  told =
      c.in-Ok-push.ensures.items
      ∙ ap (λ (vs : List JobVerdict). vs ++ c.in-Ok.one ∷ []) c.loop-answer.invariant.told
      ∙ ap (λ (v : JobVerdict). map verdict_of c.loop-answer.yielded ++ v ∷ []) c.in-Ok.ensures.verdict
      ∙ sym (map-append verdict_of c.loop-answer.yielded (c.in-Some.answer ∷ []));
  kept =
      c.in-Ok.ensures.kept
      ∙ ap (λ (xs : List Account). xs ++ accounts_of c.in-Some.answer) c.loop-answer.invariant.kept
      ∙ append_assoc c.args.spent.now.items _ (accounts_of c.in-Some.answer)
      ∙ ap (λ (xs : List Account). c.args.spent.now.items ++ xs) (sym (accounts_push c.loop-answer.yielded c.in-Some.answer));
}

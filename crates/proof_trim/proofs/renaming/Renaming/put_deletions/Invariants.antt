use Rattle.std.proofs.Common.{◌≡◌, ◌++◌, length, map, drop}
use Rattle.log_theory.specs.declared.step.Ref.TheVariants.{Made}
use Rattle.log_theory.specs.declared.step.Step.TheVariants.{D}
use Rattle.journal_theory.specs.Journals.{own_name}
use Rattle.trim_theory.specs.Marking.{rank}
use Rattle.proof_trim.specs.Ranks.{mark_at, AreBelow}
use Rattle.proof_trim.specs.Texts.{steps_text}
use Rattle.proof_trim.proofs.renaming.Renaming.put_deletions.Given as goal

abbrev pub invariant-loop-place : goal.invariant-loop-place
invariant-loop-place l = record {
  put : l.text.bytes ++ steps_text (map (λ i. D (Made (own_name 0 (rank (mark_at l.self.marks.now) i)))) (drop l.place-index l.places))
      ≡ l.initial.text.bytes ++ steps_text (map (λ i. D (Made (own_name 0 (rank (mark_at l.self.marks.now) i)))) l.places);
  left : AreBelow (length l.self.marks.now) (drop l.place-index l.places);
}

use Rattle.std.proofs.Common.{rules, ◌≡◌, ℕ, ◌∷◌, ◌++◌, [], List, length, subst, ap, sym, ◌∙◌}
use Rattle.log_theory.specs.LogText.{step_words}
use Rattle.log_theory.specs.Words.{line_text}
use Rattle.log_theory.specs.declared.step.Step.{Step}
use Rattle.journal_theory.specs.Journals.{named}
use Rattle.journals.specs.Keeping.{Keeping, IsText, steps_in, BearNames}
use Rattle.journals.proofs.Texts.{appends, names_snoc}
use Rattle.journals.proofs.journal.Journal.append.Goals as goal

pub invariant_of-self-2 : goal.invariant_of-self-2
invariant_of-self-2 c =
    let is : c.write_step.new.sink.bytes ≡ c.self.inside.text.bytes ++ line_text (step_words c.args.step.now) = search rules in
    let grown = appends c.self.inside.text.bytes c.write_step.new.sink.bytes c.self.inside.ends.items c.args.step.now c.self.invariant.1 c.requires.ranges is in
    let ends : c.push_reserved.new.self.items ≡ c.self.inside.ends.items ++ length c.write_step.new.sink.bytes ∷ [] = search rules in
    let steps : steps_in c.self.inside.text.bytes ≡ c.args.self.now.steps = ap (λ (k : Keeping). k.steps) c.self.view_is in
    let owner : c.self.inside.owner ≡ c.args.self.now.owner = ap (λ (k : Keeping). k.owner) c.self.view_is in
    let name : named c.self.inside.owner (length (steps_in c.self.inside.text.bytes)) c.args.step.now ≡ c.args.step.now =
    ap (λ (w : ℕ). named w (length (steps_in c.self.inside.text.bytes)) c.args.step.now) owner ∙ ap (λ (ss : List Step). named c.args.self.now.owner (length ss) c.args.step.now) steps ∙ c.requires.name in (
      c.self.invariant.0,
      subst (λ (es : List ℕ). IsText c.write_step.new.sink.bytes es) (sym ends) grown.is_text,
      subst (λ (ss : List Step). BearNames c.self.inside.owner ss) (sym grown.steps_are) (names_snoc c.self.inside.owner (steps_in c.self.inside.text.bytes) c.args.step.now c.self.invariant.2 name),
    )

pub returns-clause-appended : goal.returns-clause-appended
returns-clause-appended c =
    let is : c.write_step.new.sink.bytes ≡ c.self.inside.text.bytes ++ line_text (step_words c.args.step.now) = search rules in
    let grown = appends c.self.inside.text.bytes c.write_step.new.sink.bytes c.self.inside.ends.items c.args.step.now c.self.invariant.1 c.requires.ranges is in
    grown.steps_are ∙ ap (λ (k : Keeping). k.steps ++ c.args.step.now ∷ []) c.self.view_is

use Rattle.std.proofs.Common.{◌≡◌, ℕ, ◌+◌, ◌∷◌, ◌++◌, [], List, length, subst, ap, sym, ◌∙◌, arith, refl}
use Rattle.log_theory.specs.declared.step.Name.{Name}
use Rattle.log_theory.specs.declared.step.Step.{Step}
use Rattle.log_theory.specs.LogText.{IsStep}
use Rattle.journal_theory.specs.Journals.{named, own_name}
use Rattle.journals.specs.Keeping.{Keeping}
use Rattle.journals.proofs.Texts.{ends_count, named_step, named_again}
use Rattle.journals.proofs.journal.JournalKeeper.keep.Goals as goal

pub append-requires : goal.append-requires
append-requires c =
    let line : c.renamed-line.result ≡ named c.self.inside.owner c.len.result c.args.step = c.renamed-line.ensures c.len.result refl in
    let few = c.self.invariant.0 in
    let owner : c.self.inside.owner ≡ c.args.self.now.owner = ap (λ (k : Keeping). k.owner) c.self.view_is in
    let steps = ap (λ (k : Keeping). k.steps) c.self.view_is in
    let count : c.len.result ≡ length c.args.self.now.steps =
    omega (arith, c.len.ensures, c.self.inside.ends.ok, ends_count c.self.inside.text.bytes c.self.inside.ends.items c.self.invariant.1, ap (λ (ss : List Step). length ss) steps) in
    let here : c.renamed-line.result ≡ named c.args.self.now.owner (length c.args.self.now.steps) c.args.step =
    line ∙ ap (λ (w : ℕ). named w c.len.result c.args.step) owner ∙ ap (λ (k : ℕ). named c.args.self.now.owner k c.args.step) count in record {
      ranges = subst IsStep (sym line) (named_step c.self.inside.owner c.len.result c.args.step c.requires (record { owner_fits = few; from_one = omega arith; number_fits = omega (arith, c.len.ensures, c.self.inside.ends.ok) }));
      name =
          ap (named c.args.self.now.owner (length c.args.self.now.steps)) here ∙ named_again c.args.self.now.owner (length c.args.self.now.steps) c.args.step ∙ sym here;
    }

pub returns-clause-kept : goal.returns-clause-kept
returns-clause-kept c =
    let line : c.renamed-line.result ≡ named c.self.inside.owner c.len.result c.args.step = c.renamed-line.ensures c.len.result refl in
    let owner : c.self.inside.owner ≡ c.args.self.now.owner = ap (λ (k : Keeping). k.owner) c.self.view_is in
    let steps = ap (λ (k : Keeping). k.steps) c.self.view_is in
    let count : c.len.result ≡ length c.args.self.now.steps =
    omega (arith, c.len.ensures, c.self.inside.ends.ok, ends_count c.self.inside.text.bytes c.self.inside.ends.items c.self.invariant.1, ap (λ (ss : List Step). length ss) steps) in (
      ap (λ (w : ℕ). let n : Name = record { owner = w; number = c.len.result + 1 } in n) owner ∙ ap (λ (k : ℕ). own_name c.args.self.now.owner k) count,
      c.in_ok-append.ensures.appended ∙ ap (λ (s : Step). c.args.self.now.steps ++ s ∷ []) (line ∙ ap (λ (w : ℕ). named w c.len.result c.args.step) owner ∙ ap (λ (k : ℕ). named c.args.self.now.owner k c.args.step) count),
    )

pub returns-clause-name : goal.returns-clause-name
returns-clause-name c =
    let few = c.self.invariant.0 in
    record { owner_fits = few; from_one = omega arith; number_fits = omega (arith, c.len.ensures, c.self.inside.ends.ok) }

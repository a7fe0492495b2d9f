use Rattle.std.specs.Prelude.{◌≡◌, ℕ, List, Option, IsTrue, IsSome}
use Rattle.std.proofs.Common.{inl, inr, refl, sym, ◌∙◌, subst, arith}
use Rattle.log_theory.specs.Verdicts.{verdict_of}
use Rattle.proof_checker.specs.Feeding.{verdict_with}
use Rattle.proof_checker.specs.Filed.{FileSays}
use Rattle.proof_checker.proofs.FileRead.{says_same, when_ok}
use Rattle.proof_checker.proofs.log_file.check_file.Goals as goal

-- What was left when the file had been chosen is its content, and a new checker gives the definition's verdicts.
pub returns-in-Ok-clause-says : goal.returns-in-Ok-clause-says
returns-in-Ok-clause-says g c told =
    let content = g.F.Files.content c.args.files.now c.args.name.now in
    let judge = verdict_of c.args.model.now.variables c.args.model.now.constraints in
    let started = sym c.is_err.ensures.value ∙ c.if-is_err.false in
    let same : g.F.Files.left c.start.new.self ≡ content = when_ok c.start.result _ c.start.ensures.left started in
    let there : IsTrue (g.F.Files.tells c.args.files.now) → IsSome content = when_ok c.start.result _ c.start.ensures.there started in
    let says = c.read_through.ensures.says (subst IsSome (sym same) (there told)) in
    subst (λ (o : Option (List ℕ)). FileSays c.read_through.result judge c.args.most o) same
    (says_same c.read_through.result (verdict_with c.in-Ok.checker) judge c.args.most (g.F.Files.left c.start.new.self) c.in-Ok.ensures.empty says)

pub returns-in-Ok-clause-later : goal.returns-in-Ok-clause-later
returns-in-Ok-clause-later g c = omega (arith, c.read_through.ensures.later, c.start.ensures.cause.later)

pub returns-in-Ok-clause-same : goal.returns-in-Ok-clause-same
returns-in-Ok-clause-same g c file = c.read_through.ensures.same file ∙ c.start.ensures.same file

pub returns-in-Ok-clause-tells : goal.returns-in-Ok-clause-tells
returns-in-Ok-clause-tells g c = c.read_through.ensures.tells ∙ c.start.ensures.tells

pub returns-in-Ok-clause-begun : goal.returns-in-Ok-clause-begun
returns-in-Ok-clause-begun g c = c.read_through.ensures.begun ∙ c.start.ensures.begun

pub returns-then-is_err-clause-says : goal.returns-then-is_err-clause-says
returns-then-is_err-clause-says g c told = tt

pub returns-then-is_err-clause-quiet : goal.returns-then-is_err-clause-quiet
returns-then-is_err-clause-quiet g c = inl refl

pub returns-then-is_err-clause-later : goal.returns-then-is_err-clause-later
returns-then-is_err-clause-later g c = c.start.ensures.cause.later

pub returns-then-is_err-clause-same : goal.returns-then-is_err-clause-same
returns-then-is_err-clause-same g c = c.start.ensures.same

pub returns-then-is_err-clause-tells : goal.returns-then-is_err-clause-tells
returns-then-is_err-clause-tells g c = c.start.ensures.tells

pub returns-then-is_err-clause-begun : goal.returns-then-is_err-clause-begun
returns-then-is_err-clause-begun g c = c.start.ensures.begun

pub returns-in-Err-clause-says : goal.returns-in-Err-clause-says
returns-in-Err-clause-says g c told = tt

pub returns-in-Err-clause-quiet : goal.returns-in-Err-clause-quiet
returns-in-Err-clause-quiet g c = inr (when_ok c.start.result _ c.start.ensures.cause.quiet (sym c.is_err.ensures.value ∙ c.if-is_err.false))

pub returns-in-Err-clause-later : goal.returns-in-Err-clause-later
returns-in-Err-clause-later g c = c.start.ensures.cause.later

pub returns-in-Err-clause-same : goal.returns-in-Err-clause-same
returns-in-Err-clause-same g c = c.start.ensures.same

pub returns-in-Err-clause-tells : goal.returns-in-Err-clause-tells
returns-in-Err-clause-tells g c = c.start.ensures.tells

pub returns-in-Err-clause-begun : goal.returns-in-Err-clause-begun
returns-in-Err-clause-begun g c = c.start.ensures.begun

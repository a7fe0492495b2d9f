use Rattle.std.proofs.Common.{◌≡◌, ℕ, ◌≤◌, ◌==◌, cond, Option, Some, None, Ok, Err, refl, sym, ap, subst, ◌∙◌, arith}
use Rattle.std.proofs.lemmas.Result.{err_from_is_err_and}
use Rattle.graph_theory.specs.Embedding.{Problem}
use Rattle.log_theory.specs.declared.step.Name.{Name}
use Rattle.log_theory.specs.declared.step.Ref.TheVariants.{Line, Made}
use Rattle.log_growth.specs.Frames.{Frame, IsFrameOf, Goes}
use Rattle.log_growth.proofs.Going.{goes_stay}
use Rattle.dead_paths.specs.Making.{GivesFirst}
use Rattle.domain_lines.specs.Named.{name_at, AreUnits}
use Rattle.domain_lines.specs.Given.{IsFirstLine as IsGiven}
use Rattle.pb_encoding.proofs.LineNumbers.{at_least_line}
use Rattle.line_cache.specs.Made.{IsMade}
use Rattle.line_cache.proofs.Giving.{goes_for, first_there, first_made, first_whole}
use Rattle.line_cache.proofs.maker.LineCacheLineMaker.first.Goals as goal

pub returns-in-Some-clause-goes : goal.returns-in-Some-clause-goes
returns-in-Some-clause-goes g c = λ w frame.
    let j = c.args.self.now in
    let q = c.args.lines.now in
    let is : name_at j.firsts c.args.p ≡ Some c.in-Some.name = ap (name_at j.firsts) (sym c.from.ensures) ∙ sym c.in-Some.ensures.name in
    goes_stay w (g.K.Keeper.kept c.args.keeper.now) (g.K.Keeper.kept c.args.keeper.now) (IsMade q j.problem.now w j.units j.firsts j.rows j.sets)
    (GivesFirst q w c.args.p (Ok (Made c.in-Some.name)) (IsMade q j.problem.now w j.units j.firsts j.rows j.sets)) refl
    (λ forms h. first_there q j.problem.now w j.units j.firsts j.rows j.sets c.args.p c.in-Some.name forms is h)

pub returns-in_err-first_line-clause-goes : goal.returns-in_err-first_line-clause-goes
returns-in_err-first_line-clause-goes g c = λ w frame.
    let j = c.args.self.now in
    let q = c.args.lines.now in
    let made_for = j.problem.now in
    let owner = g.K.Keeper.owner c.args.keeper.now in
    let old = g.K.Keeper.kept c.args.keeper.now in
    let new = g.K.Keeper.kept c.first_line.new.keeper in
    let goes : (v : Frame) → IsFrameOf made_for owner v → Goes v old new (AreUnits v j.units) (IsGiven v made_for c.args.p c.first_line.result c.first_line.new.units) =
    subst (λ (x : Problem). (v : Frame) → IsFrameOf x owner v → Goes v old new (AreUnits v j.units) (IsGiven v x c.args.p c.first_line.result c.first_line.new.units)) j.same c.first_line.ensures.goes in
    let err = err_from_is_err_and c.from_residual.result c.from_residual.ensures.1 in
    rw err.1 (goes_for q made_for owner w old new (λ v. AreUnits v j.units) (λ v. IsGiven v made_for c.args.p c.first_line.result c.first_line.new.units) (IsMade q made_for w j.units j.firsts j.rows j.sets)
    (GivesFirst q w c.args.p (Err err.0) (IsMade q made_for w c.first_line.new.units j.firsts j.rows j.sets))
    frame goes (λ forms h. h.problem_is) (λ forms h. h.units_are) (λ forms more h given. tt))

pub returns-in_err-add-in-Some-2-clause-goes : goal.returns-in_err-add-in-Some-2-clause-goes
returns-in_err-add-in-Some-2-clause-goes g c = λ w frame.
    let j = c.args.self.now in
    let q = c.args.lines.now in
    let made_for = j.problem.now in
    let owner = g.K.Keeper.owner c.args.keeper.now in
    let old = g.K.Keeper.kept c.args.keeper.now in
    let new = g.K.Keeper.kept c.first_line.new.keeper in
    let goes : (v : Frame) → IsFrameOf made_for owner v → Goes v old new (AreUnits v j.units) (IsGiven v made_for c.args.p c.first_line.result c.first_line.new.units) =
    subst (λ (x : Problem). (v : Frame) → IsFrameOf x owner v → Goes v old new (AreUnits v j.units) (IsGiven v x c.args.p c.first_line.result c.first_line.new.units)) j.same c.first_line.ensures.goes in
    let err = err_from_is_err_and c.from_residual-in_err-add-in-Some-2.result c.from_residual-in_err-add-in-Some-2.ensures.1 in
    rw err.1 (goes_for q made_for owner w old new (λ v. AreUnits v j.units) (λ v. IsGiven v made_for c.args.p c.first_line.result c.first_line.new.units) (IsMade q made_for w j.units j.firsts j.rows j.sets)
    (GivesFirst q w c.args.p (Err err.0) (IsMade q made_for w c.first_line.new.units c.add.new.self j.rows j.sets))
    frame goes (λ forms h. h.problem_is) (λ forms h. h.units_are) (λ forms more h given. tt))

pub returns-in-None-clause-goes : goal.returns-in-None-clause-goes
returns-in-None-clause-goes g c = λ w frame.
    let j = c.args.self.now in
    let q = c.args.lines.now in
    let made_for = j.problem.now in
    let owner = g.K.Keeper.owner c.args.keeper.now in
    let old = g.K.Keeper.kept c.args.keeper.now in
    let new = g.K.Keeper.kept c.first_line.new.keeper in
    let goes : (v : Frame) → IsFrameOf made_for owner v → Goes v old new (AreUnits v j.units) (IsGiven v made_for c.args.p (Ok None) c.first_line.new.units) =
    subst (λ (x : Problem). (v : Frame) → IsFrameOf x owner v → Goes v old new (AreUnits v j.units) (IsGiven v x c.args.p (Ok None) c.first_line.new.units)) j.same (subst (λ (o : Option Name). (v : Frame) → IsFrameOf j.first owner v → Goes v old new (AreUnits v j.units) (IsGiven v j.first c.args.p (Ok o) c.first_line.new.units)) c.in-None.is c.in_ok-first_line.ensures.goes) in
    let positive : 1 ≤ c.at_least.result = omega (arith, c.at_least.ensures.line) in
    let form = c.at_least.ensures.form in
    goes_for q made_for owner w old new (λ v. AreUnits v j.units) (λ v. IsGiven v made_for c.args.p (Ok None) c.first_line.new.units) (IsMade q made_for w j.units j.firsts j.rows j.sets)
    (GivesFirst q w c.args.p (Ok (Line c.at_least.result)) (IsMade q made_for w c.first_line.new.units j.firsts j.rows j.sets))
    frame goes (λ forms h. h.problem_is) (λ forms h. h.units_are) (λ forms more h given. first_whole q made_for owner w j.units c.first_line.new.units j.firsts j.rows j.sets c.args.p c.at_least.result forms more frame positive form h given)

pub returns-in-None-clause-fits : goal.returns-in-None-clause-fits
returns-in-None-clause-fits g c =
    omega (arith, at_least_line c.args.lines.now c.args.p, c.at_least.ensures.line, c.ranges.p.fits)

pub returns-in_ok-add-in-Some-2-clause-goes : goal.returns-in_ok-add-in-Some-2-clause-goes
returns-in_ok-add-in-Some-2-clause-goes g c = λ w frame.
    let j = c.args.self.now in
    let q = c.args.lines.now in
    let made_for = j.problem.now in
    let owner = g.K.Keeper.owner c.args.keeper.now in
    let old = g.K.Keeper.kept c.args.keeper.now in
    let new = g.K.Keeper.kept c.first_line.new.keeper in
    let goes : (v : Frame) → IsFrameOf made_for owner v → Goes v old new (AreUnits v j.units) (IsGiven v made_for c.args.p (Ok (Some c.in-Some-2.name)) c.first_line.new.units) =
    subst (λ (x : Problem). (v : Frame) → IsFrameOf x owner v → Goes v old new (AreUnits v j.units) (IsGiven v x c.args.p (Ok (Some c.in-Some-2.name)) c.first_line.new.units)) j.same (subst (λ (o : Option Name). (v : Frame) → IsFrameOf j.first owner v → Goes v old new (AreUnits v j.units) (IsGiven v j.first c.args.p (Ok o) c.first_line.new.units)) c.in-Some-2.is c.in_ok-first_line.ensures.goes) in
    let added : (v : ℕ) → name_at c.add.new.self v ≡ cond (c.args.p == v) (Some c.in-Some-2.name) (name_at j.firsts v) =
    subst (λ (p : ℕ). (v : ℕ) → name_at c.add.new.self v ≡ cond (p == v) (Some c.in-Some-2.name) (name_at j.firsts v)) c.from-in-Some-2.ensures c.in_ok-add-in-Some-2.ensures.added in
    goes_for q made_for owner w old new (λ v. AreUnits v j.units) (λ v. IsGiven v made_for c.args.p (Ok (Some c.in-Some-2.name)) c.first_line.new.units) (IsMade q made_for w j.units j.firsts j.rows j.sets)
    (GivesFirst q w c.args.p (Ok (Made c.in-Some-2.name)) (IsMade q made_for w c.first_line.new.units c.add.new.self j.rows j.sets))
    frame goes (λ forms h. h.problem_is) (λ forms h. h.units_are) (λ forms more h given. first_made q made_for w j.units c.first_line.new.units j.firsts c.add.new.self j.rows j.sets c.args.p c.in-Some-2.name forms more added h given)

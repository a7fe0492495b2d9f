use Rattle.std.proofs.Common.{◌∷◌, [], ◌++◌, sym, subst}
use Rattle.log_theory.specs.LogText.{AreRefs}
use Rattle.encoding_theory.specs.Encoding.{refusal}
use Rattle.domain_lines.proofs.Composing.{pair_pushed, pair_fails, refs_pushed}
use Rattle.domain_lines.proofs.value_clauses.ValueClauses.push_lower.Goals as goal

pub returns-in_err-clause-clause-goes : goal.returns-in_err-clause-clause-goes
returns-in_err-clause-clause-goes g c = λ v pairs frame.
    pair_fails v c.args.self.now (g.K.Keeper.kept c.args.keeper.now) (g.K.Keeper.kept c.lower_ref.new.keeper) (refusal c.args.self.now c.args.r c.args.w) c.lower_ref.result c.from_residual.result c.args.refs.now.items c.args.refs.now.items
    pairs (pairs ++ (c.args.r, c.args.w) ∷ []) c.args.units.now c.lower_ref.new.units c.from_residual.ensures.0 (c.lower_ref.ensures.goes v frame)

pub returns-in_err-push-clause-goes : goal.returns-in_err-push-clause-goes
returns-in_err-push-clause-goes g c = λ v pairs frame.
    pair_fails v c.args.self.now (g.K.Keeper.kept c.args.keeper.now) (g.K.Keeper.kept c.lower_ref.new.keeper) (refusal c.args.self.now c.args.r c.args.w) c.lower_ref.result c.from_residual-in_err-push.result c.args.refs.now.items c.push.new.self.items
    pairs (pairs ++ (c.args.r, c.args.w) ∷ []) c.args.units.now c.lower_ref.new.units c.from_residual-in_err-push.ensures.0 (c.lower_ref.ensures.goes v frame)

pub returns-clause-goes : goal.returns-clause-goes
returns-clause-goes g c = λ v pairs frame.
    pair_pushed v c.args.self.now (g.K.Keeper.kept c.args.keeper.now) (g.K.Keeper.kept c.lower_ref.new.keeper) c.args.r c.args.w c.in_ok-clause.clause c.args.refs.now.items c.push.new.self.items pairs c.args.units.now c.lower_ref.new.units
    c.in_ok-push.ensures.items (c.in_ok-clause.ensures.goes v frame)

pub returns-clause-fits : goal.returns-clause-fits
returns-clause-fits g c = subst AreRefs (sym c.in_ok-push.ensures.items) (refs_pushed c.args.refs.now.items c.in_ok-clause.clause c.requires.fits c.in_ok-clause.ensures.fits)

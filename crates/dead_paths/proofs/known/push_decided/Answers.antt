use Rattle.std.specs.Prelude.{set}
use Rattle.dead_paths.specs.Choosing.{AreAt}
use Rattle.std.proofs.Common.{◌≡◌, ◌<◌, length, arith, true, ℕ, ◌∷◌, ◌++◌, [], sym, subst, ap, ◌∙◌, inl, inr, rules, refl}
use Rattle.log_theory.specs.declared.step.Ref.{Ref}
use Rattle.log_theory.specs.declared.step.Ref.TheVariants.{Line}
use Rattle.log_theory.specs.LogText.{AreRefs}
use Rattle.dead_paths.specs.Lines.{at_least_ref}
use Rattle.dead_paths.proofs.LineRefs.{refs_behind, at_least_fits}
use Rattle.dead_paths.proofs.HeldPairs.{at_known, at_set}
use Rattle.dead_paths.proofs.known.push_decided.Goals as goal

pub returns-then-holds_at-clause-added : goal.returns-then-holds_at-clause-added
returns-then-holds_at-clause-added c = λ known here. let yes : c.holds_at.result ≡ true = search rules in inl (refl, c.holds_at.ensures yes known here)

pub returns-then-holds_at-clause-known : goal.returns-then-holds_at-clause-known
returns-then-holds_at-clause-known c = λ known here. at_known c.args.at.now known ((c.args.p, c.args.t) ∷ known) (λ x one. inr one) here

pub returns-clause-added : goal.returns-clause-added
returns-clause-added c = λ known here. inr (c.in_ok-push.ensures.items ∙ ap (λ (n : ℕ). let r : Ref = Line n in c.args.refs.now.items ++ r ∷ []) c.at_least.ensures.line)

pub returns-clause-known : goal.returns-clause-known
returns-clause-known c = λ known here.
    let inside : c.from.result < length c.args.at.now = omega (arith, c.requires.long, c.from.ensures) in
    subst (λ (v : ℕ). AreAt (set c.args.at.now c.from.result c.args.t) ((v, c.args.t) ∷ known)) c.from.ensures (at_set c.args.at.now known c.from.result c.args.t inside here)

pub returns-clause-fits : goal.returns-clause-fits
returns-clause-fits c =
    let is : Line c.at_least.result ≡ at_least_ref c.args.lines.now c.args.p = ap (λ (n : ℕ). let r : Ref = Line n in r) c.at_least.ensures.line in
    subst AreRefs (sym c.in_ok-push.ensures.items) (refs_behind c.args.refs.now.items (Line c.at_least.result ∷ []) c.requires.fits
    (subst (λ (r : Ref). AreRefs (r ∷ [])) (sym is) (at_least_fits c.args.lines.now c.args.p c.requires.limited c.requires.vertex, tt)))

use Rattle.std.proofs.Common.{◌≡◌, true, ℕ, ◌∷◌, ◌++◌, [], sym, subst, ap, ◌∙◌, inl, inr, rules}
use Rattle.log_theory.specs.declared.step.Ref.{Ref}
use Rattle.log_theory.specs.declared.step.Ref.TheVariants.{Line}
use Rattle.log_theory.specs.LogText.{AreRefs}
use Rattle.dead_paths.specs.Lines.{at_least_ref}
use Rattle.dead_paths.proofs.LineRefs.{refs_behind, at_least_fits}
use Rattle.dead_paths.proofs.HeldPairs.{bearing_same, bearing_pushed}
use Rattle.dead_paths.proofs.known.push_bearing.Goals as goal

pub returns-then-is_left_out-clause-borne : goal.returns-then-is_left_out-clause-borne
returns-then-is_left_out-clause-borne c = λ known pairs count old here is h.
    let yes : c.is_left_out.result ≡ true = search rules in
    bearing_same c.args.lines.now known c.args.but pairs count old c.args.refs.now.items c.args.x is (inl (c.is_left_out.ensures.yes yes)) h

pub returns-then-holds_at-clause-borne : goal.returns-then-holds_at-clause-borne
returns-then-holds_at-clause-borne c = λ known pairs count old here is h.
    let yes : c.holds_at.result ≡ true = search rules in
    bearing_same c.args.lines.now known c.args.but pairs count old c.args.refs.now.items c.args.x is (inr (c.holds_at.ensures yes known here)) h

pub returns-clause-borne : goal.returns-clause-borne
returns-clause-borne c = λ known pairs count old here is h.
    bearing_pushed c.args.lines.now known c.args.but pairs count old c.args.refs.now.items c.push.new.self.items c.args.x is c.requires.vertex
    (c.in_ok-push.ensures.items ∙ ap (λ (n : ℕ). let r : Ref = Line n in c.args.refs.now.items ++ r ∷ []) c.at_least.ensures.line) h

pub returns-clause-fits : goal.returns-clause-fits
returns-clause-fits c =
    let is : Line c.at_least.result ≡ at_least_ref c.args.lines.now c.args.x.0 = ap (λ (n : ℕ). let r : Ref = Line n in r) c.at_least.ensures.line in
    subst AreRefs (sym c.in_ok-push.ensures.items) (refs_behind c.args.refs.now.items (Line c.at_least.result ∷ []) c.requires.fits
    (subst (λ (r : Ref). AreRefs (r ∷ [])) (sym is) (at_least_fits c.args.lines.now c.args.x.0 c.requires.limited c.requires.vertex, tt)))

use Rattle.std.proofs.Common.{◌≡◌, ℕ, Bool, true, None, Result, sym, ap, subst, ◌∙◌}
use Rattle.std.specs.Prelude.{IfErr}
use Rattle.std.specs.Result.{is_ok}
use Rattle.graph_theory.specs.Graph.{size}
use Rattle.domain_bits.specs.Removals.{State, full}
use Rattle.recorder.specs.declared.change.Failure.{Failure}
use Rattle.recorder.specs.Telling.{Tells, Fails}
use Rattle.restart_search.specs.Searching.{Roots}
use Rattle.restart_search.proofs.Logging.{told_first}
use Rattle.restart_search.proofs.root.take_root.Goals as goal

pub returns-in-Ok : goal.returns-in-Ok
returns-in-Ok g c =
    let is_full : c.in_ok-domains.domains ≡ full (size c.args.q.now.pattern) (size c.args.q.now.target) =
    c.in_ok-domains.ensures.full ∙ ap (λ (n : ℕ). full n c.size-values.result) (c.size-vertices.ensures.size ∙ ap size c.pattern.ensures.pattern)
    ∙ ap (λ (n : ℕ). full (size c.args.q.now.pattern) n) (c.size-values.ensures.size ∙ ap size c.target.ensures.target) in
    let roots : Roots true c.args.q.now c.settle_full.new.d = subst (λ (b : Bool). Roots b c.args.q.now c.settle_full.new.d) (ap is_ok c.in-Ok.is) c.in_ok-settled.ensures.roots in (
      roots.0,
      roots.1,
      told_first c.args.q.now (size c.args.q.now.pattern) (size c.args.q.now.target) c.settle_full.new.d _ _ c.requires.told
          (λ t. c.in_ok-settled.ensures.told (subst (λ (d : State). Tells c.args.q.now None d (g.R.Recorder.changes c.args.told)) (sym is_full) t)) c.in_ok-settled.ensures.guesses,
    )

pub returns-in-Err : goal.returns-in-Err
returns-in-Err g c =
    let is_full : c.in_ok-domains.domains ≡ full (size c.args.q.now.pattern) (size c.args.q.now.target) =
    c.in_ok-domains.ensures.full ∙ ap (λ (n : ℕ). full n c.size-values.result) (c.size-vertices.ensures.size ∙ ap size c.pattern.ensures.pattern)
    ∙ ap (λ (n : ℕ). full (size c.args.q.now.pattern) n) (c.size-values.ensures.size ∙ ap size c.target.ensures.target) in (
      subst (λ (b : Bool). Roots b c.args.q.now c.settle_full.new.d) (ap is_ok c.in-Err.is) c.in_ok-settled.ensures.roots,
      record {
        domains = c.settle_full.new.d;
        is_of = c.in_ok-settled.ensures.is_of;
        told = told_first c.args.q.now (size c.args.q.now.pattern) (size c.args.q.now.target) c.settle_full.new.d _ _ c.requires.told
            (λ t. c.in_ok-settled.ensures.told (subst (λ (d : State). Tells c.args.q.now None d (g.R.Recorder.changes c.args.told)) (sym is_full) t)) c.in_ok-settled.ensures.guesses;
        fails = subst (λ (s : Result (Unit {0}) Failure). IfErr s (Fails c.args.q.now None c.settle_full.new.d (g.R.Recorder.changes c.settle_full.new.told) (g.R.Recorder.short c.settle_full.new.told))) c.in-Err.is c.in_ok-settled.ensures.fails;
      },
    )

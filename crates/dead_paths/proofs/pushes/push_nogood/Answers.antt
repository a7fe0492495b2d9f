use Rattle.std.proofs.Common.{◌≡◌, ◌++◌, ◌∷◌, [], ℕ, List, ap, ◌∙◌, subst, sym}
use Rattle.graph_theory.specs.Embedding.{Problem}
use Rattle.log_theory.specs.LogText.{AreRefs}
use Rattle.nogood_book.specs.Rows.{Sound, path_at}
use Rattle.dead_paths.proofs.LineRefs.{refs_behind}
use Rattle.dead_paths.proofs.HeldPairs.{row_vertex_of, nogood_pushed}
use Rattle.dead_paths.proofs.pushes.push_nogood.Goals as goal

pub push_path-requires-clause-sound : goal.push_path-requires-clause-sound
push_path-requires-clause-sound g c = subst (λ (p : Problem). Sound p c.args.basis.now.rows.now) (sym c.problem.ensures) c.requires.sound

pub push_bearing_all-requires-clause-vertices : goal.push_bearing_all-requires-clause-vertices
push_bearing_all-requires-clause-vertices g c = λ k below.
    let is : c.deref.result.now ≡ path_at c.args.basis.now.rows.now c.args.name =
    c.deref.ensures ∙ c.in_ok-push_path.ensures ∙ ap (λ (xs : List (ℕ × ℕ)). xs ++ path_at c.args.basis.now.rows.now c.args.name) c.clear.ensures.items in
    row_vertex_of c.args.basis.now.lines.now c.args.basis.now.rows.now c.args.name c.deref.result.now k c.requires.sound is below

pub returns-clause-pushed : goal.returns-clause-pushed
returns-clause-pushed g c = λ known here.
    let is : c.deref.result.now ≡ path_at c.args.basis.now.rows.now c.args.name =
    c.deref.ensures ∙ c.in_ok-push_path.ensures ∙ ap (λ (xs : List (ℕ × ℕ)). xs ++ path_at c.args.basis.now.rows.now c.args.name) c.clear.ensures.items in
    nogood_pushed c.args.basis.now.lines.now c.args.basis.now.rows.now (g.N.RowNames.names c.args.basis.now.names.now) known c.args.but c.args.name c.deref.result.now c.args.refs.now.items c.push_bearing_all.new.refs.items c.push.new.self.items c.name.result is
    c.name.ensures.name c.in_ok-push.ensures.items
    (c.in_ok-push_bearing_all.ensures.borne known here)

pub returns-clause-fits : goal.returns-clause-fits
returns-clause-fits g c =
    subst AreRefs (sym c.in_ok-push.ensures.items) (refs_behind c.push_bearing_all.new.refs.items (c.name.result ∷ []) c.in_ok-push_bearing_all.ensures.fits (c.name.ensures.fits, tt))

-- What stops while loading writes nothing, and a mapping that is refused is the first of the three files that is.

use Rattle.std.specs.Prelude.{◌≡◌, ℕ, true, false, List, Option, Err, refl}
use Rattle.std.proofs.Common.{subst, sym, rules, ◌∙◌}
use Rattle.std.proofs.lemmas.Result.{err_from_is_err_and}
use Rattle.graph_theory.specs.Embedding.{Embeds}
use Rattle.subgraph_cli.specs.Verifying.{MappingSays}
use Rattle.subgraph_cli.proofs.Told.{loading_spares, mapping_stops, mapping_cause, mapping_held, is_bad, is_good}
use Rattle.subgraph_cli.proofs.Passing.{if_err_passed, bad_passed, asking_stops, asking_cause}
use Rattle.subgraph_cli.proofs.Leaving.{reads_other, reads_stop, reads_then, prints_none}
use Rattle.subgraph_cli.proofs.verify.verify.Goals as goal

pub returns-in_err-map-clause-says : goal.returns-in_err-map-clause-says
returns-in_err-map-clause-says g c told =
    let p = err_from_is_err_and c.from_residual-in_err-map.result c.from_residual-in_err-map.ensures.1 in
    let here = subst (λ (o : Option (List ℕ)). MappingSays (Err c.in_err-map.field-0.0) o) (c.in_ok-q.ensures.files.kept.same _)
    (c.in_err-map.ensures.says (rw c.in_ok-q.ensures.files.kept.told told)) in
    rw (p.1, p.2) (mapping_stops _ _ _ _ _ _ _ c.in_err-map.ensures.loading here (c.in_ok-q.ensures.says told))

pub returns-then-not-is_embedding-clause-says : goal.returns-then-not-is_embedding-clause-says
returns-then-not-is_embedding-clause-says g c told =
    let held = mapping_held _ _ _ (c.in_ok-q.ensures.files.kept.same _) (c.in_ok-map.ensures.says (rw c.in_ok-q.ensures.files.kept.told told)) in
    let no : c.is_embedding-is_embedding.result ≡ false = search rules in
    is_bad c.in_ok-q.q _ c.args.words.now _ _ _ (c.in_ok-q.ensures.says told) held
    (λ embeds. let yes : c.is_embedding-is_embedding.result ≡ true = c.is_embedding-is_embedding.ensures.1 (rw c.deref.ensures.value embeds) in let e : false ≡ true = sym no ∙ yes in cc)

pub returns-in_err-q-clause-says : goal.returns-in_err-q-clause-says
returns-in_err-q-clause-says g c told =
    let p = err_from_is_err_and c.from_residual.result c.from_residual.ensures.1 in
    rw (p.1, p.2) (asking_stops _ _ _ _ _ _ c.in_err-q.ensures.loading (c.in_err-q.ensures.says told))

pub returns-in_err-q-clause-bad : goal.returns-in_err-q-clause-bad
returns-in_err-q-clause-bad g c = bad_passed _ _ _ c.from_residual.ensures.1

pub returns-in_err-map-clause-bad : goal.returns-in_err-map-clause-bad
returns-in_err-map-clause-bad g c = bad_passed _ _ _ c.from_residual-in_err-map.ensures.1

pub returns-then-not-is_embedding-clause-bad : goal.returns-then-not-is_embedding-clause-bad
returns-then-not-is_embedding-clause-bad g c = refl

pub returns-in-Ok-clause-bad : goal.returns-in-Ok-clause-bad
returns-in-Ok-clause-bad g c = tt

pub returns-in-Err-clause-bad : goal.returns-in-Err-clause-bad
returns-in-Err-clause-bad g c = tt

pub returns-in-Ok-clause-says : goal.returns-in-Ok-clause-says
returns-in-Ok-clause-says g c told =
    let held = mapping_held _ _ _ (c.in_ok-q.ensures.files.kept.same _) (c.in_ok-map.ensures.says (rw c.in_ok-q.ensures.files.kept.told told)) in
    let yes : c.is_embedding-is_embedding.result ≡ true = search rules in
    let embeds = subst (λ (m : List ℕ). Embeds c.in_ok-q.q m) c.deref.ensures.value (c.is_embedding-is_embedding.ensures.0 yes) in
    (is_good c.in_ok-q.q _ c.args.words.now _ _ _ (c.in_ok-q.ensures.says told) held embeds, search rules)

pub returns-in-Err-clause-says : goal.returns-in-Err-clause-says
returns-in-Err-clause-says g c told =
    let held = mapping_held _ _ _ (c.in_ok-q.ensures.files.kept.same _) (c.in_ok-map.ensures.says (rw c.in_ok-q.ensures.files.kept.told told)) in
    let yes : c.is_embedding-is_embedding.result ≡ true = search rules in
    let embeds = subst (λ (m : List ℕ). Embeds c.in_ok-q.q m) c.deref.ensures.value (c.is_embedding-is_embedding.ensures.0 yes) in
    (is_good c.in_ok-q.q _ c.args.words.now _ _ _ (c.in_ok-q.ensures.says told) held embeds, search rules)

pub returns-in_err-q-clause-files : goal.returns-in_err-q-clause-files
returns-in_err-q-clause-files g c = reads_stop c.from_residual.ensures.1 c.in_err-q.ensures.files (asking_cause _ c.args.words.now _)

pub returns-in_err-q-clause-output : goal.returns-in_err-q-clause-output
returns-in_err-q-clause-output g c = prints_none (if_err_passed _ _ _ c.from_residual.ensures.1 (loading_spares _ _ c.in_err-q.ensures.loading refl))

pub returns-in_err-map-clause-files : goal.returns-in_err-map-clause-files
returns-in_err-map-clause-files g c =
    reads_stop c.from_residual-in_err-map.ensures.1 (reads_then c.in_ok-q.ensures.files c.in_err-map.ensures.files)
    (λ cause. mapping_cause _ c.args.words.now _ cause (λ told. (c.in_ok-q.q, c.in_ok-q.ensures.says told)))

pub returns-in_err-map-clause-output : goal.returns-in_err-map-clause-output
returns-in_err-map-clause-output g c = prints_none (if_err_passed _ _ _ c.from_residual-in_err-map.ensures.1 (loading_spares _ _ c.in_err-map.ensures.loading refl))

pub returns-then-not-is_embedding-clause-files : goal.returns-then-not-is_embedding-clause-files
returns-then-not-is_embedding-clause-files g c = reads_other (reads_then c.in_ok-q.ensures.files c.in_ok-map.ensures.files) tt

pub returns-then-not-is_embedding-clause-output : goal.returns-then-not-is_embedding-clause-output
returns-then-not-is_embedding-clause-output g c = prints_none tt

pub returns-in-Ok-clause-files : goal.returns-in-Ok-clause-files
returns-in-Ok-clause-files g c = reads_other (reads_then c.in_ok-q.ensures.files c.in_ok-map.ensures.files) tt

pub returns-in-Err-clause-files : goal.returns-in-Err-clause-files
returns-in-Err-clause-files g c = reads_other (reads_then c.in_ok-q.ensures.files c.in_ok-map.ensures.files) tt

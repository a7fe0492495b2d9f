-- What stops while loading writes nothing, and what writing says is what an encode says.

use Rattle.std.specs.Prelude.{refl}
use Rattle.subgraph_cli.proofs.EncodeStatuses.{loading_spares_parts, writing_cause, writing_says}
use Rattle.subgraph_cli.proofs.Passing.{if_err_passed}
use Rattle.subgraph_cli.proofs.Leaving.{reads_other, reads_stop, prints_none}
use Rattle.subgraph_cli.proofs.encode.encode.Goals as goal

pub returns-clause-says : goal.returns-clause-says
returns-clause-says g c told = writing_says c.write_encoding.result _ _ _ _ _ c.write_encoding.ensures.says (c.in_ok-q.ensures.says told)

pub returns-in_err-q-clause-files : goal.returns-in_err-q-clause-files
returns-in_err-q-clause-files g c = reads_stop c.from_residual.ensures.1 c.in_err-q.ensures.files (λ cause. cause)

pub returns-in_err-q-clause-output : goal.returns-in_err-q-clause-output
returns-in_err-q-clause-output g c = prints_none (if_err_passed _ _ _ c.from_residual.ensures.1 (loading_spares_parts _ _ c.in_err-q.ensures.loading refl))

pub returns-clause-files : goal.returns-clause-files
returns-clause-files g c = reads_other c.in_ok-q.ensures.files (writing_cause c.write_encoding.result _ _ _ _ c.write_encoding.ensures.says)

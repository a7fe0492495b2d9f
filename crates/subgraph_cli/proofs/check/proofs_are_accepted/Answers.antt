-- The encoding's text is read back as it was, and the log's verdict is the one with which it is accepted.

use Rattle.encoding_theory.specs.Variables.{variables}
use Rattle.encoding_theory.specs.Encoding.{encoding}
use Rattle.pb_encoding.specs.Model.{model_of}
use Rattle.pb_encoding.specs.Writing.{encoding_text}
use Rattle.merged_log.specs.Profiles.{in_profile}
use Rattle.subgraph_cli.specs.Checking.{verdict_of_claim}
use Rattle.subgraph_cli.proofs.check.proofs_are_accepted.Goals as goal

pub returns : goal.returns
returns c p held q log claim o small_pattern small_target few proof short_encoding short_log says =
    says.leads.accepted (model_of q) (in_profile p.profile log) claim record {
      model_is = record {
        bytes = encoding_text q;
        there = proof.encoding_is;
        short = short_encoding;
        is = c.opb_law.ensures (model_of q) (c.encodings_are_models.ensures q small_pattern small_target few);
      };
      log_is = record { there = proof.log_is; short = short_log };
    } (c.answer_laws.ensures.accepts (variables q) (encoding q) (in_profile p.profile log) (verdict_of_claim claim) proof.accepts)

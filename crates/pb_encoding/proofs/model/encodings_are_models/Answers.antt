use Rattle.pb_encoding.proofs.WrittenModel.{models}
use Rattle.pb_encoding.proofs.model.encodings_are_models.Goals as goal

pub returns : goal.returns
returns c = models

use Rattle.demo_instances.proofs.Shown.{planted_embeds}
use Rattle.demo_instances.proofs.laws.planted_embeds.Goals as goal

pub returns : goal.returns
returns c = planted_embeds

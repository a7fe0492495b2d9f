use Rattle.demo_instances.proofs.Exchanges.{chosen-ok}
use Rattle.demo_instances.proofs.chosen.first_ten.Goals as goal

pub returns : goal.returns
returns c = chosen-ok c.from_slice.result c.args.words.now c.exchange.new.list c.exchange.ensures c.from_slice.ensures.items

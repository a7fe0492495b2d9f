use Rattle.batch_pool.specs.Placing.{ArePut}
use Rattle.batch_pool.proofs.entries.Entries.place_all.Given as goal

abbrev pub invariant-loop-one : goal.invariant-loop-one
invariant-loop-one g l = ArePut l.worker l.yielded l.initial.self.slots.items l.self.slots.items

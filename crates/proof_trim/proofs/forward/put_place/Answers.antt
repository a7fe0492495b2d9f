use Rattle.proof_trim.proofs.Advancing.{place_listed}
use Rattle.proof_trim.proofs.forward.put_place.Goals as goal

pub returns-clause-listed : goal.returns-clause-listed
returns-clause-listed c = λ marks is some old. place_listed (λ v. v.items) marks c.args.place c.args.mark c.args.lists.now.items c.index_mut.result.now c.push.new.self c.requires c.index_mut.ensures.value c.in_ok-push.ensures.items is old

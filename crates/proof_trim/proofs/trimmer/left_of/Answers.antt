use Rattle.proof_trim.proofs.trimmer.left_of.Goals as goal

pub returns-in-Ok : goal.returns-in-Ok
returns-in-Ok c =
    let k = c.in-Ok.ensures in
    (k, (c.requires.0, c.requires.1, c.requires.2, c.trim_law.ensures c.args.model.now.variables c.args.model.now.constraints c.args.log.now c.in-Ok.kept.text.bytes c.requires.0 c.constraints-constraints.ensures.within.constraints_fit c.requires.2 k.trims))

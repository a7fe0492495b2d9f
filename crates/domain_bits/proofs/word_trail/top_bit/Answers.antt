use Rattle.domain_bits.proofs.WordRuns.{top_is}
use Rattle.domain_bits.proofs.word_trail.top_bit.Goals as goal

pub returns-clause-last : goal.returns-clause-last
returns-clause-last c = (top_is c.args.word c.requires c.ranges.word.fits).last

pub returns-clause-one : goal.returns-clause-one
returns-clause-one c = (top_is c.args.word c.requires c.ranges.word.fits).one

pub returns-clause-others : goal.returns-clause-others
returns-clause-others c = (top_is c.args.word c.requires c.ranges.word.fits).others

use Rattle.std.proofs.Common.{◌+◌, ◌++◌, ap, ◌∙◌, sym, arith, length, subst, List}
use Rattle.domain_bits.specs.declared.trail.Run.{Run}
use Rattle.domain_bits.specs.Runs.{pairs_of, AreRuns}
use Rattle.domain_bits.specs.Removals.{at_vertex}
use Rattle.bit_rows.specs.BitRows.{word_values}
use Rattle.domain_bits.proofs.WordRuns.{pairs_of-last, added, runs_within, ones_some}
use Rattle.bit_rows.proofs.WordBits.{length-word_values}
use Rattle.domain_bits.proofs.word_trail.WordTrailTrail.push.Goals as goal

pub push_reserved-requires : goal.push_reserved-requires
push_reserved-requires c =
    let run = c.args.run in
    omega (
      arith,
      runs_within c.self.inside.runs.items c.self.invariant.each,
      ap (λ v. length v.listed) c.self.view_is,
      ap (λ v. v.room) c.self.view_is,
      length-word_values run.place run.word c.values_in.ensures.fits,
      ones_some run.word c.requires.some,
      c.requires.room,
    )

pub invariant_of-self : goal.invariant_of-self
invariant_of-self c =
    let P : List Run → Type 0 = λ rs. AreRuns rs (c.self.inside.pairs + c.values_in.result) in
    subst P (sym c.push_reserved.ensures.items) (rw c.values_in.ensures.count (added c.self.inside.runs.items c.self.inside.pairs c.args.run c.self.invariant (record { some = c.requires.some; small = c.values_in.ensures.fits })))

pub returns-clause-after : goal.returns-clause-after
returns-clause-after c =
    ap pairs_of c.push_reserved.ensures.items ∙ pairs_of-last c.self.inside.runs.items c.args.run
    ∙ ap (λ v. v.listed ++ at_vertex c.args.run.vertex (word_values c.args.run.place c.args.run.word)) c.self.view_is

use Rattle.std.proofs.Common.{◌-◌, take, inl, inr, refl, sym, ◌∙◌, arith, rules}
use Rattle.std.proofs.lemmas.List.{length-take-le}
use Rattle.proof_checker.proofs.FileRead.{read_more, read_past, when_ok}
use Rattle.proof_checker.proofs.log_file.read_through.Goals as goal

-- The buffer's front was read, and fed.
pub loop-count-preserved : goal.loop-count-preserved
loop-count-preserved g c = record {
  long = search rules;
  read = read_more
      (g.F.Files.left c.args.files.now) (g.F.Files.left c.loop-count.files) (g.F.Files.left c.next.new.self)
      c.args.most c.loop-count.left (c.loop-count.left - c.in-Ok.count) c.args.checker c.loop-count.checker c.feed.new.self
      (take c.in-Ok.count c.next.new.buffer) c.loop-count.invariant.read c.in-Ok.ensures.bytes.0
      (let l = length-take-le c.in-Ok.count c.next.new.buffer c.in-Ok.ensures.bound.0 in omega (arith, c.if-count-left.false))
      (when_ok c.feed.result _ c.feed.ensures.taken (sym c.is_err.ensures.value ∙ c.if-is_err.false));
  chosen = c.next.ensures.chosen ∙ c.loop-count.invariant.chosen;
  same = λ file. c.next.ensures.same file ∙ c.loop-count.invariant.same file;
  faults = c.in-Ok.ensures.cause.quiet ∙ c.loop-count.invariant.faults;
  tells = c.next.ensures.tells ∙ c.loop-count.invariant.tells;
  begun = c.next.ensures.begun ∙ c.loop-count.invariant.begun;
}

-- More was read than may come.
pub returns-then-count-left-clause-says : goal.returns-then-count-left-clause-says
returns-then-count-left-clause-says g c s =
    read_past (g.F.Files.left c.args.files.now) (g.F.Files.left c.loop-count.files) (g.F.Files.left c.next.new.self) c.args.most c.loop-count.left c.args.checker c.loop-count.checker (take c.in-Ok.count c.next.new.buffer) c.loop-count.invariant.read c.in-Ok.ensures.bytes.0
    (let l = length-take-le c.in-Ok.count c.next.new.buffer c.in-Ok.ensures.bound.0 in omega (arith, c.if-count-left.true))
    s

pub returns-in_default-clause-quiet : goal.returns-in_default-clause-quiet
returns-in_default-clause-quiet g c = inl refl

pub returns-in_default-clause-later : goal.returns-in_default-clause-later
returns-in_default-clause-later g c = omega (arith, c.next.ensures.cause.later, c.loop-count.invariant.faults)

pub returns-in_default-clause-same : goal.returns-in_default-clause-same
returns-in_default-clause-same g c file = c.next.ensures.same file ∙ c.loop-count.invariant.same file

pub returns-in_default-clause-tells : goal.returns-in_default-clause-tells
returns-in_default-clause-tells g c = c.next.ensures.tells ∙ c.loop-count.invariant.tells

pub returns-in_default-clause-begun : goal.returns-in_default-clause-begun
returns-in_default-clause-begun g c = c.next.ensures.begun ∙ c.loop-count.invariant.begun

pub returns-in_default-clause-says : goal.returns-in_default-clause-says
returns-in_default-clause-says g c s = tt

pub returns-then-count-eq0-clause-quiet : goal.returns-then-count-eq0-clause-quiet
returns-then-count-eq0-clause-quiet g c = inr (c.in-Ok.ensures.cause.quiet ∙ c.loop-count.invariant.faults)

pub returns-then-count-eq0-clause-later : goal.returns-then-count-eq0-clause-later
returns-then-count-eq0-clause-later g c = omega (arith, c.next.ensures.cause.later, c.loop-count.invariant.faults)

pub returns-then-count-eq0-clause-same : goal.returns-then-count-eq0-clause-same
returns-then-count-eq0-clause-same g c file = c.next.ensures.same file ∙ c.loop-count.invariant.same file

pub returns-then-count-eq0-clause-tells : goal.returns-then-count-eq0-clause-tells
returns-then-count-eq0-clause-tells g c = c.next.ensures.tells ∙ c.loop-count.invariant.tells

pub returns-then-count-eq0-clause-begun : goal.returns-then-count-eq0-clause-begun
returns-then-count-eq0-clause-begun g c = c.next.ensures.begun ∙ c.loop-count.invariant.begun

pub returns-then-count-left-clause-quiet : goal.returns-then-count-left-clause-quiet
returns-then-count-left-clause-quiet g c = inr (c.in-Ok.ensures.cause.quiet ∙ c.loop-count.invariant.faults)

pub returns-then-count-left-clause-later : goal.returns-then-count-left-clause-later
returns-then-count-left-clause-later g c = omega (arith, c.next.ensures.cause.later, c.loop-count.invariant.faults)

pub returns-then-count-left-clause-same : goal.returns-then-count-left-clause-same
returns-then-count-left-clause-same g c file = c.next.ensures.same file ∙ c.loop-count.invariant.same file

pub returns-then-count-left-clause-tells : goal.returns-then-count-left-clause-tells
returns-then-count-left-clause-tells g c = c.next.ensures.tells ∙ c.loop-count.invariant.tells

pub returns-then-count-left-clause-begun : goal.returns-then-count-left-clause-begun
returns-then-count-left-clause-begun g c = c.next.ensures.begun ∙ c.loop-count.invariant.begun

pub returns-then-is_err-clause-quiet : goal.returns-then-is_err-clause-quiet
returns-then-is_err-clause-quiet g c = inr (c.in-Ok.ensures.cause.quiet ∙ c.loop-count.invariant.faults)

pub returns-then-is_err-clause-later : goal.returns-then-is_err-clause-later
returns-then-is_err-clause-later g c = omega (arith, c.next.ensures.cause.later, c.loop-count.invariant.faults)

pub returns-then-is_err-clause-same : goal.returns-then-is_err-clause-same
returns-then-is_err-clause-same g c file = c.next.ensures.same file ∙ c.loop-count.invariant.same file

pub returns-then-is_err-clause-tells : goal.returns-then-is_err-clause-tells
returns-then-is_err-clause-tells g c = c.next.ensures.tells ∙ c.loop-count.invariant.tells

pub returns-then-is_err-clause-begun : goal.returns-then-is_err-clause-begun
returns-then-is_err-clause-begun g c = c.next.ensures.begun ∙ c.loop-count.invariant.begun

pub returns-then-is_err-clause-says : goal.returns-then-is_err-clause-says
returns-then-is_err-clause-says g c s = tt

use Rattle.std.proofs.Common.{◌≡◌, ℕ, List, length, take, ap, sym, subst, ◌∙◌, arith}
use Rattle.std.specs.List.{between}
use Rattle.outer_io.specs.KnownText.{Wrote}
use Rattle.journals.specs.Keeping.{text_of}
use Rattle.journals.proofs.Texts.{ends_long}
use Rattle.merged_log.specs.Lines.{part_of}
use Rattle.merged_log.proofs.PartTexts.{text_grows, text_within, text_between, names_part}
use Rattle.merged_log.proofs.parts.put_hinted.Goals as goal

pub end_of-requires : goal.end_of-requires
end_of-requires g c =
    let ends : length c.ends-ends.result.now ≡ length c.args.journal.now.steps = ap length c.ends-ends.ensures.ends ∙ ends_long 0 c.args.journal.now.steps in
    let low = c.if-from-to.false in
    let high = c.requires in
    omega (arith, ends, low, high)

pub end_of-requires-2 : goal.end_of-requires-2
end_of-requires-2 g c =
    let ends : length c.ends-ends.result.now ≡ length c.args.journal.now.steps = ap length c.ends-ends.ensures.ends ∙ ends_long 0 c.args.journal.now.steps in
    let high = c.requires in
    omega (arith, ends, high)

pub slice_bounds-put-count : goal.slice_bounds-put-count
slice_bounds-put-count g c =
    let steps = c.args.journal.now.steps in
    let a : c.end_of.result ≡ length (text_of (take c.args.from steps)) = c.end_of.ensures steps c.ends-ends.ensures.ends in
    let b : c.end_of-2.result ≡ length (text_of (take c.args.to steps)) = c.end_of-2.ensures steps c.ends-ends.ensures.ends in
    let low = c.if-from-to.false in
    omega (arith, a, b, text_grows c.args.from c.args.to steps (omega (arith, low)))

pub slice_bounds-put-start : goal.slice_bounds-put-start
slice_bounds-put-start g c =
    let steps = c.args.journal.now.steps in
    let a : c.end_of.result ≡ length (text_of (take c.args.from steps)) = c.end_of.ensures steps c.ends-ends.ensures.ends in
    let b : c.end_of-2.result ≡ length (text_of (take c.args.to steps)) = c.end_of-2.ensures steps c.ends-ends.ensures.ends in
    let low = c.if-from-to.false in
    omega (arith, a, b, text_grows c.args.from c.args.to steps (omega (arith, low)))

pub slice_bounds-put-end : goal.slice_bounds-put-end
slice_bounds-put-end g c =
    let steps = c.args.journal.now.steps in
    let a : c.end_of.result ≡ length (text_of (take c.args.from steps)) = c.end_of.ensures steps c.ends-ends.ensures.ends in
    let b : c.end_of-2.result ≡ length (text_of (take c.args.to steps)) = c.end_of-2.ensures steps c.ends-ends.ensures.ends in
    let text : length c.text-text.result.now ≡ length (text_of steps) = ap length c.text-text.ensures.text in
    let low = c.if-from-to.false in
    let grows = text_grows c.args.from c.args.to steps (omega (arith, low)) in
    omega (arith, a, b, text, grows, text_within c.args.to steps)

pub returns-clause-text : goal.returns-clause-text
returns-clause-text g c =
    let j = c.args.journal.now in
    let a : c.end_of.result ≡ length (text_of (take c.args.from j.steps)) = c.end_of.ensures j.steps c.ends-ends.ensures.ends in
    let b : c.end_of-2.result ≡ length (text_of (take c.args.to j.steps)) = c.end_of-2.ensures j.steps c.ends-ends.ensures.ends in
    let low = c.if-from-to.false in
    let part : between c.end_of.result c.end_of-2.result c.text-text.result.now ≡ text_of (part_of j c.args.from c.args.to) =
    ap (λ (x : ℕ). between x c.end_of-2.result c.text-text.result.now) a ∙ ap (λ (x : ℕ). between (length (text_of (take c.args.from j.steps))) x c.text-text.result.now) b
    ∙ ap (between (length (text_of (take c.args.from j.steps))) (length (text_of (take c.args.to j.steps)))) c.text-text.ensures.text
    ∙ text_between c.args.from c.args.to j.steps (omega (arith, low))
    ∙ ap text_of (sym (names_part j.owner c.args.from c.args.to j.steps c.text-text.ensures.names)) in
    subst (λ (t : List ℕ). Wrote (g.S.Sink.spot c.args.sink.now).steady (g.S.Sink.contents c.args.sink.now) (g.S.Sink.contents c.put.new.self) c.put.result t) part c.put.ensures.text

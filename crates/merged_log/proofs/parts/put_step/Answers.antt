use Rattle.std.proofs.Common.{◌≡◌, ℕ, suc, ◌+◌, List, length, take, drop, ap, sym, subst, ◌∙◌, arith}
use Rattle.std.specs.List.{between}
use Rattle.outer_io.specs.KnownText.{Wrote}
use Rattle.journals.specs.Keeping.{text_of}
use Rattle.journals.proofs.Texts.{ends_long}
use Rattle.log_theory.specs.declared.profile.Profile.TheVariants.{Plain}
use Rattle.merged_log.specs.Profiles.{text_in, without_hints}
use Rattle.merged_log.specs.Lines.{part_of}
use Rattle.merged_log.proofs.Profiled.{one_cut}
use Rattle.merged_log.proofs.PartTexts.{text_grows, text_within, text_between, names_part}
use Rattle.merged_log.proofs.parts.put_step.Goals as goal

pub end_of-requires : goal.end_of-requires
end_of-requires g c =
    let ends : length c.ends-ends.result.now ≡ length c.args.journal.now.steps = ap length c.ends-ends.ensures.ends ∙ ends_long 0 c.args.journal.now.steps in
    let high = c.requires in
    omega (arith, ends, high)

pub end_of-requires-2 : goal.end_of-requires-2
end_of-requires-2 g c =
    let ends : length c.ends-ends.result.now ≡ length c.args.journal.now.steps = ap length c.ends-ends.ensures.ends ∙ ends_long 0 c.args.journal.now.steps in
    let high = c.requires in
    omega (arith, ends, high)

pub slice_bounds-put_line-count : goal.slice_bounds-put_line-count
slice_bounds-put_line-count g c =
    let steps = c.args.journal.now.steps in
    let a : c.end_of.result ≡ length (text_of (take c.args.at steps)) = c.end_of.ensures steps c.ends-ends.ensures.ends in
    let b : c.end_of-2.result ≡ length (text_of (take (c.args.at + 1) steps)) = c.end_of-2.ensures steps c.ends-ends.ensures.ends in
    omega (arith, a, b, text_grows c.args.at (c.args.at + 1) steps (omega arith))

pub slice_bounds-put_line-start : goal.slice_bounds-put_line-start
slice_bounds-put_line-start g c =
    let steps = c.args.journal.now.steps in
    let a : c.end_of.result ≡ length (text_of (take c.args.at steps)) = c.end_of.ensures steps c.ends-ends.ensures.ends in
    let b : c.end_of-2.result ≡ length (text_of (take (c.args.at + 1) steps)) = c.end_of-2.ensures steps c.ends-ends.ensures.ends in
    omega (arith, a, b, text_grows c.args.at (c.args.at + 1) steps (omega arith))

pub slice_bounds-put_line-end : goal.slice_bounds-put_line-end
slice_bounds-put_line-end g c =
    let steps = c.args.journal.now.steps in
    let a : c.end_of.result ≡ length (text_of (take c.args.at steps)) = c.end_of.ensures steps c.ends-ends.ensures.ends in
    let b : c.end_of-2.result ≡ length (text_of (take (c.args.at + 1) steps)) = c.end_of-2.ensures steps c.ends-ends.ensures.ends in
    let text : length c.text-text.result.now ≡ length (text_of steps) = ap length c.text-text.ensures.text in
    let grows = text_grows c.args.at (c.args.at + 1) steps (omega arith) in
    omega (arith, a, b, text, grows, text_within (c.args.at + 1) steps)

pub returns-clause-text : goal.returns-clause-text
returns-clause-text g c =
    let j = c.args.journal.now in
    let a : c.end_of.result ≡ length (text_of (take c.args.at j.steps)) = c.end_of.ensures j.steps c.ends-ends.ensures.ends in
    let b : c.end_of-2.result ≡ length (text_of (take (c.args.at + 1) j.steps)) = c.end_of-2.ensures j.steps c.ends-ends.ensures.ends in
    let within = c.requires in
    let e : suc c.args.at ≡ c.args.at + 1 = omega arith in
    let bare : part_of j c.args.at (c.args.at + 1) ≡ drop c.args.at (take (c.args.at + 1) j.steps) = names_part j.owner c.args.at (c.args.at + 1) j.steps c.text-text.ensures.names in
    let part : between c.end_of.result c.end_of-2.result c.text-text.result.now ≡ text_of (drop c.args.at (take (c.args.at + 1) j.steps)) =
    ap (λ (x : ℕ). between x c.end_of-2.result c.text-text.result.now) a ∙ ap (λ (x : ℕ). between (length (text_of (take c.args.at j.steps))) x c.text-text.result.now) b
    ∙ ap (between (length (text_of (take c.args.at j.steps))) (length (text_of (take (c.args.at + 1) j.steps)))) c.text-text.ensures.text
    ∙ text_between c.args.at (c.args.at + 1) j.steps (omega arith) in
    let cut : without_hints (text_of (drop c.args.at (take (c.args.at + 1) j.steps))) ≡ text_in Plain (drop c.args.at (take (c.args.at + 1) j.steps)) =
    subst (λ (n : ℕ). without_hints (text_of (drop c.args.at (take n j.steps))) ≡ text_in Plain (drop c.args.at (take n j.steps))) e (one_cut j.steps c.args.at within) in
    subst (λ (t : List ℕ). Wrote (g.S.Sink.spot c.args.sink.now).steady (g.S.Sink.contents c.args.sink.now) (g.S.Sink.contents c.put_line.new.sink) c.put_line.result t)
    (ap without_hints part ∙ cut ∙ ap (text_in Plain) (sym bare)) c.put_line.ensures.text

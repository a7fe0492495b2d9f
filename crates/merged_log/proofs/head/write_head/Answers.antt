use Rattle.std.proofs.Common.{rules, ◌≡◌, ℕ, List, [], ◌∷◌, ◌++◌, take, codes, ap, sym, subst, ◌∙◌, append_assoc, append-nil}
use Rattle.std.specs.Fmt.{decimal}
use Rattle.outer_io.specs.KnownText.{Wrote}
use Rattle.log_theory.specs.declared.profile.Profile.{Profile}
use Rattle.log_theory.specs.declared.step.Step.TheVariants.{Head, Model}
use Rattle.log_theory.specs.Words.{line_text}
use Rattle.log_theory.specs.LogText.{step_words}
use Rattle.log_theory.specs.Profiles.{words_in}
use Rattle.merged_log.specs.Profiles.{head_text}
use Rattle.merged_log.proofs.head.write_head.Goals as goal

model_text : (lines : ℕ) → (codes "m " ++ decimal lines) ++ 10 ∷ [] ≡ line_text (step_words (Model lines))
model_text lines = ap (λ (t : List ℕ). (codes "m " ++ t) ++ 10 ∷ []) (sym (append-nil (decimal lines)))

joined_head : (profile : Profile) (lines : ℕ) → ((line_text (words_in profile Head) ++ codes "m ") ++ decimal lines) ++ 10 ∷ [] ≡ head_text profile lines
joined_head profile lines =
    ap (λ (t : List ℕ). t ++ 10 ∷ []) (append_assoc (line_text (words_in profile Head)) (codes "m ") (decimal lines))
    ∙ append_assoc (line_text (words_in profile Head)) (codes "m " ++ decimal lines) (10 ∷ [])
    ∙ ap (λ (t : List ℕ). line_text (words_in profile Head) ++ t) (model_text lines)

pub returns-clause-text : goal.returns-clause-text
returns-clause-text g c =
    let digits : c.as_bytes.result.now ≡ decimal c.args.lines = search rules in
    let first : take c.append-first.result c.append-first.new.buffer ≡ line_text (words_in c.args.profile Head) =
    c.append-first.ensures.text ∙ c.first_line.ensures.text in
    let front : take c.append-front.result c.append-front.new.buffer ≡ line_text (words_in c.args.profile Head) ++ codes "m " =
    c.append-front.ensures.text ∙ ap (λ (t : List ℕ). t ++ codes "m ") first in
    let number : take c.append-number.result c.append-number.new.buffer ≡ (line_text (words_in c.args.profile Head) ++ codes "m ") ++ decimal c.args.lines =
    c.append-number.ensures.text ∙ ap (λ (t : List ℕ). t ++ c.as_bytes.result.now) front
    ∙ ap (λ (t : List ℕ). (line_text (words_in c.args.profile Head) ++ codes "m ") ++ t) digits in
    subst (λ (t : List ℕ). Wrote (g.S.Sink.spot c.args.sink.now).steady (g.S.Sink.contents c.args.sink.now) (g.S.Sink.contents c.put.new.self) c.put.result t)
    (c.append-end.ensures.text ∙ ap (λ (t : List ℕ). t ++ 10 ∷ []) number ∙ joined_head c.args.profile c.args.lines) c.put.ensures.text

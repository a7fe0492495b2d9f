-- A text of lines tells its steps, and grows by a line at its end.
use Rattle.std.proofs.Common.{◌≡◌, ℕ, suc, ◌+◌, ◌==◌, List, [], ◌∷◌, ◌++◌, length, Option, refl, sym, ap, subst, ◌∙◌, append_assoc, append-nil, length-append, arith}
use Rattle.std.proofs.lemmas.Bool.{ne_eqb}
use Rattle.log_theory.specs.declared.step.Step.{Step}
use Rattle.log_theory.specs.declared.step.Step.TheVariants.{Head, Model, P, U, N, D, E, Y, Q}
use Rattle.log_theory.specs.Words.{pieces, joined, line_text}
use Rattle.log_theory.specs.LogText.{IsName, IsStep, step_words}
use Rattle.log_theory.proofs.Splitting.{Passes, pieces_front, joined_bytes}
use Rattle.log_theory.proofs.StepReadBack.{words_step, step_read_back}
use Rattle.journal_theory.specs.Journals.{own_name, named, numbered}
use Rattle.journals.specs.Keeping.{IsLine, text_of, told, steps_told, steps_in, ends_from, AreSteps, IsText, BearNames}

passes_feed : Passes (λ b. b == 10) 32 126
passes_feed = record { over = λ b low high. ne_eqb b 10 (λ (e : b ≡ 10). omega (arith, low, e)) }

-- The text of lines tells them.
steps_of_text : (ss : List Step) → AreSteps ss → steps_in (text_of ss) ≡ ss
steps_of_text [] h = refl
steps_of_text (s ∷ ss) h =
    ap (λ (bs : List ℕ). steps_told (pieces (λ b. b == 10) bs)) (append_assoc (joined (step_words s)) (10 ∷ []) (text_of ss))
    ∙ ap steps_told (pieces_front (λ b. b == 10) 32 126 10 (joined (step_words s)) (text_of ss) passes_feed refl (joined_bytes (step_words s) (words_step s h.0)))
    ∙ ap (λ (o : Option Step). told o (steps_in (text_of ss))) (step_read_back s h.0)
    ∙ ap (λ (xs : List Step). s ∷ xs) (steps_of_text ss h.1)

text_snoc : (ss : List Step) (s : Step) → text_of (ss ++ s ∷ []) ≡ text_of ss ++ line_text (step_words s)
text_snoc [] s = append-nil (line_text (step_words s))
text_snoc (x ∷ xs) s = ap (λ (bs : List ℕ). line_text (step_words x) ++ bs) (text_snoc xs s) ∙ sym (append_assoc (line_text (step_words x)) (text_of xs) (line_text (step_words s)))

steps_snoc : (ss : List Step) (s : Step) → AreSteps ss → IsStep s → AreSteps (ss ++ s ∷ [])
steps_snoc [] s h i = (i, tt)
steps_snoc (x ∷ xs) s h i = (h.0, steps_snoc xs s h.1 i)

ends_snoc : (at : ℕ) (ss : List Step) (s : Step) → ends_from at (ss ++ s ∷ []) ≡ ends_from at ss ++ (at + length (text_of ss ++ line_text (step_words s))) ∷ []
ends_snoc at [] s = refl
ends_snoc at (x ∷ xs) s =
    let rest = ends_snoc (at + length (line_text (step_words x))) xs s in
    let same : (at + length (line_text (step_words x))) + length (text_of xs ++ line_text (step_words s)) ≡ at + length ((line_text (step_words x) ++ text_of xs) ++ line_text (step_words s)) =
    omega (arith, length-append (text_of xs) (line_text (step_words s)), length-append (line_text (step_words x) ++ text_of xs) (line_text (step_words s)), length-append (line_text (step_words x)) (text_of xs)) in
    ap (λ (es : List ℕ). (at + length (line_text (step_words x))) ∷ es) (rest ∙ ap (λ (e : ℕ). ends_from (at + length (line_text (step_words x))) xs ++ e ∷ []) same)

pub ends_long : (at : ℕ) (ss : List Step) → length (ends_from at ss) ≡ length ss
ends_long at [] = refl
ends_long at (x ∷ xs) = ap (λ (n : ℕ). suc n) (ends_long (at + length (line_text (step_words x))) xs)

-- What a line more leaves.
pub record Appended (old new ends : List ℕ) (s : Step) : Type 0 where
  pub is_text : IsText new (ends ++ length new ∷ [])
  pub steps_are : steps_in new ≡ steps_in old ++ s ∷ []

pub appends : (old new ends : List ℕ) (s : Step) → IsText old ends → IsStep s → new ≡ old ++ line_text (step_words s) → Appended old new ends s
appends old new ends s text step is =
    let steps = steps_in old in
    let whole : new ≡ text_of (steps ++ s ∷ []) = is ∙ ap (λ (bs : List ℕ). bs ++ line_text (step_words s)) text.bytes_are ∙ sym (text_snoc steps s) in
    let are = steps_snoc steps s text.are_steps step in
    let told_are : steps_in new ≡ steps ++ s ∷ [] = ap steps_in whole ∙ steps_of_text (steps ++ s ∷ []) are in
    record {
      steps_are = told_are;
      is_text = record {
        are_steps = subst AreSteps (sym told_are) are;
        bytes_are = whole ∙ ap text_of (sym told_are);
        ends_are =
            ap (λ (es : List ℕ). es ++ length new ∷ []) text.ends_are
            ∙ ap (λ (n : ℕ). ends_from 0 steps ++ n ∷ []) (let e : length (text_of steps ++ line_text (step_words s)) ≡ 0 + length (text_of steps ++ line_text (step_words s)) = omega arith in ap (λ (bs : List ℕ). length bs) (whole ∙ text_snoc steps s) ∙ e)
            ∙ sym (ends_snoc 0 steps s) ∙ ap (ends_from 0) (sym told_are);
      };
    }

-- There are as many ends as lines.
pub ends_count : (bytes ends : List ℕ) → IsText bytes ends → length ends ≡ length (steps_in bytes)
ends_count bytes ends text = ap (λ (es : List ℕ). length es) text.ends_are ∙ ends_long 0 (steps_in bytes)

-- A line under its owner's next name can be written.
pub named_step : (owner place : ℕ) (s : Step) → IsLine s → IsName (own_name owner place) → IsStep (named owner place s)
named_step owner place (P name ops) line is = (is, line)
named_step owner place (U name lits refs) line is = (is, line.0, line.1)
named_step owner place s line is = absurd line

-- A line under its name stays as it is under that name.
pub named_again : (owner place : ℕ) (s : Step) → named owner place (named owner place s) ≡ named owner place s
named_again owner place (P name ops) = refl
named_again owner place (U name lits refs) = refl
named_again owner place Head = refl
named_again owner place (Model m) = refl
named_again owner place (N row name) = refl
named_again owner place (D at) = refl
named_again owner place (E at) = refl
named_again owner place (Y ones) = refl
named_again owner place Q = refl

numbered_snoc : (owner place : ℕ) (ss : List Step) (s : Step) → numbered owner place (ss ++ s ∷ []) ≡ numbered owner place ss ++ named owner (place + length ss) s ∷ []
numbered_snoc owner place [] s = let e : place ≡ place + 0 = omega arith in ap (λ (k : ℕ). named owner k s ∷ []) e
numbered_snoc owner place (x ∷ xs) s =
    let e : place + 1 + length xs ≡ place + suc (length xs) = omega arith in
    ap (λ (ts : List Step). named owner place x ∷ ts) (numbered_snoc owner (place + 1) xs s ∙ ap (λ (k : ℕ). numbered owner (place + 1) xs ++ named owner k s ∷ []) e)

-- A line more under the next name.
pub names_snoc : (owner : ℕ) (ss : List Step) (s : Step) → BearNames owner ss → named owner (length ss) s ≡ s → BearNames owner (ss ++ s ∷ [])
names_snoc owner ss s names name =
    let e : 0 + length ss ≡ length ss = omega arith in
    numbered_snoc owner 0 ss s ∙ ap (λ (ts : List Step). ts ++ named owner (0 + length ss) s ∷ []) names ∙ ap (λ (x : Step). ss ++ x ∷ []) (ap (λ (k : ℕ). named owner k s) e ∙ name)

-- The line of a step of a log without hints is read as that step.
use Rattle.std.proofs.Common.{◌≡◌, ◌≢◌, ℕ, List, [], ◌∷◌, ◌++◌, map, Option, Some, refl, ap, ◌∙◌, arith}
use lib.Chars.{codes}
use Rattle.proof_theory.specs.declared.literal.Literal.{Literal}
use Rattle.log_theory.specs.declared.profile.Profile.{Profile}
use Rattle.log_theory.specs.declared.profile.Profile.TheVariants.{Hinted, Plain}
use Rattle.log_theory.specs.declared.step.Name.{Name}
use Rattle.log_theory.specs.declared.step.Step.{Step}
use Rattle.log_theory.specs.declared.step.Step.TheVariants.{Head, Model, P, U, N, D, E, Y, Q}
use Rattle.log_theory.specs.Words.{joined}
use Rattle.log_theory.specs.LogText.{name_text, ref_text, literal_text, step_words, name_of, literal_of, all_of, Parted, closed, when_closed, u_from, IsStep}
use Rattle.log_theory.specs.Profiles.{words_in, plain, plain_step, read_in, told_in, up_to_semicolon, dropped_words, dropped_line}
use Rattle.log_theory.proofs.Splitting.{AllBetween-tested, AreWords, AreWords-append}
use Rattle.log_theory.proofs.StepReadBack.{part_at, before_literals, literals_read, name_read, word_name, words_literals, sign, line_words, step_has_words, words_step, words_read, step_read_back}

pub plain_words : (s : Step) → IsStep s → AreWords (words_in Plain s)
plain_words Head h = (record { some = refl; bytes = AllBetween-tested 33 126 (codes "embedding") refl }, (record { some = refl; bytes = AllBetween-tested 33 126 (codes "proof") refl }, (sign 50 (omega arith) (omega arith), tt)))
plain_words (Model m) h = words_step (Model m) h
plain_words (P name ops) h = words_step (P name ops) h
plain_words (U name lits refs) h = (sign 117 (omega arith) (omega arith), (word_name name h.0, AreWords-append (map literal_text lits) (codes ";" ∷ []) (words_literals lits h.1) (sign 59 (omega arith) (omega arith), tt)))
plain_words (N row name) h = words_step (N row name) h
plain_words (D at) h = words_step (D at) h
plain_words (E at) h = words_step (E at) h
plain_words (Y ones) h = words_step (Y ones) h
plain_words Q h = words_step Q h

has_words : (s : Step) → words_in Plain s ≢ []
has_words Head e = cc
has_words (Model m) e = cc
has_words (P name ops) e = cc
has_words (U name lits refs) e = cc
has_words (N row name) e = cc
has_words (D at) e = cc
has_words (E at) e = cc
has_words (Y ones) e = cc
has_words Q e = cc

-- The words of a step tell it, without its hints.
pub plain_words_read : (s : Step) → IsStep s → plain_step (words_in Plain s) ≡ Some (plain s)
plain_words_read Head h = refl
plain_words_read (Model m) h = words_read (Model m) h
plain_words_read (P name ops) h = words_read (P name ops) h
plain_words_read (U name lits refs) h =
    ap (λ (p : Option Parted). u_from (name_of (name_text name)) (when_closed (all_of literal_of) (closed p)) (Some [])) (part_at (map literal_text lits) [] (before_literals lits))
    ∙ ap (λ (o : Option (List Literal)). u_from (name_of (name_text name)) o (Some [])) (literals_read lits h.1)
    ∙ ap (λ (o : Option Name). u_from o (Some lits) (Some [])) (name_read name h.0)
plain_words_read (N row name) h = words_read (N row name) h
plain_words_read (D at) h = words_read (D at) h
plain_words_read (E at) h = words_read (E at) h
plain_words_read (Y []) h = refl
plain_words_read (Y (v ∷ vs)) h = words_read (Y (v ∷ vs)) h
plain_words_read Q h = refl

pub plain_read_back : (s : Step) → IsStep s → read_in Plain (joined (words_in Plain s)) ≡ Some (plain s)
plain_read_back s h = ap plain_step (line_words (words_in Plain s) (plain_words s h) (has_words s)) ∙ plain_words_read s h

-- The line of a step is read as that step, in a log without hints without them.
pub read_back_in : (profile : Profile) (s : Step) → IsStep s → read_in profile (joined (words_in profile s)) ≡ Some (told_in profile s)
read_back_in Hinted s h = step_read_back s h
read_back_in Plain s h = plain_read_back s h

-- The words of a step without the references of a `u` line are those that a log without hints has.
words_without : (s : Step) → IsStep s → s ≢ Head → dropped_words (step_words s) ≡ words_in Plain s
words_without Head h n = absurd (n refl)
words_without (Model m) h n = refl
words_without (P name ops) h n = refl
words_without (U name lits refs) h n =
    ap (λ (p : Option Parted). codes "u" ∷ name_text name ∷ up_to_semicolon (map literal_text lits ++ codes ";" ∷ (map ref_text refs ++ codes ";" ∷ [])) p)
    (part_at (map literal_text lits) (map ref_text refs ++ codes ";" ∷ []) (before_literals lits))
words_without (N row name) h n = refl
words_without (D at) h n = refl
words_without (E at) h n = refl
words_without (Y []) h n = refl
words_without (Y (v ∷ vs)) h n = refl
words_without Q h n = refl

-- The line of a step, its references dropped, is the one that a log without hints has.
pub line_without : (s : Step) → IsStep s → s ≢ Head → dropped_line (joined (step_words s)) ≡ joined (words_in Plain s)
line_without s h n =
    ap (λ (ws : List (List ℕ)). joined (dropped_words ws)) (line_words (step_words s) (words_step s h) (step_has_words s)) ∙ ap joined (words_without s h n)

-- Texts of steps that are put one after another.
use Rattle.std.proofs.Common.{◌≡◌, ℕ, Bool, List, ◌++◌, Option, Result, Ok, Err, sym, ap, subst, ◌∙◌}
use Rattle.std.specs.Io.KnownBytes.{append_known}
use Rattle.std.proofs.lemmas.Grind.{flat_map-append}
use Rattle.outer_io.specs.KnownText.{StopsIn, Wrote}
use Rattle.outer_io.proofs.KnownTexts.{append_known-append_known, StopsIn-first, StopsIn-then}
use Rattle.log_theory.specs.declared.step.Step.{Step}
use Rattle.log_theory.specs.Words.{line_text}
use Rattle.log_theory.specs.LogText.{step_words}
use Rattle.log_theory.specs.declared.profile.Profile.{Profile}
use Rattle.journals.specs.Keeping.{text_of}
use Rattle.merged_log.specs.Profiles.{line_in, text_in}

-- The text of some steps and then others.
pub text_join : (xs ys : List Step) → text_of (xs ++ ys) ≡ text_of xs ++ text_of ys
text_join xs ys = flat_map-append (λ (s : Step). line_text (step_words s)) xs ys

-- The same in a profile.
lines_join : (profile : Profile) (xs ys : List Step) → text_in profile (xs ++ ys) ≡ text_in profile xs ++ text_in profile ys
lines_join profile xs ys = flat_map-append (λ (s : Step). line_in profile s) xs ys

-- Steps were put, and then those that follow were put or stopped in.
pub steps-then : (profile : Profile) → {T E : Type 0} (steady steady_now : Bool) → steady_now ≡ steady → (old middle new : Option (List ℕ)) (r : Result T E) (xs ys : List Step)
    → middle ≡ append_known old (text_in profile xs) → Wrote steady_now middle new r (text_in profile ys) → Wrote steady old new r (text_in profile (xs ++ ys))
steps-then profile steady steady_now same old middle new (Ok x) xs ys before put =
    put ∙ ap (λ (k : Option (List ℕ)). append_known k (text_in profile ys)) before ∙ append_known-append_known old (text_in profile xs) (text_in profile ys)
    ∙ ap (append_known old) (sym (lines_join profile xs ys))
steps-then profile steady steady_now same old middle new (Err e) xs ys before stop =
    rw (lines_join profile xs ys) (StopsIn-then steady old middle new (text_in profile xs) (text_in profile ys) before (subst (λ (s : Bool). StopsIn s middle new (text_in profile ys)) same stop))

-- Where the first steps stopped, all did.
pub steps-first : (profile : Profile) → (steady : Bool) (old new : Option (List ℕ)) (xs ys : List Step) → StopsIn steady old new (text_in profile xs) → StopsIn steady old new (text_in profile (xs ++ ys))
steps-first profile steady old new xs ys stop = rw (lines_join profile xs ys) (StopsIn-first steady old new (text_in profile xs) (text_in profile ys) stop)

-- Where steps between others stopped, all did.
pub steps-stop : (profile : Profile) → (steady steady_now : Bool) → steady_now ≡ steady → (old middle new : Option (List ℕ)) (xs ys zs : List Step)
    → middle ≡ append_known old (text_in profile xs) → StopsIn steady_now middle new (text_in profile ys) → StopsIn steady old new (text_in profile ((xs ++ ys) ++ zs))
steps-stop profile steady steady_now same old middle new xs ys zs before stop =
    steps-first profile steady old new (xs ++ ys) zs
    (rw (lines_join profile xs ys) (StopsIn-then steady old middle new (text_in profile xs) (text_in profile ys) before (subst (λ (s : Bool). StopsIn s middle new (text_in profile ys)) same stop)))

-- Some more steps were put.
pub steps-more : (profile : Profile) → (old middle new : Option (List ℕ)) (xs ys : List Step) → middle ≡ append_known old (text_in profile xs) → new ≡ append_known middle (text_in profile ys) → new ≡ append_known old (text_in profile (xs ++ ys))
steps-more profile old middle new xs ys before put =
    put ∙ ap (λ (k : Option (List ℕ)). append_known k (text_in profile ys)) before ∙ append_known-append_known old (text_in profile xs) (text_in profile ys) ∙ ap (append_known old) (sym (lines_join profile xs ys))

-- A text was put, and then the one that follows was put or stopped in.
pub texts-then : {T E : Type 0} → (steady steady_now : Bool) → steady_now ≡ steady → (old middle new : Option (List ℕ)) (r : Result T E) (a b : List ℕ)
    → middle ≡ append_known old a → Wrote steady_now middle new r b → Wrote steady old new r (a ++ b)
texts-then steady steady_now same old middle new (Ok x) a b before put =
    put ∙ ap (λ (k : Option (List ℕ)). append_known k b) before ∙ append_known-append_known old a b
texts-then steady steady_now same old middle new (Err e) a b before stop =
    StopsIn-then steady old middle new a b before (subst (λ (s : Bool). StopsIn s middle new b) same stop)

-- How what calls do to lines fits together.
use Rattle.std.proofs.Common.{inl, inr, ◌≡◌, ◌^◌, ℕ, List, [], ◌∷◌, ◌++◌, length, Option, Some, None, Result, Ok, Err, refl, sym, ap, subst, ◌∙◌, append_assoc, append-nil}
use Rattle.std.specs.Prelude.{slice_get}
use Rattle.std.specs.declared.alloc.AllocError.{AllocError}
use Rattle.proof_theory.specs.Forms.{Form}
use Rattle.log_theory.specs.declared.step.Name.{Name}
use Rattle.log_theory.specs.declared.step.Ref.{Ref}
use Rattle.log_theory.specs.declared.step.Ref.TheVariants.{Made}
use Rattle.log_theory.specs.declared.step.Step.{Step}
use Rattle.log_theory.specs.declared.step.Step.TheVariants.{P, U}
use Rattle.log_theory.specs.Lookups.{Lookup, makes}
use Rattle.log_theory.specs.Verdicts.{in_range, step_variables}
use Rattle.encoding_theory.specs.Variables.{variables}
use Rattle.journal_theory.specs.Referring.{step_refs, NamesRow}
use Rattle.journal_theory.specs.Journals.{own_name, IsMaking, named}
use Rattle.journal_theory.proofs.Placing.{get_snoc}
use Rattle.journal_theory.proofs.Growing.{journal_more}
use Rattle.forcing_theory.specs.Sums.{IsSmall, AreSmall}
use Rattle.journals.specs.Keeping.{IsLine, Keeps}
use Rattle.log_growth.specs.Frames.{Frame, Stands, IsNamed, MayFollow, After, Goes, Lasts, IsKept}

-- ---- in sequence, beside, weaker

stays : (w : Frame) (old : List Step) (forms : List Form) (Claim : List Form → Type 0) → Stands w old forms → Claim forms → After w old old forms Claim
stays w old forms Claim stands claim = record {
  rest = [];
  front = sym (append-nil old);
  more = [];
  stands = subst (λ (fs : List Form). Stands w old fs) (sym (append-nil forms)) stands;
  claim = subst Claim (sym (append-nil forms)) claim;
}

-- Lines that are the same.
pub goes_stay : (w : Frame) (old new : Option (List Step)) (Before Claim : List Form → Type 0) → new ≡ old → ((forms : List Form) → Before forms → Claim forms) → Goes w old new Before Claim
goes_stay w None None Before Claim same claim = tt
goes_stay w None (Some n) Before Claim same claim = absurd cc
goes_stay w (Some o) None Before Claim same claim = absurd cc
goes_stay w (Some o) (Some n) Before Claim same claim =
    λ forms stands before. let e : o ≡ n = cc in subst (λ (x : List Step). After w o x forms Claim) e (stays w o forms Claim stands (claim forms before))

pub goes_same : (w : Frame) (kept : Option (List Step)) (Claim : List Form → Type 0) → Goes w kept kept Claim Claim
goes_same w kept Claim = goes_stay w kept kept Claim Claim refl (λ forms claim. claim)

-- One call after the other.
pub goes_then : (w : Frame) (a b c : Option (List Step)) (A B C : List Form → Type 0) → Goes w a b A B → Goes w b c B C → Goes w a c A C
goes_then w None None None A B C g h = tt
goes_then w None None (Some z) A B C g h = h
goes_then w None (Some y) c A B C g h = absurd g
goes_then w (Some x) None c A B C g h = absurd g
goes_then w (Some x) (Some y) None A B C g h = h
goes_then w (Some x) (Some y) (Some z) A B C g h = λ forms stands before.
    let m : After w x y forms B = g forms stands before in
    let n : After w y z (forms ++ m.more) C = h (forms ++ m.more) m.stands m.claim in
    record {
      rest = m.rest ++ n.rest;
      front = n.front ∙ ap (λ (ss : List Step). ss ++ n.rest) m.front ∙ append_assoc x m.rest n.rest;
      more = m.more ++ n.more;
      stands = subst (λ (fs : List Form). Stands w z fs) (append_assoc forms m.more n.more) n.stands;
      claim = subst C (append_assoc forms m.more n.more) n.claim;
    }

-- What lasts is so beside it.
pub goes_beside : (w : Frame) (a b : Option (List Step)) (A B C : List Form → Type 0) → Lasts C → Goes w a b A B → Goes w a b (λ forms. A forms × C forms) (λ forms. B forms × C forms)
goes_beside w None None A B C lasts g = tt
goes_beside w None (Some y) A B C lasts g = g
goes_beside w (Some x) None A B C lasts g = g
goes_beside w (Some x) (Some y) A B C lasts g = λ forms stands before.
    let m : After w x y forms B = g forms stands before.0 in
    record { rest = m.rest; front = m.front; more = m.more; stands = m.stands; claim = (m.claim, lasts forms m.more before.1) }

-- From more, to less.
pub goes_as : (w : Frame) (a b : Option (List Step)) (A B C D : List Form → Type 0) → ((forms : List Form) → C forms → A forms) → ((forms : List Form) → B forms → D forms) → Goes w a b A B → Goes w a b C D
goes_as w None None A B C D before after g = tt
goes_as w None (Some y) A B C D before after g = g
goes_as w (Some x) None A B C D before after g = g
goes_as w (Some x) (Some y) A B C D before after g = λ forms stands c.
    let m : After w x y forms B = g forms stands (before forms c) in
    record { rest = m.rest; front = m.front; more = m.more; stands = m.stands; claim = after (forms ++ m.more) m.claim }

-- ---- a line that is kept

making : (owner place : ℕ) (s : Step) → IsLine s → IsMaking (named owner place s)
making owner place (P name ops) line = tt
making owner place (U name lits refs) line = tt
making owner place s line = absurd line

line_named : (owner place : ℕ) (s : Step) → IsLine s → IsLine (named owner place s)
line_named owner place (P name ops) line = line
line_named owner place (U name lits refs) line = line
line_named owner place s line = absurd line

makes_named : (owner place : ℕ) (s : Step) (look : Lookup) → IsLine s → makes look (named owner place s) ≡ makes look s
makes_named owner place (P name ops) look line = refl
makes_named owner place (U name lits refs) look line = refl
makes_named owner place s look line = absurd line

refs_named : (owner place : ℕ) (s : Step) → IsLine s → step_refs (named owner place s) ≡ step_refs s
refs_named owner place (P name ops) line = refl
refs_named owner place (U name lits refs) line = refl
refs_named owner place s line = absurd line

variables_named : (owner place : ℕ) (s : Step) → IsLine s → step_variables (named owner place s) ≡ step_variables s
variables_named owner place (P name ops) line = refl
variables_named owner place (U name lits refs) line = refl
variables_named owner place s line = absurd line

last_at : (forms : List Form) (f : Form) → slice_get (forms ++ f ∷ []) (length forms) ≡ Some f
last_at [] f = refl
last_at (g ∷ forms) f = last_at forms f

small_snoc : (n : ℕ) (forms : List Form) (f : Form) → AreSmall n forms → IsSmall n f → AreSmall n (forms ++ f ∷ [])
small_snoc n [] f all small = (small, tt)
small_snoc n (g ∷ forms) f all small = (all.0, small_snoc n forms f all.1 small)

-- One line more stands, and its name is the form's.
stands_more : (w : Frame) (lines : List Step) (forms : List Form) (step : Step) (f : Form) → Stands w lines forms → IsLine step → MayFollow w forms step f
    → Stands w (lines ++ named w.owner (length lines) step ∷ []) (forms ++ f ∷ [])
stands_more w lines forms step f stands line may =
    let s = named w.owner (length lines) step in
    record {
      journal = journal_more w.base w.owner lines forms s f stands.journal (making w.owner (length lines) step line)
          (λ look finds own. makes_named w.owner (length lines) step look line ∙ may.made look finds own);
      rows = λ i k x at names. elim (get_snoc lines s x i at) [
        | inl h ↦ stands.rows i k x h.1 names
        | inr h ↦ may.rows k (subst (λ (rs : List Ref). NamesRow rs k) (refs_named w.owner (length lines) step line) (subst (λ (y : Step). NamesRow (step_refs y) k) h.1 names))
      ];
      fits = λ i x at. elim (get_snoc lines s x i at) [ inl h ↦ stands.fits i x h.1 | inr h ↦ subst IsLine (sym h.1) (line_named w.owner (length lines) step line) ];
      ranges = λ i x at. elim (get_snoc lines s x i at) [
        | inl h ↦ stands.ranges i x h.1
        | inr h ↦ ap (λ (y : Step). in_range (variables w.problem) (step_variables y)) h.1
            ∙ ap (in_range (variables w.problem)) (variables_named w.owner (length lines) step line) ∙ may.ranges
      ];
      small = small_snoc (2 ^ 40) forms f stands.small may.small;
    }

kept_after : (w : Frame) (n : Name) (old new : List Step) (step : Step) (f : Form) (forms : List Form) → n ≡ own_name w.owner (length old) → new ≡ old ++ named w.owner (length old) step ∷ [] → IsLine step
    → Stands w old forms → MayFollow w forms step f → After w old new forms (λ fs. IsNamed w fs (Made n) f)
kept_after w n old new step f forms name_is new_is line stands may = record {
  rest = named w.owner (length old) step ∷ [];
  front = new_is;
  more = f ∷ [];
  stands = subst (λ (ss : List Step). Stands w ss (forms ++ f ∷ [])) (sym new_is) (stands_more w old forms step f stands line may);
  claim = record {
    found = λ look finds own.
        ap (λ (m : Name). look (Made m)) (name_is ∙ ap (own_name w.owner) stands.journal.same) ∙ own.own (length forms) f (last_at forms f);
    foreign = λ k is. absurd cc;
  };
}

-- A line that may follow is kept, and its name is the form's.
pub goes_kept : (w : Frame) (result : Result Name AllocError) (owner : ℕ) (old new : Option (List Step)) (step : Step) (f : Form) (Before : List Form → Type 0) → w.owner ≡ owner
    → Keeps result owner old new step → IsLine step → ((forms : List Form) → Before forms → MayFollow w forms step f) → Goes w old new Before (IsKept w result f)
goes_kept w (Ok n) owner None None step f Before same keeps line may = tt
goes_kept w (Ok n) owner None (Some y) step f Before same keeps line may = keeps
goes_kept w (Ok n) owner (Some x) None step f Before same keeps line may = keeps
goes_kept w (Ok n) owner (Some x) (Some y) step f Before same keeps line may = λ forms stands before.
    kept_after w n x y step f forms (keeps.0 ∙ ap (λ (o : ℕ). own_name o (length x)) (sym same))
    (keeps.1 ∙ ap (λ (o : ℕ). x ++ named o (length x) step ∷ []) (sym same)) line stands (may forms before)
goes_kept w (Err e) owner old new step f Before same keeps line may = goes_stay w old new Before (IsKept w (Err e) f) keeps (λ forms before. tt)

-- Whatever a call does, the lines stand.
pub stands_after : (w : Frame) (old new : List Step) (forms : List Form) (Before Claim : List Form → Type 0) → Goes w (Some old) (Some new) Before Claim → Stands w old forms → Before forms
    → (more : List Form) × Stands w new (forms ++ more)
stands_after w old new forms Before Claim goes stands before = let m = goes forms stands before in (m.more, m.stands)

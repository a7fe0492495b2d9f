-- What a call gives, where what a maker knows is carried beside it.
use Rattle.std.proofs.Common.{◌≡◌, ◌∙◌, ◌-◌, ℕ, ◌≤◌, ◌<◌, ◌==◌, Bool, true, false, cond, List, [], ◌++◌, Option, Some, None, Result, Ok, Err, refl, sym, subst}
use Rattle.std.specs.Prelude.{slice_get}
use Rattle.std.specs.List.Sorted.{IsPermutation}
use Rattle.std.specs.declared.alloc.AllocError.{AllocError}
use Rattle.std.proofs.lemmas.Bool.{eqb-true}
use Rattle.graph_theory.specs.Graph.{size}
use Rattle.graph_theory.specs.Embedding.{Problem}
use Rattle.search_theory.specs.Consistency.{IsFirstValue}
use Rattle.proof_theory.specs.Forms.{Form}
use Rattle.log_theory.specs.declared.step.Name.{Name}
use Rattle.log_theory.specs.declared.step.Ref.{Ref}
use Rattle.log_theory.specs.declared.step.Ref.TheVariants.{Line, Made}
use Rattle.log_theory.specs.declared.step.Step.{Step}
use Rattle.encoding_theory.specs.Encoding.{encoding, at_least}
use Rattle.explanation_theory.specs.Reasons.{pairs_clause, ForcesFirst}
use Rattle.recorder.specs.Recording.{CountedSet}
use Rattle.log_growth.specs.Frames.{Frame, IsFrameOf, IsNamed, After, Goes}
use Rattle.log_growth.specs.Rows.{frame_of}
use Rattle.log_growth.proofs.Naming.{line_named}
use Rattle.log_growth.proofs.Rows.{frame_is}
use Rattle.dead_paths.specs.Making.{IsRowLine, GivesFirst, GivesRow, GivesSet}
use Rattle.domain_lines.specs.Named.{name_at}
use Rattle.domain_lines.specs.Given.{IsFirstLine as IsGiven}
use Rattle.pair_lines.specs.declared.pair_lines.PairLines.{PairLines}
use Rattle.pair_lines.specs.Claims.{IsRowNamed, IsKnownRow}
use Rattle.line_cache.specs.Sets.{IsKnownSet}
use Rattle.line_cache.specs.Made.{IsMade, made_last}
use Rattle.line_cache.proofs.Known.{kept_same}

-- ---- calls

-- A call for the problem that lines are made for, where the claim before says that it is this one.
pub goes_for : (q made_for : Problem) (owner : ℕ) (w : Frame) (old new : Option (List Step)) (A B : Frame → List Form → Type 0) (Before Claim : List Form → Type 0) → IsFrameOf q owner w
    → ((v : Frame) → IsFrameOf made_for owner v → Goes v old new (A v) (B v)) → ((forms : List Form) → Before forms → made_for ≡ q) → ((forms : List Form) → Before forms → A w forms)
    → ((forms more : List Form) → Before forms → B w (forms ++ more) → Claim (forms ++ more)) → Goes w old new Before Claim
goes_for q made_for owner w None None A B Before Claim frame goes same first then = tt
goes_for q made_for owner w (Some x) (Some y) A B Before Claim frame goes same first then = λ forms stands before.
    let here : IsFrameOf made_for owner w = subst (λ (p : Problem). IsFrameOf p owner w) (sym (same forms before)) frame in
    let m : After w x y forms (B w) = goes w here forms stands (first forms before) in
    record { rest = m.rest; front = m.front; more = m.more; stands = m.stands; claim = then forms m.more before m.claim }
goes_for q made_for owner w (Some x) None A B Before Claim frame goes same first then =
    goes (frame_of made_for [] (λ k. pairs_clause made_for []) [] owner) (frame_is made_for [] (λ k. pairs_clause made_for []) [] owner)
goes_for q made_for owner w None (Some y) A B Before Claim frame goes same first then =
    goes (frame_of made_for [] (λ k. pairs_clause made_for []) [] owner) (frame_is made_for [] (λ k. pairs_clause made_for []) [] owner)

-- A call that is asked for less and claims more, with what was so before.
pub goes_more : (w : Frame) (old new : Option (List Step)) (A B Before Claim : List Form → Type 0) → Goes w old new A B → ((forms : List Form) → Before forms → A forms)
    → ((forms more : List Form) → Before forms → B (forms ++ more) → Claim (forms ++ more)) → Goes w old new Before Claim
goes_more w None None A B Before Claim goes first then = tt
goes_more w (Some x) (Some y) A B Before Claim goes first then = λ forms stands before.
    let m : After w x y forms B = goes forms stands (first forms before) in
    record { rest = m.rest; front = m.front; more = m.more; stands = m.stands; claim = then forms m.more before m.claim }
goes_more w (Some x) None A B Before Claim goes first then = goes
goes_more w None (Some y) A B Before Claim goes first then = goes

-- ---- first domains

-- One that is remembered.
pub first_there : (q made_for : Problem) (w : Frame) (units firsts : List (ℕ × Name)) (lines : PairLines) (sets : List (CountedSet × Name)) (p : ℕ) (n : Name) (forms : List Form) → name_at firsts p ≡ Some n
    → IsMade q made_for w units firsts lines sets forms → GivesFirst q w p (Ok (Made n)) (IsMade q made_for w units firsts lines sets) forms
first_there q made_for w units firsts lines sets p n forms is h = let x = h.firsts_are p n is in (h, record { line = x.0; forces = x.2; named = x.1 })

-- One that is made, and then remembered.
pub first_made : (q made_for : Problem) (w : Frame) (units more_units firsts more_firsts : List (ℕ × Name)) (lines : PairLines) (sets : List (CountedSet × Name)) (p : ℕ) (n : Name) (forms more : List Form)
    → ((v : ℕ) → name_at more_firsts v ≡ cond (p == v) (Some n) (name_at firsts v)) → IsMade q made_for w units firsts lines sets forms
    → IsGiven w made_for p (Ok (Some n)) more_units (forms ++ more) → GivesFirst q w p (Ok (Made n)) (IsMade q made_for w more_units more_firsts lines sets) (forms ++ more)
first_made q made_for w units more_units firsts more_firsts lines sets p n forms more added h given =
    let old = made_last q made_for w units firsts lines sets forms more h in
    let forces : ForcesFirst q given.0.0 p = subst (λ (x : Problem). ForcesFirst x given.0.0 p) h.problem_is given.0.2 in (
      record {
        problem_is = h.problem_is;
        units_are = given.1;
        firsts_are = λ r m is. by old r m (p == r) refl (sym (added r) ∙ is);
        rows_are = old.rows_are;
        sets_are = old.sets_are;
      },
      record { line = given.0.0; forces = forces; named = given.0.1 },
    )
  where
    by : IsMade q made_for w units firsts lines sets (forms ++ more) → (r : ℕ) (m : Name) (b : Bool) → (p == r) ≡ b → cond b (Some n) (name_at firsts r) ≡ Some m
        → (f : Form) × IsNamed w (forms ++ more) (Made m) f × ForcesFirst q f r
    by old r m true same is =
        let at : p ≡ r = eqb-true p r same in
        let name : n ≡ m = cc in (
          given.0.0,
          subst (λ (x : Name). IsNamed w (forms ++ more) (Made x) given.0.0) name given.0.1,
          subst (λ (x : ℕ). ForcesFirst q given.0.0 x) at (subst (λ (x : Problem). ForcesFirst x given.0.0 p) h.problem_is given.0.2),
        )
    by old r m false same is = old.firsts_are r m is

-- Where nothing is missing any line serves.
pub first_whole : (q made_for : Problem) (owner : ℕ) (w : Frame) (units more_units firsts : List (ℕ × Name)) (lines : PairLines) (sets : List (CountedSet × Name)) (p k : ℕ) (forms more : List Form) → IsFrameOf q owner w → 1 ≤ k
    → slice_get (encoding q) (k - 1) ≡ Some (at_least q p) → IsMade q made_for w units firsts lines sets forms → IsGiven w made_for p (Ok None) more_units (forms ++ more)
    → GivesFirst q w p (Ok (Line k)) (IsMade q made_for w more_units firsts lines sets) (forms ++ more)
first_whole q made_for owner w units more_units firsts lines sets p k forms more frame positive at h given =
    let old = made_last q made_for w units firsts lines sets forms more h in
    let none : (u : ℕ) → u < size q.target → (IsFirstValue q p u → ⊥) → ⊥ = subst (λ (x : Problem). (u : ℕ) → u < size x.target → (IsFirstValue x p u → ⊥) → ⊥) h.problem_is given.0 in (
      record { problem_is = h.problem_is; units_are = given.1; firsts_are = old.firsts_are; rows_are = old.rows_are; sets_are = old.sets_are },
      record { line = at_least q p; forces = λ s u within refused. absurd (none u within refused); named = line_named q owner w (forms ++ more) k (at_least q p) frame positive at },
    )

-- ---- pairs of vertices

pub row_given : (by_edges : Bool) (q made_for : Problem) (w : Frame) (units firsts : List (ℕ × Name)) (lines more_lines : PairLines) (sets : List (CountedSet × Name)) (p t r : ℕ) (result : Result Ref AllocError) (forms more : List Form)
    → IsMade q made_for w units firsts lines sets forms → IsKnownRow by_edges w q p t r more_lines result (forms ++ more) → GivesRow by_edges q w p t r result (IsMade q made_for w units firsts more_lines sets) (forms ++ more)
row_given by_edges q made_for w units firsts lines more_lines sets p t r (Err e) forms more h known = tt
row_given by_edges q made_for w units firsts lines more_lines sets p t r (Ok ref) forms more h known =
    let old = made_last q made_for w units firsts lines sets forms more h in (
      record { problem_is = h.problem_is; units_are = old.units_are; firsts_are = old.firsts_are; rows_are = known.0; sets_are = old.sets_are },
      by by_edges known.1,
    )
  where
    by : (b : Bool) → IsRowNamed b w q p t r ref (forms ++ more) → IsRowLine b q w p t r ref (forms ++ more)
    by false named = record { line = named.0; forces = named.2; named = named.1 }
    by true named = record { line = named.0; forces = named.2; named = named.1 }

-- ---- sets

-- A set's name serves for the set in the order in which it came.
pub set_given : (q made_for : Problem) (w : Frame) (units firsts : List (ℕ × Name)) (lines : PairLines) (sets more_sets : List (CountedSet × Name)) (b : Option ℕ) (vertices sorted values : List ℕ) (result : Result Name AllocError)
    (forms more : List Form) → IsPermutation vertices sorted → IsMade q made_for w units firsts lines sets forms → IsKnownSet q w b sorted values more_sets result (forms ++ more)
    → GivesSet q w b vertices values result (IsMade q made_for w units firsts lines more_sets) (forms ++ more)
set_given q made_for w units firsts lines sets more_sets b vertices sorted values (Ok n) forms more same h known =
    let old = made_last q made_for w units firsts lines sets forms more h in (
      record { problem_is = h.problem_is; units_are = old.units_are; firsts_are = old.firsts_are; rows_are = old.rows_are; sets_are = known.0 },
      kept_same q w b vertices sorted values n (forms ++ more) same known.1,
    )
set_given q made_for w units firsts lines sets more_sets b vertices sorted values (Err e) forms more same h known = tt

-- Lines of one direction or of both, beside the names of two tables.
use Rattle.std.proofs.Common.{◌≡◌, ℕ, List, ◌++◌, ap, subst, sym, Option, Result, Ok, Err, inl, inr, ◌⊎◌}
use Rattle.std.specs.Prelude.{slice_get, Some}
use Rattle.std.specs.declared.alloc.AllocError.{AllocError}
use Rattle.graph_theory.specs.Embedding.{Problem}
use Rattle.graph_theory.specs.Asked.{asked_shared}
use Rattle.graph_theory.specs.Reversed.{reversed_problem, AreMutual}
use Rattle.proof_theory.specs.Forms.{Form}
use Rattle.log_theory.specs.declared.step.Name.{Name}
use Rattle.log_theory.specs.declared.step.Ref.TheVariants.{Made}
use Rattle.log_theory.specs.declared.step.Step.{Step}
use Rattle.encoding_theory.specs.Variables.{variables}
use Rattle.encoding_theory.proofs.ReversedForms.{reversed_forms}
use Rattle.explanation_theory.specs.Reasons.{ForcesBeside}
use Rattle.pair_line_theory.specs.Laws.{IsPlace, ForcesShared}
use Rattle.pair_line_theory.proofs.BothWays.{row_serves}
use Rattle.log_growth.specs.Frames.{Frame, IsFrameOf, Goes}
use Rattle.log_growth.proofs.Going.{goes_as, goes_beside, goes_then}
use Rattle.log_growth.proofs.Naming.{named_later}
use Rattle.pair_lines.specs.declared.turned_names.Spreads.{Spreads}
use Rattle.pair_lines.specs.Claims.{HasEncoding, AreSpreads, IsSharedLine, IsSharedRow, AreTurned, AreBothLines, IsRowLine, IsRow}
use Rattle.pair_lines.proofs.Spreading.{spreads_last}

-- A frame of a problem has its encoding, and that of the problem turned round, which is the same.
pub frame_of : (q : Problem) (owner : ℕ) (w : Frame) → IsFrameOf q owner w → HasEncoding q owner w
frame_of q owner w frame = record { variables_are = ap variables frame.problem_is; owner_is = frame.owner_is; model = frame.model }

pub frame_back : (q : Problem) (owner : ℕ) (w : Frame) → IsFrameOf q owner w → HasEncoding (reversed_problem q) owner w
frame_back q owner w frame = record {
  variables_are = ap variables frame.problem_is;
  owner_is = frame.owner_is;
  model = record { line = λ k f at. frame.model.line k f (subst (λ (fs : List Form). slice_get fs k ≡ Some f) (reversed_forms q).whole at) };
}

-- ---- what lasts

pub turned_last : (w : Frame) (q : Problem) (spreads : Spreads) (forms more : List Form) → AreTurned w q spreads forms → AreTurned w q spreads (forms ++ more)
turned_last w q spreads forms more h = (spreads_last w q spreads.out forms more h.0, spreads_last w (reversed_problem q) spreads.back forms more h.1)

shared_last : (w : Frame) (q : Problem) (p t r : ℕ) (result : Result Name AllocError) (forms more : List Form) → IsSharedLine w q p t r result forms → IsSharedLine w q p t r result (forms ++ more)
shared_last w q p t r (Ok n) forms more h = (h.0, named_later w forms more (Made n) h.0 h.1, h.2)
shared_last w q p t r (Err e) forms more h = tt

-- ---- one direction

pub serve_out : (q : Problem) (p t r : ℕ) → IsPlace q p t r → (line : Form) → AreMutual q ⊎ (asked_shared (reversed_problem q) p r ≡ 0) → ForcesShared q line p t r → ForcesBeside q line p t r
serve_out q p t r place line (inl ways) takes = (row_serves q).both_ways line p t r place ways takes
serve_out q p t r place line (inr none) takes = (row_serves q).out line p t r place none takes

out_row : (w : Frame) (q : Problem) (p t r : ℕ) → IsPlace q p t r → (result : Result Name AllocError) (forms : List Form) → AreMutual q ⊎ (asked_shared (reversed_problem q) p r ≡ 0) → IsSharedLine w q p t r result forms
    → IsRowLine w q p t r result forms
out_row w q p t r place (Ok n) forms ways h = (h.0, h.1, serve_out q p t r place h.0 ways h.2)
out_row w q p t r place (Err e) forms ways h = tt

back_row : (w : Frame) (q : Problem) (p t r : ℕ) → IsPlace q p t r → (result : Result Name AllocError) (forms : List Form) → asked_shared q p r ≡ 0 → IsSharedLine w (reversed_problem q) p t r result forms → IsRowLine w q p t r result forms
back_row w q p t r place (Ok n) forms none h = (h.0, h.1, (row_serves q).back h.0 p t r place none h.2)
back_row w q p t r place (Err e) forms none h = tt

-- A line along edges was made beside the names of lines against them, or the other way round.
beside_back : (w : Frame) (q : Problem) (p t r : ℕ) (a b : Option (List Step)) (old new back : List (ℕ × Name)) (result : Result Name AllocError) → Goes w a b (AreSpreads w q old) (IsSharedRow w q p t r new result)
    → Goes w a b (λ forms. AreSpreads w q old forms × AreSpreads w (reversed_problem q) back forms) (λ forms. IsSharedRow w q p t r new result forms × AreSpreads w (reversed_problem q) back forms)
beside_back w q p t r a b old new back result goes =
    goes_beside w a b (AreSpreads w q old) (IsSharedRow w q p t r new result) (AreSpreads w (reversed_problem q) back) (λ forms more h. spreads_last w (reversed_problem q) back forms more h) goes

pub row_out : (w : Frame) (q k : Problem) (p t r owner : ℕ) (a b : Option (List Step)) (old : Spreads) (new : List (ℕ × Name)) (result : Result Name AllocError) → k ≡ q → IsPlace q p t r → IsFrameOf q owner w
    → AreMutual q ⊎ (asked_shared (reversed_problem q) p r ≡ 0) → ((f : Frame) → HasEncoding k owner f → Goes f a b (AreSpreads f k old.out) (IsSharedRow f k p t r new result))
    → Goes w a b (AreTurned w q old) (IsRow w q p t r (record { out = new; back = old.back }) result)
row_out w q k p t r owner a b old new result same place frame ways goes =
    goes_as w a b (λ forms. AreSpreads w q old.out forms × AreSpreads w (reversed_problem q) old.back forms) (λ forms. IsSharedRow w q p t r new result forms × AreSpreads w (reversed_problem q) old.back forms)
    (AreTurned w q old) (IsRow w q p t r (record { out = new; back = old.back }) result) (λ forms h. h) (λ forms k. ((k.0.0, k.1), out_row w q p t r place result forms ways k.0.1))
    (beside_back w q p t r a b old.out new old.back result
    (subst (λ (x : Problem). (f : Frame) → HasEncoding x owner f → Goes f a b (AreSpreads f x old.out) (IsSharedRow f x p t r new result)) same goes w (frame_of q owner w frame)))

pub row_back : (w : Frame) (q k : Problem) (p t r owner : ℕ) (a b : Option (List Step)) (old : Spreads) (new : List (ℕ × Name)) (result : Result Name AllocError) → k ≡ reversed_problem q → IsPlace q p t r → IsFrameOf q owner w
    → asked_shared q p r ≡ 0 → ((f : Frame) → HasEncoding k owner f → Goes f a b (AreSpreads f k old.back) (IsSharedRow f k p t r new result))
    → Goes w a b (AreTurned w q old) (IsRow w q p t r (record { out = old.out; back = new }) result)
row_back w q k p t r owner a b old new result same place frame none goes =
    goes_as w a b (λ forms. AreSpreads w (reversed_problem q) old.back forms × AreSpreads w q old.out forms) (λ forms. IsSharedRow w (reversed_problem q) p t r new result forms × AreSpreads w q old.out forms)
    (AreTurned w q old) (IsRow w q p t r (record { out = old.out; back = new }) result) (λ forms h. (h.1, h.0)) (λ forms k. ((k.1, k.0.0), back_row w q p t r place result forms none k.0.1))
    (goes_beside w a b (AreSpreads w (reversed_problem q) old.back) (IsSharedRow w (reversed_problem q) p t r new result) (AreSpreads w q old.out) (λ forms more h. spreads_last w q old.out forms more h)
    (subst (λ (x : Problem). (f : Frame) → HasEncoding x owner f → Goes f a b (AreSpreads f x old.back) (IsSharedRow f x p t r new result)) same goes w (frame_back q owner w frame)))

-- ---- both directions

-- The first line was not made.
pub first_stops : (w : Frame) (q k : Problem) (p t r owner : ℕ) (a b : Option (List Step)) (old : Spreads) (new : List (ℕ × Name)) (result : Result Name AllocError) (e : AllocError) → k ≡ q → IsFrameOf q owner w
    → ((f : Frame) → HasEncoding k owner f → Goes f a b (AreSpreads f k old.out) (IsSharedRow f k p t r new result))
    → Goes w a b (AreTurned w q old) (IsRow w q p t r (record { out = new; back = old.back }) (Err e))
first_stops w q k p t r owner a b old new result e same frame goes =
    goes_as w a b (λ forms. AreSpreads w q old.out forms × AreSpreads w (reversed_problem q) old.back forms) (λ forms. IsSharedRow w q p t r new result forms × AreSpreads w (reversed_problem q) old.back forms)
    (AreTurned w q old) (IsRow w q p t r (record { out = new; back = old.back }) (Err e)) (λ forms h. h) (λ forms k. ((k.0.0, k.1), tt))
    (beside_back w q p t r a b old.out new old.back result
    (subst (λ (x : Problem). (f : Frame) → HasEncoding x owner f → Goes f a b (AreSpreads f x old.out) (IsSharedRow f x p t r new result)) same goes w (frame_of q owner w frame)))

-- Both were made, or the first alone.
pub lines_pair : (w : Frame) (q k l : Problem) (p t r owner middle : ℕ) (a b c : Option (List Step)) (old : Spreads) (out back : List (ℕ × Name)) (first : Name) (result : Result Name AllocError) → k ≡ q → l ≡ reversed_problem q → middle ≡ owner
    → IsFrameOf q owner w → ((f : Frame) → HasEncoding k owner f → Goes f a b (AreSpreads f k old.out) (IsSharedRow f k p t r out (Ok first)))
    → ((f : Frame) → HasEncoding l middle f → Goes f b c (AreSpreads f l old.back) (IsSharedRow f l p t r back result))
    → Goes w a c (AreTurned w q old) (λ forms. IsSharedRow w (reversed_problem q) p t r back result forms × IsSharedRow w q p t r out (Ok first) forms)
lines_pair w q k l p t r owner middle a b c old out back first result same turns stays frame one two =
    goes_then w a b c (AreTurned w q old) (λ forms. IsSharedRow w q p t r out (Ok first) forms × AreSpreads w (reversed_problem q) old.back forms)
    (λ forms. IsSharedRow w (reversed_problem q) p t r back result forms × IsSharedRow w q p t r out (Ok first) forms)
    (beside_back w q p t r a b old.out out old.back (Ok first)
    (subst (λ (x : Problem). (f : Frame) → HasEncoding x owner f → Goes f a b (AreSpreads f x old.out) (IsSharedRow f x p t r out (Ok first))) same one w (frame_of q owner w frame)))
    (goes_as w b c (λ forms. AreSpreads w (reversed_problem q) old.back forms × IsSharedRow w q p t r out (Ok first) forms)
    (λ forms. IsSharedRow w (reversed_problem q) p t r back result forms × IsSharedRow w q p t r out (Ok first) forms)
    (λ forms. IsSharedRow w q p t r out (Ok first) forms × AreSpreads w (reversed_problem q) old.back forms)
    (λ forms. IsSharedRow w (reversed_problem q) p t r back result forms × IsSharedRow w q p t r out (Ok first) forms) (λ forms h. (h.1, h.0)) (λ forms h. h)
    (goes_beside w b c (AreSpreads w (reversed_problem q) old.back) (IsSharedRow w (reversed_problem q) p t r back result) (IsSharedRow w q p t r out (Ok first))
    (λ forms more h. (spreads_last w q out forms more h.0, shared_last w q p t r (Ok first) forms more h.1))
    (subst (λ (x : Problem). (f : Frame) → HasEncoding x middle f → Goes f b c (AreSpreads f x old.back) (IsSharedRow f x p t r back result)) turns two w
    (subst (λ (o : ℕ). HasEncoding (reversed_problem q) o w) (sym stays) (frame_back q owner w frame)))))

-- The second was not made.
pub second_stops : (w : Frame) (q : Problem) (p t r : ℕ) (a c : Option (List Step)) (old : Spreads) (out back : List (ℕ × Name)) (first : Name) (result : Result Name AllocError) (e : AllocError)
    → Goes w a c (AreTurned w q old) (λ forms. IsSharedRow w (reversed_problem q) p t r back result forms × IsSharedRow w q p t r out (Ok first) forms)
    → Goes w a c (AreTurned w q old) (IsRow w q p t r (record { out = out; back = back }) (Err e))
second_stops w q p t r a c old out back first result e goes =
    goes_as w a c (AreTurned w q old) (λ forms. IsSharedRow w (reversed_problem q) p t r back result forms × IsSharedRow w q p t r out (Ok first) forms) (AreTurned w q old) (IsRow w q p t r (record { out = out; back = back }) (Err e))
    (λ forms h. h) (λ forms k. ((k.1.0, k.0.0), tt)) goes

-- And the line that follows from both.
pub both_join : (w : Frame) (q : Problem) (p t r owner middle : ℕ) (a c d : Option (List Step)) (old : Spreads) (out back : List (ℕ × Name)) (first second : Name) (result : Result Name AllocError) → middle ≡ owner → IsFrameOf q owner w
    → Goes w a c (AreTurned w q old) (λ forms. IsSharedRow w (reversed_problem q) p t r back (Ok second) forms × IsSharedRow w q p t r out (Ok first) forms)
    → ((f : Frame) → IsFrameOf q middle f → Goes f c d (AreBothLines f q p t r first second) (IsRowLine f q p t r result))
    → Goes w a d (AreTurned w q old) (IsRow w q p t r (record { out = out; back = back }) result)
both_join w q p t r owner middle a c d old out back first second result stays frame lines last =
    goes_then w a c d (AreTurned w q old) (λ forms. IsSharedRow w (reversed_problem q) p t r back (Ok second) forms × IsSharedRow w q p t r out (Ok first) forms) (IsRow w q p t r (record { out = out; back = back }) result) lines
    (goes_as w c d (λ forms. AreBothLines w q p t r first second forms × AreTurned w q (record { out = out; back = back }) forms) (λ forms. IsRowLine w q p t r result forms × AreTurned w q (record { out = out; back = back }) forms)
    (λ forms. IsSharedRow w (reversed_problem q) p t r back (Ok second) forms × IsSharedRow w q p t r out (Ok first) forms) (IsRow w q p t r (record { out = out; back = back }) result)
    (λ forms h. ((h.1.1, h.0.1), (h.1.0, h.0.0))) (λ forms k. (k.1, k.0))
    (goes_beside w c d (AreBothLines w q p t r first second) (IsRowLine w q p t r result) (AreTurned w q (record { out = out; back = back })) (λ forms more h. turned_last w q (record { out = out; back = back }) forms more h)
    (last w (subst (λ (o : ℕ). IsFrameOf q o w) (sym stays) frame))))

-- The clause of both directions, and the line that is made of it, may be kept.
use Rattle.std.proofs.Common.{◌≡◌, ℕ, zero, suc, ◌≤◌, ◌<◌, nat_lt, nat_le, Bool, true, false, ◌&&◌, List, [], ◌∷◌, ◌++◌, refl, sym, ap, subst, ◌∙◌, arith, Option, Result, Ok, Err}
use Rattle.std.specs.declared.alloc.AllocError.{AllocError}
use Rattle.std.proofs.lemmas.Bool.{lt-ltb, le-leb}
use Rattle.graph_theory.specs.Graph.{size}
use Rattle.graph_theory.specs.Embedding.{Problem, is_injective}
use Rattle.proof_theory.specs.declared.literal.Literal.{Literal}
use Rattle.proof_theory.specs.Forms.{Form}
use Rattle.log_theory.specs.declared.step.Name.{Name}
use Rattle.log_theory.specs.declared.step.Ref.{Ref}
use Rattle.log_theory.specs.declared.step.Ref.TheVariants.{Made}
use Rattle.log_theory.specs.declared.step.Op.{Op}
use Rattle.log_theory.specs.declared.step.Step.{Step}
use Rattle.log_theory.specs.declared.step.Step.TheVariants.{P, U}
use Rattle.log_theory.specs.Lookups.{variables_of}
use Rattle.log_theory.specs.LogText.{IsName, AreOps, AreLiterals, AreRefs}
use Rattle.log_theory.specs.Verdicts.{in_range}
use Rattle.encoding_theory.specs.Variables.{variable, variables, collect, when}
use Rattle.pair_line_theory.specs.Rows.{at_least_line, there, is_consistent, consistent_places, consistent_clause, consistent_form, beside_ops}
use Rattle.pair_line_theory.specs.Laws.{IsPlace}
use Rattle.pair_lines.specs.Choices.{IsWithin}
use Rattle.pair_line_theory.proofs.Making.{row_laws}
use Rattle.pair_line_theory.proofs.BothWays.{row_serves}
use Rattle.journals.specs.Keeping.{IsLine, Keeps}
use Rattle.log_growth.specs.Frames.{Frame, IsFrameOf, IsNamed, MayFollow, IsKept, Goes}
use Rattle.log_growth.proofs.Going.{goes_as, goes_kept}
use Rattle.pair_lines.specs.Claims.{AreBothLines, IsRowLine}
use Rattle.pair_lines.proofs.Good.{AreGood, three, good_ref, good_ops, good_there, good_most, good_least}
use Rattle.pair_lines.proofs.Spreading.{finds_encoding, good_follows}
use Rattle.pair_lines.proofs.Turning.{frame_of}

-- ---- literals in their ranges

literals_append : (xs ys : List Literal) → AreLiterals xs → AreLiterals ys → AreLiterals (xs ++ ys)
literals_append [] ys g h = h
literals_append (x ∷ xs) ys g h = (g.0, literals_append xs ys g.1 h)

range_append : (n : ℕ) (xs ys : List Literal) → in_range n (variables_of xs) ≡ true → in_range n (variables_of ys) ≡ true → in_range n (variables_of (xs ++ ys)) ≡ true
range_append n [] ys g h = h
range_append n (x ∷ xs) ys g h = by (nat_lt 0 x.variable) (nat_le x.variable n) g (λ later. range_append n xs ys later h)
  where
    by : (a b : Bool) → (a && b && in_range n (variables_of xs)) ≡ true → (in_range n (variables_of xs) ≡ true → in_range n (variables_of (xs ++ ys)) ≡ true) → (a && b && in_range n (variables_of (xs ++ ys))) ≡ true
    by true true e rest = rest e
    by true false e rest = absurd cc
    by false b e rest = absurd cc

module _ (q : Problem) (limits : IsWithin q) where
  places_good : (test : ℕ → Bool) (r n : ℕ) → r < size q.pattern → n ≤ size q.target
      → AreLiterals (collect (λ u. when (test u) (there q u r ∷ [])) n) × (in_range (variables q) (variables_of (collect (λ u. when (test u) (there q u r ∷ [])) n)) ≡ true)
  places_good test r zero r_in fits = (tt, refl)
  places_good test r (suc n) r_in fits =
      let before = places_good test r n r_in (omega (arith, fits)) in
      let last = one (test n) in (
        literals_append (collect (λ u. when (test u) (there q u r ∷ [])) n) (when (test n) (there q n r ∷ [])) before.0 last.0,
        range_append (variables q) (collect (λ u. when (test u) (there q u r ∷ [])) n) (when (test n) (there q n r ∷ [])) before.1 last.1,
      )
    where
      one : (b : Bool) → AreLiterals (when b (there q n r ∷ [])) × (in_range (variables q) (variables_of (when b (there q n r ∷ []))) ≡ true)
      one false = (tt, refl)
      one true =
          let g = good_there q limits n r (omega (arith, fits)) r_in in
          ((g.2, tt), three (nat_lt 0 (variable q r n)) (nat_le (variable q r n) (variables q)) true (lt-ltb 0 (variable q r n) g.0) (le-leb (variable q r n) (variables q) g.1) refl)

  module _ (p t r : ℕ) (place : IsPlace q p t r) where
    literals_good : AreLiterals (consistent_places q p t r) × (in_range (variables q) (variables_of (consistent_places q p t r)) ≡ true)
    literals_good =
        let rest = places_good (is_consistent q p t r) r (size q.target) place.second (omega arith) in
        let g = good_there q limits t p place.place place.first in (
          (g.2, rest.0),
          three (nat_lt 0 (variable q p t)) (nat_le (variable q p t) (variables q)) (in_range (variables q) (variables_of (collect (λ u. when (is_consistent q p t r u) (there q u r ∷ [])) (size q.target)))) (lt-ltb 0 (variable q p t) g.0) (le-leb (variable q p t) (variables q) g.1) rest.1,
        )

    -- ---- the clause

    pub clause_line : (out back name : Name) (lits : List Literal) (refs : List Ref) → IsName out → IsName back → lits ≡ consistent_places q p t r → refs ≡ Made out ∷ Made back ∷ at_least_line q r ∷ [] → IsLine (U name lits refs)
    clause_line out back name lits refs fits fits_too are is = (
      subst (λ (ls : List Literal). AreLiterals ls) (sym are) literals_good.0,
      subst (λ (rs : List Ref). AreRefs rs) (sym is) (fits, (fits_too, (good_ref (at_least_line q r) (good_least q limits r place.second), tt))),
    )

    clause_follows : (owner : ℕ) (w : Frame) (forms : List Form) (out back name : Name) (lits : List Literal) (refs : List Ref) → IsFrameOf q owner w → lits ≡ consistent_places q p t r → refs ≡ Made out ∷ Made back ∷ at_least_line q r ∷ []
        → AreBothLines w q p t r out back forms → MayFollow w forms (U name lits refs) (consistent_clause q p t r)
    clause_follows owner w forms out back name lits refs frame are is lines =
        subst (λ (ls : List Literal). MayFollow w forms (U name ls refs) (consistent_clause q p t r)) (sym are)
        (subst (λ (rs : List Ref). MayFollow w forms (U name (consistent_places q p t r) rs) (consistent_clause q p t r)) (sym is) (record {
          made = λ look finds own.
              ((row_laws q limits.limits).makes look (finds_encoding q owner w look (frame_of q owner w frame) finds)).clause name (Made out) (Made back) lines.0.0 lines.1.0 p t r place
              (lines.0.1.found look finds own) lines.0.2 (lines.1.1.found look finds own) lines.1.2;
          rows = λ k names. absurd names;
          ranges = ap (λ (x : Problem). in_range (variables x) (variables_of (consistent_places q p t r))) frame.problem_is ∙ literals_good.1;
          small = (row_laws q limits.limits).sizes.clause p t r;
        }))

    pub clause_goes : (owner : ℕ) (w : Frame) (out back name : Name) (lits : List Literal) (refs : List Ref) (result : Result Name AllocError) (old new : Option (List Step)) → IsFrameOf q owner w → IsName out → IsName back
        → lits ≡ consistent_places q p t r → refs ≡ Made out ∷ Made back ∷ at_least_line q r ∷ [] → Keeps result owner old new (U name lits refs)
        → Goes w old new (AreBothLines w q p t r out back) (IsKept w result (consistent_clause q p t r))
    clause_goes owner w out back name lits refs result old new frame fits fits_too are is keeps =
        goes_kept w result owner old new (U name lits refs) (consistent_clause q p t r) (AreBothLines w q p t r out back) frame.owner_is keeps (clause_line out back name lits refs fits fits_too are is)
        (λ forms lines. clause_follows owner w forms out back name lits refs frame are is lines)

    -- ---- the line that is made of it

    ops_good : (clause : Name) → IsName clause → AreGood (variables q) (beside_ops q (Made clause) r)
    ops_good clause fits = (fits, (good_most q limits r place.second, (tt, tt)))

    pub both_ops : (clause : Name) (ops : List Op) → IsName clause → ops ≡ beside_ops q (Made clause) r → AreOps ops
    both_ops clause ops fits is = subst AreOps (sym is) (good_ops (variables q) (beside_ops q (Made clause) r) (ops_good clause fits))

    both_follows : (owner : ℕ) (w : Frame) (forms : List Form) (clause name : Name) (ops : List Op) → IsFrameOf q owner w → IsName clause → ops ≡ beside_ops q (Made clause) r → IsNamed w forms (Made clause) (consistent_clause q p t r)
        → MayFollow w forms (P name ops) (consistent_form q p t r)
    both_follows owner w forms clause name ops frame fits is named =
        subst (λ (os : List Op). MayFollow w forms (P name os) (consistent_form q p t r)) (sym is)
        (good_follows q owner w forms name (beside_ops q (Made clause) r) (consistent_form q p t r) (frame_of q owner w frame) (ops_good clause fits) ((row_laws q limits.limits).sizes.both p t r)
        (λ look finds own. ((row_laws q limits.limits).makes look (finds_encoding q owner w look (frame_of q owner w frame) finds)).both name (Made clause) p t r place (named.found look finds own)))

    both_kept : (w : Frame) (result : Result Name AllocError) (forms : List Form) → is_injective q.maps ≡ true → IsKept w result (consistent_form q p t r) forms → IsRowLine w q p t r result forms
    both_kept w (Ok n) forms apart kept = (consistent_form q p t r, kept, (row_serves q).both p t r place apart)
    both_kept w (Err e) forms apart kept = tt

    pub both_goes : (owner : ℕ) (w : Frame) (clause name : Name) (ops : List Op) (result : Result Name AllocError) (old new : Option (List Step)) → is_injective q.maps ≡ true → IsFrameOf q owner w → IsName clause → ops ≡ beside_ops q (Made clause) r
        → Keeps result owner old new (P name ops) → Goes w old new (λ forms. IsNamed w forms (Made clause) (consistent_clause q p t r)) (IsRowLine w q p t r result)
    both_goes owner w clause name ops result old new apart frame fits is keeps =
        goes_as w old new (λ forms. IsNamed w forms (Made clause) (consistent_clause q p t r)) (IsKept w result (consistent_form q p t r)) (λ forms. IsNamed w forms (Made clause) (consistent_clause q p t r)) (IsRowLine w q p t r result)
        (λ forms h. h) (λ forms k. both_kept w result forms apart k)
        (goes_kept w result owner old new (P name ops) (consistent_form q p t r) (λ forms. IsNamed w forms (Made clause) (consistent_clause q p t r)) frame.owner_is keeps (both_ops clause ops fits is)
        (λ forms named. both_follows owner w forms clause name ops frame fits is named))

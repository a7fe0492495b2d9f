-- Frames beside the rows of a book: what stands there is a journal beside these rows, and stays so as rows come.
use Rattle.std.proofs.Common.{◌≡◌, ℕ, suc, ◌+◌, ◌^◌, ◌<◌, ◌≤◌, ◌==◌, Bool, true, false, cond, not, ◌&&◌, List, [], ◌∷◌, ◌++◌, length, Option, Some, None, refl, sym, ap, subst, ◌∙◌, length-append, arith}
use Rattle.std.specs.Prelude.{slice_get}
use Rattle.std.proofs.lemmas.Bool.{eq-eqb, ne_eqb, lt-ltb}
use Rattle.std.proofs.lemmas.Option.{slice_get_within}
use Rattle.graph_theory.specs.Embedding.{Problem}
use Rattle.proof_theory.specs.Forms.{Form}
use Rattle.log_theory.specs.declared.step.Ref.{Ref}
use Rattle.log_theory.specs.declared.step.Ref.TheVariants.{Shared}
use Rattle.log_theory.specs.declared.step.Step.{Step}
use Rattle.log_theory.specs.Verdicts.{in_range, step_variables}
use Rattle.log_theory.specs.declared.step.Step.TheVariants.{P, U}
use Rattle.encoding_theory.specs.Variables.{variables}
use Rattle.encoding_theory.specs.Encoding.{encoding}
use Rattle.journal_theory.specs.Stepping.{IsWritten}
use Rattle.journal_theory.specs.Journals.{named, HoldsOwn, IsJournal, base_of, Row, IsNogoodOf, Journal, Journaled}
use Rattle.journal_theory.proofs.Placing.{get_more, get_front, some_same, from_one_more, from_one_within}
use Rattle.journal_theory.proofs.Growing.{wider_base, base_more, finds_on}
use Rattle.forcing_theory.specs.Sums.{AreSmall}
use Rattle.journals.specs.Keeping.{IsLine}
use Rattle.journals.proofs.Texts.{named_step}
use Rattle.log_growth.specs.Frames.{Frame, HoldsModel, IsFrameOf, Stands, IsNamed, AreNamed}
use Rattle.log_growth.specs.Rows.{is_nogood_of_other, is_of_other, frame_of, Widens}

-- ---- the frame of an owner beside rows

pub model_held : (q : Problem) (root : List Form) (clause : ℕ → Form) (seen : ℕ) → HoldsModel q (base_of (encoding q) root clause seen)
model_held q root clause seen = record { line = λ k f at. let e : k + 1 ≡ suc k = omega arith in rw e at }

pub frame_is : (q : Problem) (rows : List Row) (clause : ℕ → Form) (root : List Form) (owner : ℕ) → IsFrameOf q owner (frame_of q rows clause root owner)
frame_is q rows clause root owner = record { problem_is = refl; owner_is = refl; model = model_held q root clause (length rows) }

other_of : (owner : ℕ) (o : Option Row) → is_nogood_of_other owner o ≡ true → (r : Row) × (o ≡ Some r) × (r.is_nogood ≡ true) × (r.owner ≡ owner → ⊥)
other_of owner None h = absurd cc
other_of owner (Some r) h = (r, refl, left r.is_nogood (not (r.owner == owner)) h, λ same. apart (r.owner == owner) (right r.is_nogood (not (r.owner == owner)) h) (eq_test r.owner owner same))
  where
    left : (a b : Bool) → (a && b) ≡ true → a ≡ true
    left true b e = refl
    left false b e = e

    right : (a b : Bool) → (a && b) ≡ true → b ≡ true
    right true b e = e
    right false b e = absurd cc

    apart : (b : Bool) → not b ≡ true → b ≡ true → ⊥
    apart true e f = cc
    apart false e f = cc

    eq_test : (a b : ℕ) → a ≡ b → (a == b) ≡ true
    eq_test a b e = eq-eqb a b e

-- A row of the test is a nogood of another owner, and so back.
pub others_of : (rows : List Row) (owner k : ℕ) → is_of_other rows owner k ≡ true → (o : ℕ) × IsNogoodOf rows k o × (o ≡ owner → ⊥)
others_of rows owner k h = let r = other_of owner (slice_get rows k) h in (r.0.owner, (r.0, r.1, r.2, refl), r.3)

pub is_other : (rows : List Row) (owner k o : ℕ) → IsNogoodOf rows k o → (o ≡ owner → ⊥) → is_of_other rows owner k ≡ true
is_other rows owner k o n apart =
    ap (is_nogood_of_other owner) n.1 ∙ ap (λ (b : Bool). b && not (n.0.owner == owner)) n.2 ∙ ap not (ne_eqb n.0.owner owner (λ (same : n.0.owner ≡ owner). apart (sym n.3 ∙ same)))

-- What is a journal beside the rows stands in the frame, where its numbers are in their ranges.
pub stands_of : (q : Problem) (rows : List Row) (clause : ℕ → Form) (root : List Form) (owner : ℕ) (j : Journal) (forms : List Form) → Journaled (encoding q) rows clause root owner j forms
    → ((i : ℕ) (s : Step) → slice_get j.lines i ≡ Some s → IsLine s × (in_range (variables q) (step_variables s) ≡ true)) → AreSmall (2 ^ 40) forms
    → Stands (frame_of q rows clause root owner) j.lines forms
stands_of q rows clause root owner j forms journaled fits small = record {
  journal = journaled.journal;
  rows = λ i k s at names. let o = journaled.foreign i k s at names in is_other rows owner k o.0 o.1 o.2;
  fits = λ i s at. (fits i s at).0;
  ranges = λ i s at. (fits i s at).1;
  small = small;
}

-- With further lines that stand, what is a journal beside the rows is one still.
pub journaled_on : (q : Problem) (rows : List Row) (clause : ℕ → Form) (root : List Form) (owner : ℕ) (j : Journal) (forms more : List Form) (rest new : List Step)
    → Journaled (encoding q) rows clause root owner j forms → Stands (frame_of q rows clause root owner) new (forms ++ more) → new ≡ j.lines ++ rest
    → Journaled (encoding q) rows clause root owner (record { lines = new; notes = j.notes }) (forms ++ more)
journaled_on q rows clause root owner j forms more rest new before stands front = record {
  journal = stands.journal;
  foreign = λ i k s at names. others_of rows owner k (stands.rows i k s at names);
  noted = λ k own. let n = before.noted k own in (n.0, n.1, from_one_more forms more n.0 (clause k) n.2);
  early = λ k n i m s own is below at names.
      let noted = before.noted k own in
      let same : n ≡ noted.0 = some_same n noted.0 (sym is ∙ noted.1) in
      let within = from_one_within forms noted.0 (clause k) noted.2 in
      let place : i < length j.lines = omega (arith, same, within, below, before.journal.same) in
      before.early k n i m s own is below (sym (get_front j.lines rest i place) ∙ ap (λ (ss : List Step). slice_get ss i) (sym front) ∙ at) names;
}

-- Each line can be written under its owner's name.
pub stands_fit : (w : Frame) (lines : List Step) (forms : List Form) (i : ℕ) (s : Step) → Stands w lines forms → w.owner ≤ 64 → length lines < 2 ^ 63 → slice_get lines i ≡ Some s
    → IsWritten (variables w.problem) (named w.owner i s)
stands_fit w lines forms i s stands few short at =
    let within = slice_get_within lines i s at in
    record {
      is_step = named_step w.owner i s (stands.fits i s at) (record { owner_fits = few; from_one = omega arith; number_fits = omega (arith, within, short) });
      variables = ap (in_range (variables w.problem)) (variables_named s (stands.fits i s at)) ∙ stands.ranges i s at;
    }
  where
    variables_named : (s : Step) → IsLine s → step_variables (named w.owner i s) ≡ step_variables s
    variables_named (P name ops) line = refl
    variables_named (U name lits refs) line = refl
    variables_named s line = absurd line

-- ---- wider frames

pub stands_wider : (w v : Frame) (lines : List Step) (forms : List Form) → Widens w v → Stands w lines forms → Stands v lines forms
stands_wider w v lines forms wider stands = record {
  journal = subst (λ (o : ℕ). IsJournal v.base o lines forms) (sym wider.owner_same) (wider_base w.base v.base w.owner lines forms wider.finds stands.journal);
  rows = λ i k s at names. wider.foreign k (stands.rows i k s at names);
  fits = stands.fits;
  ranges = λ i s at. ap (λ (q : Problem). in_range (variables q) (step_variables s)) wider.problem_same ∙ stands.ranges i s at;
  small = stands.small;
}

pub named_wider : (w v : Frame) (forms : List Form) (r : Ref) (f : Form) → Widens w v → IsNamed w forms r f → IsNamed v forms r f
named_wider w v forms r f wider n = record {
  found = λ look finds own. n.found look (finds_on w.base v.base look wider.finds finds) (subst (λ (o : ℕ). HoldsOwn o forms look) wider.owner_same own);
  foreign = λ k is. wider.foreign k (n.foreign k is);
}

pub are_named_wider : (w v : Frame) (forms : List Form) (rs : List Ref) (fs : List Form) → Widens w v → AreNamed w forms rs fs → AreNamed v forms rs fs
are_named_wider w v forms [] [] wider n = tt
are_named_wider w v forms (r ∷ rs) (f ∷ fs) wider n = (named_wider w v forms r f wider n.0, are_named_wider w v forms rs fs wider n.1)
are_named_wider w v forms [] (f ∷ fs) wider n = absurd n
are_named_wider w v forms (r ∷ rs) [] wider n = absurd n

-- Rows that come widen the frame.
pub rows_widen : (q : Problem) (rows rest : List Row) (clause : ℕ → Form) (root : List Form) (owner : ℕ) → Widens (frame_of q rows clause root owner) (frame_of q (rows ++ rest) clause root owner)
rows_widen q rows rest clause root owner = record {
  problem_same = refl;
  owner_same = refl;
  finds = base_more (encoding q) root clause clause (length rows) (length (rows ++ rest)) (omega (arith, length-append rows rest)) (λ k l. refl);
  foreign = λ k other. let o = others_of rows owner k other in is_other (rows ++ rest) owner k o.0 (o.1.0, get_more rows rest k o.1.0 o.1.1, o.1.2, o.1.3) o.2;
}

-- A row of another's that is there is named, and so is its clause.
pub row_named : (q : Problem) (rows : List Row) (clause : ℕ → Form) (root : List Form) (owner : ℕ) (forms : List Form) (k o : ℕ) → IsNogoodOf rows k o → (o ≡ owner → ⊥) → IsNamed (frame_of q rows clause root owner) forms (Shared k) (clause k)
row_named q rows clause root owner forms k o n apart = record {
  found = λ look finds own. finds.alike (Shared k) (clause k) (ap (λ (b : Bool). let x : Option Form = cond b (Some (clause k)) None in x) (lt-ltb k (length rows) (slice_get_within rows k n.0 n.1)));
  foreign = λ i is. let same : k ≡ i = cc in subst (λ (m : ℕ). is_of_other rows owner m ≡ true) same (is_other rows owner k o n apart);
}

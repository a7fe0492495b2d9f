-- Lines that make their forms step with their deletions too.
use Rattle.std.proofs.Common.{◌⊎◌, inl, inr, ◌≡◌, ◌≢◌, ℕ, zero, suc, ◌+◌, ◌<◌, ◌≤◌, ◌==◌, Bool, true, false, cond, not, ◌&&◌, ◌||◌, List, [], ◌∷◌, ◌++◌, length, set, Option, Some, None, Ok, refl, sym, ap, ◌∙◌, subst, length-append, arith}
use Rattle.std.specs.Prelude.{slice_get}
use Rattle.std.proofs.lemmas.Bool.{cases_Bool, eq-eqb, eqb-true, and_parts, or_left, or_right, or_cases, not-true, both_ways}
use Rattle.std.proofs.lemmas.List.{get_or-set_same, length-set}
use Rattle.log_theory.specs.declared.step.Name.{Name}
use Rattle.log_theory.specs.declared.step.Ref.{Ref}
use Rattle.log_theory.specs.declared.step.Ref.TheVariants.{Line, Made, Shared}
use Rattle.log_theory.specs.declared.step.Op.{Op}
use Rattle.log_theory.specs.declared.step.Op.TheVariants.{Push, Axiom, Add, Times, Divide, Saturate}
use Rattle.log_theory.specs.declared.step.Step.{Step}
use Rattle.log_theory.specs.declared.step.Step.TheVariants.{P, U, D}
use Rattle.log_theory.specs.declared.step.Cause.TheVariants.{NoSuchName}
use Rattle.proof_theory.specs.Forms.{Form}
use Rattle.log_theory.specs.Steps.{◌>>=◌, or_fault}
use Rattle.log_theory.specs.Lookups.{makes}
use Rattle.log_theory.specs.Tables.{Table, empty_table, made_by, from_one, standing, find, with_made, without_number, without, step_of}
use Rattle.journal_theory.specs.Referring.{op_refs, step_refs}
use Rattle.journal_theory.specs.Stepping.{StepsRun}
use Rattle.journal_theory.specs.Journals.{own_name}
use Rattle.journal_theory.proofs.Placing.{get_more, get_snoc, get_some}
use Rattle.journal_theory.proofs.Merging.{line_steps, steps_on}
use Rattle.trim_theory.specs.Renaming.{RefsRenamed, OpsRenamed, LineRenamed, Follows}
use Rattle.trim_theory.specs.Running.{own_look, Bears, MakesFrom, later_refs, is_own, is_named, deletions, with_deletions, SimulationLaw}
use Rattle.trim_theory.proofs.Renaming.{makes_renamed}

-- ---- places

module _ {A : Type 0} where
  -- the item behind all others
  pub get_last : (xs : List A) (x : A) → slice_get (xs ++ x ∷ []) (length xs) ≡ Some x
  get_last [] x = refl
  get_last (y ∷ xs) x = get_last xs x

  -- a write changes its own place alone
  pub get_set_other : (xs : List A) (k i : ℕ) (x : A) → i ≢ k → slice_get (set xs k x) i ≡ slice_get xs i
  get_set_other [] k i x ne = refl
  get_set_other (y ∷ xs) zero zero x ne = absurd (ne refl)
  get_set_other (y ∷ xs) zero (suc i) x ne = refl
  get_set_other (y ∷ xs) (suc k) zero x ne = refl
  get_set_other (y ∷ xs) (suc k) (suc i) x ne = get_set_other xs k i x (λ e. ne (ap suc e))

-- The number of owner 0's name of a place is the place and one.
pub at_own : {A : Type 0} (xs : List A) (i : ℕ) → from_one xs (i + 1) ≡ slice_get xs i
at_own {A} xs i = let e : i + 1 ≡ suc i = omega arith in ap (from_one {A = A} xs) e

-- A form that stands in a place.
pub stands : {A : Type 0} (o : Option (Option A)) (x : A) → standing o ≡ Some x → o ≡ Some (Some x)
stands {A} None x e = absurd cc
stands {A} (Some o) x e = ap (λ (p : Option A). let q : Option (Option A) = Some p in q) e

-- ---- what is named

-- What is named first is named in the whole.
named_front : (i : ℕ) (rs more : List Ref) → is_named i rs ≡ true → is_named i (rs ++ more) ≡ true
named_front i [] more e = absurd cc
named_front i (r ∷ rs) more e = by (or_cases (is_own i r) (is_named i rs) e) (named_front i rs more)
  where
    by : (is_own i r ≡ true) ⊎ (is_named i rs ≡ true) → (is_named i rs ≡ true → is_named i (rs ++ more) ≡ true) → (is_own i r || is_named i (rs ++ more)) ≡ true
    by (inl h) ih = or_left (is_own i r) (is_named i (rs ++ more)) h
    by (inr h) ih = or_right (is_own i r) (is_named i (rs ++ more)) (ih h)

named_behind : (i : ℕ) (rs more : List Ref) → is_named i more ≡ true → is_named i (rs ++ more) ≡ true
named_behind i [] more e = e
named_behind i (r ∷ rs) more e = or_right (is_own i r) (is_named i (rs ++ more)) (named_behind i rs more e)

-- The places named among references hold what they held.
pub record Left (before : List Form) (rs : List Ref) (v : List (Option Form)) : Type 0 where
  pub same : length v ≡ length before
  pub left : (i : ℕ) (f : Form) → is_named i rs ≡ true → slice_get before i ≡ Some f
      → slice_get v i ≡ Some (Some f)

-- A reference that is named finds in the table what it finds among all forms.
own_follows : (model before : List Form) (t : Table) (r : Ref) → ((i : ℕ) (f : Form) → is_own i r ≡ true → slice_get before i ≡ Some f → slice_get (made_by t 0) i ≡ Some (Some f))
    → Follows (own_look model before) (find model t) r r
own_follows model before t (Line k) h f e = e
own_follows model before t (Shared row) h f e = absurd cc
own_follows model before t (Made name) h f e = by-owner (name.owner == 0) refl e
  where
    by-number : (number : ℕ) → name.number ≡ number → name.owner ≡ 0 → from_one before number ≡ Some f → standing (from_one (made_by t name.owner) number) ≡ Some f
    by-number zero n o g = absurd cc
    by-number (suc i) n o g =
        let number : name.number ≡ i + 1 = omega (arith, n) in
        let own : is_own i (Made name) ≡ true = ap (λ (b : Bool). b && (name.number == i + 1)) (eq-eqb name.owner 0 o) ∙ eq-eqb name.number (i + 1) number in
        ap (λ (w : ℕ). standing (slice_get (made_by t w) i)) o ∙ ap standing (h i f own g)

    by-owner : (b : Bool) → (name.owner == 0) ≡ b → cond b (from_one before name.number) None ≡ Some f → find model t (Made name) ≡ Some f
    by-owner false o g = absurd cc
    by-owner true o g = by-number name.number refl (eqb-true name.owner 0 o) g

refs_follow : (model before : List Form) (t : Table) (rs : List Ref) → ((i : ℕ) (f : Form) → is_named i rs ≡ true → slice_get before i ≡ Some f → slice_get (made_by t 0) i ≡ Some (Some f))
    → RefsRenamed (Follows (own_look model before) (find model t)) rs rs
refs_follow model before t [] h = tt
refs_follow model before t (r ∷ rs) h = (
  own_follows model before t r (λ i f o g. h i f (or_left (is_own i r) (is_named i rs) o) g),
  refs_follow model before t rs (λ i f n g. h i f (or_right (is_own i r) (is_named i rs) n) g),
)

ops_follow : (model before : List Form) (t : Table) (os : List Op) → RefsRenamed (Follows (own_look model before) (find model t)) (op_refs os) (op_refs os)
    → OpsRenamed (Follows (own_look model before) (find model t)) os os
ops_follow model before t [] h = tt
ops_follow model before t (Push r ∷ os) h = (h.0, ops_follow model before t os h.1)
ops_follow model before t (Axiom l ∷ os) h = (refl, ops_follow model before t os h)
ops_follow model before t (Add ∷ os) h = (refl, ops_follow model before t os h)
ops_follow model before t (Times n ∷ os) h = (refl, ops_follow model before t os h)
ops_follow model before t (Divide n ∷ os) h = (refl, ops_follow model before t os h)
ops_follow model before t (Saturate ∷ os) h = (refl, ops_follow model before t os h)

-- A line under its own name, beside a table that finds what it names.
itself : (model before : List Form) (t : Table) (place : ℕ) (s : Step) → Bears (own_name 0 place) s → RefsRenamed (Follows (own_look model before) (find model t)) (step_refs s) (step_refs s)
    → LineRenamed (Follows (own_look model before) (find model t)) place s s
itself model before t place (P name ops) b h = (b, ops_follow model before t ops h)
itself model before t place (U name lits refs) b h = (b, refl, h)
itself model before t place s b h = absurd b

-- A line that bears its name steps where it makes its form.
borne_steps : (model : List Form) (t : Table) (place : ℕ) (s : Step) (f : Form) → Bears (own_name 0 place) s → length (made_by t 0) ≡ place → makes (find model t) s ≡ Ok f
    → step_of model t s ≡ Ok (with_made t (own_name 0 place) f)
borne_steps model t place (P name ops) f b at goes =
    ap (λ (n : Name). step_of model t (P n ops)) b ∙ line_steps model t 0 place (P name ops) f tt at goes
borne_steps model t place (U name lits refs) f b at goes =
    ap (λ (n : Name). step_of model t (U n lits refs)) b ∙ line_steps model t 0 place (U name lits refs) f tt at goes
borne_steps model t place s f b at goes = absurd b

-- ---- deletions

-- Places stay from n on, and where they are named later.
record Stays (n : ℕ) (later : List Ref) (v w : List (Option Form)) : Type 0 where
  same : length w ≡ length v
  past : (i : ℕ) → n ≤ i → slice_get w i ≡ slice_get v i
  kept : (i : ℕ) → is_named i later ≡ true → slice_get w i ≡ slice_get v i

-- What deletions lead to.
record Deleted (model : List Form) (t : Table) (n : ℕ) (here later : List Ref) : Type 0 where
  table : Table
  steps : StepsRun model t (deletions n here later) table
  stays : Stays n later (made_by t 0) (made_by table 0)
  owners : length table.made ≡ length t.made

-- A name that stands is deleted.
deletes_one : (model : List Form) (t : Table) (n : ℕ) (f : Form) → slice_get (made_by t 0) n ≡ Some (Some f) → step_of model t (D (Made (own_name 0 n))) ≡ Ok (without t (Made (own_name 0 n)))
deletes_one model t n f e =
    ap (λ (o : Option Form). or_fault o NoSuchName >>= λ _. Ok (without t (Made (own_name 0 n)))) (ap standing (at_own (made_by t 0) n ∙ e))

-- A table without owner 0's name of a place.
made_without : (t : Table) (n : ℕ) → 0 < length t.made → made_by (without t (Made (own_name 0 n))) 0 ≡ set (made_by t 0) n None
made_without t n some_ =
    let e : n + 1 ≡ suc n = omega arith in
    get_or-set_same t.made 0 (without_number (made_by t 0) (n + 1)) [] some_ ∙ ap (without_number (made_by t 0)) e

deletes : (model : List Form) (here later : List Ref) (n : ℕ) (t : Table) → 0 < length t.made
    → ((i : ℕ) → i < n → is_named i here ≡ true → (f : Form) × (slice_get (made_by t 0) i ≡ Some (Some f))) → Deleted model t n here later
deletes model here later zero t some_ h = record {
  table = t;
  steps = refl;
  stays = record { same = refl; past = λ i l. refl; kept = λ i k. refl };
  owners = refl;
}
deletes model here later (suc n) t some_ h = by (deletes model here later n t some_ (λ i l k. h i (omega (arith, l)) k)) (cases_Bool (is_named n here && not (is_named n later)))
  where
    by : Deleted model t n here later → ((is_named n here && not (is_named n later)) ≡ true) ⊎ ((is_named n here && not (is_named n later)) ≡ false) → Deleted model t (suc n) here later
    by d (inr out) = record {
      table = d.table;
      steps = subst (λ (b : Bool). StepsRun model t (deletions n here later ++ cond b (D (Made (own_name 0 n)) ∷ []) []) d.table) (sym out)
          (steps_on model t d.table d.table (deletions n here later) [] d.steps refl);
      stays = record { same = d.stays.same; past = λ i l. d.stays.past i (omega (arith, l)); kept = d.stays.kept };
      owners = d.owners;
    }
    by d (inl out) =
        let parts = and_parts (is_named n here) (not (is_named n later)) out in
        let found = h n (omega arith) parts.0 in
        let at = d.stays.past n (omega arith) ∙ found.1 in
        let next = without d.table (Made (own_name 0 n)) in
        let is : made_by next 0 ≡ set (made_by d.table 0) n None = made_without d.table n (omega (arith, some_, d.owners)) in
        let apart : (i : ℕ) → i ≢ n → slice_get (made_by next 0) i ≡ slice_get (made_by d.table 0) i = (λ i ne. ap (λ (v : List (Option Form)). slice_get v i) is ∙ get_set_other (made_by d.table 0) n i None ne) in
        record {
          table = next;
          steps = subst (λ (b : Bool). StepsRun model t (deletions n here later ++ cond b (D (Made (own_name 0 n)) ∷ []) []) next) (sym out)
              (steps_on model t d.table next (deletions n here later) (D (Made (own_name 0 n)) ∷ []) d.steps (next, deletes_one model d.table n found.0 at, refl));
          stays = record {
            same = ap length is ∙ length-set (made_by d.table 0) n None ∙ d.stays.same;
            past = λ i l. apart i (λ (e : i ≡ n). omega (arith, l, e)) ∙ d.stays.past i (omega (arith, l));
            kept = λ i k. apart i (λ (e : i ≡ n). both_ways (is_named n later) (not-true (is_named n later) parts.1) (ap (λ (m : ℕ). is_named m later) (sym e) ∙ k)) ∙ d.stays.kept i k;
          };
          owners = length-set d.table.made 0 (without_number (made_by d.table 0) (n + 1)) ∙ d.owners;
        }

-- ---- all lines

-- What the whole run leaves.
record Simulated (model : List Form) (t : Table) (steps : List Step) (all : List Form) (rs : List Ref) : Type 0 where
  table : Table
  steps_run : StepsRun model t steps table
  left : Left all rs (made_by table 0)

simulate : (model : List Form) (lines : List Step) (end : Step) (before all : List Form) (t : Table) → MakesFrom model before lines all → 0 < length t.made
    → Left before (later_refs lines end) (made_by t 0) → Simulated model t (with_deletions (length before) lines end) all (step_refs end)
simulate model [] end before all t makes_ some_ left = record {
  table = t;
  steps_run = refl;
  left = subst (λ (fs : List Form). Left fs (step_refs end) (made_by t 0)) (sym makes_) left;
}
simulate model (s ∷ ss) end before all t (bears, (f, goes, more)) some_ left =
    let place = length before in
    let later = later_refs ss end in
    let holds : (i : ℕ) (g : Form) → is_named i (step_refs s) ≡ true → slice_get before i ≡ Some g → slice_get (made_by t 0) i ≡ Some (Some g) =
    (λ i g k at. left.left i g (named_front i (step_refs s) later k) at) in
    let new_goes : makes (find model t) s ≡ Ok f =
    makes_renamed (own_look model before) (find model t) place s s f (itself model before t place s bears (refs_follow model before t (step_refs s) holds)) goes in
    let made = with_made t (own_name 0 place) f in
    let step : step_of model t s ≡ Ok made = borne_steps model t place s f bears left.same new_goes in
    let made_is : made_by made 0 ≡ made_by t 0 ++ Some f ∷ [] = get_or-set_same t.made 0 (made_by t 0 ++ Some f ∷ []) [] some_ in
    let made_some : 0 < length made.made = omega (arith, some_, length-set t.made 0 (made_by t 0 ++ Some f ∷ [])) in
    let d = deletes model (step_refs s) later place made made_some (λ i l k. let g = get_some before i l in
    (g.0, ap (λ (v : List (Option Form)). slice_get v i) made_is ∙ get_more (made_by t 0) (Some f ∷ []) i (Some g.0) (holds i g.0 k g.1))) in
    let long : length (before ++ f ∷ []) ≡ place + 1 = length-append before (f ∷ []) in
    let next : Left (before ++ f ∷ []) later (made_by d.table 0) = record {
      same = d.stays.same ∙ ap length made_is ∙ length-append (made_by t 0) (Some f ∷ []) ∙ ap (λ (m : ℕ). m + 1) left.same ∙ sym long;
      left = λ i g k at. d.stays.kept i k ∙ ap (λ (v : List (Option Form)). slice_get v i) made_is ∙ elim (get_snoc before f g i at) [
        | inl h ↦ get_more (made_by t 0) (Some f ∷ []) i (Some g) (left.left i g (named_behind i (step_refs s) later k) h.1)
        | inr h ↦ ap (slice_get (made_by t 0 ++ Some f ∷ [])) (h.0 ∙ sym left.same) ∙ get_last (made_by t 0) (Some f) ∙ ap (λ (x : Form). let o : Option (Option Form) = Some (Some x) in o) (sym h.1)
      ];
    } in
    let rest = simulate model ss end (before ++ f ∷ []) all d.table more (omega (arith, made_some, d.owners)) next in
    record {
      table = rest.table;
      steps_run = (
        made,
        step,
        steps_on model made d.table rest.table (deletions place (step_refs s) later) (with_deletions (place + 1) ss end) d.steps
            (subst (λ (m : ℕ). StepsRun model d.table (with_deletions m ss end) rest.table) long rest.steps_run),
      );
      left = rest.left;
    }

pub simulation : SimulationLaw
simulation model lines end all makes_ =
    let r = simulate model lines end [] all empty_table makes_ (omega arith) (record { same = refl; left = λ i f k at. absurd cc }) in
    (r.table, r.steps_run, refs_follow model all r.table (step_refs end) r.left.left)

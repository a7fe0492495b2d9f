-- The lines that count shared neighbours may be kept, and what a table of their names says.
use Rattle.std.proofs.Common.{◌≡◌, ℕ, ◌-◌, ◌^◌, ◌<◌, ◌==◌, Bool, true, cond, List, [], ◌∷◌, ◌++◌, sym, ap, subst, ◌∙◌, arith, Option, Some, Result, Ok, Err, inl, inr, ◌⊎◌}
use Rattle.std.specs.Prelude.{IfOk, OnOk, OnErr}
use Rattle.std.specs.declared.alloc.AllocError.{AllocError}
use Rattle.std.proofs.lemmas.Bool.{cases_eq, eq-eqb, ne_eqb}
use Rattle.graph_theory.specs.Graph.{size}
use Rattle.graph_theory.specs.Embedding.{Problem, is_injective}
use Rattle.graph_theory.specs.Neighbours.{count}
use Rattle.proof_theory.specs.declared.literal.Literal.{Literal}
use Rattle.proof_theory.specs.Forms.{Form}
use Rattle.log_theory.specs.declared.step.Name.{Name}
use Rattle.log_theory.specs.declared.step.Ref.{Ref}
use Rattle.log_theory.specs.declared.step.Ref.TheVariants.{Made}
use Rattle.log_theory.specs.declared.step.Op.{Op}
use Rattle.log_theory.specs.declared.step.Step.{Step}
use Rattle.log_theory.specs.declared.step.Step.TheVariants.{P, U}
use Rattle.log_theory.specs.Lookups.{Lookup, makes, variables_of}
use Rattle.log_theory.specs.LogText.{IsName, AreOps, AreLiterals, AreRefs}
use Rattle.log_theory.specs.Verdicts.{in_range, axiom_variables}
use Rattle.journal_theory.specs.Journals.{Finds, HoldsOwn}
use Rattle.encoding_theory.specs.Variables.{variables}
use Rattle.pair_line_theory.specs.Operations.{FindsEncoding}
use Rattle.pair_line_theory.specs.Rows.{target_line, is_shared, spread_form, spread_ops, not_both, not_both_form, two_ops}
use Rattle.pair_line_theory.specs.Laws.{IsPlace, AreTwoShared}
use Rattle.pair_line_theory.proofs.Making.{row_laws}
use Rattle.forcing_theory.specs.Sums.{IsSmall}
use Rattle.log_growth.specs.Frames.{Frame, IsNamed, MayFollow, IsKept, Goes, AnyForms}
use Rattle.log_growth.proofs.Going.{goes_as, goes_beside, goes_then, goes_kept}
use Rattle.journals.specs.Keeping.{IsLine, Keeps}
use Rattle.log_growth.specs.Rows.{Widens}
use Rattle.log_growth.proofs.Rows.{named_wider}
use Rattle.log_growth.proofs.Steps.{clause_small}
use Rattle.log_growth.proofs.Naming.{named_later}
use Rattle.pair_lines.specs.declared.sharing.Sharers.{Sharers}
use Rattle.pair_lines.specs.Choices.{IsWithin, AreSharers, entry_at, pair_key, pair_name, not_both_key, not_both_name}
use Rattle.pair_lines.specs.Claims.{HasEncoding, AreSpreads, IsNotBoth, MaySpread, HasSpreadOps}
use Rattle.pair_lines.proofs.Good.{AreGood, count_few, good_ops, good_rows, good_range, good_ref, good_target, good_spread_ops, good_two_ops, good_not_both}

pub finds_encoding : (q : Problem) (owner : ℕ) (w : Frame) (look : Lookup) → HasEncoding q owner w → Finds w.base look → FindsEncoding q look
finds_encoding q owner w look frame finds = record { line = λ k f at. finds.alike _ f (frame.model.line k f at) }

-- A line of good operations may be kept where they make its form, and this is small.
pub good_follows : (q : Problem) (owner : ℕ) (w : Frame) (forms : List Form) (name : Name) (ops : List Op) (f : Form) → HasEncoding q owner w → AreGood (variables q) ops → IsSmall (2 ^ 40) f
    → ((look : Lookup) → Finds w.base look → HoldsOwn w.owner forms look → makes look (P name ops) ≡ Ok f) → MayFollow w forms (P name ops) f
good_follows q owner w forms name ops f frame good small makes_it = record {
  made = makes_it;
  rows = λ k names. absurd (good_rows (variables q) ops good k names);
  ranges = ap (λ (n : ℕ). in_range n (axiom_variables ops)) frame.variables_are ∙ good_range (variables q) ops good;
  small = small;
}

-- ---- the clause of two vertices

module _ (q : Problem) (plain : IsWithin q) (apart : is_injective q.maps ≡ true) (m n v : ℕ) (order : m < n) (n_in : n < size q.pattern) (v_in : v < size q.target) (lits : List Literal) (refs : List Ref) (name : Name) where
  pub not_both_line : lits ≡ not_both q m n v → refs ≡ target_line q v ∷ [] → IsLine (U name lits refs)
  not_both_line are is = (
    subst (λ (ls : List Literal). AreLiterals ls) (sym are) (good_not_both q plain m n v (omega (arith, order, n_in)) n_in v_in).0,
    subst (λ (rs : List Ref). AreRefs rs) (sym is) (good_ref (target_line q v) (good_target q plain v apart v_in), tt),
  )

  not_both_follows : (owner : ℕ) (w : Frame) (forms : List Form) → HasEncoding q owner w → lits ≡ not_both q m n v → refs ≡ target_line q v ∷ [] → MayFollow w forms (U name lits refs) (not_both_form q m n v)
  not_both_follows owner w forms frame are is =
      subst (λ (ls : List Literal). MayFollow w forms (U name ls refs) (not_both_form q m n v)) (sym are)
      (subst (λ (rs : List Ref). MayFollow w forms (U name (not_both q m n v) rs) (not_both_form q m n v)) (sym is) (record {
        made = λ look finds own. ((row_laws q plain.limits).makes look (finds_encoding q owner w look frame finds)).not_both name m n v apart order n_in v_in;
        rows = λ k names. absurd names;
        ranges = ap (λ (k : ℕ). in_range k (variables_of (not_both q m n v))) frame.variables_are ∙ (good_not_both q plain m n v (omega (arith, order, n_in)) n_in v_in).1;
        small = clause_small (not_both q m n v) (omega arith);
      }))

  pub not_both_goes : (owner : ℕ) (w : Frame) (result : Result Name AllocError) (old new : Option (List Step)) → HasEncoding q owner w → lits ≡ not_both q m n v → refs ≡ target_line q v ∷ [] → Keeps result owner old new (U name lits refs)
      → Goes w old new AnyForms (IsKept w result (not_both_form q m n v))
  not_both_goes owner w result old new frame are is keeps =
      goes_kept w result owner old new (U name lits refs) (not_both_form q m n v) AnyForms frame.owner_is keeps (not_both_line are is) (λ forms any. not_both_follows owner w forms frame are is)

-- ---- a table of their names

pub spreads_last : (w : Frame) (q : Problem) (names : List (ℕ × Name)) (forms more : List Form) → AreSpreads w q names forms → AreSpreads w q names (forms ++ more)
spreads_last w q names forms more h = record {
  named = λ p r v n p_in r_in v_in is. named_later w forms more (Made n) (spread_form q p r v) (h.named p r v n p_in r_in v_in is);
  apart = λ m r v n m_in r_in v_in is. named_later w forms more (Made n) (not_both_form q m r v) (h.apart m r v n m_in r_in v_in is);
}

pub spreads_wider : (w v : Frame) (q : Problem) (names : List (ℕ × Name)) (forms : List Form) → Widens w v → AreSpreads w q names forms → AreSpreads v q names forms
spreads_wider w v q names forms wider h = record {
  named = λ p r u n a b c e. named_wider w v forms (Made n) (spread_form q p r u) wider (h.named p r u n a b c e);
  apart = λ m r u n a b c e. named_wider w v forms (Made n) (not_both_form q m r u) wider (h.apart m r u n a b c e);
}

-- Other numbers keep their names, and one has the new name.
kept_name : (old new : List (ℕ × Name)) (at k : ℕ) (n : Name) → ((i : ℕ) → entry_at new i ≡ cond (i == at) (Some n) (entry_at old i)) → (k ≡ at → ⊥) → entry_at old k ≡ entry_at new k
kept_name old new at k n added other = sym (added k ∙ ap (λ (x : Bool). cond x (Some n) (entry_at old k)) (ne_eqb k at other))

new_name : (old new : List (ℕ × Name)) (at k : ℕ) (n : Name) → ((i : ℕ) → entry_at new i ≡ cond (i == at) (Some n) (entry_at old i)) → k ≡ at → Some n ≡ entry_at new k
new_name old new at k n added same = sym (added k ∙ ap (λ (x : Bool). cond x (Some n) (entry_at old k)) (eq-eqb k at same))

-- One name more, of a line that is named.
pub spreads_added : (w : Frame) (q : Problem) → IsWithin q → (old new : List (ℕ × Name)) (forms : List Form) (p r v : ℕ) (n : Name) → p < size q.pattern → r < size q.pattern → v < size q.target
    → ((k : ℕ) → entry_at new k ≡ cond (k == pair_key p r v) (Some n) (entry_at old k)) → IsNamed w forms (Made n) (spread_form q p r v) → AreSpreads w q old forms → AreSpreads w q new forms
spreads_added w q plain old new forms p r v n p_in r_in v_in added named h = record {
  named = λ a b u m a_in b_in u_in is. by a b u m a_in b_in u_in is (cases_eq (pair_key a b u) (pair_key p r v));
  apart = λ a b u m a_in b_in u_in is.
      let few = plain.limits.vertices_few in
      let less = plain.limits.targets_few in
      h.apart a b u m a_in b_in u_in (kept_name old new (pair_key p r v) (not_both_key a b u) n added (λ (same : not_both_key a b u ≡ pair_key p r v). omega (arith, same, few, less, a_in, b_in, u_in, p_in, r_in, v_in)) ∙ is);
}
  where
    by : (a b u : ℕ) (m : Name) → a < size q.pattern → b < size q.pattern → u < size q.target → pair_name new a b u ≡ Some m
        → (pair_key a b u ≡ pair_key p r v) ⊎ (pair_key a b u ≡ pair_key p r v → ⊥) → IsNamed w forms (Made m) (spread_form q a b u)
    by a b u m a_in b_in u_in is (inl same) =
        let few = plain.limits.vertices_few in
        let less = plain.limits.targets_few in
        let a_is : p ≡ a = omega (arith, same, few, less, a_in, b_in, u_in, p_in, r_in, v_in) in
        let b_is : r ≡ b = omega (arith, same, few, less, a_in, b_in, u_in, p_in, r_in, v_in) in
        let u_is : v ≡ u = omega (arith, same, few, less, a_in, b_in, u_in, p_in, r_in, v_in) in
        let read : Some n ≡ Some m = new_name old new (pair_key p r v) (pair_key a b u) n added same ∙ is in
        let n_is : n ≡ m = cc in
        subst (λ (x : Name). IsNamed w forms (Made x) (spread_form q a b u)) n_is
        (subst (λ (x : ℕ). IsNamed w forms (Made n) (spread_form q x b u)) a_is (subst (λ (x : ℕ). IsNamed w forms (Made n) (spread_form q p x u)) b_is (subst (λ (x : ℕ). IsNamed w forms (Made n) (spread_form q p r x)) u_is named)))
    by a b u m a_in b_in u_in is (inr other) =
        h.named a b u m a_in b_in u_in (kept_name old new (pair_key p r v) (pair_key a b u) n added other ∙ is)

-- What adding a name does to the table, whatever it answers.
pub spreads_put : (w : Frame) (q : Problem) → IsWithin q → (old new : List (ℕ × Name)) (forms : List Form) (p r v : ℕ) (n : Name) (result : Result (Unit {0}) AllocError) → p < size q.pattern → r < size q.pattern → v < size q.target
    → OnOk result ((k : ℕ) → entry_at new k ≡ cond (k == pair_key p r v) (Some n) (entry_at old k)) → OnErr result (new ≡ old) → IsNamed w forms (Made n) (spread_form q p r v) → AreSpreads w q old forms → AreSpreads w q new forms
spreads_put w q plain old new forms p r v n (Ok done) p_in r_in v_in added refused named h = spreads_added w q plain old new forms p r v n p_in r_in v_in added named h
spreads_put w q plain old new forms p r v n (Err e) p_in r_in v_in added refused named h = subst (λ (names : List (ℕ × Name)). AreSpreads w q names forms) (sym refused) h

-- One name more, of a clause that is named.
pub apart_added : (w : Frame) (q : Problem) → IsWithin q → (old new : List (ℕ × Name)) (forms : List Form) (m r v : ℕ) (n : Name) → m < size q.pattern → r < size q.pattern → v < size q.target
    → ((k : ℕ) → entry_at new k ≡ cond (k == not_both_key m r v) (Some n) (entry_at old k)) → IsNamed w forms (Made n) (not_both_form q m r v) → AreSpreads w q old forms → AreSpreads w q new forms
apart_added w q plain old new forms m r v n m_in r_in v_in added named h = record {
  named = λ a b u x a_in b_in u_in is.
      let few = plain.limits.vertices_few in
      let less = plain.limits.targets_few in
      h.named a b u x a_in b_in u_in (kept_name old new (not_both_key m r v) (pair_key a b u) n added (λ (same : pair_key a b u ≡ not_both_key m r v). omega (arith, same, few, less, a_in, b_in, u_in, m_in, r_in, v_in)) ∙ is);
  apart = λ a b u x a_in b_in u_in is. by a b u x a_in b_in u_in is (cases_eq (not_both_key a b u) (not_both_key m r v));
}
  where
    by : (a b u : ℕ) (x : Name) → a < size q.pattern → b < size q.pattern → u < size q.target → not_both_name new a b u ≡ Some x
        → (not_both_key a b u ≡ not_both_key m r v) ⊎ (not_both_key a b u ≡ not_both_key m r v → ⊥) → IsNamed w forms (Made x) (not_both_form q a b u)
    by a b u x a_in b_in u_in is (inl same) =
        let few = plain.limits.vertices_few in
        let less = plain.limits.targets_few in
        let a_is : m ≡ a = omega (arith, same, few, less, a_in, b_in, u_in, m_in, r_in, v_in) in
        let b_is : r ≡ b = omega (arith, same, few, less, a_in, b_in, u_in, m_in, r_in, v_in) in
        let u_is : v ≡ u = omega (arith, same, few, less, a_in, b_in, u_in, m_in, r_in, v_in) in
        let read : Some n ≡ Some x = new_name old new (not_both_key m r v) (not_both_key a b u) n added same ∙ is in
        let n_is : n ≡ x = cc in
        subst (λ (y : Name). IsNamed w forms (Made y) (not_both_form q a b u)) n_is
        (subst (λ (y : ℕ). IsNamed w forms (Made n) (not_both_form q y b u)) a_is (subst (λ (y : ℕ). IsNamed w forms (Made n) (not_both_form q m y u)) b_is (subst (λ (y : ℕ). IsNamed w forms (Made n) (not_both_form q m r y)) u_is named)))
    by a b u x a_in b_in u_in is (inr other) = h.apart a b u x a_in b_in u_in (kept_name old new (not_both_key m r v) (not_both_key a b u) n added other ∙ is)

-- A clause is kept beside the names of a table.
pub not_both_beside : (w : Frame) (q : Problem) (names : List (ℕ × Name)) (m r v : ℕ) (result : Result Name AllocError) (a b : Option (List Step)) → Goes w a b AnyForms (IsKept w result (not_both_form q m r v))
    → Goes w a b (AreSpreads w q names) (IsNotBoth w q m r v names result)
not_both_beside w q names m r v result a b goes =
    goes_as w a b (λ forms. AnyForms forms × AreSpreads w q names forms) (λ forms. IsKept w result (not_both_form q m r v) forms × AreSpreads w q names forms) (AreSpreads w q names) (IsNotBoth w q m r v names result) (λ forms h. (tt, h)) (λ forms k. (k.1, k.0))
    (goes_beside w a b AnyForms (IsKept w result (not_both_form q m r v)) (AreSpreads w q names) (λ forms more h. spreads_last w q names forms more h) goes)

-- It was not made, or its name found no room.
pub not_both_refused : (w : Frame) (q : Problem) (old new : List (ℕ × Name)) (m r v : ℕ) (result : Result Name AllocError) (e : AllocError) (a b : Option (List Step)) → new ≡ old
    → Goes w a b (AreSpreads w q old) (IsNotBoth w q m r v old result) → Goes w a b (AreSpreads w q old) (IsNotBoth w q m r v new (Err e))
not_both_refused w q old new m r v result e a b same goes =
    goes_as w a b (AreSpreads w q old) (IsNotBoth w q m r v old result) (AreSpreads w q old) (IsNotBoth w q m r v new (Err e)) (λ forms h. h)
    (λ forms k. (subst (λ (names : List (ℕ × Name)). AreSpreads w q names forms) (sym same) k.0, tt)) goes

-- It was made, and its name was added.
pub not_both_added : (w : Frame) (q : Problem) → IsWithin q → (old new : List (ℕ × Name)) (m r v : ℕ) (n : Name) (a b : Option (List Step)) → m < size q.pattern → r < size q.pattern → v < size q.target
    → ((k : ℕ) → entry_at new k ≡ cond (k == not_both_key m r v) (Some n) (entry_at old k))
    → Goes w a b (AreSpreads w q old) (IsNotBoth w q m r v old (Ok n)) → Goes w a b (AreSpreads w q old) (IsNotBoth w q m r v new (Ok n))
not_both_added w q plain old new m r v n a b m_in r_in v_in added goes =
    goes_as w a b (AreSpreads w q old) (IsNotBoth w q m r v old (Ok n)) (AreSpreads w q old) (IsNotBoth w q m r v new (Ok n)) (λ forms h. h)
    (λ forms k. (apart_added w q plain old new forms m r v n m_in r_in v_in added k.1 k.0, k.1)) goes

-- A table without names.
pub no_spreads : (w : Frame) (q : Problem) (names : List (ℕ × Name)) (forms : List Form) → names ≡ [] → AreSpreads w q names forms
no_spreads w q names forms none = subst (λ (xs : List (ℕ × Name)). AreSpreads w q xs forms) (sym none) (record { named = λ p r v n p_in r_in v_in is. absurd cc; apart = λ m r v n m_in r_in v_in is. absurd cc })

-- ---- the operations of a line that counts shared neighbours

sharers_few : (q : Problem) → IsWithin q → (pair : Sharers) → AreSharers q pair → pair.count < 65536
sharers_few q plain pair sharers =
    let few = count_few (is_shared q.pattern pair.p pair.r) (size q.pattern) in
    let less = plain.limits.vertices_few in
    let counted : count (is_shared q.pattern pair.p pair.r) (size q.pattern) ≡ pair.count = sharers.counted in
    omega (arith, few, less, counted)

module _ (q : Problem) (plain : IsWithin q) (pair : Sharers) (sharers : AreSharers q pair) (v : ℕ) (v_in : v < size q.target) (owner : ℕ) (w : Frame) (frame : HasEncoding q owner w) (forms : List Form) where
  at_v : IsPlace q pair.p v pair.r
  at_v = record { first = sharers.first_in; place = v_in; second = sharers.second_in; others = sharers.others }

  -- All that are not shared are left out.
  pub many_may : (result : Result (List Op) AllocError) → IfOk result (λ ops. ops ≡ spread_ops q pair.p pair.r v (pair.count - 1)) → MaySpread w q pair.p pair.r v result forms
  many_may (Err e) is = tt
  many_may (Ok ops) is = λ name.
      subst (λ (os : List Op). MayFollow w forms (P name os) (spread_form q pair.p pair.r v)) (sym is)
      (good_follows q owner w forms name (spread_ops q pair.p pair.r v (pair.count - 1)) (spread_form q pair.p pair.r v) frame (good_spread_ops q plain pair.p pair.r v (pair.count - 1) sharers.injective sharers.first_in sharers.second_in v_in (let few = sharers_few q plain pair sharers in omega (arith, few)))
      ((row_laws q plain.limits).sizes.spread pair.p pair.r v) (λ look finds own. ((row_laws q plain.limits).makes look (finds_encoding q owner w look frame finds)).spread name pair.p v pair.r (pair.count - 1) at_v sharers.injective (let c = sharers.counted in let m = sharers.many in omega (arith, c, m)) (let m = sharers.many in omega (arith, m))))

  -- Two are shared, and their clause has this name.
  pub two_may : (m n : ℕ) (clause : Name) (result : Result (List Op) AllocError) → AreTwoShared q.pattern pair.p pair.r m n → IsName clause → IsNamed w forms (Made clause) (not_both_form q m n v)
      → IfOk result (λ ops. ops ≡ two_ops q (Made clause) pair.p pair.r v) → MaySpread w q pair.p pair.r v result forms
  two_may m n clause (Err e) two fits named is = tt
  two_may m n clause (Ok ops) two fits named is = λ name.
      subst (λ (os : List Op). MayFollow w forms (P name os) (spread_form q pair.p pair.r v)) (sym is)
      (good_follows q owner w forms name (two_ops q (Made clause) pair.p pair.r v) (spread_form q pair.p pair.r v) frame (good_two_ops q plain clause pair.p pair.r v fits sharers.second_in v_in)
      ((row_laws q plain.limits).sizes.spread pair.p pair.r v) (λ look finds own. ((row_laws q plain.limits).makes look (finds_encoding q owner w look frame finds)).two name (Made clause) m n pair.p v pair.r at_v two (named.found look finds own)))

pub many_ops : (q : Problem) → IsWithin q → (pair : Sharers) (v : ℕ) (result : Result (List Op) AllocError) → AreSharers q pair → v < size q.target
    → IfOk result (λ ops. ops ≡ spread_ops q pair.p pair.r v (pair.count - 1)) → IfOk result AreOps
many_ops q plain pair v (Err e) sharers v_in is = tt
many_ops q plain pair v (Ok ops) sharers v_in is =
    subst AreOps (sym is) (good_ops (variables q) (spread_ops q pair.p pair.r v (pair.count - 1)) (good_spread_ops q plain pair.p pair.r v (pair.count - 1) sharers.injective sharers.first_in sharers.second_in v_in (let few = sharers_few q plain pair sharers in omega (arith, few))))

pub two_are_ops : (q : Problem) → IsWithin q → (pair : Sharers) (v : ℕ) (clause : Name) (result : Result (List Op) AllocError) → AreSharers q pair → v < size q.target → IsName clause
    → IfOk result (λ ops. ops ≡ two_ops q (Made clause) pair.p pair.r v) → IfOk result AreOps
two_are_ops q plain pair v clause (Err e) sharers v_in fits is = tt
two_are_ops q plain pair v clause (Ok ops) sharers v_in fits is =
    subst AreOps (sym is) (good_ops (variables q) (two_ops q (Made clause) pair.p pair.r v) (good_two_ops q plain clause pair.p pair.r v fits sharers.second_in v_in))

-- ---- the line

-- Its operations were found, and it was kept beside the names of a table.
pub spread_goes : (q : Problem) (owner middle : ℕ) (w : Frame) (name : Name) (p r v : ℕ) (ops : List Op) (old names : List (ℕ × Name)) (result : Result Name AllocError) (a b c : Option (List Step)) → HasEncoding q owner w → middle ≡ owner
    → Goes w a b (AreSpreads w q old) (HasSpreadOps w q p r v names (Ok ops)) → AreOps ops → Keeps result middle b c (P name ops)
    → Goes w a c (AreSpreads w q old) (λ forms. IsKept w result (spread_form q p r v) forms × AreSpreads w q names forms)
spread_goes q owner middle w name p r v ops old names result a b c frame same first fits keeps =
    goes_then w a b c (AreSpreads w q old) (HasSpreadOps w q p r v names (Ok ops)) (λ forms. IsKept w result (spread_form q p r v) forms × AreSpreads w q names forms) first
    (goes_as w b c (λ forms. HasSpreadOps w q p r v names (Ok ops) forms × AreSpreads w q names forms) (λ forms. IsKept w result (spread_form q p r v) forms × AreSpreads w q names forms)
    (HasSpreadOps w q p r v names (Ok ops)) (λ forms. IsKept w result (spread_form q p r v) forms × AreSpreads w q names forms) (λ forms h. (h, h.0)) (λ forms k. k)
    (goes_beside w b c (HasSpreadOps w q p r v names (Ok ops)) (IsKept w result (spread_form q p r v)) (AreSpreads w q names) (λ forms more h. spreads_last w q names forms more h)
    (goes_kept w result middle b c (P name ops) (spread_form q p r v) (HasSpreadOps w q p r v names (Ok ops)) (frame.owner_is ∙ sym same) keeps fits (λ forms h. h.1 name))))

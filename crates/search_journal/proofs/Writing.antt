-- What is written stays so through a search: at a guess, at a restart, as rows come, as a row is noted, and as a path is closed.
use Rattle.std.proofs.Common.{inl, inr, ◌⊎◌, ◌≡◌, ℕ, zero, suc, ◌+◌, ◌<◌, ◌≤◌, List, [], ◌∷◌, ◌++◌, length, take, drop, Contains, Option, Some, None, refl, sym, ap, subst, ◌∙◌, arith, length-append}
use Rattle.graph_theory.specs.Embedding.{Problem}
use Rattle.search_theory.specs.Account.{Account, Step, path, path_of, level_at, level_among, fresh, deepened, restarted, failed, IsAt, FailsTo, inserted}
use Rattle.proof_theory.specs.Forms.{Form}
use Rattle.log_theory.specs.Tables.{from_one}
use Rattle.nogood_book.specs.declared.row.Row.{Row}
use Rattle.explanation_theory.specs.Reasons.{pairs_clause}
use Rattle.journal_theory.proofs.Placing.{from_one_more, take_all}
use Rattle.journals.specs.Keeping.{Keeping}
use Rattle.log_growth.specs.Frames.{Frame}
use Rattle.log_growth.specs.Rows.{Widens}
use Rattle.proof_logger.specs.Logging.{IsNogoodBy, GrowsBeside, EndsInOwn, Publishes}
use Rattle.search_journal.specs.declared.refuted.Refuted.{Refuted}
use Rattle.search_journal.specs.Lines.{row_clause, row_frame, StandsBeside, Steps, Refutes}
use Rattle.search_journal.specs.Entries.{AreFrom, AreBelow, AreRising, IsEntry, AreEntries, HasEntry, AreCovered, Writes}
use Rattle.search_journal.specs.Numbers.{RowsBelow}
use Rattle.search_journal.proofs.Numbers.{below_more, below_snoc}
use Rattle.search_journal.proofs.Levels.{level_within, length-path_of, path_of_more, path_deeper, deeper_vertex, deeper_refuted, failed_vertex, failed_last, failed_refuted}
use Rattle.search_journal.proofs.Lists.{rising_take, rising_snoc, entries_as, entries_below, entries_take, entries_snoc, has_front, has_last, has_take}
use Rattle.search_journal.proofs.Frames.{rows_widen, beside_grown, beside_without, beside_noted, beside_begun}

-- ---- at a guess

deeper_entry : (q : Problem) (a : Account) (forms : List Form) (p t : ℕ) → IsAt a.vertex p → (e : Refuted) → IsEntry q a forms e → IsEntry q (deepened a p t) forms e
deeper_entry q a forms p t at e i =
    let s : Step = record { vertex = p; value = t; refuted = a.refuted } in
    let within = level_within a.steps a.vertex a.refuted e.level i.vertex i.vertex_is in
    record {
      vertex = i.vertex;
      vertex_is = deeper_vertex a.steps a.vertex a.refuted s e.level i.vertex at i.vertex_is;
      line = i.line ∙ ap (λ (xs : List (ℕ × ℕ)). let o : Option Form = Some (pairs_clause q (xs ++ (i.vertex, e.value) ∷ [])) in o) (sym (path_deeper a.steps s e.level within));
    }

pub writes_deepened : (knows : Problem → Frame → List Form → Type 0) (lines : Problem) (j : Keeping) (owner : ℕ) (numbers : List (ℕ × ℕ)) (entries : List Refuted) (q : Problem) (rows : List Row) (a : Account) (p t : ℕ)
    → IsAt a.vertex p → Writes knows lines j owner numbers entries q rows a → Writes knows lines j owner numbers entries q rows (deepened a p t)
writes_deepened knows lines j owner numbers entries q rows a p t at w = record {
  problem_is = w.problem_is;
  forms = w.forms;
  beside = w.beside;
  known = w.known;
  owner_is = w.owner_is;
  numbers_are = w.numbers_are;
  in_rows = w.in_rows;
  fresh_level = refl;
  rising = w.rising;
  entries_are = entries_as q a (deepened a p t) w.forms w.forms entries (deeper_entry q a w.forms p t at) w.entries_are;
  covered = λ level vertex value vertex_is refuted.
      let old = deeper_refuted a.steps a.vertex a.refuted (record { vertex = p; value = t; refuted = a.refuted }) level vertex value w.fresh_level refl vertex_is refuted in
      w.covered level old.0 value old.1 old.2;
}

-- ---- at a start

no_vertex : (i p : ℕ) → (level_among [] None [] i).vertex ≡ Some p → ⊥
no_vertex zero p e = cc
no_vertex (suc i) p e = cc

pub writes_restarted : (knows : Problem → Frame → List Form → Type 0) (lines : Problem) (j : Keeping) (owner : ℕ) (numbers : List (ℕ × ℕ)) (entries : List Refuted) (q : Problem) (rows : List Row) (a : Account)
    → Writes knows lines j owner numbers entries q rows a → Writes knows lines j owner numbers [] q rows (restarted a)
writes_restarted knows lines j owner numbers entries q rows a w = record {
  problem_is = w.problem_is;
  forms = w.forms;
  beside = w.beside;
  known = w.known;
  owner_is = w.owner_is;
  numbers_are = w.numbers_are;
  in_rows = w.in_rows;
  fresh_level = refl;
  rising = tt;
  entries_are = tt;
  covered = λ level vertex value vertex_is refuted. absurd (no_vertex level vertex vertex_is);
}

pub writes_begun : (knows : Problem → Frame → List Form → Type 0) (j : Keeping) (q : Problem) (rows : List Row) (pattern target budget : ℕ) → j.steps ≡ [] → j.notes ≡ []
    → knows q (row_frame q rows j.owner) [] → ((k : ℕ) → IsNogoodBy j.owner rows k → ⊥) → Writes knows q j j.owner [] [] q rows (fresh pattern target budget)
writes_begun knows j q rows pattern target budget steps_none notes_none known none = record {
  problem_is = refl;
  forms = [];
  beside = beside_begun q rows j steps_none notes_none none;
  known = known;
  owner_is = refl;
  numbers_are = sym notes_none;
  in_rows = subst (RowsBelow (length rows)) (sym notes_none) tt;
  fresh_level = refl;
  rising = tt;
  entries_are = tt;
  covered = λ level vertex value vertex_is refuted. absurd (no_vertex level vertex vertex_is);
}

-- ---- as rows come

pub writes_grown : (knows : Problem → Frame → List Form → Type 0) → ((q : Problem) (w v : Frame) (forms : List Form) → Widens w v → knows q w forms → knows q v forms)
    → (lines : Problem) (j : Keeping) (owner : ℕ) (numbers : List (ℕ × ℕ)) (entries : List Refuted) (q : Problem) (rows more : List Row) (a : Account)
    → GrowsBeside j.owner rows more → Writes knows lines j owner numbers entries q rows a → Writes knows lines j owner numbers entries q more a
writes_grown knows wider lines j owner numbers entries q rows more a g w = record {
  problem_is = w.problem_is;
  forms = w.forms;
  beside = beside_grown q rows more j w.forms g w.beside;
  known = subst (λ (rs : List Row). knows q (row_frame q rs j.owner) w.forms) (sym g.front)
      (wider q (row_frame q rows j.owner) (row_frame q (rows ++ g.rest) j.owner) w.forms (rows_widen q rows g.rest j.owner) w.known);
  owner_is = w.owner_is;
  numbers_are = w.numbers_are;
  in_rows = below_more (length rows) (length more) j.notes (omega (arith, ap (λ (rs : List Row). length rs) g.front, length-append rows g.rest)) w.in_rows;
  fresh_level = w.fresh_level;
  rising = w.rising;
  entries_are = w.entries_are;
  covered = w.covered;
}

pub steps_grown : (lines : Problem) (j : Keeping) (q : Problem) (rows more : List Row) → GrowsBeside j.owner rows more → Steps lines j q rows → Steps lines j q more
steps_grown lines j q rows more g s = record { problem_is = s.problem_is; forms = s.forms; beside = beside_grown q rows more j s.forms g s.beside }

pub refutes_grown : (lines : Problem) (j : Keeping) (q : Problem) (rows more : List Row) → GrowsBeside j.owner rows more → Refutes lines j q rows → Refutes lines j q more
refutes_grown lines j q rows more g r = record {
  problem_is = r.problem_is;
  forms = r.forms;
  beside = beside_grown q rows more j r.forms g r.beside;
  last = r.last;
  last_is = r.last_is;
  plainly_false = r.plainly_false;
}

-- ---- without rows at the end that the owner keeps for itself

pub steps_without : (lines : Problem) (j : Keeping) (q : Problem) (rows whole : List Row) → EndsInOwn j.owner rows whole → Steps lines j q whole → Steps lines j q rows
steps_without lines j q rows whole e s = record { problem_is = s.problem_is; forms = s.forms; beside = beside_without q rows whole j s.forms e s.beside }

pub refutes_without : (lines : Problem) (j : Keeping) (q : Problem) (rows whole : List Row) → EndsInOwn j.owner rows whole → Refutes lines j q whole → Refutes lines j q rows
refutes_without lines j q rows whole e r = record {
  problem_is = r.problem_is;
  forms = r.forms;
  beside = beside_without q rows whole j r.forms e r.beside;
  last = r.last;
  last_is = r.last_is;
  plainly_false = r.plainly_false;
}

-- ---- as a row is noted

pub writes_noted : (knows : Problem → Frame → List Form → Type 0) → ((q : Problem) (w v : Frame) (forms : List Form) → Widens w v → knows q w forms → knows q v forms)
    → (lines : Problem) (old new : Keeping) (owner : ℕ) (numbers : List (ℕ × ℕ)) (entries : List Refuted) (q : Problem) (rows more : List Row) (a : Account) (level value k : ℕ) (e : Refuted)
    → Publishes a old.owner level value rows more k → new.owner ≡ old.owner → new.steps ≡ old.steps → new.notes ≡ old.notes ++ (k, e.number) ∷ []
    → (w : Writes knows lines old owner numbers entries q rows a) → IsEntry q a w.forms e → e.level ≡ level → e.value ≡ value
    → Writes knows lines new owner (numbers ++ (k, e.number) ∷ []) entries q more a
writes_noted knows wider lines old new owner numbers entries q rows more a level value k e p owner_same steps_same notes_are w i level_is value_is = record {
  problem_is = w.problem_is;
  forms = w.forms;
  beside = beside_noted q a level value rows more old new w.forms k e.number p w.in_rows line owner_same steps_same notes_are w.beside;
  known = rw owner_same (subst (λ (rs : List Row). knows q (row_frame q rs old.owner) w.forms) (sym p.front)
      (wider q (row_frame q rows old.owner) (row_frame q (rows ++ p.rest) old.owner) w.forms (rows_widen q rows p.rest old.owner) w.known));
  owner_is = w.owner_is ∙ sym owner_same;
  numbers_are = ap (λ (ns : List (ℕ × ℕ)). ns ++ (k, e.number) ∷ []) w.numbers_are ∙ sym notes_are;
  in_rows = subst (RowsBelow (length more)) (sym notes_are) (below_snoc (length more) old.notes (k, e.number) (below_more (length rows) (length more) old.notes longer w.in_rows) p.within);
  fresh_level = w.fresh_level;
  rising = w.rising;
  entries_are = w.entries_are;
  covered = w.covered;
}
  where
    longer : length rows ≤ length more
    longer = omega (arith, ap (λ (rs : List Row). length rs) p.front, length-append rows p.rest)

    some_of : (m n : ℕ) (o : Option ℕ) → o ≡ Some m → o ≡ Some n → m ≡ n
    some_of m n o a b = cc

    vertex_same : i.vertex ≡ p.vertex
    vertex_same = some_of i.vertex p.vertex (level_at a level).vertex (ap (λ (n : ℕ). (level_at a n).vertex) (sym level_is) ∙ i.vertex_is) p.vertex_is

    line : from_one w.forms e.number ≡ Some (row_clause q more k)
    line = i.line ∙ ap (λ (xs : List (ℕ × ℕ)). let o : Option Form = Some (pairs_clause q xs) in o)
        (ap (λ (n : ℕ). take n (path a) ++ (i.vertex, e.value) ∷ []) level_is ∙ ap (λ (n : ℕ). take level (path a) ++ (n, e.value) ∷ []) vertex_same
        ∙ ap (λ (n : ℕ). take level (path a) ++ (p.vertex, n) ∷ []) value_is ∙ sym p.path_is)

-- ---- as a path is closed

-- With the line of the dead path behind the entries above the path's level.
pub writes_failed : (knows : Problem → Frame → List Form → Type 0) (lines : Problem) (j : Keeping) (owner : ℕ) (numbers : List (ℕ × ℕ)) (entries : List Refuted) (q : Problem) (rows : List Row) (a b : Account)
    (forms more : List Form) (k : ℕ) (e : Refuted) → lines ≡ q → StandsBeside q rows j (forms ++ more) → knows q (row_frame q rows j.owner) (forms ++ more) → owner ≡ j.owner → numbers ≡ j.notes → RowsBelow (length rows) j.notes
    → AreRising entries → AreEntries q a forms entries → AreCovered a entries → AreFrom (length (path a)) (drop k entries) → AreBelow (length (path a)) (take k entries)
    → from_one (forms ++ more) e.number ≡ Some (pairs_clause q (path a)) → (f : FailsTo a b) → e.level + 1 ≡ length (path a) → e.value ≡ f.last.value
    → Writes knows lines j owner numbers (take k entries ++ e ∷ []) q rows b
writes_failed knows lines j owner numbers entries q rows a b forms more k e problem_is beside known owner_is numbers_are in_rows rising entries_are covered from below line f level_is value_is =
    subst (λ (c : Account). Writes knows lines j owner numbers (take k entries ++ e ∷ []) q rows c) (sym f.new_is) (record {
      problem_is = problem_is;
      forms = forms ++ more;
      beside = beside;
      known = known;
      owner_is = owner_is;
      numbers_are = numbers_are;
      in_rows = in_rows;
      fresh_level = tt;
      rising = rising_snoc (take k entries) e (rising_take k entries rising) (subst (λ (n : ℕ). AreBelow n (take k entries)) (sym level_is) below);
      entries_are = entries_snoc q after (forms ++ more) (take k entries) e
          (entries_below q a after forms (forms ++ more) (length (path a)) (take k entries) below old_entry (entries_take q a forms k entries entries_are)) new_entry;
      covered = λ level vertex value vertex_is refuted. cover level vertex value (failed_refuted f.above f.last a.vertex a.refuted level vertex value vertex_is refuted)
          (level_within f.above (Some f.last.vertex) (inserted f.last.value f.last.refuted) level vertex vertex_is);
    })
  where
    after : Account
    after = failed a f.above f.last

    steps_is : (P : List Step → Type 0) → P (f.above ++ f.last ∷ []) → P a.steps
    steps_is P h = subst P (sym f.steps_are) h

    long : length (path a) ≡ length f.above + 1
    long = length-path_of a.steps ∙ ap (λ (ss : List Step). length ss) f.steps_are ∙ length-append f.above (f.last ∷ [])

    last_level : e.level ≡ length f.above
    last_level = omega (arith, level_is, long)

    path_is : path a ≡ path_of f.above ++ (f.last.vertex, f.last.value) ∷ []
    path_is = ap path_of f.steps_are ∙ path_of_more f.above f.last

    old_entry : (x : Refuted) → x.level < length (path a) → IsEntry q a forms x → IsEntry q (failed a f.above f.last) (forms ++ more) x
    old_entry x low i =
        let within : x.level ≤ length f.above = omega (arith, low, long) in
        record {
          vertex = i.vertex;
          vertex_is = failed_vertex f.above f.last a.vertex a.refuted (inserted f.last.value f.last.refuted) x.level i.vertex within
              (subst (λ (ss : List Step). (level_among ss a.vertex a.refuted x.level).vertex ≡ Some i.vertex) f.steps_are i.vertex_is);
          line = from_one_more forms more x.number (pairs_clause q (take x.level (path a) ++ (i.vertex, x.value) ∷ [])) i.line
              ∙ ap (λ (xs : List (ℕ × ℕ)). let o : Option Form = Some (pairs_clause q (xs ++ (i.vertex, x.value) ∷ [])) in o)
              (ap (λ (ss : List Step). take x.level (path_of ss)) f.steps_are ∙ path_deeper f.above f.last x.level within);
        }

    new_entry : IsEntry q (failed a f.above f.last) (forms ++ more) e
    new_entry = record {
      vertex = f.last.vertex;
      vertex_is = subst (λ (n : ℕ). (level_among f.above (Some f.last.vertex) (inserted f.last.value f.last.refuted) n).vertex ≡ Some f.last.vertex) (sym last_level)
          (failed_last f.above f.last.vertex (inserted f.last.value f.last.refuted));
      line = line ∙ ap (λ (xs : List (ℕ × ℕ)). let o : Option Form = Some (pairs_clause q xs) in o)
          (path_is ∙ ap (λ (xs : List (ℕ × ℕ)). xs ++ (f.last.vertex, f.last.value) ∷ []) (sym (take_all (path_of f.above) e.level (omega (arith, last_level, length-path_of f.above))))
          ∙ ap (λ (n : ℕ). take e.level (path_of f.above) ++ (f.last.vertex, n) ∷ []) (sym value_is));
    }

    cover : (level vertex value : ℕ) → ((r : ℕ) × ((level_among (f.above ++ f.last ∷ []) a.vertex a.refuted level).vertex ≡ Some r) × Contains (level_among (f.above ++ f.last ∷ []) a.vertex a.refuted level).refuted value)
        ⊎ ((level ≡ length f.above) × (f.last.value ≡ value)) → level ≤ length f.above → HasEntry (take k entries ++ e ∷ []) level value
    cover level vertex value (inl old) within =
        has_front (take k entries) (e ∷ []) level value (has_take entries k (length (path a)) level value from (omega (arith, within, long))
        (covered level old.0 value
        (subst (λ (ss : List Step). (level_among ss a.vertex a.refuted level).vertex ≡ Some old.0) (sym f.steps_are) old.1)
        (subst (λ (ss : List Step). Contains (level_among ss a.vertex a.refuted level).refuted value) (sym f.steps_are) old.2)))
    cover level vertex value (inr new) within =
        subst (λ (n : ℕ). HasEntry (take k entries ++ e ∷ []) n value) (last_level ∙ sym new.0)
        (subst (λ (n : ℕ). HasEntry (take k entries ++ e ∷ []) e.level n) (value_is ∙ new.1) (has_last (take k entries) e))

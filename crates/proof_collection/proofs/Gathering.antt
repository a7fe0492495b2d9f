-- The journals of logs are the parts of a log.
use Rattle.std.proofs.Common.{inl, inr, ◌⊎◌, ◌≡◌, ℕ, zero, suc, ◌+◌, ◌-◌, ◌<◌, ◌≤◌, List, [], ◌∷◌, length, map, Some, refl, sym, ap, subst, ◌∙◌, arith}
use Rattle.std.specs.Prelude.{slice_get, All}
use Rattle.std.proofs.lemmas.Bool.{cases_eq}
use Rattle.std.proofs.lemmas.List.{length-map}
use Rattle.std.proofs.lemmas.List.Elements.{All-get_or}
use Rattle.std.proofs.lemmas.Option.{slice_get_within, get_or_from_slice_get}
use Rattle.graph_theory.specs.Embedding.{Problem}
use Rattle.proof_theory.specs.Forms.{Form}
use Rattle.nogood_book.specs.declared.row.Row.{Row}
use Rattle.journals.specs.Keeping.{Keeping}
use Rattle.search_journal.specs.Lines.{Steps, Refutes}
use Rattle.search_journal.proofs.Frames.{beside_begun}
use Rattle.proof_collection.specs.declared.proof.Logged.{Logged}
use Rattle.proof_collection.specs.Making.{AreOfOwners, AreBy, IsFinisher, AreOfLogs}
use Rattle.proof_collection.specs.Parts.{StandsAt, ArePartsOf}

-- What refutes stands as the finisher's.
refuting : (lines : Problem) (q : Problem) (rows : List Row) (finisher place : ℕ) (j : Keeping) → Refutes lines j q rows → (forms : List Form) × StandsAt q rows finisher place j forms
refuting lines q rows finisher place j r = (r.forms, record { beside = r.beside; ends = λ e. record { last = r.last; last_is = r.last_is; plainly_false = r.plainly_false } })

-- ---- the root alone

pub root_parts : (q lines : Problem) (l : Logged) (j : Keeping) → l.journals.items ≡ j ∷ [] → l.rows.items ≡ [] → l.finisher ≡ 0 → j.owner ≡ 0 → Refutes lines j q [] → ArePartsOf q l
root_parts q lines l j journals rows finisher owner r = record {
  few = omega (arith, one);
  fit = omega (arith, ap length rows);
  owners = λ w i at. owned w i (subst (λ (js : List Keeping). slice_get js w ≡ Some i) journals at);
  workers = λ k row at. no_row k row (subst (λ (rs : List Row). slice_get rs k ≡ Some row) rows at);
  root = inl (record { rows_none = rows; one = one });
  finisher = omega (arith, finisher, one);
  each = λ w i at. each w i (subst (λ (js : List Keeping). slice_get js w ≡ Some i) journals at);
}
  where
    one : length l.journals.items ≡ 1
    one = ap length journals

    owned : (w : ℕ) (i : Keeping) → slice_get (j ∷ []) w ≡ Some i → i.owner ≡ w
    owned zero i at = let same : j ≡ i = cc in subst (λ (x : Keeping). x.owner ≡ 0) same owner
    owned (suc w) i at = absurd cc

    no_row : (k : ℕ) (row : Row) → slice_get [] k ≡ Some row → (0 < row.owner) × (row.owner < length l.journals.items)
    no_row k row at = absurd cc

    each : (w : ℕ) (i : Keeping) → slice_get (j ∷ []) w ≡ Some i → (forms : List Form) × StandsAt q l.rows.items l.finisher w i forms
    each zero i at =
        let same : j ≡ i = cc in
        subst (λ (x : Keeping). (forms : List Form) × StandsAt q l.rows.items l.finisher 0 x forms) same
        (refuting lines q l.rows.items l.finisher 0 j (subst (Refutes lines j q) (sym rows) r))
    each (suc w) i at = absurd cc

-- ---- all workers

module _ {L : Type 0} (journal : L → Keeping) (lines : L → Problem) (q : Problem) (rows : List Row) (logs : List L) (finisher : ℕ) where
  -- the log of a journal behind the first
  log_of : (xs : List L) (i : ℕ) (j : Keeping) → slice_get (map journal xs) i ≡ Some j → (x : L) × (slice_get xs i ≡ Some x) × (journal x ≡ j)
  log_of [] i j e = absurd cc
  log_of (x ∷ xs) zero j e = (x, refl, cc)
  log_of (x ∷ xs) (suc i) j e = log_of xs i j e

  -- what is so of all logs is so of that at a place
  at_place : (P : L → Type 0) (i : ℕ) (x : L) → All P logs → slice_get logs i ≡ Some x → P x
  at_place P i x all at = subst P (get_or_from_slice_get logs i x x at) (All-get_or P logs i x (slice_get_within logs i x at) all)

  each_log : All (λ x. Steps (lines x) (journal x) q rows) logs → 1 ≤ finisher → IsFinisher (λ x. Refutes (lines x) (journal x) q rows) logs finisher
      → (i : ℕ) (x : L) → slice_get logs i ≡ Some x → (forms : List Form) × StandsAt q rows finisher (suc i) (journal x) forms
  each_log steps some refutes i x at = by (cases_eq (suc i) finisher)
    where
      by : (suc i ≡ finisher) ⊎ (suc i ≡ finisher → ⊥) → (forms : List Form) × StandsAt q rows finisher (suc i) (journal x) forms
      by (inl same) =
          let place : i ≡ finisher - 1 = omega (arith, same) in
          refuting (lines x) q rows finisher (suc i) (journal x) (refutes x (subst (λ (k : ℕ). slice_get logs k ≡ Some x) place at))
      by (inr apart) =
          let s = at_place (λ y. Steps (lines y) (journal y) q rows) i x steps at in
          (s.forms, record { beside = s.beside; ends = λ e. absurd (apart e) })

  pub worker_parts : (l : Logged) → AreOfLogs journal logs l.journals.items → l.rows.items ≡ rows → l.finisher ≡ finisher → length logs ≤ 64 → length rows ≤ 4194304
      → AreOfOwners (λ x. (journal x).owner) logs → AreBy (length logs) rows → All (λ x. Steps (lines x) (journal x) q rows) logs → 1 ≤ finisher → finisher ≤ length logs
      → IsFinisher (λ x. Refutes (lines x) (journal x) q rows) logs finisher → ArePartsOf q l
  worker_parts l js rows_are finisher_is few fit owners authors steps some there refutes = record {
    few = omega (arith, many, few);
    fit = omega (arith, fit, ap length rows_are);
    owners = λ w j at. owned w j (placed w j at);
    workers = λ k r at. let a = authors k r (subst (λ (rs : List Row). slice_get rs k ≡ Some r) rows_are at) in (a.0, (let m = a.1 in omega (arith, m, many)));
    root = inr (λ j at. let same : js.first ≡ j = some_first j (placed 0 j at) in subst (λ (x : Keeping). x.steps ≡ []) same js.steps);
    finisher = omega (arith, there, finisher_is, many);
    each = λ w j at. subst (λ (rs : List Row). (forms : List Form) × StandsAt q rs l.finisher w j forms) (sym rows_are)
        (subst (λ (f : ℕ). (forms : List Form) × StandsAt q rows f w j forms) (sym finisher_is) (each w j (placed w j at)));
  }
    where
      many : length l.journals.items ≡ suc (length logs)
      many = ap length js.front ∙ ap (λ (n : ℕ). suc n) (length-map logs journal)

      placed : (w : ℕ) (j : Keeping) → slice_get l.journals.items w ≡ Some j → slice_get (js.first ∷ map journal logs) w ≡ Some j
      placed w j at = subst (λ (ks : List Keeping). slice_get ks w ≡ Some j) js.front at

      some_first : (j : Keeping) → slice_get (js.first ∷ map journal logs) 0 ≡ Some j → js.first ≡ j
      some_first j at = cc

      owned : (w : ℕ) (j : Keeping) → slice_get (js.first ∷ map journal logs) w ≡ Some j → j.owner ≡ w
      owned zero j at = subst (λ (x : Keeping). x.owner ≡ 0) (some_first j at) js.owner
      owned (suc i) j at =
          let x = log_of logs i j at in
          let next : i + 1 ≡ suc i = omega arith in
          subst (λ (y : Keeping). y.owner ≡ suc i) x.2 (owners i x.0 x.1 ∙ next)

      each : (w : ℕ) (j : Keeping) → slice_get (js.first ∷ map journal logs) w ≡ Some j → (forms : List Form) × StandsAt q rows finisher w j forms
      each zero j at =
          let bare = beside_begun q rows js.first js.steps js.notes (λ k n. let a = (authors k n.row n.row_is).0 in omega (arith, a, n.owner_is, js.owner)) in
          subst (λ (x : Keeping). (forms : List Form) × StandsAt q rows finisher 0 x forms) (some_first j at)
          ([], record { beside = bare; ends = λ e. absurd (omega (arith, e, some)) })
      each (suc i) j at =
          let x = log_of logs i j at in
          subst (λ (y : Keeping). (forms : List Form) × StandsAt q rows finisher (suc i) y forms) x.2 (each_log steps some refutes i x.0 x.1)

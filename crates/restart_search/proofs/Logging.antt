-- What was told of a search stays true at each of its steps, and its guesses are those of the path.

use Rattle.std.proofs.Common.{◌≡◌, ℕ, suc, ◌<◌, ◌≤◌, Bool, true, false, ltb, cond, List, [], ◌∷◌, ◌++◌, length, take, drop, Contains, Option, Some, None, refl, sym, ap, ◌∙◌, subst, arith, length-append, append_assoc, ◌⊎◌, inl, inr}
use Rattle.std.proofs.lemmas.Bool.{ltb-true}
use Rattle.std.proofs.lemmas.List.{get_or_append_left, take-append-drop}
use Rattle.graph_theory.specs.Embedding.{Problem}
use Rattle.search_theory.specs.Account.{Account, path, deepened, FailsTo}
use Rattle.domain_bits.specs.Removals.{State, full, undone}
use Rattle.sparse_set.specs.Removals as sparse
use Rattle.nogood_watch.specs.Nogoods as watched
use Rattle.nogood_book.specs.declared.row.Row.{Row}
use Rattle.nogood_book.specs.declared.row.RowKind.{RowKind}
use Rattle.nogood_book.specs.Rows.{Pairs, path_of, paths_after}
use Rattle.recorder.specs.declared.change.Cause.TheVariants as cause
use Rattle.recorder.specs.Recording.{Change, LeftOne, CountedSet, from_of, MayTake, IsAmong, HasGuess, NoNewGuess, cut, cut_at}
use Rattle.recorder.specs.Telling.{IsOf, NamesList, NamesUnit, KeepsNames, Told, begins, goes_on, Tells}
use Rattle.recorder.proofs.Telling.{tells_undone, tells_named}
use Rattle.recorder.specs.Holding.{listed, single, made_from, lists_in, singles_in, HoldsRows}
use Rattle.recorder.specs.declared.change.DeadEnd.{DeadEnd}
use Rattle.proof_logger.specs.Logging.{EndsBy, EndsPath}
use Rattle.restart_search.specs.declared.position.Moment.{Moment}
use Rattle.restart_search.specs.Searching.{Levels, Based}
use Rattle.restart_search.specs.Logging.{IsGuessAt, IsTold, IsLogged, LogsOn}
use Rattle.restart_search.proofs.Closing.{path_failed}
use Rattle.restart_search.proofs.Guessing.{path_deepened}
use Rattle.restart_search.proofs.Steps.{levels_length}

-- ---- when a change was told

-- before each change less had left than now
among_below : (q : Problem) (s : Option watched.State) (d : State) (cs : List Change) → Told q s d cs → (c : Change) → IsAmong c cs → from_of c < length d.removed
among_below q s _ _ (begins vertices values) e h = absurd h
among_below q s _ _ (goes_on old new cs c t changed) e (inl is) = subst (λ (x : Change). from_of x < length new.removed) is (omega (arith, changed.some, changed.leaves.from_is))
among_below q s _ _ (goes_on old new cs c t changed) e (inr h) = omega (arith, changed.some, among_below q s old cs t e h)

-- those that are kept at a mark were told before it
among_cut : (q : Problem) (s : Option watched.State) (d : State) (cs : List Change) (k : ℕ) → Told q s d cs → (c : Change) → IsAmong c (cut k cs) → (from_of c < k) × IsAmong c cs
among_cut q s _ _ k (begins vertices values) e h = absurd h
among_cut q s _ _ k (goes_on old new cs c t changed) e h = by (ltb (from_of c) k) refl (λ among. among_cut q s old cs k t e among) h
  where
    by : (b : Bool) → ltb (from_of c) k ≡ b → (IsAmong e (cut k cs) → (from_of e < k) × IsAmong e cs) → IsAmong e (cond b (c ∷ cs) (cut k cs)) → (from_of e < k) × IsAmong e (c ∷ cs)
    by true test before (inl is) = (subst (λ (x : Change). from_of x < k) is (ltb-true (from_of c) k test), inl is)
    by true test before (inr among) = (omega (arith, among_below q s old cs t e among, changed.leaves.from_is, ltb-true (from_of c) k test), inr among)
    by false test before among = let r = before among in (r.0, inr r.1)

guess_cut : (q : Problem) (s : Option watched.State) (d : State) (told : Option (List Change)) (k p t from : ℕ) → Tells q s d told → HasGuess (cut_at k told) p t from
    → (from < k) × HasGuess told p t from
guess_cut q s d None k p t from true_ h = absurd h
guess_cut q s d (Some cs) k p t from true_ h = among_cut q s d cs k true_ (LeftOne p (cause.Guess t) from) h

-- of full domains no guess was told
pub no_guess_full : (q : Problem) (s : Option watched.State) (vertices values : ℕ) (told : Option (List Change)) (p t from : ℕ) → Tells q s (full vertices values) told → HasGuess told p t from → ⊥
no_guess_full q s vertices values None p t from true_ h = h
no_guess_full q s vertices values (Some cs) p t from true_ h = absurd (omega (arith, among_below q s (full vertices values) cs true_ (LeftOne p (cause.Guess t) from) h))

-- ---- the guesses of a path

-- the last level's guess was told at its moment
guess_pop : (xs : List (ℕ × ℕ)) (x : ℕ × ℕ) (ks : List Moment) (k : Moment) (p t from : ℕ) → length ks ≡ length xs → from < k.domains
    → IsGuessAt (xs ++ x ∷ []) (ks ++ k ∷ []) p t from → IsGuessAt xs ks p t from
guess_pop [] x [] k p t from long less (inl h) = absurd (omega (arith, h.1, less))
guess_pop [] x [] k p t from long less (inr h) = absurd h
guess_pop [] x (j ∷ js) k p t from long less h = absurd (omega (arith, long))
guess_pop (y ∷ ys) x [] k p t from long less h = absurd (omega (arith, long))
guess_pop (y ∷ ys) x (j ∷ js) k p t from long less (inl h) = inl h
guess_pop (y ∷ ys) x (j ∷ js) k p t from long less (inr h) = inr (guess_pop ys x js k p t from (omega (arith, long)) less h)

-- one guess more
guess_push : (xs : List (ℕ × ℕ)) (x : ℕ × ℕ) (ks : List Moment) (k : Moment) (p t from : ℕ) → IsGuessAt xs ks p t from → IsGuessAt (xs ++ x ∷ []) (ks ++ k ∷ []) p t from
guess_push [] x ks k p t from h = absurd h
guess_push (y ∷ ys) x [] k p t from h = absurd h
guess_push (y ∷ ys) x (j ∷ js) k p t from (inl h) = inl h
guess_push (y ∷ ys) x (j ∷ js) k p t from (inr h) = inr (guess_push ys x js k p t from h)

guess_last : (xs : List (ℕ × ℕ)) (ks : List Moment) (k : Moment) (p t from : ℕ) → length ks ≡ length xs → k.domains ≡ from → IsGuessAt (xs ++ (p, t) ∷ []) (ks ++ k ∷ []) p t from
guess_last [] [] k p t from long at = inl (refl, at)
guess_last [] (j ∷ js) k p t from long at = absurd (omega (arith, long))
guess_last (y ∷ ys) [] k p t from long at = absurd (omega (arith, long))
guess_last (y ∷ ys) (j ∷ js) k p t from long at = inr (guess_last ys js k p t from (omega (arith, long)) at)

-- none was told before the lowest moment
guess_since : (q : Problem) (d : State) (s : sparse.State) (low : Moment) (above xs : List (ℕ × ℕ)) (ks : List Moment) (p t from : ℕ) → Levels q d s low above xs ks
    → IsGuessAt xs ks p t from → low.domains ≤ from
guess_since q d s low above [] [] p t from h g = absurd g
guess_since q d s low above (x ∷ xs) (k ∷ ks) p t from h (inl g) = omega (arith, h.0.domains, g.1)
guess_since q d s low above (x ∷ xs) (k ∷ ks) p t from h (inr g) = omega (arith, h.0.domains, guess_since q d s k (above ++ x ∷ []) xs ks p t from h.2 g)
guess_since q d s low above [] (k ∷ ks) p t from h g = absurd h
guess_since q d s low above (x ∷ xs) [] p t from h g = absurd h

-- each is of a pair of the path
on_path : (xs : List (ℕ × ℕ)) (ks : List Moment) (p t from : ℕ) → IsGuessAt xs ks p t from → Contains xs (p, t)
on_path [] ks p t from h = absurd h
on_path (x ∷ xs) [] p t from h = absurd h
on_path (x ∷ xs) (k ∷ ks) p t from (inl h) = (0, omega arith, h.0)
on_path (x ∷ xs) (k ∷ ks) p t from (inr h) = let c = on_path xs ks p t from h in (suc c.0, omega (arith, c.1), c.2)

-- ---- the steps of a search

-- the last guess is taken back
pub told_closed : (q : Problem) (n : Option watched.State) (d e : State) (s : sparse.State) (old new : Account) (marks ms : List Moment) (root k : Moment) (told after : Option (List Change))
    → Based q d s old marks root → FailsTo old new → marks ≡ ms ++ k ∷ [] → e ≡ undone d k.domains → after ≡ cut_at k.domains told
    → IsTold q n d (path old) marks told → IsTold q n e (path new) ms after
told_closed q n d e s old new marks ms root k told after based f marks_are undone_is cut_is t = record {
  told = subst (λ (x : State). Tells q n x after) (sym undone_is) (subst (Tells q n (undone d k.domains)) (sym cut_is) (tells_undone q n d told k.domains t.told));
  guesses = λ p u from h. by p u from (guess_cut q n d told k.domains p u from t.told (subst (λ (cs : Option (List Change)). HasGuess cs p u from) cut_is h));
}
  where
    long : length (ms ++ k ∷ []) ≡ length (path new ++ (f.last.vertex, f.last.value) ∷ [])
    long = ap length (sym marks_are) ∙ levels_length q d s root [] (path old) marks based.levels ∙ ap length (path_failed old new f)

    at_last : (p u from : ℕ) → IsGuessAt (path old) marks p u from → IsGuessAt (path new ++ (f.last.vertex, f.last.value) ∷ []) (ms ++ k ∷ []) p u from
    at_last p u from h =
        subst (λ (ks : List Moment). IsGuessAt (path new ++ (f.last.vertex, f.last.value) ∷ []) ks p u from) marks_are
        (subst (λ (xs : List (ℕ × ℕ)). IsGuessAt xs marks p u from) (path_failed old new f) h)

    by : (p u from : ℕ) → (from < k.domains) × HasGuess told p u from → IsGuessAt (path new) ms p u from
    by p u from h =
        guess_pop (path new) (f.last.vertex, f.last.value) ms k p u from
        (omega (arith, long, length-append ms (k ∷ []), length-append (path new) ((f.last.vertex, f.last.value) ∷ []))) h.0 (at_last p u from (t.guesses p u from h.1))

-- all guesses are
pub told_restarted : (q : Problem) (n : Option watched.State) (d e : State) (s : sparse.State) (a : Account) (marks ms : List Moment) (xs : List (ℕ × ℕ)) (root : Moment) (told after : Option (List Change))
    → Based q d s a marks root → e ≡ undone d root.domains → after ≡ cut_at root.domains told → IsTold q n d (path a) marks told → IsTold q n e xs ms after
told_restarted q n d e s a marks ms xs root told after based undone_is cut_is t = record {
  told = subst (λ (x : State). Tells q n x after) (sym undone_is) (subst (Tells q n (undone d root.domains)) (sym cut_is) (tells_undone q n d told root.domains t.told));
  guesses = λ p u from h. absurd (by p u from (guess_cut q n d told root.domains p u from t.told (subst (λ (cs : Option (List Change)). HasGuess cs p u from) cut_is h)));
}
  where
    by : (p u from : ℕ) → (from < root.domains) × HasGuess told p u from → ⊥
    by p u from h = absurd (omega (arith, h.0, guess_since q d s root [] (path a) marks p u from based.levels (t.guesses p u from h.1)))

-- a guess that is told is new or was told before
guess_given : (old new : Option (List Change)) (p t at r u from : ℕ) → MayTake old new (LeftOne p (cause.Guess t) at) → HasGuess new r u from
    → HasGuess old r u from ⊎ ((p ≡ r) × (t ≡ u) × (at ≡ from))
guess_given old new p t at r u from (inr same) h = inl (subst (λ (cs : Option (List Change)). HasGuess cs r u from) same h)
guess_given old new p t at r u from (inl (inr none)) h = absurd (subst (λ (cs : Option (List Change)). HasGuess cs r u from) none h)
guess_given None new p t at r u from (inl (inl kept)) h = absurd (subst (λ (cs : Option (List Change)). HasGuess cs r u from) kept h)
guess_given (Some cs) new p t at r u from (inl (inl kept)) h = by (subst (λ (es : Option (List Change)). HasGuess es r u from) kept h)
  where
    by : IsAmong (LeftOne r (cause.Guess u) from) (LeftOne p (cause.Guess t) at ∷ cs) → HasGuess (Some cs) r u from ⊎ ((p ≡ r) × (t ≡ u) × (at ≡ from))
    by (inl is) =
        let first : p ≡ r = cc in
        let second : t ≡ u = cc in
        let third : at ≡ from = cc in
        inr (first, second, third)
    by (inr among) = inl among

-- a guess, and what propagation makes of it
pub told_guessed : (q : Problem) (n m : Option watched.State) (d mid e : State) (s : sparse.State) (a new : Account) (marks ms : List Moment) (root k : Moment) (p t : ℕ)
    (told between after : Option (List Change)) → Based q d s a marks root → new ≡ deepened a p t → ms ≡ marks ++ k ∷ [] → k.domains ≡ length d.removed
    → (Tells q n d told → Tells q n mid between) → MayTake told between (LeftOne p (cause.Guess t) (length d.removed))
    → (Tells q n mid between → Tells q m e after) → NoNewGuess between after → IsTold q n d (path a) marks told → IsTold q m e (path new) ms after
told_guessed q n m d mid e s a new marks ms root k p t told between after based new_is ms_are now given took on stay old = record {
  told = on (given old.told);
  guesses = λ r u from h. placed r u from (by r u from (guess_given told between p t (length d.removed) r u from took (stay r u from h)));
}
  where
    by : (r u from : ℕ) → HasGuess told r u from ⊎ ((p ≡ r) × (t ≡ u) × (length d.removed ≡ from)) → IsGuessAt (path a ++ (p, t) ∷ []) (marks ++ k ∷ []) r u from
    by r u from (inl h) = guess_push (path a) (p, t) marks k r u from (old.guesses r u from h)
    by r u from (inr h) =
        subst (λ (x : ℕ). IsGuessAt (path a ++ (x, t) ∷ []) (marks ++ k ∷ []) r u from) (sym h.0)
        (subst (λ (y : ℕ). IsGuessAt (path a ++ (r, y) ∷ []) (marks ++ k ∷ []) r u from) (sym h.1)
        (guess_last (path a) marks k r u from (levels_length q d s root [] (path a) marks based.levels) (now ∙ h.2)))

    placed : (r u from : ℕ) → IsGuessAt (path a ++ (p, t) ∷ []) (marks ++ k ∷ []) r u from → IsGuessAt (path new) ms r u from
    placed r u from h =
        subst (λ (ks : List Moment). IsGuessAt (path new) ks r u from) (sym ms_are)
        (subst (λ (xs : List (ℕ × ℕ)). IsGuessAt xs (marks ++ k ∷ []) r u from) (sym (ap path new_is ∙ path_deepened a p t)) h)

-- a propagation without a guess
pub told_on : (q : Problem) (n m : Option watched.State) (d e : State) (xs : List (ℕ × ℕ)) (marks : List Moment) (told after : Option (List Change)) → (Tells q n d told → Tells q m e after)
    → NoNewGuess told after → IsTold q n d xs marks told → IsTold q m e xs marks after
told_on q n m d e xs marks told after on stay t = record { told = on t.told; guesses = λ p u from h. t.guesses p u from (stay p u from h) }

-- before the first guess
pub told_fresh : (q : Problem) (n : Option watched.State) (d : State) (xs : List (ℕ × ℕ)) (marks : List Moment) (told : Option (List Change)) → n ≡ None → IsTold q None d [] [] told → IsTold q n d xs marks told
told_fresh q n d xs marks told none t = record {
  told = subst (λ (m : Option watched.State). Tells q m d told) (sym none) t.told;
  guesses = λ p u from h. absurd (t.guesses p u from h);
}

-- at full domains, and after steps without a guess
pub told_first : (q : Problem) (vertices values : ℕ) (e : State) (told after : Option (List Change)) → Tells q None (full vertices values) told → (Tells q None (full vertices values) told → Tells q None e after)
    → NoNewGuess told after → IsTold q None e [] [] after
told_first q vertices values e told after t on stay = record {
  told = on t;
  guesses = λ p u from h. no_guess_full q None vertices values told p u from t (stay p u from h);
}

-- what is logged, by the answer
pub logs_true : (b : Bool) (q : Problem) (rows : List Row) (n : Option watched.State) (d : State) (a : Account) (marks : List Moment) (told : Option (List Change)) (Writes : Problem → List Row → Account → Type 0)
    (Refutes : Problem → List Row → Type 0) → b ≡ true → LogsOn b q rows n d a marks told Writes Refutes → IsLogged q rows n d a marks told Writes
logs_true true q rows n d a marks told Writes Refutes is h = h
logs_true false q rows n d a marks told Writes Refutes is h = cc

pub logs_false : (b : Bool) (q : Problem) (rows : List Row) (n : Option watched.State) (d : State) (a : Account) (marks : List Moment) (told : Option (List Change)) (Writes : Problem → List Row → Account → Type 0)
    (Refutes : Problem → List Row → Type 0) → b ≡ false → LogsOn b q rows n d a marks told Writes Refutes → Refutes q rows
logs_false false q rows n d a marks told Writes Refutes is h = h
logs_false true q rows n d a marks told Writes Refutes is h = cc

-- ---- a dead end

pub ends_path : (q : Problem) (rows : List Row) (n : Option watched.State) (d : State) (a : Account) (marks : List Moment) (told : Option (List Change)) (short : Option CountedSet) (end : DeadEnd)
    → IsOf q d → HoldsRows rows n → IsTold q n d (path a) marks told → EndsBy end q n d told short a → EndsPath q rows told short a end
ends_path q rows n d a marks told short end is_of holds t ends = record {
  domains = d;
  nogoods = n;
  is_of = is_of;
  holds = holds;
  told = t.told;
  guesses = λ p u from h. on_path (path a) marks p u from (t.guesses p u from h);
  ends = ends;
}

-- ---- names of nogoods as rows are taken up

made_from-append : {A : Type 0} (f : RowKind → Pairs → ℕ → List A) (known : List Pairs) (xs ys : List Row)
    → made_from f known (xs ++ ys) ≡ made_from f known xs ++ made_from f (paths_after known xs) ys
made_from-append f known [] ys = refl
made_from-append f known (x ∷ xs) ys =
    ap (λ zs. f x.kind (path_of known x) (length known) ++ zs) (made_from-append f (known ++ path_of known x ∷ []) xs ys)
    ∙ sym (append_assoc (f x.kind (path_of known x) (length known)) (made_from f (known ++ path_of known x ∷ []) xs) (made_from f (paths_after (known ++ path_of known x ∷ []) xs) ys))

list_named : (xs more : List watched.Nogood) (name : ℕ) (pairs : List (ℕ × ℕ)) → NamesList xs name pairs → NamesList (xs ++ more) name pairs
list_named xs more name pairs h = record {
  place = h.place;
  within = omega (arith, h.within, length-append xs more);
  name_is = ap (λ (x : watched.Nogood). x.name) (get_or_append_left xs more _ h.place h.within) ∙ h.name_is;
  pairs_are = ap (λ (x : watched.Nogood). x.literals) (get_or_append_left xs more _ h.place h.within) ∙ h.pairs_are;
}

unit_named : (xs more : List (ℕ × ℕ × ℕ)) (name : ℕ) (pairs : List (ℕ × ℕ)) → NamesUnit xs name pairs → NamesUnit (xs ++ more) name pairs
unit_named xs more name pairs h = record {
  place = h.place;
  within = omega (arith, h.within, length-append xs more);
  name_is = ap (λ (x : ℕ × ℕ × ℕ). x.2) (get_or_append_left xs more _ h.place h.within) ∙ h.name_is;
  pair_is = ap (λ (x : ℕ × ℕ × ℕ). (x.0, x.1) ∷ []) (get_or_append_left xs more _ h.place h.within) ∙ h.pair_is;
}

names_more : (n m : Option watched.State) (lists : List watched.Nogood) (singles : List (ℕ × ℕ × ℕ)) → lists_in m ≡ lists_in n ++ lists → singles_in m ≡ singles_in n ++ singles → KeepsNames n m
names_more None m lists singles ls ss name pairs h = absurd h
names_more (Some s) (Some r) lists singles ls ss name pairs (inl h) = inl (subst (λ (ns : List watched.Nogood). NamesList ns name pairs) (sym ls) (list_named s.nogoods lists name pairs h))
names_more (Some s) (Some r) lists singles ls ss name pairs (inr h) = inr (subst (λ (us : List (ℕ × ℕ × ℕ)). NamesUnit us name pairs) (sym ss) (unit_named s.units singles name pairs h))
names_more (Some s) None lists singles ls ss name pairs (inl h) = absurd (omega (arith, ap length ls, length-append s.nogoods lists, h.within))
names_more (Some s) None lists singles ls ss name pairs (inr h) = absurd (omega (arith, ap length ss, length-append s.units singles, h.within))

-- where more rows are held, names are kept
pub names_held : (rows : List Row) (k : ℕ) (n m : Option watched.State) → HoldsRows (take k rows) n → HoldsRows rows m → KeepsNames n m
names_held rows k n m old new =
    names_more n m (made_from listed (paths_after [] (take k rows)) (drop k rows)) (made_from single (paths_after [] (take k rows)) (drop k rows))
    (new.lists ∙ ap (made_from listed []) whole ∙ made_from-append listed [] (take k rows) (drop k rows) ∙ ap (λ (zs : List watched.Nogood). zs ++ made_from listed (paths_after [] (take k rows)) (drop k rows)) (sym old.lists))
    (new.singles ∙ ap (made_from single []) whole ∙ made_from-append single [] (take k rows) (drop k rows) ∙ ap (λ (zs : List (ℕ × ℕ × ℕ)). zs ++ made_from single (paths_after [] (take k rows)) (drop k rows)) (sym old.singles))
  where
    whole : rows ≡ take k rows ++ drop k rows
    whole = sym (take-append-drop k rows)

-- so what was told is true with more rows held
pub told_named : (q : Problem) (rows : List Row) (k : ℕ) (n m : Option watched.State) (d : State) (told : Option (List Change)) → HoldsRows (take k rows) n → HoldsRows rows m → Tells q n d told → Tells q m d told
told_named q rows k n m d told old new t = tells_named q n m d told (names_held rows k n m old new) t

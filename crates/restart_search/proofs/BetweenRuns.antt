-- The root between two runs, and how a run ends.

use Rattle.std.proofs.Common.{◌≡◌, ◌≢◌, ℕ, ◌≤◌, ◌∷◌, arith, Bool, true, false, List, [], ◌++◌, length, take, Option, Result, Ok, Err, IfOk, refl, sym, ap, ◌∙◌, subst}
use Rattle.std.proofs.lemmas.List.{length-take-le, take-append-le}
use Rattle.std.proofs.Math.Seq.{take-append_seam}
use Rattle.graph_theory.specs.Embedding.{Problem}
use Rattle.search_theory.specs.Account.{Account, restarted, Honest}
use Rattle.search_theory.specs.Claims.{Quiet}
use Rattle.domain_bits.specs.Removals.{State, in_domain, undone}
use Rattle.sparse_set.specs.Removals as sparse
use Rattle.nogood_watch.specs.Nogoods as watched
use Rattle.nogood_book.specs.declared.row.Row.{Row}
use Rattle.nogood_book.specs.Rows as book
use Rattle.nogood_book.specs.Places.{StartsWith}
use Rattle.nogood_book.specs.Facts.{Facts}
use Rattle.recorder.specs.Holding.{HoldsRows}
use Rattle.propagation.specs.Propagation.{AreCalm, Narrows, LeavesPast}
use Rattle.propagation.specs.Acting.{AreActedOn}
use Rattle.propagation.proofs.Narrowing.{is_of_narrowed}
use Rattle.restart_search.specs.declared.position.Moment.{Moment}
use Rattle.restart_search.specs.declared.outcome.Outcome.{Outcome}
use Rattle.restart_search.specs.declared.outcome.Outcome.TheVariants.{Found, Refuted, Spent, Stopped, Interrupted, NoMemory}
use Rattle.restart_search.specs.Acting.{Acting}
use Rattle.restart_search.specs.Sharing.{KeepsUp}
use Rattle.restart_search.specs.declared.outcome.Stage.{Stage}
use Rattle.restart_search.specs.declared.outcome.Stage.TheVariants.{Fresh, Halfway, Over}
use Rattle.restart_search.specs.Logging.{IfRefuted, LoggedAt}
use Rattle.worker_gate.specs.Answers.{NoteView}
use Rattle.restart_search.specs.Searching.{stage_after, Sound, IsNow, IsAtRoot, NotBegun, Begun, AtStage, TookUp, BeganAgain, Ends, IsTrueFor, IfStopped, IfInterrupted, IsNotStopped, FoundOf, Leaves, Search, IsPaused}
use Rattle.restart_search.proofs.Beginning.{sound_fresh}
use Rattle.restart_search.proofs.Closing.{sound_restarted, rest_again}
use Rattle.restart_search.proofs.Moments.{acting_fresh}
use Rattle.restart_search.proofs.KeepingUp.{rows_in_force}
use Rattle.propagation.proofs.Acting.{nothing_left}

-- ---- the root

-- undone to the root's moment, a search stands at the root
pub at_root_restarted : (q : Problem) (d : State) (s : sparse.State) (a : Account) (marks : List Moment) (root : Moment) → Sound q d s a marks root → Honest q (restarted a)
    → IsAtRoot q (undone d root.domains) (sparse.undone s root.past) (restarted a) [] root
at_root_restarted q d s a marks root sound honest =
    let told = sound_restarted q d s a marks root sound honest in
    record {
      is_of = told.1.based.is_of;
      honest = honest;
      no_path = refl;
      no_marks = refl;
      now = record {
        domains_is = sym (length-take-le root.domains d.removed told.0.domains);
        past_is = sym (length-take-le root.past s.removed told.0.past);
      };
      rest = told.1.here;
      left = told.1.left;
    }

-- so it does after a propagation there, with a new moment
pub at_root_again : (q : Problem) (d e : State) (s r : sparse.State) (a : Account) (marks : List Moment) (root now : Moment) → IsAtRoot q d s a marks root → Narrows q d e
    → Quiet q (in_domain e) → AreCalm q e → LeavesPast q e r → IsNow e r now → IsAtRoot q e r a marks now
at_root_again q d e s r a marks root now at n quiet calm left is = record {
  is_of = is_of_narrowed q d e n at.is_of;
  honest = at.honest;
  no_path = at.no_path;
  no_marks = at.no_marks;
  now = is;
  rest = rest_again q d e at.rest n quiet calm;
  left = left;
}

-- a search begins there
pub begun_at_root : (q : Problem) (n : Option watched.State) (d : State) (s : sparse.State) (a : Account) (marks : List Moment) (root : Moment) (f : Facts) → IsAtRoot q d s a marks root
    → AreActedOn d n → book.Sound q f.seen → HoldsRows f.seen n → KeepsUp f a.run → Begun q n d s a marks root f
begun_at_root q n d s a marks root f at acted rows holds keeps = record {
  sound = sound_fresh q d s a marks root at.no_marks at.honest at.no_path at.now at.is_of at.rest at.left;
  acting = subst (λ (ks : List Moment). Acting d n ks root) (sym at.no_marks) (acting_fresh d n root at.now.domains_is acted);
  rows = rows;
  holds = holds;
  keeps = keeps;
}

-- what taking up the book has left, where the search keeps up
pub began_again : {E : Type 0} (answer : Result Bool E) (q : Problem) (n : Option watched.State) (d : State) (s : sparse.State) (a : Account) (marks : List Moment) (root : Moment) (f : Facts)
    → IfOk answer (λ some. TookUp some q n d s a marks root f.seen) → KeepsUp f a.run → IfOk answer (λ some. BeganAgain some q n d s a marks root f)
began_again (Ok true) q n d s a marks root f h keeps = begun_at_root q n d s a marks root f h.0 h.1 h.2 h.3 keeps
began_again (Ok false) q n d s a marks root f h keeps = h
began_again (Err e) q n d s a marks root f h keeps = tt

-- a run that has begun, where embeddings are left
pub goes_on : (b : Bool) (q : Problem) (n : Option watched.State) (d : State) (s : sparse.State) (a : Account) (marks : List Moment) (root : Moment) (f : Facts)
    → b ≡ true → BeganAgain b q n d s a marks root f → Begun q n d s a marks root f
goes_on true q n d s a marks root f is h = h
goes_on false q n d s a marks root f is h = cc

-- a worker that has not begun, and one that was stopped
pub fresh_of : (stage : Stage) (q : Problem) (n : Option watched.State) (d : State) (s : sparse.State) (a : Account) (marks : List Moment) (root : Moment) (f : Facts)
    → stage ≡ Fresh → AtStage stage q n d s a marks root f → NotBegun q n d s a marks root
fresh_of Fresh q n d s a marks root f is h = h
fresh_of Halfway q n d s a marks root f is h = cc
fresh_of Over q n d s a marks root f is h = cc

pub halfway_of : (stage : Stage) (q : Problem) (n : Option watched.State) (d : State) (s : sparse.State) (a : Account) (marks : List Moment) (root : Moment) (f : Facts)
    → stage ≡ Halfway → AtStage stage q n d s a marks root f → Begun q n d s a marks root f
halfway_of Fresh q n d s a marks root f is h = cc
halfway_of Halfway q n d s a marks root f is h = h
halfway_of Over q n d s a marks root f is h = cc

-- before its last run has ended a search is honest
pub honest_at : (stage : Stage) (q : Problem) (n : Option watched.State) (d : State) (s : sparse.State) (a : Account) (marks : List Moment) (root : Moment) (f : Facts)
    → stage ≢ Over → AtStage stage q n d s a marks root f → Honest q a
honest_at Fresh q n d s a marks root f open_ h = h.at_root.honest
honest_at Halfway q n d s a marks root f open_ h = h.sound.based.honest
honest_at Over q n d s a marks root f open_ h = absurd (open_ refl)

-- ---- rows that were seen, among more

pub take_seen : (more rows : List Row) (k : ℕ) → StartsWith more rows → k ≤ length rows → take k more ≡ take k rows
take_seen more rows k starts within = ap (take k) starts.1 ∙ take-append-le k rows starts.0 within

pub take_all_seen : (more rows : List Row) (k : ℕ) → StartsWith more rows → k ≡ length rows → take k more ≡ rows
take_all_seen more rows k starts is = ap (take k) starts.1 ∙ ap (λ (n : ℕ). take n (rows ++ starts.0)) is ∙ take-append_seam rows starts.0

-- ---- endings

-- what holds before an ending is left after it, unless nothing can go on
pub leaves_of : (o : Outcome) (P : Type 0) → P → Leaves o P
leaves_of (Found m) P p = p
leaves_of Refuted P p = tt
leaves_of Spent P p = p
leaves_of (Stopped n) P p = p
leaves_of Interrupted P p = p
leaves_of NoMemory P p = tt

pub leaves_map : (o : Outcome) (P Q : Type 0) → (P → Q) → Leaves o P → Leaves o Q
leaves_map (Found m) P Q f p = f p
leaves_map Refuted P Q f p = tt
leaves_map Spent P Q f p = f p
leaves_map (Stopped n) P Q f p = f p
leaves_map Interrupted P Q f p = f p
leaves_map NoMemory P Q f p = tt

pub found_ends : (o : Outcome) (q : Problem) (a : Account) → FoundOf q o → Ends o q a
found_ends (Found m) q a h = h
found_ends Refuted q a h = absurd h
found_ends Spent q a h = absurd h
found_ends (Stopped n) q a h = absurd h
found_ends Interrupted q a h = absurd h
found_ends NoMemory q a h = tt

pub found_alone : (o : Outcome) (q : Problem) → FoundOf q o → IsNotStopped o
found_alone (Found m) q h = tt
found_alone Refuted q h = tt
found_alone Spent q h = tt
found_alone (Stopped n) q h = absurd h
found_alone Interrupted q h = absurd h
found_alone NoMemory q h = tt

-- an embedding that is found was not stopped at
pub found_note : (o : Outcome) (q : Problem) (P : NoteView → Type 0) → FoundOf q o → IfStopped o P
found_note (Found m) q P h = tt
found_note Refuted q P h = tt
found_note Spent q P h = tt
found_note (Stopped n) q P h = absurd h
found_note Interrupted q P h = absurd h
found_note NoMemory q P h = tt

-- nor interrupted
pub found_closed : (o : Outcome) (q : Problem) (P : Type 0) → FoundOf q o → IfInterrupted o P
found_closed (Found m) q P h = tt
found_closed Refuted q P h = tt
found_closed Spent q P h = tt
found_closed (Stopped n) q P h = tt
found_closed Interrupted q P h = absurd h
found_closed NoMemory q P h = tt

pub ends_true : (o : Outcome) (q : Problem) (a : Account) → Ends o q a → IsTrueFor q o
ends_true (Found m) q a h = h
ends_true Refuted q a h = h
ends_true Spent q a h = tt
ends_true (Stopped n) q a h = tt
ends_true Interrupted q a h = tt
ends_true NoMemory q a h = tt

-- an embedding that is found refutes nothing
pub found_refutes : (o : Outcome) (q : Problem) (P : Type 0) → FoundOf q o → IfRefuted o P
found_refutes (Found m) q P h = tt
found_refutes Refuted q P h = absurd h
found_refutes Spent q P h = absurd h
found_refutes (Stopped n) q P h = absurd h
found_refutes Interrupted q P h = absurd h
found_refutes NoMemory q P h = tt

-- what holds between two runs where it may go on, and after the last one
pub logged_after : (o : Outcome) (A B : Type 0) → Leaves o A → B → LoggedAt (stage_after o) A B
logged_after (Found m) A B a b = b
logged_after Refuted A B a b = b
logged_after Spent A B a b = b
logged_after (Stopped n) A B a b = a
logged_after Interrupted A B a b = a
logged_after NoMemory A B a b = b

-- before a run
pub logged_open : (s : Stage) (A B : Type 0) → s ≢ Over → LoggedAt s A B → A
logged_open Fresh A B open_ h = h
logged_open Halfway A B open_ h = h
logged_open Over A B open_ h = absurd (open_ refl)

pub open_of : {S L : Type 0} (v w : Search S L) → v ≡ w → w.stage ≢ Over → v.stage ≢ Over
open_of {S = S} {L = L} v w same open_ = λ over. open_ (sym (ap stage_of same) ∙ over)
  where
    stage_of : Search S L → Stage
    stage_of x = x.stage

-- a list without length is empty
pub empty_of : {A : Type 0} (xs : List A) → length xs ≡ 0 → xs ≡ []
empty_of [] none = refl
empty_of (x ∷ xs) none = absurd (omega (arith, none))

-- a search that has paused
pub paused_of : {S L : Type 0} (w : Search S L) (o : Outcome) (n : Option watched.State) (s : sparse.State) (marks : List Moment) (root : Moment)
    → Leaves o (Begun w.problem n w.domains s w.account marks root w.facts) → Leaves o (IsPaused w)
paused_of w o n s marks root left = leaves_map o (Begun w.problem n w.domains s w.account marks root w.facts) (IsPaused w) paused left
  where
    paused : Begun w.problem n w.domains s w.account marks root w.facts → IsPaused w
    paused b = record {
      rest = b.sound.here;
      in_force = rows_in_force w.problem w.domains w.facts.seen n b.rows b.holds (nothing_left w.domains n b.acting.here);
      keeps = b.keeps;
    }

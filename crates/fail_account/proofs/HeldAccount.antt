-- What each event does to the fields that hold an account.

use Rattle.std.proofs.Common.{◌≡◌, ℕ, zero, suc, ◌+◌, ◌-◌, ◌*◌, ◌/◌, ◌^◌, ◌<◌, ◌≤◌, ◌==◌, Bool, true, false, not, ◌&&◌, ◌||◌, nat_lt, if◌then◌else◌, List, [], ◌∷◌, ◌++◌, length, get_or, take, Option, Some, None, refl, sym, ap, ◌∙◌, subst, ◌⊎◌, inl, inr, arith, length-append}
use Rattle.std.proofs.Math.ListN.{replicate}
use Rattle.std.proofs.lemmas.Bool.{cases_lt, cases_eq, eq-eqb, ne_eqb}
use native.Mathlib.Nat.{mul-le-mul_right}
use Rattle.graph_theory.specs.Graph.{size}
use Rattle.graph_theory.specs.Embedding.{Problem}
use Rattle.graph_theory.specs.Path.{NotOn, Dead}
use Rattle.bit_rows.specs.BitRows.{words_for}
use Rattle.graph_rows.specs.Held.{marked}
use Rattle.bit_rows.proofs.Writing.{has-zeros}
use Rattle.search_theory.specs.Bounds.{cutoff}
use Rattle.search_theory.specs.Account.{Step, Account, path, fresh, inserted, MayGuess, deepened, failed, FailsTo, restarted, Deepen, Fail, Restart, Honest, InRange}
use Rattle.search_theory.specs.Remaining.{Bounded, remaining}
use Rattle.search_theory.proofs.Refuted.{lawful_deepened, lawful_failed, lawful_restarted}
use Rattle.search_theory.proofs.Left.{bounded_fresh, bounded_deepened, Fails, fails_of, bounded_failed, bounded_restarted, remaining_deepened, remaining_failed, remaining_restarted}
use Rattle.fail_account.specs.Held.{refuted_at, steps_from, held, Kept}
use Rattle.fail_account.specs.Rows.{Clears, Refutes}
use Rattle.fail_account.proofs.Members.{members_off, off_members, members_few, members_put}
use Rattle.fail_account.proofs.Marks.{marked_zero, marked_same}
use Rattle.fail_account.proofs.Levels.{path_of-steps, length-steps, refuted_none, steps_same, steps_push, is_path_push, is_path_front, not_on_last, in_range_push, in_range_front, unmarked_push, unmarked_front, unmarked_same}
use Rattle.fail_account.proofs.Distinct.{path_few, path_fewer}

-- a value of the target is within a row
pub in_row : (target width t : ℕ) → width ≡ words_for target → t < target → t < 64 * width
in_row target width t is t_in = omega arith

-- accounts of equal parts are equal
same_held : (pattern target budget count run all count' all' : ℕ) (ss ss' : List Step) (v : Option ℕ) (us us' : List ℕ) → ss ≡ ss' → us ≡ us' → count ≡ count' → all ≡ all'
    → ◌≡◌ {A = Account} (record { pattern = pattern; target = target; budget = budget; steps = ss; vertex = v; refuted = us; count = count; run = run; all = all })
    (record { pattern = pattern; target = target; budget = budget; steps = ss'; vertex = v; refuted = us'; count = count'; run = run; all = all' })
same_held pattern target budget count run all count' all' ss ss' v us us' a b c d = rw (a, b, c, d) refl

-- ---- a new account

pub fresh_held : (pattern target budget width : ℕ) (words : List ℕ) → words ≡ replicate ((pattern + 1) * width) 0
    → held pattern target budget [] words width None 0 1 0 ≡ fresh pattern target budget
fresh_held pattern target budget width words is =
    same_held pattern target budget 0 1 0 0 0 [] [] None (refuted_at words width target 0) [] refl
    (refuted_none words width target 0 (λ t t_in. rw is (has-zeros ((pattern + 1) * width) (0 * (64 * width) + t)))) refl refl

pub kept_fresh : (pattern target budget width limit capacity : ℕ) (words : List ℕ) → width ≡ words_for target → words ≡ replicate ((pattern + 1) * width) 0
    → length words ≡ (pattern + 1) * width → limit ≡ 128 → pattern ≤ capacity → budget < 2 ^ 63
    → Kept pattern target budget [] words width None 0 1 0 limit capacity
kept_fresh pattern target budget width limit capacity words width_is is long limit_is room modest = record {
  width_is = width_is;
  long = long;
  vertices = tt;
  range = tt;
  open_at = tt;
  unmarked = tt;
  padded = λ i t i_in t_past t_in. rw is (has-zeros ((pattern + 1) * width) (i * (64 * width) + t));
  clear = λ i t low i_in t_in. rw is (has-zeros ((pattern + 1) * width) (i * (64 * width) + t));
  bounded = subst (λ (a : Account). Bounded a) (sym (fresh_held pattern target budget width words is)) (bounded_fresh pattern target budget);
  room = room;
  limit_is = limit_is;
  modest = modest;
}

pub honest_fresh : (q : Problem) (budget : ℕ) → Honest q (fresh (size q.pattern) (size q.target) budget)
honest_fresh q budget = record {
  pattern_is = refl;
  target_is = refl;
  reached = record { events = []; lead = refl };
  lawful = record { steps = tt; level = refl };
}

-- ---- a guess

-- a guess that may be taken finds room on the path
pub room_to_deepen : (pattern target budget : ℕ) (path : List (ℕ × ℕ)) (words : List ℕ) (width : ℕ) (v : Option ℕ) (count run all limit capacity : ℕ) (q : Problem) (p t : ℕ)
    → Kept pattern target budget path words width v count run all limit capacity → MayGuess q (held pattern target budget path words width v count run all) p t → length path < pattern
room_to_deepen pattern target budget path words width v count run all limit capacity q p t kept may =
    path_fewer pattern target path p t kept.vertices kept.range (subst (λ (xs : List (ℕ × ℕ)). NotOn xs p) (path_of-steps words width target 0 path) may.new_vertex) may.vertex_in may.value_in

pub deepened_held : (pattern target budget : ℕ) (path : List (ℕ × ℕ)) (words : List ℕ) (width : ℕ) (v : Option ℕ) (count run all limit capacity : ℕ) (p t : ℕ)
    → Kept pattern target budget path words width v count run all limit capacity → length path < pattern
    → held pattern target budget (path ++ (p, t) ∷ []) words width None count run all ≡ deepened (held pattern target budget path words width v count run all) p t
deepened_held pattern target budget path words width v count run all limit capacity p t kept few =
    let at_end : length (path ++ (p, t) ∷ []) ≡ length path + 1 = length-append path ((p, t) ∷ []) in
    same_held pattern target budget count run all count all
    (steps_from words width target 0 (path ++ (p, t) ∷ [])) (steps_from words width target 0 path ++ record { vertex = p; value = t; refuted = refuted_at words width target (length path) } ∷ [])
    None (refuted_at words width target (length (path ++ (p, t) ∷ []))) []
    (steps_push words width target 0 (length path) path (p, t) (omega arith))
    (ap (refuted_at words width target) at_end
    ∙ refuted_none words width target (length path + 1) (λ u u_in. kept.clear (length path + 1) u (omega arith) (omega arith) (in_row target width u kept.width_is u_in)))
    refl refl

-- what a guess needs of the counts
untried_few : (pattern target budget : ℕ) (path : List (ℕ × ℕ)) (words : List ℕ) (width : ℕ) (v : Option ℕ) (count run all : ℕ) (q : Problem) (p t : ℕ)
    → MayGuess q (held pattern target budget path words width v count run all) p t → length (refuted_at words width target (length path)) < target
untried_few pattern target budget path words width v count run all q p t may =
    members_few (marked words width (length path)) target t may.value_in (members_off (marked words width (length path)) target t may.value_in may.untried)

pub kept_deepened : (pattern target budget : ℕ) (path : List (ℕ × ℕ)) (words : List ℕ) (width : ℕ) (v : Option ℕ) (count run all limit capacity capacity' : ℕ) (q : Problem) (p t : ℕ)
    → Kept pattern target budget path words width v count run all limit capacity → MayGuess q (held pattern target budget path words width v count run all) p t → length path < pattern → pattern ≤ capacity'
    → Kept pattern target budget (path ++ (p, t) ∷ []) words width None count run all limit capacity'
kept_deepened pattern target budget path words width v count run all limit capacity capacity' q p t kept may few room = record {
  width_is = kept.width_is;
  long = kept.long;
  vertices = is_path_push path p t kept.vertices (subst (λ (xs : List (ℕ × ℕ)). NotOn xs p) (path_of-steps words width target 0 path) may.new_vertex);
  range = in_range_push pattern target path p t kept.range may.vertex_in may.value_in;
  open_at = tt;
  unmarked = unmarked_push words width 0 (length path) path p t (omega arith) kept.unmarked (members_off (marked words width (length path)) target t may.value_in may.untried);
  padded = kept.padded;
  clear = λ i u low i_in u_in. kept.clear i u (omega (arith, low, length-append path ((p, t) ∷ []))) i_in u_in;
  bounded = subst (λ (a : Account). Bounded a) (sym (deepened_held pattern target budget path words width v count run all limit capacity p t kept few))
      (bounded_deepened (held pattern target budget path words width v count run all) p t kept.bounded (omega (arith, length-steps words width target 0 path))
      (untried_few pattern target budget path words width v count run all q p t may));
  room = room;
  limit_is = kept.limit_is;
  modest = kept.modest;
}

pub honest_deepened : (q : Problem) (a : Account) (p t : ℕ) → Honest q a → a.all < a.budget → a.count < cutoff a.run → MayGuess q a p t → Honest q (deepened a p t)
honest_deepened q a p t honest unspent before may = record {
  pattern_is = honest.pattern_is;
  target_is = honest.target_is;
  reached = record { events = Deepen p t ∷ honest.reached.events; lead = (a, honest.reached.lead, (unspent, before, may, refl)) };
  lawful = lawful_deepened q a p t honest.lawful may.level;
}

pub nearer_deepened : (pattern target budget : ℕ) (path : List (ℕ × ℕ)) (words : List ℕ) (width : ℕ) (v : Option ℕ) (count run all limit capacity : ℕ) (q : Problem) (p t : ℕ)
    → MayGuess q (held pattern target budget path words width v count run all) p t → length path < pattern
    → remaining (deepened (held pattern target budget path words width v count run all) p t) < remaining (held pattern target budget path words width v count run all)
nearer_deepened pattern target budget path words width v count run all limit capacity q p t may few =
    remaining_deepened (held pattern target budget path words width v count run all) p t (omega (arith, length-steps words width target 0 path))
    (untried_few pattern target budget path words width v count run all q p t may)

-- ---- a fail

-- the row of a level above the last one keeps its marks
above_same : (width : ℕ) (old new : List ℕ) (level value i t : ℕ) → Refutes width old new level value → i < level → t < 64 * width → marked new width i t ≡ marked old width i t
above_same width old new level value i t refutes i_in t_in =
    refutes.each i t t_in ∙ rw (ne_eqb i (level + 1) (λ e. omega arith), ne_eqb i level (λ e. omega arith)) (or_false (marked old width i t))
  where
    or_false : (b : Bool) → (true && (b || (false && t == value))) ≡ b
    or_false true = refl
    or_false false = refl

-- the last level's row gets the value
last_put : (width target : ℕ) (old new : List ℕ) (level value : ℕ) → Refutes width old new level value → width ≡ words_for target → value < target → marked old width level value ≡ false
    → refuted_at new width target level ≡ inserted value (refuted_at old width target level)
last_put width target old new level value refutes width_is value_in off =
    members_put (marked old width level) (marked new width level) target value value_in off
    (refutes.each level value (in_row target width value width_is value_in)
    ∙ rw (ne_eqb level (level + 1) (λ e. omega arith), eq-eqb level level refl, eq-eqb value value refl, off) refl)
    (λ u u_in ne. refutes.each level u (in_row target width u width_is u_in)
    ∙ rw (ne_eqb level (level + 1) (λ e. omega arith), eq-eqb level level refl, ne_eqb u value ne) (or_false (marked old width level u)))
  where
    or_false : (b : Bool) → (true && (b || (true && false))) ≡ b
    or_false true = refl
    or_false false = refl

-- a path that ends in this pair, with the marks of its rows
pub fails_held : (pattern target budget : ℕ) (front : List (ℕ × ℕ)) (words new : List ℕ) (width : ℕ) (v : Option ℕ) (count run all limit capacity count' all' : ℕ) (p t : ℕ)
    → Kept pattern target budget (front ++ (p, t) ∷ []) words width v count run all limit capacity → Refutes width words new (length front) t
    → count' ≡ (if nat_lt count limit && nat_lt all budget then count + 1 else count) → all' ≡ (if nat_lt count limit && nat_lt all budget then all + 1 else all)
    → FailsTo (held pattern target budget (front ++ (p, t) ∷ []) words width v count run all) (held pattern target budget front new width (Some p) count' run all')
fails_held pattern target budget front words new width v count run all limit capacity count' all' p t kept refutes count_is all_is =
    let unmarked = unmarked_front words width 0 (length front) front p t (omega arith) kept.unmarked in
    let range = in_range_front pattern target front p t kept.range in
    record {
      above = steps_from words width target 0 front;
      last = record { vertex = p; value = t; refuted = refuted_at words width target (length front) };
      steps_are = steps_push words width target 0 (length front) front (p, t) (omega arith);
      untried = off_members (marked words width (length front)) target t unmarked.1;
      new_is = same_held pattern target budget count' run all'
          (if nat_lt count (cutoff run) && nat_lt all budget then count + 1 else count) (if nat_lt count (cutoff run) && nat_lt all budget then all + 1 else all)
          (steps_from new width target 0 front) (steps_from words width target 0 front) (Some p)
          (refuted_at new width target (length front)) (inserted t (refuted_at words width target (length front)))
          (steps_same words new width target 0 front (λ j u j_in u_in. above_same width words new (length front) t j u refutes (omega arith) (in_row target width u kept.width_is u_in)))
          (last_put width target words new (length front) t refutes kept.width_is range.2 unmarked.1)
          (subst (λ (l : ℕ). count' ≡ (if nat_lt count l && nat_lt all budget then count + 1 else count)) kept.limit_is count_is)
          (subst (λ (l : ℕ). all' ≡ (if nat_lt count l && nat_lt all budget then all + 1 else all)) kept.limit_is all_is);
    }

-- the numbers of the fail
fails_numbers : (pattern target budget : ℕ) (front : List (ℕ × ℕ)) (words : List ℕ) (width : ℕ) (v : Option ℕ) (count run all limit capacity : ℕ) (p t : ℕ) (new : Account)
    → Kept pattern target budget (front ++ (p, t) ∷ []) words width v count run all limit capacity
    → (f : FailsTo (held pattern target budget (front ++ (p, t) ∷ []) words width v count run all) new)
    → Fails (held pattern target budget (front ++ (p, t) ∷ []) words width v count run all) (failed (held pattern target budget (front ++ (p, t) ∷ []) words width v count run all) f.above f.last)
fails_numbers pattern target budget front words width v count run all limit capacity p t new kept f =
    fails_of (held pattern target budget (front ++ (p, t) ∷ []) words width v count run all) f.above f.last f.steps_are
    (omega (arith, length-steps words width target 0 (front ++ (p, t) ∷ []), path_few pattern target (front ++ (p, t) ∷ []) kept.vertices kept.range))

-- the bounds after it
bounded_after : (pattern target budget : ℕ) (front : List (ℕ × ℕ)) (words : List ℕ) (width : ℕ) (v : Option ℕ) (count run all limit capacity : ℕ) (p t : ℕ) (new : Account)
    → Kept pattern target budget (front ++ (p, t) ∷ []) words width v count run all limit capacity
    → FailsTo (held pattern target budget (front ++ (p, t) ∷ []) words width v count run all) new → Bounded new
bounded_after pattern target budget front words width v count run all limit capacity p t new kept f =
    let old = held pattern target budget (front ++ (p, t) ∷ []) words width v count run all in
    subst (λ (a : Account). Bounded a) (sym f.new_is)
    (bounded_failed old f.above f.last kept.bounded (fails_numbers pattern target budget front words width v count run all limit capacity p t new kept f))

pub nearer_failed : (pattern target budget : ℕ) (front : List (ℕ × ℕ)) (words : List ℕ) (width : ℕ) (v : Option ℕ) (count run all limit capacity : ℕ) (p t : ℕ) (new : Account)
    → Kept pattern target budget (front ++ (p, t) ∷ []) words width v count run all limit capacity
    → FailsTo (held pattern target budget (front ++ (p, t) ∷ []) words width v count run all) new
    → remaining new < remaining (held pattern target budget (front ++ (p, t) ∷ []) words width v count run all)
nearer_failed pattern target budget front words width v count run all limit capacity p t new kept f =
    let old = held pattern target budget (front ++ (p, t) ∷ []) words width v count run all in
    let numbers = fails_numbers pattern target budget front words width v count run all limit capacity p t new kept f in
    subst (λ (a : Account). remaining a < remaining old) (sym f.new_is)
    (remaining_failed old f.above f.last (bounded_failed old f.above f.last kept.bounded numbers) numbers)

pub kept_failed : (pattern target budget : ℕ) (front : List (ℕ × ℕ)) (words new : List ℕ) (width : ℕ) (v : Option ℕ) (count run all limit capacity capacity' count' all' : ℕ) (p t : ℕ)
    → Kept pattern target budget (front ++ (p, t) ∷ []) words width v count run all limit capacity → Refutes width words new (length front) t → length new ≡ length words → pattern ≤ capacity'
    → count' ≡ (if nat_lt count limit && nat_lt all budget then count + 1 else count) → all' ≡ (if nat_lt count limit && nat_lt all budget then all + 1 else all)
    → Kept pattern target budget front new width (Some p) count' run all' limit capacity'
kept_failed pattern target budget front words new width v count run all limit capacity capacity' count' all' p t kept refutes long room count_is all_is =
    let unmarked = unmarked_front words width 0 (length front) front p t (omega arith) kept.unmarked in
    let range = in_range_front pattern target front p t kept.range in
    let same : (j u : ℕ) → j < 0 + length front → u < target → marked new width j u ≡ marked words width j u =
    λ j u j_in u_in. above_same width words new (length front) t j u refutes (omega arith) (in_row target width u kept.width_is u_in) in
    record {
      width_is = kept.width_is;
      long = omega (arith, long, kept.long);
      vertices = is_path_front front p t kept.vertices;
      range = range.0;
      open_at = (range.1, not_on_last front p t kept.vertices);
      unmarked = unmarked_same words new width target 0 front pattern range.0 same unmarked.0;
      padded = λ i u i_in u_past u_in. padded_at i u i_in u_past u_in range.2;
      clear = λ i u low i_in u_in. clear_at i u low i_in u_in;
      bounded = bounded_after pattern target budget front words width v count run all limit capacity p t (held pattern target budget front new width (Some p) count' run all') kept
          (fails_held pattern target budget front words new width v count run all limit capacity count' all' p t kept refutes count_is all_is);
      room = room;
      limit_is = kept.limit_is;
      modest = kept.modest;
    }
  where
    both_false : (b : Bool) (n m : ℕ) → (n ≡ m → ⊥) ⊎ (b ≡ false) → (c : Bool) → c ≡ false → (not b && (c || (b && n == m))) ≡ false
    both_false b n m h true e = absurd (cc)
    both_false false n m h false e = refl
    both_false true n m h false e = refl

    off_value : (i u l : ℕ) (c : Bool) → (u ≡ t → ⊥) → c ≡ false → (not (i == l + 1) && (c || (i == l && u == t))) ≡ false
    off_value i u l c ne off = rw (off, ne_eqb u t ne) (by_tests (i == l + 1) (i == l))
      where
        by_tests : (a b : Bool) → (not a && (false || (b && false))) ≡ false
        by_tests true true = refl
        by_tests true false = refl
        by_tests false true = refl
        by_tests false false = refl

    padded_at : (i u : ℕ) → i ≤ pattern → target ≤ u → u < 64 * width → t < target → marked new width i u ≡ false
    padded_at i u i_in u_past u_in t_in =
        refutes.each i u u_in ∙ off_value i u (length front) (marked words width i u) (λ e. omega arith) (kept.padded i u i_in u_past u_in)

    clear_at : (i u : ℕ) → length front < i → i ≤ pattern → u < 64 * width → marked new width i u ≡ false
    clear_at i u low i_in u_in = by (cases_eq i (length front + 1))
      where
        by : (i ≡ length front + 1) ⊎ (i ≡ length front + 1 → ⊥) → marked new width i u ≡ false
        by (inl e) = refutes.each i u u_in ∙ rw (eq-eqb i (length front + 1) e) refl
        by (inr ne) =
            let off : marked words width i u ≡ false = kept.clear i u (omega (arith, low, ne, length-append front ((p, t) ∷ []))) i_in u_in in
            refutes.each i u u_in ∙ rw (off, ne_eqb i (length front + 1) ne, ne_eqb i (length front) (λ e. omega arith)) refl

pub honest_failed : (q : Problem) (old new : Account) → Honest q old → Dead q (path old) → FailsTo old new → Honest q new
honest_failed q old new honest dead f = subst (λ (a : Account). Honest q a) (sym f.new_is) (record {
  pattern_is = honest.pattern_is;
  target_is = honest.target_is;
  reached = record { events = Fail ∷ honest.reached.events; lead = (old, honest.reached.lead, (dead, record { above = f.above; last = f.last; steps_are = f.steps_are; untried = f.untried; new_is = refl })) };
  lawful = lawful_failed q old f.above f.last honest.lawful dead f.steps_are;
})

-- ---- a restart

-- the rows up to the open one are emptied, and those after it are empty
all_clear : (pattern target budget : ℕ) (path : List (ℕ × ℕ)) (words new : List ℕ) (width : ℕ) (v : Option ℕ) (count run all limit capacity : ℕ) (i t : ℕ)
    → Kept pattern target budget path words width v count run all limit capacity → Clears words new 0 ((length path + 1) * width) → i ≤ pattern → t < 64 * width → marked new width i t ≡ false
all_clear pattern target budget path words new width v count run all limit capacity i t kept clears i_in t_in = by (cases_lt (length path) i)
  where
    row_end : (a b w : ℕ) → a ≤ b → a * w + w ≤ (b + 1) * w
    row_end a b w h = let e : b + 1 ≡ a + 1 + (b - a) = omega arith in rw e (omega (arith, split a (b - a) w))
      where
        split : (a d w : ℕ) → (a + 1 + d) * w ≡ a * w + w + d * w
        split a d w = grind arith

    by : (length path < i) ⊎ (i ≤ length path) → marked new width i t ≡ false
    by (inl h) =
        marked_same words new width i t (clears.outside (i * width + t / 64) (inr (omega (arith, row_above (length path) i width h)))) ∙ kept.clear i t h i_in t_in
      where
        row_above : (a b w : ℕ) → a < b → (a + 1) * w ≤ b * w
        row_above a b w h = let e : b ≡ a + 1 + (b - (a + 1)) = omega arith in rw e (omega (arith, split (a + 1) (b - (a + 1)) w))
          where
            split : (a d w : ℕ) → (a + d) * w ≡ a * w + d * w
            split a d w = grind arith
    by (inr h) = marked_zero new width i t (clears.inside (i * width + t / 64) (omega arith) (omega (arith, row_end i (length path) width h)))

pub restarted_held : (pattern target budget : ℕ) (path : List (ℕ × ℕ)) (words new : List ℕ) (width : ℕ) (v : Option ℕ) (count run all limit capacity : ℕ)
    → Kept pattern target budget path words width v count run all limit capacity → Clears words new 0 ((length path + 1) * width)
    → held pattern target budget [] new width None 0 (run + 1) all ≡ restarted (held pattern target budget path words width v count run all)
restarted_held pattern target budget path words new width v count run all limit capacity kept clears =
    same_held pattern target budget 0 (run + 1) all 0 all [] [] None (refuted_at new width target 0) [] refl
    (refuted_none new width target 0 (λ t t_in. all_clear pattern target budget path words new width v count run all limit capacity 0 t kept clears (omega arith) (in_row target width t kept.width_is t_in)))
    refl refl

pub kept_restarted : (pattern target budget : ℕ) (path : List (ℕ × ℕ)) (words new : List ℕ) (width : ℕ) (v : Option ℕ) (count run all limit capacity limit' capacity' : ℕ)
    → Kept pattern target budget path words width v count run all limit capacity → Clears words new 0 ((length path + 1) * width) → length new ≡ length words
    → count ≡ cutoff run → limit' ≡ cutoff (run + 1) → pattern ≤ capacity'
    → Kept pattern target budget [] new width None 0 (run + 1) all limit' capacity'
kept_restarted pattern target budget path words new width v count run all limit capacity limit' capacity' kept clears long due limit_is room = record {
  width_is = kept.width_is;
  long = omega (arith, long, kept.long);
  vertices = tt;
  range = tt;
  open_at = tt;
  unmarked = tt;
  padded = λ i t i_in t_past t_in. all_clear pattern target budget path words new width v count run all limit capacity i t kept clears i_in t_in;
  clear = λ i t low i_in t_in. all_clear pattern target budget path words new width v count run all limit capacity i t kept clears i_in t_in;
  bounded = subst (λ (a : Account). Bounded a) (sym (restarted_held pattern target budget path words new width v count run all limit capacity kept clears))
      (bounded_restarted (held pattern target budget path words width v count run all) kept.bounded due);
  room = room;
  limit_is = limit_is;
  modest = kept.modest;
}

pub honest_restarted : (q : Problem) (a : Account) → Honest q a → a.count ≡ cutoff a.run → Honest q (restarted a)
honest_restarted q a honest due = record {
  pattern_is = honest.pattern_is;
  target_is = honest.target_is;
  reached = record { events = Restart ∷ honest.reached.events; lead = (a, honest.reached.lead, (due, refl)) };
  lawful = lawful_restarted q a;
}

pub nearer_restarted : (a : Account) → a.count ≡ cutoff a.run → remaining (restarted a) < remaining a
nearer_restarted a due = remaining_restarted a due

-- ---- the last two, as the code leaves the fields

-- a list ends in its last element
pub split_last : (xs : List (ℕ × ℕ)) (n : ℕ) (x : ℕ × ℕ) → n + 1 ≡ length xs → x ≡ get_or xs n x → xs ≡ take n xs ++ x ∷ []
split_last [] n x long is = absurd (omega arith)
split_last (y ∷ ys) zero x long is = one ys (omega arith)
  where
    one : (zs : List (ℕ × ℕ)) → length zs ≡ 0 → y ∷ zs ≡ x ∷ []
    one [] e = ap (λ (z : ℕ × ℕ). z ∷ []) (sym is)
    one (z ∷ zs) e = absurd (omega arith)
split_last (y ∷ ys) (suc n) x long is = ap (λ (zs : List (ℕ × ℕ)). y ∷ zs) (split_last ys n x (omega arith) is)

-- what a fail leaves
pub record FailLeaves (pattern target budget : ℕ) (path : List (ℕ × ℕ)) (words : List ℕ) (width : ℕ) (v : Option ℕ) (count run all limit : ℕ)
    (front : List (ℕ × ℕ)) (stored : List ℕ) (p count' all' capacity' : ℕ) : Type 0 where
  pub kept : Kept pattern target budget front stored width (Some p) count' run all' limit capacity'
  pub fails : FailsTo (held pattern target budget path words width v count run all) (held pattern target budget front stored width (Some p) count' run all')
  pub nearer : remaining (held pattern target budget front stored width (Some p) count' run all') < remaining (held pattern target budget path words width v count run all)

pub fail_leaves : (pattern target budget : ℕ) (path : List (ℕ × ℕ)) (words : List ℕ) (width : ℕ) (v : Option ℕ) (count run all limit capacity : ℕ)
    (front : List (ℕ × ℕ)) (lent new stored : List ℕ) (level value count' all' capacity' : ℕ) (x : ℕ × ℕ)
    → Kept pattern target budget path words width v count run all limit capacity → path ≡ front ++ x ∷ [] → lent ≡ words → level ≡ length front → value ≡ x.1
    → Refutes width lent new level value → stored ≡ new → length new ≡ length lent → pattern ≤ capacity'
    → count' ≡ (if nat_lt count limit && nat_lt all budget then count + 1 else count) → all' ≡ (if nat_lt count limit && nat_lt all budget then all + 1 else all)
    → FailLeaves pattern target budget path words width v count run all limit front stored x.0 count' all' capacity'
fail_leaves pattern target budget path words width v count run all limit capacity front lent new stored level value count' all' capacity' x kept path_is lent_is level_is value_is refutes stored_is long room count_is all_is =
    let kept_here : Kept pattern target budget (front ++ (x.0, x.1) ∷ []) words width v count run all limit capacity =
    subst (λ (xs : List (ℕ × ℕ)). Kept pattern target budget xs words width v count run all limit capacity) path_is kept in
    let one : Refutes width words new level value = subst (λ (ws : List ℕ). Refutes width ws new level value) lent_is refutes in
    let two : Refutes width words new (length front) value = subst (λ (l : ℕ). Refutes width words new l value) level_is one in
    let three : Refutes width words stored (length front) x.1 =
    subst (λ (ws : List ℕ). Refutes width words ws (length front) x.1) (sym stored_is) (subst (λ (u : ℕ). Refutes width words new (length front) u) value_is two) in
    let as_long : length stored ≡ length words = ap length stored_is ∙ long ∙ ap length lent_is in
    let fails : FailsTo (held pattern target budget (front ++ (x.0, x.1) ∷ []) words width v count run all) (held pattern target budget front stored width (Some x.0) count' run all') =
    fails_held pattern target budget front words stored width v count run all limit capacity count' all' x.0 x.1 kept_here three count_is all_is in
    record {
      kept = kept_failed pattern target budget front words stored width v count run all limit capacity capacity' count' all' x.0 x.1 kept_here three as_long room count_is all_is;
      fails = subst (λ (xs : List (ℕ × ℕ)). FailsTo (held pattern target budget xs words width v count run all) (held pattern target budget front stored width (Some x.0) count' run all')) (sym path_is) fails;
      nearer = subst (λ (xs : List (ℕ × ℕ)). remaining (held pattern target budget front stored width (Some x.0) count' run all') < remaining (held pattern target budget xs words width v count run all)) (sym path_is)
          (nearer_failed pattern target budget front words width v count run all limit capacity x.0 x.1 (held pattern target budget front stored width (Some x.0) count' run all') kept_here fails);
    }

-- what a restart leaves
pub record RestartLeaves (pattern target budget : ℕ) (path : List (ℕ × ℕ)) (words : List ℕ) (width : ℕ) (v : Option ℕ) (count run all : ℕ)
    (empty : List (ℕ × ℕ)) (stored : List ℕ) (limit' capacity' : ℕ) : Type 0 where
  pub kept : Kept pattern target budget empty stored width None 0 (run + 1) all limit' capacity'
  pub is : held pattern target budget empty stored width None 0 (run + 1) all ≡ restarted (held pattern target budget path words width v count run all)

pub restart_leaves : (pattern target budget : ℕ) (path : List (ℕ × ℕ)) (words : List ℕ) (width : ℕ) (v : Option ℕ) (count run all limit capacity : ℕ)
    (empty : List (ℕ × ℕ)) (lent new stored : List ℕ) (to limit' capacity' : ℕ)
    → Kept pattern target budget path words width v count run all limit capacity → empty ≡ [] → lent ≡ words → to ≡ (length path + 1) * width → Clears lent new 0 to → stored ≡ new → length new ≡ length lent
    → count ≡ cutoff run → limit' ≡ cutoff (run + 1) → pattern ≤ capacity'
    → RestartLeaves pattern target budget path words width v count run all empty stored limit' capacity'
restart_leaves pattern target budget path words width v count run all limit capacity empty lent new stored to limit' capacity' kept empty_is lent_is to_is clears stored_is long due limit_is room =
    let one : Clears words new 0 to = subst (λ (ws : List ℕ). Clears ws new 0 to) lent_is clears in
    let two : Clears words stored 0 ((length path + 1) * width) =
    subst (λ (ws : List ℕ). Clears words ws 0 ((length path + 1) * width)) (sym stored_is) (subst (λ (n : ℕ). Clears words new 0 n) to_is one) in
    let as_long : length stored ≡ length words = ap length stored_is ∙ long ∙ ap length lent_is in
    record {
      kept = subst (λ (xs : List (ℕ × ℕ)). Kept pattern target budget xs stored width None 0 (run + 1) all limit' capacity') (sym empty_is)
          (kept_restarted pattern target budget path words stored width v count run all limit capacity limit' capacity' kept two as_long due limit_is room);
      is = subst (λ (xs : List (ℕ × ℕ)). held pattern target budget xs stored width None 0 (run + 1) all ≡ restarted (held pattern target budget path words width v count run all)) (sym empty_is)
          (restarted_held pattern target budget path words stored width v count run all limit capacity kept two);
    }

-- ---- places in the rows

-- so many rows are within the words
pub rows_inside : (pattern width len n : ℕ) → len ≡ (pattern + 1) * width → n ≤ pattern → (n + 1) * width ≤ len
rows_inside pattern width len n long h = rw long (omega (arith, mul-le-mul_right {m = n + 1} {n = pattern + 1} width (omega arith)))

-- and so is the word of a mark
pub place_inside : (pattern width len n t : ℕ) → len ≡ (pattern + 1) * width → n ≤ pattern → t < 64 * width → n * width + t / 64 < len
place_inside pattern width len n t long h t_in = omega (arith, rows_inside pattern width len n long h, next n width)
  where
    next : (a w : ℕ) → (a + 1) * w ≡ a * w + w
    next a w = grind arith

-- the value of the last pair is one of the target
pub last_value : (pattern target : ℕ) (path front : List (ℕ × ℕ)) (x : ℕ × ℕ) → InRange pattern target path → path ≡ front ++ x ∷ [] → x.1 < target
last_value pattern target path front x range is =
    (in_range_front pattern target front x.0 x.1 (subst (λ (xs : List (ℕ × ℕ)). InRange pattern target xs) is range)).2

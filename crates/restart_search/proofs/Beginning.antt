-- The first domains of all vertices, and the root.

use Rattle.std.proofs.Common.{◌≡◌, ℕ, ◌+◌, ◌<◌, nat_lt, ◌&&◌, Bool, true, false, List, [], length, slice_index, slice_set, refl, sym, ap, ◌∙◌, subst, arith, ◌⊎◌, inl, inr}
use Rattle.std.proofs.lemmas.Grind.{common_steps}
use Rattle.std.proofs.lemmas.Bool.{cases_eq}
use Rattle.std.proofs.lemmas.List.{length-set}
use Rattle.graph_theory.specs.Graph.{size}
use Rattle.graph_theory.specs.Embedding.{Problem, Embeds, HasNone}
use Rattle.search_theory.specs.Consistency.{IsFirstValue}
use Rattle.search_theory.specs.Claims.{Inside, NoneInside, First, Quiet}
use Rattle.search_theory.proofs.Pairs.{first_value_of}
use Rattle.search_theory.specs.Account.{Account, path, Honest}
use Rattle.domain_bits.specs.Removals.{State, in_domain, full}
use Rattle.domain_bits.specs.Changes.{Keeps}
use Rattle.sparse_set.specs.Removals as sparse
use Rattle.recorder.specs.Telling.{IsOf}
use Rattle.propagation.specs.Propagation.{AreCalm, Narrows, waits_at, HasValue, HasTwo, NotesSize, Rests, Ready, LeavesPast, Propagates}
use Rattle.restart_search.specs.Searching.{Beginning}
use Rattle.restart_search.specs.declared.position.Moment.{Moment}
use Rattle.restart_search.specs.Searching.{AtRest, Roots, IsNow, Levels, Sound}
use Rattle.restart_search.proofs.Levels.{been_now, rested_now}
use Rattle.propagation.proofs.Narrowing.{narrows_none, narrows_more, narrows_keeps, none_narrowed, none_in_empty, is_of_narrowed}
use Rattle.propagation.proofs.Waiting.{rests_with_two, two_on, flag_other, flag_here}

pub beginning_start : (q : Problem) (d : State) (waiting : List Bool) → IsOf q d → length waiting ≡ size q.pattern → Beginning q d d waiting 0
beginning_start q d waiting is_of long = record {
  is_of = is_of;
  narrows = narrows_none q d;
  long = long;
  first = λ p t p_in. absurd (omega arith);
  noted = λ p p_in. absurd (omega arith);
  some = λ p p_in. absurd (omega arith);
}

-- every image is in the first domain of its vertex
first_images : (q : Problem) (r : ℕ) (keeps : ℕ → Bool) → r < size q.pattern → ((t : ℕ) → IsFirstValue q r t → t < size q.target → keeps t ≡ true)
    → (m : List ℕ) → Embeds q m → keeps (slice_index m r) ≡ true
first_images q r keeps r_in row m e = row (slice_index m r) (first_value_of q m r (slice_index m r) e r_in refl) (e.values r r_in)

-- the step at r loses no embedding
pub beginning_narrows : (q : Problem) (mid new : State) (r : ℕ) (keeps : ℕ → Bool) → Keeps mid new r keeps → r < size q.pattern
    → ((t : ℕ) → IsFirstValue q r t → t < size q.target → keeps t ≡ true) → Narrows q mid new
beginning_narrows q mid new r keeps k r_in row = narrows_keeps q mid new r keeps k (λ m e _. first_images q r keeps r_in row m e)

-- one vertex more
pub beginning_more : (q : Problem) (old mid new : State) (between after : List Bool) (r : ℕ) (keeps : ℕ → Bool) → Beginning q old mid between r → Keeps mid new r keeps → r < size q.pattern
    → ((t : ℕ) → keeps t ≡ true → IsFirstValue q r t) → ((t : ℕ) → IsFirstValue q r t → t < size q.target → keeps t ≡ true) → NotesSize true new between after r
    → Beginning q old new after (r + 1)
beginning_more q old mid new between after r keeps b k r_in right complete notes = record {
  is_of = is_of_narrowed q mid new narrows b.is_of;
  narrows = narrows_more q old mid new b.narrows narrows;
  long = long_after notes;
  first = λ p t p_in h. by_first p t p_in h (cases_eq p r);
  noted = λ p p_in. by_note p p_in (cases_eq p r) notes;
  some = λ p p_in. by_value p p_in (cases_eq p r) notes;
}
  where
    narrows : Narrows q mid new
    narrows = beginning_narrows q mid new r keeps k r_in complete

    second : (a c : Bool) → (a && c) ≡ true → c ≡ true
    second true c h = h
    second false c h = cc

    below : (x y : ℕ) → x < y + 1 → (x ≡ y → ⊥) → x < y
    below x y le apart = omega arith

    long_after : NotesSize true new between after r → length after ≡ size q.pattern
    long_after (inl (v, s, raised)) = ap length raised ∙ length-set between r true ∙ b.long
    long_after (inr (two, same)) = ap length same ∙ b.long

    by_first : (p t : ℕ) → p < r + 1 → in_domain new p t ≡ true → (p ≡ r) ⊎ (p ≡ r → ⊥) → IsFirstValue q p t
    by_first p t p_in h (inl same) =
        subst (λ (v : ℕ). IsFirstValue q v t) (sym same)
        (right t (second (in_domain mid r t) (keeps t) (sym (k.kept t) ∙ subst (λ (v : ℕ). in_domain new v t ≡ true) same h)))
    by_first p t p_in h (inr other) = b.first p t (below p r p_in other) (k.shrinks.less p t h)

    by_value : (p : ℕ) → p < r + 1 → (p ≡ r) ⊎ (p ≡ r → ⊥) → NotesSize true new between after r → HasValue new p
    by_value p p_in (inl same) (inl (v, s, raised)) = subst (λ (x : ℕ). HasValue new x) (sym same) (v, s.here)
    by_value p p_in (inl same) (inr (two, unchanged)) = subst (λ (x : ℕ). HasValue new x) (sym same) (two.value, two.here)
    by_value p p_in (inr other) told = let had = b.some p (below p r p_in other) in (had.0, k.shrinks.others p had.0 other ∙ had.1)

    by_note : (p : ℕ) → p < r + 1 → (p ≡ r) ⊎ (p ≡ r → ⊥) → NotesSize true new between after r → (waits_at after p ≡ true) ⊎ HasTwo new p
    by_note p p_in (inl same) (inl (v, s, raised)) =
        inl (ap (λ (ws : List Bool). waits_at ws p) raised ∙ ap (λ (x : ℕ). waits_at (slice_set between r true) x) same
        ∙ flag_here between r true (subst (λ (n : ℕ). r < n) (sym b.long) r_in))
    by_note p p_in (inl same) (inr (two, unchanged)) = inr (subst (λ (v : ℕ). HasTwo new v) (sym same) two)
    by_note p p_in (inr other) (inl (v, s, raised)) =
        moved p other (ap (λ (ws : List Bool). waits_at ws p) raised ∙ flag_other between r p true (λ x. other (sym x))) (b.noted p (below p r p_in other))
      where
        moved : (x : ℕ) → (x ≡ r → ⊥) → waits_at after x ≡ waits_at between x → (waits_at between x ≡ true) ⊎ HasTwo mid x → (waits_at after x ≡ true) ⊎ HasTwo new x
        moved x apart flag (inl w) = inl (flag ∙ w)
        moved x apart flag (inr two) = inr (two_on mid new x (λ u. k.shrinks.others x u apart) two)
    by_note p p_in (inr other) (inr (two, unchanged)) =
        moved p other (ap (λ (ws : List Bool). waits_at ws p) unchanged) (b.noted p (below p r p_in other))
      where
        moved : (x : ℕ) → (x ≡ r → ⊥) → waits_at after x ≡ waits_at between x → (waits_at between x ≡ true) ⊎ HasTwo mid x → (waits_at after x ≡ true) ⊎ HasTwo new x
        moved x apart flag (inl w) = inl (flag ∙ w)
        moved x apart flag (inr twice) = inr (two_on mid new x (λ u. k.shrinks.others x u apart) twice)

-- where a first domain is empty, no embedding is within the domains before
pub none_begun : (q : Problem) (old mid new : State) (r : ℕ) → Narrows q old mid → Narrows q mid new → r < size q.pattern
    → ((t : ℕ) → in_domain new r t ≡ true → ⊥) → NoneInside q (in_domain old)
none_begun q old mid new r f s r_in empty = none_narrowed q old new (narrows_more q old mid new f s) (none_in_empty q new r r_in empty)

-- ---- after all of them

-- a value is within the domains' values
pub value_within : (d : State) (p t : ℕ) → in_domain d p t ≡ true → t < d.values
value_within d p t h = by_test (nat_lt t d.values) refl (front (nat_lt t d.values) _ h)
  where
    front : (a c : Bool) → (a && c) ≡ true → a ≡ true
    front true c x = refl
    front false c x = cc

    by_test : (b : Bool) → nat_lt t d.values ≡ b → nat_lt t d.values ≡ true → t < d.values
    by_test b is up = grind (arith, common_steps)

pub begun_first : (q : Problem) (old new : State) (waiting : List Bool) → Beginning q old new waiting (size q.pattern) → First q (in_domain new)
begun_first q old new waiting b = record {
  values = λ p t p_in h. subst (λ (n : ℕ). t < n) b.is_of.values_is (value_within new p t h);
  alone = λ p t p_in h. b.first p t p_in h;
}

pub begun_ready : (q : Problem) (old new : State) (waiting : List Bool) → Beginning q old new waiting (size q.pattern) → Ready q new waiting
begun_ready q old new waiting b = record { long = b.long; some = b.some; each = λ p p_in. by_note p (b.noted p p_in) }
  where
    by_note : (p : ℕ) → (waits_at waiting p ≡ true) ⊎ HasTwo new p → (waits_at waiting p ≡ true) ⊎ Rests q new p
    by_note p (inl w) = inl w
    by_note p (inr two) = inr (rests_with_two q new p two)

-- every embedding is within full domains
pub inside_full : (q : Problem) (m : List ℕ) → Embeds q m → Inside q (in_domain (full (size q.pattern) (size q.target))) m
inside_full q m e = λ p p_in. let within : slice_index m p < size q.target = e.values p p_in in grind (arith, common_steps)

-- so domains that lost none from full ones hold every embedding
pub root_at_rest : (q : Problem) (d : State) → Narrows q (full (size q.pattern) (size q.target)) d → Quiet q (in_domain d) → AreCalm q d → AtRest q [] d
root_at_rest q d n quiet calm = record { quiet = quiet; calm = calm; stands = λ m e h. n.keeps m e (inside_full q m e); pins = tt }

-- and where none is within full ones, none exists
pub none_at_all : (q : Problem) → NoneInside q (in_domain (full (size q.pattern) (size q.target))) → HasNone q
none_at_all q none = λ m e. none m e (inside_full q m e)

-- ---- the start of a search

-- at the root, with an account that has not begun and no marks
pub sound_fresh : (q : Problem) (d : State) (s : sparse.State) (a : Account) (marks : List Moment) (k : Moment) → marks ≡ [] → Honest q a → path a ≡ [] → IsNow d s k → IsOf q d
    → AtRest q [] d → LeavesPast q d s → Sound q d s a marks k
sound_fresh q d s a marks k none honest at_start now is_of rest left = record {
  based = record {
    is_of = is_of;
    honest = honest;
    levels = subst (λ (ks : List Moment). Levels q d s k [] (path a) ks) (sym none)
        (subst (λ (ps : List (ℕ × ℕ)). Levels q d s k [] ps []) (sym at_start) (been_now d s k now));
    root_rest = rested_now q [] d s k now rest left;
  };
  here = subst (λ (ps : List (ℕ × ℕ)). AtRest q ps d) (sym at_start) rest;
  left = left;
}

-- what the first domains and propagation answer together
pub roots_of : (b : Bool) (q : Problem) (old mid new : State) (waiting : List Bool) → old ≡ full (size q.pattern) (size q.target)
    → Beginning q old mid waiting (size q.pattern) → Propagates b q mid new → Roots b q new
roots_of true q old mid new waiting is b told = (
  is_of_narrowed q mid new told.0 b.is_of,
  root_at_rest q new (narrows_more q (full (size q.pattern) (size q.target)) mid new (subst (λ (d : State). Narrows q d mid) is b.narrows) told.0) told.1 told.2,
)
roots_of false q old mid new waiting is b told =
    none_at_all q (none_narrowed q (full (size q.pattern) (size q.target)) mid (subst (λ (d : State). Narrows q d mid) is b.narrows) told.1)

-- A guess taken back, a new run, and how a search ends.

use Rattle.std.proofs.Common.{◌≡◌, ℕ, ◌<◌, true, List, [], ◌∷◌, ◌++◌, length, Option, Some, None, refl, sym, ap, ◌∙◌, subst, arith}
use Rattle.graph_theory.specs.Graph.{size}
use Rattle.graph_theory.specs.Embedding.{Problem, HasNone}
use Rattle.graph_theory.specs.Path.{Dead, NotOn}
use Rattle.graph_theory.proofs.DeadPaths.{empty_is_dead}
use Rattle.search_theory.specs.Account.{Account, Step, path, path_of, restarted, FailsTo, Honest, IsAt, NotAmong, AllDead, LawfulLevel, MayGuess, Spends}
use Rattle.search_theory.specs.Claims.{NoneInside, Quiet}
use Rattle.search_theory.proofs.Domains.{all_refuted_is_dead, domain_values_fit}
use Rattle.search_theory.proofs.Refuted.{path_of_push}
use Rattle.domain_bits.specs.Removals.{State, in_domain, undone}
use Rattle.sparse_set.specs.Removals as sparse
use Rattle.restart_search.specs.declared.position.Moment.{Moment}
use Rattle.propagation.specs.Propagation.{AreCalm, Narrows, Fewer}
use Rattle.restart_search.specs.Searching.{AtRest, IsEarlier, HasBeen, Levels, Based, Sound}
use Rattle.restart_search.proofs.Levels.{Later, low_within, been_undone, been_later, earlier_undone, rested_further, rested_later, levels_pop, levels_pop_rest}

-- ---- taking a guess back

-- the path before a fail and after it
pub path_failed : (old new : Account) (f : FailsTo old new) → path old ≡ path new ++ (f.last.vertex, f.last.value) ∷ []
path_failed old new f =
    ap path_of f.steps_are ∙ path_of_push f.above f.last
    ∙ ap (λ (ss : List Step). path_of ss ++ (f.last.vertex, f.last.value) ∷ []) (sym (ap (λ (a : Account). a.steps) f.new_is))

-- undone to the last moment, the search is sound again
pub sound_closed : (q : Problem) (d : State) (s : sparse.State) (old new : Account) (marks : List Moment) (root k : Moment) → Based q d s old (marks ++ k ∷ []) root
    → (f : FailsTo old new) → Honest q new → HasBeen d s k × Sound q (undone d k.domains) (sparse.undone s k.past) new marks root
sound_closed q d s old new marks root k based f honest =
    let levels : Levels q d s root [] (path new ++ (f.last.vertex, f.last.value) ∷ []) (marks ++ k ∷ []) =
    subst (λ (ps : List (ℕ × ℕ)). Levels q d s root [] ps (marks ++ k ∷ [])) (path_failed old new f) based.levels in
    let popped = levels_pop q d s root [] (path new) marks (f.last.vertex, f.last.value) k levels in
    let low = earlier_undone d s root k popped.0 (low_within q (undone d k.domains) (sparse.undone s k.past) root [] (path new) marks popped.1) in
    let rested = levels_pop_rest q d s root [] (path new) marks (f.last.vertex, f.last.value) k levels in (
      popped.0,
      record {
        based = record {
          is_of = record { vertices_is = based.is_of.vertices_is; values_is = based.is_of.values_is };
          honest = honest;
          levels = popped.1;
          root_rest = rested_further q [] d s root k low based.root_rest;
        };
        here = rested.rest;
        left = rested.left;
      },
    )

-- a search with a guess has a moment for it
pub some_mark : (q : Problem) (d : State) (s : sparse.State) (a : Account) (marks : List Moment) (root : Moment) → Based q d s a marks root → 0 < length (path a) → 0 < length marks
some_mark q d s a marks root based some = by_lists (path a) marks based.levels some
  where
    by_lists : (ps : List (ℕ × ℕ)) (ks : List Moment) → Levels q d s root [] ps ks → 0 < length ps → 0 < length ks
    by_lists [] ks h n = absurd (omega arith)
    by_lists (x ∷ xs) [] h n = absurd h
    by_lists (x ∷ xs) (k ∷ ks) h n = omega arith

-- ---- a new run

-- a moment is no later than itself
earlier_same : (k : Moment) → IsEarlier k k
earlier_same k = record { domains = omega arith; past = omega arith }

pub sound_restarted : (q : Problem) (d : State) (s : sparse.State) (a : Account) (marks : List Moment) (root : Moment) → Sound q d s a marks root → Honest q (restarted a)
    → HasBeen d s root × Sound q (undone d root.domains) (sparse.undone s root.past) (restarted a) [] root
sound_restarted q d s a marks root sound honest =
    let low = low_within q d s root [] (path a) marks sound.based.levels in (
      low,
      record {
        based = record {
          is_of = record { vertices_is = sound.based.is_of.vertices_is; values_is = sound.based.is_of.values_is };
          honest = honest;
          levels = been_undone d s root root (earlier_same root) low;
          root_rest = rested_further q [] d s root root (earlier_same root) sound.based.root_rest;
        };
        here = sound.based.root_rest.rest;
        left = sound.based.root_rest.left;
      },
    )

-- what was propagated from the root's domains is undone to them
pub sound_undone_again : (q : Problem) (d e : State) (s r : sparse.State) (a : Account) (marks : List Moment) (root : Moment) → Sound q d s a marks root → Honest q (restarted a)
    → Narrows q (undone d root.domains) e → Fewer (sparse.undone s root.past) r
    → HasBeen e r root × Sound q (undone e root.domains) (sparse.undone r root.past) (restarted a) [] root
sound_undone_again q d e s r a marks root sound honest n fewer =
    let first = sound_restarted q d s a marks root sound honest in
    let l : Later (undone d root.domains) e (sparse.undone s root.past) r =
    record { vertices_same = n.vertices_same; values_same = n.values_same; rest = n.rest; front = n.front; fewer = fewer } in
    let been = been_later (undone d root.domains) e (sparse.undone s root.past) r root l first.1.based.levels in
    let rested = rested_later q [] (undone d root.domains) e (sparse.undone s root.past) r root l first.1.based.levels first.1.based.root_rest in (
      been,
      record {
        based = record {
          is_of = record { vertices_is = n.vertices_same ∙ sound.based.is_of.vertices_is; values_is = n.values_same ∙ sound.based.is_of.values_is };
          honest = honest;
          levels = been_undone e r root root (earlier_same root) been;
          root_rest = rested_further q [] e r root root (earlier_same root) rested;
        };
        here = rested.rest;
        left = rested.left;
      },
    )

-- domains at rest that held every embedding still do after a propagation
pub rest_again : (q : Problem) (old new : State) → AtRest q [] old → Narrows q old new → Quiet q (in_domain new) → AreCalm q new → AtRest q [] new
rest_again q old new rest n quiet calm = record { quiet = quiet; calm = calm; stands = λ m e h. n.keeps m e (rest.stands m e h); pins = tt }

-- and where none is within them, none exists
pub none_again : (q : Problem) (d : State) → AtRest q [] d → NoneInside q (in_domain d) → HasNone q
none_again q d rest none = λ m e. none m e (rest.stands m e tt)

-- ---- endings

-- what a level has refuted is dead for each vertex that it may take
level_is_dead : (q : Problem) (above : List (ℕ × ℕ)) (v : Option ℕ) (us : List ℕ) (p : ℕ) → LawfulLevel q above v us → IsAt v p → AllDead q above p us
level_is_dead q above None us p h is = subst (λ (xs : List ℕ). AllDead q above p xs) (sym h) tt
level_is_dead q above (Some v) us p h is = subst (λ (r : ℕ). AllDead q above r us) is h

-- where each value of the level's vertex is refuted, the path is dead
pub dead_where_all_refuted : (q : Problem) (d : State) (s : sparse.State) (a : Account) (marks : List Moment) (root : Moment) (p : ℕ) → Sound q d s a marks root → p < size q.pattern → IsAt a.vertex p
    → ((t : ℕ) → in_domain d p t ≡ true → NotAmong a.refuted t → ⊥) → Dead q (path a)
dead_where_all_refuted q d s a marks root p sound p_in is all =
    all_refuted_is_dead q (in_domain d) (path a) p a.refuted sound.here.stands p_in
    (level_is_dead q (path a) a.vertex a.refuted p sound.based.honest.lawful.level is) all

-- and where the path is empty, no embedding exists
pub none_where_dead : (q : Problem) (a : Account) → Dead q (path a) → length (path a) ≡ 0 → HasNone q
none_where_dead q a dead none = by_path (path a) dead none
  where
    by_path : (ps : List (ℕ × ℕ)) → Dead q ps → length ps ≡ 0 → HasNone q
    by_path [] h n = (empty_is_dead q).0 h
    by_path (x ∷ xs) h n = absurd (omega (arith, n))

-- an untried value of the level's vertex may be guessed
pub may_guess : (q : Problem) (d : State) (s : sparse.State) (a : Account) (marks : List Moment) (root : Moment) (p t : ℕ) → Sound q d s a marks root → p < size q.pattern → IsAt a.vertex p → NotOn (path a) p
    → in_domain d p t ≡ true → NotAmong a.refuted t → MayGuess q a p t
may_guess q d s a marks root p t sound p_in is off here untried = record {
  vertex_in = subst (λ (n : ℕ). p < n) (sym sound.based.honest.pattern_is) p_in;
  value_in = subst (λ (n : ℕ). t < n) (sym sound.based.honest.target_is) (sound.here.quiet.first.values p t p_in here);
  level = is;
  new_vertex = off;
  untried = untried;
  fits = domain_values_fit q (in_domain d) (path a) p t sound.here.quiet sound.here.calm.ordered sound.here.pins off p_in here;
}

-- so a spent budget is spent where a guess is due
pub spends_where_due : (q : Problem) (a : Account) (p t : ℕ) → Honest q a → a.all ≡ a.budget → MayGuess q a p t → Spends q a.budget a
spends_where_due q a p t honest spent due = record {
  reached = honest.reached;
  budget_is = refl;
  spent = spent;
  vertex = p;
  value = t;
  due = due;
}

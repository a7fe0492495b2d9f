-- Rows of kinds with an edge, and of kinds without.

use Rattle.std.proofs.Common.{◌≡◌, ◌↔◌, ℕ, ◌+◌, ◌*◌, ◌<◌, ◌≤◌, Bool, true, false, ◌==◌, nat_lt, ◌&&◌, ◌||◌, not, is_some, List, Option, Some, None, get_or, refl, sym, ap, ◌∙◌, subst, arith, inl, inr, ◌⊎◌}
use mir.Syntax.{w16}
use mir.Val.{Fits}
use Rattle.std.proofs.lemmas.Bool.{cases_lt, eq-eqb, ne_eqb, lt-ltb, le-ltb, ltb-true, false≢true, and_parts}
use Rattle.graph_theory.specs.Graph.{Graph, size, edge}
use Rattle.graph_theory.specs.Embedding.{Problem, KeepsEdge, Matches}
use Rattle.graph_theory.specs.Neighbours.{is_neighbour, common}
use Rattle.graph_theory.specs.Reversed.{reversed, IsMutual, MutualShared}
use Rattle.bit_rows.specs.BitRows.{has, words_for}
use Rattle.graph_rows.specs.Labels.{HasZeroLabels, agree}
use Rattle.pair_supports.specs.declared.kinds.PairKind.{PairKind}
use Rattle.pair_supports.specs.Kinds.{Joins, RowIs, Shares, MatchEdges, IsTold, AreTold, Serve}
use Rattle.bit_rows.proofs.Filled.{FilledBelow}

-- an edge of the pattern is kept
kept_edge : (induced : Bool) (e f : Option ℕ) → Matches induced e f → is_some e ≡ true → is_some f ≡ true
kept_edge induced None f m h = absurd (false≢true h)
kept_edge false (Some l) f m h = ap is_some m
kept_edge true (Some l) f m h = ap is_some m.0

-- what joins in a kind with an edge out has an edge from t
pub joins_out : (q : Problem) (k : PairKind) (t u : ℕ) → is_some k.out ≡ true → Joins q k t u → is_some (edge q.target t u) ≡ true
joins_out q k t u some j = kept_edge q.induced k.out (edge q.target t u) j.out some

-- and in one with an edge back alone an edge to it
pub joins_back : (q : Problem) (k : PairKind) (t u : ℕ) → (is_some k.out || is_some k.back) ≡ true → is_some k.out ≡ false → Joins q k t u → is_some (edge q.target u t) ≡ true
joins_back q k t u some none j = kept_edge q.induced k.back (edge q.target u t) j.back (ap (λ (b : Bool). b || is_some k.back) (sym none) ∙ some)

-- what is no member of a row of all that join does not join
pub apart_joins_not : (q : Problem) (k : PairKind) (near : List ℕ) (t u : ℕ) → ((v : ℕ) → Joins q k t v → has near v ≡ true) → has near u ≡ false → Joins q k t u → ⊥
apart_joins_not q k near t u all none j = false≢true (sym none ∙ all u j)

-- values that have not the property are passed over
pub filled_skip : (P : ℕ → Type 0) (n m : ℕ) (row : List ℕ) → FilledBelow P n row → n ≤ m → ((v : ℕ) → n ≤ v → v < m → P v → ⊥) → FilledBelow P m row
filled_skip P n m row filled le none = record {
  right = λ v h. let f = filled.right v h in (omega (arith, f.0), f.1);
  complete = λ v v_in p. by v v_in p (cases_lt v n);
}
  where
    by : (v : ℕ) → v < m → P v → (v < n) ⊎ (n ≤ v) → has row v ≡ true
    by v v_in p (inl less) = filled.complete v less p
    by v v_in p (inr more) = absurd (none v more v_in p)

-- the row is whole once all members have been tested
pub near_whole : (q : Problem) (k : PairKind) (near row : List ℕ) (t n : ℕ) → ((v : ℕ) → Joins q k t v → has near v ≡ true)
    → ((b : ℕ) → has near b ≡ true → b < size q.target) → size q.target ≤ n → FilledBelow (Joins q k t) n row → RowIs q k t row
near_whole q k near row t n near_is within all filled = record {
  right = λ u h. let f = filled.right u h in (within u (near_is u f.1), f.1);
  complete = λ u u_in j. filled.complete u (omega (arith, all)) j;
}

-- ---- kinds without edges

none_of : (a b : Bool) → (a || b) ≡ false → (a ≡ false) × (b ≡ false)
none_of true b h = absurd (false≢true (sym h))
none_of false b h = (refl, h)

no_edge : (e : Option ℕ) → is_some e ≡ false → e ≡ None
no_edge None h = refl
no_edge (Some l) h = absurd (false≢true (sym h))

not_true : (b : Bool) → not b ≡ true → b ≡ false
not_true true h = absurd (false≢true h)
not_true false h = refl

-- without an edge of the pattern all that is asked is that the induced kind brings none
matches_none : (induced : Bool) (e f : Option ℕ) → is_some e ≡ false → (induced && is_some f) ≡ false → Matches induced e f
matches_none false e f none apart = subst (λ (x : Option ℕ). KeepsEdge x f) (sym (no_edge e none)) tt
matches_none true e f none apart =
    (subst (λ (x : Option ℕ). KeepsEdge x f) (sym (no_edge e none)) tt, subst (λ (x : Option ℕ). KeepsEdge x e) (sym (no_edge f apart)) tt)

brings_none : (induced : Bool) (e f : Option ℕ) → is_some e ≡ false → Matches induced e f → (induced && is_some f) ≡ false
brings_none false e f none m = refl
brings_none true e None none m = refl
brings_none true e (Some l) none m = absurd (false≢true (sym none ∙ ap is_some m.1))

-- ---- rows by whole words

left_of : (a b : Bool) → (a && not b) ≡ true → (a ≡ true) × (b ≡ false)
left_of true false h = (refl, refl)
left_of true true h = absurd (false≢true h)
left_of false b h = absurd (false≢true h)

left_by : (a b : Bool) → a ≡ true → b ≡ false → (a && not b) ≡ true
left_by a b x y = rw (x, y) refl

-- edges that match are as bits have to be,
agreed : (induced : Bool) (e f : Option ℕ) → Matches induced e f → agree induced (is_some e) (is_some f) ≡ true
agreed false None f m = refl
agreed false (Some l) f m = ap is_some m
agreed true None None m = refl
agreed true None (Some l) m = absurd cc
agreed true (Some l) f m = ap is_some m.0

-- and where bits tell all, edges that are so match
told : (induced : Bool) (e f : Option ℕ) (g : Graph) → IsTold g e → ((l : ℕ) → HasZeroLabels g → f ≡ Some l → l ≡ 0) → agree induced (is_some e) (is_some f) ≡ true → Matches induced e f
told false None f g t zero h = tt
told false (Some l) None g t zero h = absurd cc
told false (Some l) (Some k) g t zero h = ap Some (zero k t.1 refl ∙ sym t.0)
told true None None g t zero h = (tt, tt)
told true None (Some k) g t zero h = absurd cc
told true (Some l) None g t zero h = absurd cc
told true (Some l) (Some k) g t zero h = (ap Some (zero k t.1 refl ∙ sym t.0), ap Some (t.0 ∙ sym (zero k t.1 refl)))

-- the vertices that both directions leave
module _ (q : Problem) (k : PairKind) (t : ℕ) (old now new out back : List ℕ) (out_is : (u : ℕ) → has out u ≡ is_some (edge q.target t u)) (back_is : (u : ℕ) → has back u ≡ is_some (edge q.target u t))
    (now_is : (u : ℕ) → has now u ≡ (has old u && agree q.induced (is_some k.out) (has out u))) (new_is : (u : ℕ) → has new u ≡ (has now u && agree q.induced (is_some k.back) (has back u))) where
  pub matching_right : AreTold q k → t < size q.target → ((u : ℕ) → has old u ≡ true → u < size q.target) → (u : ℕ) → has new u ≡ true → (has old u ≡ true) × MatchEdges q k t u
  matching_right are t_in within u h =
      let last = and_parts (has now u) (agree q.induced (is_some k.back) (has back u)) (sym (new_is u) ∙ h) in
      let first = and_parts (has old u) (agree q.induced (is_some k.out) (has out u)) (sym (now_is u) ∙ last.0) in
      let u_in = within u first.0 in (
        first.0,
        record {
          out = told q.induced k.out (edge q.target t u) q.target are.out (λ l zeros. zeros.zeros t u l t_in u_in) (ap (agree q.induced (is_some k.out)) (sym (out_is u)) ∙ first.1);
          back = told q.induced k.back (edge q.target u t) q.target are.back (λ l zeros. zeros.zeros u t l u_in t_in) (ap (agree q.induced (is_some k.back)) (sym (back_is u)) ∙ last.1);
        },
      )

  pub matching_complete : (u : ℕ) → has old u ≡ true → MatchEdges q k t u → has new u ≡ true
  matching_complete u h m =
      let first = to_all (has old u) (agree q.induced (is_some k.out) (has out u)) h (ap (agree q.induced (is_some k.out)) (out_is u) ∙ agreed q.induced k.out (edge q.target t u) m.out) in
      new_is u ∙ to_all (has now u) (agree q.induced (is_some k.back) (has back u)) (now_is u ∙ first)
      (ap (agree q.induced (is_some k.back)) (back_is u) ∙ agreed q.induced k.back (edge q.target u t) m.back)
    where
      to_all : (a b : Bool) → a ≡ true → b ≡ true → (a && b) ≡ true
      to_all a b x y = rw (x, y) refl

-- where images may meet, edges tell all
pub whole_meeting : (q : Problem) (k : PairKind) (first row : List ℕ) (t : ℕ) → k.apart ≡ false → ((u : ℕ) → has first u ≡ nat_lt u (size q.target))
    → ((u : ℕ) → has row u ≡ true → (has first u ≡ true) × MatchEdges q k t u) → ((u : ℕ) → has first u ≡ true → MatchEdges q k t u → has row u ≡ true) → RowIs q k t row
whole_meeting q k first row t meets below right complete = record {
  right = λ u h.
      let kept = right u h in (
        ltb-true u (size q.target) (sym (below u) ∙ kept.0),
        record {
          apart = λ is. absurd (false≢true (sym meets ∙ is));
          out = kept.1.out;
          back = kept.1.back;
          shared = λ is. absurd (false≢true (sym meets ∙ is));
          in_shared = λ is. absurd (false≢true (sym meets ∙ is));
        },
      );
  complete = λ u u_in j. complete u (below u ∙ lt-ltb u (size q.target) u_in) (record { out = j.out; back = j.back });
}

-- the steps by which such a row is made leave what joins, where images are apart
pub whole_by_words : (q : Problem) (k : PairKind) (first free shared row : List ℕ) (t : ℕ) → k.apart ≡ true → ((u : ℕ) → has first u ≡ nat_lt u (size q.target))
    → ((u : ℕ) → has free u ≡ true → (has first u ≡ true) × MatchEdges q k t u) → ((u : ℕ) → has first u ≡ true → MatchEdges q k t u → has free u ≡ true)
    → ((u : ℕ) → has shared u ≡ true → (has free u ≡ true) × ((t ≡ u → ⊥) → Shares q k t u)) → ((u : ℕ) → has free u ≡ true → (t ≡ u → ⊥) → Shares q k t u → has shared u ≡ true)
    → ((u : ℕ) → has row u ≡ (has shared u && not (t == u))) → RowIs q k t row
whole_by_words q k first free shared row t two below free_right free_complete shared_right shared_complete cut = record {
  right = λ u h. found u (left_of (has shared u) (t == u) (sym (cut u) ∙ h));
  complete = λ u u_in j.
      cut u
      ∙ left_by (has shared u) (t == u)
      (shared_complete u (free_complete u (below u ∙ lt-ltb u (size q.target) u_in) (record { out = j.out; back = j.back })) (j.apart two) (record { shared = j.shared two; in_shared = j.in_shared two }))
      (ne_eqb t u (j.apart two));
}
  where
    found : (u : ℕ) → (has shared u ≡ true) × ((t == u) ≡ false) → (u < size q.target) × Joins q k t u
    found u h =
        let ne : t ≡ u → ⊥ = λ e. false≢true (sym h.1 ∙ eq-eqb t u e) in
        let kept = shared_right u h.0 in
        let alone = free_right u kept.0 in
        let enough = kept.1 ne in (
          ltb-true u (size q.target) (sym (below u) ∙ alone.0),
          record { apart = λ _. ne; out = alone.1.out; back = alone.1.back; shared = λ _. enough.shared; in_shared = λ _. enough.in_shared },
        )

-- ---- the steps

second_of : (i b : Bool) → i ≡ true → (i && b) ≡ false → b ≡ false
second_of true b e h = h
second_of false b e h = absurd (false≢true e)

-- a count that is kept is not too small
pub enough_of : (counts : List ℕ) (least u : ℕ) → not (nat_lt (get_or counts u 0) least) ≡ true → least ≤ get_or counts u 0
enough_of counts least u h = by (cases_lt (get_or counts u 0) least)
  where
    by : (get_or counts u 0 < least) ⊎ (least ≤ get_or counts u 0) → least ≤ get_or counts u 0
    by (inl less) = absurd (false≢true (ap not (sym (lt-ltb (get_or counts u 0) least less)) ∙ h))
    by (inr more) = more

pub kept_by : (counts : List ℕ) (least u : ℕ) → least ≤ get_or counts u 0 → nat_lt (get_or counts u 0) least ≡ false
kept_by counts least u le = le-ltb (get_or counts u 0) least le

-- counted out, with no more asked for back, where edges stand both ways
pub shared_mutual : (q : Problem) (k : PairKind) (t : ℕ) (old new counts back : List ℕ) (both_ways : Bool) → Serve q k t counts back both_ways → both_ways ≡ true
    → MutualShared → t < size q.target → k.in_shared ≤ k.shared → ((u : ℕ) → has old u ≡ true → u < size q.target)
    → ((u : ℕ) → has new u ≡ (has old u && not (nat_lt (get_or counts u 0) k.shared))) → (u : ℕ) → has new u ≡ true
    → (has old u ≡ true) × ((t ≡ u → ⊥) → Shares q k t u)
shared_mutual q k t old new counts back both_ways are told law t_in less within cut u h =
    let left = left_of (has old u) (nat_lt (get_or counts u 0) k.shared) (sym (cut u) ∙ h) in
    let enough : k.shared ≤ get_or counts u 0 = enough_of counts k.shared u (ap not left.1) in
    let u_in : u < size q.target = within u left.0 in (
      left.0,
      λ (ne : t ≡ u → ⊥).
          let shared = (are.told u u_in ne).0 enough in
          let same : common (reversed q.target) t u ≡ common q.target t u = law q.target t u (are.both told) t_in u_in in
          record { shared = shared; in_shared = omega (arith, shared, same, less) },
    )

-- counted in both directions
pub shared_right : (q : Problem) (k : PairKind) (t : ℕ) (old now new counts back : List ℕ) (both_ways : Bool) → Serve q k t counts back both_ways
    → ((u : ℕ) → has old u ≡ true → u < size q.target)
    → ((u : ℕ) → has now u ≡ (has old u && not (nat_lt (get_or counts u 0) k.shared)))
    → ((u : ℕ) → has new u ≡ (has now u && not (nat_lt (get_or back u 0) k.in_shared))) → (u : ℕ) → has new u ≡ true
    → (has old u ≡ true) × ((t ≡ u → ⊥) → Shares q k t u)
shared_right q k t old now new counts back both_ways are within cut in_cut u h =
    let last = left_of (has now u) (nat_lt (get_or back u 0) k.in_shared) (sym (in_cut u) ∙ h) in
    let left = left_of (has old u) (nat_lt (get_or counts u 0) k.shared) (sym (cut u) ∙ last.0) in
    let enough : k.shared ≤ get_or counts u 0 = enough_of counts k.shared u (ap not left.1) in
    let in_enough : k.in_shared ≤ get_or back u 0 = enough_of back k.in_shared u (ap not last.1) in
    let u_in : u < size q.target = within u left.0 in (
      left.0,
      λ (ne : t ≡ u → ⊥).
          record { shared = (are.told u u_in ne).0 enough; in_shared = (are.back_told u u_in ne).0 in_enough },
    )

pub shared_kept : (q : Problem) (k : PairKind) (t : ℕ) (old new counts back : List ℕ) (both_ways : Bool) → Serve q k t counts back both_ways
    → ((u : ℕ) → has old u ≡ true → u < size q.target)
    → ((u : ℕ) → has new u ≡ (has old u && not (nat_lt (get_or counts u 0) k.shared))) → (u : ℕ) → has old u ≡ true → (t ≡ u → ⊥) → Shares q k t u → has new u ≡ true
shared_kept q k t old new counts back both_ways are within cut u h ne enough =
    cut u ∙ left_by (has old u) (nat_lt (get_or counts u 0) k.shared) h (kept_by counts k.shared u ((are.told u (within u h) ne).1 enough.shared))

pub shared_complete : (q : Problem) (k : PairKind) (t : ℕ) (old now new counts back : List ℕ) (both_ways : Bool) → Serve q k t counts back both_ways
    → ((u : ℕ) → has old u ≡ true → u < size q.target)
    → ((u : ℕ) → has now u ≡ (has old u && not (nat_lt (get_or counts u 0) k.shared)))
    → ((u : ℕ) → has new u ≡ (has now u && not (nat_lt (get_or back u 0) k.in_shared))) → (u : ℕ) → has old u ≡ true → (t ≡ u → ⊥) → Shares q k t u → has new u ≡ true
shared_complete q k t old now new counts back both_ways are within cut in_cut u h ne enough =
    in_cut u
    ∙ left_by (has now u) (nat_lt (get_or back u 0) k.in_shared) (shared_kept q k t old now counts back both_ways are within cut u h ne enough)
    (kept_by back k.in_shared u ((are.back_told u (within u h) ne).1 enough.in_shared))

-- what is kept of a row of vertices are vertices
pub still_within : (n : ℕ) (old new : List ℕ) (f : ℕ → Bool) → ((u : ℕ) → has old u ≡ true → u < n) → ((u : ℕ) → has new u ≡ (has old u && f u)) → (u : ℕ) → has new u ≡ true → u < n
still_within n old new f within cut u h = within u ((and_parts (has old u) (f u) (sym (cut u) ∙ h)).0)

-- a kind that asks for distinct images without an edge alone, where edges stand both ways
pub bare_joins : (q : Problem) (k : PairKind) (t u : ℕ) → k.apart ≡ true → q.induced ≡ true → IsMutual q.target → (is_some k.out || is_some k.back) ≡ false → (k.shared ≡ 0) × (k.in_shared ≡ 0)
    → t < size q.target → u < size q.target → Joins q k t u ↔ ((t ≡ u → ⊥) × (is_neighbour q.target t u ≡ false))
bare_joins q k t u two induced ways none shared t_in u_in = (
  (λ (j : Joins q k t u). (j.apart two, ap (λ (b : Bool). not (t == u) && b) (second_of q.induced (is_some (edge q.target t u)) induced (brings_none q.induced k.out (edge q.target t u) edges.0 j.out)) ∙ never (not (t == u)))),
  (λ (h : (t ≡ u → ⊥) × (is_neighbour q.target t u ≡ false)).
      let apart : is_some (edge q.target t u) ≡ false = sym (ap (λ (b : Bool). not b && is_some (edge q.target t u)) (ne_eqb t u h.0)) ∙ h.1 in
      record {
        apart = λ _. h.0;
        out = matches_none q.induced k.out (edge q.target t u) edges.0 (within q.induced (is_some (edge q.target t u)) apart);
        back = matches_none q.induced k.back (edge q.target u t) edges.1 (within q.induced (is_some (edge q.target u t)) (ways.both u t u_in t_in ∙ apart));
        shared = λ _. omega (arith, shared.0);
        in_shared = λ _. omega (arith, shared.1);
      }),
)
  where
    edges : (is_some k.out ≡ false) × (is_some k.back ≡ false)
    edges = none_of (is_some k.out) (is_some k.back) none

    never : (a : Bool) → (a && false) ≡ false
    never true = refl
    never false = refl

    within : (a b : Bool) → b ≡ false → (a && b) ≡ false
    within true b e = e
    within false b e = refl

-- a row of vertices is within the counts
pub row_in_counts : (row : List ℕ) (n m : ℕ) (f : ℕ → Bool) → n ≡ m → ((u : ℕ) → has row u ≡ (nat_lt u n && f u)) → (u : ℕ) → has row u ≡ true → u < m
row_in_counts row n m f same is u h = let both = and_parts (nat_lt u n) (f u) (sym (is u) ∙ h) in omega (arith, ltb-true u n both.0)

-- and no longer than they are, but for the last word
pub row_fits_counts : (row counts n : ℕ) → row ≡ words_for n → counts ≡ n → 64 * row < counts + 64
row_fits_counts row counts n row_is counts_are = omega (arith, row_is, counts_are)

-- a row of vertices is short, and each of them a small number
pub row_short : (row n : ℕ) → n ≤ 8192 → row ≡ words_for n → row ≤ 1024
row_short row n few row_is = omega (arith, few, row_is)

pub vertex_fits : (u n : ℕ) → n ≤ 8192 → u < n → Fits w16 u
vertex_fits u n few u_in = omega (arith, few, u_in)

-- Degrees and their sequences in each direction.

use Rattle.std.proofs.Common.{◌≡◌, ◌↔◌, ℕ, ◌<◌, ◌≤◌, Bool, true, false, ◌==◌, ◌&&◌, List, get_or, refl, sym, ap, ◌∙◌, subst}
use Rattle.std.proofs.lemmas.Bool.{eq-eqb}
use Rattle.graph_theory.specs.Graph.{Graph, size, label}
use Rattle.graph_theory.specs.Embedding.{Problem, is_injective, Allowed}
use Rattle.graph_theory.specs.Asked.{asked_degree_in, asked_degree, room_in, room, asked_sequence_in, asked_sequence}
use Rattle.graph_theory.specs.declared.embedding.Maps.{Maps}
use Rattle.graph_theory.specs.declared.embedding.Maps.TheVariants.{Injective, Local, Any}
use Rattle.graph_theory.proofs.NeighbourCounts.{nothing_kept}
use Rattle.graph_theory.specs.Neighbours.{degree, sequence, IsKeptBy}
use Rattle.graph_theory.specs.Reversed.{reversed, reversed_problem, AreMutual}
use Rattle.graph_theory.proofs.ReversedGraphs.{degree-mutual, sequence-mutual}
use Rattle.bit_rows.specs.BitRows.{has}
use Rattle.nds_filter.specs.Sequences.{sequences, sequence_at}
use Rattle.nds_filter.proofs.Keeping.{sequence_is}
use Rattle.search_theory.specs.Consistency.{IsFirstValue}
use Rattle.initial_domains.specs.Degrees.{KeepsNeighbours, KeepsDegrees, KeepsSequences}

-- where edges stand both ways one direction is enough
pub mutual_keeps : (q : Problem) (p t : ℕ) → AreMutual q → p < size q.pattern → t < size q.target
    → degree q.pattern p ≤ degree q.target t → IsKeptBy (sequence q.pattern p) (sequence q.target t) → KeepsNeighbours q p t
mutual_keeps q p t ways p_in t_in degrees sequences = record {
  in_degree = rw (degree-mutual q.pattern p ways.pattern_mutual p_in, degree-mutual q.target t ways.target_mutual t_in) degrees;
  degree = degrees;
  in_sequence = rw (sequence-mutual q.pattern p ways.pattern_mutual p_in, sequence-mutual q.target t ways.target_mutual t_in) sequences;
  sequence = sequences;
}

both_of : (a b : Bool) → (a && b) ≡ true → (a ≡ true) × (b ≡ true)
both_of true true h = (refl, refl)
both_of true false h = cc
both_of false b h = cc

to_both : (a b : Bool) → a ≡ true → b ≡ true → (a && b) ≡ true
to_both true true x y = refl
to_both true false x y = cc
to_both false b x y = cc

pub mutual_row : (q v : Problem) (p : ℕ) (out row : List ℕ) → v ≡ q → AreMutual q → p < size q.pattern → row ≡ out → ((t : ℕ) → has out t ≡ true → t < size v.target)
    → ((t : ℕ) → has out t ≡ true → degree v.pattern p ≤ degree v.target t) → ((t : ℕ) → has out t ≡ true → IsKeptBy (sequence v.pattern p) (sequence v.target t))
    → (t : ℕ) → has row t ≡ true → KeepsNeighbours q p t
mutual_row q v p out row is ways p_in row_is within degrees sequences t h =
    let there : has out t ≡ true = subst (λ (xs : List ℕ). has xs t ≡ true) row_is h in
    mutual_keeps q p t ways p_in (subst (λ (x : Problem). t < size x.target) is (within t there))
    (subst (λ (x : Problem). degree x.pattern p ≤ degree x.target t) is (degrees t there))
    (subst (λ (x : Problem). IsKeptBy (sequence x.pattern p) (sequence x.target t)) is (sequences t there))

-- else the rows of both directions
pub both_keep : (q v w : Problem) (p : ℕ) (out back now row : List ℕ) → v ≡ q → w ≡ reversed_problem q → now ≡ out → ((t : ℕ) → has row t ≡ (has now t && has back t))
    → ((t : ℕ) → has out t ≡ true → degree v.pattern p ≤ degree v.target t) → ((t : ℕ) → has out t ≡ true → IsKeptBy (sequence v.pattern p) (sequence v.target t))
    → ((t : ℕ) → has back t ≡ true → degree w.pattern p ≤ degree w.target t) → ((t : ℕ) → has back t ≡ true → IsKeptBy (sequence w.pattern p) (sequence w.target t))
    → (t : ℕ) → has row t ≡ true → KeepsNeighbours q p t
both_keep q v w p out back now row is back_is now_is cut degrees sequences in_degrees in_sequences t h =
    let both = both_of (has now t) (has back t) (sym (cut t) ∙ h) in
    let there : has out t ≡ true = subst (λ (xs : List ℕ). has xs t ≡ true) now_is both.0 in
    record {
      in_degree = subst (λ (x : Problem). degree x.pattern p ≤ degree x.target t) back_is (in_degrees t both.1);
      degree = subst (λ (x : Problem). degree x.pattern p ≤ degree x.target t) is (degrees t there);
      in_sequence = subst (λ (x : Problem). IsKeptBy (sequence x.pattern p) (sequence x.target t)) back_is (in_sequences t both.1);
      sequence = subst (λ (x : Problem). IsKeptBy (sequence x.pattern p) (sequence x.target t)) is (sequences t there);
    }

pub both_kept : (q v w : Problem) (p : ℕ) (out back now row : List ℕ) → v ≡ q → w ≡ reversed_problem q → now ≡ out → ((t : ℕ) → has row t ≡ (has now t && has back t))
    → ((t : ℕ) → t < size v.target → IsKeptBy (sequence v.pattern p) (sequence v.target t) → has out t ≡ true)
    → ((t : ℕ) → t < size w.target → IsKeptBy (sequence w.pattern p) (sequence w.target t) → has back t ≡ true)
    → (t : ℕ) → t < size q.target → KeepsNeighbours q p t → has row t ≡ true
both_kept q v w p out back now row is back_is now_is cut complete in_complete t t_in k =
    cut t
    ∙ to_both (has now t) (has back t)
    (subst (λ (xs : List ℕ). has xs t ≡ true) (sym now_is)
    (subst (λ (x : Problem). t < size x.target → IsKeptBy (sequence x.pattern p) (sequence x.target t) → has out t ≡ true) is (complete t) t_in k.sequence))
    (subst (λ (x : Problem). t < size x.target → IsKeptBy (sequence x.pattern p) (sequence x.target t) → has back t ≡ true) back_is (in_complete t) t_in k.in_sequence)

-- ---- what is asked, by the kind of the maps

degree_asked : (k : Maps) (g h : Graph) (p t : ℕ) → is_injective k ≡ true → degree g p ≤ degree h t → asked_degree_in k g p ≤ room_in k h t
degree_asked Injective g h p t is le = le
degree_asked Local g h p t is le = absurd cc
degree_asked Any g h p t is le = absurd cc

degree_given : (k : Maps) (g h : Graph) (p t : ℕ) → is_injective k ≡ true → asked_degree_in k g p ≤ room_in k h t → degree g p ≤ degree h t
degree_given Injective g h p t is le = le
degree_given Local g h p t is le = absurd cc
degree_given Any g h p t is le = absurd cc

sequence_asked : (k : Maps) (g : Graph) (ts : List ℕ) (p : ℕ) → is_injective k ≡ true → IsKeptBy (sequence g p) ts → IsKeptBy (asked_sequence_in k g p) ts
sequence_asked Injective g ts p is kept = kept
sequence_asked Local g ts p is kept = absurd cc
sequence_asked Any g ts p is kept = absurd cc

sequence_given : (k : Maps) (g : Graph) (ts : List ℕ) (p : ℕ) → is_injective k ≡ true → IsKeptBy (asked_sequence_in k g p) ts → IsKeptBy (sequence g p) ts
sequence_given Injective g ts p is kept = kept
sequence_given Local g ts p is kept = absurd cc
sequence_given Any g ts p is kept = absurd cc

sequence_free : (k : Maps) (g : Graph) (ts : List ℕ) (p : ℕ) → is_injective k ≡ false → IsKeptBy (asked_sequence_in k g p) ts
sequence_free Injective g ts p is = absurd cc
sequence_free Local g ts p is = nothing_kept ts
sequence_free Any g ts p is = nothing_kept ts

-- by injective maps all that neighbours say is asked
pub asked_neighbours : (q : Problem) (p t : ℕ) → is_injective q.maps ≡ true → KeepsNeighbours q p t → KeepsDegrees q p t
asked_neighbours q p t is k = record {
  in_degree = degree_asked q.maps (reversed q.pattern) (reversed q.target) p t is k.in_degree;
  degree = degree_asked q.maps q.pattern q.target p t is k.degree;
  in_sequence = sequence_asked q.maps (reversed q.pattern) (sequence (reversed q.target) t) p is k.in_sequence;
  sequence = sequence_asked q.maps q.pattern (sequence q.target t) p is k.sequence;
}

pub given_neighbours : (q : Problem) (p t : ℕ) → is_injective q.maps ≡ true → KeepsDegrees q p t → KeepsNeighbours q p t
given_neighbours q p t is k = record {
  in_degree = degree_given q.maps (reversed q.pattern) (reversed q.target) p t is k.in_degree;
  degree = degree_given q.maps q.pattern q.target p t is k.degree;
  in_sequence = sequence_given q.maps (reversed q.pattern) (sequence (reversed q.target) t) p is k.in_sequence;
  sequence = sequence_given q.maps q.pattern (sequence q.target t) p is k.sequence;
}

-- by others their degrees ask nothing
pub roomy_neighbours : (q : Problem) (p t : ℕ) → is_injective q.maps ≡ false → asked_degree q p ≤ room q t
    → asked_degree (reversed_problem q) p ≤ room (reversed_problem q) t → KeepsDegrees q p t
roomy_neighbours q p t is along against = record {
  in_degree = against;
  degree = along;
  in_sequence = sequence_free q.maps (reversed q.pattern) (sequence (reversed q.target) t) p is;
  sequence = sequence_free q.maps q.pattern (sequence q.target t) p is;
}

-- ---- first values

-- a first value is one that its label, its loop and the degrees let through
pub first_of : (q : Problem) (p t : ℕ) → Allowed q p t → KeepsDegrees q p t → IsFirstValue q p t
first_of q p t alone k = record { alone = alone; in_degree = k.in_degree; degree = k.degree; in_sequence = k.in_sequence; sequence = k.sequence }

pub degrees_of : (q : Problem) (p t : ℕ) → IsFirstValue q p t → KeepsDegrees q p t
degrees_of q p t f = record { in_degree = f.in_degree; degree = f.degree; in_sequence = f.in_sequence; sequence = f.sequence }

-- the rows by the degrees, by the label and by the loop, one after another
pub first_right : (q v : Problem) (p l : ℕ) (kept equal row labels : List ℕ) → v ≡ q → ((t : ℕ) → has kept t ≡ true → KeepsDegrees v p t)
    → ((t : ℕ) → has equal t ≡ (has kept t && (get_or labels t 0 == l))) → ((t : ℕ) → has row t ≡ true → (has equal t ≡ true) × Allowed q p t)
    → (t : ℕ) → has row t ≡ true → IsFirstValue q p t
first_right q v p l kept equal row labels is right cut last t h =
    let left = last t h in
    let both = both_of (has kept t) (get_or labels t 0 == l) (sym (cut t) ∙ left.0) in
    first_of q p t left.1 (subst (λ (x : Problem). KeepsDegrees x p t) is (right t both.0))

pub first_complete : (q v : Problem) (p l : ℕ) (kept equal row labels : List ℕ) → v ≡ q → labels ≡ q.target.labels → l ≡ label q.pattern p
    → ((t : ℕ) → t < size v.target → KeepsDegrees v p t → has kept t ≡ true)
    → ((t : ℕ) → has equal t ≡ (has kept t && (get_or labels t 0 == l))) → ((t : ℕ) → has equal t ≡ true → Allowed q p t → has row t ≡ true)
    → (t : ℕ) → IsFirstValue q p t → t < size q.target → has row t ≡ true
first_complete q v p l kept equal row labels is labels_are l_is complete cut last t f t_in =
    last t
    (cut t
    ∙ to_both (has kept t) (get_or labels t 0 == l) (subst (λ (x : Problem). t < size x.target → KeepsDegrees x p t → has kept t ≡ true) is (complete t) t_in (degrees_of q p t f))
    (eq-eqb (get_or labels t 0) l (ap (λ (xs : List ℕ). get_or xs t 0) labels_are ∙ f.alone.label_is ∙ sym l_is))) f.alone

-- what the lists of all sequences say of two vertices
pub kept_in : (g h : Graph) (ps ts : List (List ℕ)) (p t : ℕ) (b : Bool) → ps ≡ sequences g → ts ≡ sequences h → p < size g → t < size h
    → ((b ≡ true) ↔ IsKeptBy (sequence_at ps p) (sequence_at ts t)) → (b ≡ true) ↔ IsKeptBy (sequence g p) (sequence h t)
kept_in g h ps ts p t b ps_are ts_are p_in t_in told =
    subst (λ (ys : List ℕ). (b ≡ true) ↔ IsKeptBy (sequence g p) ys) (sequence_is h ts t ts_are t_in)
    (subst (λ (xs : List ℕ). (b ≡ true) ↔ IsKeptBy xs (sequence_at ts t)) (sequence_is g ps p ps_are p_in) told)

-- behind the other tests a value is a first one where its neighbours' degrees are kept, as far as they are asked
pub first_degrees : (q : Problem) (p t : ℕ) → (asked_degree q p ≤ room q t) × (asked_degree (reversed_problem q) p ≤ room (reversed_problem q) t) → Allowed q p t
    → is_injective q.maps ≡ true → (b : Bool) → ((b ≡ true) ↔ KeepsSequences q p t) → (b ≡ true) ↔ IsFirstValue q p t
first_degrees q p t degrees alone is b told = (
  λ passed. record {
    alone = alone;
    in_degree = degrees.1;
    degree = degrees.0;
    in_sequence = sequence_asked q.maps (reversed q.pattern) (sequence (reversed q.target) t) p is (told.0 passed).in_sequence;
    sequence = sequence_asked q.maps q.pattern (sequence q.target t) p is (told.0 passed).sequence;
  },
  λ first. told.1 (record {
    in_sequence = sequence_given q.maps (reversed q.pattern) (sequence (reversed q.target) t) p is first.in_sequence;
    sequence = sequence_given q.maps q.pattern (sequence q.target t) p is first.sequence;
  }),
)

pub first_free : (q : Problem) (p t : ℕ) → (asked_degree q p ≤ room q t) × (asked_degree (reversed_problem q) p ≤ room (reversed_problem q) t) → Allowed q p t
    → is_injective q.maps ≡ false → IsFirstValue q p t
first_free q p t degrees alone is = first_of q p t alone (roomy_neighbours q p t is degrees.0 degrees.1)

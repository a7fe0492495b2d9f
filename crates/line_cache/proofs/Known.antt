-- What the line of a set that is found or made adds to what is known.
use Rattle.std.proofs.Common.{arith, ◌≡◌, ℕ, Bool, ◌==◌, ◌||◌, true, List, [], ◌∷◌, Option, Ok, Err, refl, sym, ap, subst, ◌∙◌, ◌⊎◌, inl, inr}
use Rattle.std.specs.List.{list_any}
use Rattle.std.specs.List.Sorted.{IsPermutation}
use Rattle.std.specs.declared.alloc.AllocError.{AllocError}
use Rattle.std.proofs.lemmas.List.Sorted.{list_any-IsPermutation, length_permutation}
use Rattle.graph_theory.specs.Embedding.{Problem}
use Rattle.proof_theory.specs.Forms.{Form}
use Rattle.log_theory.specs.declared.step.Name.{Name}
use Rattle.log_theory.specs.declared.step.Ref.TheVariants.{Made}
use Rattle.log_theory.specs.declared.step.Step.{Step}
use Rattle.log_theory.specs.Lookups.{is_among}
use Rattle.recorder.specs.Recording.{CountedSet}
use Rattle.log_growth.specs.Frames.{Frame, IsNamed, Goes, AnyForms}
use Rattle.log_growth.proofs.Going.{goes_stay, goes_as, goes_beside}
use Rattle.dead_theory.specs.Changes.{IsSetIn}
use Rattle.dead_paths.specs.Lines.{IsSetKept}
use Rattle.line_cache.specs.Sets.{with_set, HasName, AreSets, IsKnownSet, sets_last}
use Rattle.line_cache.proofs.Orders.{set_form_same}

-- ---- one set more

has_with : (sets : List (CountedSet × Name)) (s t : CountedSet) (n m : Name) → HasName (with_set sets s n) t m → HasName sets t m ⊎ ((s ≡ t) × (n ≡ m))
has_with [] s t n m (inl h) = inr h
has_with [] s t n m (inr h) = absurd h
has_with (x ∷ sets) s t n m (inl h) = inl (inl h)
has_with (x ∷ sets) s t n m (inr h) = elim (has_with sets s t n m h) [ inl k ↦ inl (inr k) | inr k ↦ inr k ]

sets_one_more : (q : Problem) (w : Frame) (sets : List (CountedSet × Name)) (s : CountedSet) (n : Name) (forms : List Form) → AreSets q w sets forms → IsSetKept q s.centre s.vertices s.values w (Ok n) forms
    → AreSets q w (with_set sets s n) forms
sets_one_more q w sets s n forms h kept = λ t m has. by t m (has_with sets s t n m has)
  where
    by : (t : CountedSet) (m : Name) → HasName sets t m ⊎ ((s ≡ t) × (n ≡ m)) → IsSetKept q t.centre t.vertices t.values w (Ok m) forms
    by t m (inl has) = h t m has
    by t m (inr is) = subst (λ (x : CountedSet). IsSetKept q x.centre x.vertices x.values w (Ok m) forms) is.0 (subst (λ (k : Name). IsSetKept q s.centre s.vertices s.values w (Ok k) forms) is.1 kept)

-- ---- calls

-- A set that is found.
pub set_found : (q : Problem) (w : Frame) (b : Option ℕ) (vertices values : List ℕ) (sets : List (CountedSet × Name)) (n : Name) (kept : Option (List Step)) → HasName sets (record { centre = b; vertices = vertices; values = values }) n
    → Goes w kept kept (AreSets q w sets) (IsKnownSet q w b vertices values sets (Ok n))
set_found q w b vertices values sets n kept has =
    let s : CountedSet = record { centre = b; vertices = vertices; values = values } in goes_stay w kept kept (AreSets q w sets) (IsKnownSet q w b vertices values sets (Ok n)) refl (λ forms h. (h, h s n has))

-- One whose line is made.
pub set_made : (q : Problem) (w : Frame) (b : Option ℕ) (vertices values : List ℕ) (sets more : List (CountedSet × Name)) (n : Name) (old new : Option (List Step)) → more ≡ with_set sets (record { centre = b; vertices = vertices; values = values }) n
    → Goes w old new AnyForms (IsSetKept q b vertices values w (Ok n)) → Goes w old new (AreSets q w sets) (IsKnownSet q w b vertices values more (Ok n))
set_made q w b vertices values sets more n old new added goes =
    let s : CountedSet = record { centre = b; vertices = vertices; values = values } in
    goes_as w old new (λ forms. AnyForms forms × AreSets q w sets forms) (λ forms. IsSetKept q b vertices values w (Ok n) forms × AreSets q w sets forms) (AreSets q w sets) (IsKnownSet q w b vertices values more (Ok n))
    (λ forms h. (tt, h)) (λ forms h. (subst (λ (x : List (CountedSet × Name)). AreSets q w x forms) (sym added) (sets_one_more q w sets s n forms h.1 h.0), h.0))
    (goes_beside w old new AnyForms (IsSetKept q b vertices values w (Ok n)) (AreSets q w sets) (sets_last q w sets) goes)

-- After a refusal the sets are the same.
pub set_refused : (q : Problem) (w : Frame) (b : Option ℕ) (vertices values : List ℕ) (sets now : List (CountedSet × Name)) (e : AllocError) (old new : Option (List Step)) (Claim : List Form → Type 0) → now ≡ sets
    → Goes w old new AnyForms Claim → Goes w old new (AreSets q w sets) (IsKnownSet q w b vertices values now (Err e))
set_refused q w b vertices values sets now e old new Claim same goes =
    goes_as w old new (λ forms. AnyForms forms × AreSets q w sets forms) (λ forms. Claim forms × AreSets q w sets forms) (AreSets q w sets) (IsKnownSet q w b vertices values now (Err e))
    (λ forms h. (tt, h)) (λ forms h. subst (λ (x : List (CountedSet × Name)). AreSets q w x forms) (sym same) h.1)
    (goes_beside w old new AnyForms Claim (AreSets q w sets) (sets_last q w sets) goes)

-- ---- other orders

among_any : (p : ℕ) (xs : List ℕ) → is_among p xs ≡ list_any (λ x. x == p) xs
among_any p [] = refl
among_any p (x ∷ xs) = ap (λ (b : Bool). (x == p) || b) (among_any p xs)

among_same : (xs ys : List ℕ) (p : ℕ) → IsPermutation xs ys → is_among p ys ≡ true → is_among p xs ≡ true
among_same xs ys p same among = among_any p xs ∙ list_any-IsPermutation (λ x. x == p) xs ys same ∙ sym (among_any p ys) ∙ among

pub set_same : (q : Problem) (b : Option ℕ) (xs ys values : List ℕ) → IsPermutation xs ys → IsSetIn q b xs values → IsSetIn q b ys values
set_same q b xs ys values same h = record {
  block = h.block;
  members = λ p among. h.members p (among_same xs ys p same among);
  vertices_in = λ p among. h.vertices_in p (among_same xs ys p same among);
  values_in = h.values_in;
  vertices_few = let same_long = length_permutation xs ys same in let few = h.vertices_few in omega (arith, same_long, few);
  values_few = let same_long = length_permutation xs ys same in let few = h.values_few in omega (arith, same_long, few);
}

-- The name of a set's form is that of the form of its vertices in another order.
pub kept_same : (q : Problem) (w : Frame) (b : Option ℕ) (xs ys values : List ℕ) (n : Name) (forms : List Form) → IsPermutation xs ys → IsSetKept q b ys values w (Ok n) forms → IsSetKept q b xs values w (Ok n) forms
kept_same q w b xs [] values n forms same h = absurd h
kept_same q w b [] (r ∷ others) values n forms same h = absurd (let e = length_permutation [] (r ∷ others) same in cc)
kept_same q w b (p ∷ rest) (r ∷ others) values n forms same h = subst (λ (f : Form). IsNamed w forms (Made n) f) (set_form_same q b p r rest others values same) h

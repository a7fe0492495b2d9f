-- Images of placed vertices, and one more.

use Rattle.std.proofs.Common.{◌≡◌, ℕ, ◌*◌, ◌%◌, ◌^◌, ◌<◌, Bool, true, false, ◌||◌, eqb, List, length, get_or, Option, Some, None, is_some, refl, sym, ◌∙◌, subst, arith, inl, inr, ◌⊎◌, bit_or}
use Rattle.std.proofs.Math.ListN.{set}
use Rattle.std.proofs.lemmas.Bool.{eqb-true, eq-eqb, false≢true}
use Rattle.std.proofs.lemmas.List.{get_or-set_same, get_or-set_other}
use Rattle.graph_theory.specs.Graph.{Graph, size}
use Rattle.graph_theory.specs.Embedding.{Problem, Embeds, Allowed, Compatible, Matches, is_injective, differ_in}
use Rattle.graph_theory.specs.declared.embedding.Maps.{Maps}
use Rattle.graph_theory.specs.declared.embedding.Maps.TheVariants.{Injective, Local, Any}
use Rattle.graph_theory.proofs.BlockProofs.{differ_is_symmetric}
use Rattle.graph_theory.proofs.ByPairs.{pairs-from_embeds}
use Rattle.bit_rows.specs.BitRows.{is_set}
use Rattle.small_search.specs.Placing.{Fits, AreInUse, Agrees, NoneAgrees, NoneAgreesAt}
use Rattle.small_search.proofs.Words.{with_bit}

-- p is placed at t beside the others
pub record IsPlaced (placed more p t : ℕ) (images now : List ℕ) : Type 0 where
  pub before : is_set placed p ≡ false
  pub bits : (b : ℕ) → is_set more b ≡ (is_set placed b || eqb b p)
  pub here : get_or now p 0 ≡ t
  pub others : (r : ℕ) → (r ≡ p → ⊥) → get_or now r 0 ≡ get_or images r 0

pub is_placed : (placed p at t : ℕ) (images : List ℕ) → is_set placed p ≡ false → at ≡ p → p < 64 → length images ≡ 64
    → IsPlaced placed (bit_or placed (1 * 2 ^ p % 2 ^ 64)) p t images (set images at t)
is_placed placed p at t images before is p_in long = rw is (record {
  before = before;
  bits = λ b. with_bit placed p b p_in;
  here = get_or-set_same images p t 0 (omega arith);
  others = λ r ne. get_or-set_other images p r t 0 ne;
})

-- a vertex that is placed then is p, or was placed before
either_of : (a b : Bool) → (a || b) ≡ true → (a ≡ true) ⊎ (b ≡ true)
either_of true b h = inl refl
either_of false b h = inr h

placed_or : (placed more p t : ℕ) (images now : List ℕ) → IsPlaced placed more p t images now → (b : ℕ) → is_set more b ≡ true
    → ((is_set placed b ≡ true) × (b ≡ p → ⊥)) ⊎ (b ≡ p)
placed_or placed more p t images now is b h = by (either_of (is_set placed b) (eqb b p) (sym (is.bits b) ∙ h))
  where
    by : (is_set placed b ≡ true) ⊎ (eqb b p ≡ true) → ((is_set placed b ≡ true) × (b ≡ p → ⊥)) ⊎ (b ≡ p)
    by (inl on) = inl (on, λ e. false≢true (sym is.before ∙ subst (λ (v : ℕ). is_set placed v ≡ true) e on))
    by (inr e) = inr (eqb-true b p e)

or_first : (a b : Bool) → a ≡ true → (a || b) ≡ true
or_first a b h = rw h refl

or_second : (a b : Bool) → b ≡ true → (a || b) ≡ true
or_second true b h = refl
or_second false b h = h

pub still_placed : (placed more p t : ℕ) (images now : List ℕ) → IsPlaced placed more p t images now → (b : ℕ) → is_set placed b ≡ true → is_set more b ≡ true
still_placed placed more p t images now is b h = is.bits b ∙ or_first (is_set placed b) (eqb b p) h

placed_itself : (placed more p t : ℕ) (images now : List ℕ) → IsPlaced placed more p t images now → is_set more p ≡ true
placed_itself placed more p t images now is = is.bits p ∙ or_second (is_set placed p) (eqb p p) (eq-eqb p p refl)

other_than : (placed p b : ℕ) → is_set placed p ≡ false → is_set placed b ≡ true → b ≡ p → ⊥
other_than placed p b off on e = false≢true (sym off ∙ subst (λ (v : ℕ). is_set placed v ≡ true) e on)

-- images that agree with others on the placed vertices fit as they do
pub fits_agreeing : (q : Problem) (placed : ℕ) (images now : List ℕ) → Fits q (is_set placed) images → Agrees placed images now → Fits q (is_set placed) now
fits_agreeing q placed images now fits same = record {
  vertices = fits.vertices;
  values = λ p on. rw (same p on) (fits.values p on);
  alone = λ p on. rw (same p on) (fits.alone p on);
  pairs = λ p r p_on r_on apart. rw (same p p_on, same r r_on) (fits.pairs p r p_on r_on apart);
}

pub used_agreeing : (placed used : ℕ) (images now : List ℕ) → AreInUse placed used images → Agrees placed images now → AreInUse placed used now
used_agreeing placed used images now in_use same = record {
  each = λ p on. rw (same p on) (in_use.each p on);
  only = λ t h. let x = in_use.only t h in (x.0, x.1, same x.0 x.1 ∙ x.2);
}

-- two that go together do so the other way round
turned_pair : (q : Problem) (p t r u : ℕ) → Compatible q p t r u → Compatible q r u p t
turned_pair q p t r u c = record { apart = λ two e. c.apart (differ_is_symmetric q p r ∙ two) (sym e); out = c.back; back = c.out }

-- with p at t, which goes with each of them, the images still fit
pub fits_more : (q : Problem) (placed more p t : ℕ) (images now : List ℕ) → IsPlaced placed more p t images now → Fits q (is_set placed) images
    → p < size q.pattern → t < size q.target → Allowed q p t → ((r : ℕ) → is_set placed r ≡ true → Compatible q p t r (get_or images r 0))
    → Fits q (is_set more) now
fits_more q placed more p t images now is fits p_in t_in alone goes = record {
  vertices = λ r on. vertex r (placed_or placed more p t images now is r on);
  values = λ r on. value r (placed_or placed more p t images now is r on);
  alone = λ r on. single r (placed_or placed more p t images now is r on);
  pairs = λ r s r_on s_on apart. pair r s (placed_or placed more p t images now is r r_on) (placed_or placed more p t images now is s s_on) apart;
}
  where
    vertex : (r : ℕ) → ((is_set placed r ≡ true) × (r ≡ p → ⊥)) ⊎ (r ≡ p) → r < size q.pattern
    vertex r (inl x) = fits.vertices r x.0
    vertex r (inr e) = rw e p_in

    value : (r : ℕ) → ((is_set placed r ≡ true) × (r ≡ p → ⊥)) ⊎ (r ≡ p) → get_or now r 0 < size q.target
    value r (inl x) = rw (is.others r x.1) (fits.values r x.0)
    value r (inr e) = rw (e, is.here) t_in

    single : (r : ℕ) → ((is_set placed r ≡ true) × (r ≡ p → ⊥)) ⊎ (r ≡ p) → Allowed q r (get_or now r 0)
    single r (inl x) = rw (is.others r x.1) (fits.alone r x.0)
    single r (inr e) = rw (e, is.here) alone

    pair : (r s : ℕ) → ((is_set placed r ≡ true) × (r ≡ p → ⊥)) ⊎ (r ≡ p) → ((is_set placed s ≡ true) × (s ≡ p → ⊥)) ⊎ (s ≡ p) → (r ≡ s → ⊥)
        → Compatible q r (get_or now r 0) s (get_or now s 0)
    pair r s (inl x) (inl y) apart = rw (is.others r x.1, is.others s y.1) (fits.pairs r s x.0 y.0 apart)
    pair r s (inl x) (inr e) apart = rw (is.others r x.1, e, is.here) (turned_pair q p t r (get_or images r 0) (goes r x.0))
    pair r s (inr e) (inl y) apart = rw (is.others s y.1, e, is.here) (goes s y.0)
    pair r s (inr e) (inr f) apart = absurd (apart (e ∙ sym f))

-- and the images in use are those with t
pub used_more : (placed more used taken p t : ℕ) (images now : List ℕ) → IsPlaced placed more p t images now → AreInUse placed used images
    → ((b : ℕ) → is_set taken b ≡ (is_set used b || eqb b t)) → AreInUse more taken now
used_more placed more used taken p t images now is in_use bits = record {
  each = λ r on. by r (placed_or placed more p t images now is r on);
  only = λ u h. from u (either_of (is_set used u) (eqb u t) (sym (bits u) ∙ h));
}
  where
    by : (r : ℕ) → ((is_set placed r ≡ true) × (r ≡ p → ⊥)) ⊎ (r ≡ p) → is_set taken (get_or now r 0) ≡ true
    by r (inl x) = rw (is.others r x.1) (bits (get_or images r 0) ∙ or_first (is_set used (get_or images r 0)) (eqb (get_or images r 0) t) (in_use.each r x.0))
    by r (inr e) = rw (e, is.here) (bits t ∙ or_second (is_set used t) (eqb t t) (eq-eqb t t refl))

    from : (u : ℕ) → (is_set used u ≡ true) ⊎ (eqb u t ≡ true) → (r : ℕ) × (is_set more r ≡ true) × (get_or now r 0 ≡ u)
    from u (inl h) =
        let x = in_use.only u h in
        (x.0, still_placed placed more p t images now is x.0 x.1, is.others x.0 (other_than placed p x.0 is.before x.1) ∙ x.2)
    from u (inr e) = (p, placed_itself placed more p t images now is, is.here ∙ sym (eqb-true u t e))

-- what agrees with the images after p was placed agrees with those before
pub agrees_before : (placed more p t : ℕ) (first images now last : List ℕ) → IsPlaced placed more p t images now → Agrees placed first images → Agrees more now last
    → Agrees placed first last
agrees_before placed more p t first images now last is same after b on =
    after b (still_placed placed more p t images now is b on) ∙ is.others b (other_than placed p b is.before on) ∙ same b on

-- where no embedding has the images with p at t, none has those before and t for p
pub none_at : (q : Problem) (placed more p t : ℕ) (first images now : List ℕ) → IsPlaced placed more p t images now → Agrees placed first images → NoneAgrees q more now
    → NoneAgreesAt q placed first p t
none_at q placed more p t first images now is same none m e agrees at = none m e (λ b on. by b (placed_or placed more p t images now is b on))
  where
    by : (b : ℕ) → ((is_set placed b ≡ true) × (b ≡ p → ⊥)) ⊎ (b ≡ p) → get_or m b 0 ≡ get_or now b 0
    by b (inl x) = agrees b x.0 ∙ sym (same b x.0) ∙ sym (is.others b x.1)
    by b (inr f) = rw f (at ∙ sym is.here)

-- the same of other images that agree
pub none_at_agreeing : (q : Problem) (placed p t : ℕ) (first images : List ℕ) → Agrees placed first images → NoneAgreesAt q placed images p t → NoneAgreesAt q placed first p t
none_at_agreeing q placed p t first images same none m e agrees at = none m e (λ b on. agrees b on ∙ sym (same b on)) at

-- in an embedding the image of p goes with those of the placed vertices
pub goes_in : (q : Problem) (placed p r : ℕ) (images m : List ℕ) → Embeds q m → Agrees placed images m → Fits q (is_set placed) images → p < size q.pattern
    → is_set placed p ≡ false → is_set placed r ≡ true → Compatible q p (get_or m p 0) r (get_or images r 0)
goes_in q placed p r images m e agrees fits p_in off on =
    subst (λ (u : ℕ). Compatible q p (get_or m p 0) r u) (agrees r on)
    ((pairs-from_embeds q m e).pairs p r p_in (fits.vertices r on) (λ same. other_than placed p r off on (sym same)))

differ_all : (k : Maps) (g : Graph) (p r : ℕ) → is_injective k ≡ true → differ_in k g p r ≡ true
differ_all Injective g p r h = refl
differ_all Local g p r h = absurd cc
differ_all Any g p r h = absurd cc

-- where images differ, that of p is not in use
pub image_is_free : (q : Problem) (placed used p : ℕ) (images m : List ℕ) → Embeds q m → Agrees placed images m → Fits q (is_set placed) images → AreInUse placed used images
    → p < size q.pattern → is_set placed p ≡ false → is_injective q.maps ≡ true → is_set used (get_or m p 0) ≡ false
image_is_free q placed used p images m e agrees fits in_use p_in off differs = by (is_set used (get_or m p 0)) refl
  where
    by : (b : Bool) → is_set used (get_or m p 0) ≡ b → is_set used (get_or m p 0) ≡ false
    by false h = h
    by true h =
        let x = in_use.only (get_or m p 0) h in
        absurd ((goes_in q placed p x.0 images m e agrees fits p_in off x.1).apart (differ_all q.maps q.pattern p x.0 differs) (sym x.2))

-- where an edge is kept, one stands
pub stands : (b : Bool) (e f : Option ℕ) → Matches b e f → is_some e ≡ true → is_some f ≡ true
stands false (Some l) f h k = rw h refl
stands true (Some l) f h k = rw h.0 refl
stands false None f h k = absurd cc
stands true None f h k = absurd cc

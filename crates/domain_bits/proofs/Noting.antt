-- The values noted for domains that have one value only.
use Rattle.std.proofs.Common.{◌≡◌, ℕ, ◌+◌, ◌*◌, ◌-◌, ◌<◌, ◌^◌, Bool, true, List, [], ◌++◌, length, get_or, set, replicate, refl, sym, ap, ◌∙◌, subst, arith, inl, inr, ◌⊎◌, w64}
use Rattle.std.specs.Int.{trailing_zeros}
use Rattle.std.proofs.lemmas.List.{get_or-set_same, get_or-set_other, length-set, get_or-replicate, length-replicate}
use Rattle.std.proofs.lemmas.Bool.{cases_eq}
use lib.Count.{ones}
use Rattle.bit_rows.specs.BitRows.{has, word_values}
use Rattle.domain_bits.specs.Removals.{in_domain, size_of, at_vertex}
use Rattle.domain_bits.specs.Inside.{Kept, Noted}
use Rattle.bit_rows.proofs.Passing.{count_same}
use Rattle.domain_bits.proofs.Sizes.{some_counted, one_counted, in_below}
use Rattle.domain_bits.proofs.Keeping.{state}
use Rattle.domain_bits.proofs.Cutting.{Cut}
use Rattle.domain_bits.proofs.Fresh.{full_size}
use Rattle.domain_bits.proofs.Undoing.{Unwinding, unwinding_last, in_domain-before}

-- a value noted for p is enough where no other domain has changed
pub noted_change : (v n : ℕ) (old new : List (ℕ × ℕ)) (singles singles' : List ℕ) (p x : ℕ)
    → Noted (state v n old) singles → p < v → singles' ≡ set singles p x
    → ((q t : ℕ) → (q ≡ p → ⊥) → in_domain (state v n new) q t ≡ in_domain (state v n old) q t)
    → (size_of (state v n new) p ≡ 1 → in_domain (state v n new) p x ≡ true)
    → Noted (state v n new) singles'
noted_change v n old new singles singles' p x noted h e same own = record {
  long = ap length e ∙ length-set singles p x ∙ noted.long;
  single = λ q l one. by q l one (cases_eq q p);
}
  where
    at-p : get_or singles' p 0 ≡ x
    at-p = ap (λ xs. get_or xs p 0) e ∙ get_or-set_same singles p x 0 (omega (arith, noted.long))

    by : (q : ℕ) → q < v → size_of (state v n new) q ≡ 1 → (q ≡ p) ⊎ (q ≡ p → ⊥) → in_domain (state v n new) q (get_or singles' q 0) ≡ true
    by q l one (inl f) =
        subst (λ i. size_of (state v n new) i ≡ 1 → in_domain (state v n new) i (get_or singles' i 0) ≡ true) (sym f)
        (λ o. ap (in_domain (state v n new) p) at-p ∙ own o) one
    by q l one (inr ne) =
        let before : get_or singles' q 0 ≡ get_or singles q 0 = ap (λ xs. get_or xs q 0) e ∙ get_or-set_other singles p q x 0 ne in
        let one' : size_of (state v n old) q ≡ 1 = count_same (in_domain (state v n old) q) (in_domain (state v n new) q) n (λ i b. sym (same q i ne)) ∙ one in
        ap (in_domain (state v n new) q) before ∙ same q (get_or singles q 0) ne ∙ noted.single q l one'

-- full domains of one value have the value 0
pub noted_fresh : (v n : ℕ) (removed : List (ℕ × ℕ)) (singles : List ℕ) → removed ≡ [] → singles ≡ replicate v 0 → Noted (state v n removed) singles
noted_fresh v n removed singles none e = rw (none, e) (record {
  long = length-replicate v 0;
  single = λ p h one. rw (get_or-replicate {A = ℕ} v p 0 0 h, sym (full_size v n p) ∙ one) refl;
})

-- after a cut, where the value left is noted
pub noted_cut : (v n words : ℕ) (removed removed' : List (ℕ × ℕ)) (rows sizes row' singles singles' : List ℕ) (cap p gone : ℕ) (keeps : ℕ → Bool)
    → Noted (state v n removed) singles → p < v → Cut v n words removed removed' rows sizes row' cap p gone keeps
    → singles' ≡ set singles p (get_or singles' p 0)
    → (get_or sizes p 0 - gone ≡ 1 → has row' (get_or singles' p 0) ≡ true)
    → Noted (state v n removed') singles'
noted_cut v n words removed removed' rows sizes row' singles singles' cap p gone keeps noted h cut e single =
    noted_change v n removed removed' singles singles' p (get_or singles' p 0) noted h e cut.keeps-those.shrinks.others
    (λ one. sym (cut.row (get_or singles' p 0)) ∙ single (sym cut.size ∙ one))

-- where a cut takes nothing, the value noted before it is still the one
pub noted_uncut : (v n words : ℕ) (removed removed' : List (ℕ × ℕ)) (rows sizes row' singles : List ℕ) (cap cap' p gone : ℕ) (keeps : ℕ → Bool)
    → Kept (state v n removed) words rows sizes cap → Noted (state v n removed) singles → p < v
    → Cut v n words removed removed' rows sizes row' cap' p gone keeps
    → gone ≡ 0 → get_or sizes p 0 ≡ 1 → has row' (get_or singles p 0) ≡ true
noted_uncut v n words removed removed' rows sizes row' singles cap cap' p gone keeps k noted h cut none one =
    let was-one : size_of (state v n removed) p ≡ 1 = sym (k.counts p h) ∙ one in
    let here = noted.single p h was-one in
    let new = some_counted (in_domain (state v n removed') p) n (omega (arith, cut.size)) in
    let same = one_counted (in_domain (state v n removed) p) n (get_or singles p 0) new.0 was-one
    (in_below (state v n removed) p (get_or singles p 0) here) here new.1 (cut.keeps-those.shrinks.less p new.0 new.2) in
    cut.row (get_or singles p 0) ∙ subst (λ u. in_domain (state v n removed') p u ≡ true) same new.2

-- after a run has been given back, where its value is noted if it is the only one
pub noted_back : (v n words : ℕ) (before now later : List (ℕ × ℕ)) (rows sizes sizes' singles singles' : List ℕ) (cap mark p place word : ℕ)
    → Unwinding v n words before now rows sizes cap mark → now ≡ later ++ at_vertex p (word_values place word) → length later < length now → word < 2 ^ 64
    → Noted (state v n now) singles → sizes' ≡ set sizes p (get_or sizes p 0 + ones word)
    → singles' ≡ set singles p (get_or singles' p 0)
    → (get_or sizes' p 0 ≡ 1 → get_or singles' p 0 ≡ 64 * place + trailing_zeros w64 word)
    → Noted (state v n later) singles'
noted_back v n words before now later rows sizes sizes' singles singles' cap mark p place word u e fewer small noted sized same single =
    let last = unwinding_last v n words before now later rows sizes cap mark p place word u e fewer small in
    let size : get_or sizes' p 0 ≡ size_of (state v n later) p =
    ap (λ xs. get_or xs p 0) sized ∙ get_or-set_same sizes p (get_or sizes p 0 + ones word) 0 (omega (arith, u.kept.sized, last.vertex)) ∙ sym last.size in
    noted_change v n now later singles singles' p (get_or singles' p 0) noted last.vertex same
    (λ q t ne. in_domain-before v n p place word now later q t e ne)
    (λ one. ap (in_domain (state v n later) p) (single (size ∙ one)) ∙ last.first)

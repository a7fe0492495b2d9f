use Rattle.std.proofs.Common.{◌≡◌, List, ℕ, Some, refl, ◌∙◌, ap, inl, inr, Option}
use Rattle.bit_rows.specs.BitRows.{has}
use Rattle.domain_bits.specs.Removals.{State}
use Rattle.all_different.specs.Pruning.{in_one_of}
use Rattle.recorder.specs.Recording.{Change, CountedSet, KeepsShort, KeepsUnited, members_of}
use Rattle.propagation.proofs.removal.tell_short.Goals as goal

-- What is kept of a set with the values of a row that has them is kept of the set united.
united : (changes : Option (List Change)) (short : Option CountedSet) (d : State) (centre : Option ℕ) (set told row : List ℕ) → told ≡ set → ((t : ℕ) → has row t ≡ in_one_of d set t)
    → KeepsShort changes short (record { centre = centre; vertices = told; values = members_of row }) → KeepsUnited changes short d centre set
united changes short d centre set told row same bits (inr none) = inl none
united changes short d centre set told row same bits (inl kept) = inr (row, bits, kept ∙ ap (λ xs. Some (record { centre = centre; vertices = xs; values = members_of row })) same)

pub returns-then-not-listens-clause-kept : goal.returns-then-not-listens-clause-kept
returns-then-not-listens-clause-kept g c = inl (c.if-not-listens.ensures refl)

pub returns-clause-kept : goal.returns-clause-kept
returns-clause-kept g c = united _ _ c.args.d.now c.args.centre c.args.scratch.now.set c.set.result.now c.values.result.now (c.set.ensures ∙ c.unite.ensures.set)
    (λ t. ap (λ xs. has xs t) c.values.ensures.union ∙ c.unite.ensures.union t) c.found_short.ensures.kept

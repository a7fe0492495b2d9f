use Rattle.std.proofs.Common.{◌≡◌, ℕ, ◌+◌, suc, List, length, not, refl, sym, ap, ◌∙◌, subst, arith}
use Rattle.bit_rows.specs.BitRows.{words_for}
use Rattle.domain_bits.specs.Removals.{State, size_of}
use Rattle.all_different.specs.Members.{AreMembers, cleared_at, part}
use Rattle.all_different.specs.Ranks.{rank}
use Rattle.all_different.specs.Prefixes.{in_prefix, in_union}
use Rattle.all_different.proofs.Parts.{cleared_at_follows, cleared_at_more, few_members}
use Rattle.all_different.proofs.member_clearing.clear_later_members.Goals as goal

-- the sizes of the problem while members are cleared
same_sizes : (d now : State) (ms : List ℕ) (n i : ℕ) → now ≡ cleared_at d ms (λ k. not (in_prefix (part d ms) n k)) (in_union (part d ms) n) i
    → (now.vertices ≡ d.vertices) × (now.values ≡ d.values)
same_sizes d now ms n i e =
    let f = cleared_at_follows d ms (λ k. not (in_prefix (part d ms) n k)) (in_union (part d ms) n) i in
    (ap (λ s. s.vertices) e ∙ f.vertices_same, ap (λ s. s.values) e ∙ f.values_same)

pub clear_member-requires-clause-are_members : goal.clear_member-requires-clause-are_members
clear_member-requires-clause-are_members g c =
    let d = c.args.d.now in
    let ms = c.args.members.now in
    let n = rank (size_of (part d ms)) (length ms) c.args.last + 1 in
    subst (λ (v : ℕ). AreMembers v ms) (sym (same_sizes d c.loop-place.d ms n c.loop-place.place c.loop-place.invariant).0) c.requires.are_members

pub clear_member-requires-clause-long : goal.clear_member-requires-clause-long
clear_member-requires-clause-long g c =
    let d = c.args.d.now in
    let ms = c.args.members.now in
    let n = rank (size_of (part d ms)) (length ms) c.args.last + 1 in
    c.requires.long ∙ ap words_for (sym (same_sizes d c.loop-place.d ms n c.loop-place.place c.loop-place.invariant).1)

pub loop-place-preserved : goal.loop-place-preserved
loop-place-preserved g c =
    let d = c.args.d.now in
    let ms = c.args.members.now in
    let n = rank (size_of (part d ms)) (length ms) c.args.last + 1 in
    let i = c.loop-place.place in
    let e : i + 1 ≡ suc i = omega arith in
    cleared_at_more d c.loop-place.d c.clear_member.new.d ms c.args.keep.now c.args.last n i c.requires.are_members.rising c.requires.last_in c.loop-place-test.true refl
    c.loop-place.invariant c.requires.keep c.clear_member.ensures
    ∙ ap (cleared_at d ms (λ k. not (in_prefix (part d ms) n k)) (in_union (part d ms) n)) (sym e)

pub overflow_cast-place-end : goal.overflow_cast-place-end
overflow_cast-place-end g c = omega (arith, few_members c.args.d.now.vertices c.args.members.now c.requires.are_members, c.vertices-vertices.ensures, c.vertices-vertices.type_inv)

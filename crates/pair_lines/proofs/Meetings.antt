-- Whether the images of two vertices may meet, and what is asked of them, by the kind of the maps.
use Rattle.std.proofs.Common.{◌≡◌, ℕ, ◌<◌, nat_lt, Bool, true, false, ◌&&◌, not, Some, None, [], ◌∷◌, ◌++◌, refl, sym, ap, subst, ◌∙◌}
use Rattle.std.proofs.lemmas.Bool.{and_parts, and_from, lt-ltb}
use Rattle.graph_theory.specs.Graph.{Graph, size}
use Rattle.graph_theory.specs.Neighbours.{count, is_near, common}
use Rattle.graph_theory.specs.Embedding.{Problem, is_injective, near_both, differ_in, differ}
use Rattle.graph_theory.specs.Asked.{asked_shared_in, asked_shared}
use Rattle.graph_theory.specs.Blocks.{has_near, has_block_in}
use Rattle.graph_theory.specs.Reversed.{turned_problem, turned}
use Rattle.graph_theory.specs.declared.direction.Direction.{Direction}
use Rattle.graph_theory.specs.declared.embedding.Maps.{Maps}
use Rattle.graph_theory.specs.declared.embedding.Maps.TheVariants.{Injective, Local, Any}
use Rattle.graph_theory.proofs.Counts.{count_two}
use Rattle.log_theory.specs.declared.step.Ref.{Ref}
use Rattle.log_theory.specs.declared.step.Op.TheVariants.{Push, Add}
use Rattle.pair_line_theory.specs.Rows.{needs_block, at_most_line}
use Rattle.pair_line_theory.proofs.AskedShares.{asked_laws}
use Rattle.pair_lines.specs.declared.meeting.Meeting.{Meeting}
use Rattle.pair_lines.specs.declared.meeting.Meeting.TheVariants.{Never, Around, May}
use Rattle.pair_lines.specs.declared.sharing.Sharing.{Sharing}
use Rattle.pair_lines.specs.declared.sharing.Sharing.TheVariants.{Nothing, One, Many}
use Rattle.pair_lines.specs.Choices.{IsNearBoth, IsMeeting, IsSharing, block_ops, own_ops}
use Rattle.pair_lines.proofs.Pairs.{count_none}

-- ---- meetings

pub never_of : (q : Problem) → Injective ≡ q.maps → is_injective q.maps ≡ true
never_of q is = sym (ap is_injective is)

pub around_of : (q : Problem) (p r c : ℕ) → Local ≡ q.maps → p < size q.pattern → r < size q.pattern → (p ≡ r → ⊥) → IsNearBoth q p r (Some c) → IsMeeting q p r (Around c)
around_of q p r c is p_in r_in other near =
    let two = and_parts (is_near q.pattern c p) (is_near q.pattern c r) near.1 in
    let has : has_near q.pattern c ≡ true =
    and_from (nat_lt c (size q.pattern)) (nat_lt 1 (count (is_near q.pattern c) (size q.pattern))) (lt-ltb c (size q.pattern) near.0)
    (count_two (is_near q.pattern c) p r (size q.pattern) p_in r_in other two.0 two.1) in
    (subst (λ (k : Maps). has_block_in k q.pattern (Some c) ≡ true) is has, record { first = two.0; second = two.1 })

pub may_local : (q : Problem) (p r : ℕ) → Local ≡ q.maps → IsNearBoth q p r None → differ q p r ≡ false
may_local q p r is none =
    subst (λ (k : Maps). differ_in k q.pattern p r ≡ false) is
    (ap (nat_lt 0) (count_none (near_both q.pattern p r) (size q.pattern) none))

pub may_any : (q : Problem) (p r : ℕ) → Any ≡ q.maps → differ q p r ≡ false
may_any q p r is = subst (λ (k : Maps). differ_in k q.pattern p r ≡ false) is refl

-- Where they never meet since the maps are injective, or may meet, no block is needed.
pub never_needs : (q : Problem) (p r : ℕ) → is_injective q.maps ≡ true → needs_block q p r ≡ false
never_needs q p r is = ap (λ (b : Bool). not b && differ q p r) is

pub may_needs : (q : Problem) (p r : ℕ) → differ q p r ≡ false → needs_block q p r ≡ false
may_needs q p r is = ap (λ (b : Bool). not (is_injective q.maps) && b) is ∙ never (not (is_injective q.maps))
  where
    never : (b : Bool) → (b && false) ≡ false
    never true = refl
    never false = refl

-- The operations of an own line: those of every kind of maps, and those of a block.
pub own_with : (q : Problem) (meeting : Meeting) (own : Ref) (t r : ℕ) → (Push own ∷ Push (at_most_line q r) ∷ Add ∷ []) ++ block_ops q meeting t ≡ own_ops q meeting own t r
own_with q Never own t r = refl
own_with q (Around c) own t r = refl
own_with q May own t r = refl

-- ---- what is asked

asked_none : (k : Maps) (g : Graph) (p r : ℕ) → is_injective k ≡ false → asked_shared_in k g p r ≡ 0
asked_none Injective g p r is = absurd cc
asked_none Local g p r is = refl
asked_none Any g p r is = refl

pub local_none : (q : Problem) (p r : ℕ) → Local ≡ q.maps → asked_shared q p r ≡ 0
local_none q p r is = asked_none q.maps q.pattern p r (sym (ap is_injective is))

pub any_none : (q : Problem) (p r : ℕ) → Any ≡ q.maps → asked_shared q p r ≡ 0
any_none q p r is = asked_none q.maps q.pattern p r (sym (ap is_injective is))

pub asked_counted : (q : Problem) (p r : ℕ) → is_injective q.maps ≡ true → asked_shared q p r ≡ common q.pattern p r
asked_counted q p r is = (asked_laws q).counted p r is

-- So many are asked for.
pub sharing_count : (q : Problem) (p r n : ℕ) → is_injective q.maps ≡ true → common q.pattern p r ≡ n → asked_shared q p r ≡ n
sharing_count q p r n is counted = asked_counted q p r is ∙ counted

-- In either direction.
pub asked_turned : (direction : Direction) (q : Problem) (p r : ℕ) → is_injective q.maps ≡ true → asked_shared (turned_problem direction q) p r ≡ common (turned direction q.pattern) p r
asked_turned direction q p r is = asked_counted (turned_problem direction q) p r is

-- Where some are counted maps are injective.
pub counted_injective : (q : Problem) (p r : ℕ) (sharing : Sharing) → IsSharing q p r sharing → (sharing ≡ Nothing → ⊥) → is_injective q.maps ≡ true
counted_injective q p r Nothing shares some = absurd (some refl)
counted_injective q p r (One m) shares some = shares.3
counted_injective q p r (Many c) shares some = shares.2

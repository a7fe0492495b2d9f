-- Which line a pair of vertices gets, by what is asked of them in each direction, whether their images may meet, and whether they have lines of their own; and how the lines that count are named.

use Rattle.std.specs.Prelude.{◌≡◌, ℕ, ◌+◌, ◌*◌, ◌<◌, ◌≤◌, ◌==◌, Bool, true, false, ◌⊎◌, cond, List, [], ◌∷◌, Option, Some, None}
use Rattle.std.specs.Map.{lookup}
use Rattle.graph_theory.specs.Graph.{size}
use Rattle.graph_theory.specs.Embedding.{Problem, is_injective, near_both, differ}
use Rattle.graph_theory.specs.Blocks.{has_block}
use Rattle.graph_theory.specs.Asked.{asked_shared}
use Rattle.graph_rows.specs.Orders.{IsOrder}
use Rattle.graph_theory.specs.Neighbours.{common}
use Rattle.graph_theory.specs.Reversed.{reversed_problem, AreMutual}
use Rattle.proof_theory.specs.Forms.{Form}
use Rattle.log_theory.specs.declared.step.Name.{Name}
use Rattle.log_theory.specs.declared.step.Ref.{Ref}
use Rattle.log_theory.specs.declared.step.Ref.TheVariants.{Line, Made}
use Rattle.log_theory.specs.declared.step.Op.{Op}
use Rattle.log_theory.specs.declared.step.Op.TheVariants.{Push, Add, Times}
use Rattle.encoding_theory.specs.Pairs.{is_edge_pair, is_non_edge_pair}
use Rattle.encoding_theory.specs.Encoding.{at_most, at_most_in}
use Rattle.pair_line_theory.specs.Laws.{InLimits, HasBoth}
use Rattle.pair_line_theory.specs.Rows.{at_most_line, block_line, target_line, weight, edge_line, non_edge_line, is_shared, beside_form, beside_ops, near_form, near_ops, joined_form, joined_ops, apart_form, apart_ops}
use Rattle.pair_lines.specs.declared.meeting.Meeting.{Meeting}
use Rattle.pair_lines.specs.declared.meeting.Meeting.TheVariants.{Never, Around, May}
use Rattle.pair_lines.specs.declared.sharing.Sharers.{Sharers}
use Rattle.pair_lines.specs.declared.sharing.Asked.{Asked}
use Rattle.pair_lines.specs.declared.sharing.Asked.TheVariants.{Out, In, Both}
use Rattle.pair_lines.specs.declared.sharing.Sharing.{Sharing}
use Rattle.pair_lines.specs.declared.sharing.Sharing.TheVariants.{Nothing, One, Many}

-- The graphs are within the limits of a problem, and the pairs of vertices whose images are to be in order.
pub record IsWithin (q : Problem) : Type 0 where
  pub limits : InLimits q
  pub order : IsOrder (size q.pattern) q.less

-- ---- walks

-- From a number on the first that passes a test, or n where none below it does.
pub record IsNext (test : ℕ → Bool) (from n next : ℕ) : Type 0 where
  pub low : from ≤ next
  pub high : next ≤ n
  pub none : (v : ℕ) → from ≤ v → v < next → test v ≡ false
  pub passes : next < n → test next ≡ true

-- ---- what two vertices share

-- A shared neighbour, or there is none.
abbrev pub IsFirstShared : Problem → ℕ → ℕ → Option ℕ → Type 0
IsFirstShared q p r None = (m : ℕ) → m < size q.pattern → is_shared q.pattern p r m ≡ false
IsFirstShared q p r (Some m) = (m < size q.pattern) × (is_shared q.pattern p r m ≡ true)

-- No shared neighbour is asked for; or the maps are injective, so that all are, and the number of these, and the one that is alone.
abbrev pub IsSharing : Problem → ℕ → ℕ → Sharing → Type 0
IsSharing q p r Nothing = asked_shared q p r ≡ 0
IsSharing q p r (One m) = (common q.pattern p r ≡ 1) × (m < size q.pattern)
    × (is_shared q.pattern p r m ≡ true) × (is_injective q.maps ≡ true)
IsSharing q p r (Many c) = (common q.pattern p r ≡ c) × (2 ≤ c) × (is_injective q.maps ≡ true)

-- In which directions shared neighbours are counted: in that of the edges alone where these stand both ways, or in the other none are asked for;
-- against them alone where none are along them; or in both.
abbrev pub IsAsked : Problem → ℕ → ℕ → Asked → Type 0
IsAsked q p r (Out s) = IsSharing q p r s
    × (AreMutual q ⊎ (asked_shared (reversed_problem q) p r ≡ 0))
IsAsked q p r (In s) = IsSharing (reversed_problem q) p r s × (asked_shared q p r ≡ 0)
IsAsked q p r (Both s b) = IsSharing q p r s × IsSharing (reversed_problem q) p r b
    × (is_injective q.maps ≡ true)

-- Two vertices with the number of neighbours that they share, more than one.
pub record AreSharers (q : Problem) (pair : Sharers) : Type 0 where
  pub first_in : pair.p < size q.pattern
  pub second_in : pair.r < size q.pattern
  pub others : pair.p ≡ pair.r → ⊥
  pub counted : common q.pattern pair.p pair.r ≡ pair.count
  pub many : 2 ≤ pair.count
  pub injective : is_injective q.maps ≡ true

-- ---- where images may meet

-- A vertex that is near both, or there is none.
abbrev pub IsNearBoth : Problem → ℕ → ℕ → Option ℕ → Type 0
IsNearBoth q p r None = (c : ℕ) → c < size q.pattern → near_both q.pattern p r c ≡ false
IsNearBoth q p r (Some c) = (c < size q.pattern) × (near_both q.pattern p r c ≡ true)

-- The images of p and another vertex r are never one since the maps are injective; or both are in the block around this vertex; or they may be one.
abbrev pub IsMeeting : Problem → ℕ → ℕ → Meeting → Type 0
IsMeeting q p r Never = is_injective q.maps ≡ true
IsMeeting q p r (Around c) = (has_block q (Some c) ≡ true) × HasBoth q (Some c) p r
IsMeeting q p r May = differ q p r ≡ false

-- ---- references

-- The pair's own line at t, if it has any.
abbrev pub own_line : Problem → ℕ → ℕ → ℕ → Option Ref
own_line q p r t = cond (is_edge_pair q p r) (Some (edge_line q p r t)) (cond
    (is_non_edge_pair q p r) (Some (non_edge_line q p r t)) None)

-- The entries of a table: a name under each number.
abbrev pub Names : Type 0
Names = List (ℕ × Name)

-- The number under which a table keeps the name of the line for p and r at w.
abbrev pub pair_key : ℕ → ℕ → ℕ → ℕ
pair_key p r w = (p * 1024 + r) * 8192 + w

-- The name under a number.
abbrev pub entry_at : Names → ℕ → Option Name
entry_at names k = lookup (λ x. k == x) names

abbrev pub pair_name : Names → ℕ → ℕ → ℕ → Option Name
pair_name names p r w = entry_at names (pair_key p r w)

-- The number, and the name, of the clause that m and n are not both at w: a first vertex that no pattern has sets it apart.
abbrev pub not_both_key : ℕ → ℕ → ℕ → ℕ
not_both_key m n w = pair_key (m + 1024) n w

abbrev pub not_both_name : Names → ℕ → ℕ → ℕ → Option Name
not_both_name names m n w = entry_at names (not_both_key m n w)

abbrev pub name_or_none : Option Name → Ref
name_or_none (Some n) = Made n
name_or_none None = Line 0

-- The line that counts them at w: the one neighbour's own, or the table's.
abbrev pub spread_ref : Problem → Names → Sharing → ℕ → ℕ → ℕ → Ref
spread_ref q names (One m) p r w = edge_line q m r w
spread_ref q names (Many c) p r w = name_or_none (pair_name names p r w)
spread_ref q names Nothing p r w = Line 0

-- ---- the choice

-- What a line for shared neighbours begins with.
abbrev pub begin_of : Problem → Option Ref → ℕ → ℕ → List Op
begin_of q (Some own) t r = Push (at_most_line q r) ∷ Times 2 ∷ Push own ∷ Add ∷ Times
    (weight q t) ∷ []
begin_of q None t r = Push (at_most_line q r) ∷ Push (target_line q t) ∷ Add ∷ Times
    (weight q t) ∷ []

abbrev pub counted_ops : Problem → Names → Sharing → Option Ref → ℕ → ℕ → ℕ → List Op
counted_ops q names sharing (Some own) p t r = joined_ops q own
    (spread_ref q names sharing p r) p t r
counted_ops q names sharing None p t r = apart_ops q (spread_ref q names sharing p r) p t r

-- The line of the encoding that serves two vertices without one of their own: nothing but t itself is refused, or nothing at all.
abbrev pub alone_line : Problem → Meeting → ℕ → ℕ → Ref
alone_line q Never t r = block_line q None t
alone_line q (Around c) t r = block_line q (Some c) t
alone_line q May t r = at_most_line q r

-- What is added where a block that has both is needed.
abbrev pub block_ops : Problem → Meeting → ℕ → List Op
block_ops q Never t = []
block_ops q (Around c) t = Push (block_line q (Some c) t) ∷ Add ∷ []
block_ops q May t = []

abbrev pub own_ops : Problem → Meeting → Ref → ℕ → ℕ → List Op
own_ops q Never own t r = beside_ops q own r
own_ops q (Around c) own t r = near_ops q (Some c) own t r
own_ops q May own t r = beside_ops q own r

abbrev pub plain_ops : Problem → Meeting → Option Ref → ℕ → ℕ → List Op
plain_ops q meeting (Some own) t r = own_ops q meeting own t r
plain_ops q meeting None t r = Push (alone_line q meeting t r) ∷ []

-- The operations of the line for p at t and r.
abbrev pub row_ops : Problem → Names → Sharing → Meeting → Option Ref → ℕ → ℕ → ℕ → List Op
row_ops q names Nothing meeting own p t r = plain_ops q meeting own t r
row_ops q names sharing meeting own p t r = counted_ops q names sharing own p t r

abbrev pub counted_form : Problem → Option Ref → ℕ → ℕ → ℕ → Form
counted_form q (Some own) p t r = joined_form q p t r
counted_form q None p t r = apart_form q p t r

abbrev pub alone_form : Problem → Meeting → ℕ → ℕ → Form
alone_form q Never t r = at_most_in q None t
alone_form q (Around c) t r = at_most_in q (Some c) t
alone_form q May t r = at_most q r

abbrev pub own_form : Problem → Meeting → ℕ → ℕ → ℕ → Form
own_form q Never p t r = beside_form q p t r
own_form q (Around c) p t r = near_form q (Some c) p t r
own_form q May p t r = beside_form q p t r

abbrev pub plain_form : Problem → Meeting → Option Ref → ℕ → ℕ → ℕ → Form
plain_form q meeting (Some own) p t r = own_form q meeting p t r
plain_form q meeting None p t r = alone_form q meeting t r

-- And its form.
abbrev pub row_form : Problem → Sharing → Meeting → Option Ref → ℕ → ℕ → ℕ → Form
row_form q Nothing meeting own p t r = plain_form q meeting own p t r
row_form q sharing meeting own p t r = counted_form q own p t r

-- What holds of domains, of bounds and of accounts, whatever the search does.

use Rattle.std.specs.Prelude.{◌≡◌, ℕ, ◌+◌, ◌-◌, ◌*◌, ◌^◌, ◌<◌, ◌≤◌, Bool, true, List, length, slice_index}
use Rattle.std.proofs.Common.{suc}
use Rattle.graph_theory.specs.Graph.{size}
use Rattle.graph_theory.specs.Embedding.{Problem, Embeds}
use Rattle.graph_theory.specs.Path.{NotOn, Dead}
use Rattle.search_theory.specs.Fits.{Fits}
use Rattle.search_theory.specs.Claims.{Stands, Single, Pins, Quiet, Ordered}
use Rattle.search_theory.specs.Bounds.{most, luby, cutoff, earlier, fails_to, enough, BelowEnough}
use Rattle.search_theory.specs.Account.{Account, AllDead, NotAmong, HasRefuted, Reached, Lawful}
use Rattle.search_theory.specs.Remaining.{Bounded}

-- Where each of quiet domains in order has one value, these are an embedding.
abbrev pub SinglesEmbed : Type 0
SinglesEmbed = (q : Problem) (D : ℕ → ℕ → Bool) (m : List ℕ) → Quiet q D → Ordered q D
    → length m ≡ size q.pattern → ((p : ℕ) → p < size q.pattern → Single D p (slice_index m p)) → Embeds q m

-- Where each value of a vertex's domain is refuted, the path is dead.
abbrev pub AllRefutedIsDead : Type 0
AllRefutedIsDead = (q : Problem) (D : ℕ → ℕ → Bool) (path : List (ℕ × ℕ)) (p : ℕ) (us : List ℕ)
    → Stands q path D → p < size q.pattern
    → AllDead q path p us → ((t : ℕ) → D p t ≡ true → NotAmong us t → ⊥) → Dead q path

-- A value of a quiet domain fits the path that the domains are pinned to, where they are in order.
abbrev pub DomainValuesFit : Type 0
DomainValuesFit = (q : Problem) (D : ℕ → ℕ → Bool) (path : List (ℕ × ℕ)) (p t : ℕ) → Quiet q D
    → Ordered q D → Pins q path D
    → NotOn path p → p < size q.pattern → D p t ≡ true → Fits q path p t

-- What holds of the domains of every problem.
pub record DomainLaws : Type 0 where
  pub found : SinglesEmbed
  pub closed : AllRefutedIsDead
  pub fits : DomainValuesFit

-- Some k is the least with a run that no search fills, and the budget that is enough is that of the runs up to it.
pub record IsEnough (budget p t : ℕ) : Type 0 where
  pub k : ℕ
  pub unfilled : most p t < 128 * 2 ^ k
  pub least : (j : ℕ) → j < k → 128 * 2 ^ j ≤ most p t
  pub is : budget ≡ fails_to k

-- What holds of the Luby sequence and of the budget that is enough.
pub record BoundLaws : Type 0 where
  pub luby_power : (k : ℕ) → luby (2 ^ suc k - 1) ≡ 2 ^ k
  pub luby_repeat : (k i : ℕ) → 2 ^ k ≤ i → i < 2 ^ suc k - 1 → luby i ≡ luby (i - 2 ^ k + 1)
  pub sums : (k : ℕ) → earlier (2 ^ suc k) ≡ fails_to k
  pub enough_is : (p t : ℕ) → IsEnough (enough p t) p t
  pub below : (budget p t : ℕ) → BelowEnough budget p t → budget < enough p t

-- What holds of every account.
pub record AccountLaws : Type 0 where
  pub lawful : (q : Problem) (a : Account) → Reached q a → Lawful q a
  pub enough : (a : Account) → Bounded a → a.all ≡ a.budget
      → BelowEnough a.budget a.pattern a.target
  pub refuted : (q : Problem) (a : Account) → Reached q a → a.count ≡ cutoff a.run → HasRefuted a

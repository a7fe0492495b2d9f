-- How literals, watches and lists hold the nogoods.
use Rattle.std.specs.Prelude.{◌≡◌, ℕ, ◌+◌, ◌-◌, ◌*◌, ◌<◌, ◌≤◌, ◌/◌, Bool, cond, List, length, map, take, drop, slice_index, slice_index_or}
use Rattle.nogood_watch.specs.declared.watched.Entry.{Entry}
use Rattle.nogood_watch.specs.Lists.{no_watch, Chained}
use Rattle.nogood_watch.specs.Covering.{live_at, AreCovered, watched_for, seen}
use Rattle.nogood_watch.specs.Nogoods.{Nogood, literal, nogood, AreLiterals, AreWatches}

-- where the list of a literal begins
abbrev pub cell : ℕ → ℕ × ℕ → ℕ
cell values l = l.0 * values + l.1

-- whether the nogood that watch x is of is live
abbrev pub is_live : List Bool → ℕ → Bool
is_live live x = live_at live (x / 2)

-- the list that a watch is in, while nothing is walked: that of its literal, or none, for which a number past all lists stands
abbrev pub home_of : ℕ → ℕ → List Bool → List (ℕ × ℕ) → ℕ → ℕ
home_of past values live watches x = cond (is_live live x) (cell values (literal watches x)) past

-- the nogood of an entry
abbrev pub nogood_at : List (ℕ × ℕ) → Entry → Nogood
nogood_at literals e = record {
  literals = take (e.end - e.start)
      (drop e.start literals);
  name = e.name;
}

abbrev pub nogoods_of : List (ℕ × ℕ) → List Entry → List Nogood
nogoods_of literals entries = map (nogood_at literals) entries

abbrev pub entry : List Entry → ℕ → Entry
entry entries i = slice_index_or entries i (record { start = 0; end = 0; name = 0 })

-- the literals of each entry are among all
pub record Within (literals : List (ℕ × ℕ)) (e : Entry) : Type 0 where
  pub rising : e.start ≤ e.end
  pub inside : e.end ≤ length literals

-- the watches as they are seen from outside
abbrev pub watches_of : List (ℕ × ℕ) → List Entry → List Bool → List (ℕ × ℕ) → List (ℕ × ℕ)
watches_of literals entries live watches = seen (watched_for (nogoods_of literals entries) live)
    watches (length entries)

-- each literal of these nogoods has a list among the first n
abbrev pub HaveLists : ℕ → List Nogood → ℕ → Type 0
HaveLists values nogoods n = (i k : ℕ) → i < length nogoods
    → k < length (nogood nogoods i).literals
    → cell values (literal (nogood nogoods i).literals k) < n

-- each watch of a live nogood is in the list of its literal, and no list is being walked
pub record Kept (vertices values : ℕ) (literals : List (ℕ
    × ℕ)) (entries : List Entry) (live : List Bool) (watches : List (ℕ
    × ℕ)) (heads next : List ℕ) (capacity : ℕ) : Type 0 where
  pub heads_long : length heads ≡ vertices * values + 1
  pub next_long : length next ≡ length watches
  pub live_long : length live ≡ length entries
  pub within : (i : ℕ) → i < length entries → Within literals (entry entries i)
  pub literals_are : (i : ℕ) → i < length entries
      → AreLiterals vertices values (nogood (nogoods_of literals entries) i).literals
  pub watches_are : AreWatches (nogoods_of literals entries) watches
  pub covered : AreCovered (nogoods_of literals entries) live
  pub chained : Chained (home_of (vertices * values + 1) values live watches) heads next
  pub none : slice_index heads (vertices * values) ≡ no_watch
  pub room : length entries ≤ capacity

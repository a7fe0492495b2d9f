-- What a call on files in memory says of its failure, and of the list of files that it lent.

use Rattle.std.proofs.Common.{◌≡◌, ℕ, ◌≤◌, ◌≢◌, ◌⊎◌, Bool, true, false, List, ◌++◌, length, take, drop, map, Option, Some, None, Ok, Err, option_map, ⊎_elim, refl, sym, ap, ◌∙◌, subst, arith}
use Rattle.std.proofs.lemmas.Bool.{false≢true}
use Rattle.outer_io.specs.Bounded.{one_more}
use Rattle.outer_io.specs.Faults.{HasCause}
use Rattle.outer_io.specs.Memory.{Kept, file_in, content_in, label_of, SameLabels}
use Rattle.std.specs.Io.KnownBytes.{append_known}
use Rattle.outer_io.specs.KnownText.{StopsIn}
use Rattle.outer_io.specs.NamedFiles.{SameOthers}
use Rattle.outer_io.proofs.FilesInMemory.{whole_slice}

-- a call that fails has raised the count by one
pub fault_cause : {T E : Type 0} (before now : ℕ) (e : E) → now ≡ one_more before → before ≤ now → HasCause {T = T} {E = E} before now (Err e)
fault_cause before now e more later = record { later = later; quiet = tt; failed = omega (arith, more) }

-- one that succeeds has left it
pub no_fault_cause : {T E : Type 0} (count : ℕ) (t : T) → HasCause {T = T} {E = E} count count (Ok t)
no_fault_cause count t = record { later = omega arith; quiet = refl; failed = tt }

-- a call that is told to fail fails
pub told_to_fail : (F S : Type 0) → F → (false ≡ true → (¬ F) × S) × ((¬ F) × S → false ≡ true)
told_to_fail F S failing = (λ yes. absurd (false≢true yes), λ both. absurd (both.0 failing))

-- so does one that finds nothing
pub refused : (F S : Type 0) → (S → false ≡ true) → (false ≡ true → (¬ F) × S) × ((¬ F) × S → false ≡ true)
refused F S nothing = (λ yes. absurd (false≢true yes), λ both. nothing both.1)

-- another succeeds
pub done : (F S : Type 0) → (¬ F) → S → (true ≡ true → (¬ F) × S) × ((¬ F) × S → true ≡ true)
done F S goes there = (λ yes. (goes, there), λ both. refl)

-- a call whose count did not say so is not told to fail
pub not_told : (F : Type 0) (result : Bool) → result ≡ false → (F → result ≡ true) → ¬ F
not_told F result clear told = λ failing. false≢true (sym clear ∙ told failing)

-- the list is as long as the slice of it that was lent
pub lent_whole : (len : ℕ) (items lent new : List Kept) → len ≡ length items → lent ≡ items → length new ≡ length lent → take len (new ++ drop (length new) items) ≡ new
lent_whole len items lent new all same long = whole_slice len items new (long ∙ ap length same) all

-- what was lent and did not change
pub lent_same : (len : ℕ) (items lent new : List Kept) → len ≡ length items → lent ≡ items → length new ≡ length lent → (false ≡ true) ⊎ (new ≡ lent) → take len (new ++ drop (length new) items) ≡ items
lent_same len items lent new all same long unchanged =
    lent_whole len items lent new all same long ∙ ⊎_elim (λ (yes : false ≡ true). absurd (false≢true yes)) (λ (is : new ≡ lent). is) unchanged ∙ same

-- what others say of the lent list they say of the whole
pub lent_others : (items lent new taken : List Kept) (name lent_name : List ℕ) → taken ≡ new → lent ≡ items → lent_name ≡ name → SameOthers lent_name (content_in lent) (content_in new) → SameOthers name (content_in items) (content_in taken)
lent_others items lent new taken name lent_name whole same named others = λ file apart.
    ap (λ (files : List Kept). content_in files file) whole
    ∙ others file (subst (λ (n : List ℕ). file ≢ n) (sym named) apart)
    ∙ ap (λ (files : List Kept). content_in files file) same

pub lent_labels : (items lent new taken : List Kept) → taken ≡ new → lent ≡ items → SameLabels lent new → SameLabels items taken
lent_labels items lent new taken whole same labels = ap (map label_of) whole ∙ labels ∙ ap (map label_of) same

-- the file of a name, and its content, in the lent list and in the list
pub lent_file : (items lent : List Kept) (name lent_name : List ℕ) → lent ≡ items → lent_name ≡ name → file_in lent lent_name ≡ file_in items name
lent_file items lent name lent_name same named = ap (λ (files : List Kept). file_in files lent_name) same ∙ ap (file_in items) named

pub lent_content : (items lent : List Kept) (name lent_name : List ℕ) → lent ≡ items → lent_name ≡ name → content_in lent lent_name ≡ content_in items name
lent_content items lent name lent_name same named = ap (λ (files : List Kept). content_in files lent_name) same ∙ ap (content_in items) named

-- the file that was chosen has the name that is kept
pub chosen_name : {A : Type 0} (name file : List ℕ) (at : Option A) → option_map (λ _. name) at ≡ Some file → name ≡ file
chosen_name name file None chosen = cc
chosen_name name file (Some at) chosen = cc

-- what was put into a file of the lent list was put into that of the list
pub lent_put : (items lent new taken : List Kept) (file lent_name piece : List ℕ) → taken ≡ new → lent ≡ items → lent_name ≡ file → content_in new lent_name ≡ append_known (content_in lent lent_name) piece → content_in taken file ≡ append_known (content_in items file) piece
lent_put items lent new taken file lent_name piece whole same named put =
    sym (lent_content taken new file lent_name (sym whole) named) ∙ put ∙ ap (λ (old : Option (List ℕ)). append_known old piece) (lent_content items lent file lent_name same named)

pub lent_stops : (items lent new taken : List Kept) (file lent_name piece : List ℕ) → taken ≡ new → lent ≡ items → lent_name ≡ file → StopsIn true (content_in lent lent_name) (content_in new lent_name) piece → StopsIn true (content_in items file) (content_in taken file) piece
lent_stops items lent new taken file lent_name piece whole same named stops =
    subst (λ (old : Option (List ℕ)). StopsIn true old (content_in taken file) piece) (lent_content items lent file lent_name same named) (subst (λ (now : Option (List ℕ)). StopsIn true (content_in lent lent_name) now piece) (lent_content taken new file lent_name (sym whole) named) stops)

-- What is said of a search, said of its position.

use Rattle.std.specs.Prelude.{Bool, List, Option}
use Rattle.graph_theory.specs.Embedding.{Problem}
use Rattle.search_theory.specs.Account.{Account, path}
use Rattle.nogood_watch.specs.Nogoods as watched
use Rattle.nogood_book.specs.Facts.{Facts}
use Rattle.nogood_book.specs.declared.row.Row.{Row}
use Rattle.recorder.specs.Recording.{Change}
use Rattle.restart_search.specs.Acting.{WereActedOn, Acting}
use Rattle.restart_search.specs.Logging.{IsTold, IsLogged, LogsOn}
use Rattle.restart_search.specs.Searching.{Based, Sound, IsAtRoot, Begun, NotBegun, TookUp, BeganAgain, AtStage}
use Rattle.restart_search.specs.declared.outcome.Stage.{Stage}
use Rattle.restart_search.specs.declared.position.Position.{Position}

-- What holds of it also where its last guess has failed.
abbrev pub IsBased : {T R : Type 0} → Problem → Position T R → Type 0
IsBased q s = Based q s.domains s.undecided s.account s.marks.items s.root

-- What holds of it before each step.
abbrev pub IsSound : {T R : Type 0} → Problem → Position T R → Type 0
IsSound q s = Sound q s.domains s.undecided s.account s.marks.items s.root

-- It stands at the root.
abbrev pub StandsAtRoot : {T R : Type 0} → Problem → Position T R → Type 0
StandsAtRoot q s = IsAtRoot q s.domains s.undecided s.account s.marks.items s.root

-- The nogoods were acted on at each of its moments.
abbrev pub ActedBefore : {T R : Type 0} → Option watched.State → Position T R → Type 0
ActedBefore nogoods s = WereActedOn s.domains nogoods s.marks.items s.root

-- And they are now.
abbrev pub Acts : {T R : Type 0} → Option watched.State → Position T R → Type 0
Acts nogoods s = Acting s.domains nogoods s.marks.items s.root

-- What was told of its domains is true, and each guess that was told is one of its path.
abbrev pub ToldAt : {T R : Type 0} → Problem → Option watched.State → Position T R
    → Option (List Change) → Type 0
ToldAt q nogoods s changes = IsTold q nogoods s.domains (path s.account) s.marks.items changes

-- And lines stand for all that its account has refuted.
abbrev pub LogsAt : {T R : Type 0} → Problem → List Row → Option watched.State → Position T R
    → Option (List Change) → (Problem → List Row → Account → Type 0) → Type 0
LogsAt q rows nogoods s changes Writes = IsLogged q rows nogoods s.domains s.account s.marks.items
    changes Writes

-- So it is where embeddings may be left; where none is, the lines refute the problem.
abbrev pub LogsOnAt : {T R : Type 0} → Bool → Problem → List Row → Option watched.State
    → Position T R → Option (List Change) → (Problem → List Row → Account → Type 0)
    → (Problem → List Row → Type 0) → Type 0
LogsOnAt some q rows nogoods s changes Writes Refutes = LogsOn some q rows nogoods s.domains
    s.account s.marks.items changes Writes Refutes

-- No run has begun from it.
abbrev pub IsFresh : {T R : Type 0} → Problem → Option watched.State → Position T R → Type 0
IsFresh q nogoods s = NotBegun q nogoods s.domains s.undecided s.account s.marks.items s.root

-- A run has begun, and may go on from it.
abbrev pub GoesOn : {T R : Type 0} → Problem → Option watched.State → Position T R → Facts → Type 0
GoesOn q nogoods s f = Begun q nogoods s.domains s.undecided s.account s.marks.items s.root f

-- What it is between the runs of a worker.
abbrev pub IsAtStage : {T R : Type 0} → Stage → Problem → Option watched.State → Position T R
    → Facts → Type 0
IsAtStage stage q nogoods s f = AtStage stage q nogoods s.domains s.undecided s.account
    s.marks.items s.root f

-- What taking up the book leaves of it.
abbrev pub TookUpAt : {T R : Type 0} → Bool → Problem → Option watched.State → Position T R
    → List Row → Type 0
TookUpAt some q nogoods s rows = TookUp some q nogoods s.domains s.undecided s.account
    s.marks.items s.root rows

-- What beginning a run leaves of it.
abbrev pub BeginsAt : {T R : Type 0} → Bool → Problem → Option watched.State → Position T R
    → Facts → Type 0
BeginsAt some q nogoods s f = BeganAgain some q nogoods s.domains s.undecided s.account
    s.marks.items s.root f

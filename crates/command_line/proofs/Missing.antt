-- Where one of the words of a solve is none, there is no solve.

use Rattle.std.proofs.Common.{◌≡◌, ℕ, Option, Some, None, IfSome}
use Rattle.clap.specs.Words.{Text}
use Rattle.command_line.specs.Questions.{Question}
use Rattle.command_line.specs.CommandLine.{solve_from}
use Rattle.command_line.specs.declared.commands.Command.{Command}
use Rattle.command_line.specs.declared.commands.ProveWords.{ProveWords}

-- Of none nothing has to be so.
pub if_some_none : {A : Type 0} (r : Option A) (P : A → Type 0) → r ≡ None → IfSome r P
if_some_none (Some a) P is = cc
if_some_none None P is = tt

pub no_pattern : (r : Option Command) (p : Option Text) (t : Option Text) (a : Option Question) (n : Option ℕ) (s : Option ℕ) (b : Option ℕ) (k : Option ℕ) (w : Option (Option ProveWords))
    → r ≡ None → None ≡ p → r ≡ solve_from p t a n s b k w
no_pattern r None t a n s b k w is none = is
no_pattern r (Some p) t a n s b k w is none = cc

pub no_target : (r : Option Command) (p : Option Text) (t : Option Text) (a : Option Question) (n : Option ℕ) (s : Option ℕ) (b : Option ℕ) (k : Option ℕ) (w : Option (Option ProveWords))
    → r ≡ None → None ≡ t → r ≡ solve_from p t a n s b k w
no_target r None t a n s b k w is none = is
no_target r (Some p) None a n s b k w is none = is
no_target r (Some p) (Some t) a n s b k w is none = cc

pub no_question : (r : Option Command) (p : Option Text) (t : Option Text) (a : Option Question) (n : Option ℕ) (s : Option ℕ) (b : Option ℕ) (k : Option ℕ) (w : Option (Option ProveWords))
    → r ≡ None → None ≡ a → r ≡ solve_from p t a n s b k w
no_question r None t a n s b k w is none = is
no_question r (Some p) None a n s b k w is none = is
no_question r (Some p) (Some t) None n s b k w is none = is
no_question r (Some p) (Some t) (Some a) n s b k w is none = cc

pub no_threads : (r : Option Command) (p : Option Text) (t : Option Text) (a : Option Question) (n : Option ℕ) (s : Option ℕ) (b : Option ℕ) (k : Option ℕ) (w : Option (Option ProveWords))
    → r ≡ None → None ≡ n → r ≡ solve_from p t a n s b k w
no_threads r None t a n s b k w is none = is
no_threads r (Some p) None a n s b k w is none = is
no_threads r (Some p) (Some t) None n s b k w is none = is
no_threads r (Some p) (Some t) (Some a) None s b k w is none = is
no_threads r (Some p) (Some t) (Some a) (Some n) s b k w is none = cc

pub no_seed : (r : Option Command) (p : Option Text) (t : Option Text) (a : Option Question) (n : Option ℕ) (s : Option ℕ) (b : Option ℕ) (k : Option ℕ) (w : Option (Option ProveWords))
    → r ≡ None → None ≡ s → r ≡ solve_from p t a n s b k w
no_seed r None t a n s b k w is none = is
no_seed r (Some p) None a n s b k w is none = is
no_seed r (Some p) (Some t) None n s b k w is none = is
no_seed r (Some p) (Some t) (Some a) None s b k w is none = is
no_seed r (Some p) (Some t) (Some a) (Some n) None b k w is none = is
no_seed r (Some p) (Some t) (Some a) (Some n) (Some s) b k w is none = cc

pub no_budget : (r : Option Command) (p : Option Text) (t : Option Text) (a : Option Question) (n : Option ℕ) (s : Option ℕ) (b : Option ℕ) (k : Option ℕ) (w : Option (Option ProveWords))
    → r ≡ None → None ≡ b → r ≡ solve_from p t a n s b k w
no_budget r None t a n s b k w is none = is
no_budget r (Some p) None a n s b k w is none = is
no_budget r (Some p) (Some t) None n s b k w is none = is
no_budget r (Some p) (Some t) (Some a) None s b k w is none = is
no_budget r (Some p) (Some t) (Some a) (Some n) None b k w is none = is
no_budget r (Some p) (Some t) (Some a) (Some n) (Some s) None k w is none = is
no_budget r (Some p) (Some t) (Some a) (Some n) (Some s) (Some b) k w is none = cc

pub no_book : (r : Option Command) (p : Option Text) (t : Option Text) (a : Option Question) (n : Option ℕ) (s : Option ℕ) (b : Option ℕ) (k : Option ℕ) (w : Option (Option ProveWords))
    → r ≡ None → None ≡ k → r ≡ solve_from p t a n s b k w
no_book r None t a n s b k w is none = is
no_book r (Some p) None a n s b k w is none = is
no_book r (Some p) (Some t) None n s b k w is none = is
no_book r (Some p) (Some t) (Some a) None s b k w is none = is
no_book r (Some p) (Some t) (Some a) (Some n) None b k w is none = is
no_book r (Some p) (Some t) (Some a) (Some n) (Some s) None k w is none = is
no_book r (Some p) (Some t) (Some a) (Some n) (Some s) (Some b) None w is none = is
no_book r (Some p) (Some t) (Some a) (Some n) (Some s) (Some b) (Some k) w is none = cc

pub no_prove : (r : Option Command) (p : Option Text) (t : Option Text) (a : Option Question) (n : Option ℕ) (s : Option ℕ) (b : Option ℕ) (k : Option ℕ) (w : Option (Option ProveWords))
    → r ≡ None → None ≡ w → r ≡ solve_from p t a n s b k w
no_prove r None t a n s b k w is none = is
no_prove r (Some p) None a n s b k w is none = is
no_prove r (Some p) (Some t) None n s b k w is none = is
no_prove r (Some p) (Some t) (Some a) None s b k w is none = is
no_prove r (Some p) (Some t) (Some a) (Some n) None b k w is none = is
no_prove r (Some p) (Some t) (Some a) (Some n) (Some s) None k w is none = is
no_prove r (Some p) (Some t) (Some a) (Some n) (Some s) (Some b) None w is none = is
no_prove r (Some p) (Some t) (Some a) (Some n) (Some s) (Some b) (Some k) None is none = is
no_prove r (Some p) (Some t) (Some a) (Some n) (Some s) (Some b) (Some k) (Some w) is none = cc

-- The grammar is of the kind of which clap's clauses are exact, so they say what a parse gives and when it fails.

use Rattle.std.proofs.Common.{◌≡◌, ◌≢◌, List, inl, inr, [], ◌∷◌, true, false, refl, subst, rules}
use Rattle.clap.specs.Words.{App, HasKind, HasMatchesOf, Kinds, Text, fault_of, is_simple, is_simple_and_free, kind_of, subcommand_of, subcommand_rows_of}
use Rattle.clap.specs.Walk.{is_empty}
use Rattle.clap.specs.declared.error.Error.{Error}
use Rattle.clap.specs.declared.error.kind.ErrorKind.TheVariants.{OutOfMemory}
use Rattle.clap.specs.declared.parser.matches.ArgMatches.{ArgMatches}
use Rattle.command_line.specs.Grammar.{grammar, answering, solve_grammar, verify_grammar, encode_grammar, check_grammar, trim_grammar, reading, trimming, demo_grammar, batch_grammar, with_graphs, with_question, with_mapping, with_search, with_proof}

-- the matches are clap's function of the words
pub is_simple_grammar : is_simple grammar ≡ true
unfolding grammar answering solve_grammar verify_grammar encode_grammar check_grammar trim_grammar reading trimming demo_grammar batch_grammar with_graphs with_question with_mapping with_search with_proof
is_simple_grammar = refl

-- no argument has a rule on another, so a parse fails exactly where clap's function says so
pub is_free_grammar : is_simple_and_free grammar ≡ true
unfolding grammar answering solve_grammar verify_grammar encode_grammar check_grammar trim_grammar reading trimming demo_grammar batch_grammar with_graphs with_question with_mapping with_search with_proof
is_free_grammar = refl

-- a parse by the grammar that succeeds has no fault, and gives clap's function of the words
pub found_by_grammar : (a : App) (words : List Text) (m : ArgMatches) → a ≡ grammar → HasMatchesOf a words m
    → (is_simple_and_free a ≡ true → fault_of a words ≡ [])
    → (fault_of grammar words ≡ []) × (subcommand_rows_of m ≡ subcommand_of grammar words)
found_by_grammar a words m is matches kinds =
    let found = subst (λ (g : App). HasMatchesOf g words m) is matches in
    let faults = subst (λ (g : App). is_simple_and_free g ≡ true → fault_of g words ≡ []) is kinds in
    (faults is_free_grammar, (found is_simple_grammar).1)

-- a parse that failed for another cause than memory has a fault
has_fault : (kinds : Kinds) (e : Error) → HasKind kinds e → kind_of e ≢ OutOfMemory → is_empty kinds ≡ false
has_fault [] e (inl memory) other = absurd (other memory)
has_fault [] e (inr none) other = absurd none
has_fault (k ∷ ks) e has other = search rules

-- a parse by the grammar that fails for another cause than memory has a fault
pub refused_by_grammar : (a : App) (words : List Text) (e : Error) → a ≡ grammar → (is_simple_and_free a ≡ true → HasKind (fault_of a words) e)
    → kind_of e ≢ OutOfMemory → is_empty (fault_of grammar words) ≡ false
refused_by_grammar a words e is kinds other =
    let faults = subst (λ (g : App). is_simple_and_free g ≡ true → HasKind (fault_of g words) e) is kinds in
    has_fault (fault_of grammar words) e (faults is_free_grammar) other

-- Worked rows of batches: what the definition says of words that are written out, the program's name first.

use Rattle.std.proofs.Common.{◌≡◌, ℕ, Bool, List, [], ◌∷◌, map, not, true, Some, None, is_some, codes, replicate, refl}
use Rattle.std.specs.List.{list_all}
use Rattle.clap.proofs.OnLiterals.{clap_on_literals}
use Rattle.graph_theory.specs.Text.{words}
use Rattle.graph_theory.specs.declared.lad_text.LadKind.TheVariants.{Lad, DirectedLad}
use Rattle.command_line.specs.Batch.{batch}
use Rattle.command_line.specs.Grammar.{grammar, answering, solve_grammar, verify_grammar, encode_grammar, check_grammar, trim_grammar, reading, trimming, demo_grammar, batch_grammar, with_graphs, with_question, with_mapping, with_search, with_proof}

-- the words of the line are no batch
abbrev is_refused : List ℕ → Bool
is_refused text = not (is_some (batch (words text)))

-- what is missing, too much, repeated or out of range
pub wrong_batches : list_all is_refused (
    codes "subgraph batch" ∷ codes "subgraph batch l m" ∷ codes "subgraph batch l --induced" ∷ codes "subgraph batch l --prove e --log l"
    ∷ codes "subgraph batch l --threads 0" ∷ codes "subgraph batch l --threads 65" ∷ codes "subgraph batch l --budget 0"
    ∷ codes "subgraph batch l --seed 18446744073709551616" ∷ codes "subgraph batch l --book 4194305" ∷ codes "subgraph batch l --format foo"
    ∷ codes "subgraph batch l --seed 1 --seed 1" ∷ codes "subgraph batch l --thread 4" ∷ codes "subgraph solve p t" ∷ codes "batch l" ∷ []) ≡ true
unfolding batch grammar answering solve_grammar verify_grammar encode_grammar check_grammar trim_grammar reading trimming demo_grammar batch_grammar with_graphs with_question with_mapping with_search with_proof clap_on_literals
wrong_batches = refl

-- batches
pub batches : map (λ (text : List ℕ). batch (words text)) (
    codes "subgraph batch l" ∷ codes "any batch --threads 4 --seed=7 l --budget 3 --book 0 --format directedlad" ∷ [])
    ≡ Some (record { list = codes "l"; format = Lad; threads = 1; seed = 0; budget = 9223372036854775807; book = 65536 })
    ∷ Some (record { list = codes "l"; format = DirectedLad; threads = 4; seed = 7; budget = 3; book = 0 })
    ∷ []
unfolding batch grammar answering solve_grammar verify_grammar encode_grammar check_grammar trim_grammar reading trimming demo_grammar batch_grammar with_graphs with_question with_mapping with_search with_proof clap_on_literals
batches = refl

-- a list's name has at most 4,095 bytes
pub long_lists : (is_some (batch (codes "subgraph" ∷ codes "batch" ∷ replicate 4095 108 ∷ [])) ≡ true)
    × (batch (codes "subgraph" ∷ codes "batch" ∷ replicate 4096 108 ∷ []) ≡ None)
unfolding batch grammar answering solve_grammar verify_grammar encode_grammar check_grammar trim_grammar reading trimming demo_grammar batch_grammar with_graphs with_question with_mapping with_search with_proof clap_on_literals
long_lists = (refl, refl)

-- Worked rows of the definition: what it says of words that are written out, the program's name first.

use Rattle.std.proofs.Common.{◌≡◌, ℕ, Bool, List, [], ◌∷◌, map, ◌++◌, length, not, true, false, Some, None, option_map, is_some, codes, replicate, refl}
use Rattle.std.specs.List.{list_all, concat}
use Rattle.clap.proofs.OnLiterals.{clap_on_literals}
use Rattle.log_theory.specs.declared.profile.Profile.TheVariants.{Hinted, Plain}
use Rattle.graph_theory.specs.Text.{words}
use Rattle.graph_theory.specs.declared.lad_text.LadKind.TheVariants.{Lad, VertexLabelledLad, DirectedLad, LabelledLad}
use Rattle.graph_theory.specs.declared.embedding.Maps.{Maps}
use Rattle.graph_theory.specs.declared.embedding.Maps.TheVariants.{Injective, Local, Any}
use Rattle.command_line.specs.Questions.{Question, plain_question}
use Rattle.command_line.specs.Pairs.{pairs}
use Rattle.command_line.specs.CommandLine.{command}
use Rattle.command_line.specs.Grammar.{grammar, answering, solve_grammar, verify_grammar, encode_grammar, check_grammar, trim_grammar, reading, trimming, demo_grammar, batch_grammar, with_graphs, with_question, with_mapping, with_search, with_proof}
use Rattle.command_line.specs.declared.commands.Command.TheVariants.{Solve, Verify, Encode, Check, Trim, Demo}

-- the words of the line are no command
abbrev is_refused : List ℕ → Bool
is_refused text = not (is_some (command (words text)))

-- what is missing, too much or repeated
pub wrong_count : list_all is_refused (
    codes "" ∷ codes "subgraph" ∷ codes "subgraph solve" ∷ codes "subgraph solve p" ∷ codes "subgraph solve p t u"
    ∷ codes "subgraph verify p t" ∷ codes "subgraph verify p t m u" ∷ codes "subgraph solve p t --budget"
    ∷ codes "subgraph solve p t --budget 4 --budget 4" ∷ codes "subgraph solve p t --induced --induced"
    ∷ codes "subgraph verify p t m --format lad --format lad" ∷ codes "subgraph solve p t --format --induced"
    ∷ codes "subgraph solve p t --induced=true" ∷ codes "solve p t" ∷ codes "subgraph encode p" ∷ codes "subgraph encode p t u"
    ∷ codes "subgraph encode p t --budget 4" ∷ codes "subgraph check e" ∷ codes "subgraph check e l m" ∷ codes "subgraph check e l --induced"
    ∷ codes "subgraph demo" ∷ codes "subgraph demo 7 8" ∷ codes "subgraph demo 7 --seed 8" ∷ codes "subgraph demo 7 --induced" ∷ []) ≡ true
unfolding command grammar answering solve_grammar verify_grammar encode_grammar check_grammar trim_grammar reading trimming demo_grammar batch_grammar with_graphs with_question with_mapping with_search with_proof clap_on_literals
wrong_count = refl

-- words that the grammar does not have, abbreviations among them
pub unknown_words : list_all is_refused (
    codes "subgraph help" ∷ codes "subgraph --help" ∷ codes "subgraph -h" ∷ codes "subgraph solve -h" ∷ codes "subgraph solve p t --help"
    ∷ codes "subgraph --version" ∷ codes "subgraph -V" ∷ codes "subgraph sol p t" ∷ codes "subgraph SOLVE p t" ∷ codes "subgraph p t"
    ∷ codes "subgraph solve p t --bud 4" ∷ codes "subgraph solve p t --induce" ∷ codes "subgraph solve p t --thread 4"
    ∷ codes "subgraph verify p t m --seed 1" ∷ codes "subgraph encode p t --prove e --log l" ∷ codes "subgraph verify p t m --budget 4"
    ∷ codes "subgraph demo 7 --book 4" ∷ codes "subgraph verify p t m --threads 4" ∷ codes "subgraph --induced solve p t"
    ∷ codes "subgraph -- solve p t" ∷ codes "subgraph solve -p t" ∷ codes "subgraph solve p -1" ∷ []) ≡ true
unfolding command grammar answering solve_grammar verify_grammar encode_grammar check_grammar trim_grammar reading trimming demo_grammar batch_grammar with_graphs with_question with_mapping with_search with_proof clap_on_literals
unknown_words = refl

-- a proof with one file alone, or with two that are one or one of the graphs', and a profile without one or out of range
pub wrong_proofs : list_all is_refused (
    codes "subgraph solve p t --prove e" ∷ codes "subgraph solve p t --log l" ∷ codes "subgraph solve p t --prove a --log a"
    ∷ codes "subgraph solve p t --prove p --log l" ∷ codes "subgraph solve p t --prove t --log l" ∷ codes "subgraph solve p t --prove e --log p"
    ∷ codes "subgraph solve p t --prove e --log t" ∷ codes "subgraph solve p t --prove e --log" ∷ codes "subgraph solve p t --prove --log l"
    ∷ codes "subgraph solve p t --prove e --log l --log m" ∷ codes "subgraph solve p t --prove= --log=" ∷ codes "subgraph check e l --log m"
    ∷ codes "subgraph demo 7 --prove e --log l" ∷ codes "subgraph solve p t --profile 2" ∷ codes "subgraph solve p t --profile 1"
    ∷ codes "subgraph solve p t --prove e --log l --profile 3" ∷ codes "subgraph solve p t --prove e --log l --profile 0"
    ∷ codes "subgraph solve p t --prove e --log l --profile 2 --profile 2" ∷ codes "subgraph solve p t --prove e --profile 2"
    ∷ codes "subgraph solve p t --prove e --log l --profile=" ∷ codes "subgraph check e l --profile 2" ∷ []) ≡ true
unfolding command grammar answering solve_grammar verify_grammar encode_grammar check_grammar trim_grammar reading trimming demo_grammar batch_grammar with_graphs with_question with_mapping with_search with_proof clap_on_literals
wrong_proofs = refl

-- numbers out of range or form, and formats that are none
pub wrong_values : list_all is_refused (
    codes "subgraph solve p t --budget 0" ∷ codes "subgraph solve p t --budget 000" ∷ codes "subgraph solve p t --budget=0"
    ∷ codes "subgraph solve p t --budget 9223372036854775808" ∷ codes "subgraph solve p t --budget 18446744073709551617"
    ∷ codes "subgraph solve p t --budget +4" ∷ codes "subgraph solve p t --budget -4" ∷ codes "subgraph solve p t --budget 4x"
    ∷ codes "subgraph solve p t --budget 1_000" ∷ codes "subgraph solve p t --budget 0x4" ∷ codes "subgraph solve p t --budget="
    ∷ codes "subgraph solve p t --budget=+4" ∷ codes "subgraph solve p t --format foo" ∷ codes "subgraph solve p t --format LAD"
    ∷ codes "subgraph solve p t --seed 18446744073709551616" ∷ codes "subgraph solve p t --seed=" ∷ codes "subgraph solve p t --seed -1"
    ∷ codes "subgraph solve p t --format=" ∷ codes "subgraph verify p t m --format foo"
    ∷ codes "subgraph solve p t --format directed" ∷ codes "subgraph encode p t --format labelledlad2"
    ∷ codes "subgraph demo +7" ∷ codes "subgraph demo -7" ∷ codes "subgraph demo 7x" ∷ codes "subgraph demo 18446744073709551616"
    ∷ codes "subgraph demo 7 --budget 0" ∷ codes "subgraph demo 7 --budget 9223372036854775808"
    ∷ codes "subgraph solve p t --threads 0" ∷ codes "subgraph solve p t --threads 65" ∷ codes "subgraph solve p t --threads +4"
    ∷ codes "subgraph solve p t --threads 4294967297" ∷ codes "subgraph solve p t --book 4194305" ∷ codes "subgraph solve p t --book -1"
    ∷ codes "subgraph demo 7 --threads 0" ∷ codes "subgraph demo 7 --threads 65" ∷ []) ≡ true
unfolding command grammar answering solve_grammar verify_grammar encode_grammar check_grammar trim_grammar reading trimming demo_grammar batch_grammar with_graphs with_question with_mapping with_search with_proof clap_on_literals
wrong_values = refl

-- kinds of maps and orders of images that are none, of one vertex twice, or with the induced kind
pub wrong_questions : list_all is_refused (
    codes "subgraph solve p t --map Local" ∷ codes "subgraph solve p t --map homomorphism" ∷ codes "subgraph encode p t --map="
    ∷ codes "subgraph solve p t --map local --induced" ∷ codes "subgraph verify p t m --induced --map any" ∷ codes "subgraph encode p t --map any --induced"
    ∷ codes "subgraph solve p t --map any --map any" ∷ codes "subgraph solve p t --less 0" ∷ codes "subgraph solve p t --less 0,0"
    ∷ codes "subgraph encode p t --less 00,0" ∷ codes "subgraph solve p t --less=" ∷ codes "subgraph verify p t m --less 0,"
    ∷ codes "subgraph solve p t --less ,1" ∷ codes "subgraph solve p t --less 0,1," ∷ codes "subgraph solve p t --less 0,1:"
    ∷ codes "subgraph solve p t --less :0,1" ∷ codes "subgraph solve p t --less 0,1::1,2" ∷ codes "subgraph solve p t --less 0,1,2"
    ∷ codes "subgraph solve p t --less 0;1" ∷ codes "subgraph solve p t --less 0,+1" ∷ codes "subgraph solve p t --less 0,1:2,2"
    ∷ codes "subgraph solve p t --less 0,4294967296" ∷ codes "subgraph solve p t --less 00000000000,1" ∷ codes "subgraph solve p t --less 0,1 --less 1,2"
    ∷ codes "subgraph batch l --map any" ∷ codes "subgraph demo 7 --less 0,1" ∷ codes "subgraph check e l --map any" ∷ []) ≡ true
unfolding command grammar answering solve_grammar verify_grammar encode_grammar check_grammar trim_grammar reading trimming demo_grammar batch_grammar with_graphs with_question with_mapping with_search with_proof clap_on_literals
wrong_questions = refl

-- what is asked of a map
abbrev asking : Maps → List (ℕ × ℕ) → Question
asking maps less = record { induced = false; maps = maps; less = less; format = Lad }

pub questions : map (λ (text : List ℕ). command (words text)) (
    codes "subgraph encode p t --map local" ∷ codes "subgraph encode --map=any p t --less 0,1" ∷ codes "subgraph encode p t --induced --map injective"
    ∷ codes "subgraph verify p t m --less 2,0:0,1:2,0" ∷ codes "subgraph encode p t --less 4294967295,0000000001" ∷ [])
    ≡ Some (Encode (record { pattern = codes "p"; target = codes "t"; ask = asking Local [] }))
    ∷ Some (Encode (record { pattern = codes "p"; target = codes "t"; ask = asking Any ((0, 1) ∷ []) }))
    ∷ Some (Encode (record { pattern = codes "p"; target = codes "t"; ask = plain_question true Lad }))
    ∷ Some (Verify (record { pattern = codes "p"; target = codes "t"; mapping = codes "m"; ask = asking Injective ((2, 0) ∷ (0, 1) ∷ (2, 0) ∷ []) }))
    ∷ Some (Encode (record { pattern = codes "p"; target = codes "t"; ask = asking Injective ((4294967295, 1) ∷ []) }))
    ∷ []
unfolding command grammar answering solve_grammar verify_grammar encode_grammar check_grammar trim_grammar reading trimming demo_grammar batch_grammar with_graphs with_question with_mapping with_search with_proof clap_on_literals
questions = refl

-- a word may name 64 pairs, and not 65
pub many_pairs : (option_map length (pairs (codes "0,1" ++ concat (replicate 63 (codes ":2,3")))) ≡ Some 64)
    × (pairs (codes "0,1" ++ concat (replicate 64 (codes ":2,3"))) ≡ None)
many_pairs = (refl, refl)

-- solves
pub solves : map (λ (text : List ℕ). command (words text)) (
    codes "subgraph solve p t" ∷ codes "any solve same same --induced" ∷ codes "subgraph solve --budget 4 p --format vertexlabelledlad t"
    ∷ codes "subgraph solve p t --budget=004" ∷ codes "subgraph solve --format=lad -- p --induced" ∷ codes "subgraph solve - solve"
    ∷ codes "subgraph solve p t --seed 18446744073709551615" ∷ codes "subgraph solve --budget 4 --seed=00 p t"
    ∷ codes "subgraph solve p t --threads 64 --book 4194304" ∷ codes "subgraph solve --book=0 p --threads=008 t"
    ∷ codes "subgraph solve p t --format directedlad" ∷ codes "subgraph solve --format=labelledlad p t --induced" ∷ [])
    ≡ Some (Solve (record { pattern = codes "p"; target = codes "t"; ask = plain_question false Lad; threads = 1; seed = 0; budget = 9223372036854775807; book = 65536; prove = None }))
    ∷ Some (Solve (record { pattern = codes "same"; target = codes "same"; ask = plain_question true Lad; threads = 1; seed = 0; budget = 9223372036854775807; book = 65536; prove = None }))
    ∷ Some (Solve (record { pattern = codes "p"; target = codes "t"; ask = plain_question false VertexLabelledLad; threads = 1; seed = 0; budget = 4; book = 65536; prove = None }))
    ∷ Some (Solve (record { pattern = codes "p"; target = codes "t"; ask = plain_question false Lad; threads = 1; seed = 0; budget = 4; book = 65536; prove = None }))
    ∷ Some (Solve (record { pattern = codes "p"; target = codes "--induced"; ask = plain_question false Lad; threads = 1; seed = 0; budget = 9223372036854775807; book = 65536; prove = None }))
    ∷ Some (Solve (record { pattern = codes "-"; target = codes "solve"; ask = plain_question false Lad; threads = 1; seed = 0; budget = 9223372036854775807; book = 65536; prove = None }))
    ∷ Some (Solve (record { pattern = codes "p"; target = codes "t"; ask = plain_question false Lad; threads = 1; seed = 18446744073709551615; budget = 9223372036854775807; book = 65536; prove = None }))
    ∷ Some (Solve (record { pattern = codes "p"; target = codes "t"; ask = plain_question false Lad; threads = 1; seed = 0; budget = 4; book = 65536; prove = None }))
    ∷ Some (Solve (record { pattern = codes "p"; target = codes "t"; ask = plain_question false Lad; threads = 64; seed = 0; budget = 9223372036854775807; book = 4194304; prove = None }))
    ∷ Some (Solve (record { pattern = codes "p"; target = codes "t"; ask = plain_question false Lad; threads = 8; seed = 0; budget = 9223372036854775807; book = 0; prove = None }))
    ∷ Some (Solve (record { pattern = codes "p"; target = codes "t"; ask = plain_question false DirectedLad; threads = 1; seed = 0; budget = 9223372036854775807; book = 65536; prove = None }))
    ∷ Some (Solve (record { pattern = codes "p"; target = codes "t"; ask = plain_question true LabelledLad; threads = 1; seed = 0; budget = 9223372036854775807; book = 65536; prove = None }))
    ∷ []
unfolding command grammar answering solve_grammar verify_grammar encode_grammar check_grammar trim_grammar reading trimming demo_grammar batch_grammar with_graphs with_question with_mapping with_search with_proof clap_on_literals
solves = refl

-- solves with a proof
pub proves : map (λ (text : List ℕ). command (words text)) (
    codes "subgraph solve p t --prove e --log l" ∷ codes "subgraph solve --log=t --prove= p p"
    ∷ codes "subgraph solve p t --prove e --log l --profile 1" ∷ codes "subgraph solve --profile=02 p t --prove e --log l"
    ∷ codes "subgraph solve p t --format directedlad --prove e --log l" ∷ codes "subgraph solve p t --prove e --log l --format labelledlad" ∷ [])
    ≡ Some (Solve (record { pattern = codes "p"; target = codes "t"; ask = plain_question false Lad; threads = 1; seed = 0; budget = 9223372036854775807; book = 65536; prove = Some (record { encoding = codes "e"; log = codes "l"; profile = Hinted }) }))
    ∷ Some (Solve (record { pattern = codes "p"; target = codes "p"; ask = plain_question false Lad; threads = 1; seed = 0; budget = 9223372036854775807; book = 65536; prove = Some (record { encoding = []; log = codes "t"; profile = Hinted }) }))
    ∷ Some (Solve (record { pattern = codes "p"; target = codes "t"; ask = plain_question false Lad; threads = 1; seed = 0; budget = 9223372036854775807; book = 65536; prove = Some (record { encoding = codes "e"; log = codes "l"; profile = Hinted }) }))
    ∷ Some (Solve (record { pattern = codes "p"; target = codes "t"; ask = plain_question false Lad; threads = 1; seed = 0; budget = 9223372036854775807; book = 65536; prove = Some (record { encoding = codes "e"; log = codes "l"; profile = Plain }) }))
    ∷ Some (Solve (record { pattern = codes "p"; target = codes "t"; ask = plain_question false DirectedLad; threads = 1; seed = 0; budget = 9223372036854775807; book = 65536; prove = Some (record { encoding = codes "e"; log = codes "l"; profile = Hinted }) }))
    ∷ Some (Solve (record { pattern = codes "p"; target = codes "t"; ask = plain_question false LabelledLad; threads = 1; seed = 0; budget = 9223372036854775807; book = 65536; prove = Some (record { encoding = codes "e"; log = codes "l"; profile = Hinted }) }))
    ∷ []
unfolding command grammar answering solve_grammar verify_grammar encode_grammar check_grammar trim_grammar reading trimming demo_grammar batch_grammar with_graphs with_question with_mapping with_search with_proof clap_on_literals
proves = refl

-- verifies
pub verifies : map (λ (text : List ℕ). command (words text)) (
    codes "subgraph verify p t m" ∷ codes "subgraph verify p --induced t --format vertexlabelledlad m" ∷ codes "subgraph verify p t m --format directedlad" ∷ [])
    ≡ Some (Verify (record { pattern = codes "p"; target = codes "t"; mapping = codes "m"; ask = plain_question false Lad }))
    ∷ Some (Verify (record { pattern = codes "p"; target = codes "t"; mapping = codes "m"; ask = plain_question true VertexLabelledLad }))
    ∷ Some (Verify (record { pattern = codes "p"; target = codes "t"; mapping = codes "m"; ask = plain_question false DirectedLad }))
    ∷ []
unfolding command grammar answering solve_grammar verify_grammar encode_grammar check_grammar trim_grammar reading trimming demo_grammar batch_grammar with_graphs with_question with_mapping with_search with_proof clap_on_literals
verifies = refl

-- encodes
pub encodes : map (λ (text : List ℕ). command (words text)) (
    codes "subgraph encode p t" ∷ codes "subgraph encode p --induced t --format vertexlabelledlad" ∷ codes "subgraph encode p t --format directedlad"
    ∷ codes "subgraph encode p --format labelledlad t" ∷ [])
    ≡ Some (Encode (record { pattern = codes "p"; target = codes "t"; ask = plain_question false Lad }))
    ∷ Some (Encode (record { pattern = codes "p"; target = codes "t"; ask = plain_question true VertexLabelledLad }))
    ∷ Some (Encode (record { pattern = codes "p"; target = codes "t"; ask = plain_question false DirectedLad }))
    ∷ Some (Encode (record { pattern = codes "p"; target = codes "t"; ask = plain_question false LabelledLad }))
    ∷ []
unfolding command grammar answering solve_grammar verify_grammar encode_grammar check_grammar trim_grammar reading trimming demo_grammar batch_grammar with_graphs with_question with_mapping with_search with_proof clap_on_literals
encodes = refl

-- checks
pub checks : map (λ (text : List ℕ). command (words text)) (codes "subgraph check e l" ∷ codes "subgraph check e e" ∷ [])
    ≡ Some (Check (record { encoding = codes "e"; log = codes "l" })) ∷ Some (Check (record { encoding = codes "e"; log = codes "e" })) ∷ []
unfolding command grammar answering solve_grammar verify_grammar encode_grammar check_grammar trim_grammar reading trimming demo_grammar batch_grammar with_graphs with_question with_mapping with_search with_proof clap_on_literals
checks = refl

-- trims, and words that are none: two files, four, and a third that is one of the others
pub trims : map (λ (text : List ℕ). command (words text)) (codes "subgraph trim e l o" ∷ codes "subgraph trim e e o" ∷ [])
    ≡ Some (Trim (record { encoding = codes "e"; log = codes "l"; out = codes "o" })) ∷ Some (Trim (record { encoding = codes "e"; log = codes "e"; out = codes "o" })) ∷ []
unfolding command grammar answering solve_grammar verify_grammar encode_grammar check_grammar trim_grammar reading trimming demo_grammar batch_grammar with_graphs with_question with_mapping with_search with_proof clap_on_literals
trims = refl

pub wrong_trims : list_all is_refused (
    codes "subgraph trim e l" ∷ codes "subgraph trim e l o x" ∷ codes "subgraph trim e l e" ∷ codes "subgraph trim e l l"
    ∷ codes "subgraph trim e l o --profile 1" ∷ codes "subgraph trim e l --out o" ∷ []) ≡ true
unfolding command grammar answering solve_grammar verify_grammar encode_grammar check_grammar trim_grammar reading trimming demo_grammar batch_grammar with_graphs with_question with_mapping with_search with_proof clap_on_literals
wrong_trims = refl

-- demos
pub demos : map (λ (text : List ℕ). command (words text)) (codes "subgraph demo 7" ∷ codes "subgraph demo --budget 4 18446744073709551615" ∷ codes "subgraph demo 007 --budget=1 --threads 4" ∷ [])
    ≡ Some (Demo (record { seed = 7; threads = 1; budget = 9223372036854775807 })) ∷ Some (Demo (record { seed = 18446744073709551615; threads = 1; budget = 4 }))
    ∷ Some (Demo (record { seed = 7; threads = 4; budget = 1 })) ∷ []
unfolding command grammar answering solve_grammar verify_grammar encode_grammar check_grammar trim_grammar reading trimming demo_grammar batch_grammar with_graphs with_question with_mapping with_search with_proof clap_on_literals
demos = refl

-- an empty word is a name, and no words at all are no command
pub empty_words : (command (codes "subgraph" ∷ codes "solve" ∷ [] ∷ codes "t" ∷ [])
    ≡ Some (Solve (record { pattern = []; target = codes "t"; ask = plain_question false Lad; threads = 1; seed = 0; budget = 9223372036854775807; book = 65536; prove = None })))
    × (command [] ≡ None)
unfolding command grammar answering solve_grammar verify_grammar encode_grammar check_grammar trim_grammar reading trimming demo_grammar batch_grammar with_graphs with_question with_mapping with_search with_proof clap_on_literals
empty_words = (refl, refl)

-- a name of 4,095 bytes is taken, and one of 4,096 is not
pub long_names : (is_some (command (codes "subgraph" ∷ codes "solve" ∷ replicate 4095 112 ∷ codes "t" ∷ [])) ≡ true)
    × (is_some (command (codes "subgraph" ∷ codes "solve" ∷ codes "p" ∷ replicate 4095 116 ∷ [])) ≡ true)
    × (command (codes "subgraph" ∷ codes "solve" ∷ replicate 4096 112 ∷ codes "t" ∷ []) ≡ None)
    × (command (codes "subgraph" ∷ codes "solve" ∷ codes "p" ∷ replicate 4096 116 ∷ []) ≡ None)
    × (command (codes "subgraph" ∷ codes "verify" ∷ codes "p" ∷ codes "t" ∷ replicate 4096 109 ∷ []) ≡ None)
unfolding command grammar answering solve_grammar verify_grammar encode_grammar check_grammar trim_grammar reading trimming demo_grammar batch_grammar with_graphs with_question with_mapping with_search with_proof clap_on_literals
long_names = (refl, refl, refl, refl, refl)

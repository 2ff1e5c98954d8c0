-- The three texts of a drill of n nodes, which stand in a circle, and the names that its run has for them.
use Rattle.std.specs.Prelude.{ℕ, ◌+◌, ◌%◌, List, [], ◌∷◌, ◌++◌, codes, decimal, flat_map, Option, Some}
use Rattle.std.specs.List.{range_with_len}
use Rattle.shx_outside.specs.declared.named_text.NamedText.{NamedText}
use Rattle.shx_outside.specs.OpenTexts.{bytes_named}

-- ---- the texts

abbrev pub prefixes : List ℕ
prefixes = codes "@prefix sh: <http://www.w3.org/ns/shacl#> .\n@prefix e: <http://e/> .\n"

-- what has a next node has one alone, an IRI, and none that is marked
abbrev pub shapes_text : List ℕ
shapes_text =
    prefixes
    ++ codes "e:S sh:targetSubjectsOf e:next ; sh:property e:P ; sh:not e:Q .\n"
    ++ codes "e:P sh:path e:next ; sh:maxCount 1 ; sh:nodeKind sh:IRI .\n"
    ++ codes "e:Q sh:path ( e:next e:mark ) ; sh:hasValue 1 .\n"

-- the nodes, by their numbers
abbrev pub nodes : ℕ → List ℕ
nodes n = range_with_len 0 n

abbrev pub node_name : ℕ → List ℕ
node_name i = codes "e:n" ++ decimal i

-- a node leads to the one behind it, and the last one to the first
abbrev pub next_line : ℕ → ℕ → List ℕ
next_line n i = node_name i ++ codes " e:next " ++ node_name ((i + 1) % n) ++ codes " .\n"

abbrev pub data_text : ℕ → List ℕ
data_text n = prefixes ++ flat_map (next_line n) (nodes n)

abbrev pub mark_line : ℕ → List ℕ
mark_line i = codes "insert " ++ node_name i ++ codes " e:mark 1 .\n"

-- every node is marked, and then all is counted
abbrev pub script_text : ℕ → List ℕ
script_text n = flat_map mark_line (nodes n) ++ codes "count\n"

-- ---- their names

abbrev pub shapes_name : List ℕ
shapes_name = codes "shapes"

abbrev pub data_name : List ℕ
data_name = codes "data"

abbrev pub script_name : List ℕ
script_name = codes "script"

-- the words that name them to the run
abbrev pub run_words : List (List ℕ)
run_words = shapes_name ∷ (data_name ∷ (script_name ∷ []))

abbrev pub named_texts : ℕ → List NamedText
named_texts n =
    record { name = shapes_name; bytes = shapes_text }
    ∷ (record { name = data_name; bytes = data_text n }
    ∷ (record { name = script_name; bytes = script_text n } ∷ []))

-- what each name holds
abbrev pub texts : ℕ → List ℕ → Option (List ℕ)
texts n name = Some (bytes_named (named_texts n) name)

-- All faults of a text that is no plan, in the order in which they are read. They come in stages: the document, its top
-- fields, the tables, the tree of the ids, the nodes, the limits. A stage is looked at only where the stages before it
-- have no fault, since it rests on what they gave. Within a stage no fault hides another, but of each table only the
-- first is noted.
use Rattle.std.specs.Prelude.{◌≡◌, ℕ, ◌+◌, ◌==◌, Bool, false, codes, List, [], ◌∷◌, ◌++◌, if◌then◌else◌, Option, Some, None, option_to_list, Result, Ok, Err}
use Rattle.std.specs.Result.{result_err}
use Rattle.toml.specs.Data.{Members}
use Rattle.toml.specs.Parse.{parse_document}
use Rattle.ext_model.specs.Sizes.{most_contexts}
use Rattle.ext_model.specs.declared.size.Size.{Size}
use Rattle.ext_tree.specs.Decided.{is_tree}
use Rattle.ext_plan.specs.Labels.{is_label, labels_of}
use Rattle.ext_plan_reading.specs.declared.fault.PlanFault.{PlanFault}
use Rattle.ext_plan_reading.specs.declared.fault.PlanFault.TheVariants as faults
use Rattle.ext_plan_reading.specs.Depths.{least_test_depth}
use Rattle.ext_plan_reading.specs.Faults.{some_or, check}
use Rattle.ext_plan_reading.specs.Fields.{text_at}
use Rattle.ext_plan_reading.specs.KeyReading.{key_at, keys_after}
use Rattle.ext_plan_reading.specs.NodeReading.{Sketch, sketch_at, sketches_after, with_repetitions, ids_of, outlines_of, has_children, node_at}
use Rattle.ext_plan_reading.specs.Reading.{plan_of_tables}
use Rattle.ext_plan_reading.specs.TopReading.{TopFields, top_at}

-- The fault that ended a reading, if one did.
abbrev pub fault_of : {A : Type 0} → Result A PlanFault → List PlanFault
fault_of read = option_to_list (result_err read)

-- All faults of what was read; or the fault that ended the reading, alone.
abbrev pub faults_behind : {A : Type 0} → Result A PlanFault → (A → List PlanFault) → List PlanFault
faults_behind (Ok x) faults = faults x
faults_behind (Err e) faults = e ∷ []

infixl 10 ◌>>=◌
abbrev pub ◌>>=◌ : {A : Type 0} → Result A PlanFault → (A → List PlanFault) → List PlanFault
read >>= faults = faults_behind read faults

-- The faults of one stage, or those of the next if it has none.
abbrev pub or_else : List PlanFault → List PlanFault → List PlanFault
or_else [] next = next
or_else (fault ∷ more) next = fault ∷ more

-- ---- tables

-- The labels, and that of one more key, if it is a text and none of them. A label counts even if its key is refused.
abbrev pub with_label : List (List ℕ) → Option (List ℕ) → List (List ℕ)
with_label labels None = labels
with_label labels (Some label) = if is_label labels label then labels else labels ++ label ∷ []

-- The first fault of each of these keys, which begin with this number. The keys before them have these labels.
unfoldable pub key_faults : ℕ → List (List ℕ) → List Members → List PlanFault
key_faults number labels [] = []
key_faults number labels (fields ∷ more) =
    fault_of (key_at number labels fields)
    ++ key_faults (number + 1) (with_label labels (text_at (codes "label") fields)) more

-- The first fault of each of these nodes in the first pass. They begin with this number.
unfoldable pub sketch_faults : ℕ → List Members → List PlanFault
sketch_faults number [] = []
sketch_faults number (fields ∷ more) = fault_of (sketch_at number fields) ++ sketch_faults (number + 1) more

-- ---- nodes

-- The fault of this table is noted.
abbrev pub is_noted : Option ℕ → ℕ → Bool
is_noted None table = false
is_noted (Some noted) table = noted == table

-- A node's fault, unless one of the same table is noted. The nodes of one table follow each other: they are a repeated
-- test and its repetitions.
abbrev pub new_fault : Option ℕ → ℕ → Option PlanFault → List PlanFault
new_fault noted table None = []
new_fault noted table (Some fault) = if is_noted noted table then [] else fault ∷ []

-- The table whose fault was noted last.
abbrev pub noted_after : Option ℕ → ℕ → Option PlanFault → Option ℕ
noted_after noted table None = noted
noted_after noted table (Some fault) = Some table

-- What the second pass makes of the node with this number, one of them all.
abbrev pub node_fault : List (List ℕ) → List Sketch → ℕ → Sketch → Option PlanFault
node_fault labels all number sketch =
    result_err (node_at labels (has_children (ids_of all) number) (least_test_depth (outlines_of all) sketch.id) sketch)

-- The first fault of each table in the second pass over these nodes, which begin with this number. `noted` is the table
-- whose fault was noted last.
unfoldable pub node_faults : List (List ℕ) → List Sketch → Option ℕ → ℕ → List Sketch → List PlanFault
node_faults labels all noted number [] = []
node_faults labels all noted number (sketch ∷ more) =
    new_fault noted sketch.table (node_fault labels all number sketch)
    ++ node_faults labels all (noted_after noted sketch.table (node_fault labels all number sketch)) (number + 1) more

-- The faults of all nodes: that of the tree of their ids, or those of the nodes.
unfoldable pub faults_of_nodes : Size → List (List ℕ) → List Sketch → List PlanFault
faults_of_nodes size labels all = do
  _ ← check faults.BadTree (is_tree (most_contexts size) (ids_of all))
  node_faults labels all None 0 all

-- The same of the nodes that these tables stand for. It matters only where no table has a fault.
unfoldable pub faults_behind_tables : Size → List Members → List Members → List PlanFault
faults_behind_tables size key_tables node_tables = do
  keys ← keys_after [] key_tables
  sketches ← sketches_after [] node_tables
  faults_of_nodes size (labels_of keys) (with_repetitions sketches)

-- ---- plans

-- The faults of the tables; then those of the tree and the nodes; then the one that still ends the reading, which is
-- that of the limits.
unfoldable pub faults_of_tables : Size → TopFields → List PlanFault
faults_of_tables size top =
    or_else (key_faults 0 [] top.key_tables ++ sketch_faults 0 top.node_tables)
    (or_else (faults_behind_tables size top.key_tables top.node_tables)
    (fault_of (plan_of_tables size top.keep_faults top.key_places top.key_tables top.node_tables)))

-- The faults of a document, which may be as large as this.
unfoldable pub faults_of : Size → Members → List PlanFault
faults_of size top = do
  fields ← top_at top
  faults_of_tables size fields

-- The faults of a text, which may be as large as this.
unfoldable pub faults_of_text : Size → List ℕ → List PlanFault
faults_of_text size text = do
  top ← some_or faults.NotToml (parse_document text)
  faults_of size top

-- ---- a law

-- Reading up to the first fault gives this: so there are no faults where it is a plan, and its fault comes first.
abbrev pub BeginAs : {A : Type 0} → Result A PlanFault → List PlanFault → Type 0
BeginAs (Ok plan) faults = faults ≡ []
BeginAs (Err fault) faults = (more : List PlanFault) × (faults ≡ fault ∷ more)

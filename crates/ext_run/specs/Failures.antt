-- What is listed once more of nodes that failed or were aborted: a line `ID: FAULT (ORIGIN)` for each fault that was
-- reported for a node. Texts are lists of bytes. JUnit has no such list.
use Rattle.std.specs.Prelude.{◌≡◌, ℕ, zero, suc, true, ◌==◌, codes, List, [], ◌∷◌, ◌++◌, length, if◌then◌else◌, string_bytes}
use Rattle.std.specs.Fmt.{decimal}
use Rattle.std.specs.List.{flat_map}
use Rattle.ext_ids.specs.Grammar.{Pair, id_text}
use Rattle.ext_lifecycle.specs.declared.call.Kind.{Kind}
use Rattle.ext_lifecycle.specs.declared.call.Kind.TheVariants as kinds
use Rattle.ext_lifecycle.specs.declared.fault_origin.FaultOrigin.{FaultOrigin}
use Rattle.ext_lifecycle.specs.declared.fault_origin.FaultOrigin.TheVariants as origins
use Rattle.ext_tree.specs.Trees.{Id, id_at}
use Rattle.ext_run.specs.declared.failures.NodeFault.{NodeFault}
use Rattle.ext_run.specs.declared.failures.ReportedFaults.{ReportedFaults}

-- ---- what is kept

-- The node's fault, with this origin and text, is appended to the others.
abbrev pub IsAdded : List NodeFault → List NodeFault → ℕ → FaultOrigin → List ℕ → Type 0
IsAdded old new node origin text = (fault : NodeFault) × (new ≡ old ++ fault ∷ []) × (fault.node ≡ node)
    × (fault.origin ≡ origin) × (string_bytes fault.text ≡ text)

-- The fault is appended to the others, or it is lost, and that is noted.
pub data NotesFault (old new : ReportedFaults) (node : ℕ) (origin : FaultOrigin) (text : List ℕ) : Type 0 where
  added : IsAdded old.faults.items new.faults.items node origin text → new.lost ≡ old.lost
      → NotesFault old new node origin text
  lost : new.faults.items ≡ old.faults.items → new.lost ≡ true → NotesFault old new node origin text

-- ---- what is listed

module _ (ids : List Id) where
  -- A callback round each test, which may be of a node above.
  abbrev pub callback_of : List ℕ → ℕ → ℕ → List ℕ
  callback_of name index from = name ++ codes " " ++ decimal index ++ codes " of " ++ id_text (id_at ids from)

  -- Which of a node's calls it is.
  unfoldable pub call_text : Kind → ℕ → ℕ → List ℕ
  call_text kinds.BeforeAll from index = codes "before_all " ++ decimal index
  call_text kinds.BeforeEach from index = callback_of (codes "before_each") index from
  call_text kinds.Test from index = codes "test"
  call_text kinds.AfterEach from index = callback_of (codes "after_each") index from
  call_text kinds.AfterAll from index = codes "after_all " ++ decimal index

  -- For instance `before_each 0 of [engine:x], step 1`. A fault at the end of a context has the origin `close`.
  abbrev pub origin_text : FaultOrigin → List ℕ
  origin_text (origins.Step call step) = call_text call.kind call.from call.index ++ codes ", step " ++ decimal step
  origin_text origins.Close = codes "close"

  -- `ID: FAULT (ORIGIN)` and a line feed.
  abbrev pub failure_line : List Pair → NodeFault → List ℕ
  failure_line id fault =
      id_text id ++ codes ": " ++ string_bytes fault.text ++ codes " (" ++ origin_text fault.origin ++ codes ")\n"

-- What is listed of a fault of the node with this id.
abbrev pub Listing : Type 0
Listing = List Pair → NodeFault → List ℕ

module _ (line : Listing) where
  -- What is listed of the fault, if it is the node's.
  abbrev pub failure_at : List Pair → ℕ → NodeFault → List ℕ
  failure_at id node fault = if fault.node == node then line id fault else []

  -- The faults of one node, in the order in which they were reported.
  abbrev pub failures_at : List Pair → ℕ → List NodeFault → List ℕ
  failures_at id node faults = flat_map (failure_at id node) faults

  module _ (ids : List Id) where
    -- The faults of the first `n` nodes, in the order of the plan.
    unfoldable pub failures_below : List NodeFault → ℕ → List ℕ
    failures_below faults zero = []
    failures_below faults (suc n) = failures_below faults n ++ failures_at (id_at ids n) n faults

    -- The faults of all nodes.
    abbrev pub failures_of : List NodeFault → List ℕ
    failures_of faults = failures_below faults (length ids)

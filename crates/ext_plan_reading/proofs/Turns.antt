-- One key, one node or one step after another: a turn that goes on, one that stops, and the end.
use Rattle.std.proofs.Common.{◌≡◌, ℕ, List, [], ◌∷◌, ◌++◌, length, Result, Ok, Err, refl}
use Rattle.toml.specs.Data.{Members}
use Rattle.ext_plan.specs.Plans.{KeyText, LockText, StepText, NodeText}
use Rattle.ext_plan.specs.Labels.{labels_of}
use Rattle.ext_plan_reading.specs.declared.fault.PlanFault.{PlanFault}
use Rattle.ext_plan_reading.specs.declared.fault.PlanFault.TheVariants as faults
use Rattle.ext_plan_reading.specs.LockReading.{lock_at, locks_after}
use Rattle.ext_plan_reading.specs.Faults.{Fails}
use Rattle.ext_plan_reading.specs.KeyReading.{key_at, keys_after}
use Rattle.ext_plan_reading.specs.CallbackReading.{callbacks_after}
use Rattle.ext_plan_reading.specs.Depths.{least_test_depth}
use Rattle.ext_plan_reading.specs.NodeReading.{Sketch, sketch_at, sketches_after, ids_of, outlines_of, has_children, node_at, nodes_after}
use Rattle.ext_plan_reading.specs.StepReading.{step_at, steps_after, steps_at}

-- what fails a part fails the whole
pub Fails-whole : {A B : Type 0} (e : PlanFault) (part : Result A PlanFault) (whole : Result B PlanFault) → (part ≡ Err e → whole ≡ Err e) → Fails e part → Fails e whole
Fails-whole faults.Memory part whole f h = tt
Fails-whole faults.NotUtf8 part whole f h = f h
Fails-whole faults.NotToml part whole f h = f h
Fails-whole (faults.UnknownField at) part whole f h = f h
Fails-whole (faults.BadField at) part whole f h = f h
Fails-whole (faults.BadLabel key) part whole f h = f h
Fails-whole (faults.BadId node) part whole f h = f h
Fails-whole faults.BadTree part whole f h = f h
Fails-whole (faults.BadStep node) part whole f h = f h
Fails-whole (faults.BadLock node) part whole f h = f h
Fails-whole (faults.BadTest node) part whole f h = f h
Fails-whole faults.TooMany part whole f h = f h

-- ---- keys

pub keys_go : (before : List KeyText) (x : Members) (more : List Members) (key : KeyText) → key_at (length before) (labels_of before) x ≡ Ok key → keys_after before (x ∷ more) ≡ keys_after (before ++ key ∷ []) more
unfolding keys_after
keys_go before x more key e = rw e refl

pub keys_stop : (before : List KeyText) (x : Members) (more : List Members) (fault : PlanFault) → key_at (length before) (labels_of before) x ≡ Err fault → keys_after before (x ∷ more) ≡ Err fault
unfolding keys_after
keys_stop before x more fault e = rw e refl

pub keys_end : (before : List KeyText) → keys_after before [] ≡ Ok before
unfolding keys_after
keys_end before = refl

-- ---- nodes before their steps are read

pub sketches_go : (before : List Sketch) (x : Members) (more : List Members) (sketch : Sketch) → sketch_at (length before) x ≡ Ok sketch → sketches_after before (x ∷ more) ≡ sketches_after (before ++ sketch ∷ []) more
unfolding sketches_after
sketches_go before x more sketch e = rw e refl

pub sketches_stop : (before : List Sketch) (x : Members) (more : List Members) (fault : PlanFault) → sketch_at (length before) x ≡ Err fault → sketches_after before (x ∷ more) ≡ Err fault
unfolding sketches_after
sketches_stop before x more fault e = rw e refl

pub sketches_end : (before : List Sketch) → sketches_after before [] ≡ Ok before
unfolding sketches_after
sketches_end before = refl

-- ---- steps

pub steps_go : (labels : List (List ℕ)) (depth node : ℕ) (before : List StepText) (x : List ℕ) (more : List (List ℕ)) (step : StepText) → step_at labels depth node x ≡ Ok step → steps_after labels depth node before (x ∷ more) ≡ steps_after labels depth node (before ++ step ∷ []) more
unfolding steps_after
steps_go labels depth node before x more step e = rw e refl

pub steps_stop : (labels : List (List ℕ)) (depth node : ℕ) (before : List StepText) (x : List ℕ) (more : List (List ℕ)) (fault : PlanFault) → step_at labels depth node x ≡ Err fault → steps_after labels depth node before (x ∷ more) ≡ Err fault
unfolding steps_after
steps_stop labels depth node before x more fault e = rw e refl

pub steps_end : (labels : List (List ℕ)) (depth node : ℕ) (before : List StepText) → steps_after labels depth node before [] ≡ Ok before
unfolding steps_after
steps_end labels depth node before = refl

-- ---- locks

pub locks_go : (node : ℕ) (before : List LockText) (x : List ℕ) (more : List (List ℕ)) (lock : LockText) → lock_at node x ≡ Ok lock → locks_after node before (x ∷ more) ≡ locks_after node (before ++ lock ∷ []) more
unfolding locks_after
locks_go node before x more lock e = rw e refl

pub locks_stop : (node : ℕ) (before : List LockText) (x : List ℕ) (more : List (List ℕ)) (fault : PlanFault) → lock_at node x ≡ Err fault → locks_after node before (x ∷ more) ≡ Err fault
unfolding locks_after
locks_stop node before x more fault e = rw e refl

pub locks_end : (node : ℕ) (before : List LockText) → locks_after node before [] ≡ Ok before
unfolding locks_after
locks_end node before = refl

-- ---- callbacks

pub callbacks_go : (labels : List (List ℕ)) (depth node : ℕ) (before : List (List StepText)) (x : List (List ℕ)) (more : List (List (List ℕ))) (steps : List StepText) → steps_at labels depth node x ≡ Ok steps → callbacks_after labels depth node before (x ∷ more) ≡ callbacks_after labels depth node (before ++ steps ∷ []) more
unfolding callbacks_after
callbacks_go labels depth node before x more steps e = rw e refl

pub callbacks_stop : (labels : List (List ℕ)) (depth node : ℕ) (before : List (List StepText)) (x : List (List ℕ)) (more : List (List (List ℕ))) (fault : PlanFault) → steps_at labels depth node x ≡ Err fault → callbacks_after labels depth node before (x ∷ more) ≡ Err fault
unfolding callbacks_after
callbacks_stop labels depth node before x more fault e = rw e refl

pub callbacks_end : (labels : List (List ℕ)) (depth node : ℕ) (before : List (List StepText)) → callbacks_after labels depth node before [] ≡ Ok before
unfolding callbacks_after
callbacks_end labels depth node before = refl

-- ---- nodes with their steps

-- the node of a sketch, which stands behind those before it
abbrev pub node_in : List (List ℕ) → List Sketch → List NodeText → Sketch → Result NodeText PlanFault
node_in labels all before x = node_at labels (has_children (ids_of all) (length before)) (least_test_depth (outlines_of all) x.id) x

pub nodes_go : (labels : List (List ℕ)) (all : List Sketch) (before : List NodeText) (x : Sketch) (more : List Sketch) (node : NodeText) → node_in labels all before x ≡ Ok node → nodes_after labels all before (x ∷ more) ≡ nodes_after labels all (before ++ node ∷ []) more
unfolding nodes_after
nodes_go labels all before x more node e = rw e refl

pub nodes_stop : (labels : List (List ℕ)) (all : List Sketch) (before : List NodeText) (x : Sketch) (more : List Sketch) (fault : PlanFault) → node_in labels all before x ≡ Err fault → nodes_after labels all before (x ∷ more) ≡ Err fault
unfolding nodes_after
nodes_stop labels all before x more fault e = rw e refl

pub nodes_end : (labels : List (List ℕ)) (all : List Sketch) (before : List NodeText) → nodes_after labels all before [] ≡ Ok before
unfolding nodes_after
nodes_end labels all before = refl

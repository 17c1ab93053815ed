-- Reading a text never gives the fault `NotUtf8`: each part has other faults.
use Rattle.std.proofs.Common.{◌≢◌, ℕ, Bool, true, false, ◌&&◌, ◌||◌, not, List, [], ◌∷◌, ◌++◌, length, Option, Some, None, option_map, codes, Result, Ok, Err, refl}
use Rattle.std.specs.Prelude.{is_some, nat_lt, nat_le}
use Rattle.toml.specs.Data.{Data, Members, get_member, as_bool, as_str, as_table}
use Rattle.ext_ids.specs.declared.fault.IdFault.{IdFault}
use Rattle.ext_ids.specs.Grammar.{Pair}
use Rattle.ext_ids.specs.Reading.{read_id}
use Rattle.ext_model.specs.Sizes.{most_contexts}
use Rattle.ext_model.specs.declared.size.Size.{Size}
use Rattle.ext_tree.specs.Decided.{is_tree}
use Rattle.ext_plan.specs.declared.plan.Plan.{Plan}
use Rattle.ext_plan.specs.Plans.{KeyText, LockText, StepText, NodeText, plan_view}
use Rattle.ext_plan.specs.LockNames.{lock_names, lock_limit}
use Rattle.ext_plan.specs.StoreKeys.{different_keys}
use Rattle.ext_plan.specs.Labels.{labels_of, is_label, is_word}
use Rattle.ext_plan.specs.Steps.{height, step_limit, callback_limit}
use Rattle.ext_plan_reading.specs.declared.fault.PlanFault.{PlanFault}
use Rattle.ext_plan_reading.specs.declared.fault.PlanFault.TheVariants as faults
use Rattle.ext_plan_reading.specs.declared.fault.PlanPart.TheVariants as plan_parts
use Rattle.ext_plan_reading.specs.Faults.{some_or, check, Gives, ◌>>=◌}
use Rattle.ext_plan_reading.specs.Fields.{has_only, text_at, texts_in, array_of, places_in, repeats_in, field_or, optional}
use Rattle.ext_plan_reading.specs.CallbackReading.{CallbackTexts, callback_texts_at, callbacks_after, callbacks_at, node_callbacks_at}
use Rattle.ext_plan_reading.specs.Depths.{least_test_depth}
use Rattle.ext_plan_reading.specs.ModeReading.{mode_at, mode_of}
use Rattle.ext_lifecycle.specs.declared.mode.Mode.TheVariants as modes
use Rattle.ext_plan_reading.specs.LockReading.{lock_at, lock_of, locks_after, locks_at}
use Rattle.ext_plan_reading.specs.KeyReading.{key_fields, has_parts, key_at, keys_after}
use Rattle.ext_plan_reading.specs.NodeReading.{Sketch, node_fields, id_or, sketch_at, sketches_after, ids_of, outlines_of, has_children, is_bad_test, test_at, node_at, nodes_after, with_repetitions, nodes_of_tables}
use Rattle.ext_plan_reading.specs.StepReading.{step_of, step_at, steps_after, steps_at}
use Rattle.ext_plan_reading.specs.Reading.{top_fields, plan_of, plan_of_tables}

-- the reading has another end than the fault `NotUtf8`
abbrev IsOther : {A : Type 0} → Result A PlanFault → Type 0
IsOther read = read ≢ Err faults.NotUtf8

value : {A : Type 0} (x : A) → IsOther (Ok x)
value x h = absurd cc

then_other : {A B : Type 0} (first : Result A PlanFault) (next : A → Result B PlanFault) → IsOther first → ((x : A) → IsOther (next x)) → IsOther (first >>= next)
then_other (Ok x) next a b h = b x h
then_other (Err faults.NotUtf8) next a b h = a refl
then_other (Err faults.NotToml) next a b h = absurd cc
then_other (Err (faults.UnknownField part)) next a b h = absurd cc
then_other (Err (faults.BadField part)) next a b h = absurd cc
then_other (Err (faults.BadLabel key)) next a b h = absurd cc
then_other (Err (faults.BadId node)) next a b h = absurd cc
then_other (Err faults.BadTree) next a b h = absurd cc
then_other (Err (faults.BadStep node)) next a b h = absurd cc
then_other (Err (faults.BadLock node)) next a b h = absurd cc
then_other (Err (faults.BadTest node)) next a b h = absurd cc
then_other (Err faults.TooMany) next a b h = absurd cc
then_other (Err faults.Memory) next a b h = absurd cc

-- a fault is another, whatever was read
same_other : {A B : Type 0} (e : PlanFault) → IsOther {A = A} (Err e) → IsOther {A = B} (Err e)
same_other faults.NotUtf8 other h = other refl
same_other faults.NotToml other h = absurd cc
same_other (faults.UnknownField part) other h = absurd cc
same_other (faults.BadField part) other h = absurd cc
same_other (faults.BadLabel key) other h = absurd cc
same_other (faults.BadId node) other h = absurd cc
same_other faults.BadTree other h = absurd cc
same_other (faults.BadStep node) other h = absurd cc
same_other (faults.BadLock node) other h = absurd cc
same_other (faults.BadTest node) other h = absurd cc
same_other faults.TooMany other h = absurd cc
same_other faults.Memory other h = absurd cc

or_fault : {A : Type 0} (e : PlanFault) (o : Option A) → IsOther {A = A} (Err e) → IsOther (some_or e o)
or_fault e (Some x) other h = absurd cc
or_fault e None other h = other h

checked : (e : PlanFault) (b : Bool) → IsOther {A = Unit {0}} (Err e) → IsOther (check e b)
checked e true other h = absurd cc
checked e false other h = other h

-- ---- fields that may be left out

field_other : {A : Type 0} (default : A) (held : Data → Option A) (e : PlanFault) (found : Option Data) → IsOther {A = ℕ} (Err e) → IsOther (field_or default held e found)
field_other default held e None other = value default
field_other default held e (Some found) other = or_fault e (held found) (same_other e other)

optional_other : {A : Type 0} (held : Data → Option A) (e : PlanFault) (found : Option Data) → IsOther {A = ℕ} (Err e) → IsOther (optional held e found)
optional_other held e found other = field_other None (λ value. option_map Some (held value)) e found other

-- ---- keys

key_other : (number : ℕ) (labels : List (List ℕ)) (fields : Members) → IsOther (key_at number labels fields)
unfolding key_at
key_other number labels fields =
    then_other (check (faults.UnknownField (plan_parts.Key number)) (has_only key_fields fields)) _ (checked _ _ (λ h. absurd cc)) (λ _.
    then_other (some_or (faults.BadField (plan_parts.Key number)) (text_at (codes "label") fields)) _ (or_fault _ _ (λ h. absurd cc)) (λ label.
    then_other (optional as_str (faults.BadField (plan_parts.Key number)) (get_member (codes "name") fields)) _ (optional_other as_str (faults.BadField (plan_parts.Key number)) (get_member (codes "name") fields) (λ h. absurd cc)) (λ name.
    then_other (optional texts_in (faults.BadField (plan_parts.Key number)) (get_member (codes "namespace") fields)) _ (optional_other texts_in (faults.BadField (plan_parts.Key number)) (get_member (codes "namespace") fields) (λ h. absurd cc)) (λ namespace.
    then_other (check (faults.BadLabel number) (is_word label && has_parts namespace && not (is_label labels label))) _ (checked _ _ (λ h. absurd cc)) (λ _. value _)))))

keys_other : (before : List KeyText) (tables : List Members) → IsOther (keys_after before tables)
unfolding keys_after
keys_other before [] = value before
keys_other before (fields ∷ more) = then_other (key_at (length before) (labels_of before) fields) _ (key_other _ _ fields) (λ key. keys_other (before ++ key ∷ []) more)

-- ---- nodes

id_other : (node : ℕ) (read : Result (List Pair) IdFault) → IsOther (id_or (faults.BadId node) read)
id_other node (Ok id) h = absurd cc
id_other node (Err e) h = absurd cc

callback_texts_other : (node : ℕ) (fields : Members) → IsOther (callback_texts_at node fields)
unfolding callback_texts_at
callback_texts_other node fields =
    then_other (optional (array_of texts_in) (faults.BadField (plan_parts.Node node)) (get_member (codes "before_all") fields)) _ (optional_other (array_of texts_in) (faults.BadField (plan_parts.Node node)) (get_member (codes "before_all") fields) (λ h. absurd cc)) (λ before_all.
    then_other (optional (array_of texts_in) (faults.BadField (plan_parts.Node node)) (get_member (codes "after_all") fields)) _ (optional_other (array_of texts_in) (faults.BadField (plan_parts.Node node)) (get_member (codes "after_all") fields) (λ h. absurd cc)) (λ after_all.
    then_other (optional (array_of texts_in) (faults.BadField (plan_parts.Node node)) (get_member (codes "before_each") fields)) _ (optional_other (array_of texts_in) (faults.BadField (plan_parts.Node node)) (get_member (codes "before_each") fields) (λ h. absurd cc)) (λ before_each.
    then_other (optional (array_of texts_in) (faults.BadField (plan_parts.Node node)) (get_member (codes "after_each") fields)) _ (optional_other (array_of texts_in) (faults.BadField (plan_parts.Node node)) (get_member (codes "after_each") fields) (λ h. absurd cc)) (λ after_each. value _))))

sketch_other : (node : ℕ) (fields : Members) → IsOther (sketch_at node fields)
unfolding sketch_at
sketch_other node fields =
    then_other (check (faults.UnknownField (plan_parts.Node node)) (has_only node_fields fields)) _ (checked _ _ (λ h. absurd cc)) (λ _.
    then_other (some_or (faults.BadField (plan_parts.Node node)) (text_at (codes "id") fields)) _ (or_fault _ _ (λ h. absurd cc)) (λ text.
    then_other (optional as_str (faults.BadField (plan_parts.Node node)) (get_member (codes "mode") fields)) _ (optional_other as_str (faults.BadField (plan_parts.Node node)) (get_member (codes "mode") fields) (λ h. absurd cc)) (λ mode.
    then_other (field_or false as_bool (faults.BadField (plan_parts.Node node)) (get_member (codes "isolated") fields)) _ (field_other false as_bool (faults.BadField (plan_parts.Node node)) (get_member (codes "isolated") fields) (λ h. absurd cc)) (λ isolated.
    then_other (optional texts_in (faults.BadField (plan_parts.Node node)) (get_member (codes "locks") fields)) _ (optional_other texts_in (faults.BadField (plan_parts.Node node)) (get_member (codes "locks") fields) (λ h. absurd cc)) (λ locks.
    then_other (callback_texts_at node fields) _ (callback_texts_other node fields) (λ callbacks.
    then_other (optional texts_in (faults.BadField (plan_parts.Node node)) (get_member (codes "test") fields)) _ (optional_other texts_in (faults.BadField (plan_parts.Node node)) (get_member (codes "test") fields) (λ h. absurd cc)) (λ test.
    then_other (optional repeats_in (faults.BadField (plan_parts.Node node)) (get_member (codes "repeat") fields)) _ (optional_other repeats_in (faults.BadField (plan_parts.Node node)) (get_member (codes "repeat") fields) (λ h. absurd cc)) (λ repeat.
    then_other (check (faults.BadField (plan_parts.Node node)) (not (is_some repeat && not (is_some test)))) _ (checked _ _ (λ h. absurd cc)) (λ _.
    then_other (id_or (faults.BadId node) (read_id text)) _ (id_other node (read_id text)) (λ id.
    then_other (check (faults.BadId node) (not (is_some repeat && nat_le 16 (length id)))) _ (checked _ _ (λ h. absurd cc)) (λ _. value _)))))))))))

sketches_other : (before : List Sketch) (tables : List Members) → IsOther (sketches_after before tables)
unfolding sketches_after
sketches_other before [] = value before
sketches_other before (fields ∷ more) = then_other (sketch_at (length before) fields) _ (sketch_other _ fields) (λ sketch. sketches_other (before ++ sketch ∷ []) more)

step_other : (labels : List (List ℕ)) (depth node : ℕ) (text : List ℕ) → IsOther (step_at labels depth node text)
unfolding step_at
step_other labels depth node text =
    then_other (some_or (faults.BadStep node) (step_of labels text)) _ (or_fault _ _ (λ h. absurd cc)) (λ step.
    then_other (check (faults.BadStep node) (nat_lt (height step) depth)) _ (checked _ _ (λ h. absurd cc)) (λ _. value _))

steps_other : (labels : List (List ℕ)) (depth node : ℕ) (before : List StepText) (texts : List (List ℕ)) → IsOther (steps_after labels depth node before texts)
unfolding steps_after
steps_other labels depth node before [] = value before
steps_other labels depth node before (text ∷ more) = then_other (step_at labels depth node text) _ (step_other labels depth node text) (λ step. steps_other labels depth node (before ++ step ∷ []) more)

short_other : (labels : List (List ℕ)) (depth node : ℕ) (texts : List (List ℕ)) → IsOther (steps_at labels depth node texts)
unfolding steps_at
short_other labels depth node texts =
    then_other (check (faults.BadStep node) (nat_le (length texts) step_limit)) _ (checked _ _ (λ h. absurd cc)) (λ _. steps_other labels depth node [] texts)

test_other : (labels : List (List ℕ)) (depth node : ℕ) (texts : Option (List (List ℕ))) → IsOther (test_at labels depth node texts)
unfolding test_at
test_other labels depth node None = value None
test_other labels depth node (Some texts) = then_other (steps_at labels depth node texts) _ (short_other labels depth node texts) (λ steps. value _)

locks_other : (node : ℕ) (before : List LockText) (texts : List (List ℕ)) → IsOther (locks_after node before texts)
unfolding locks_after lock_at
locks_other node before [] = value before
locks_other node before (text ∷ more) = then_other (some_or (faults.BadLock node) (lock_of text)) _ (or_fault _ _ (λ h. absurd cc)) (λ lock. locks_other node (before ++ lock ∷ []) more)

all_locks_other : (node : ℕ) (texts : Option (List (List ℕ))) → IsOther (locks_at node texts)
unfolding locks_at
all_locks_other node None = value []
all_locks_other node (Some texts) = locks_other node [] texts

mode_other : (node : ℕ) (text : Option (List ℕ)) → IsOther (mode_at node text)
mode_other node None = value modes.SameThread
mode_other node (Some text) = or_fault _ (mode_of text) (λ h. absurd cc)

callbacks_other : (labels : List (List ℕ)) (depth node : ℕ) (before : List (List StepText)) (lists : List (List (List ℕ))) → IsOther (callbacks_after labels depth node before lists)
unfolding callbacks_after
callbacks_other labels depth node before [] = value before
callbacks_other labels depth node before (texts ∷ more) = then_other (steps_at labels depth node texts) _ (short_other labels depth node texts) (λ steps. callbacks_other labels depth node (before ++ steps ∷ []) more)

few_other : (labels : List (List ℕ)) (depth node : ℕ) (lists : Option (List (List (List ℕ)))) → IsOther (callbacks_at labels depth node lists)
unfolding callbacks_at
few_other labels depth node None = value []
few_other labels depth node (Some lists) =
    then_other (check (faults.BadStep node) (nat_le (length lists) callback_limit)) _ (checked _ _ (λ h. absurd cc)) (λ _. callbacks_other labels depth node [] lists)

all_callbacks_other : (labels : List (List ℕ)) (own least node : ℕ) (texts : CallbackTexts) → IsOther (node_callbacks_at labels own least node texts)
unfolding node_callbacks_at
all_callbacks_other labels own least node texts =
    then_other (callbacks_at labels own node texts.before_all) _ (few_other labels own node texts.before_all) (λ before_all.
    then_other (callbacks_at labels own node texts.after_all) _ (few_other labels own node texts.after_all) (λ after_all.
    then_other (callbacks_at labels least node texts.before_each) _ (few_other labels least node texts.before_each) (λ before_each.
    then_other (callbacks_at labels least node texts.after_each) _ (few_other labels least node texts.after_each) (λ after_each. value _))))

node_other : (labels : List (List ℕ)) (parent : Bool) (least : ℕ) (sketch : Sketch) → IsOther (node_at labels parent least sketch)
unfolding node_at
node_other labels parent least sketch =
    let node = sketch.table in
    then_other (check (faults.BadTest node) (not (is_bad_test parent sketch))) _ (checked _ _ (λ h. absurd cc)) (λ _.
    then_other (mode_at node sketch.mode) _ (mode_other node sketch.mode) (λ mode.
    then_other (locks_at node sketch.locks) _ (all_locks_other node sketch.locks) (λ locks.
    then_other (node_callbacks_at labels (length sketch.id) least node sketch.callbacks) _ (all_callbacks_other labels (length sketch.id) least node sketch.callbacks) (λ callbacks.
    then_other (test_at labels (length sketch.id) node sketch.test) _ (test_other labels (length sketch.id) node sketch.test) (λ test. value _)))))

nodes_other : (labels : List (List ℕ)) (all : List Sketch) (before : List NodeText) (sketches : List Sketch) → IsOther (nodes_after labels all before sketches)
unfolding nodes_after
nodes_other labels all before [] = value before
nodes_other labels all before (sketch ∷ more) =
    then_other (node_at labels (has_children (ids_of all) (length before)) (least_test_depth (outlines_of all) sketch.id) sketch) _ (node_other labels _ _ sketch) (λ node. nodes_other labels all (before ++ node ∷ []) more)

all_nodes_other : (size : Size) (labels : List (List ℕ)) (tables : List Members) → IsOther (nodes_of_tables size labels tables)
unfolding nodes_of_tables
all_nodes_other size labels tables =
    then_other (sketches_after [] tables) _ (sketches_other [] tables) (λ sketches.
    then_other (check faults.BadTree (is_tree (most_contexts size) (ids_of (with_repetitions sketches)))) _ (checked _ _ (λ h. absurd cc)) (λ _. nodes_other _ _ [] (with_repetitions sketches)))

-- ---- plans

plan_other : (size : Size) (top : Members) → IsOther (plan_of size top)
unfolding plan_of plan_of_tables
plan_other size top =
    then_other (check (faults.UnknownField plan_parts.Whole) (has_only top_fields top)) _ (checked _ _ (λ h. absurd cc)) (λ _.
    then_other (field_or false as_bool (faults.BadField plan_parts.Whole) (get_member (codes "keep_faults") top)) _ (field_other false as_bool (faults.BadField plan_parts.Whole) (get_member (codes "keep_faults") top) (λ h. absurd cc)) (λ keep_faults.
    then_other (field_or 64 places_in (faults.BadField plan_parts.Whole) (get_member (codes "keys") top)) _ (field_other 64 places_in (faults.BadField plan_parts.Whole) (get_member (codes "keys") top) (λ h. absurd cc)) (λ key_places.
    then_other (field_or [] (array_of as_table) (faults.BadField plan_parts.Whole) (get_member (codes "key") top)) _ (field_other [] (array_of as_table) (faults.BadField plan_parts.Whole) (get_member (codes "key") top) (λ h. absurd cc)) (λ key_tables.
    then_other (field_or [] (array_of as_table) (faults.BadField plan_parts.Whole) (get_member (codes "node") top)) _ (field_other [] (array_of as_table) (faults.BadField plan_parts.Whole) (get_member (codes "node") top) (λ h. absurd cc)) (λ node_tables.
    then_other (keys_after [] key_tables) _ (keys_other [] key_tables) (λ keys.
    then_other (nodes_of_tables size (labels_of keys) node_tables) _ (all_nodes_other size _ node_tables) (λ nodes.
    then_other (check faults.TooMany (nat_le (length (different_keys keys)) key_places)) _ (checked _ _ (λ h. absurd cc)) (λ _.
    then_other (check faults.TooMany (nat_le (length (lock_names nodes)) lock_limit)) _ (checked _ _ (λ h. absurd cc)) (λ _. value _)))))))))

-- what gives the plan of a document doesn't answer `NotUtf8`
pub never_not_utf8 : (size : Size) (read : Result Plan PlanFault) (top : Members) → Gives plan_view read (plan_of size top) → read ≢ Err faults.NotUtf8
never_not_utf8 size (Ok p) top given h = absurd cc
never_not_utf8 size (Err faults.NotUtf8) top given h = plan_other size top given
never_not_utf8 size (Err faults.NotToml) top given h = absurd cc
never_not_utf8 size (Err (faults.UnknownField part)) top given h = absurd cc
never_not_utf8 size (Err (faults.BadField part)) top given h = absurd cc
never_not_utf8 size (Err (faults.BadLabel key)) top given h = absurd cc
never_not_utf8 size (Err (faults.BadId node)) top given h = absurd cc
never_not_utf8 size (Err faults.BadTree) top given h = absurd cc
never_not_utf8 size (Err (faults.BadStep node)) top given h = absurd cc
never_not_utf8 size (Err (faults.BadLock node)) top given h = absurd cc
never_not_utf8 size (Err (faults.BadTest node)) top given h = absurd cc
never_not_utf8 size (Err faults.TooMany) top given h = absurd cc
never_not_utf8 size (Err faults.Memory) top given h = absurd cc

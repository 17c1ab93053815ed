-- All faults of a text: what a reading tells, how the lists go on, and that they begin as reading up to the first fault.
use Rattle.std.proofs.Common.{◌≡◌, ◌≢◌, ℕ, ◌+◌, ◌<◌, Bool, false, ◌&&◌, not, if◌then◌else◌, List, [], ◌∷◌, ◌++◌, length, Option, Some, None, Result, Ok, Err, codes, refl, ap, sym, subst, ◌∙◌, append_assoc, append-nil}
use Rattle.std.specs.Prelude.{◌==◌, unwrap_or}
use Rattle.std.specs.Result.{result_err}
use Rattle.std.proofs.lemmas.Bool.{and_parts, not-true}
use Rattle.std.proofs.lemmas.List.{length_push}
use Rattle.toml.specs.Data.{Members, get_member, as_bool, as_str, as_table}
use Rattle.toml.specs.Parse.{parse_document}
use Rattle.ext_model.specs.Sizes.{most_contexts}
use Rattle.ext_model.specs.declared.size.Size.{Size}
use Rattle.ext_tree.specs.Decided.{is_tree}
use Rattle.ext_tree.specs.Trees.{children_of, Id}
use Rattle.ext_plan.specs.Labels.{labels_of, is_label, is_word}
use Rattle.ext_plan.specs.Plans.{KeyText, NodeText}
use Rattle.ext_plan.proofs.Lists.{map-push}
use Rattle.ext_plan_reading.specs.declared.fault.PlanFault.{PlanFault}
use Rattle.ext_plan_reading.specs.declared.fault.PlanFault.TheVariants as faults
use Rattle.ext_plan_reading.specs.declared.fault.PlanPart.TheVariants as plan_parts
use Rattle.ext_plan_reading.specs.AllFaults.{BeginAs, fault_of, faults_behind, or_else, with_label, key_faults, sketch_faults, new_fault, noted_after, node_fault, node_faults, faults_of_nodes, faults_behind_tables, faults_of_tables, faults_of, faults_of_text}
use Rattle.ext_plan_reading.specs.Depths.{least_test_depth}
use Rattle.ext_plan_reading.specs.Faults.{some_or, check, Fails, Gives, ◌>>=◌}
use Rattle.ext_plan_reading.specs.Fields.{has_only, text_at, texts_in, array_of, places_in, field_or, optional}
use Rattle.ext_plan_reading.specs.KeyReading.{key_fields, has_parts, key_at, keys_after}
use Rattle.ext_plan_reading.specs.NodeReading.{Sketch, sketch_at, sketches_after, with_repetitions, ids_of, outlines_of, has_children, node_at, nodes_after, nodes_of_tables}
use Rattle.ext_plan_reading.specs.Reading.{top_fields, plan_of, plan_of_tables, plan_of_text}
use Rattle.ext_plan_reading.specs.TopReading.{TopFields, top_at}
use Rattle.ext_plan_reading.proofs.Gave.{ok_value, both_gave, passed, was_some}
use Rattle.ext_plan_reading.proofs.Repetitions.{too_many_nodes}

-- ---- what was read

-- a fault other than that of memory is that of reading
pub failed : {Y : Type 0} (e : PlanFault) (read : Result Y PlanFault) → Some e ≢ Some faults.Memory → Fails e read → read ≡ Err e
failed faults.Memory read other h = absurd (other refl)
failed faults.NotUtf8 read other h = h
failed faults.NotToml read other h = h
failed (faults.UnknownField part) read other h = h
failed (faults.BadField part) read other h = h
failed (faults.BadLabel key) read other h = h
failed (faults.BadId node) read other h = h
failed faults.BadTree read other h = h
failed (faults.BadStep node) read other h = h
failed (faults.BadLock node) read other h = h
failed (faults.BadTest node) read other h = h
failed faults.TooMany read other h = h

pub same_fault : {X Y : Type 0} (view : X → Y) (given : Result X PlanFault) (read : Result Y PlanFault) → Gives view given read → result_err given ≢ Some faults.Memory → result_err given ≡ result_err read
same_fault view (Ok x) read h other = sym (ap result_err h)
same_fault view (Err e) read h other = sym (ap result_err (failed e read other h))

pub read_fault : {X Y : Type 0} (view : X → Y) (given : Result X PlanFault) (read : Result Y PlanFault) (found : Option PlanFault) → Gives view given read → found ≡ result_err given → found ≢ Some faults.Memory → found ≡ result_err read
read_fault view given read found h is other = is ∙ same_fault view given read h (λ e. other (is ∙ e))

-- a reading that failed has its fault alone, and one that gave something the faults of that
pub ends : {A : Type 0} (e : PlanFault) (read : Result A PlanFault) (more : A → List PlanFault) → Some e ≢ Some faults.Memory → Fails e read → faults_behind read more ≡ e ∷ []
ends e read more other h = ap (λ r. faults_behind r more) (failed e read other h)

pub goes_on : {A : Type 0} (x : A) (read : Result A PlanFault) (more : A → List PlanFault) → read ≡ Ok x → faults_behind read more ≡ more x
goes_on x read more h = ap (λ r. faults_behind r more) h

-- more nodes than a plan may have are no tree
pub too_many : (size : Size) (labels : List (List ℕ)) (all : List Sketch) (fault : PlanFault) → (fault ≢ faults.Memory → (fault ≡ faults.BadTree) × (most_contexts size < length all)) → Some fault ≢ Some faults.Memory
    → faults_of_nodes size labels all ≡ fault ∷ []
unfolding faults_of_nodes
too_many size labels all fault refused other =
    let why = refused (λ e. other (ap Some e)) in
    ap (λ r. faults_behind r (λ _. node_faults labels all None 0 all)) (too_many_nodes size all why.1) ∙ ap (λ e. e ∷ []) (sym why.0)

-- ---- stages

-- ---- labels

new_label : (labels : List (List ℕ)) (found : Option (List ℕ)) (label : List ℕ) → found ≡ Some label → is_label labels label ≡ false → with_label labels found ≡ labels ++ label ∷ []
new_label labels found label is fresh = ap (with_label labels) is ∙ ap (λ b. if b then labels else labels ++ label ∷ []) fresh

-- a key that was read has its label from its table, and no key before it has the same
pub label_was : (number : ℕ) (labels : List (List ℕ)) (fields : Members) (key : KeyText) → key_at number labels fields ≡ Ok key → with_label labels (text_at (codes "label") fields) ≡ labels ++ key.label ∷ []
unfolding key_at
label_was number labels fields key h =
    let fault = faults.BadField (plan_parts.Key number) in
    let known = both_gave (check (faults.UnknownField (plan_parts.Key number)) (has_only key_fields fields)) _ _ h in
    let label = both_gave (some_or fault (text_at (codes "label") fields)) _ _ known.2 in
    let name = both_gave (optional as_str fault (get_member (codes "name") fields)) _ _ label.2 in
    let namespace = both_gave (optional texts_in fault (get_member (codes "namespace") fields)) _ _ name.2 in
    let good = both_gave (check (faults.BadLabel number) (is_word label.0 && has_parts namespace.0 && not (is_label labels label.0))) _ _ namespace.2 in
    let all = and_parts (is_word label.0 && has_parts namespace.0) (not (is_label labels label.0)) (passed _ (is_word label.0 && has_parts namespace.0 && not (is_label labels label.0)) good.0 good.1) in
    rw (← ok_value (record { label = label.0; name = unwrap_or name.0 label.0; namespace = namespace.0 }) key _ refl good.2)
    (new_label labels (text_at (codes "label") fields) label.0 (was_some fault (text_at (codes "label") fields) label.0 label.1) (not-true _ all.1))

-- ---- one table or node after another

pub one_key : (number : ℕ) (labels : List (List ℕ)) (fields : Members) (more : List Members) → key_faults number labels (fields ∷ more) ≡ fault_of (key_at number labels fields) ++ key_faults (number + 1) (with_label labels (text_at (codes "label") fields)) more
unfolding key_faults
one_key number labels fields more = refl

pub no_key : (number : ℕ) (labels : List (List ℕ)) → key_faults number labels [] ≡ []
unfolding key_faults
no_key number labels = refl

pub one_sketch : (number : ℕ) (fields : Members) (more : List Members) → sketch_faults number (fields ∷ more) ≡ fault_of (sketch_at number fields) ++ sketch_faults (number + 1) more
unfolding sketch_faults
one_sketch number fields more = refl

pub no_sketch : (number : ℕ) → sketch_faults number [] ≡ []
unfolding sketch_faults
no_sketch number = refl

pub one_node : (labels : List (List ℕ)) (all : List Sketch) (noted : Option ℕ) (number : ℕ) (sketch : Sketch) (more : List Sketch) → node_faults labels all noted number (sketch ∷ more) ≡ new_fault noted sketch.table (node_fault labels all number sketch) ++ node_faults labels all (noted_after noted sketch.table (node_fault labels all number sketch)) (number + 1) more
unfolding node_faults
one_node labels all noted number sketch more = refl

pub no_node : (labels : List (List ℕ)) (all : List Sketch) (noted : Option ℕ) (number : ℕ) → node_faults labels all noted number [] ≡ []
unfolding node_faults
no_node labels all noted number = refl

-- the faults so far, with those that are left, are all of them; and so they are one turn later
pub key_turn : (so_far now all : List PlanFault) (number : ℕ) (labels next : List (List ℕ)) (fields : Members) (more : List Members) → so_far ++ key_faults number labels (fields ∷ more) ≡ all
    → now ≡ so_far ++ fault_of (key_at number labels fields) → next ≡ with_label labels (text_at (codes "label") fields) → now ++ key_faults (number + 1) next more ≡ all
key_turn so_far now all number labels next fields more h added same =
    let fault = fault_of (key_at number labels fields) in
    ap (λ l. l ++ key_faults (number + 1) next more) added ∙ append_assoc so_far fault (key_faults (number + 1) next more)
    ∙ ap (λ ls. so_far ++ (fault ++ key_faults (number + 1) ls more)) same ∙ ap (λ l. so_far ++ l) (sym (one_key number labels fields more)) ∙ h

pub sketch_turn : (so_far now all : List PlanFault) (number : ℕ) (fields : Members) (more : List Members) → so_far ++ sketch_faults number (fields ∷ more) ≡ all
    → now ≡ so_far ++ fault_of (sketch_at number fields) → now ++ sketch_faults (number + 1) more ≡ all
sketch_turn so_far now all number fields more h added =
    let fault = fault_of (sketch_at number fields) in
    ap (λ l. l ++ sketch_faults (number + 1) more) added ∙ append_assoc so_far fault (sketch_faults (number + 1) more)
    ∙ ap (λ l. so_far ++ l) (sym (one_sketch number fields more)) ∙ h

pub second_turn : (so_far now found : List PlanFault) (labels : List (List ℕ)) (all : List Sketch) (noted next : Option ℕ) (number : ℕ) (sketch : Sketch) (more : List Sketch) (fault : Option PlanFault)
    → so_far ++ node_faults labels all noted number (sketch ∷ more) ≡ found → fault ≡ node_fault labels all number sketch → now ≡ so_far ++ new_fault noted sketch.table fault → next ≡ noted_after noted sketch.table fault
    → now ++ node_faults labels all next (number + 1) more ≡ found
second_turn so_far now found labels all noted next number sketch more fault h is added last =
    ap (λ l. l ++ node_faults labels all next (number + 1) more) added ∙ append_assoc so_far (new_fault noted sketch.table fault) (node_faults labels all next (number + 1) more)
    ∙ ap (λ t. so_far ++ (new_fault noted sketch.table fault ++ node_faults labels all t (number + 1) more)) last
    ∙ ap (λ f. so_far ++ (new_fault noted sketch.table f ++ node_faults labels all (noted_after noted sketch.table f) (number + 1) more)) is
    ∙ ap (λ l. so_far ++ l) (sym (one_node labels all noted number sketch more)) ∙ h

pub all_keys : (found all : List PlanFault) (number : ℕ) (labels : List (List ℕ)) (left : List Members) → left ≡ [] → found ++ key_faults number labels left ≡ all → found ≡ all
all_keys found all number labels left none h = sym (append-nil found) ∙ ap (λ l. found ++ l) (sym (no_key number labels)) ∙ ap (λ l. found ++ key_faults number labels l) (sym none) ∙ h

pub all_sketches : (found all : List PlanFault) (number : ℕ) (left : List Members) → left ≡ [] → found ++ sketch_faults number left ≡ all → found ≡ all
all_sketches found all number left none h = sym (append-nil found) ∙ ap (λ l. found ++ l) (sym (no_sketch number)) ∙ ap (λ l. found ++ sketch_faults number l) (sym none) ∙ h

pub all_nodes : (found whole : List PlanFault) (labels : List (List ℕ)) (all : List Sketch) (noted : Option ℕ) (number : ℕ) (left : List Sketch) → left ≡ [] → found ++ node_faults labels all noted number left ≡ whole → found ≡ whole
all_nodes found whole labels all noted number left none h = sym (append-nil found) ∙ ap (λ l. found ++ l) (sym (no_node labels all noted number)) ∙ ap (λ l. found ++ node_faults labels all noted number l) (sym none) ∙ h

-- the second pass over the node of this number, by the children that it has in the tree of all
pub at_number : (labels : List (List ℕ)) (ids : List Id) (all : List Sketch) (sketch : Sketch) (number : ℕ) (children : List ℕ) (childless : Bool) (least : ℕ)
    → ids ≡ ids_of all → children ≡ children_of ids number → childless ≡ (length children == 0) → least ≡ least_test_depth (outlines_of all) sketch.id
    → result_err (node_at labels (not childless) least sketch) ≡ node_fault labels all number sketch
at_number labels ids all sketch number children childless least tree listed is depth =
    ap (λ b. result_err (node_at labels b least sketch)) (ap not is ∙ ap (λ list. not (length list == 0)) listed ∙ ap (λ i. has_children i number) tree)
    ∙ ap (λ n. result_err (node_at labels (has_children (ids_of all) number) n sketch)) depth

-- ---- they begin as reading does

turn : {A B : Type 0} (read : Result A PlanFault) (next : A → Result B PlanFault) (rest : List PlanFault) → ((x : A) → read ≡ Ok x → BeginAs (next x) rest) → BeginAs (read >>= next) (fault_of read ++ rest)
turn (Ok x) next rest h = h x refl
turn (Err e) next rest h = (rest, refl)

keys_begin : (before : List KeyText) (tables : List Members) → BeginAs (keys_after before tables) (key_faults (length before) (labels_of before) tables)
unfolding keys_after key_faults
keys_begin before [] = refl
keys_begin before (fields ∷ more) =
    let labels = with_label (labels_of before) (text_at (codes "label") fields) in
    turn (key_at (length before) (labels_of before) fields) (λ key. keys_after (before ++ key ∷ []) more) (key_faults (length before + 1) labels more) (λ key is.
    let same : labels_of (before ++ key ∷ []) ≡ labels = map-push (λ k. k.label) before key ∙ sym (label_was (length before) (labels_of before) fields key is) in
    subst (λ n. BeginAs (keys_after (before ++ key ∷ []) more) (key_faults n labels more)) (length_push before key)
    (subst (λ ls. BeginAs (keys_after (before ++ key ∷ []) more) (key_faults (length (before ++ key ∷ [])) ls more)) same (keys_begin (before ++ key ∷ []) more)))

sketches_begin : (before : List Sketch) (tables : List Members) → BeginAs (sketches_after before tables) (sketch_faults (length before) tables)
unfolding sketches_after sketch_faults
sketches_begin before [] = refl
sketches_begin before (fields ∷ more) =
    turn (sketch_at (length before) fields) (λ sketch. sketches_after (before ++ sketch ∷ []) more) (sketch_faults (length before + 1) more) (λ sketch is.
    subst (λ n. BeginAs (sketches_after (before ++ sketch ∷ []) more) (sketch_faults n more)) (length_push before sketch) (sketches_begin (before ++ sketch ∷ []) more))

node_turn : {B : Type 0} (read : Result NodeText PlanFault) (table : ℕ) (next : NodeText → Result B PlanFault) (rest : Option ℕ → List PlanFault) → ((x : NodeText) → BeginAs (next x) (rest None))
    → BeginAs (read >>= next) (new_fault None table (result_err read) ++ rest (noted_after None table (result_err read)))
node_turn (Ok x) table next rest h = h x
node_turn (Err e) table next rest h = (rest (Some table), refl)

nodes_begin : (labels : List (List ℕ)) (all : List Sketch) (before : List NodeText) (sketches : List Sketch) → BeginAs (nodes_after labels all before sketches) (node_faults labels all None (length before) sketches)
unfolding nodes_after node_faults
nodes_begin labels all before [] = refl
nodes_begin labels all before (sketch ∷ more) =
    node_turn (node_at labels (has_children (ids_of all) (length before)) (least_test_depth (outlines_of all) sketch.id) sketch) sketch.table (λ node. nodes_after labels all (before ++ node ∷ []) more) (λ noted. node_faults labels all noted (length before + 1) more) (λ node.
    subst (λ n. BeginAs (nodes_after labels all (before ++ node ∷ []) more) (node_faults labels all None n more)) (length_push before node) (nodes_begin labels all (before ++ node ∷ []) more))

-- ---- the faults of one stage

-- a stage has no fault, or the first is that of reading
abbrev MayBegin : {A : Type 0} → Result A PlanFault → List PlanFault → Type 0
MayBegin read [] = Unit {0}
MayBegin read (fault ∷ more) = read ≡ Err fault

may : {A : Type 0} (read : Result A PlanFault) (found : List PlanFault) → BeginAs read found → MayBegin read found
may {A = A} (Ok x) found h = subst (λ l. MayBegin {A = A} (Ok x) l) (sym h) tt
may {A = A} (Err e) found h = subst (λ l. MayBegin {A = A} (Err e) l) (sym h.1) refl

-- the first part of a reading, and the whole
may_whole : {A B : Type 0} (read : Result A PlanFault) (next : A → Result B PlanFault) (found : List PlanFault) → MayBegin read found → MayBegin (read >>= next) found
may_whole read next [] h = tt
may_whole read next (fault ∷ more) h = ap (λ r. r >>= next) h

may_both : {A B : Type 0} (read : Result A PlanFault) (next : A → Result B PlanFault) (found more : List PlanFault) → BeginAs read found → ((x : A) → MayBegin (next x) more) → MayBegin (read >>= next) (found ++ more)
may_both (Ok x) next found more h f = subst (λ l. MayBegin (next x) (l ++ more)) (sym h) (f x)
may_both (Err e) next found more h f = subst (λ l. MayBegin (Err e >>= next) (l ++ more)) (sym h.1) refl

may_then : {A B : Type 0} (read : Result A PlanFault) (next : A → Result B PlanFault) (more : A → List PlanFault) → ((x : A) → MayBegin (next x) (more x)) → MayBegin (read >>= next) (faults_behind read more)
may_then (Ok x) next more h = h x
may_then (Err e) next more h = refl

begins_or : {A : Type 0} (read : Result A PlanFault) (found next : List PlanFault) → MayBegin read found → BeginAs read next → BeginAs read (or_else found next)
begins_or read [] next h rest = rest
begins_or read (fault ∷ more) next h rest = subst (λ r. BeginAs r (fault ∷ more)) (sym h) (more, refl)

begins_itself : {A : Type 0} (read : Result A PlanFault) → BeginAs read (fault_of read)
begins_itself (Ok x) = refl
begins_itself (Err e) = ([], refl)

-- ---- plans

of_tables : (size : Size) (keep_faults : Bool) (key_places : ℕ) (key_tables node_tables : List Members) → MayBegin (plan_of_tables size keep_faults key_places key_tables node_tables) (key_faults 0 [] key_tables ++ sketch_faults 0 node_tables)
unfolding plan_of_tables nodes_of_tables
of_tables size keep_faults key_places key_tables node_tables =
    may_both (keys_after [] key_tables) _ (key_faults 0 [] key_tables) (sketch_faults 0 node_tables) (keys_begin [] key_tables) (λ keys.
    may_whole (nodes_of_tables size (labels_of keys) node_tables) _ (sketch_faults 0 node_tables)
    (may_whole (sketches_after [] node_tables) _ (sketch_faults 0 node_tables) (may (sketches_after [] node_tables) (sketch_faults 0 node_tables) (sketches_begin [] node_tables))))

of_nodes : (size : Size) (keep_faults : Bool) (key_places : ℕ) (key_tables node_tables : List Members) → MayBegin (plan_of_tables size keep_faults key_places key_tables node_tables) (faults_behind_tables size key_tables node_tables)
unfolding plan_of_tables nodes_of_tables faults_behind_tables faults_of_nodes
of_nodes size keep_faults key_places key_tables node_tables =
    may_then (keys_after [] key_tables) _ _ (λ keys.
    may_whole (nodes_of_tables size (labels_of keys) node_tables) _ _ (may_then (sketches_after [] node_tables) _ _ (λ sketches.
    let all = with_repetitions sketches in
    may_then (check faults.BadTree (is_tree (most_contexts size) (ids_of all))) _ _ (λ _. may (nodes_after (labels_of keys) all [] all) _ (nodes_begin (labels_of keys) all [] all)))))

tables_begin : (size : Size) (top : TopFields) → BeginAs (plan_of_tables size top.keep_faults top.key_places top.key_tables top.node_tables) (faults_of_tables size top)
unfolding faults_of_tables
tables_begin size top =
    let read = plan_of_tables size top.keep_faults top.key_places top.key_tables top.node_tables in
    begins_or read (key_faults 0 [] top.key_tables ++ sketch_faults 0 top.node_tables) _ (of_tables size top.keep_faults top.key_places top.key_tables top.node_tables)
    (begins_or read (faults_behind_tables size top.key_tables top.node_tables) _ (of_nodes size top.keep_faults top.key_places top.key_tables top.node_tables) (begins_itself read))

-- the same reading, whose second part begins with all faults of what the first gave
both_parts : {A B C : Type 0} (read : Result A PlanFault) (next : A → Result B PlanFault) (part : A → Result C PlanFault) (more : C → List PlanFault) → ((x : A) → BeginAs (next x) (faults_behind (part x) more)) → BeginAs (read >>= next) (faults_behind (read >>= part) more)
both_parts (Ok x) next part more h = h x
both_parts (Err e) next part more h = ([], refl)

document_begins : (size : Size) (top : Members) → BeginAs (plan_of size top) (faults_of size top)
unfolding plan_of faults_of top_at
document_begins size top =
    let fault = faults.BadField plan_parts.Whole in
    both_parts (check (faults.UnknownField plan_parts.Whole) (has_only top_fields top)) _ _ (faults_of_tables size) (λ _.
    both_parts (field_or false as_bool fault (get_member (codes "keep_faults") top)) _ _ (faults_of_tables size) (λ keep_faults.
    both_parts (field_or 64 places_in fault (get_member (codes "keys") top)) _ _ (faults_of_tables size) (λ key_places.
    both_parts (field_or [] (array_of as_table) fault (get_member (codes "key") top)) _ _ (faults_of_tables size) (λ key_tables.
    both_parts (field_or [] (array_of as_table) fault (get_member (codes "node") top)) _ _ (faults_of_tables size) (λ node_tables.
    tables_begin size (record { keep_faults = keep_faults; key_places = key_places; key_tables = key_tables; node_tables = node_tables }))))))

then_begins : {A B : Type 0} (read : Result A PlanFault) (next : A → Result B PlanFault) (more : A → List PlanFault) → ((x : A) → BeginAs (next x) (more x)) → BeginAs (read >>= next) (faults_behind read more)
then_begins (Ok x) next more h = h x
then_begins (Err e) next more h = ([], refl)

pub text_begins : (size : Size) (text : List ℕ) → BeginAs (plan_of_text size text) (faults_of_text size text)
unfolding plan_of_text faults_of_text
text_begins size text = then_begins (some_or faults.NotToml (parse_document text)) _ (faults_of size) (λ top. document_begins size top)

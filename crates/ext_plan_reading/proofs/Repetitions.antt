-- The nodes that tables stand for: those of one table after another, that ids have room for a segment more, and what more nodes than a plan may have are refused as.
use Rattle.std.proofs.Common.{◌≡◌, ◌≢◌, ℕ, ◌<◌, ◌≤◌, ◌+◌, Bool, true, false, not, ◌&&◌, List, [], ◌∷◌, ◌++◌, length, map, Option, Some, None, codes, Result, Ok, Err, All, refl, ap, sym, subst, ◌∙◌, arith, inl, inr, append_assoc, append-nil, length-append}
use Rattle.std.specs.Prelude.{◌==◌, is_some, nat_le, if◌then◌else◌, IfSome}
use Rattle.std.proofs.lemmas.Bool.{leb-false, lt-leb, ne_eqb, not-true}
use Rattle.std.proofs.lemmas.Option.{none-some}
use Rattle.std.proofs.lemmas.List.{length-map}
use Rattle.std.proofs.lemmas.List.Elements.{All-push, All-head}
use Rattle.toml.specs.Data.{Members, get_member, as_bool, as_str}
use Rattle.ext_ids.proofs.MadeIds.{one_more as one_more_part}
use Rattle.ext_ids.specs.Grammar.{Pair, IsId}
use Rattle.ext_ids.specs.Making.{Makes}
use Rattle.ext_ids.specs.Reading.{read_id}
use Rattle.ext_ids.specs.declared.making.PartFault.{PartFault}
use Rattle.ext_ids.specs.declared.making.PartFault.TheVariants as parts
use Rattle.ext_model.specs.Sizes.{most_contexts}
use Rattle.ext_model.specs.declared.size.Size.{Size}
use Rattle.ext_tree.specs.declared.fault.TreeFault.TheVariants as tree_faults
use Rattle.ext_tree.specs.Decided.{is_tree}
use Rattle.ext_tree.specs.Trees.{Id, too_many}
use Rattle.ext_plan.proofs.Lists.{map-push, All-map-back, All-parts}
use Rattle.ext_plan_reading.specs.declared.fault.PlanFault.{PlanFault}
use Rattle.ext_plan_reading.specs.declared.fault.PlanFault.TheVariants as faults
use Rattle.ext_plan_reading.specs.declared.fault.PlanPart.TheVariants as plan_parts
use Rattle.ext_plan_reading.specs.declared.nodes.NodeSketch.{NodeSketch}
use Rattle.ext_plan_reading.specs.CallbackReading.{callback_texts_at}
use Rattle.ext_plan_reading.specs.Faults.{some_or, check}
use Rattle.ext_plan_reading.specs.Fields.{has_only, text_at, texts_in, repeats_in, field_or, optional}
use Rattle.ext_plan_reading.specs.InnerSketches.{sketch_view, HasRoom}
use Rattle.ext_plan_reading.specs.NodeReading.{Sketch, node_fields, id_or, sketch_at, sketches_after, repeated, with_repetitions, ids_of}
use Rattle.ext_plan_reading.proofs.Gave.{ok_value, both_gave, passed}
use Rattle.ext_plan_reading.proofs.TreeTests.{is_no_tree}

-- ---- a segment more

room_of : (times : Option ℕ) (segments : ℕ) → not (is_some times && nat_le 16 segments) ≡ true → IfSome times (λ _. segments < 16)
room_of None segments h = tt
room_of (Some times) segments h = leb-false 16 segments (not-true (nat_le 16 segments) h)

sketch_room : (node : ℕ) (fields : Members) (sketch : Sketch) → sketch_at node fields ≡ Ok sketch → HasRoom sketch
unfolding sketch_at
sketch_room node fields sketch h =
    let fault = faults.BadField (plan_parts.Node node) in
    let known = both_gave (check (faults.UnknownField (plan_parts.Node node)) (has_only node_fields fields)) _ _ h in
    let text = both_gave (some_or fault (text_at (codes "id") fields)) _ _ known.2 in
    let mode = both_gave (optional as_str fault (get_member (codes "mode") fields)) _ _ text.2 in
    let isolated = both_gave (field_or false as_bool fault (get_member (codes "isolated") fields)) _ _ mode.2 in
    let locks = both_gave (optional texts_in fault (get_member (codes "locks") fields)) _ _ isolated.2 in
    let callbacks = both_gave (callback_texts_at node fields) _ _ locks.2 in
    let test = both_gave (optional texts_in fault (get_member (codes "test") fields)) _ _ callbacks.2 in
    let repeat = both_gave (optional repeats_in fault (get_member (codes "repeat") fields)) _ _ test.2 in
    let of_test = both_gave (check fault (not (is_some repeat.0 && not (is_some test.0)))) _ _ repeat.2 in
    let id = both_gave (id_or (faults.BadId node) (read_id text.0)) _ _ of_test.2 in
    let room = both_gave (check (faults.BadId node) (not (is_some repeat.0 && nat_le 16 (length id.0)))) _ _ id.2 in
    let read : Sketch = record {
      table = node;
      id = id.0;
      mode = mode.0;
      isolated = isolated.0;
      locks = locks.0;
      callbacks = callbacks.0;
      test = test.0;
      repeat = repeat.0;
    } in
    rw (← ok_value read sketch _ refl room.2) (room_of repeat.0 (length id.0) (passed _ (not (is_some repeat.0 && nat_le 16 (length id.0))) room.0 room.1))

pub have_room : (before : List Sketch) (tables : List Members) (sketches : List Sketch) → All HasRoom before → sketches_after before tables ≡ Ok sketches → All HasRoom sketches
unfolding sketches_after
have_room before [] sketches all h = rw (← ok_value before sketches _ refl h) all
have_room before (fields ∷ more) sketches all h =
    let sketch = both_gave (sketch_at (length before) fields) _ _ h in
    have_room (before ++ sketch.0 ∷ []) more sketches (All-push HasRoom before sketch.0 all (sketch_room (length before) fields sketch.0 sketch.1)) sketch.2

-- ---- one table after another

more_tables : (before after : List Sketch) → with_repetitions (before ++ after) ≡ with_repetitions before ++ with_repetitions after
more_tables [] after = refl
more_tables (x ∷ before) after = ap (λ nodes. repeated x x.repeat ++ nodes) (more_tables before after) ∙ sym (append_assoc (repeated x x.repeat) (with_repetitions before) (with_repetitions after))

pub one_more : (before : List NodeSketch) (x : NodeSketch) → with_repetitions (map sketch_view (before ++ x ∷ [])) ≡ with_repetitions (map sketch_view before) ++ repeated (sketch_view x) x.repeat
one_more before x =
    ap with_repetitions (map-push sketch_view before x) ∙ more_tables (map sketch_view before) (sketch_view x ∷ [])
    ∙ ap (λ nodes. with_repetitions (map sketch_view before) ++ nodes) (append-nil (repeated (sketch_view x) x.repeat))

map-parts : (xs ys : List NodeSketch) → map sketch_view (xs ++ ys) ≡ map sketch_view xs ++ map sketch_view ys
map-parts [] ys = refl
map-parts (x ∷ xs) ys = ap (λ more. sketch_view x ∷ more) (map-parts xs ys)

-- the nodes of the first tables are no more than those of all
pub no_more : (before after all : List NodeSketch) → before ++ after ≡ all → length (with_repetitions (map sketch_view before)) ≤ length (with_repetitions (map sketch_view all))
no_more before after all is =
    let parts = ap length (ap with_repetitions (map-parts before after) ∙ more_tables (map sketch_view before) (map sketch_view after)) in
    let whole = ap (λ xs. length (with_repetitions (map sketch_view xs))) is in
    let both = length-append (with_repetitions (map sketch_view before)) (with_repetitions (map sketch_view after)) in
    omega (arith, parts, whole, both)

-- a sketch among those that have room has it
pub room_at : (before after all : List NodeSketch) (x : NodeSketch) → before ++ x ∷ after ≡ all → All HasRoom (map sketch_view all) → HasRoom (sketch_view x)
room_at before after all x is rooms =
    let own = subst (All (λ s. HasRoom (sketch_view s))) (sym is) (All-map-back HasRoom sketch_view all rooms) in
    All-head (λ s. HasRoom (sketch_view s)) x after (All-parts (λ s. HasRoom (sketch_view s)) before (x ∷ after) own).1

-- ---- the id of a repetition

fitting : (deep no_value : Bool) (at : ℕ) → deep ≡ false → no_value ≡ false → (if deep then Some parts.TooMany else if no_value then Some (parts.NoValue at) else None) ≡ None
fitting deep no_value at fits filled = rw (fits, filled) refl

-- an id with room takes it
pub fits_behind : (id : Id) (number : List ℕ) (fault : PartFault) → IsId id → length id < 16 → fault ≢ parts.Memory → Makes (id ++ (codes "test-template-invocation", codes "#" ++ number) ∷ []) (Err fault) → ⊥
fits_behind id number fault is less other (inl h) =
    let last : Pair = (codes "test-template-invocation", codes "#" ++ number) in
    let filled : (length (codes "#" ++ number) == 0) ≡ false = ne_eqb _ 0 (λ e. omega (arith, e)) in
    none-some fault (sym (fitting (nat_le 16 (length id)) (length (codes "#" ++ number) == 0) (length id) (lt-leb 16 (length id) less) filled) ∙ sym (one_more_part id last is) ∙ h)
fits_behind id number fault is less other (inr h) = other h.0

-- ---- too many nodes

pub too_many_nodes : (size : Size) (all : List Sketch) → most_contexts size < length all → check faults.BadTree (is_tree (most_contexts size) (ids_of all)) ≡ Err faults.BadTree
too_many_nodes size all more =
    let count = length-map all (λ s. s.id) in
    is_no_tree size (ids_of all) tree_faults.TooMany (too_many (omega (arith, more, count)))

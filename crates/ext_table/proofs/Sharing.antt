-- Values that are handed over: one compute, and the way along a path.
use Rattle.std.proofs.Common.{◌≡◌, ℕ, ◌+◌, ◌<◌, ◌≤◌, ◌++◌, Bool, List, [], ◌∷◌, length, take, drop, get_or, map, ap, subst, sym, ◌∙◌, arith, suc}
use Rattle.std.specs.Prelude.{Ok, Err, Result}
use Rattle.std.specs.List.{FoldsTo}
use Rattle.std.proofs.lemmas.Fn.{FoldsTo-push}
use Rattle.std.proofs.lemmas.List.{take_more, take_all, take-append-drop}
use Rattle.std.proofs.Math.Seq.{drop-cons}
use Rattle.std.specs.List.{range_with_len}
use Rattle.std.proofs.lemmas.List.FromFn.{get_or-map-range_with_len, map-range_with_len_more}
use Rattle.ext_model.specs.declared.look.Fault.{Fault}
use Rattle.ext_tree.specs.Keys.{KeyValue}
use Rattle.ext_store.specs.Computing.{Uses, without_factory}
use Rattle.ext_store.specs.FoundOrMade.{IsFaultOf, IsMadeOf}
use Rattle.ext_store.specs.Stores.{StoreLane}
use Rattle.ext_store.specs.declared.computed.Compute.{Compute}
use Rattle.ext_table.specs.InnerSharing.{IsBegun, IsRoomy, handed_by, level_keys}
use Rattle.ext_table.specs.Sharing.{level_key, nothing_handed}
use Rattle.ext_table.specs.declared.engine.Kept.{Kept}
use Rattle.ext_table.specs.declared.shared.Handing.{Handing}
use Rattle.ext_store.specs.declared.computed.Compute.TheVariants.{Computed, Found, Failed, FaultKept, FaultUnkept, FaultStands, Unkept, Refused}

-- ---- one compute

pub made_of : {V F : Type 0} (before after : StoreLane V) (answer : Compute V F) (number : ℕ) (is_new : Bool) (value : V) → IsMadeOf before after answer number is_new value → IsMadeOf before after (without_factory answer) number is_new value
made_of before after (Computed shown) number is_new value h = h
made_of before after (Found at shown unused) number is_new value h = h
made_of before after (Failed why) number is_new value h = absurd h
made_of before after (FaultKept kept) number is_new value h = absurd h
made_of before after (FaultUnkept why cause) number is_new value h = absurd h
made_of before after (FaultStands at kept unused) number is_new value h = absurd h
made_of before after (Unkept back cause) number is_new value h = absurd h
made_of before after (Refused why unused) number is_new value h = absurd h

pub fault_of : {V F : Type 0} (before after : StoreLane V) (answer : Compute V F) (why : Fault) → IsFaultOf before after answer why → IsFaultOf before after (without_factory answer) why
fault_of before after (Computed number) why h = h
fault_of before after (Found at number unused) why h = h
fault_of before after (Failed said) why h = h
fault_of before after (FaultKept number) why h = h
fault_of before after (FaultUnkept said cause) why h = h
fault_of before after (FaultStands at number unused) why h = h
fault_of before after (Unkept back cause) why h = h
fault_of before after (Refused refusal unused) why h = h

-- What the factory answered, said otherwise.
pub uses_as : {V : Type 0} (Gives As : Result V Fault → Type 0) (before after : StoreLane V) (answer : Compute V (Unit {0})) → Uses Gives before after answer → ((made : Result V Fault) → Gives made → As made) → Uses As before after answer
uses_as Gives As before after (Computed number) u maps = (u.0, maps (Ok u.0) u.1, u.2, u.3)
uses_as Gives As before after (Found at number unused) u maps = u
uses_as Gives As before after (Failed why) u maps = (maps (Err why) u.0, u.1, u.2)
uses_as Gives As before after (FaultKept number) u maps = (u.0, maps (Err u.0) u.1, u.2, u.3)
uses_as Gives As before after (FaultUnkept why cause) u maps = (maps (Err why) u.0, u.1, u.2)
uses_as Gives As before after (FaultStands at number unused) u maps = u
uses_as Gives As before after (Unkept value cause) u maps = (maps (Ok value) u.0, u.1, u.2)
uses_as Gives As before after (Refused why unused) u maps = u

-- The key of a level.
pub key_at : (keys : List KeyValue) (level : ℕ) (key : KeyValue) → keys ≡ level_keys → level < 16 → key ≡ get_or keys level key → key ≡ level_key level
key_at keys level key are within is = is ∙ ap (λ l. get_or l level key) are ∙ get_or-map-range_with_len level_key 0 16 level level key within (omega arith)

pub keys_more : (old new : List KeyValue) (key : KeyValue) (level : ℕ) → old ≡ map level_key (range_with_len 0 level) → key ≡ level_key level → new ≡ old ++ key ∷ [] → new ≡ map level_key (range_with_len 0 (level + 1))
keys_more old new key level are is pushed = pushed ∙ ap (λ l. l ++ key ∷ []) are ∙ ap (λ k. map level_key (range_with_len 0 level) ++ k ∷ []) is ∙ sym (map-range_with_len_more level_key 0 level level (omega arith))

-- ---- along a path

-- One node more.
pub folds_more : {P : Type 0} (R : P → ℕ → P → Type 0) (nodes : List ℕ) (first before after : P) (i node : ℕ) → (i < length nodes) × (node ≡ get_or nodes i node) → FoldsTo R first (take i nodes) before → R before node after
    → FoldsTo R first (take (i + 1) nodes) after
folds_more R nodes first before after i node at so_far one =
    subst (λ l. FoldsTo R first l after) (sym (take_more nodes i node at.0 ∙ ap (λ n. take i nodes ++ n ∷ []) (sym at.1)))
    (FoldsTo-push R first (take i nodes) before node after so_far one)

-- All nodes.
pub folds_all : {P : Type 0} (R : P → ℕ → P → Type 0) (nodes : List ℕ) (first after : P) (i : ℕ) → length nodes ≤ i → FoldsTo R first (take i nodes) after → FoldsTo R first nodes after
folds_all R nodes first after i long so_far = subst (λ l. FoldsTo R first l after) (take_all i nodes long) so_far

-- The nodes before this one, and those behind it.
pub parts_at : (nodes : List ℕ) (i node : ℕ) → (i < length nodes) × (node ≡ get_or nodes i node) → nodes ≡ take i nodes ++ node ∷ drop (suc i) nodes
parts_at nodes i node at = sym (take-append-drop i nodes) ∙ ap (λ l. take i nodes ++ l) (drop-cons nodes i node at.0 ∙ ap (λ n. n ∷ drop (suc i) nodes) (sym at.1))

-- ---- what was handed

pub begun_handed : {S : Type 0} (handing : Handing S) (lane : StoreLane (Kept S)) → IsBegun handing → handed_by handing lane ≡ nothing_handed lane
begun_handed handing lane begun =
    ap (λ l. record { values = map (λ value. value.now) l; computed = handing.computed; found = handing.found; lane = lane }) begun.none
    ∙ ap (λ n. record { values = []; computed = n; found = handing.found; lane = lane }) begun.none_computed
    ∙ ap (λ n. record { values = []; computed = 0; found = n; lane = lane }) begun.none_found

pub begun_roomy : {S : Type 0} (handing : Handing S) → IsBegun handing → IsRoomy handing
begun_roomy handing begun = record { room = begun.room; counted = omega (arith, begun.none_computed, begun.none_found, begun.none_long) }

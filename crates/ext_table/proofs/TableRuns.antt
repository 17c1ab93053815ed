-- What `open_run` opens, as a run of a table speaks of it.
use Rattle.std.proofs.Common.{◌≡◌, ◌*◌, List, length, subst}
use Rattle.ext_model.specs.Sizes.{most_contexts}
use Rattle.ext_tree.specs.Trees.{Id, IsTreeWithin}
use Rattle.ext_store.specs.declared.limits.Limits.{Limits}
use Rattle.ext_store.specs.Opening.{places_for}
use Rattle.ext_store.specs.Stores.{AreStoreLimits, StoreView}
use Rattle.ext_engine.specs.LeafRuns.{IsStoreFor}

pub store_for : (ids : List Id) (limits : Limits) (store : StoreView) → store.tree ≡ ids
    → store.id.cells.limits ≡ record { cells = length ids * places_for limits.keys; lanes = limits.lanes; numbers = limits.numbers; keep_faults = limits.keep_faults }
    → length store.id.keys ≡ places_for limits.keys → store.tries ≡ limits.tries → IsTreeWithin (most_contexts limits.size) ids × AreStoreLimits limits.size limits.keys limits.lanes limits.tries limits.numbers → IsStoreFor ids limits store
store_for ids limits store tree are keys tries within = record { tree = tree; limits_are = are; keys = keys; tries = tries; few = within.0; within = within.1 }

-- Three lists that are equal to others.
pub at_others : {A B C : Type 0} (P : A → B → C → Type 0) (a b : A) (c d : B) (e f : C) → a ≡ b → c ≡ d → e ≡ f → P a c e → P b d f
at_others P a b c d e f p q r h = subst (λ x. P b d x) r (subst (λ x. P b x e) q (subst (λ x. P x c e) p h))

-- Why a store was not opened.
use Rattle.std.proofs.Common.{◌≡◌, ◌<◌, ◌≤◌, ◌∙◌, ℕ, List, Err, inl, inr, sym, arith}
use Rattle.std.specs.Prelude.{◌↔◌, Result}
use Rattle.std.proofs.lemmas.Bool.{cases_order}
use Rattle.ext_model.specs.Sizes.{most_contexts}
use Rattle.ext_model.specs.declared.size.Size.{Size}
use Rattle.ext_store.specs.Stores.{AreStoreLimits}
use Rattle.ext_store.specs.declared.limits.Limits.{Limits}
use Rattle.ext_store.specs.declared.limits.StoreFault.{StoreFault}
use Rattle.ext_store.specs.declared.limits.StoreFault.TheVariants as store_faults
use Rattle.ext_tree.specs.Trees.{Id, IsTreeWithin}
use Rattle.ext_engine.specs.Opening.{IsStoreFault}
use Rattle.ext_engine.specs.declared.opening.OpenFault.TheVariants as faults

fits : (n most : ℕ) → (most < n → ⊥) → n ≤ most
fits n most no_more = elim (cases_order n most) [
  | inl same ↦ omega (arith, same)
  | inr (inl less) ↦ omega (arith, less)
  | inr (inr more) ↦ absurd (no_more more)
]

-- limits that are not out of their ranges are in them
in_range : (size : Size) (keys lanes tries numbers : ℕ) → ((¬ AreStoreLimits size keys lanes tries numbers) → ⊥) → AreStoreLimits size keys lanes tries numbers
in_range size keys lanes tries numbers some = record {
  keys_fit = (fits 1 keys (λ h. some (λ w. let l = w.keys_fit.0 in omega (arith, h, l))), fits keys 1024 (λ h. some (λ w. let l = w.keys_fit.1 in omega (arith, h, l))));
  others_fit = record {
    cells_fit = omega arith;
    lanes_fit = (fits 1 lanes (λ h. some (λ w. let l = w.others_fit.lanes_fit.0 in omega (arith, h, l))), fits lanes _ (λ h. some (λ w. let l = w.others_fit.lanes_fit.1 in omega (arith, h, l))));
    tries_fit = (fits 1 tries (λ h. some (λ w. let l = w.others_fit.tries_fit.0 in omega (arith, h, l))), fits tries 64 (λ h. some (λ w. let l = w.others_fit.tries_fit.1 in omega (arith, h, l))));
    numbers_fit = (fits 1 numbers (λ h. some (λ w. let l = w.others_fit.numbers_fit.0 in omega (arith, h, l))), fits numbers _ (λ h. some (λ w. let l = w.others_fit.numbers_fit.1 in omega (arith, h, l))));
  };
}

pub no_store : {A : Type 0} (ids : List Id) (limits : Limits) (why : StoreFault) (r : Result A StoreFault) → r ≡ Err why → IsTreeWithin (most_contexts limits.size) ids
    → ((r ≡ Err store_faults.BadLimit) ↔ (¬ AreStoreLimits limits.size limits.keys limits.lanes limits.tries limits.numbers)) → IsStoreFault ids limits (faults.Store why)
no_store ids limits store_faults.BadLimit r is tree bad = (tree, bad.0 is)
no_store ids limits store_faults.Memory r is tree bad = (tree, in_range limits.size limits.keys limits.lanes limits.tries limits.numbers (λ out. cc (sym is ∙ bad.1 out)))

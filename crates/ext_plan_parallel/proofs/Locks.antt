-- The locks that a node names, as they are asked for.
use Rattle.std.proofs.Common.{◌≡◌, ◌<◌, ℕ, List, length, map, get_or, Some, refl, ap, sym, ◌∙◌}
use Rattle.std.specs.Prelude.{option_map, slice_get}
use Rattle.std.proofs.lemmas.Option.{slice_get-map, slice_get_read}
use Rattle.ext_engine.specs.Suites.{Asked}
use Rattle.ext_plan.specs.declared.plan.PlanLock.{PlanLock}
use Rattle.ext_plan.specs.Plans.{LockText, lock_view}
use Rattle.ext_plan_parallel.specs.PlanSuites.{asked}

pub asked_at : (texts : List LockText) (locks : List PlanLock) (i : ℕ) (lock : PlanLock) (request : Asked) → map lock_view locks ≡ texts → i < length locks → lock ≡ get_or locks i lock → request ≡ asked (lock_view lock)
    → slice_get (map asked texts) i ≡ Some request
asked_at texts locks i lock request texts_are within is asks =
    let found : slice_get locks i ≡ Some lock = slice_get_read locks (length locks) i lock refl within is in
    slice_get-map asked texts i ∙ ap (λ ts. option_map asked (slice_get ts i)) (sym texts_are) ∙ ap (option_map asked) (slice_get-map lock_view locks i)
    ∙ ap (λ l. option_map asked (option_map lock_view l)) found ∙ ap Some (sym asks)

-- What a compute answers whose factory is not called.
use Rattle.std.proofs.Common.{◌≡◌, ℕ, refl, sym, subst}
use Rattle.std.specs.Prelude.{Result}
use Rattle.ext_model.specs.declared.look.Fault.{Fault}
use Rattle.ext_store_core.specs.declared.claim.Unused.{Unused}
use Rattle.ext_store_core.specs.declared.claim.Unused.TheVariants.{Found, FaultStands, Refused}
use Rattle.ext_store.specs.declared.computed.Compute.{Compute}
use Rattle.ext_store.specs.Stores.{StoreLane}
use Rattle.ext_store.specs.Computing.{HandsBack, IfComputed, Uses, without_factory, with_factory}
use Rattle.ext_store.specs.Waiting.{IsDecidedCompute, IsDecidedUnused}

module _ {V F : Type 0} (factory : F) (why : Unused) (result : Compute V F) (is : result ≡ with_factory factory why) where
  of_result : (Fact : Compute V F → Type 0) → Fact (with_factory factory why) → Fact result
  of_result Fact fact = subst Fact (sym is) fact

  pub unused_back : HandsBack factory result
  unused_back = of_result (HandsBack factory) (back why)
    where
      back : (w : Unused) → HandsBack {V = V} factory (with_factory factory w)
      back (Found at number) = refl
      back (FaultStands at number) = refl
      back (Refused refusal) = refl

  pub unused_uses : (Gives : Result V Fault → Type 0) (before after : StoreLane V) → after.known ≡ before.known → after.faults ≡ before.faults → Uses Gives before after (without_factory result)
  unused_uses Gives before after same also = of_result (λ r. Uses Gives before after (without_factory r)) (uses why)
    where
      uses : (w : Unused) → Uses Gives before after (without_factory (with_factory {V = V} factory w))
      uses (Found at number) = (same, also)
      uses (FaultStands at number) = (same, also)
      uses (Refused refusal) = (same, also)

  pub unused_apart : (Fact : ℕ → Type 0) → IfComputed result Fact
  unused_apart Fact = of_result (λ r. IfComputed r Fact) (apart why)
    where
      apart : (w : Unused) → IfComputed (with_factory {V = V} factory w) Fact
      apart (Found at number) = tt
      apart (FaultStands at number) = tt
      apart (Refused refusal) = tt

  pub unused_decided : IsDecidedUnused why → IsDecidedCompute result
  unused_decided decided = of_result IsDecidedCompute (decides why decided)
    where
      decides : (w : Unused) → IsDecidedUnused w → IsDecidedCompute (with_factory {V = V} factory w)
      decides (Found at number) d = tt
      decides (FaultStands at number) d = tt
      decides (Refused refusal) d = d

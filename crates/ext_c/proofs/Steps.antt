-- The machine values of a lane, and a seat that is there.
use Rattle.std.proofs.Common.{◌≡◌, List, [], ◌∷◌, ◌++◌, refl, ◌∙◌, Some, None}
use Rattle.std.specs.Prelude.{Option, IsSome}
use seplogic.Ra.Ura.{Ura}
use mir.Val.{Val, vstruct, vcons, vnil, of_list}
use base.Logic.{ent, emp}
use base.Fml.{Fml}
use types.Logic.{Logic, sem}
use denote.RattleType.{RattleType}
use denote.RawPtr.{Ptr, RawPtr, ptr_val}
use denote.Shadow.{shadow, makes_shadow}
use denote.Struct.Struct.{Struct}

abbrev pub plainly : List RattleType → RattleType
plainly Rs = Struct (record { name = []; args = []; types = []; fields = Rs })

abbrev pub lane_val : Ptr → Val
lane_val p0 = vstruct (vcons (ptr_val p0) vnil)

abbrev pub lane_own : Ptr → List Val → Fml
lane_own p0 = (plainly (RawPtr ∷ [])).own_val (p0, tt)

pub lane_told : (p0 : Ptr) (vs : List Val) → shadow (lane_own p0 vs) → vs ≡ lane_val p0 ∷ []
lane_told p0 vs s = s.1.0 ∙ (λ i. vstruct (of_list (s.1.1.0 i ++ [])) ∷ [])

pub lane_made : {M : Type 1} {𝓤 : Ura M} (𝓛 : Logic 𝓤) (p0 : Ptr) → ent 𝓤 (emp 𝓤) (sem 𝓛 (lane_own p0 (lane_val p0 ∷ [])))
lane_made 𝓛 p0 = makes_shadow 𝓛 (lane_own p0 (lane_val p0 ∷ [])) (λ _. (tt, (tt, tt))) ((ptr_val p0 ∷ [], tt), (refl, (refl, tt)))

pub some_of : {X : Type 0} (m : Option X) → IsSome m → (x : X) × (m ≡ Some x)
some_of None s = absurd (cc)
some_of (Some x) s = (x, refl)

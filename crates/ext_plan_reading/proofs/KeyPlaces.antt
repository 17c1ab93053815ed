-- The places for keys that are read are whole blocks, from one to 32 of them.
use Rattle.std.proofs.Common.{◌≡◌, ◌≤◌, ℕ, ◌+◌, ◌*◌, ◌/◌, ◌%◌, Bool, true, false, ◌&&◌, if◌then◌else◌, Option, Some, None, option_and_then, option_map, Ok, refl, subst, arith}
use Rattle.std.specs.Prelude.{nat_le, ℤ, pos, negsuc}
use Rattle.std.proofs.Math.Nat.{mul-mod_left}
use Rattle.std.proofs.lemmas.Bool.{leb-true}
use Rattle.toml.specs.Data.{Data, as_integer}
use Rattle.ext_plan_reading.specs.declared.fault.PlanFault.{PlanFault}
use Rattle.ext_plan_reading.specs.Faults.{some_or}
use Rattle.ext_plan_reading.specs.Fields.{up_to, places_in, field_or}
use Rattle.ext_plan_reading.proofs.Gave.{ok_value}

pub record AreBlocks (places : ℕ) : Type 0 where
  pub whole : places % 32 ≡ 0
  pub some : 32 ≤ places
  pub few : places ≤ 1024

rounded_up : (keys : ℕ) → 1 ≤ keys → keys ≤ 1024 → AreBlocks ((keys + 31) / 32 * 32)
rounded_up keys some few = record {
  whole = mul-mod_left ((keys + 31) / 32) 32;
  some = omega (arith, some);
  few = omega (arith, few);
}

in_range : (e : PlanFault) (keys : ℕ) (from to : Bool) (places : ℕ) → nat_le 1 keys ≡ from → nat_le keys 1024 ≡ to
    → some_or e (option_map (λ keys. (keys + 31) / 32 * 32) (if from && to then Some keys else None)) ≡ Ok places → AreBlocks places
in_range e keys true true places some few h = subst AreBlocks (ok_value _ places _ refl h) (rounded_up keys (leb-true _ _ some) (leb-true _ _ few))
in_range e keys true false places some few h = absurd cc
in_range e keys false to places some few h = absurd cc

of_integer : (e : PlanFault) (keys : Option ℤ) (places : ℕ) → some_or e (option_map (λ keys. (keys + 31) / 32 * 32) (option_and_then (up_to 1024) keys)) ≡ Ok places → AreBlocks places
of_integer e None places h = absurd cc
of_integer e (Some (pos keys)) places h = in_range e keys (nat_le 1 keys) (nat_le keys 1024) places refl refl h
of_integer e (Some (negsuc n)) places h = absurd cc

pub are_blocks : (e : PlanFault) (found : Option Data) (places : ℕ) → field_or 64 places_in e found ≡ Ok places → AreBlocks places
are_blocks e None places h = subst AreBlocks (ok_value 64 places _ refl h) (record { whole = refl; some = omega arith; few = omega arith })
are_blocks e (Some value) places h = of_integer e (as_integer value) places h

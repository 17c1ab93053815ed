-- The top fields of a document are read first, and the plan of its tables from them.
use Rattle.std.proofs.Common.{◌≡◌, false, [], codes, Result, Ok, Err, refl, ap, ◌∙◌}
use Rattle.toml.specs.Data.{Members, get_member, as_bool, as_table}
use Rattle.ext_model.specs.declared.size.Size.{Size}
use Rattle.ext_plan.specs.Plans.{PlanText}
use Rattle.ext_plan_reading.specs.declared.fault.PlanFault.{PlanFault}
use Rattle.ext_plan_reading.specs.declared.fault.PlanFault.TheVariants as faults
use Rattle.ext_plan_reading.specs.declared.fault.PlanPart.TheVariants as plan_parts
use Rattle.ext_plan_reading.specs.Faults.{check, ◌>>=◌}
use Rattle.ext_plan_reading.specs.Fields.{has_only, array_of, places_in, field_or}
use Rattle.ext_plan_reading.specs.Reading.{top_fields, plan_of, plan_of_tables}
use Rattle.ext_plan_reading.specs.TopReading.{TopFields, top_at}

-- the plan of a document with these top fields
abbrev pub plan_with : Size → TopFields → Result PlanText PlanFault
plan_with size top = plan_of_tables size top.keep_faults top.key_places top.key_tables top.node_tables

-- the first step of a reading, whose other steps are cut in two
first_step : {A B C : Type 0} (read : Result A PlanFault) (whole : A → Result B PlanFault) (part : A → Result C PlanFault) (rest : C → Result B PlanFault) → ((x : A) → whole x ≡ (part x >>= rest)) → (read >>= whole) ≡ ((read >>= part) >>= rest)
first_step (Ok x) whole part rest h = h x
first_step (Err e) whole part rest h = refl

pub top_first : (size : Size) (top : Members) → plan_of size top ≡ (top_at top >>= plan_with size)
unfolding plan_of top_at
top_first size top =
    let fault = faults.BadField plan_parts.Whole in
    first_step (check (faults.UnknownField plan_parts.Whole) (has_only top_fields top)) _ _ (plan_with size) (λ _.
    first_step (field_or false as_bool fault (get_member (codes "keep_faults") top)) _ _ (plan_with size) (λ keep_faults.
    first_step (field_or 64 places_in fault (get_member (codes "keys") top)) _ _ (plan_with size) (λ key_places.
    first_step (field_or [] (array_of as_table) fault (get_member (codes "key") top)) _ _ (plan_with size) (λ key_tables.
    first_step (field_or [] (array_of as_table) fault (get_member (codes "node") top)) _ _ (plan_with size) (λ node_tables. refl)))))

pub top_stops : (size : Size) (top : Members) (fault : PlanFault) → top_at top ≡ Err fault → plan_of size top ≡ Err fault
top_stops size top fault h = top_first size top ∙ ap (λ read. read >>= plan_with size) h

pub top_goes : (size : Size) (top : Members) (fields : TopFields) → top_at top ≡ Ok fields → plan_of size top ≡ plan_with size fields
top_goes size top fields h = top_first size top ∙ ap (λ read. read >>= plan_with size) h

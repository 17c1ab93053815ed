use Rattle.std.proofs.Common.{arith, ◌≡◌, ◌∙◌, ◌++◌, ◌∷◌, ◌-◌, [], map, take, vec_len, ap, refl, sym}
use Rattle.std.specs.Prelude.{nat_lt}
use Rattle.ext_model.specs.Plain.{any_lane, next_state, number_drawn}
use Rattle.ext_plan.proofs.Lists.{map-push}
use Rattle.ext_plan_plain.specs.ValueStates.{next_number}
use Rattle.ext_plan_plain.specs.InnerPlaces.{numbers_in, shown}
use Rattle.ext_plan_plain.specs.InnerSteps.{state_view}
use Rattle.ext_plan_plain.proofs.Acts.{keep_refused, popped, state_is, reply_ok}
use Rattle.ext_plan_plain.proofs.value_store.ValueStore.keep.Goals as goal
use Rattle.ext_plan.specs.Values.{value_view}

pub returns-in-Ok-clause-kept : goal.returns-in-Ok-clause-kept
returns-in-Ok-clause-kept c =
    let old = c.args.self.now in
    let store : shown c.keep.new.self ≡ next_state (numbers_in old.store) (shown old.store) any_lane (next_number (state_view old)) = c.in-Ok.ensures.state in
    let values : map value_view c.push.new.self.items ≡ map value_view old.values.items ++ value_view c.args.value ∷ [] = rw (c.in_ok-push.ensures.items, map-push) refl in
    record {
      state = state_is _ _ _ _ _ _ _ _ _ _ c.in-Ok.ensures.limits.places c.in-Ok.ensures.limits.numbers store values;
      drawn = sym c.in-Ok.ensures.drawn;
      allowed = reply_ok number_drawn _ c.in-Ok.number c.in-Ok.ensures.reply;
      slots = λ place. c.in-Ok.ensures.slots place.0 place.1;
    }

pub returns-in-Err-clause-kept : goal.returns-in-Err-clause-kept
returns-in-Err-clause-kept c =
    let old = c.args.self.now in
    let back : c.pop.new.self.items ≡ old.values.items =
    c.pop.ensures.rest ∙ ap (take (vec_len c.push.new.self - 1)) c.in_ok-push.ensures.items ∙ popped old.values.items c.args.value (vec_len c.push.new.self) (let counted = old.values.ok.0 in omega (arith, c.in_ok-push.ensures.len, counted)) in
    record {
      state = state_is _ _ _ _ _ _ _ _ _ _ c.in-Err.ensures.limits.places c.in-Err.ensures.limits.numbers (ap shown c.in-Err.ensures.unchanged) (ap (map value_view) back);
      refused = keep_refused (nat_lt (state_view old).store.drawn (numbers_in old.store)) _ c.in-Err.field-0 c.in-Err.ensures.reply;
    }

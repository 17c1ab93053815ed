use Rattle.std.proofs.Common.{◌≡◌, ◌<◌, ◌-◌, ◌∙◌, ap, get_or, length, map, subst, sym, arith, inl, inr}
use Rattle.std.specs.Fn.{FnOnceReturnsAt}
use Rattle.ext_store.specs.Computing.{without_factory}
use Rattle.ext_store.specs.LaneCalls.{OfKey}
use Rattle.ext_store.specs.Waiting.{ComputesAfterWaits}
use Rattle.ext_store.specs.declared.computed.Compute.TheVariants.{Refused}
use Rattle.ext_tree.specs.Trees.{id_at}
use Rattle.ext_table.specs.Sharing.{IsMade, key_in, level_key}
use Rattle.ext_table.proofs.Sharing.{fault_of, key_at, made_of, uses_as}
use Rattle.ext_table.proofs.suite.TableSuite.value_by.Goals as goal

pub returns-in-Ok-clause-hands : goal.returns-in-Ok-clause-hands
returns-in-Ok-clause-hands g c =
    let answer = without_factory c.compute_wait-answer.result in
    let level : length c.as_slice.result.now - 1 < 16 = omega (arith, c.as_slice.ensures.few) in
    let key : c.index-self-level.result ≡ key_in c.args.store.now.tree c.args.at =
    key_at c.args.self.now.keys.now (length c.as_slice.result.now - 1) c.index-self-level.result c.requires.keys level c.index-self-level.is
    ∙ ap (λ n. level_key (n - 1)) (ap length c.as_slice.ensures.contexts ∙ c.path.ensures.depth ∙ ap (λ t. length (id_at t c.args.at)) c.tree.ensures) in
    let of_it : OfKey c.args.lane.now c.compute_wait-answer.new.lane (get_or c.args.self.now.keys.now (length c.as_slice.result.now - 1) c.index-self-level.result) (λ why. answer ≡ Refused why tt) (λ number. ComputesAfterWaits c.args.store.now c.args.at number c.args.lane.now.cells c.compute_wait-answer.new.lane.cells answer) =
    elim c.compute_wait-answer.ensures.answer [ inl named ↦ inl named | inr refused ↦ inr (refused.0, refused.1, ap without_factory refused.2) ] in
    record {
      answer = answer;
      asked = c.compute_wait-answer.new.lane;
      asks = record {
        computed = subst (λ k. OfKey c.args.lane.now c.compute_wait-answer.new.lane k (λ why. answer ≡ Refused why tt) (λ number. ComputesAfterWaits c.args.store.now c.args.at number c.args.lane.now.cells c.compute_wait-answer.new.lane.cells answer)) (sym c.index-self-level.is ∙ key)
            of_it;
        makes = uses_as (λ made. FnOnceReturnsAt g.F.FnOnce c.args.make (get_or c.args.self.now.keys.now (length c.as_slice.result.now - 1) c.index-self-level.result) made) (IsMade (g.E.Engine.make_gives c.args.self.now.engine.now c.args.given.now (map (λ s. s.now) c.args.above.now))) c.args.lane.now c.compute_wait-answer.new.lane answer c.compute_wait-answer.ensures.factory (λ made gives. c.requires.makes _ made gives);
      };
      number = c.in-Ok.made.number;
      shown = made_of c.compute_wait-answer.new.lane c.found_or_made.new.lane c.compute_wait-answer.result c.in-Ok.made.number c.in-Ok.made.is_new c.in-Ok.made.value.now c.in-Ok.ensures.value;
    }

pub returns-in-Err-clause-misses : goal.returns-in-Err-clause-misses
returns-in-Err-clause-misses g c =
    let answer = without_factory c.compute_wait-answer.result in
    let level : length c.as_slice.result.now - 1 < 16 = omega (arith, c.as_slice.ensures.few) in
    let key : c.index-self-level.result ≡ key_in c.args.store.now.tree c.args.at =
    key_at c.args.self.now.keys.now (length c.as_slice.result.now - 1) c.index-self-level.result c.requires.keys level c.index-self-level.is
    ∙ ap (λ n. level_key (n - 1)) (ap length c.as_slice.ensures.contexts ∙ c.path.ensures.depth ∙ ap (λ t. length (id_at t c.args.at)) c.tree.ensures) in
    let of_it : OfKey c.args.lane.now c.compute_wait-answer.new.lane (get_or c.args.self.now.keys.now (length c.as_slice.result.now - 1) c.index-self-level.result) (λ why. answer ≡ Refused why tt) (λ number. ComputesAfterWaits c.args.store.now c.args.at number c.args.lane.now.cells c.compute_wait-answer.new.lane.cells answer) =
    elim c.compute_wait-answer.ensures.answer [ inl named ↦ inl named | inr refused ↦ inr (refused.0, refused.1, ap without_factory refused.2) ] in
    record {
      answer = answer;
      asked = c.compute_wait-answer.new.lane;
      asks = record {
        computed = subst (λ k. OfKey c.args.lane.now c.compute_wait-answer.new.lane k (λ why. answer ≡ Refused why tt) (λ number. ComputesAfterWaits c.args.store.now c.args.at number c.args.lane.now.cells c.compute_wait-answer.new.lane.cells answer)) (sym c.index-self-level.is ∙ key)
            of_it;
        makes = uses_as (λ made. FnOnceReturnsAt g.F.FnOnce c.args.make (get_or c.args.self.now.keys.now (length c.as_slice.result.now - 1) c.index-self-level.result) made) (IsMade (g.E.Engine.make_gives c.args.self.now.engine.now c.args.given.now (map (λ s. s.now) c.args.above.now))) c.args.lane.now c.compute_wait-answer.new.lane answer c.compute_wait-answer.ensures.factory (λ made gives. c.requires.makes _ made gives);
      };
      fault = fault_of c.compute_wait-answer.new.lane c.found_or_made.new.lane c.compute_wait-answer.result c.in-Err.why c.in-Err.ensures.fault;
    }

use Rattle.std.proofs.Common.{◌≡◌, ◌<◌, ◌≤◌, ◌+◌, set, replicate, ℕ, ap, subst, sym, ◌∙◌, get_or, length, arith, rules, Global}
use Rattle.std.proofs.lemmas.List.{length_push, length-set, length-replicate}
use Rattle.std.proofs.lemmas.Iterator.Adapters.{YieldsList-from_vec}
use Rattle.std.proofs.lemmas.Iterator.Consumers.{YieldsList-turn, YieldsList-end}
use Rattle.ext_table.specs.Arranging.{IsRenumbered}
use Rattle.ext_table.proofs.Arranging.{AreMoved, moved_more, moved_no_more, moved_row, none_moved, none_there, row_more}
use Rattle.ext_table.proofs.arranged.renumbered.Given.{Over}
use Rattle.ext_table.proofs.arranged.renumbered.Goals as goal

zeros_are : (g : Over) (c : goal.After-into_iter-row-iterator g) → c.as_mut_slice-moved.result.now ≡ replicate {A = ℕ} c.args.count 0
zeros_are g c = c.as_mut_slice-moved.ensures.value ∙ c.in_ok-numbers.ensures.items_if_clones_equal (λ y h. search rules)

pub loop-row-init : goal.loop-row-init
loop-row-init g c = record {
  done_long = ap length c.in_ok-done.ensures.items;
  done_len = c.in_ok-done.ensures.len;
  moved_long = ap length (zeros_are g c) ∙ length-replicate c.args.count 0;
  moved = λ are. subst (AreMoved c.args.indices.now 0) (sym (zeros_are g c)) (none_moved c.args.indices.now c.args.count);
  each = λ are at a b was is. absurd (none_there c.in_ok-done.done.items at b c.in_ok-done.ensures.items is);
}

pub loop-row-preserved-then-at-indices : goal.loop-row-preserved-then-at-indices
loop-row-preserved-then-at-indices g c =
    let road = YieldsList-from_vec {Z = Global} {s = c.into_iter-row-iterator.result} c.args.rows.items c.into_iter-row-iterator.ensures.into_iter_gives.0 (c.into_iter-row-iterator.ensures.into_iter_gives.1 ∙ search rules) in
    let t = YieldsList-turn road c.loop-row.yielded c.loop-row.row-iterator c.loop-row.yielded_by c.next.result c.next.new.self c.in-Some.row c.in-Some.is c.next.ensures.steps in
    let long = length_push c.loop-row.yielded c.in-Some.row in
    let i = length c.loop-row.yielded in
    let indices = c.args.indices.now in
    let at_is : c.len-at.result ≡ i = c.len-at.ensures ∙ c.loop-row.invariant.done_len in
    let within : i < length indices = omega (arith, at_is, c.if-at-indices.true) in
    let put_is : c.put.new.numbers ≡ set c.loop-row.moved (get_or indices i 0) i = c.put.ensures ∙ ap (λ n. set c.loop-row.moved (get_or indices n 0) n) at_is in
    record {
      done_long = ap length c.in_ok-push.ensures.items ∙ length_push c.loop-row.done.items c.renumbered_row.result ∙ ap (λ n. n + 1) c.loop-row.invariant.done_long ∙ sym long;
      done_len = c.in_ok-push.ensures.len ∙ ap (λ n. n + 1) c.loop-row.invariant.done_len ∙ sym long;
      moved_long = ap length put_is ∙ length-set c.loop-row.moved (get_or indices i 0) i ∙ c.loop-row.invariant.moved_long;
      moved = λ are. subst (λ n. AreMoved indices n c.put.new.numbers) (sym long) (subst (AreMoved indices (i + 1)) (sym put_is) (moved_more c.args.count indices i c.loop-row.moved are c.loop-row.invariant.moved_long within (c.loop-row.invariant.moved are)));
      each = λ are. row_more indices c.args.rows.items c.loop-row.done.items c.push.new.self.items i c.in-Some.row c.renumbered_row.result t c.loop-row.invariant.done_long
          (subst (λ r. IsRenumbered indices i c.in-Some.row r) (sym c.renumbered_row.ensures) (moved_row indices i c.loop-row.moved c.in-Some.row (c.loop-row.invariant.moved are))) c.in_ok-push.ensures.items (c.loop-row.invariant.each are);
    }

pub loop-row-preserved : goal.loop-row-preserved
loop-row-preserved g c =
    let road = YieldsList-from_vec {Z = Global} {s = c.into_iter-row-iterator.result} c.args.rows.items c.into_iter-row-iterator.ensures.into_iter_gives.0 (c.into_iter-row-iterator.ensures.into_iter_gives.1 ∙ search rules) in
    let t = YieldsList-turn road c.loop-row.yielded c.loop-row.row-iterator c.loop-row.yielded_by c.next.result c.next.new.self c.in-Some.row c.in-Some.is c.next.ensures.steps in
    let long = length_push c.loop-row.yielded c.in-Some.row in
    let i = length c.loop-row.yielded in
    let indices = c.args.indices.now in
    let at_is : c.len-at.result ≡ i = c.len-at.ensures ∙ c.loop-row.invariant.done_len in
    let past : length indices ≤ i = omega (arith, at_is, c.if-at-indices.false) in
    record {
      done_long = ap length c.in_ok-push.ensures.items ∙ length_push c.loop-row.done.items c.renumbered_row.result ∙ ap (λ n. n + 1) c.loop-row.invariant.done_long ∙ sym long;
      done_len = c.in_ok-push.ensures.len ∙ ap (λ n. n + 1) c.loop-row.invariant.done_len ∙ sym long;
      moved_long = c.loop-row.invariant.moved_long;
      moved = λ are. subst (λ n. AreMoved indices n c.loop-row.moved) (sym long) (moved_no_more indices i c.loop-row.moved past (c.loop-row.invariant.moved are));
      each = λ are. row_more indices c.args.rows.items c.loop-row.done.items c.push.new.self.items i c.in-Some.row c.renumbered_row.result t c.loop-row.invariant.done_long
          (subst (λ r. IsRenumbered indices i c.in-Some.row r) (sym c.renumbered_row.ensures) (moved_row indices i c.loop-row.moved c.in-Some.row (c.loop-row.invariant.moved are))) c.in_ok-push.ensures.items (c.loop-row.invariant.each are);
    }

pub returns : goal.returns
returns g c =
    let road = YieldsList-from_vec {Z = Global} {s = c.into_iter-row-iterator.result} c.args.rows.items c.into_iter-row-iterator.ensures.into_iter_gives.0 (c.into_iter-row-iterator.ensures.into_iter_gives.1 ∙ search rules) in
    let t = YieldsList-end road c.loop-row.yielded c.loop-row.row-iterator c.loop-row.yielded_by c.next.result c.next.new.self c.in-None.is c.next.ensures.steps in
    λ are. record { count = c.loop-row.invariant.done_long ∙ t.1; each = c.loop-row.invariant.each are }

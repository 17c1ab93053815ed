use Rattle.std.proofs.Common.{arith, vec_capacity, vec_len, ◌≡◌, ◌+◌, length}
use Rattle.once_cell.specs.Once.{cell_name}
use Rattle.ext_tree.proofs.KeyPlacing.{filled_all, filled_more}
use Rattle.ext_tree.proofs.key_walk.entries_of.Goals as goal

pub loop-place-preserved : goal.loop-place-preserved
loop-place-preserved c =
    let long : vec_len c.push_reserved.new.self ≡ c.loop-place.place-index + 1 = omega arith in
    let room : vec_capacity c.push_reserved.new.self ≡ length c.args.places.now = omega arith in
    record {
      long = long;
      room = room;
      filled = filled_more cell_name c.loop-place.entries.items c.push_reserved.new.self.items c.args.places.now c.loop-place.place-index c.place-item.result c.unknown.result c.loop-place-test.true c.loop-place.invariant.filled c.place-item.is c.unknown.ensures c.push_reserved.ensures.items;
    }

pub returns : goal.returns
returns c = filled_all cell_name c.loop-place.entries.items c.args.places.now c.loop-place.place-index c.loop-place-test.false c.loop-place.invariant.filled

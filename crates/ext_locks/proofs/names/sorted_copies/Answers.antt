use Rattle.std.proofs.Common.{[], sym, ◌∙◌, arith}
use Rattle.ext_locks.proofs.Texts.{text_at, copied_more, sorted_names, different_still}
use Rattle.ext_locks.proofs.names.sorted_copies.Goals as goal

pub loop-name-preserved : goal.loop-name-preserved
loop-name-preserved c = (
  (let l = c.push_reserved.ensures.len in let i = c.loop-name.invariant.0 in omega arith),
  c.push_reserved.ensures.capacity ∙ c.loop-name.invariant.1,
  copied_more c.args.names.now c.loop-name.copies.items c.push_reserved.new.self.items _ c.loop-name.name-index c.loop-name-test.true c.loop-name.invariant.2 c.push_reserved.ensures.items
      (text_at c.args.names.now c.loop-name.name-index _ [] c.loop-name-test.true ∙ sym c.in_ok-from_str.ensures.ok),
)

pub returns-clause-different : goal.returns-clause-different
returns-clause-different c = different_still _ _
    (sorted_names c.args.names.now c.loop-name.copies.items c.sort_unstable.new.self.items c.loop-name.name-index c.loop-name-test.false c.loop-name.invariant.2 c.sort_unstable.ensures.permutation)
    c.requires

pub returns-clause-names : goal.returns-clause-names
returns-clause-names c = sorted_names c.args.names.now c.loop-name.copies.items c.sort_unstable.new.self.items c.loop-name.name-index c.loop-name-test.false c.loop-name.invariant.2 c.sort_unstable.ensures.permutation

use Rattle.std.proofs.Common.{◌<◌, ◌≤◌, ap, arith, length}
use Rattle.ext_values.proofs.Agreeing.{same_slot, agree_more, agree_all, written_back}
use Rattle.ext_values.proofs.silent_notes.SilentNotes.meet.Goals as goal

pub agree-requires : goal.agree-requires
agree-requires g c =
    let own = ap length c.self.view_is in
    let still = ap length c.loop-index.invariant.notes in
    let below : c.loop-index.index < length c.loop-index.self-inside.entries.items = omega arith in
    same_slot c.loop-index.self-inside.entries.items c.args.self.now c.loop-index.invariant.notes c.loop-index.other-inside.entries.items c.args.other.now c.loop-index.invariant.others c.requires c.loop-index.index below
    c.index_mut.result.now c.index_mut-in-loop-index.result.now c.index_mut.ensures.value c.index_mut-in-loop-index.ensures.value

pub loop-index-preserved : goal.loop-index-preserved
loop-index-preserved g c =
    let own = ap length c.self.view_is in
    let still = ap length c.loop-index.invariant.notes in
    let below : c.loop-index.index < length c.loop-index.self-inside.entries.items = omega arith in record {
      notes = written_back c.loop-index.self-inside.entries.items c.args.self.now c.loop-index.index c.index_mut.result.now c.agree.new.self c.loop-index.invariant.notes c.index_mut.ensures.value c.agree.ensures.unchanged.0;
      others = written_back c.loop-index.other-inside.entries.items c.args.other.now c.loop-index.index c.index_mut-in-loop-index.result.now c.agree.new.other c.loop-index.invariant.others c.index_mut-in-loop-index.ensures.value c.agree.ensures.unchanged.1;
      agree = agree_more c.loop-index.self-inside.entries.items c.args.self.now c.loop-index.invariant.notes c.loop-index.other-inside.entries.items c.args.other.now c.loop-index.invariant.others c.requires c.loop-index.index below
          c.index_mut.result.now c.index_mut-in-loop-index.result.now c.index_mut.ensures.value c.index_mut-in-loop-index.ensures.value c.agree.ensures.value c.loop-index.invariant.agree;
    }

pub returns-clause-agree : goal.returns-clause-agree
returns-clause-agree g c =
    let own = ap length c.self.view_is in
    let all : length c.args.self.now ≤ c.loop-index.index = omega arith in
    agree_all c.loop-index.index c.args.self.now c.args.other.now all c.loop-index.invariant.agree

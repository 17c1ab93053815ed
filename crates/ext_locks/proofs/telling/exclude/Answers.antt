use Rattle.std.proofs.Common.{◌+◌, length, ap, ◌∙◌}
use Rattle.ext_locks.specs.InnerRule.{noted}
use Rattle.ext_locks.proofs.Fronts.{makes_quiet, told_makes, kept_makes}
use Rattle.ext_locks.proofs.Trying.{loaded_adds}
use Rattle.ext_locks.proofs.Meeting.{exclusive_one, exclusive_other, sees_other}
use Rattle.ext_locks.proofs.telling.exclude.Goals as goal

pub returns-clause-steps_one : goal.returns-clause-steps_one
returns-clause-steps_one c = loaded_adds _ _ _ _ _ c.tell-second.ensures.step ∙ ap (λ m. length m.0.fronts + 1) c.tell-first.ensures.from.1

pub returns-clause-steps_other : goal.returns-clause-steps_other
returns-clause-steps_other c = ap (λ m. length m.0.fronts) c.tell-second.ensures.from.1 ∙ loaded_adds _ _ _ _ _ c.tell-first.ensures.step

pub returns-clause-one : goal.returns-clause-one
returns-clause-one c =
    makes_quiet c.args.one.now c.tell-first.new.from c.tell-second.new.to _ _ (kept_makes _ _ _ c.requires.one.legal c.tell-first.ensures.from.0 c.tell-first.ensures.from.1)
    (told_makes c.tell-first.new.from c.tell-second.new.to (noted c.tell-first.new.to.me.0) _ _ _ c.tell-second.ensures.table c.tell-second.ensures.step)

pub returns-clause-other : goal.returns-clause-other
returns-clause-other c =
    let told = told_makes c.args.other.now c.tell-first.new.to (noted c.args.one.now.me.0) _ _ _ c.tell-first.ensures.table c.tell-first.ensures.step in
    makes_quiet c.args.other.now c.tell-first.new.to c.tell-second.new.from _ _ told
    (kept_makes _ _ _ told.legal c.tell-second.ensures.from.0 c.tell-second.ensures.from.1)

pub returns-clause-seen : goal.returns-clause-seen
returns-clause-seen c =
    sees_other c.args.one.now c.args.other.now c.tell-first.new.from c.tell-first.new.to c.tell-second.new.from c.tell-second.new.to _ _ _ _ c.requires.apart
    c.tell-first.ensures.from.1 c.tell-first.ensures.step c.tell-second.ensures.from.1 c.tell-second.ensures.step

pub returns-clause-shuts_out : goal.returns-clause-shuts_out
returns-clause-shuts_out c =
    exclusive_one c.args.one.now c.args.other.now c.tell-first.new.from c.tell-first.new.to c.tell-second.new.from c.tell-second.new.to _ _ _ _ c.requires.apart
    c.tell-first.ensures.from.1 c.tell-first.ensures.step c.tell-second.ensures.from.1 c.tell-second.ensures.step

pub returns-clause-is_shut_out : goal.returns-clause-is_shut_out
returns-clause-is_shut_out c =
    exclusive_other c.args.one.now c.args.other.now c.tell-first.new.from c.tell-first.new.to c.tell-second.new.from c.tell-second.new.to _ _ _ _ c.requires.apart
    c.tell-first.ensures.from.1 c.tell-first.ensures.step c.tell-second.ensures.from.1 c.tell-second.ensures.step

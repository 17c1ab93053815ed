use Rattle.std.proofs.Common.{rules, ◌≡◌, ◌∷◌, ◌++◌, arith}
use Rattle.ext_engine.proofs.Gathering.{more_room}
use Rattle.ext_engine.proofs.node.results.append_all.Goals as goal

pub unreachable-requires : goal.unreachable-requires
unreachable-requires c =
    let I = c.loop-outcome.invariant in
    let list : c.loop-outcome.yielded ++ c.in-Some.outcome ∷ c.next.new.self.rest.items ≡ c.args.outcomes.items = search rules in
    let more = more_room c.args.ran.now.items c.loop-outcome.ran.items c.loop-outcome.yielded c.next.new.self.rest.items c.args.outcomes.items c.in-Some.outcome c.in-Ok.below list c.in-Ok.is I.ran in
    let a = c.loop-outcome.ran.ok.0 in let b = c.in-Ok.below.ok.0 in let d = c.args.ran.now.ok.0 in
    let full = c.in_default-append.ensures.full in let room = c.requires.room in let kept = I.room in
    absurd (omega (arith, more, a, b, d, full, room, kept))

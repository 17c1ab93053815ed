use Rattle.std.proofs.Common.{◌≡◌, ◌<◌, None, Some, length, rules, slice_index_or, ◌∙◌}
use Rattle.std.proofs.lemmas.List.{get_or_default}
use Rattle.ext_c.specs.Closing.{NotClosing}
use Rattle.ext_c.proofs.seat.Seat.take_closer.Goals as goal

pub returns-then-context-len-clause-refused : goal.returns-then-context-len-clause-refused
returns-then-context-len-clause-refused c = λ places idle room. NotClosing.no_context idle room (search rules)

pub returns-then-context-len-2-clause-refused : goal.returns-then-context-len-2-clause-refused
returns-then-context-len-2-clause-refused c = λ places idle room. NotClosing.no_closer (record { idle = idle; room = room; listed = search rules }) (search rules)

pub returns-in-None-clause-refused : goal.returns-in-None-clause-refused
returns-in-None-clause-refused c = λ places idle room. NotClosing.was_closed (record { idle = idle; room = room; listed = search rules }) (search rules) (search rules)

pub returns-then-context-clause-refused : goal.returns-then-context-clause-refused
returns-then-context-clause-refused c =
    let within : c.args.context < length c.args.self.now.closers.items = search rules in
    let here : slice_index_or c.args.self.now.closers.items c.args.context (Some c.in-Some.closer) ≡ Some c.in-Some.closer = search rules in
    λ places idle room. NotClosing.not_this (record { idle = idle; room = room; listed = search rules }) c.in-Some.closer
    (get_or_default c.args.self.now.closers.items c.args.context None (Some c.in-Some.closer) within ∙ here) (λ e. c.if-context.true (c.context.ensures ∙ e))

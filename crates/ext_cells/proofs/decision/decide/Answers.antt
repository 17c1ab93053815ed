use Rattle.std.proofs.Common.{◌≡◌, false, sym, ap, subst, ◌∙◌}
use Rattle.ext_model.specs.CellWords.{number_code}
use Rattle.ext_cells.specs.declared.decision.Decision.TheVariants.{Change}
use Rattle.ext_cells.specs.InnerDeciding.{state_of, is_settled, stood_in, Decides}
use Rattle.ext_cells.proofs.Decisions.{changes, refuses, seals_nothing, seals_value}
use Rattle.ext_cells.proofs.decision.decide.Goals as goal

pub returns-in-Ok : goal.returns-in-Ok
returns-in-Ok c stands version is =
    let p = c.parts-state.ensures.only (state_of stands) (number_code stands) version is.fits is.is in
    let idle : is_settled c.args.act (state_of stands) ≡ false = ap (λ z. is_settled c.args.act z.0) (sym p) ∙ sym c.is_settled.ensures ∙ c.if-is_settled.false in
    let number : c.of-stood.result ≡ stood_in (state_of stands) (number_code stands) = c.of-stood.ensures ∙ ap (λ z. stood_in z.0 z.1) p in
    subst (λ k. Decides c.args.act stands version (Change c.in-Ok.next k)) (sym number)
    (changes c.args.act stands version c.in-Ok.next c.requires.act idle is.numbered (sym (c.after.ensures (state_of stands) (number_code stands) version is.fits is.is) ∙ c.in-Ok.is))

pub returns-in-Err : goal.returns-in-Err
returns-in-Err c stands version is =
    let p = c.parts-state.ensures.only (state_of stands) (number_code stands) version is.fits is.is in
    let idle : is_settled c.args.act (state_of stands) ≡ false = ap (λ z. is_settled c.args.act z.0) (sym p) ∙ sym c.is_settled.ensures ∙ c.if-is_settled.false in
    refuses c.args.act stands version c.in-Err.refusal c.requires.act idle (sym (c.after.ensures (state_of stands) (number_code stands) version is.fits is.is) ∙ c.in-Err.is)

pub returns-then-seals_nothing : goal.returns-then-seals_nothing
returns-then-seals_nothing c stands version is =
    let seals = c.seals_nothing.ensures c.if-seals_nothing.true in
    seals_nothing c.args.act stands version c.args.word seals.0 seals.1 is

pub returns-then-seals_value : goal.returns-then-seals_value
returns-then-seals_value c stands version is =
    let seals = c.seals_value.ensures c.if-seals_value.true in
    seals_value c.args.act stands version c.args.word c.number_in.result seals.0 seals.1 c.number_in.ensures is

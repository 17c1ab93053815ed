use Rattle.std.proofs.Common.{◌<◌, ◌∙◌, sym, rules, length, true≢false}
use Rattle.std.specs.Cmp.Lexicographic.{bytes_decides}
use Rattle.ext_table.proofs.Naming.{found_text, none_yet, not_among}
use Rattle.ext_table.proofs.saying.known_index.Goals as goal

pub returns-then-eq-clause-index : goal.returns-then-eq-clause-index
returns-then-eq-clause-index c =
    let within : c.loop-index.index < length c.args.names.now = search rules in
    found_text c.args.names.now c.loop-index.index c.index-names-index.result c.args.name.now within c.index-names-index.is
    (sym c.as_str.ensures.value ∙ (bytes_decides c.as_str.result.now c.args.name.now).0 (sym c.eq.ensures ∙ c.if-eq.true))

pub loop-index-preserved : goal.loop-index-preserved
loop-index-preserved c =
    let within : c.loop-index.index < length c.args.names.now = search rules in
    none_yet c.args.names.now c.loop-index.index c.index-names-index.result c.args.name.now within c.index-names-index.is
    (λ same. true≢false (sym ((bytes_decides c.as_str.result.now c.args.name.now).1 (c.as_str.ensures.value ∙ same)) ∙ sym c.eq.ensures ∙ c.if-eq.false)) c.loop-index.invariant

pub returns-clause-none : goal.returns-clause-none
returns-clause-none c = λ _. not_among c.args.names.now c.loop-index.index c.args.name.now (search rules) c.loop-index.invariant

use Rattle.std.proofs.Common.{◌≡◌, ◌≢◌, ◌∙◌, ◌+◌, ◌-◌, ◌<◌, ◌≤◌, ◌%◌, arith, ap, length, sym, true≢false, Some}
use Rattle.ext_tree.specs.Keys.{key_at}
use Rattle.ext_tree.specs.InnerIndexing.{IsHint}
use Rattle.ext_tree.proofs.Equalities.{keys_Decides}
use Rattle.ext_tree.proofs.KeyIndexing.{finds_here, hint_is, hint_known, hint_number, met_here, passed_all, passed_at_free, passes_more, some_at}
use Rattle.ext_tree.proofs.key_index.KeyIndex.search.Goals as goal

pub known_key-requires-clause-known : goal.known_key-requires-clause-known
known_key-requires-clause-known c =
    let within : (c.first_slot-first.result + c.loop-step.step) % c.len.result < length c.args.self.now.hints.items = omega (arith, c.loop-step-test.true) in
    let is : IsHint c.args.entries.now c.index-hint.result.now = hint_is c.args.entries.now c.args.self.now.hints.items ((c.first_slot-first.result + c.loop-step.step) % c.len.result) c.index-hint.result.now c.requires.notes.right within c.index-hint.ensures in
    let (key, number) = hint_known c.args.entries.now c.index-hint.result.now is c.if-hint-eq0.false in
    some_at c.loop-step.entries key (c.index-hint.result.now - 1) (ap (λ l. key_at l (c.index-hint.result.now - 1)) c.loop-step.invariant.unchanged ∙ number.there)

pub returns-then-hint-eq0-clause-passed : goal.returns-then-hint-eq0-clause-passed
returns-then-hint-eq0-clause-passed c =
    let long : c.len.result ≡ length c.args.self.now.hints.items = omega arith in
    let below : c.loop-step.step < length c.args.self.now.hints.items = omega (arith, c.loop-step-test.true) in
    let met = met_here c.args.self.now.hints.items c.args.key.now c.first_slot-first.result c.loop-step.step c.len.result c.index-hint.result.now c.first_slot-first.ensures.slot long below c.index-hint.ensures in
    passed_at_free c.args.entries.now c.args.self.now.hints.items c.args.key.now c.loop-step.step c.loop-step.invariant.passes c.args.self.now.next c.requires.notes.indexed (met ∙ c.if-hint-eq0.true)

pub returns-then-eq-clause-number : goal.returns-then-eq-clause-number
returns-then-eq-clause-number c =
    let within : (c.first_slot-first.result + c.loop-step.step) % c.len.result < length c.args.self.now.hints.items = omega (arith, c.loop-step-test.true) in
    let is : IsHint c.args.entries.now c.index-hint.result.now = hint_is c.args.entries.now c.args.self.now.hints.items ((c.first_slot-first.result + c.loop-step.step) % c.len.result) c.index-hint.result.now c.requires.notes.right within c.index-hint.ensures in
    hint_number c.args.entries.now c.index-hint.result.now c.args.key.now is c.if-hint-eq0.false
    (ap (λ l. key_at l (c.index-hint.result.now - 1)) (sym c.loop-step.invariant.unchanged) ∙ (c.known_key.ensures.key ∙ ap (λ k. Some k) ((keys_Decides c.known_key.result.now c.args.key.now).0 (sym c.eq.ensures ∙ c.if-eq.true))))

pub returns-then-eq-clause-found : goal.returns-then-eq-clause-found
returns-then-eq-clause-found c =
    let long : c.len.result ≡ length c.args.self.now.hints.items = omega arith in
    let below : c.loop-step.step < length c.args.self.now.hints.items = omega (arith, c.loop-step-test.true) in
    let met = met_here c.args.self.now.hints.items c.args.key.now c.first_slot-first.result c.loop-step.step c.len.result c.index-hint.result.now c.first_slot-first.ensures.slot long below c.index-hint.ensures in
    finds_here c.args.entries.now c.args.self.now.hints.items c.args.key.now c.loop-step.step c.loop-step.invariant.passes c.index-hint.result.now below met c.if-hint-eq0.false
    (ap (λ l. key_at l (c.index-hint.result.now - 1)) (sym c.loop-step.invariant.unchanged) ∙ (c.known_key.ensures.key ∙ ap (λ k. Some k) ((keys_Decides c.known_key.result.now c.args.key.now).0 (sym c.eq.ensures ∙ c.if-eq.true))))

pub loop-step-preserved : goal.loop-step-preserved
loop-step-preserved c =
    let long : c.len.result ≡ length c.args.self.now.hints.items = omega arith in
    let below : c.loop-step.step < length c.args.self.now.hints.items = omega (arith, c.loop-step-test.true) in
    let met = met_here c.args.self.now.hints.items c.args.key.now c.first_slot-first.result c.loop-step.step c.len.result c.index-hint.result.now c.first_slot-first.ensures.slot long below c.index-hint.ensures in
    let differs : c.known_key.result.now ≢ c.args.key.now = λ same. true≢false (sym ((keys_Decides c.known_key.result.now c.args.key.now).1 same) ∙ (sym c.eq.ensures ∙ c.if-eq.false)) in
    record {
      unchanged = c.known_key.ensures.unchanged ∙ c.loop-step.invariant.unchanged;
      passes = passes_more c.args.entries.now c.args.self.now.hints.items c.args.key.now c.loop-step.step c.loop-step.invariant.passes c.index-hint.result.now c.known_key.result.now met c.if-hint-eq0.false
          (ap (λ l. key_at l (c.index-hint.result.now - 1)) (sym c.loop-step.invariant.unchanged) ∙ c.known_key.ensures.key) differs;
    }

pub returns-clause-passed : goal.returns-clause-passed
returns-clause-passed c =
    let all : length c.args.self.now.hints.items ≤ c.loop-step.step = omega (arith, c.loop-step-test.false) in
    passed_all c.args.entries.now c.args.self.now.hints.items c.args.key.now c.loop-step.step c.loop-step.invariant.passes c.args.self.now.next c.requires.notes.indexed all

use Rattle.std.proofs.Common.{◌∙◌, ◌-◌, ◌<◌, ◌%◌, arith, ap, length, sym, Some}
use Rattle.ext_tree.specs.InnerIndexing.{IsHint}
use Rattle.ext_tree.proofs.Equalities.{keys_Decides}
use Rattle.ext_tree.proofs.KeyIndexing.{hint_is, hint_known, hint_number, some_at}
use Rattle.ext_tree.proofs.key_index.KeyIndex.first.Goals as goal

pub known_key-requires-clause-known : goal.known_key-requires-clause-known
known_key-requires-clause-known c =
    let is : IsHint c.args.entries.now c.index-hint.result.now = hint_is c.args.entries.now c.args.self.now.hints.items c.first_slot.result c.index-hint.result.now c.requires.notes.right c.first_slot.ensures.within c.index-hint.ensures in
    let (key, number) = hint_known c.args.entries.now c.index-hint.result.now is c.if-hint-eq0.false in
    some_at c.args.entries.now key (c.index-hint.result.now - 1) number.there

pub returns-then-eq-clause-number : goal.returns-then-eq-clause-number
returns-then-eq-clause-number c =
    let is : IsHint c.args.entries.now c.index-hint.result.now = hint_is c.args.entries.now c.args.self.now.hints.items c.first_slot.result c.index-hint.result.now c.requires.notes.right c.first_slot.ensures.within c.index-hint.ensures in
    hint_number c.args.entries.now c.index-hint.result.now c.args.key.now is c.if-hint-eq0.false
    (c.known_key.ensures.key ∙ ap (λ k. Some k) ((keys_Decides c.known_key.result.now c.args.key.now).0 (sym c.eq.ensures ∙ c.if-eq.true)))

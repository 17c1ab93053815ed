use Rattle.std.proofs.Common.{◌≡◌, ◌+◌, set, subst, sym, Some}
use Rattle.ext_tree.specs.Keys.{PassedBefore, key_at}
use Rattle.ext_tree.specs.InnerIndexing.{AreNotes, Ends, Finds}
use Rattle.ext_tree.proofs.KeyIndexing.{next_found, next_hinted}
use Rattle.ext_tree.proofs.key_index.KeyIndex.add.Goals as goal

pub returns-in-Ok-clause-notes : goal.returns-in-Ok-clause-notes
returns-in-Ok-clause-notes c =
    let there : key_at c.args.entries.now c.args.self.now.next ≡ Some c.known_key-key.result.now = subst (λ n. key_at c.args.entries.now n ≡ Some c.known_key-key.result.now) c.if-number-self.false c.known_key-key.ensures.key in
    let found : Finds c.args.entries.now c.args.self.now.hints.items c.known_key-key.result.now c.in-Ok.field-0 = subst (λ l. Finds l c.args.self.now.hints.items c.known_key-key.result.now c.in-Ok.field-0) c.known_key-key.ensures.unchanged c.in-Ok.ensures.found in
    next_found c.args.entries.now c.args.self.now.hints.items c.args.self.now.next c.in-Ok.field-0 c.known_key-key.result.now c.requires.notes there found

pub returns-in-Err-Some-clause-notes : goal.returns-in-Err-Some-clause-notes
returns-in-Err-Some-clause-notes c =
    let there : key_at c.args.entries.now c.args.self.now.next ≡ Some c.known_key-key.result.now = subst (λ n. key_at c.args.entries.now n ≡ Some c.known_key-key.result.now) c.if-number-self.false c.known_key-key.ensures.key in
    let passed : PassedBefore c.args.entries.now c.known_key-key.result.now c.args.self.now.next = subst (λ l. PassedBefore l c.known_key-key.result.now c.args.self.now.next) c.known_key-key.ensures.unchanged c.in-Err-Some.ensures.passed in
    let ends : Ends c.args.self.now.hints.items c.known_key-key.result.now c.in-Err-Some.slot = rw c.in-Err-Some.field-0-is at c.in-Err-Some.ensures.free in
    subst (λ n. AreNotes c.args.entries.now (set c.args.self.now.hints.items c.in-Err-Some.slot (n + 1)) (c.args.self.now.next + 1)) (sym c.if-number-self.false)
    (next_hinted c.args.entries.now c.args.self.now.hints.items c.known_key-key.result.now c.in-Err-Some.slot c.args.self.now.next ends c.requires.notes there passed)

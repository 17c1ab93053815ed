-- What comparing a key with that of a place tells.
use Rattle.std.proofs.Common.{◌≡◌, Bool, true, false, true≢false, Option, Some, ap, sym, ◌∙◌}
use Rattle.ext_tree.specs.Keys.{KeyValue, Tells}
use Rattle.ext_tree.specs.Traits.{key_eq}
use Rattle.ext_tree.proofs.Equalities.{keys_Decides}

pub tells : (held : Option KeyValue) (found key : KeyValue) (answer : Bool) → held ≡ Some found → answer ≡ key_eq found key → Tells held key answer
tells held found key true is e = is ∙ ap (λ k. Some k) ((keys_Decides found key).0 (sym e))
tells held found key false is e = (found, is, λ same. true≢false (sym (e ∙ (keys_Decides found key).1 same)))

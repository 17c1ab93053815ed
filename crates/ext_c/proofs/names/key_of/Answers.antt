use Rattle.std.proofs.Common.{◌≡◌, List, Bor, ℕ, length, refl, subst}
use Rattle.ext_c.specs.Texts.{NamesNoKey}
use Rattle.ext_c.proofs.Cut.{none_named}
use Rattle.ext_c.proofs.names.key_of.Goals as goal

pub returns-in_default-clause-refused : goal.returns-in_default-clause-refused
returns-in_default-clause-refused c =
    NamesNoKey.no_text
    (none_named c.args.bytes.now c.args.lengths.now c.in_ok-texts.texts.items c.in_ok-texts.ensures.texts
    (subst (λ (l : List (Bor (List ℕ))). length l ≡ 0) c.deref.ensures.value c.in_default.ensures.cases))
    refl

use Rattle.std.proofs.Common.{◌≡◌, ◌++◌, ◌∙◌, ap, refl}
use Rattle.std.specs.List.{each_same}
use Rattle.ext_tree.proofs.namespace.Namespace.append.Goals as goal

pub returns-clause-value : goal.returns-clause-value
returns-clause-value c =
    let (copies, grown, same) = c.in_ok-extend_with_clones.ensures.items in
    let own : c.extend_with_clones.new.self.items ≡ c.args.self.now.parts = grown ∙ ap (λ xs. xs ++ copies) c.new-own.ensures.items ∙ each_same c.parts.result.now copies same ∙ c.parts.ensures in
    rw (c.in_ok-push_all.ensures, own, ← c.self.view_is) refl

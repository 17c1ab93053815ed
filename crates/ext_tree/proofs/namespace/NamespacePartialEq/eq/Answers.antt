use Rattle.std.proofs.Common.{◌≡◌, ◌∙◌, ap, sym, ◌&&◌, true}
use Rattle.std.specs.Bool.{beq}
use Rattle.std.specs.Cmp.Lexicographic.{pointwise}
use Rattle.std.specs.Str.{bytes_eq}
use Rattle.ext_tree.proofs.Equalities.{decides_by}
use Rattle.ext_tree.proofs.namespace.NamespacePartialEq.eq.Goals as goal

pub returns-then-self-other-clause-same : goal.returns-then-self-other-clause-same
returns-then-self-other-clause-same c =
    let created : beq c.args.self.now.created c.args.other.now.created ≡ true = rw (← c.self.view_is, ← c.other.view_is) c.if-self-other.true in
    let parts : c.same_parts.result ≡ pointwise bytes_eq c.args.self.now.parts c.args.other.now.parts = rw (c.parts.ensures, c.parts-then-self-other.ensures) at c.same_parts.ensures in
    decides_by c.args.self.now c.args.other.now c.same_parts.result
    (parts ∙ ap (λ b. b && pointwise bytes_eq c.args.self.now.parts c.args.other.now.parts) (sym created))

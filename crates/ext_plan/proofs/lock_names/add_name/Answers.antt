use Rattle.std.proofs.Common.{rules, ◌≡◌, List, ℕ, sym, true, false}
use Rattle.std.specs.Borrow.{Bor}
use Rattle.std.specs.List.{list_any}
use Rattle.std.specs.Str.{bytes_eq}
use Rattle.ext_plan.proofs.Names.{with-known, with-new}
use Rattle.ext_plan.proofs.lock_names.add_name.Goals as goal

pub returns-then-is_there : goal.returns-then-is_there
returns-then-is_there c =
    let there : list_any (λ (n : Bor (List ℕ)). bytes_eq c.args.name.now n.now) c.args.names.now.items ≡ true = search rules in
    sym (with-known c.args.names.now.items c.args.name.now there)

pub returns : goal.returns
returns c =
    let other : list_any (λ (n : Bor (List ℕ)). bytes_eq c.args.name.now n.now) c.args.names.now.items ≡ false = search rules in
    with-new c.args.names.now.items c.push.new.self.items c.args.name other (search rules)

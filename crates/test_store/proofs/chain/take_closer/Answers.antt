use Rattle.std.proofs.Common.{◌+◌, ◌++◌, take, drop}
use Rattle.std.proofs.lemmas.List.Elements.{All-append, All-drop, All-same, All-take}
use Rattle.ext_store.specs.Stores.{IsCloserOf}
use Rattle.test_store.proofs.chain.take_closer.Goals as goal

pub returns-clause-others : goal.returns-clause-others
returns-clause-others g c =
    let own = IsCloserOf c.args.store.now in
    let before = c.args.closers.now.items in
    let at = c.in-Some.at in
    All-same own c.remove.new.self.items (take at before ++ drop (at + 1) before) c.remove.ensures.by_index.2
    (All-append own (take at before) (drop (at + 1) before) (All-take own at before c.requires) (All-drop own (at + 1) before c.requires))

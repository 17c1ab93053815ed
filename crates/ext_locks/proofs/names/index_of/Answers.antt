use Rattle.std.proofs.Common.{rules}
use Rattle.std.proofs.lemmas.Fn.{always_returns_same}
use Rattle.ext_locks.proofs.Texts.{against, searched, found_some, found_none}
use Rattle.ext_locks.proofs.names.index_of.Goals as goal

pub returns-clause-found : goal.returns-clause-found
returns-clause-found c = found_some _ _ _ _ c.ok.ensures.value (searched c.args.names.now c.args.name.now c.binary_search_by.result c.requires c.binary_search_by.ensures.bound (c.binary_search_by.ensures.position (against c.args.name.now) (always_returns_same _ _ _ (λ a r q k. search rules))))

pub returns-clause-absent : goal.returns-clause-absent
returns-clause-absent c = found_none _ _ _ _ c.ok.ensures.value (searched c.args.names.now c.args.name.now c.binary_search_by.result c.requires c.binary_search_by.ensures.bound (c.binary_search_by.ensures.position (against c.args.name.now) (always_returns_same _ _ _ (λ a r q k. search rules))))

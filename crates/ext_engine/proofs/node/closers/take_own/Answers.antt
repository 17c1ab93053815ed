use Rattle.std.proofs.Common.{◌≡◌, ◌≢◌, ◌<◌, length, sym, subst}
use Rattle.std.specs.Prelude.{All, Contains, slice_index_or}
use Rattle.ext_store.specs.Stores.{CloserView}
use Rattle.ext_engine.specs.InnerClosers.{contexts}
use Rattle.ext_engine.proofs.Contexts.{not-among, kept-but}
use Rattle.ext_engine.proofs.Within.{within-self}
use Rattle.ext_engine.proofs.node.closers.take_own.Goals as goal

pub unreachable-requires : goal.unreachable-requires
unreachable-requires g c =
    not-among c.args.node c.args.closers.now.items (subst (λ l. All (λ (x : CloserView). x.context ≢ c.args.node) l) c.as_slice.ensures.value c.in_default.ensures.none)
    (c.requires.closers.each c.args.node c.requires.node (within-self c.args.store.now.tree c.args.node))

pub returns-clause-closers : goal.returns-clause-closers
returns-clause-closers g c = record {
  each = λ k less within differs. subst (λ l. Contains (contexts l) k) (sym c.remove.ensures.items)
      (kept-but c.args.closers.now.items c.in-Some.at k c.args.node (subst (λ l. c.in-Some.at < length l) c.as_slice.ensures.value c.in-Some.ensures.within)
      (subst (λ l. (d : CloserView) → (slice_index_or l c.in-Some.at d).context ≡ c.args.node) c.as_slice.ensures.value c.in-Some.ensures.at) differs (c.requires.closers.each k less within));
}

use Rattle.std.proofs.Common.{◌≡◌, ◌≢◌, ◌<◌, ◌+◌, ◌++◌, ◌∙◌, All, length, get_or, take, drop, ap, subst}
use Rattle.std.proofs.lemmas.List.Elements.{All-append, All-drop, All-same, All-take}
use Rattle.ext_store.specs.Stores.{CloserView, IsCloserOf}
use Rattle.ext_engine.proofs.Between.{split_at}
use Rattle.ext_engine.proofs.taken.take_closer.Goals as goal

pub returns-clause-others : goal.returns-clause-others
returns-clause-others g c =
    let own = IsCloserOf c.args.store.now in
    let before = c.args.closers.now.items in
    let at = c.in_ok-at.at in
    All-same own c.remove.new.self.items (take at before ++ drop (at + 1) before) c.remove.ensures.by_index.2
    (All-append own (take at before) (drop (at + 1) before) (All-take own at before c.requires) (All-drop own (at + 1) before c.requires))

pub returns-clause-taken : goal.returns-clause-taken
returns-clause-taken g c =
    let before = c.args.closers.now.items in
    let at = c.in_ok-at.at in
    let closer = c.remove.result in
    let same = c.as_slice.ensures.value in
    let place : (get_or before at closer).context ≡ c.args.context = subst (λ l. (get_or l at closer).context ≡ c.args.context) same (c.in_ok-at.ensures.at closer) in
    record {
      context_is = ap (λ (x : CloserView). x.context) c.remove.ensures.value ∙ place;
      front = take at before;
      rest = drop (at + 1) before;
      stood = split_at before at closer (subst (λ l. at < length l) same c.in_ok-at.ensures.within) c.remove.ensures.value;
      left = c.remove.ensures.by_index.2;
      first = subst (λ l. All (λ (x : CloserView). x.context ≢ c.args.context) (take at l)) same c.in_ok-at.ensures.first;
    }

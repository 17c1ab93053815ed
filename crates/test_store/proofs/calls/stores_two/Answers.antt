use Rattle.test_store.proofs.calls.stores_two.Goals as goal

pub put-requires-clause-kept : goal.put-requires-clause-kept
put-requires-clause-kept g c = c.show.ensures.kept c.in-Ok-keep.other (c.get.ensures.stays.kept c.in-Ok-keep.other c.in-Ok-keep.ensures.answer.kept)

pub put-requires-2-clause-kept : goal.put-requires-2-clause-kept
put-requires-2-clause-kept g c =
    let kept = c.in-Ok.ensures.answer.kept in
    c.in-Ok-put.ensures.stays.kept c.in-Ok.one (c.in-Ok-keep.ensures.apart c.in-Ok.one kept) (c.show.ensures.kept c.in-Ok.one (c.get.ensures.stays.kept c.in-Ok.one (c.in-Ok-keep.ensures.kept c.in-Ok.one kept)))

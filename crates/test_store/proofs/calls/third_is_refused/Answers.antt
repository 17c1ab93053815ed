use Rattle.test_store.proofs.calls.third_is_refused.Goals as goal

pub put-requires-clause-kept : goal.put-requires-clause-kept
put-requires-clause-kept c = c.in-Some-NumbersFull.ensures.still c.in-Some.x (c.in-Some-keep_as.ensures.still c.in-Some.x c.in-Some.ensures.kept)

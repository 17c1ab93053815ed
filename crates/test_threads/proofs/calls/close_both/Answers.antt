use Rattle.std.proofs.Common.{◌≡◌, List, [], ◌∷◌, length, get_or, arith}
use Rattle.std.specs.List.{AllZip}
use Rattle.ext_store.specs.Stores.{StoreLane, StillKeeps}
use Rattle.test_threads.proofs.calls.close_both.Goals as goal

second_keeps : {V : Type 0} (before after : List (StoreLane V)) (d : StoreLane V) → length before ≡ 2 → AllZip StillKeeps before after → StillKeeps (get_or before 1 d) (get_or after 1 d)
second_keeps [] after d two all = absurd (omega (arith, two))
second_keeps (a ∷ []) after d two all = absurd (omega (arith, two))
second_keeps (a ∷ b ∷ more) (x ∷ y ∷ others) d two all = all.1.0
second_keeps (a ∷ b ∷ more) (x ∷ []) d two all = absurd all.1
second_keeps (a ∷ b ∷ more) [] d two all = absurd all

pub returns-clause-kept : goal.returns-clause-kept
returns-clause-kept g c d = second_keeps _ _ d c.requires.two c.close.ensures.kept

use Rattle.std.proofs.Common.{arith, subst, string_bytes}
use Rattle.std.proofs.lemmas.List.{length-map}
use Rattle.ext_locks.specs.Opening.{AreLocks}
use Rattle.ext_locks.proofs.Texts.{sorted_texts}
use Rattle.ext_locks.proofs.locks.Locks.tell_proof.Goals as goal

pub returns : goal.returns
returns c =
    let kept = c.self.invariant in
    subst AreLocks c.self.view_is
    (record {
      limits = kept.5;
      few = (let size = length-map c.self.inside.names.items string_bytes in let most = kept.2 in omega arith);
      different = kept.4;
      sorted = sorted_texts c.self.inside.names.items kept.3;
    })

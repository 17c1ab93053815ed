use Rattle.std.proofs.Common.{◌≡◌, ◌+◌, ◌∙◌, ℕ, List, [], length, get_or, take, sym, subst, ap, arith}
use Rattle.std.specs.Prelude.{slice_index_or}
use Rattle.std.specs.Borrow.{Bor}
use Rattle.std.proofs.lemmas.List.{get_or-map, length-map, length_push}
use Rattle.ext_ids.specs.Reading.{read_id}
use Rattle.ext_locks.specs.Names.{texts_of}
use Rattle.ext_engine.specs.Opening.{AreRead}
use Rattle.ext_engine.proofs.Read.{read_more}
use Rattle.ext_engine.proofs.opening.read_ids.Goals as goal

pub loop-at-preserved : goal.loop-at-preserved
loop-at-preserved c =
    let texts = c.args.texts.now in
    let at = c.loop-at.at in
    let bytes : Bor (List ℕ) → List ℕ = λ t. t.now in
    let none : Bor (List ℕ) = record { ref_ptr = (0, 0); now = [] } in
    let same : slice_index_or (texts_of texts) at [] ≡ (get_or texts at none).now = get_or-map bytes texts at none [] c.loop-at-test.true in
    let count : length (texts_of texts) ≡ length texts = length-map texts bytes in
    let less = c.loop-at-test.true in
    record {
      read = subst (λ l. AreRead (take (at + 1) (texts_of texts)) l) (sym c.in-Ok-push.ensures.items)
          (read_more (texts_of texts) at c.loop-at.ids.items c.in-Ok.id (omega (arith, count, less)) c.loop-at.invariant.read (ap (λ t. read_id t) same ∙ c.in-Ok.ensures.exact));
      count = ap length c.in-Ok-push.ensures.items ∙ (length_push c.loop-at.ids.items c.in-Ok.id ∙ ap (λ n. n + 1) c.loop-at.invariant.count);
    }

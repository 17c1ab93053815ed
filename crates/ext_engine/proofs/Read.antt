-- One more text that is read as an id.
use Rattle.std.proofs.Common.{◌≡◌, ◌+◌, ◌<◌, ◌∙◌, ℕ, List, [], ◌∷◌, ◌++◌, length, map, sym, ap, take}
use Rattle.std.specs.Prelude.{Ok, Result, slice_index_or}
use Rattle.std.proofs.lemmas.List.{map_push, take_more}
use Rattle.ext_ids.specs.Reading.{read_id}
use Rattle.ext_ids.specs.declared.fault.IdFault.{IdFault}
use Rattle.ext_tree.specs.Trees.{Id}
use Rattle.ext_engine.specs.Opening.{AreRead}

pub read_more : (texts : List (List ℕ)) (at : ℕ) (ids : List Id) (id : Id) → at < length texts → AreRead (take at texts) ids → read_id (slice_index_or texts at []) ≡ Ok id
    → AreRead (take (at + 1) texts) (ids ++ id ∷ [])
read_more texts at ids id within are is =
    let reading : List ℕ → Result Id IdFault = λ text. read_id text in
    let accepted : Id → Result Id IdFault = λ id. Ok id in
    let text = slice_index_or texts at [] in
    ap (λ l. map reading l) (take_more texts at [] within)
    ∙ (map_push reading (take at texts) text
    ∙ (ap (λ l. l ++ reading text ∷ []) are
    ∙ (ap (λ r. map accepted ids ++ r ∷ []) is
    ∙ sym (map_push accepted ids id))))

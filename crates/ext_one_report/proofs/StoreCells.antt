-- A cell of a store tells its context and the number of its key.
use Rattle.std.proofs.Common.{◌≡◌, ◌<◌, ◌/◌, ◌%◌, ℕ, length, ap, sym, ◌∙◌}
use Rattle.std.proofs.lemmas.Nat.{div-mul-add, mod-mul-add}
use Rattle.ext_store.specs.Stores.{StoreView, cell_in}

pub cell_apart : (store : StoreView) (a b m n : ℕ) → m < length store.id.keys → n < length store.id.keys → cell_in store m a ≡ cell_in store n b → (a ≡ b) × (m ≡ n)
cell_apart store a b m n less few same =
    let count = length store.id.keys in (
      sym (div-mul-add a count m less) ∙ (ap (λ k. k / count) same ∙ div-mul-add b count n few),
      sym (mod-mul-add a count m less) ∙ (ap (λ k. k % count) same ∙ mod-mul-add b count n few),
    )

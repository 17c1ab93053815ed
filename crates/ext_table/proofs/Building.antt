-- The element at an index, and what is said of the last row.
use Rattle.std.proofs.Common.{◌≡◌, ℕ, ◌-◌, ◌<◌, List, length, get_or, ap, subst, sym, ◌∙◌, arith}
use Rattle.std.specs.Prelude.{Some, slice_get, slice_set}
use Rattle.std.proofs.lemmas.Option.{get_or_from_slice_get, slice_get-get_or}
use Rattle.ext_table.specs.Building.{ChangesLast}
use Rattle.ext_table.specs.declared.row.Row.{Row}

pub held_at : {A : Type 0} (items : List A) (index : ℕ) (item : A) → index < length items → item ≡ get_or items index item → slice_get items index ≡ Some item
held_at items index item within is = slice_get-get_or items index item within ∙ ap Some (sym is)

pub changed_last : {T : Type 0} (Changes : Row T → Row T → Type 0) (rows : List (Row T)) (count : ℕ) (row changed : Row T) → count ≡ length rows → 0 < count → row ≡ get_or rows (count - 1) row → Changes row changed
    → ChangesLast Changes rows (slice_set rows (count - 1) changed)
changed_last Changes rows count row changed long some at one = record {
  none = λ empty. absurd (omega (arith, ap length empty, long, some));
  last = λ other there.
      let same : row ≡ other = at ∙ ap (λ n. get_or rows (n - 1) row) long ∙ get_or_from_slice_get rows (length rows - 1) other row there in
      (changed, subst (λ r. Changes r changed) same one, ap (λ n. slice_set rows (n - 1) changed) long);
}
